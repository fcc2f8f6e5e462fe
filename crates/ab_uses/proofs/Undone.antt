-- What comes of a choice stays, once what was bound is undone.
use Rattle.std.proofs.Common.{◌≡◌, ℕ, ◌<◌, List, [], ◌∷◌, map, length, Result, Ok, IfOk, refl, sym, ◌∙◌, ap, subst}
use Rattle.std.proofs.lemmas.List.Elements.{All-weaker}
use Rattle.ab_term.specs.Terms.{Nominal}
use Rattle.ab_norm.specs.ab_types.specs.Entries.{Table}
use Rattle.ab_norm.specs.ab_store.specs.declared.node.Node.{Node}
use Rattle.ab_norm.specs.ab_store.specs.declared.node.TermId.{TermId}
use Rattle.ab_norm.specs.ab_store.specs.Trees.{Contents, Holds, tree_of}
use Rattle.ab_unifiers.specs.Replacements.{Cell}
use Rattle.ab_alternatives.specs.ab_instances.proofs.Bound.{same_tree}
use Rattle.ab_theory.specs.UseAnswers.{Using}
use Rattle.ab_term.specs.Types.{prop}
use Rattle.ab_term.specs.Typing.{HasType}
use Rattle.ab_norm.specs.ab_types.specs.Entries.{signature}
use Rattle.ab_consequences.specs.Leading.{instance_by}
use Rattle.ab_uses.specs.StageReadings.{stage_by}
use Rattle.ab_uses.specs.UseCells.{StageIsTyped, stages_read}
use Rattle.ab_uses.specs.declared.stage.Stage.{Stage}
use Rattle.ab_uses.specs.declared.stage.Stage.TheVariants as stage
use Rattle.ab_uses.specs.ChoiceAnswers.{ComesOut}
use Rattle.ab_uses.specs.declared.outcome.Outcome.{Outcome}
use Rattle.ab_uses.specs.declared.outcome.Outcome.TheVariants.{PassedOver, Apart, Stuck, Open, Used}

pub at_outcome : {E : Type 0} (r : Result Outcome E) (o : Outcome) (P : Outcome → Type 0) → r ≡ Ok o → IfOk r P → P o
at_outcome r o P e p = subst (λ q. IfOk q P) e p

module _ (T : Table) (S X : Contents) (nodes : X.nodes ≡ S.nodes) (cells : X.cells ≡ S.cells) where
  held_still : (t : TermId) → Holds S t → Holds X t
  held_still t h = subst (λ (ns : List Node). t.0 < length ns) (sym nodes) h

  stage_still : (s : Stage) → StageIsTyped T S s → StageIsTyped T X s
  stage_still (stage.Instance t) h = (h.0, (held_still t h.1.0, subst (λ u. HasType (signature T) [] u h.0) (sym (same_tree T S X nodes cells t)) h.1.1))
  stage_still (stage.Chosen a F) h = (h.0, (held_still F h.1.0, subst (λ u. HasType (signature T) [] u prop) (sym (same_tree T S X nodes cells F)) h.1.1))
  stage_still stage.Antecedent h = tt

  one_still : (s : Stage) → stage_by T (tree_of T X) s ≡ stage_by T (tree_of T S) s
  one_still (stage.Instance t) = ap instance_by (same_tree T S X nodes cells t)
  one_still (stage.Chosen a F) = refl
  one_still stage.Antecedent = refl

  stages_still : (ss : List Stage) → stages_read T X ss ≡ stages_read T S ss
  stages_still [] = refl
  stages_still (s ∷ ss) = ap (λ r. r ∷ stages_read T X ss) (one_still s) ∙ ap (λ l. stage_by T (tree_of T S) s ∷ l) (stages_still ss)

  trees_still : (ts : List TermId) → map (tree_of T X) ts ≡ map (tree_of T S) ts
  trees_still [] = refl
  trees_still (t ∷ ts) = ap (λ r. r ∷ map (tree_of T X) ts) (same_tree T S X nodes cells t) ∙ ap (λ l. tree_of T S t ∷ l) (trees_still ts)

  pub comes_out_still : (before : List (Cell (List ℕ))) (u : Using) (names : List Nominal) (o : Outcome) → ComesOut before u names T S o → ComesOut before u names T X o
  comes_out_still before u names PassedOver c = c
  comes_out_still before u names Apart c = c
  comes_out_still before u names (Stuck i) c = c
  comes_out_still before u names (Open x) c = c
  comes_out_still before u names (Used found) c = (
    c.0,
    All-weaker (StageIsTyped T S) (StageIsTyped T X) stage_still found.stages.items c.1,
    All-weaker (Holds S) (Holds X) held_still found.awaited.items c.2,
    held_still found.result c.3,
    (c.4.0, c.4.1, trees_still found.awaited.items ∙ c.4.2, same_tree T S X nodes cells found.result ∙ c.4.3, (c.4.4.0, c.4.4.1, stages_still found.stages.items ∙ c.4.4.2)),
  )
