-- What is made of a rule's demand where nothing but a body is demanded, and the formula that a rule's part is of.
use Rattle.std.proofs.Common.{◌≡◌, [], ◌++◌, Option, Some, None, sym, ◌∙◌, ap, subst, append-nil}
use Rattle.std.specs.Prelude.{Contains, IfSome}
use Rattle.std.specs.List.{All}
use Rattle.std.specs.Option.{option_map}
use Rattle.std.proofs.lemmas.List.Elements.{All-nil}
use Rattle.ab_term.specs.Types.{o}
use Rattle.ab_term.specs.Terms.{Read}
use Rattle.ab_norm.specs.ab_types.specs.Entries.{Table}
use Rattle.ab_norm.specs.ab_store.specs.declared.node.TermId.{TermId}
use Rattle.ab_norm.specs.ab_store.specs.Naming.{IsTerm}
use Rattle.ab_unify.specs.Problem.{cells_read, variables_read}
use Rattle.ab_unify.specs.UnifyAnswers.{IsTypedPair}
use Rattle.ab_logic.specs.Worlds.{Holds, read}
use Rattle.ab_logic.specs.declared.world.World.{World}
use Rattle.ab_theory.specs.Parts as plain
use Rattle.ab_theory.specs.Parts.{parts_of}
use Rattle.ab_theory.specs.SpecRules.{body_alone}
use Rattle.ab_alternatives.specs.LeftAlternatives.{trees_from}
use Rattle.ab_alternatives.proofs.Assembled.{cells_same}
use Rattle.ab_judgement_forms.specs.PartReadings.{part_read}
use Rattle.ab_judgements.specs.DemandReadings.{IsTypedJudgement, IsRuleFor, IsDemanded}
use Rattle.ab_judgement_forms.specs.declared.focus_parts.Part.{Part as Kept}
use Rattle.ab_judgement_forms.specs.declared.judgements.Judgement.{Judgement}
use Rattle.ab_judgements.specs.declared.demands.Rule.TheVariants.{Part}
use Rattle.ab_judgements.specs.declared.demands.DemandTerm.{DemandTerm}

pub alone_made : (w v : World) → v.types ≡ w.types → v.store.cells ≡ w.store.cells → (made : DemandTerm) → made.own.items ≡ [] → made.equations.items ≡ []
    → (t : TermId) → made.body ≡ t → Holds v t → (B : Read) → read v t ≡ B → IsDemanded w (body_alone B) v made
alone_made w v same cells made own equations t body held B reads =
    let olds = cells_read w.types w.store in
    record {
      cells = cells_same v.types w.store v.store cells ∙ ap (λ (T : Table). cells_read T w.store) same ∙ sym (append-nil olds) ∙ sym (append-nil (olds ++ []));
      own = ap (variables_read v.types v.store) own;
      equations = ap (trees_from v.types v.store 0) equations;
      typed = subst (All (IsTypedPair v.types v.store)) (sym equations) (All-nil (IsTypedPair v.types v.store));
      held = subst (Holds v) (sym body) held;
      body = ap (read v) body ∙ reads;
    }

-- the formula in focus is the one

in_focus : (w : World) (p : plain.Part) (f : Option TermId) → IfSome f (λ F. IsTerm w.types w.store [] F o) → (F : Read) → option_map (read w) f ≡ Some F → Contains (parts_of F) p
    → (G : TermId) × IsTerm w.types w.store [] G o × Contains (parts_of (read w G)) p
in_focus w p None typed F is one = absurd cc
in_focus w p (Some G) typed F is one = let same : read w G ≡ F = cc in (G, typed, subst (λ (H : Read). Contains (parts_of H) p) (sym same) one)

pub part_of : (w : World) (j : Judgement) → IsTypedJudgement w j → (p : Kept) → IsRuleFor w j (Part p)
    → (G : TermId) × IsTerm w.types w.store [] G o × Contains (parts_of (read w G)) (part_read w.types w.store p)
part_of w j typed p fits = in_focus w (part_read w.types w.store p) j.focus typed.focus fits.1 fits.2 fits.3
