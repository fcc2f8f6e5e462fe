-- What is made so far stays, where a table and a store grow; and what each part makes of it.
use Rattle.std.proofs.Common.{◌≡◌, ℕ, List, [], ◌∷◌, ◌++◌, map, length, true, refl, sym, ◌∙◌, ap, subst, append-nil}
use Rattle.std.specs.List.{All}
use Rattle.std.proofs.lemmas.List.{map-append}
use Rattle.std.proofs.lemmas.List.Elements.{All-head, All-tail, All-push, All-weaker}
use Rattle.ab_term.specs.Types.{Ty, prop}
use Rattle.ab_term.specs.Terms as tree
use Rattle.ab_term.specs.Typing.{HasType}
use Rattle.ab_norm.specs.ab_types.specs.Entries.{Table, signature}
use Rattle.ab_norm.specs.ab_types.proofs.Entries.{type_still_held}
use Rattle.ab_norm.specs.ab_store.specs.declared.node.TermId.{TermId}
use Rattle.ab_term.specs.Terms.{Read}
use Rattle.ab_norm.specs.ab_store.specs.Trees.{Contents, Holds, tree_of}
use Rattle.ab_norm.specs.ab_store.specs.Naming.{IsTypedBy, IsTerm}
use Rattle.ab_norm.specs.NodeGrowth.{AddsTypedTerms}
use Rattle.ab_unify.specs.Problem.{cell_read, cells_read}
use Rattle.ab_unify.specs.StoreChanges.{Grows}
use Rattle.ab_unify.proofs.Growth.{grown_term, grows_terms}
use Rattle.ab_alternatives.specs.ab_instances.specs.ListReadings.{trees_at}
use Rattle.ab_theory.specs.Pieces.{given_term, constant_for, antecedent}
use Rattle.ab_theory.specs.Uses.{used, left_side, right_side}
use Rattle.ab_consequences.specs.Leading as leading
use Rattle.ab_consequences.specs.Leading.{instance_by, chosen}
use Rattle.ab_uses.specs.StageReadings.{stage_by}
use Rattle.ab_uses.specs.UseCells.{StageIsTyped, stages_read, HasParts, IsUnderWay, GoesOn}
use Rattle.ab_uses.proofs.Fronts.{sides_typed}
use Rattle.ab_uses.proofs.Parted.{type_stays}
use Rattle.ab_uses.specs.declared.made_uses.Made.{Made}
use Rattle.ab_uses.specs.declared.stage.Stage.{Stage}
use Rattle.ab_uses.specs.declared.stage.Stage.TheVariants.{Instance, Chosen, Antecedent}

module _ (T U : Table) (S V : Contents) (g : Grows T S U V) where
  pub formulas_on : (ts : List TermId) → All (λ t. IsTerm T S [] t prop) ts → All (λ t. IsTerm U V [] t prop) ts
  formulas_on ts all = All-weaker (λ t. IsTerm T S [] t prop) (λ t. IsTerm U V [] t prop) (λ t h. grown_term T U S V g [] t prop h) ts all

  pub stage_on : (s : Stage) → StageIsTyped T S s → StageIsTyped U V s
  stage_on (Instance t) h = (h.0, grown_term T U S V g [] t h.0 h.1)
  stage_on (Chosen a F) h = (type_still_held T U g.table a.ty h.0, grown_term T U S V g [] F prop h.1)
  stage_on Antecedent h = tt

  pub stages_on : (ss : List Stage) → All (StageIsTyped T S) ss → All (StageIsTyped U V) ss
  stages_on ss all = All-weaker (StageIsTyped T S) (StageIsTyped U V) (λ s h. stage_on s h) ss all

  stage_same : (s : Stage) → StageIsTyped T S s → stage_by U (tree_of U V) s ≡ stage_by T (tree_of T S) s
  stage_same (Instance t) h = ap instance_by (g.trees t h.1.0).1
  stage_same (Chosen a F) h = ap (λ A. chosen (record { number = a.number; type = A })) (type_stays T U g.table a.ty h.0)
  stage_same Antecedent h = refl

  -- stages stand for what they stood for
  pub stages_same : (ss : List Stage) → All (StageIsTyped T S) ss → stages_read U V ss ≡ stages_read T S ss
  stages_same [] all = refl
  stages_same (s ∷ ss) all =
      ap (λ p. p ∷ stages_read U V ss) (stage_same s (All-head (StageIsTyped T S) s ss all))
      ∙ ap (λ l. stage_by T (tree_of T S) s ∷ l) (stages_same ss (All-tail (StageIsTyped T S) s ss all))

  -- and one more is taken
  pub one_more_stage : (m : Made) (list : List Stage) (s : Stage) (p : leading.Stage) → All (StageIsTyped T S) m.stages.items → list ≡ m.stages.items ++ s ∷ [] → stage_by U (tree_of U V) s ≡ p
      → stages_read U V list ≡ stages_read T S m.stages.items ++ p ∷ []
  one_more_stage m list s p all push is =
      ap (stages_read U V) push
      ∙ map-append (stage_by U (tree_of U V)) m.stages.items (s ∷ [])
      ∙ ap (λ l. l ++ stage_by U (tree_of U V) s ∷ []) (stages_same m.stages.items all)
      ∙ ap (λ q. stages_read T S m.stages.items ++ q ∷ []) is

  pub trees_on : (ts : List TermId) → All (λ t. IsTerm T S [] t prop) ts → trees_at U V ts ≡ trees_at T S ts
  trees_on [] all = refl
  trees_on (t ∷ ts) all =
      ap (λ u. u ∷ trees_at U V ts) (g.trees t (All-head (λ t. IsTerm T S [] t prop) t ts all).0).1
      ∙ ap (λ l. tree_of T S t ∷ l) (trees_on ts (All-tail (λ t. IsTerm T S [] t prop) t ts all))

-- with another result and a stage more, where the antecedents are the same
pub under_way_on : (T U : Table) (S V : Contents) → Grows T S U V → (m n : Made) (s : Stage) → IsUnderWay T S m → n.antecedents.items ≡ m.antecedents.items → n.stages.items ≡ m.stages.items ++ s ∷ []
    → StageIsTyped U V s → Holds V n.result → HasType (signature U) [] (tree_of U V n.result) prop → IsUnderWay U V n
under_way_on T U S V g m n s way ants stages held there typed = record {
  formulas = subst (All (λ t. IsTerm U V [] t prop)) (sym ants) (formulas_on T U S V g m.antecedents.items way.formulas);
  formula = (there, typed);
  stages = subst (All (StageIsTyped U V)) (sym stages) (All-push (StageIsTyped U V) m.stages.items s (stages_on T U S V g m.stages.items way.stages) held);
}

-- the same, as it stands
pub under_way_still : (T U : Table) (S V : Contents) → Grows T S U V → (m n : Made) → IsUnderWay T S m → n.antecedents ≡ m.antecedents → n.result ≡ m.result → n.stages ≡ m.stages → IsUnderWay U V n
under_way_still T U S V g m n way ants result stages = record {
  formulas = subst (λ l. All (λ t. IsTerm U V [] t prop) l.items) (sym ants) (formulas_on T U S V g m.antecedents.items way.formulas);
  formula = subst (λ t. IsTerm U V [] t prop) (sym result) (grown_term T U S V g [] m.result prop way.formula);
  stages = subst (λ l. All (StageIsTyped U V) l.items) (sym stages) (stages_on T U S V g m.stages.items way.stages);
}

no_cell_more : (T : Table) (S V : Contents) → V.cells ≡ S.cells → cells_read T V ≡ cells_read T S ++ []
no_cell_more T S V e = ap (map (cell_read T)) e ∙ sym (append-nil (cells_read T S))

module _ (T : Table) (S V : Contents) (adds : AddsTypedTerms T S V) (m n : Made) (was : IsUnderWay T S m) (way : IsUnderWay T V n) (cells : n.cells ≡ m.cells) (ants : n.antecedents ≡ m.antecedents) where
  same_antecedents : trees_at T V n.antecedents.items ≡ trees_at T S m.antecedents.items ++ []
  same_antecedents = ap (λ l. trees_at T V l.items) ants ∙ trees_on T T S V (grows_terms T S V adds) m.antecedents.items was.formulas ∙ sym (append-nil (trees_at T S m.antecedents.items))

  pub given_goes : (held names : List tree.Nominal) (k : ℕ) (t : Read) (F : Read) → tree_of T V n.result ≡ (used held k (given_term t ∷ []) names F).result → GoesOn T S m (used held k (given_term t ∷ []) names F) T V n
  given_goes held names k t F e = record {
    outside = refl;
    all = no_cell_more T S V adds.cells;
    cells = ap (λ l. l.items) cells ∙ sym (append-nil m.cells.items);
    antecedents = same_antecedents;
    result = e;
    under_way = way;
  }

  pub constant_goes : (held names : List tree.Nominal) (k : ℕ) (A : Ty) (a : tree.Nominal) (F : Read) → (used held k (constant_for A ∷ []) (a ∷ names) F).outside ≡ true → tree_of T V n.result ≡ (used held k (constant_for A ∷ []) (a ∷ names) F).result
      → GoesOn T S m (used held k (constant_for A ∷ []) (a ∷ names) F) T V n
  constant_goes held names k A a F o e = record {
    outside = o;
    all = no_cell_more T S V adds.cells;
    cells = ap (λ l. l.items) cells ∙ sym (append-nil m.cells.items);
    antecedents = same_antecedents;
    result = e;
    under_way = way;
  }

-- an antecedent more
pub antecedent_goes : (T : Table) (S : Contents) (m n : Made) (left : TermId) → IsTypedBy T S → IsUnderWay T S m → HasParts (signature T) (antecedent ∷ []) (tree_of T S m.result) → n.cells ≡ m.cells
    → n.antecedents.items ≡ m.antecedents.items ++ left ∷ [] → n.stages.items ≡ m.stages.items ++ Antecedent ∷ [] → Holds S left → Holds S n.result
    → tree_of T S left ≡ left_side (tree_of T S m.result) → tree_of T S n.result ≡ right_side (tree_of T S m.result)
    → (held names : List tree.Nominal) → GoesOn T S m (used held (length S.cells) (antecedent ∷ []) names (tree_of T S m.result)) T S n
antecedent_goes T S m n left typed way front cells ants stages left_held right_held left_is right_is held names = record {
  outside = refl;
  all = sym (append-nil (cells_read T S));
  cells = ap (λ l. l.items) cells ∙ sym (append-nil m.cells.items);
  antecedents = ap (trees_at T S) ants ∙ map-append (tree_of T S) m.antecedents.items (left ∷ []) ∙ ap (λ t. trees_at T S m.antecedents.items ++ t ∷ []) left_is;
  result = right_is;
  under_way = record {
    formulas = subst (All (λ t. IsTerm T S [] t prop)) (sym ants) (All-push (λ t. IsTerm T S [] t prop) m.antecedents.items left way.formulas (left_held, subst (λ u. HasType (signature T) [] u prop) (sym left_is) sides.0));
    formula = (right_held, subst (λ u. HasType (signature T) [] u prop) (sym right_is) sides.1);
    stages = subst (All (StageIsTyped T S)) (sym stages) (All-push (StageIsTyped T S) m.stages.items Antecedent way.stages tt);
  };
}
  where
    sides : HasType (signature T) [] (left_side (tree_of T S m.result)) prop × HasType (signature T) [] (right_side (tree_of T S m.result)) prop
    sides = sides_typed (signature T) front way.formula.1
