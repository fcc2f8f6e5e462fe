-- A formula that may be used is a question that may be asked.
use Rattle.std.specs.List.{All}
use Rattle.std.specs.Option.{option_map}
use Rattle.std.specs.Prelude.{is_some}
use Rattle.std.proofs.Common.{◌≡◌, ◌≤◌, ℕ, List, [], ◌∷◌, ◌++◌, map, length, true, Option, Some, None, refl, sym, ◌∙◌, ap, subst, arith}
use Rattle.std.proofs.lemmas.List.{length-map}
use Rattle.std.proofs.lemmas.List.Elements.{All-head, All-tail, All-nil, All-cons, All-weaker}
use Rattle.ab_term.specs.Types.{Ty, prop}
use Rattle.ab_term.specs.Typing.{Signature, HasType}
use Rattle.ab_norm.specs.ab_types.specs.Entries.{signature}
use Rattle.ab_norm.specs.ab_store.specs.declared.node.TermId.{TermId}
use Rattle.ab_term.specs.Terms.{Read}
use Rattle.ab_norm.specs.ab_store.specs.Trees.{tree_of}
use Rattle.ab_norm.specs.Nominals.{HoldsNominal}
use Rattle.ab_unifiers.specs.Choices.{in_order}
use Rattle.ab_alternatives.specs.ab_instances.specs.ListReadings.{names_read}
use Rattle.ab_formulas.specs.Declarations.{Declarations, signature_in}
use Rattle.ab_formulas.specs.Sequents.{Sequent, goal_names, Fits}
use Rattle.ab_logic.specs.Worlds.{IsWorld, Holds, read, declarations_of}
use Rattle.ab_logic.specs.SequentReadings.{sequent_of}
use Rattle.ab_logic.specs.declared.world.World.{World}
use Rattle.ab_logic.specs.declared.sequent.Sequent.{Sequent as Kept}
use Rattle.ab_logic.proofs.Growing.{same_constants}
use Rattle.ab_uses.specs.GivenReadings.{given_of, HoldsIfAny}
use Rattle.ab_uses.specs.declared.given_terms.GivenTerm.{GivenTerm}
use Rattle.ab_theory.specs.Pieces as plain
use Rattle.ab_theory.specs.Pieces.{Given, pieces, parts}
use Rattle.ab_theory.specs.Uses.{given_constants}
use Rattle.ab_uses.specs.UseCells.{HoldsPart, parts_read, HasParts}
use Rattle.ab_consequences.specs.UsesFollow.{antecedents_among}
use Rattle.ab_consequences.proofs.Begun.{begun}
use Rattle.ab_uses.specs.UseSolutions.{IsFormulaTerm, IsFormulaTermIfAny, aim_in}
use Rattle.ab_uses.specs.Questions.{IsPosed, using_at}
use Rattle.ab_uses.specs.UseReadings.{aim_of, using_of, IsOfGoalIfAny, MayBeUsed}
use Rattle.ab_uses.specs.declared.aim.Aim.{Aim}
use Rattle.ab_uses.specs.declared.question.Question.{Question}
use Rattle.ab_uses.proofs.Known.{known_within}

given_some : {A B : Type 0} (f : A → B) (o : Option A) → is_some o ≡ true → is_some (option_map f o) ≡ true
given_some f None e = absurd (cc)
given_some f (Some x) e = refl

module _ (w : World) (is : IsWorld w) (g : Kept) where
  abbrev D : Declarations
  D = declarations_of w

  abbrev s : Sequent
  s = sequent_of w g

  typed_here : (t : Read) (A : Ty) → HasType (signature_in D) [] t A → HasType (signature w.types) [] t A
  typed_here t A h = subst (λ (sg : Signature). HasType sg [] t A) (sym (same_constants w is)) h

  any_formula : (o : Option TermId) → HoldsIfAny w o → IsOfGoalIfAny D s (option_map (read w) o) → IsFormulaTermIfAny w.types w.store o
  any_formula None h f = tt
  any_formula (Some t) h f = (h, typed_here (read w t) prop f.formula.typed)

  all_formulas : (os : List (Option TermId)) → All (HoldsIfAny w) os → All (IsOfGoalIfAny D s) (map (option_map (read w)) os) → All (IsFormulaTermIfAny w.types w.store) os
  all_formulas [] h f = All-nil (IsFormulaTermIfAny w.types w.store)
  all_formulas (o ∷ os) h f =
      All-cons (IsFormulaTermIfAny w.types w.store) o os
      (any_formula o (All-head (HoldsIfAny w) o os h) (All-head (IsOfGoalIfAny D s) (option_map (read w) o) (map (option_map (read w)) os) f))
      (all_formulas os (All-tail (HoldsIfAny w) o os h) (All-tail (IsOfGoalIfAny D s) (option_map (read w) o) (map (option_map (read w)) os) f))

  module _ (F : TermId) (n : ℕ) (gs : List GivenTerm) (aim : Aim) (q : Question) (formula : q.formula ≡ F)
      (parts_are : parts_read w.types w.store q.parts.items ≡ parts (map (given_of w) gs) (pieces n (read w F))) where
    pub same_use : using_at w (sequent_of w g) q aim ≡ using_of w g F n gs aim
    same_use =
        ap (λ (ps : List plain.Part). record { goal = s; parts = ps; aim = aim_in w.types w.store aim; formula = tree_of w.types w.store q.formula }) parts_are
        ∙ ap (λ t. record { goal = s; parts = parts (map (given_of w) gs) (pieces n (read w F)); aim = aim_in w.types w.store aim; formula = tree_of w.types w.store t }) formula

    pub known_so : names_read w.types q.known.items ≡ in_order (goal_names (sequent_of w g)) ++ in_order (given_constants (parts (map (given_of w) gs) (pieces n (read w F))))
        → names_read w.types q.known.items ≡ in_order (goal_names (sequent_of w g)) ++ in_order (given_constants (parts_read w.types w.store q.parts.items))
    known_so e = e ∙ ap (λ (ps : List plain.Part). in_order (goal_names s) ++ in_order (given_constants ps)) (sym parts_are)

    module _ (held : Holds w F) (usable : MayBeUsed (declarations_of w) (sequent_of w g) (read w F) n (map (given_of w) gs) (aim_of w aim)) where
      typed : HasType (signature w.types) [] (read w F) prop
      typed = typed_here (read w F) prop usable.formula.formula.typed

      front : HasParts (signature w.types) (parts (map (given_of w) gs) (pieces n (read w F))) (read w F)
      front = begun (signature w.types) [] (map (given_of w) gs) n (read w F) typed
          (All-weaker (λ (k : Given). Fits D s k.value k.type) (λ (k : Given). HasType (signature w.types) [] k.value k.type) (λ k f. typed_here k.value k.type f.typed) (map (given_of w) gs) usable.given)
          usable.names

      -- SO IT IS POSED
      pub posed : All (HoldsIfAny w) aim.hypotheses.items → HoldsIfAny w aim.conclusion → All (HoldsPart w.types w.store) q.parts.items → All (HoldsNominal w.types) q.held.items → All (HoldsNominal w.types) q.known.items
          → names_read w.types q.held.items ≡ in_order (goal_names (sequent_of w g))
          → names_read w.types q.known.items ≡ in_order (goal_names (sequent_of w g)) ++ in_order (given_constants (parts (map (given_of w) gs) (pieces n (read w F)))) → IsPosed w (sequent_of w g) q aim
      posed hypotheses conclusion parts_held names_held known names known_names = record {
        world = is;
        held = names_held;
        names = names;
        known = known;
        all_known = known_within (names_read w.types q.held.items) (names_read w.types q.known.items) (goal_names s) (given_constants (parts_read w.types w.store q.parts.items)) names (known_so known_names);
        parts = parts_held;
        formula = subst (IsFormulaTerm w.types w.store) (sym formula) (held, typed);
        front = subst (λ (t : TermId). HasParts (signature w.types) (parts_read w.types w.store q.parts.items) (tree_of w.types w.store t)) (sym formula)
            (subst (λ (ps : List plain.Part). HasParts (signature w.types) ps (read w F)) (sym parts_are) front);
        hypotheses = all_formulas aim.hypotheses.items hypotheses usable.hypotheses;
        conclusion = any_formula aim.conclusion conclusion usable.conclusion;
        enough =
            subst (λ (ps : List plain.Part). length aim.hypotheses.items ≤ antecedents_among ps) (sym parts_are)
            (let counted = length-map aim.hypotheses.items (option_map (read w)) in let few = usable.enough in omega (arith, counted, few));
        alone = λ e. usable.alone (given_some (read w) aim.conclusion e);
      }
