-- What is asked of a formula that is used, and what was asked, in worlds that grow meanwhile.
use Rattle.std.specs.Prelude.{Option, Some, None, All, Contains}
use Rattle.std.specs.Prelude.{nat_lt, ◌||◌}
use Rattle.std.proofs.lemmas.Bool.{false≢true}
use Rattle.std.proofs.Common.{◌≡◌, ◌≤◌, inl, inr, Bool, ℕ, zero, suc, List, [], ◌∷◌, map, length, true, false, arith, refl, sym, ◌∙◌, ap, subst}
use Rattle.std.proofs.lemmas.List.Elements.{All-cons, All-nil, All-head, All-tail, All-weaker, All-contains}
use Rattle.ab_norm.specs.ab_types.specs.Entries as table
use Rattle.ab_norm.specs.ab_types.specs.Entries.{Table}
use Rattle.ab_norm.specs.ab_types.specs.Ids.{type_of, HoldsType}
use Rattle.ab_norm.specs.ab_types.specs.declared.ids.TypeId.{TypeId}
use Rattle.ab_norm.specs.ab_types.proofs.Entries.{same_type, type_still_held}
use Rattle.ab_term.specs.Variables.{variables}
use Rattle.ab_term.proofs.Lists.{Contains-none, All-from_contains}
use Rattle.ab_term.specs.Terms.{Read}
use Rattle.ab_norm.specs.ab_store.specs.declared.node.TermId.{TermId}
use Rattle.ab_grammar.specs.CommandTrees.{Argument, named, hole}
use Rattle.ab_formulas.specs.Declarations.{Declarations, signature_in, theorem_in, HaveSentences}
use Rattle.ab_formulas.specs.Formulas.{IsFormula}
use Rattle.ab_logic.specs.WorldGrowth.{Grows}
use Rattle.ab_logic.specs.SequentReadings.{sequent_of, HoldsSequent}
use Rattle.ab_formulas.specs.Sequents.{Sequent, IsSequent, HoldsOnly, Fits, formulas, formulas_of, formula_of, in_terms}
use Rattle.ab_logic.specs.Worlds.{Holds, read, declarations_of}
use Rattle.ab_logic.specs.declared.world.World.{World}
use Rattle.ab_logic.specs.declared.sequent.Sequent.{Sequent as Kept}
use Rattle.ab_logic.proofs.Growing.{map_same, same_sequent}
use Rattle.ab_theory.proofs.Sequents.{found_there}
use Rattle.ab_formulas.proofs.Members.{place_cases}
use Rattle.ab_theory.specs.Pieces.{Given, pieces, behind, type_named, antecedent_count, AllServe}
use Rattle.ab_consequences.specs.UsesFollow.{AreNone}
use Rattle.ab_consequences.proofs.Counted.{parts_count}
use Rattle.ab_theory.specs.Uses.{Aim}
use Rattle.ab_theory.specs.UseAnswers.{Using, IsUsedFor}
use Rattle.ab_uses.specs.GivenReadings.{given_of, HoldsIfAny}
use Rattle.ab_uses.specs.declared.given_terms.GivenTerm.{GivenTerm}
use Rattle.ab_uses.specs.UseReadings.{aim_of, using_of, IsOfGoal, IsOfGoalIfAny, MayBeUsed}
use Rattle.ab_uses.specs.declared.aim.Aim.{Aim as KeptAim}
use Rattle.ab_effects.specs.ProofCommands.{repeated, left_to_show}
use Rattle.ab_effects.specs.Row.{leads}
use Rattle.ab_effects.specs.FormulaUses.{formula_or, formula_named, formulas_in, using}
use Rattle.ab_hypothesis.specs.ab_steps.specs.ProofEffects.{RefusedBy}
use Rattle.ab_hypothesis.specs.ab_steps.specs.declared.fault.ProofCommandFault.{ProofCommandFault}

-- FORMULAS OF THE GOAL: its conclusion, its hypotheses, and each theorem
module _ (D : Declarations) (s : Sequent) (is : IsSequent D s) where
  pub of_conclusion : IsOfGoal D s s.conclusion
  of_conclusion = record {
    formula = All-head (IsFormula (signature_in D)) s.conclusion (formulas s.hypotheses) is.formulas;
    over = All-head (HoldsOnly s.variables) s.conclusion (formulas s.hypotheses) is.closed;
  }

  of_hypothesis : (H : List ℕ) (F : Read) → formula_of s H ≡ Some F → IsOfGoal D s F
  of_hypothesis H F e =
      let there : Contains (formulas s.hypotheses) F = found_there s.hypotheses H F e in
      record {
        formula = All-contains (IsFormula (signature_in D)) (formulas s.hypotheses) F (All-tail (IsFormula (signature_in D)) s.conclusion (formulas s.hypotheses) is.formulas) there;
        over = All-contains (HoldsOnly s.variables) (formulas s.hypotheses) F (All-tail (HoldsOnly s.variables) s.conclusion (formulas s.hypotheses) is.closed) there;
      }

  of_theorem : HaveSentences D → (H : List ℕ) (F : Read) → theorem_in D H ≡ Some F → IsOfGoal D s F
  of_theorem sentences H F e =
      let sentence = sentences H F e in
      record {
        formula = sentence.formula;
        over = All-from_contains (Contains (map in_terms s.variables)) (variables F) (λ v c. absurd (Contains-none v (subst (λ vs. Contains vs v) sentence.closed c)));
      }

  pub of_name : HaveSentences D → (H : List ℕ) (F : Read) → formula_named D s H ≡ Some F → IsOfGoal D s F
  of_name sentences H F e = go (formula_of s H) refl e
    where
      go : (o : Option Read) → formula_of s H ≡ o → formula_or o (theorem_in D H) ≡ Some F → IsOfGoal D s F
      go (Some G) found is = let one : G ≡ F = cc in subst (IsOfGoal D s) one (of_hypothesis H G found)
      go None found is = of_theorem sentences H F is

  of_hypothesis_if_any : (H : List ℕ) → IsOfGoalIfAny D s (formula_of s H)
  of_hypothesis_if_any H = go (formula_of s H) refl
    where
      go : (o : Option Read) → formula_of s H ≡ o → IsOfGoalIfAny D s o
      go (Some G) found = of_hypothesis H G found
      go None found = tt

  pub of_arguments : (vs : List Argument) → All (IsOfGoalIfAny D s) (formulas_in s vs)
  of_arguments [] = All-nil (IsOfGoalIfAny D s)
  of_arguments (named H ∷ vs) = All-cons (IsOfGoalIfAny D s) (formula_of s H) (formulas_in s vs) (of_hypothesis_if_any H) (of_arguments vs)
  of_arguments (hole ∷ vs) = All-cons (IsOfGoalIfAny D s) None (formulas_in s vs) tt (of_arguments vs)

  pub of_holes : (n : ℕ) → All (IsOfGoalIfAny D s) (repeated n)
  of_holes zero = All-nil (IsOfGoalIfAny D s)
  of_holes (suc n) = All-cons (IsOfGoalIfAny D s) None (repeated n) tt (of_holes n)

-- where there aren't too many arguments there are antecedents for them
pub few_enough : (b : Bool) (F : Read) (n m : ℕ) → m ≡ antecedent_count F → (b || nat_lt m n) ≡ false → n ≤ antecedent_count F
few_enough true F n m e fine = let clash : true ≡ false = fine in absurd (cc)
few_enough false F n m e fine = elim (place_cases m n) [
  | inl p ↦ absurd (false≢true (sym fine ∙ p.1))
  | inr p ↦ (let low = p.0 in omega (arith, e, low))
]

length_formulas : (s : Sequent) (vs : List Argument) → length (formulas_in s vs) ≡ length vs
length_formulas s [] = refl
length_formulas s (named H ∷ vs) = let rest = length_formulas s vs in omega (arith, rest)
length_formulas s (hole ∷ vs) = let rest = length_formulas s vs in omega (arith, rest)

length_holes : (n : ℕ) → length (repeated n) ≡ n
length_holes zero = refl
length_holes (suc n) = let rest = length_holes n in omega (arith, rest)

holes_none : (n : ℕ) → AreNone (repeated n)
holes_none zero = All-nil (λ (o : Option Read). o ≡ None)
holes_none (suc n) = All-cons (λ (o : Option Read). o ≡ None) None (repeated n) refl (holes_none n)

-- TERMS THAT ARE GIVEN, in a world that grew

abbrev pub IsGiven : World → GivenTerm → Type 0
IsGiven w g = Holds w g.value × HoldsType w.types g.ty

type_later : (s t : Table) (A : TypeId) → table.IsExtendedBy s t → HoldsType s A → type_of t A ≡ type_of s A
type_later s t A (more, is) held = ap (λ l. type_of l A) is ∙ same_type s more A held

module _ (w v : World) (grown : Grows w v) where
  given_later : (g : GivenTerm) → IsGiven w g → given_of v g ≡ given_of w g
  given_later g held =
      ap (λ A. record { name = g.name; type = A; value = read v g.value }) (type_later w.types v.types g.ty grown.types held.1)
      ∙ ap (λ t. record { name = g.name; type = type_of w.types g.ty; value = t }) (grown.readings g.value held.0)

  pub all_later : (gs : List GivenTerm) → All (IsGiven w) gs → map (given_of v) gs ≡ map (given_of w) gs
  all_later gs held = map_same (given_of v) (given_of w) (IsGiven w) given_later gs held

  pub still_given : (gs : List GivenTerm) → All (IsGiven w) gs → All (IsGiven v) gs
  still_given gs held = All-weaker (IsGiven w) (IsGiven v) (λ g h. (grown.ids g.value h.0, type_still_held w.types v.types grown.types g.ty h.1)) gs held

  pub formulas_later : (ts : List TermId) → All (Holds w) ts → map (read v) ts ≡ map (read w) ts
  formulas_later ts held = map_same (read v) (read w) (Holds w) grown.readings ts held

-- THE USE, as a later world reads what is asked of it
module _ (w m : World) (goal : Kept) (f : TermId) (grown : Grows w m) (declared : declarations_of m ≡ declarations_of w) (held : HoldsSequent w goal) (there : Holds w f) where
  same_goal : sequent_of m goal ≡ sequent_of w goal
  same_goal = same_sequent w m grown goal held

  same_formula : read m f ≡ read w f
  same_formula = grown.readings f there

  pub sequent_here : IsSequent (declarations_of w) (sequent_of w goal) → IsSequent (declarations_of m) (sequent_of m goal)
  sequent_here is =
      subst (λ D. IsSequent D (sequent_of m goal)) (sym declared) (subst (IsSequent (declarations_of w)) (sym same_goal) is)

  pub usable_here : (n : ℕ) (gs : List Given) (aim : Aim) → MayBeUsed (declarations_of w) (sequent_of w goal) (read w f) n gs aim
      → MayBeUsed (declarations_of m) (sequent_of m goal) (read m f) n gs aim
  usable_here n gs aim may =
      subst (λ D. MayBeUsed D (sequent_of m goal) (read m f) n gs aim) (sym declared)
      (subst (λ s. MayBeUsed (declarations_of w) s (read m f) n gs aim) (sym same_goal)
      (subst (λ F. MayBeUsed (declarations_of w) (sequent_of w goal) F n gs aim) (sym same_formula) may))

  pub using_here : (n : ℕ) (gs : List GivenTerm) (a : KeptAim) (aim : Aim) → aim_of m a ≡ aim
      → using_of m goal f n gs a ≡ using (sequent_of w goal) (map (given_of m) gs) (pieces n (read w f)) aim (read w f)
  using_here n gs a aim is =
      let hs = map (given_of m) gs in
      ap (λ s. using s hs (pieces n (read m f)) (aim_of m a) (read m f)) same_goal
      ∙ ap (λ F. using (sequent_of w goal) hs (pieces n F) (aim_of m a) F) same_formula
      ∙ ap (λ x. using (sequent_of w goal) hs (pieces n (read w f)) x (read w f)) is

  -- the marks serve, as they did
  pub serve_here : (n : ℕ) (hs js : List (Option Read)) → hs ≡ js → AllServe (pieces n (read m f)) hs → AllServe (pieces n (read w f)) js
  serve_here n hs js same serve = subst (λ F. AllServe (pieces n F) js) same_formula (subst (AllServe (pieces n (read m f))) same serve)

  pub serve_there : (n : ℕ) (hs js : List (Option Read)) → hs ≡ js → AllServe (pieces n (read w f)) js → AllServe (pieces n (read m f)) hs
  serve_there n hs js same serve = subst (AllServe (pieces n (read m f))) (sym same) (subst (λ F. AllServe (pieces n F) js) (sym same_formula) serve)

  pub unused_here : (n : ℕ) (gs : List GivenTerm) (a : KeptAim) (aim : Aim) (fault : ProofCommandFault) → aim_of m a ≡ aim → RefusedBy (left_to_show (using_of m goal f n gs a) (λ K. leads [])) fault
      → RefusedBy (left_to_show (using (sequent_of w goal) (map (given_of m) gs) (pieces n (read w f)) aim (read w f)) (λ K. leads [])) fault
  unused_here n gs a aim fault is refused = subst (λ (u : Using). RefusedBy (left_to_show u (λ K. leads [])) fault) (using_here n gs a aim is) refused

  pub used_here : (n : ℕ) (gs : List GivenTerm) (a : KeptAim) (aim : Aim) (K : Read) → aim_of m a ≡ aim → IsUsedFor (using_of m goal f n gs a) K
      → IsUsedFor (using (sequent_of w goal) (map (given_of m) gs) (pieces n (read w f)) aim (read w f)) K
  used_here n gs a aim K is used = subst (λ (u : Using). IsUsedFor u K) (using_here n gs a aim is) used

  -- as `apply` asks for it
  pub apply_aim : (vs : List Argument) (a : KeptAim) → aim_of m a ≡ record { hypotheses = formulas_in (sequent_of m goal) vs; conclusion = None }
      → aim_of m a ≡ record { hypotheses = formulas_in (sequent_of w goal) vs; conclusion = None }
  apply_aim vs a is = is ∙ ap (λ s. record { hypotheses = formulas_in s vs; conclusion = None }) same_goal

  -- and as `backchain` does
  pub backchain_aim : (n : ℕ) (a : KeptAim) → aim_of m a ≡ record { hypotheses = repeated n; conclusion = Some (read m goal.conclusion) }
      → aim_of m a ≡ record { hypotheses = repeated n; conclusion = Some (read w goal.conclusion) }
  backchain_aim n a is = is ∙ ap (λ F. record { hypotheses = repeated n; conclusion = Some F }) (grown.readings goal.conclusion held.conclusion)

  module _ (is : IsSequent (declarations_of w) (sequent_of w goal)) (sentences : HaveSentences (declarations_of w)) (H : List ℕ) (found : formula_named (declarations_of w) (sequent_of w goal) H ≡ Some (read w f))
      (n : ℕ) (gs : List Given) (fits : All (λ (g : Given). Fits (declarations_of w) (sequent_of w goal) g.value g.type) gs) (names : All (λ (g : Given). type_named g.name (pieces n (read w f)) ≡ Some g.type) gs) (a : KeptAim) where
    pub apply_usable : (vs : List Argument) → length vs ≡ n → n ≤ antecedent_count (read w f) → aim_of m a ≡ record { hypotheses = formulas_in (sequent_of m goal) vs; conclusion = None }
        → MayBeUsed (declarations_of m) (sequent_of m goal) (read m f) n gs (aim_of m a)
    apply_usable vs long enough as_aimed =
        subst (MayBeUsed (declarations_of m) (sequent_of m goal) (read m f) n gs) (sym (apply_aim vs a as_aimed))
        (usable_here n gs (record { hypotheses = formulas_in (sequent_of w goal) vs; conclusion = None })
        (record {
          formula = of_name (declarations_of w) (sequent_of w goal) is sentences H (read w f) found;
          given = fits;
          names = names;
          hypotheses = of_arguments (declarations_of w) (sequent_of w goal) is vs;
          conclusion = tt;
          enough =
              let counted = length_formulas (sequent_of w goal) vs in
              let parts_are = parts_count n (read w f) gs enough in
              omega (arith, counted, parts_are, long);
          alone = λ e. let clash : false ≡ true = e in cc;
        }))

    pub backchain_usable : n ≤ antecedent_count (read w f) → aim_of m a ≡ record { hypotheses = repeated n; conclusion = Some (read m goal.conclusion) } → MayBeUsed (declarations_of m) (sequent_of m goal) (read m f) n gs (aim_of m a)
    backchain_usable enough as_aimed =
        subst (MayBeUsed (declarations_of m) (sequent_of m goal) (read m f) n gs) (sym (backchain_aim n a as_aimed))
        (usable_here n gs (record { hypotheses = repeated n; conclusion = Some (read w goal.conclusion) })
        (record {
          formula = of_name (declarations_of w) (sequent_of w goal) is sentences H (read w f) found;
          given = fits;
          names = names;
          hypotheses = of_holes (declarations_of w) (sequent_of w goal) is n;
          conclusion = of_conclusion (declarations_of w) (sequent_of w goal) is;
          enough =
              let counted = length_holes n in
              let parts_are = parts_count n (read w f) gs enough in
              omega (arith, counted, parts_are);
          alone = λ e. holes_none n;
        }))
