-- Cover, for `{L, [F] |- A}`.
use Rattle.std.proofs.Common.{◌≡◌, ℕ, zero, List, [], ◌∷◌, ◌++◌, map, length, Bool, true, false, cond, not, Option, Some, None, option_map, refl, sym, ◌∙◌, ap, subst, arith}
use Rattle.std.specs.List.{list_any}
use Rattle.std.specs.Prelude.{All, Contains}
use Rattle.std.proofs.lemmas.Bool.{or_parts}
use Rattle.std.proofs.lemmas.List.Elements.{All-nil, All-cons, All-contains}
use Rattle.ab_term.specs.Types.{prop, o, olist}
use Rattle.ab_term.specs.Terms.{Nominal, Variable, Term}
use Rattle.ab_term.specs.Typing.{Signature, HasType}
use Rattle.ab_term.specs.Substitution.{shift}
use Rattle.ab_term.specs.Reach.{raise}
use Rattle.ab_term.specs.Translation.{forget, EqualPastHints}
use Rattle.ab_term.specs.Names.{support}
use Rattle.ab_term.specs.Variables.{Substitution, value_in, image, IsTyped}
use Rattle.ab_term.specs.Sameness.{same_number}
use Rattle.ab_term.proofs.Closed.{closed_reach}
use Rattle.ab_term.proofs.Compositions.{image_typed}
use Rattle.ab_term.proofs.Depends.{image_nothing}
use Rattle.ab_term.proofs.Lists.{All-from_contains, Contains-map, Contains-from_map}
use Rattle.ab_term.proofs.Reaching.{shift-short}
use Rattle.ab_term.proofs.Standing.{Has}
use Rattle.ab_unifiers.specs.Replacements.{Cell}
use Rattle.ab_unifiers.specs.Unification.{Equation, unified, apart, stuck, Solves}
use Rattle.ab_unifiers.specs.Unifiers.{AreKnown, given}
use Rattle.ab_unifiers.specs.Alternatives.{Scope, Alternative, on_left}
use Rattle.ab_unifiers.specs.Choices.{in_order}
use Rattle.ab_unifiers.specs.InstanceCover.{IsOf, IsScope, IsCleanFor}
use Rattle.ab_unifiers.specs.Member.{HasMember}
use Rattle.ab_unifiers.proofs.Choosing.{contains_ordered, ordered_contains}
use Rattle.ab_coverage.proofs.IndexedGoals.{GoalForm, compound, atomic, flexible, focused, goal_form, without_vacuous}
use Rattle.ab_coverage.proofs.IndexedSpecClauses.{SpecClause, taken_apart, closed_in, atom_with, body_with, clause_image, context_of}
use Rattle.ab_coverage.proofs.IndexedInstances.{IsGuess, ClauseGives, IsRigid, FocusedInstance, by_focus}
use Rattle.ab_coverage.proofs.IndexedAlternatives.{by_clause, open_binders, focused_alternative, focused_alternatives, is_flexible, is_atomic}
use Rattle.ab_coverage.proofs.IndexedCovering.{FullyEqual, NearlyEqual, IsMetBy, IsTaken, taken_off}
use Rattle.ab_coverage.proofs.Nearly.{Nearly, nearly-full}
use Rattle.ab_coverage.proofs.Vacuous.{nearly-same}
use Rattle.ab_coverage.proofs.Filling.{near, all_unmoved}
use Rattle.ab_coverage.proofs.Conjoined.{asked, asked_typed, focused_typed}
use Rattle.ab_coverage.proofs.Clausal.{Free, closed_free, free_image, guess_typed}
use Rattle.ab_coverage.proofs.Parts.{IsPart, parts_right, apart-image, raise_typed, raise-closed, mapped_all}
use Rattle.ab_coverage.proofs.Cases as one
use Rattle.ab_coverage.proofs.Cases.{full_past_hints, Over, variables_held, more_over}
use Rattle.ab_coverage.proofs.Taking.{Rows, rows, merged, merged_guess, after, after_typed, taken, rows_near, rows_atoms, gone}
use Rattle.ab_coverage.proofs.Covered.{IsRight, atoms_right, over_of, nearly-forget, taken-forget}
use Rattle.ab_coverage.proofs.Unfocused.{brings_none, s_closed}
use Rattle.ab_coverage.proofs.Sound.{some_taken}
use Rattle.ab_coverage.proofs.Unifier as problem
use Rattle.ab_unifiers.proofs.Constants as names

is_atomic_of : (g : GoalForm) → not (is_atomic g) ≡ false → g ≡ atomic
is_atomic_of compound e = absurd (let bad : true ≡ false = e in cc)
is_atomic_of atomic e = refl
is_atomic_of flexible e = absurd (let bad : true ≡ false = e in cc)

all_atomic : {Hint : Type 0} (cs : List (SpecClause Hint)) → list_any (λ c. not (is_atomic (goal_form c.atom))) cs ≡ false → All (λ c. goal_form c.atom ≡ atomic) cs
all_atomic [] e = All-nil (λ c. goal_form c.atom ≡ atomic)
all_atomic (c ∷ cs) e =
    let parts = or_parts (not (is_atomic (goal_form c.atom))) (list_any (λ c. not (is_atomic (goal_form c.atom))) cs) e in
    All-cons (λ c. goal_form c.atom ≡ atomic) c cs (is_atomic_of (goal_form c.atom) parts.0) (all_atomic cs parts.1)

module _ (sg : Signature) (has : HasMember sg) {Hint : Type 0} (x f : Hint) (sequent : Scope Hint) (scope : IsScope sequent) (s : Substitution ℕ Hint) (s_typed : IsTyped sg s) (s_clean : IsCleanFor sequent s)
    (L F A : Term ℕ Hint) (is : IsOf sg sequent (focused L F A) prop) where
  abbrev pub S : List Nominal
  S = in_order (support (focused L F A))

  abbrev pub V : List (Variable ℕ)
  V = sequent.variables

  pub held : (a : Nominal) → Contains S a → Contains sequent.constants a
  held a m = is.constants_held a (contains_ordered (support (focused L F A)) a m)

  all_over : Has (Over S V) (focused L F A)
  all_over = over_of S V (focused L F A) (λ a m. ordered_contains (support (focused L F A)) a m) is.over_variables

  pub L_over : Has (Over S V) L
  L_over = all_over.1.0

  pub F_over : Has (Over S V) F
  F_over = all_over.1.1.0

  pub A_over : Has (Over S V) A
  A_over = all_over.1.1.1.0

  pub L_typed : HasType sg [] L olist
  L_typed = (focused_typed sg L F A is.typed).0

  pub F_typed : HasType sg [] F o
  F_typed = (focused_typed sg L F A is.typed).1

  pub A_typed : HasType sg [] A o
  A_typed = (focused_typed sg L F A is.typed).2

  pub part : (c : SpecClause Hint) → Contains (taken_apart F) c → IsPart sg (Over S V) [] c
  part c m = All-contains (IsPart sg (Over S V) []) (taken_apart F) c (parts_right sg (Over S V) [] F F_typed F_over) m

  pub none : (y : Variable ℕ) (t : Term ℕ Hint) → value_in same_number s y ≡ Some t → names.Has (λ a. ¬ (Contains S a)) t
  none = brings_none sg has x f sequent scope s s_typed s_clean S held

  abbrev L2 : Term ℕ Hint
  L2 = image same_number s L

  L2_typed : HasType sg [] L2 olist
  L2_typed = image_typed sg same_number s s_typed L_typed

  module _ (c : SpecClause Hint) (m : Contains (taken_apart F) c) where
    abbrev bs : List (Cell Hint)
    bs = c.binders

    abbrev ds : List Bool
    ds = closed_in c

    abbrev pub c2 : SpecClause Hint
    c2 = clause_image s c

    abbrev pub es : List Bool
    es = closed_in c2

    -- what is asked of a name is the same for the atom before and after
    free_before : Free ds bs c2.atom
    free_before = free_image (value_in same_number s) (s_closed sg has x f sequent scope s s_typed s_clean) ds bs c.atom (closed_free bs c.goals c.atom)

    free_after : Free es bs c2.atom
    free_after = closed_free bs c2.goals c2.atom

    abbrev raised : Term ℕ Hint
    raised = raise (length bs) zero L2

    raised_unmoved : (k : ℕ) → shift k raised ≡ raised
    raised_unmoved k =
        let e = raise-closed sg olist (length bs) L2 L2_typed in
        let short = closed_reach sg L2_typed in
        ap (shift k) e ∙ shift-short L2 k (omega (arith, short)) ∙ sym e

    abbrev N : Term ℕ Hint
    N = asked raised c2.goals

    goals_typed : All (λ G. HasType sg (context_of bs []) G o) c2.goals
    goals_typed = mapped_all (λ G. HasType sg (context_of bs []) G o) (image same_number s) c.goals
        (All-from_contains (λ G. HasType sg (context_of bs []) (image same_number s G) o) c.goals (λ G n. image_typed sg same_number s s_typed (All-contains (λ G. HasType sg (context_of bs []) G o) c.goals G (part c m).goals n)))

    N_typed : HasType sg (context_of bs []) N prop
    N_typed = asked_typed sg has.cons raised (raise_typed sg olist bs [] L2 L2_typed) c2.goals goals_typed

    module _ (vs : List (Option (Term ℕ Hint))) (B : Term ℕ Hint) (gives : ClauseGives sg L2 c2 vs (image same_number s A) B) (ks : List (Option (Term ℕ Hint))) (taking : IsTaken sg ds es bs ks) where
      all_rows : Rows sg ds es bs vs ks
      all_rows = rows sg ds es bs vs ks gives.guess taking

      abbrev pub av : List (Option (Term ℕ Hint))
      av = merged sg ds vs ks

      pub av_guess : IsGuess sg ds bs av
      av_guess = merged_guess sg all_rows

      pub atoms_same : EqualPastHints (atom_with c2 av) (image same_number s A)
      atoms_same = ap forget (rows_atoms sg all_rows c2.atom free_before free_after) ∙ gives.atom

      bodies_near : Nearly (body_with L2 c2 av) (taken_off es ks (body_with L2 c2 vs))
      bodies_near =
          subst (Nearly (body_with L2 c2 av)) (sym (taken sg all_rows [] N N_typed))
          (near bs av (after sg vs ks) N (rows_near sg all_rows N (gone sg raised raised_unmoved c2.goals c2.atom ds bs free_before))
          (all_unmoved sg prop bs av (guess_typed sg ds bs av av_guess)) (all_unmoved sg prop bs (after sg vs ks) (after_typed sg all_rows)))

      pub nearly_equal : (X : Term ℕ Hint) → FullyEqual X (body_with L2 c2 av) → NearlyEqual X (taken_off es ks B)
      nearly_equal X e =
          ap without_vacuous e ∙ nearly-same (nearly-forget (nearly-full bodies_near))
          ∙ ap without_vacuous (full_past_hints (taken_off es ks (body_with L2 c2 vs)) (taken_off es ks B) (taken-forget es ks (body_with L2 c2 vs) ∙ ap (taken_off es (map (option_map forget) ks)) gives.body ∙ sym (taken-forget es ks B)))

      abbrev U : Substitution ℕ Hint
      U = one.U sg has.cons x sequent scope.different scope.numbered S s s_typed none L L_typed L_over c (part c m) av av_guess

      abbrev new : List (Option (Term ℕ Hint))
      new = one.new sg has.cons x sequent scope.different scope.numbered S s s_typed none L L_typed L_over c (part c m) av av_guess

      abbrev zs : List (Variable ℕ)
      zs = one.zs sg has.cons x sequent scope.different scope.numbered S s s_typed none L L_typed L_over c (part c m) av av_guess

      known : AreKnown (by_clause x f on_left sequent S L c []).cells (V ++ zs)
      known = problem.known sg x sequent scope.different scope.numbered S (open_binders x f on_left sequent S L c)
          (one.us sg has.cons x sequent scope.different scope.numbered S s s_typed none L L_typed L_over c (part c m) av av_guess)
          (one.us_for sg has.cons x sequent scope.different scope.numbered S s s_typed none L L_typed L_over c (part c m) av av_guess) s s_typed none

      abbrev equations : List (Equation Hint)
      equations = record { place = 0; left = atom_with c new; right = A } ∷ []

      right : IsRight sg (by_clause x f on_left sequent S L c []).cells S U equations
      right = atoms_right sg x (by_clause x f on_left sequent S L c []).cells S (V ++ zs) known U (atom_with c new) A
          (one.atom_typed sg has.cons x sequent scope.different scope.numbered S s s_typed none L L_typed L_over c (part c m) av av_guess)
          (one.atom_over sg has.cons x sequent scope.different scope.numbered S s s_typed none L L_typed L_over c (part c m) av av_guess)
          A_typed (more_over S V zs A A_over)
          (one.atoms_same sg has.cons x sequent scope.different scope.numbered S s s_typed none L L_typed L_over c (part c m) av av_guess ∙ atoms_same
          ∙ sym (one.on_old sg has.cons x sequent scope.different scope.numbered S s s_typed none L L_typed L_over c (part c m) av av_guess A_typed A_over))

      pub met : IsMetBy (λ t u. NearlyEqual t (taken_off es ks u)) sg x sequent (focused_alternative x f on_left sequent S L c A) s B
      met apart sol = one.clause_met sg has.cons x sequent scope.different scope.numbered S s s_typed none L L_typed L_over c (part c m) av av_guess equations right.typed right.over right.hold right.unifies apart sol
      met (stuck i) sol = tt
      met (unified more q) sol =
          let g = one.clause_met sg has.cons x sequent scope.different scope.numbered S s s_typed none L L_typed L_over c (part c m) av av_guess equations right.typed right.over right.hold right.unifies (unified more q) sol in
          (g.0, g.1, nearly_equal (image same_number g.0 (image same_number q (body_with L c new))) g.2, (λ t A is. ap (λ u. forget (image same_number g.0 (image same_number q u))) (image_nothing t) ∙ g.3 t A is.typed is.over_variables))

  -- a clause whose alternative is apart has no instance
  pub focused_apart : (c : SpecClause Hint) → Contains (taken_apart F) c → Solves x (given (focused_alternative x f on_left sequent S L c A).equations (focused_alternative x f on_left sequent S L c A).cells (focused_alternative x f on_left sequent S L c A).flexible) apart
      → (vs : List (Option (Term ℕ Hint))) (B : Term ℕ Hint) → ¬ (ClauseGives sg (image same_number s L) (clause_image s c) vs (image same_number s A) B)
  focused_apart c m sol vs B gives = let k = some_taken sg c.binders c.goals (map (image same_number s) c.goals) c.atom (image same_number s c.atom) in met c m vs B gives k.0 k.1 apart sol

  -- ALL
  abbrev all_alternatives : List (Alternative Hint)
  all_alternatives = map (λ c. focused_alternative x f on_left sequent S L c A) (taken_apart F)

  -- what is said of each clause whose instance it is
  abbrev pub ClauseIsMet : List (Alternative Hint) → Term ℕ Hint → SpecClause Hint → Type 0
  ClauseIsMet alts B c = Contains alts (focused_alternative x f on_left sequent S L c A)
      × ((ks : List (Option (Term ℕ Hint))) → IsTaken sg (closed_in c) (closed_in (clause_image s c)) c.binders ks
      → IsMetBy (λ t u. NearlyEqual t (taken_off (closed_in (clause_image s c)) ks u)) sg x sequent (focused_alternative x f on_left sequent S L c A) s B)

  pub focused_covered : (alts : List (Alternative Hint)) → focused_alternatives x f on_left sequent L F A ≡ Some alts → (B : Term ℕ Hint) → FocusedInstance sg (image same_number s L) (image same_number s F) (image same_number s A) B
      → (c : SpecClause Hint) × Contains (taken_apart F) c × ClauseIsMet alts B c
  focused_covered alts e B (by_focus n r c2 vs m gives) = by_tests (is_flexible (goal_form A)) (list_any (λ c. not (is_atomic (goal_form c.atom))) (taken_apart F)) refl e
    where
      Wanted : Type 0
      Wanted = (c : SpecClause Hint) × Contains (taken_apart F) c × ClauseIsMet alts B c

      by_tests : (b d : Bool) → list_any (λ c. not (is_atomic (goal_form c.atom))) (taken_apart F) ≡ d → cond b None (cond d None (Some all_alternatives)) ≡ Some alts → Wanted
      by_tests true d q k = absurd (let bad : None ≡ Some alts = k in cc)
      by_tests false true q k = absurd (let bad : None ≡ Some alts = k in cc)
      by_tests false false q k =
          let same : all_alternatives ≡ alts = cc in
          let rigid : IsRigid sg F = all_atomic (taken_apart F) q in
          let apart = apart-image (value_in same_number s) (s_closed sg has x f sequent scope s s_typed s_clean) sg F rigid in
          let c = Contains-from_map (clause_image s) (taken_apart F) c2 (subst (λ l. Contains l c2) apart m) in
          let back : ClauseGives sg (image same_number s L) (clause_image s c.0) vs (image same_number s A) B = subst (λ k. ClauseGives sg (image same_number s L) k vs (image same_number s A) B) (sym c.2) gives in (
            c.0,
            c.1,
            (
              subst (λ l. Contains l (focused_alternative x f on_left sequent S L c.0 A)) same (Contains-map (λ c. focused_alternative x f on_left sequent S L c A) (taken_apart F) c.0 c.1),
              λ ks taking. met c.0 c.1 vs B back ks taking,
            ),
          )
