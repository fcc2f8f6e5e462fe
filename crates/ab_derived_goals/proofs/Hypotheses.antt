-- Hypotheses are cut in, copied, dropped and renamed; and a conjunction is split into all its parts.
use Rattle.std.proofs.Common.{◌≡◌, ◌≢◌, ℕ, List, [], ◌∷◌, ◌++◌, map, Option, Some, None, refl, sym, subst}
use Rattle.ab_term.specs.Types.{prop}
use Rattle.ab_term.specs.Logical.{conjunction}
use Rattle.ab_term.specs.Terms.{logical, spine, no_terms, term, Read}
use Rattle.ab_term.specs.Names.{EqualUpToNames}
use Rattle.ab_term.proofs.UpToNames.{up_to_names-itself}
use Rattle.ab_term.proofs.Translations.{map-append}
use Rattle.ab_formulas.specs.Declarations.{Declarations, signature_in}
use Rattle.ab_formulas.specs.Formulas.{IsFormula}
use Rattle.ab_formulas.specs.Marks.{MarksServeIn, erased, marks_of}
use Rattle.ab_formulas.specs.NewNames.{given}
use Rattle.ab_formulas.specs.Sequents.{Sequent, IsSequent, IsUsed, Fits, goal_names, formula_of, proving, assuming, without}
use Rattle.ab_theory.specs.Conjuncts.{conjuncts}
use Rattle.ab_theory.specs.Derivations.{Debt}
use Rattle.ab_theory.specs.Steps.{initial, cut_formula, weaken, and_right}
use Rattle.ab_theory.proofs.Sequents.{goal_of, found_may}
use Rattle.ab_search_proofs.proofs.Places.{some_cells}
use Rattle.ab_consequences.proofs.Allowed.{marks_serve}
use Rattle.ab_consequences.proofs.Leading.{formula_fits}
use Rattle.ab_effects.specs.ProofCommands.{cleared}
use Rattle.ab_derived_goals.specs.Derived.{AreSound, IsDerived}
use Rattle.ab_derived_goals.proofs.Trees.{left, closes, goes_on, goes_two_ways}
use Rattle.ab_derived_goals.proofs.Named.{used_some, without_none, without_other}

module _ (D : Declarations) (sound : AreSound D) where
  -- a hypothesis that serves closes the goal
  pub by_hypothesis : (s : Sequent) (x : List ℕ) (F : Read) → IsSequent D s → formula_of s x ≡ Some F → EqualUpToNames (erased F) (erased s.conclusion) → MarksServeIn s.conclusion F → IsDerived D s [] []
  by_hypothesis s x F is has same serve =
      let at = some_cells s is.numbers_differ in
      closes D sound (initial x) s refl (at.0, at.1, (F, has, (same, (serve, refl))))

  pub by_itself : (s : Sequent) (x : List ℕ) → IsSequent D s → formula_of s x ≡ Some s.conclusion → IsDerived D s [] []
  by_itself s x is has = by_hypothesis s x s.conclusion is has (up_to_names-itself (erased s.conclusion)) (marks_serve (marks_of s.conclusion))

  -- A FORMULA IS CUT IN: it is derived, and so is the goal that has it
  pub cut_in : (s : Sequent) (F : Read) (y : List ℕ) (ps qs : List Sequent) (ts us : List Debt) → IsSequent D s → Fits D s F prop → IsFormula (signature_in D) F → ¬ IsUsed s y
      → (IsSequent D (proving F s) → IsDerived D (proving F s) ps ts) → (IsSequent D (assuming y F s) → IsDerived D (assuming y F s) qs us) → IsDerived D s (ps ++ qs) (ts ++ us)
  cut_in s F y ps qs ts us is fits formula new first second =
      let at = some_cells s is.numbers_differ in
      goes_two_ways D sound (cut_formula F (given y)) s (proving F s) (assuming y F s) ps qs ts us is refl (at.0, at.1, ((fits, formula), (y, s, (new, refl, refl), refl))) first second

  -- a hypothesis fits
  pub hypothesis_fits : (s : Sequent) (x : List ℕ) (F : Read) → IsSequent D s → formula_of s x ≡ Some F → Fits D s F prop
  hypothesis_fits s x F is has = let g = goal_of D s is in formula_fits D (goal_names s) is.one_type s F g (found_may D (goal_names s) s x F g has)

  pub hypothesis_formula : (s : Sequent) (x : List ℕ) (F : Read) → IsSequent D s → formula_of s x ≡ Some F → IsFormula (signature_in D) F
  hypothesis_formula s x F is has = (found_may D (goal_names s) s x F (goal_of D s is) has).formula

  -- A HYPOTHESIS IS COPIED under a name that none has
  pub copied : (s : Sequent) (x y : List ℕ) (F : Read) (ps : List Sequent) (ts : List Debt) → IsSequent D s → formula_of s x ≡ Some F → ¬ IsUsed s y
      → (IsSequent D (assuming y F s) → IsDerived D (assuming y F s) ps ts) → IsDerived D s ps ts
  copied s x y F ps ts is has new rest =
      cut_in s F y [] ps [] ts is (hypothesis_fits s x F is has) (hypothesis_formula s x F is has) new (λ it. by_itself (proving F s) x it has) rest

  -- A HYPOTHESIS IS DROPPED, where there is one of that name
  pub dropped : (s : Sequent) (x : List ℕ) (ps : List Sequent) (ts : List Debt) → IsSequent D s → (IsSequent D (without x s) → IsDerived D (without x s) ps ts) → IsDerived D s ps ts
  dropped s x ps ts is rest = go (formula_of s x) refl
    where
      go : (o : Option Read) → formula_of s x ≡ o → IsDerived D s ps ts
      go (Some F) e = let at = some_cells s is.numbers_differ in goes_on D sound (weaken x) s (without x s) ps ts is (at.0, at.1, (F, e, refl)) rest
      go None e =
          let same = without_none s x e in
          subst (λ t. IsDerived D t ps ts) same (rest (subst (IsSequent D) (sym same) is))

  -- A HYPOTHESIS IS RENAMED, and stands last
  pub renamed : (s : Sequent) (x y : List ℕ) (F : Read) (ps : List Sequent) (ts : List Debt) → IsSequent D s → formula_of s x ≡ Some F → ¬ IsUsed s y
      → (IsSequent D (assuming y F (without x s)) → IsDerived D (assuming y F (without x s)) ps ts) → IsDerived D s ps ts
  renamed s x y F ps ts is has new rest =
      let apart : y ≢ x = λ e. new (subst (IsUsed s) (sym e) (used_some has)) in
      let same = without_other s x y F apart in
      copied s x y F ps ts is has new (λ it.
      dropped (assuming y F s) x ps ts it (λ last.
      subst (λ t. IsDerived D t ps ts) (sym same) (rest (subst (IsSequent D) same last))))

  -- hypotheses are dropped, one after another
  pub all_dropped : (xs : List (List ℕ)) (s : Sequent) (ps : List Sequent) (ts : List Debt) → IsSequent D s → (IsSequent D (cleared xs s) → IsDerived D (cleared xs s) ps ts) → IsDerived D s ps ts
  all_dropped [] s ps ts is rest = rest is
  all_dropped (x ∷ xs) s ps ts is rest = dropped s x ps ts is (λ it. all_dropped xs (without x s) ps ts it rest)

  abbrev each_proved : Sequent → List Read → List Sequent
  each_proved s Fs = map (λ F. proving F s) Fs

  -- A CONJUNCTION IS SPLIT into all its parts
  pub all_split : (s : Sequent) (C : Read) → IsSequent D (proving C s) → IsDerived D (proving C s) (each_proved s (conjuncts C)) []
  all_split s (spine (logical conjunction) (term A (term B no_terms))) is =
      let C = spine (logical conjunction) (term A (term B no_terms)) in
      let at = some_cells (proving C s) is.numbers_differ in
      subst (λ l. IsDerived D (proving C s) l []) (sym (map-append (λ F. proving F s) (conjuncts A) (conjuncts B)))
      (goes_two_ways D sound and_right (proving C s) (proving A s) (proving B s) (each_proved s (conjuncts A)) (each_proved s (conjuncts B)) [] [] is refl
      (at.0, at.1, ((A, B), refl, refl)) (λ it. all_split s A it) (λ it. all_split s B it))
  all_split s C is = left D (proving C s)
