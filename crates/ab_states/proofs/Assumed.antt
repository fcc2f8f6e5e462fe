-- Theorems that are derived, in a longer list and in its front; what each assumes, and that those are proved which assume nothing.
use Rattle.std.specs.Prelude.{Contains, ◌↔◌, ◌⊎◌, IsSome}
use Rattle.std.proofs.Common.{◌≡◌, inl, inr, ℕ, zero, suc, ◌+◌, ◌<◌, ◌≤◌, Some, None, Option, List, [], ◌∷◌, ◌++◌, length, refl, sym, ◌∙◌, ap, subst, arith, append_assoc, length-append}
use Rattle.ab_term.specs.Terms.{Read}
use Rattle.ab_term.proofs.Lists.{Contains-none, Contains-here, Contains-there, Contains-cases}
use Rattle.ab_formulas.specs.Declarations.{Declaration, Declarations, a_kind, a_constant, a_block, a_program_clause, a_theorem, theorem_in, assumed_in, theorems_in, ArePlacesUpTo}
use Rattle.ab_formulas.proofs.Declaring.{theorems_in-append}
use Rattle.ab_formulas.proofs.TheoremPlaces.{theorem_stands, assumed_still, HavePlaces, assumed_below}
use Rattle.ab_theory.specs.Derivations.{Derivation, IsTreeOf, Debt, theorem_taken, goal_admitted, debts, goals_admitted, gaps}
use Rattle.ab_theory.specs.Assumptions.{places_of, all_places, assumed_by}
use Rattle.ab_theory.proofs.Debts.{admits_none, taken_declared}
use Rattle.ab_theory.proofs.Assuming.{places_grow, in_places, from_places, into_places, nothing_assumed}
use Rattle.ab_states.specs.DerivedTheorems.{IsDerived, AreDerived, IsProved, proved}

-- HOW MANY THEOREMS a declaration is
abbrev counts : Declaration → ℕ
counts (a_theorem x F js) = 1
counts (a_kind k) = 0
counts (a_constant c A) = 0
counts (a_block b) = 0
counts (a_program_clause c) = 0

counted : (d : Declaration) (D : Declarations) → length (theorems_in (d ∷ D)) ≡ counts d + length (theorems_in D)
counted (a_theorem x F js) D = let same : suc (length (theorems_in D)) ≡ 1 + length (theorems_in D) = omega arith in same
counted (a_kind k) D = let same : length (theorems_in D) ≡ 0 + length (theorems_in D) = omega arith in same
counted (a_constant c A) D = let same : length (theorems_in D) ≡ 0 + length (theorems_in D) = omega arith in same
counted (a_block b) D = let same : length (theorems_in D) ≡ 0 + length (theorems_in D) = omega arith in same
counted (a_program_clause c) D = let same : length (theorems_in D) ≡ 0 + length (theorems_in D) = omega arith in same

same_fronts : (d b : Declaration) (D E : Declarations) → d ≡ b → D ≡ E → d ∷ D ≡ b ∷ E
same_fronts d b D E head tail = ap (λ y. y ∷ D) head ∙ ap (λ ys. b ∷ ys) tail

-- the theorem of this place is in the front
in_front : (D more before behind : Declarations) (x : List ℕ) (F : Read) (js : List ℕ) → D ++ more ≡ before ++ a_theorem x F js ∷ behind → length (theorems_in before) < length (theorems_in D)
    → (rest : Declarations) × (D ≡ before ++ a_theorem x F js ∷ rest)
in_front [] more before behind x F js e l = absurd (omega (arith, l))
in_front (d ∷ D) more [] behind x F js e l =
    let head : d ≡ a_theorem x F js = cc in
    (D, ap (λ y. y ∷ D) head)
in_front (d ∷ D) more (b ∷ before) behind x F js e l =
    let head : d ≡ b = cc in
    let tail : D ++ more ≡ before ++ a_theorem x F js ∷ behind = cc in
    let rest = in_front D more before behind x F js tail (omega (arith, l, counted d D, counted b before, ap counts head)) in
    (rest.0, same_fronts d b D (before ++ a_theorem x F js ∷ rest.0) head rest.1)

-- A THEOREM STAYS DERIVED where more is declared, and in the front where it stands
pub derived_on : (D more : Declarations) (place : ℕ) (d : Derivation) → IsDerived D place d → IsDerived (D ++ more) place d
derived_on D more place d is = record {
  name = is.name;
  formula = is.formula;
  assumed = is.assumed;
  before = is.before;
  behind = is.behind ++ more;
  declared = ap (λ ds. ds ++ more) is.declared ∙ append_assoc is.before (a_theorem is.name is.formula is.assumed ∷ is.behind) more;
  place_is = is.place_is;
  derives = is.derives;
  assumes = is.assumes;
}

pub are_derived_before : (D more : Declarations) → AreDerived (D ++ more) → AreDerived D
are_derived_before D more are place low =
    let size : length (theorems_in (D ++ more)) ≡ length (theorems_in D) + length (theorems_in more) = ap length (theorems_in-append D more) ∙ length-append (theorems_in D) (theorems_in more) in
    let d = are place (omega (arith, size, low)) in
    let is = d.1 in
    let counted_before = is.place_is in
    let front = in_front D more is.before is.behind is.name is.formula is.assumed is.declared (omega (arith, counted_before, low)) in
    (d.0, record { name = is.name; formula = is.formula; assumed = is.assumed; before = is.before; behind = front.0; declared = front.1; place_is = is.place_is; derives = is.derives; assumes = is.assumes })

-- the last of the theorems is derived by what derives it from all that stands before it
pub derived_last : (D : Declarations) (x : List ℕ) (F : Read) (js : List ℕ) (d : Derivation) (place : ℕ) → IsTreeOf D F d → js ≡ assumed_by D d → length (theorems_in D) ≡ place → IsDerived (D ++ a_theorem x F js ∷ []) place d
derived_last D x F js d place is assumes place_is =
    record { name = x; formula = F; assumed = js; before = D; behind = []; declared = refl; place_is = place_is; derives = is; assumes = assumes }

-- ONE THEOREM stands at a place
theorem_counts : (x : List ℕ) (F : Read) (js : List ℕ) (d : Declaration) → a_theorem x F js ≡ d → counts d ≡ 1
theorem_counts x F js d e = ap counts (sym e)

one_place : (a b c e : Declarations) (x y : List ℕ) (F G : Read) (js ks : List ℕ) → a ++ a_theorem x F js ∷ c ≡ b ++ a_theorem y G ks ∷ e → length (theorems_in a) ≡ length (theorems_in b)
    → (a ≡ b) × (F ≡ G) × (js ≡ ks)
one_place [] [] c e x y F G js ks same size =
    let formula : F ≡ G = cc in
    let places : js ≡ ks = cc in
    (refl, formula, places)
one_place [] (d ∷ b) c e x y F G js ks same size =
    let head : a_theorem x F js ≡ d = cc in
    absurd (omega (arith, size, counted d b, theorem_counts x F js d head))
one_place (d ∷ a) [] c e x y F G js ks same size =
    let head : a_theorem y G ks ≡ d = cc in
    absurd (omega (arith, size, counted d a, theorem_counts y G ks d head))
one_place (d ∷ a) (b ∷ bs) c e x y F G js ks same size =
    let head : d ≡ b = cc in
    let tail : a ++ a_theorem x F js ∷ c ≡ bs ++ a_theorem y G ks ∷ e = cc in
    let rest = one_place a bs c e x y F G js ks tail (omega (arith, size, counted d a, counted b bs, ap counts head)) in
    (same_fronts d b a bs head rest.0, rest.1, rest.2)

-- what is derived of a theorem that stands here
record IsDerivedFrom (before : Declarations) (F : Read) (js : List ℕ) : Type 0 where
  pub derivation : Derivation
  pub derives : IsTreeOf before F derivation
  pub assumes : js ≡ assumed_by before derivation

-- the one of the same place
derived_so : (D before behind : Declarations) (x : List ℕ) (F : Read) (js : List ℕ) (place : ℕ) (d : Derivation) → IsDerived D place d → D ≡ before ++ a_theorem x F js ∷ behind → length (theorems_in before) ≡ place
    → IsDerivedFrom before F js
derived_so D before behind x F js place d is e counted_before =
    let one = one_place is.before before is.behind behind is.name x is.formula F is.assumed js (sym is.declared ∙ e) (is.place_is ∙ sym counted_before) in
    record {
      derivation = d;
      derives = subst (λ B. IsTreeOf B F d) one.0 (subst (λ G. IsTreeOf is.before G d) one.1 is.derives);
      assumes = sym one.2 ∙ (is.assumes ∙ ap (λ B. assumed_by B d) one.0);
    }

derived_here : (D before behind : Declarations) (x : List ℕ) (F : Read) (js : List ℕ) → AreDerived D → D ≡ before ++ a_theorem x F js ∷ behind → IsDerivedFrom before F js
derived_here D before behind x F js are e =
    let size : length (theorems_in D) ≡ length (theorems_in before) + suc (length (theorems_in behind)) =
    ap (λ ds. length (theorems_in ds)) e ∙ ap length (theorems_in-append before (a_theorem x F js ∷ behind)) ∙ length-append (theorems_in before) ((x, F) ∷ theorems_in behind) in
    let d = are (length (theorems_in before)) (omega (arith, size)) in
    derived_so D before behind x F js (length (theorems_in before)) d.0 d.1 e refl

-- EACH THEOREM assumes places up to its own
have_places : (D : Declarations) → AreDerived D → HavePlaces D
have_places D are before behind x F js e =
    let d = derived_here D before behind x F js are e in
    subst (ArePlacesUpTo (length (theorems_in before))) (sym d.assumes) (places_grow before (all_places before (debts d.derivation)))

-- ONE THAT ASSUMES NOTHING is proved
some_there : (o : Option Read) → IsSome o → (F : Read) × (o ≡ Some F)
some_there None h = absurd (cc)
some_there (Some F) h = (F, refl)

proved_up_to : (n : ℕ) (D : Declarations) (name : List ℕ) (F : Read) → length D < n → AreDerived D → theorem_in D name ≡ Some F → assumed_in D name ≡ [] → IsProved D name
proved_up_to zero D name F low are there nothing = absurd (omega (arith, low))
proved_up_to (suc n) D name F low are there nothing =
    let s = theorem_stands D name F there in
    let d = derived_here D s.before s.behind name F s.assumed are s.declared in
    let front : AreDerived s.before = are_derived_before s.before (a_theorem name F s.assumed ∷ s.behind) (subst AreDerived s.declared are) in
    let size : length D ≡ length s.before + suc (length s.behind) = ap length s.declared ∙ length-append s.before (a_theorem name F s.assumed ∷ s.behind) in
    let bound : (m : List ℕ) (j : ℕ) → Contains (assumed_in s.before m) j → j ≤ length (theorems_in s.before) =
    λ m j c. (let below = assumed_below s.before (have_places s.before front) m j c in omega (arith, below)) in
    let none = nothing_assumed s.before d.derivation bound (sym d.assumes ∙ (sym s.assumes ∙ nothing)) in
    subst (λ E. IsProved E name) (sym s.declared)
    (proved s.behind name F s.assumed d.derivation s.first (record { tree = d.derives; whole = none.0 })
    (λ taken c. (let there_too = some_there (theorem_in s.before taken) (taken_declared s.before taken d.derivation d.derives.valid c) in
    proved_up_to n s.before taken there_too.0 (omega (arith, low, size)) front there_too.1 (none.1 taken c))))

pub are_proved : (D : Declarations) (name : List ℕ) → AreDerived D → IsSome (theorem_in D name) → assumed_in D name ≡ [] → IsProved D name
are_proved D name are there nothing =
    let some = some_there (theorem_in D name) there in
    proved_up_to (suc (length D)) D name some.0 (omega arith) are some.1 nothing

-- WHAT A THEOREM ASSUMES
some_admitted : (ts : List Debt) → 0 < goals_admitted ts → Contains ts goal_admitted
some_admitted [] h = absurd (omega (arith, h))
some_admitted (theorem_taken n ∷ ts) h = Contains-there (theorem_taken n) ts goal_admitted (some_admitted ts h)
some_admitted (goal_admitted ∷ ts) h = Contains-here goal_admitted ts

module _ (D : Declarations) (place j : ℕ) (d : Derivation) (is : IsDerived D place d) (are : AreDerived D) where
  front : AreDerived is.before
  front = are_derived_before is.before (a_theorem is.name is.formula is.assumed ∷ is.behind) (subst AreDerived is.declared are)

  -- what a theorem that is taken assumes, it assumes where the other stands too
  same_places : (name : List ℕ) → Contains (debts d) (theorem_taken name) → assumed_in D name ≡ assumed_in is.before name
  same_places name c =
      let some = some_there (theorem_in is.before name) (taken_declared is.before name d is.derives.valid c) in
      assumed_still is.before D name some.0 (a_theorem is.name is.formula is.assumed ∷ is.behind, is.declared) some.1

  from_debt : (t : Debt) → Contains (debts d) t → Contains (places_of is.before t) j
      → ((j ≡ place) × (0 < gaps d)) ⊎ ((name : List ℕ) × Contains (debts d) (theorem_taken name) × Contains (assumed_in D name) j)
  from_debt (theorem_taken name) owed c = inr (name, owed, subst (λ js. Contains js j) (sym (same_places name owed)) c)
  from_debt goal_admitted owed c = elim (Contains-cases (length (theorems_in is.before)) [] j c) [
    | inl e ↦ inl (sym e ∙ is.place_is, some_gap (gaps d) refl)
    | inr none ↦ absurd (Contains-none j none)
  ]
    where
      some_gap : (n : ℕ) → gaps d ≡ n → 0 < n
      some_gap zero e = absurd (admits_none (debts d) e owed)
      some_gap (suc n) e = omega arith

  pub assumes_these : Contains is.assumed j ↔ (((j ≡ place) × (0 < gaps d)) ⊎ ((name : List ℕ) × Contains (debts d) (theorem_taken name) × Contains (assumed_in D name) j))
  assumes_these = (back, forth)
    where
      places : List ℕ
      places = all_places is.before (debts d)

      back : Contains is.assumed j → ((j ≡ place) × (0 < gaps d)) ⊎ ((name : List ℕ) × Contains (debts d) (theorem_taken name) × Contains (assumed_in D name) j)
      back c =
          let p = (in_places is.before (all_places is.before (debts d)) j).0 (subst (λ js. Contains js j) is.assumes c) in
          let r = from_places is.before (debts d) j p.1 in
          from_debt r.0 r.1 r.2

      into : (t : Debt) → Contains (debts d) t → Contains (places_of is.before t) j → j ≤ length (theorems_in is.before) → Contains is.assumed j
      into t owed c low =
          subst (λ js. Contains js j) (sym is.assumes) ((in_places is.before (all_places is.before (debts d)) j).1 (low, into_places is.before (debts d) t j owed c))

      forth : ((j ≡ place) × (0 < gaps d)) ⊎ ((name : List ℕ) × Contains (debts d) (theorem_taken name) × Contains (assumed_in D name) j) → Contains is.assumed j
      forth (inl own) =
          let e : length (theorems_in is.before) ≡ j = is.place_is ∙ sym own.0 in
          into goal_admitted (some_admitted (debts d) own.1) (subst (Contains (length (theorems_in is.before) ∷ [])) e (Contains-here (length (theorems_in is.before)) [])) (omega (arith, e))
      forth (inr taken) =
          let c = subst (λ js. Contains js j) (same_places taken.0 taken.1) taken.2 in
          let below = assumed_below is.before (have_places is.before front) taken.0 j c in
          into (theorem_taken taken.0) taken.1 c (omega (arith, below))
