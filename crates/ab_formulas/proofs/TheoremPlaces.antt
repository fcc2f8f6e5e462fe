-- The theorems of a list of declarations: where the one of a name stands, and the places that theorems assume.
use Rattle.std.specs.Prelude.{Contains, slice_get}
use Rattle.std.proofs.Common.{◌≡◌, inl, inr, ℕ, suc, ◌+◌, ◌<◌, ◌≤◌, Bool, true, false, if◌then◌else◌, Option, Some, None, List, [], ◌∷◌, ◌++◌, length, bytes_eq, refl, sym, ◌∙◌, ap, subst, arith, length-append}
use Rattle.std.proofs.lemmas.Slice.Eq.{bytes_eq-Decides}
use Rattle.ab_term.proofs.Lists.{Contains-none, Contains-here, Contains-there, Contains-cases}
use Rattle.ab_term.specs.Terms.{Read}
use Rattle.ab_formulas.specs.Declarations.{Declaration, Declarations, a_kind, a_constant, a_block, a_program_clause, a_theorem, Extends, theorem_in, assumed_in, ArePlacesUpTo, theorems_in, assumptions_in, name_in, names_at}
use Rattle.ab_formulas.proofs.KernelSplits.{get_here, get_left}
use Rattle.ab_formulas.proofs.Declaring.{theorems_in-append, theorem_in-append, or_else}

same_bytes : (x : List ℕ) → bytes_eq x x ≡ true
same_bytes x = (bytes_eq-Decides x x).1 refl

equal_bytes : (x y : List ℕ) → bytes_eq x y ≡ true → x ≡ y
equal_bytes x y e = (bytes_eq-Decides x y).0 e

-- WHERE A NAME'S THEOREM STANDS
pub record StandsAt (D : Declarations) (name : List ℕ) (F : Read) : Type 0 where
  pub assumed : List ℕ
  pub before : Declarations
  pub behind : Declarations
  pub declared : D ≡ before ++ a_theorem name F assumed ∷ behind
  pub first : theorem_in before name ≡ None
  pub assumes : assumed_in D name ≡ assumed

behind_another : (d : Declaration) (D : Declarations) (name : List ℕ) (F : Read) → ((E : Declarations) → theorem_in (d ∷ E) name ≡ theorem_in E name) → ((E : Declarations) → assumed_in (d ∷ E) name ≡ assumed_in E name)
    → StandsAt D name F → StandsAt (d ∷ D) name F
behind_another d D name F found assumes s = record {
  assumed = s.assumed;
  before = d ∷ s.before;
  behind = s.behind;
  declared = ap (λ E. d ∷ E) s.declared;
  first = found s.before ∙ s.first;
  assumes = assumes D ∙ s.assumes;
}

pub theorem_stands : (D : Declarations) (name : List ℕ) (F : Read) → theorem_in D name ≡ Some F → StandsAt D name F
theorem_stands [] name F e = absurd (cc)
theorem_stands (a_kind k ∷ D) name F e = behind_another (a_kind k) D name F (λ E. refl) (λ E. refl) (theorem_stands D name F e)
theorem_stands (a_constant c A ∷ D) name F e = behind_another (a_constant c A) D name F (λ E. refl) (λ E. refl) (theorem_stands D name F e)
theorem_stands (a_block b ∷ D) name F e = behind_another (a_block b) D name F (λ E. refl) (λ E. refl) (theorem_stands D name F e)
theorem_stands (a_program_clause c ∷ D) name F e = behind_another (a_program_clause c) D name F (λ E. refl) (λ E. refl) (theorem_stands D name F e)
theorem_stands (a_theorem n G js ∷ D) name F e = go (bytes_eq name n) refl e (theorem_stands D name F)
  where
    go : (b : Bool) → bytes_eq name n ≡ b → (if b then Some G else theorem_in D name) ≡ Some F → (theorem_in D name ≡ Some F → StandsAt D name F) → StandsAt (a_theorem n G js ∷ D) name F
    go true t p rest =
        let same : G ≡ F = cc in
        record {
          assumed = js;
          before = [];
          behind = D;
          declared = ap (λ d. d ∷ D) (ap (λ x. a_theorem x G js) (sym (equal_bytes name n t)) ∙ ap (λ H. a_theorem name H js) same);
          first = refl;
          assumes = ap (λ b. if b then js else assumed_in D name) t;
        }
    go false t p rest = behind_another (a_theorem n G js) D name F (λ E. ap (λ b. if b then Some G else theorem_in E name) t) (λ E. ap (λ b. if b then js else assumed_in E name) t) (rest p)

-- WHAT A THEOREM ASSUMES, in a longer list
abbrev pub of_first : Option Read → List ℕ → List ℕ → List ℕ
of_first None js ks = ks
of_first (Some F) js ks = js

of_first_test : (b : Bool) (F : Read) (o : Option Read) (js ks ls : List ℕ) → (if b then js else of_first o ks ls) ≡ of_first (if b then Some F else o) (if b then js else ks) ls
of_first_test true F o js ks ls = refl
of_first_test false F o js ks ls = refl

pub assumed_in-append : (D E : Declarations) (name : List ℕ) → assumed_in (D ++ E) name ≡ of_first (theorem_in D name) (assumed_in D name) (assumed_in E name)
assumed_in-append [] E name = refl
assumed_in-append (a_kind k ∷ D) E name = assumed_in-append D E name
assumed_in-append (a_constant c A ∷ D) E name = assumed_in-append D E name
assumed_in-append (a_block b ∷ D) E name = assumed_in-append D E name
assumed_in-append (a_program_clause c ∷ D) E name = assumed_in-append D E name
assumed_in-append (a_theorem n F js ∷ D) E name =
    ap (λ ks. if bytes_eq name n then js else ks) (assumed_in-append D E name)
    ∙ of_first_test (bytes_eq name n) F (theorem_in D name) js (assumed_in D name) (assumed_in E name)

pub assumed_none : (D : Declarations) (name : List ℕ) → theorem_in D name ≡ None → assumed_in D name ≡ []
assumed_none [] name e = refl
assumed_none (a_kind k ∷ D) name e = assumed_none D name e
assumed_none (a_constant c A ∷ D) name e = assumed_none D name e
assumed_none (a_block b ∷ D) name e = assumed_none D name e
assumed_none (a_program_clause c ∷ D) name e = assumed_none D name e
assumed_none (a_theorem n F js ∷ D) name e = go (bytes_eq name n) e (assumed_none D name)
  where
    go : (b : Bool) → (if b then Some F else theorem_in D name) ≡ None → (theorem_in D name ≡ None → assumed_in D name ≡ []) → (if b then js else assumed_in D name) ≡ []
    go true p rest = absurd (cc)
    go false p rest = rest p

-- what a theorem assumes that is there it still assumes
pub assumed_still : (D E : Declarations) (name : List ℕ) (F : Read) → Extends D E → theorem_in D name ≡ Some F → assumed_in E name ≡ assumed_in D name
assumed_still D E name F more e =
    ap (λ ds. assumed_in ds name) more.1 ∙ assumed_in-append D more.0 name ∙ ap (λ o. of_first o (assumed_in D name) (assumed_in more.0 name)) e

pub assumptions_in-append : (D E : Declarations) → assumptions_in (D ++ E) ≡ assumptions_in D ++ assumptions_in E
assumptions_in-append [] E = refl
assumptions_in-append (a_kind k ∷ D) E = assumptions_in-append D E
assumptions_in-append (a_constant c A ∷ D) E = assumptions_in-append D E
assumptions_in-append (a_block b ∷ D) E = assumptions_in-append D E
assumptions_in-append (a_program_clause c ∷ D) E = assumptions_in-append D E
assumptions_in-append (a_theorem n F js ∷ D) E = ap (λ l. js ∷ l) (assumptions_in-append D E)

-- a theorem of a new name is found, and with it what it assumes
pub theorem_new : (D E : Declarations) (name : List ℕ) (F : Read) (js : List ℕ) → theorem_in D name ≡ None → theorem_in (D ++ a_theorem name F js ∷ E) name ≡ Some F
theorem_new D E name F js e =
    theorem_in-append D (a_theorem name F js ∷ E) name
    ∙ ap (λ o. or_else o (theorem_in (a_theorem name F js ∷ E) name)) e
    ∙ ap (λ b. if b then Some F else theorem_in E name) (same_bytes name)

pub assumed_new : (D E : Declarations) (name : List ℕ) (F : Read) (js : List ℕ) → theorem_in D name ≡ None → assumed_in (D ++ a_theorem name F js ∷ E) name ≡ js
assumed_new D E name F js e =
    assumed_in-append D (a_theorem name F js ∷ E) name
    ∙ ap (λ o. of_first o (assumed_in D name) (assumed_in (a_theorem name F js ∷ E) name)) e
    ∙ ap (λ b. if b then js else assumed_in E name) (same_bytes name)

-- PLACES up to a last one
pub place_below : (last : ℕ) (js : List ℕ) (j : ℕ) → ArePlacesUpTo last js → Contains js j → j ≤ last
place_below last [] j are c = absurd (Contains-none j c)
place_below last (i ∷ []) j are c = elim (Contains-cases i [] j c) [ inl e ↦ subst (λ x. x ≤ last) e are | inr d ↦ absurd (Contains-none j d) ]
place_below last (i ∷ k ∷ js) j are c = elim (Contains-cases i (k ∷ js) j c) [
  | inl e ↦ let first = place_below last (k ∷ js) k are.1 (0, omega arith, refl) in let low = are.0 in let same : i ≡ j = e in omega (arith, first, low, same)
  | inr d ↦ place_below last (k ∷ js) j are.1 d
]

pub places_weaken : (m n : ℕ) (js : List ℕ) → m ≤ n → ArePlacesUpTo m js → ArePlacesUpTo n js
places_weaken m n [] low are = tt
places_weaken m n (j ∷ []) low are = omega (arith, low, are)
places_weaken m n (j ∷ k ∷ js) low are = (are.0, places_weaken m n (k ∷ js) low are.1)

-- each theorem assumes places up to its own
abbrev pub HavePlaces : Declarations → Type 0
HavePlaces D = (before behind : Declarations) (name : List ℕ) (F : Read) (js : List ℕ) → D ≡ before ++ a_theorem name F js ∷ behind → ArePlacesUpTo (length (theorems_in before)) js

pub assumed_below : (D : Declarations) → HavePlaces D → (name : List ℕ) (j : ℕ) → Contains (assumed_in D name) j → j < length (theorems_in D)
assumed_below D have name j c = go (theorem_in D name) refl
  where
    go : (o : Option Read) → theorem_in D name ≡ o → j < length (theorems_in D)
    go None e = absurd (Contains-none j (subst (λ js. Contains js j) (assumed_none D name e) c))
    go (Some F) e =
        let s = theorem_stands D name F e in
        let low : j ≤ length (theorems_in s.before) = place_below (length (theorems_in s.before)) s.assumed j (have s.before s.behind name F s.assumed s.declared) (subst (λ js. Contains js j) s.assumes c) in
        let long : length (theorems_in D) ≡ length (theorems_in s.before) + suc (length (theorems_in s.behind)) =
        ap (λ E. length (theorems_in E)) s.declared
        ∙ ap length (theorems_in-append s.before (a_theorem name F s.assumed ∷ s.behind))
        ∙ length-append (theorems_in s.before) ((name, F) ∷ theorems_in s.behind) in
        omega (arith, low, long)

-- HOW MANY THEOREMS there are where one more is declared, and its name
pub theorems_more : (D : Declarations) (name : List ℕ) (F : Read) (js : List ℕ) → length (theorems_in (D ++ a_theorem name F js ∷ [])) ≡ suc (length (theorems_in D))
theorems_more D name F js =
    let long : length (theorems_in D ++ (name, F) ∷ []) ≡ length (theorems_in D) + 1 = length-append (theorems_in D) ((name, F) ∷ []) in
    let one : length (theorems_in D) + 1 ≡ suc (length (theorems_in D)) = omega arith in
    ap length (theorems_in-append D (a_theorem name F js ∷ [])) ∙ long ∙ one

pub name_last : (D : Declarations) (name : List ℕ) (F : Read) (js : List ℕ) → name_in (slice_get (theorems_in (D ++ a_theorem name F js ∷ [])) (length (theorems_in D))) ≡ name
name_last D name F js =
    ap (λ ts. name_in (slice_get ts (length (theorems_in D)))) (theorems_in-append D (a_theorem name F js ∷ []))
    ∙ ap name_in (get_here (theorems_in D) (name, F) [])

-- the names of places that are there stay
pub names_at-append : (D E : Declarations) (last : ℕ) (js : List ℕ) → last < length (theorems_in D) → ArePlacesUpTo last js → names_at (D ++ E) js ≡ names_at D js
names_at-append D E last js low are = all js (λ j c. place_below last js j are c)
  where
    one : (j : ℕ) → j ≤ last → name_in (slice_get (theorems_in (D ++ E)) j) ≡ name_in (slice_get (theorems_in D) j)
    one j l = ap (λ ts. name_in (slice_get ts j)) (theorems_in-append D E) ∙ ap name_in (get_left (theorems_in D) (theorems_in E) j (omega (arith, l, low)))

    all : (ks : List ℕ) → ((j : ℕ) → Contains ks j → j ≤ last) → names_at (D ++ E) ks ≡ names_at D ks
    all [] l = refl
    all (k ∷ ks) l = rw (one k (l k (Contains-here k ks)), all ks (λ j c. l j (Contains-there k ks j c))) refl
