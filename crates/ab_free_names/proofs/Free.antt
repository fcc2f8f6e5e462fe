-- Which numbers make a stem a free name, and that one does.
use Rattle.std.specs.Prelude.{IsTrue}
use Rattle.std.specs.List.{All, Contains, list_all}
use Rattle.std.specs.Char.{is_ascii_digit}
use Rattle.std.specs.Int.{IsInRange}
use Rattle.std.specs.Str.Parse.{digits_value}
use Rattle.std.proofs.Common.{◌≡◌, ◌≢◌, ◌⊎◌, inl, inr, ℕ, zero, suc, ◌+◌, ◌-◌, ◌<◌, ◌≤◌, ◌^◌, Bool, true, false, if◌then◌else◌, List, [], ◌∷◌, ◌++◌, map, take, drop, length, get_or, bytes_eq, decimal, refl, sym, ◌∙◌, ap, subst, arith, length-append, append_assoc, append-nil, codes}
use Rattle.std.proofs.lemmas.Fmt.{decimal_is_IsNumeral_wide}
use Rattle.std.proofs.lemmas.Str.Parse.{digit_at}
use Rattle.std.proofs.lemmas.List.{get_or_append_left}
use Rattle.std.proofs.lemmas.List.Elements.{Contains-append_cases, All-head, All-tail}
use Rattle.std.proofs.lemmas.Slice.Eq.{bytes_eq-Decides}
use Rattle.std.proofs.Math.Seq.{drop-append_seam}
use Rattle.std.proofs.lemmas.Bool.{cases_lt}
use Rattle.indexmap.proofs.IndexTableLemmas.Probe.{pigeonhole}
use Rattle.ab_term.proofs.Lists.{Contains-none, Contains-here, Contains-there, Contains-cases, Contains-from_map, Contains-map, All-from_contains}
use Rattle.ab_formulas.specs.Declarations.{Declarations, constant_names}
use Rattle.ab_formulas.specs.Sequents.{Sequent, Variable}
use Rattle.ab_formulas.specs.NewNames.{IsLeast, IsFreeName, IsNominalName, IsDigit, IsNoVariable}
use Rattle.ab_formulas.specs.FreeStems.{variable_names, taken_names, IsNumberFree, EndsInNoDigit, MayBeFrom}

contained : {X : Type 0} (P : X → Type 0) (xs : List X) → All P xs → (a : X) → Contains xs a → P a
contained P [] all a c = absurd (Contains-none a c)
contained P (x ∷ xs) all a c =
    elim (Contains-cases x xs a c) [
      | inl e ↦ subst P e (All-head P x xs all)
      | inr d ↦ contained P xs (All-tail P x xs all) a d
    ]

pub taken_not_free : (D : Declarations) (s : Sequent) (name : List ℕ) → Contains (taken_names D s) name → IsFreeName D s name → ⊥
taken_not_free D s name c free =
    elim (Contains-append_cases (variable_names s) (constant_names D) name c) [
      | inl v ↦
          let x = Contains-from_map (λ (x : Variable). x.name) s.variables name v in
          contained (λ (x : Variable). x.name ≢ name) s.variables free.no_variable x.0 x.1 x.2
      | inr k ↦ free.no_constant k
    ]

pub same_decimal : (m n : ℕ) → m < 2 ^ 100 → n < 2 ^ 100 → decimal m ≡ decimal n → m ≡ n
same_decimal m n p q e =
    sym (decimal_is_IsNumeral_wide m (omega arith)).1 ∙ ap (digits_value 10) e ∙ (decimal_is_IsNumeral_wide n (omega arith)).1

-- where the name stands first
abbrev place : List (List ℕ) → List ℕ → ℕ
place [] x = 0
place (y ∷ ys) x = if bytes_eq x y then 0 else suc (place ys x)

pub record IsPlace (xs : List (List ℕ)) (x : List ℕ) (i : ℕ) : Type 0 where
  pub within : i < length xs
  pub there : get_or xs i [] ≡ x

found : (y x : List ℕ) (ys : List (List ℕ)) (b : Bool) → bytes_eq x y ≡ b → (y ≡ x) ⊎ IsPlace ys x (place ys x) → IsPlace (y ∷ ys) x (if b then 0 else suc (place ys x))
found y x ys true e rest = record { within = omega arith; there = sym ((bytes_eq-Decides x y).0 e) }
found y x ys false e (inl same) = let yes = (bytes_eq-Decides x y).1 (sym same) in cc
found y x ys false e (inr p) = let l = p.within in record { within = omega (arith, l); there = p.there }

is_place : (xs : List (List ℕ)) (x : List ℕ) → Contains xs x → IsPlace xs x (place xs x)
is_place [] x c = absurd (Contains-none x c)
is_place (y ∷ ys) x c = found y x ys (bytes_eq x y) refl (elim (Contains-cases y ys x c) [ inl e ↦ inl e | inr d ↦ inr (is_place ys x d) ])

pub behind : (xs ys zs : List ℕ) → xs ++ ys ≡ xs ++ zs → ys ≡ zs
behind xs ys zs e = sym (drop-append_seam xs ys) ∙ ap (drop (length xs)) e ∙ drop-append_seam xs zs

-- more numbers than names
pub too_many : (taken : List (List ℕ)) (stem : List ℕ) (first count : ℕ) → length taken < count → first + count ≤ 2 ^ 100
    → ((m : ℕ) → first ≤ m → m < first + count → Contains taken (stem ++ decimal m)) → ⊥
too_many taken stem first count more small all =
    let f : ℕ → ℕ = λ i. place taken (stem ++ decimal (first + i)) in
    let at : (i : ℕ) → i < count → IsPlace taken (stem ++ decimal (first + i)) (place taken (stem ++ decimal (first + i))) =
    λ i l. is_place taken (stem ++ decimal (first + i)) (all (first + i) (omega arith) (omega (arith, l))) in
    let fits : count ≤ length taken =
    pigeonhole count (length taken) (λ i. place taken (stem ++ decimal (first + i)))
    (λ i l. (at i l).within)
    (λ i j l k e.
    let names : stem ++ decimal (first + i) ≡ stem ++ decimal (first + j) = sym (at i l).there ∙ ap (λ n. get_or taken n []) e ∙ (at j k).there in
    let numbers : first + i ≡ first + j = same_decimal (first + i) (first + j) (omega (arith, l, small)) (omega (arith, k, small)) (behind stem (decimal (first + i)) (decimal (first + j)) names) in
    omega (arith, numbers)) in
    omega (arith, fits, more)

-- digits

digit_of : (n i : ℕ) → n < 2 ^ 100 → i < length (decimal n) → IsDigit (get_or (decimal n) i 0)
digit_of n i small l = digit_at (decimal n) i (decimal_is_IsNumeral_wide n (omega arith)).0.1 l

-- no number behind the stem makes the name of a nominal constant, where the stem isn't n
last : (xs : List ℕ) → (xs ≡ []) ⊎ ((front : List ℕ) × (b : ℕ) × (xs ≡ front ++ b ∷ []))
last [] = inl refl
last (x ∷ xs) =
    elim (last xs) [
      | inl e ↦ inr ([], x, ap (λ ys. x ∷ ys) e)
      | inr p ↦ inr (x ∷ p.0, p.1, ap (λ ys. x ∷ ys) p.2)
    ]

at_seam : (xs : List ℕ) (c : ℕ) (ys : List ℕ) → get_or (xs ++ c ∷ ys) (length xs) 0 ≡ c
at_seam [] c ys = refl
at_seam (x ∷ xs) c ys = at_seam xs c ys

pub no_nominal : (stem : List ℕ) → EndsInNoDigit stem → stem ≢ codes "n" → (m : ℕ) → m < 2 ^ 100 → ¬ IsNominalName (stem ++ decimal m)
no_nominal [] ends other m small is =
    let some = (decimal_is_IsNumeral_wide m (omega arith)).0.0 in
    let first = digit_of m 0 small some in
    let byte : get_or (decimal m) 0 0 ≡ 110 = ap (λ (x : List ℕ). get_or x 0 0) is.written in
    omega (arith, first.1, byte)
no_nominal (b ∷ rest) ends other m small is =
    let k = is.number in
    let within = is.within in
    let byte : b ≡ 110 = ap (λ (x : List ℕ). get_or x 0 0) is.written in
    let tail : rest ++ decimal m ≡ decimal k = ap (drop 1) is.written in
    elim (last rest) [
      | inl e ↦ other (ap (λ x. x ∷ rest) byte ∙ ap (λ xs. 110 ∷ xs) e)
      | inr p ↦
          let front = p.0 in
          let c = p.1 in
          let long : length (decimal k) ≡ length front + 1 + length (decimal m) =
          ap length (sym tail) ∙ length-append rest (decimal m) ∙ omega (arith, ap length p.2, length-append front (c ∷ [])) in
          let whole : front ++ c ∷ decimal m ≡ decimal k =
          sym (append_assoc front (c ∷ []) (decimal m)) ∙ ap (λ xs. xs ++ decimal m) (sym p.2) ∙ tail in
          let there : get_or (decimal k) (length front) 0 ≡ c =
          ap (λ (xs : List ℕ). get_or xs (length front) 0) (sym whole) ∙ at_seam front c (decimal m) in
          let digit : IsDigit c = subst IsDigit there (digit_of k (length front) (omega (arith, within)) (omega (arith, long))) in
          ends (b ∷ front) c (ap (λ xs. b ∷ xs) p.2) digit
    ]

pub from_one : (stem : List ℕ) → EndsInNoDigit stem → stem ≢ codes "n" → (D : Declarations) (s : Sequent) → MayBeFrom D s stem 1
from_one stem ends other D s = record {
  positive = omega arith;
  below = λ m l free. let p = free.0 in omega (arith, l, p);
  no_nominal = λ m l small. no_nominal stem ends other m small;
}

pub behind_n : (stem : List ℕ) → stem ≡ codes "n" → (D : Declarations) (s : Sequent) → MayBeFrom D s stem 1000000000
behind_n stem e D s = record {
  positive = omega arith;
  below = λ m l free. let p = free.0 in
      free.1.no_nominal (record { number = m; positive = p; within = omega (arith, l); written = ap (λ x. x ++ decimal m) e });
  no_nominal = λ m l small is.
      let within = is.within in
      let same : m ≡ is.number = same_decimal m is.number small (omega (arith, within)) (behind (codes "n") (decimal m) (decimal is.number) (ap (λ x. x ++ decimal m) (sym e) ∙ is.written)) in
      omega (arith, l, within, same);
}

-- the first free number among those that were tried
pub record Tried (D : Declarations) (s : Sequent) (stem : List ℕ) (first n : ℕ) : Type 0 where
  pub all : (m : ℕ) → first ≤ m → m < n → Contains (taken_names D s) (stem ++ decimal m)

pub is_first : (D : Declarations) (s : Sequent) (stem : List ℕ) (first n : ℕ) → MayBeFrom D s stem first → first ≤ n
    → ((m : ℕ) → first ≤ m → m < n → Contains (taken_names D s) (stem ++ decimal m)) → IsFreeName D s (stem ++ decimal n) → IsLeast (IsNumberFree D s stem) n
is_first D s stem first n from le tried free = record {
  has = (omega (arith, from.positive, le), free);
  first = λ m l free. elim (below_or m first) [
    | inl k ↦ from.below m k free
    | inr k ↦ taken_not_free D s (stem ++ decimal m) (tried m k l) free.1
  ];
}
  where
    below_or : (a b : ℕ) → (a < b) ⊎ (b ≤ a)
    below_or a b = elim (cases_lt a b) [ inl l ↦ inl l | inr k ↦ inr (omega arith) ]

pub no_variable : (s : Sequent) (name : List ℕ) → (Contains (variable_names s) name → ⊥) → IsNoVariable s name
no_variable s name none =
    All-from_contains (λ (x : Variable). x.name ≢ name) s.variables
    (λ x c e. none (subst (Contains (variable_names s)) e (Contains-map (λ (y : Variable). y.name) s.variables x c)))
