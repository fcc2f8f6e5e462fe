-- A NEW VARIABLE FINDS A NAME for its hint, and a hypothesis of induction one for its word, where not too many are taken: numbers
-- are written with at most 64 digits.
use Rattle.std.specs.List.{Contains}
use Rattle.std.specs.Option.{IsSome}
use Rattle.std.specs.Str.Parse.{digits_value}
use Rattle.std.proofs.Common.{◌≡◌, ◌≢◌, ◌⊎◌, inl, inr, ℕ, suc, ◌+◌, ◌<◌, ◌≤◌, ◌^◌, Bool, true, false, if◌then◌else◌, List, [], ◌∷◌, ◌++◌, map, drop, length, get_or, bytes_eq, decimal, Some, refl, sym, ◌∙◌, ap, subst, arith, length-append, append_assoc, codes}
use Rattle.std.proofs.lemmas.Fmt.{decimal_is_IsNumeral_wide}
use Rattle.std.proofs.lemmas.Str.Parse.{digit_at}
use Rattle.std.proofs.lemmas.List.Elements.{All-nil, All-cons, Contains-append_left, Contains-append_right}
use Rattle.std.proofs.lemmas.Slice.Eq.{bytes_eq-Decides}
use Rattle.std.proofs.Math.Seq.{drop-append_seam}
use Rattle.std.proofs.lemmas.Bool.{cases_lt}
use Rattle.ab_term.proofs.Lists.{Contains-none, Contains-here, Contains-there, Contains-cases, Contains-map, All-from_contains}
use Rattle.ab_formulas.specs.Declarations.{Declarations, constant_names}
use Rattle.ab_formulas.specs.Sequents.{Sequent, Variable, Hypothesis, IsUsed, named}
use Rattle.ab_formulas.specs.NewNames.{IsFreeName, IsNominalName, IsDigit, IsStem, IsNamedFor}
use Rattle.ab_formulas.specs.FreeStems.{variable_names, taken_names, IsNumberFree, EndsInNoDigit}
use Rattle.ab_free_names.proofs.Free.{same_decimal, behind, too_many, no_nominal}
use Rattle.ab_existence.specs.Certainty.{IsCertain}
use Rattle.ab_existence.proofs.Certain.{sure, and_so, and_also, there_or_not, least}

-- among names, or not
among_or_not : (xs : List (List ℕ)) (x : List ℕ) → Contains xs x ⊎ (Contains xs x → ⊥)
among_or_not [] x = inr (Contains-none x)
among_or_not (y ∷ ys) x = by_test (bytes_eq y x) refl (among_or_not ys x)
  where
    by_test : (b : Bool) → bytes_eq y x ≡ b → Contains ys x ⊎ (Contains ys x → ⊥) → Contains (y ∷ ys) x ⊎ (Contains (y ∷ ys) x → ⊥)
    by_test true e rest = inl (subst (Contains (y ∷ ys)) ((bytes_eq-Decides y x).0 e) (Contains-here y ys))
    by_test false e (inl there) = inl (Contains-there y ys x there)
    by_test false e (inr none) = inr (λ c. elim (Contains-cases y ys x c) [ inl same ↦ (let equal = (bytes_eq-Decides y x).1 same in absurd (cc)) | inr there ↦ none there ])

-- some number from this one on makes a name that isn't among these
some_number : (taken : List (List ℕ)) (stem : List ℕ) (start : ℕ) → start ≤ 1000000000 → length taken < 2 ^ 99 → IsCertain ((m : ℕ) × (start ≤ m) × (m < 2 ^ 100) × (Contains taken (stem ++ decimal m) → ⊥))
some_number taken stem start low few =
    and_also (there_or_not ((m : ℕ) × (start ≤ m) × (m < 2 ^ 100) × (Contains taken (stem ++ decimal m) → ⊥)))
    (λ some. elim some [
      | inl m ↦ m
      | inr none ↦ absurd (too_many taken stem start (suc (length taken)) (omega arith) (omega (arith, low, few))
          (λ m from below. elim (among_or_not taken (stem ++ decimal m)) [ inl c ↦ c | inr out ↦ absurd (none (m, from, omega (arith, below, low, few), out)) ]))
    ])

-- from a thousand million on no number behind a stem makes the name of a nominal constant
never_nominal : (stem : List ℕ) → EndsInNoDigit stem → (m : ℕ) → 1000000000 ≤ m → m < 2 ^ 100 → ¬ IsNominalName (stem ++ decimal m)
never_nominal stem ends m l small = by_test (bytes_eq stem (codes "n")) refl
  where
    by_test : (b : Bool) → bytes_eq stem (codes "n") ≡ b → ¬ IsNominalName (stem ++ decimal m)
    by_test true e is =
        let within = is.within in
        let word : stem ≡ codes "n" = (bytes_eq-Decides stem (codes "n")).0 e in
        let same : m ≡ is.number = same_decimal m is.number small (omega (arith, within)) (behind (codes "n") (decimal m) (decimal is.number) (ap (λ x. x ++ decimal m) (sym word) ∙ is.written)) in
        omega (arith, l, within, same)
    by_test false e is = no_nominal stem ends (λ word. let equal = (bytes_eq-Decides stem (codes "n")).1 word in absurd (cc)) m small is

-- THE STEM of a hint

never_ends : (front : List ℕ) (b : ℕ) → [] ≡ front ++ b ∷ [] → ⊥
never_ends [] b e = absurd (cc)
never_ends (c ∷ front) b e = absurd (cc)

digit_or_not : (b : ℕ) → IsDigit b ⊎ (IsDigit b → ⊥)
digit_or_not b =
    elim (cases_lt b 48) [
      | inl low ↦ inr (λ d. let l = d.0 in omega (arith, low, l))
      | inr high ↦ elim (cases_lt 57 b) [ inl over ↦ inr (λ d. let l = d.1 in omega (arith, over, l)) | inr within ↦ inl (omega (arith, high), omega (arith, within)) ]
    ]

stem_before : (b : ℕ) (bs stem : List ℕ) → IsStem bs stem → (st : List ℕ) × IsStem (b ∷ bs) st
stem_before b bs [] is =
    elim (digit_or_not b) [
      | inl d ↦ ([], record { digits = b ∷ is.digits; whole = ap (λ xs. b ∷ xs) is.whole; are_digits = All-cons IsDigit b is.digits d is.are_digits; all_digits = λ front c e. absurd (never_ends front c e) })
      | inr not_digit ↦ (b ∷ [], record { digits = is.digits; whole = ap (λ xs. b ∷ xs) is.whole; are_digits = is.are_digits; all_digits = λ front c e d. not_digit (subst IsDigit (sym (alone front c e)) d) })
    ]
  where
    alone : (front : List ℕ) (c : ℕ) → b ∷ [] ≡ front ++ c ∷ [] → b ≡ c
    alone [] c e = cc
    alone (f ∷ front) c e = absurd (never_ends front c (let tails : [] ≡ front ++ c ∷ [] = cc in tails))
stem_before b bs (s ∷ stem) is = (
  b ∷ s ∷ stem,
  record { digits = is.digits; whole = ap (λ xs. b ∷ xs) is.whole; are_digits = is.are_digits; all_digits = ends },
)
  where
    ends : (front : List ℕ) (c : ℕ) → b ∷ s ∷ stem ≡ front ++ c ∷ [] → ¬ IsDigit c
    ends [] c e = absurd (let tails : s ∷ stem ≡ [] = cc in (let short = ap length tails in omega (arith, short)))
    ends (f ∷ front) c e = is.all_digits front c (let tails : s ∷ stem ≡ front ++ c ∷ [] = cc in tails)

stem_there : (hint : List ℕ) → (stem : List ℕ) × IsStem hint stem
stem_there [] = ([], record { digits = []; whole = refl; are_digits = All-nil IsDigit; all_digits = λ front b e. absurd (never_ends front b e) })
stem_there (b ∷ bs) = let rest = stem_there bs in stem_before b bs rest.0 rest.1

-- A NAME BY A HINT
pub name_by_hint : (D : Declarations) (s : Sequent) (hint : List ℕ) → length (taken_names D s) < 2 ^ 99 → IsCertain ((name : List ℕ) × IsNamedFor D s hint name)
name_by_hint D s hint few =
    and_so (there_or_not (IsFreeName D s hint))
    (λ free. elim free [
      | inl is ↦ sure (hint, inl (is, refl))
      | inr taken ↦
          let stem = stem_there hint in
          and_so (some_number (taken_names D s) stem.0 1000000000 (omega arith) few)
          (λ m. and_also (least (IsNumberFree D s stem.0) m.0 (omega (arith, m.1), numbered_free stem.0 stem.1.all_digits m.0 m.1 m.2 m.3))
          (λ n. (stem.0 ++ decimal n.0, inr (taken, (stem.0, n.0, stem.1, n.1, refl)))))
    ])
  where
    numbered_free : (stem : List ℕ) → EndsInNoDigit stem → (m : ℕ) → 1000000000 ≤ m → m < 2 ^ 100 → (Contains (taken_names D s) (stem ++ decimal m) → ⊥) → IsFreeName D s (stem ++ decimal m)
    numbered_free stem ends m from below out = record {
      no_variable = All-from_contains (λ (x : Variable). x.name ≢ stem ++ decimal m) s.variables
          (λ x c e. out (Contains-append_left (variable_names s) (constant_names D) (stem ++ decimal m) (subst (Contains (variable_names s)) e (Contains-map (λ (y : Variable). y.name) s.variables x c))));
      no_constant = λ c. out (Contains-append_right (variable_names s) (constant_names D) (stem ++ decimal m) c);
      no_nominal = never_nominal stem ends m from below;
    }

-- A NAME BY A WORD

used_named : (hs : List Hypothesis) (x : List ℕ) → IsSome (named hs x) → Contains (map (λ (h : Hypothesis). h.name) hs) x
used_named [] x some = absurd (cc)
used_named (h ∷ hs) x some = by_test (λ s. used_named hs x s) (bytes_eq h.name x) refl some
  where
    by_test : (IsSome (named hs x) → Contains (map (λ (k : Hypothesis). k.name) hs) x) → (b : Bool) → bytes_eq h.name x ≡ b → IsSome (if b then Some h.formula else named hs x) → Contains (h.name ∷ map (λ (k : Hypothesis). k.name) hs) x
    by_test rest true e s = subst (Contains (h.name ∷ map (λ (k : Hypothesis). k.name) hs)) ((bytes_eq-Decides h.name x).0 e) (Contains-here h.name (map (λ (k : Hypothesis). k.name) hs))
    by_test rest false e s = Contains-there h.name (map (λ (k : Hypothesis). k.name) hs) x (rest s)

pub number_by_word : (s : Sequent) (word : List ℕ) → length s.hypotheses < 2 ^ 99 → IsCertain ((m : ℕ) × (1 ≤ m) × (IsUsed s (word ++ decimal m) → ⊥))
number_by_word s word few =
    and_also (some_number (map (λ (h : Hypothesis). h.name) s.hypotheses) word 1 (omega arith) (omega (arith, few, names_counted s.hypotheses)))
    (λ m. (m.0, m.1, λ used. m.3 (used_named s.hypotheses (word ++ decimal m.0) used)))
  where
    names_counted : (hs : List Hypothesis) → length (map (λ (h : Hypothesis). h.name) hs) ≡ length hs
    names_counted [] = refl
    names_counted (h ∷ hs) = ap suc (names_counted hs)
