-- The heads of what a clause's head and body are read as, and of their normal forms.
use Rattle.std.specs.List.{All}
use Rattle.std.proofs.Common.{◌≡◌, ℕ, zero, suc, ◌+◌, Bool, true, false, ◌||◌, List, [], ◌∷◌, ◌++◌, map, refl, sym, ap, ◌∙◌, arith, if◌then◌else◌}
use Rattle.std.specs.Prelude.{bytes_eq}
use Rattle.std.proofs.lemmas.Slice.Eq.{bytes_eq-Decides}
use Rattle.std.proofs.lemmas.List.Elements.{All-nil, All-cons, All-head, All-tail, All-append}
use Rattle.ab_term.specs.Types.{Ty}
use Rattle.ab_term.specs.Logical.{equality}
use Rattle.ab_term.specs.Terms.{Variable, Head, constant, logical, nominal, variable, index, lam, spine, Terms, no_terms, term, Read}
use Rattle.ab_term.specs.Names.{support, support_of_all}
use Rattle.ab_term.specs.Variables.{variables, variables_of_all}
use Rattle.ab_term.specs.Sameness.{same_numbered}
use Rattle.ab_term.proofs.Same.{same_numbered-Decides}
use Rattle.ab_unifiers.specs.Replacements.{holds}
use Rattle.ab_meaning.specs.Types.{PropFree, is_listed}
use Rattle.ab_meaning.specs.ResolvedNames.{Name, Resolved, bound, known, free, apply, behind, abs, equal, bind, Binding, binding_head}
use Rattle.ab_meaning.specs.Readings.{Raw, Making, Reads, reads_bound, reads_known, reads_free, reads_apply, reads_behind, reads_abs, reads_equal, reads_bind}
use Rattle.ab_infer.specs.Heads.{AreHeads, AreAllHeads, AreRawHeads, KnownAre}
use Rattle.ab_infer.specs.Occurrences.{free_names, with_name, with_names}
use Rattle.ab_formulas.specs.CaseClauses.{in_terms}
use Rattle.ab_declare.specs.ClauseMeanings.{place_in, variables_from}

-- FREE NAMES ARE AMONG THOSE THAT ARE COUNTED

abbrev pub IsListed : List Name → Name → Type 0
IsListed xs x = is_listed xs x ≡ true

listed_behind : (xs ys : List Name) (x : Name) → IsListed xs x → IsListed (xs ++ ys) x
listed_behind [] ys x h = absurd (cc)
listed_behind (z ∷ xs) ys x h = go (bytes_eq z x) h (listed_behind xs ys x)
  where
    go : (b : Bool) → (b || is_listed xs x) ≡ true → (IsListed xs x → IsListed (xs ++ ys) x) → (b || is_listed (xs ++ ys) x) ≡ true
    go true g f = refl
    go false g f = f g

listed_last : (xs : List Name) (x : Name) → IsListed (xs ++ x ∷ []) x
listed_last [] x = ap (λ b. b || false) ((bytes_eq-Decides x x).1 refl)
listed_last (z ∷ xs) x = go (bytes_eq z x) (listed_last xs x)
  where
    go : (b : Bool) → IsListed (xs ++ x ∷ []) x → (b || is_listed (xs ++ x ∷ []) x) ≡ true
    go true h = refl
    go false h = h

once_more : (xs : List Name) (y x : Name) → IsListed xs x → IsListed (with_name xs y) x
once_more xs y x h = go (is_listed xs y)
  where
    go : (b : Bool) → IsListed (if b then xs else xs ++ y ∷ []) x
    go true = h
    go false = listed_behind xs (y ∷ []) x h

once_itself : (xs : List Name) (y : Name) → IsListed (with_name xs y) y
once_itself xs y = go (is_listed xs y) refl
  where
    go : (b : Bool) → is_listed xs y ≡ b → IsListed (if b then xs else xs ++ y ∷ []) y
    go true e = e
    go false e = listed_last xs y

still_listed : (xs ys : List Name) (x : Name) → IsListed xs x → IsListed (with_names xs ys) x
still_listed xs [] x h = h
still_listed xs (y ∷ ys) x h = still_listed (with_name xs y) ys x (once_more xs y x h)

all_listed : (xs ys : List Name) → All (IsListed (with_names xs ys)) ys
all_listed xs [] = All-nil (IsListed xs)
all_listed xs (y ∷ ys) = All-cons (IsListed (with_names (with_name xs y) ys)) y ys (still_listed (with_name xs y) ys y (once_itself xs y)) (all_listed (with_name xs y) ys)

front_of : (P : Name → Type 0) (xs ys : List Name) → All P (xs ++ ys) → All P xs
front_of P [] ys h = All-nil P
front_of P (x ∷ xs) ys h = All-cons P x xs (All-head P x (xs ++ ys) h) (front_of P xs ys (All-tail P x (xs ++ ys) h))

rear_of : (P : Name → Type 0) (xs ys : List Name) → All P (xs ++ ys) → All P ys
rear_of P [] ys h = h
rear_of P (x ∷ xs) ys h = rear_of P xs ys (All-tail P x (xs ++ ys) h)

-- of two parts each
pub listed_in_first : (xs ys : List Name) → All (IsListed (with_names [] (xs ++ ys))) xs
listed_in_first xs ys = front_of (IsListed (with_names [] (xs ++ ys))) xs ys (all_listed [] (xs ++ ys))

pub listed_in_second : (xs ys : List Name) → All (IsListed (with_names [] (xs ++ ys))) ys
listed_in_second xs ys = rear_of (IsListed (with_names [] (xs ++ ys))) xs ys (all_listed [] (xs ++ ys))

-- THE VARIABLES OF NAMES

or_left : (b c : Bool) → b ≡ true → (b || c) ≡ true
or_left true c e = refl
or_left false c e = absurd (cc)

or_right : (b c : Bool) → c ≡ true → (b || c) ≡ true
or_right true c e = refl
or_right false c e = e

pub variable_listed : (n : ℕ) (types : Name → Ty) (names : List Name) (x : Name) → IsListed names x
    → holds (map in_terms (variables_from n types names)) (record { name = n + place_in names x; type = types x }) ≡ true
variable_listed n types [] x h = absurd (cc)
variable_listed n types (y ∷ ys) x h = go (bytes_eq y x) refl h (variable_listed (suc n) types ys x)
  where
    V : ℕ → Variable ℕ
    V k = record { name = k; type = types x }

    go : (b : Bool) → bytes_eq y x ≡ b → (b || is_listed ys x) ≡ true
        → (IsListed ys x → holds (map in_terms (variables_from (suc n) types ys)) (record { name = suc n + place_in ys x; type = types x }) ≡ true)
        → (same_numbered (record { name = n; type = types y }) (record { name = n + (if b then zero else suc (place_in ys x)); type = types x })
        || holds (map in_terms (variables_from (suc n) types ys)) (record { name = n + (if b then zero else suc (place_in ys x)); type = types x })) ≡ true
    go true e g rest =
        let same : y ≡ x = (bytes_eq-Decides y x).0 e in
        let number : n ≡ n + zero = omega arith in
        or_left _ _ ((same_numbered-Decides (record { name = n; type = types y }) (record { name = n + zero; type = types x })).1
        (ap (λ z. record { name = n; type = types z }) same ∙ ap (λ k. record { name = k; type = types x }) number))
    go false e g rest =
        let number : suc n + place_in ys x ≡ n + suc (place_in ys x) = omega arith in
        or_right _ _ (ap (λ k. holds (map in_terms (variables_from (suc n) types ys)) (record { name = k; type = types x })) (sym number) ∙ rest g)

-- HEADS OF A READING

module _ (P : Head ℕ → Type 0) (Q : Name → Type 0) (made : Making) (types : Name → Ty) (indices : (i : ℕ) → P (index i)) (equations : (A : Ty) → P (logical (equality A)))
    (binders : (q : Binding) (A : Ty) → PropFree A → P (logical (binding_head q A))) (names : (x : Name) → Q x → PropFree (types x) → P (made x (types x))) where
  pub heads_read : {G : List Ty} {e : Resolved} {t : Raw} {A : Ty} {As : List Ty} → KnownAre P (Unit {0}) e → All Q (free_names e) → Reads made types G e t A As → AreRawHeads P t
  heads_read k q (reads_bound {i = i} at) = indices i
  heads_read k q reads_known = k
  heads_read k q (reads_free {x = x} f) = names x (All-head Q x [] q) f
  heads_read k q (reads_apply {e = e} {f = f} r s) = (heads_read k.0 (front_of Q (free_names e) (free_names f) q) r, heads_read k.1 (rear_of Q (free_names e) (free_names f) q) s)
  heads_read k q (reads_behind {e = e} {f = f} r s) = (heads_read k.1 (rear_of Q (free_names e) (free_names f) q) s, heads_read k.0 (front_of Q (free_names e) (free_names f) q) r)
  heads_read k q (reads_abs f r) = heads_read k q r
  heads_read k q (reads_equal {e = e} {f = f} {A = A} r s) = ((equations A, heads_read k.0 (front_of Q (free_names e) (free_names f) q) r), heads_read k.1 (rear_of Q (free_names e) (free_names f) q) s)
  heads_read k q (reads_bind {q = b} {A = A} f w r) = (binders b A f, heads_read k q r)

module _ (P R : Head ℕ → Type 0) (weaker : (h : Head ℕ) → P h → R h) where
  pub known_weaker : (e : Resolved) → KnownAre P (Unit {0}) e → KnownAre R (Unit {0}) e
  known_weaker (bound i) h = tt
  known_weaker (known g A) h = weaker g h
  known_weaker (free x p) h = tt
  known_weaker (apply e f) h = (known_weaker e h.0, known_weaker f h.1)
  known_weaker (behind e f) h = (known_weaker e h.0, known_weaker f h.1)
  known_weaker (abs x p e) h = known_weaker e h
  known_weaker (equal e f) h = (known_weaker e h.0, known_weaker f h.1)
  known_weaker (bind q x p w e) h = known_weaker e h

-- TERMS OVER GIVEN VARIABLES, WITHOUT NOMINAL CONSTANTS

abbrev pub StandsOver : List (Variable ℕ) → Head ℕ → Type 0
StandsOver ys (variable y) = holds ys y ≡ true
StandsOver ys (nominal a) = ⊥
StandsOver ys _ = Unit {0}

both_none : {X : Type 0} (xs ys : List X) → xs ≡ [] → ys ≡ [] → xs ++ ys ≡ []
both_none xs ys e f = ap (λ l. l ++ ys) e ∙ f

module _ (ys : List (Variable ℕ)) where
  abbrev P : Head ℕ → Type 0
  P = StandsOver ys

  abbrev IsHeld : Variable ℕ → Type 0
  IsHeld y = holds ys y ≡ true

  mutual
    pub nameless : (t : Read) → AreHeads P t → support t ≡ []
    nameless (lam A x t) h = nameless t h
    nameless (spine (constant c) ts) h = all_nameless ts h.1
    nameless (spine (logical l) ts) h = all_nameless ts h.1
    nameless (spine (nominal a) ts) h = absurd h.0
    nameless (spine (variable y) ts) h = all_nameless ts h.1
    nameless (spine (index i) ts) h = all_nameless ts h.1

    all_nameless : (ts : Terms ℕ (List ℕ)) → AreAllHeads P ts → support_of_all ts ≡ []
    all_nameless no_terms h = refl
    all_nameless (term t ts) h = both_none (support t) (support_of_all ts) (nameless t h.0) (all_nameless ts h.1)

  mutual
    pub variables_held : (t : Read) → AreHeads P t → All IsHeld (variables t)
    variables_held (lam A x t) h = variables_held t h
    variables_held (spine (constant c) ts) h = all_variables_held ts h.1
    variables_held (spine (logical l) ts) h = all_variables_held ts h.1
    variables_held (spine (nominal a) ts) h = absurd h.0
    variables_held (spine (variable y) ts) h = All-cons IsHeld y (variables_of_all ts) h.0 (all_variables_held ts h.1)
    variables_held (spine (index i) ts) h = all_variables_held ts h.1

    all_variables_held : (ts : Terms ℕ (List ℕ)) → AreAllHeads P ts → All IsHeld (variables_of_all ts)
    all_variables_held no_terms h = All-nil IsHeld
    all_variables_held (term t ts) h = All-append IsHeld (variables t) (variables_of_all ts) (variables_held t h.0) (all_variables_held ts h.1)
