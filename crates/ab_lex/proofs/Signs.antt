-- The longest sign at a place.
use Rattle.std.proofs.Common.{◌≡◌, ◌≢◌, ◌==◌, ◌&&◌, ◌||◌, ◌+◌, ◌<◌, ◌≤◌, ℕ, zero, suc, Bool, true, false, cond, not, List, [], ◌∷◌, ◌++◌, length, map, take, drop, refl, sym, ap, ◌∙◌, subst, arith, inl, inr, lit<, lit≤}
use Rattle.std.proofs.lemmas.List.{take_at, length-append}
use Rattle.std.proofs.lemmas.Slice.Eq.{starts_is}
use Rattle.std.proofs.lemmas.Bool.Decides.{Decides-eqb}
use Rattle.std.specs.Prelude.{codes, Contains, slice_index_or, nat_eq}
use Rattle.std.specs.List.{list_all, starts_with}
use Rattle.std.proofs.lemmas.Bool.{cases_Bool, and_parts, or_cases, eqb-true, eq-eqb, not-true}
use Rattle.std.proofs.lemmas.Map.Views.{Contains-from_any}
use Rattle.std.proofs.lemmas.List.Elements.{Contains-append_right}
use Rattle.ab_lex.specs.declared.token.TokenKind.TheVariants.{Sign}
use Rattle.ab_lex.specs.Units.{slash, star, Opens, OpensNothing}
use Rattle.ab_lex.specs.Tokens.{signs, OpensNowhere, IsToken}
use Rattle.ab_lex.specs.Reader.{begins_star, singles, is_single, is_pair, single_size, short_size, sign_size}
use Rattle.ab_lex.proofs.FirstByte.{contains_cases, contains_passes}

-- the table's signs of one byte and of two are those that the tests tell
contains_map : {X Y : Type 0} (f : X → Y) (xs : List X) (x : X) → Contains xs x → Contains (map f xs) (f x)
contains_map f [] x (k, l, e) = absurd (omega arith)
contains_map f (y ∷ xs) x (zero, l, e) = (0, omega arith, ap f e)
contains_map f (y ∷ xs) x (suc k, l, e) = let r = contains_map f xs x (k, omega arith, e) in (suc r.0, omega arith, r.2)

single_in : (b : ℕ) → is_single b ≡ true → Contains signs (b ∷ [])
single_in b h =
    Contains-append_right (take 10 signs) (map (λ x. x ∷ []) singles) (b ∷ [])
    (contains_map (λ x. x ∷ []) singles b (Contains-from_any (λ x y e. eqb-true x y e) b singles h))

pair_at : (k x y b c : ℕ) → k < 24 → slice_index_or signs k (x ∷ y ∷ []) ≡ x ∷ y ∷ [] → ((b == x) && (c == y)) ≡ true → Contains signs (b ∷ c ∷ [])
pair_at k x y b c l e h = let p = and_parts (b == x) (c == y) h in rw (eqb-true b x p.0, eqb-true c y p.1) (k, l, e)

-- `:=`, `:-` and `::`
colon_in : (b c : ℕ) → ((b == 58) && ((c == 61) || ((c == 45) || (c == 58)))) ≡ true → Contains signs (b ∷ c ∷ [])
colon_in b c h =
    let p = and_parts (b == 58) ((c == 61) || ((c == 45) || (c == 58))) h in
    elim (or_cases (c == 61) ((c == 45) || (c == 58)) p.1) [
      | inl e ↦ pair_at 2 58 61 b c (lit< tt) refl (rw (p.0, e))
      | inr k ↦ elim (or_cases (c == 45) (c == 58) k) [
        | inl e ↦ pair_at 3 58 45 b c (lit< tt) refl (rw (p.0, e))
        | inr e ↦ pair_at 4 58 58 b c (lit< tt) refl (rw (p.0, e))
      ]
    ]

pub pair_in : (b c : ℕ) → is_pair b c ≡ true → Contains signs (b ∷ c ∷ [])
pair_in b c h =
    let bar = (b == 124) && (c == 45) in
    let back = ((b == 92) && (c == 47)) || bar in
    let forth = ((b == 47) && (c == 92)) || back in
    let arrow = ((b == 61) && (c == 62)) || forth in
    elim (or_cases ((b == 58) && ((c == 61) || ((c == 45) || (c == 58)))) (((b == 45) && (c == 62)) || arrow) h) [
      | inl e ↦ colon_in b c e
      | inr h ↦ elim (or_cases ((b == 45) && (c == 62)) arrow h) [
        | inl e ↦ pair_at 5 45 62 b c (lit< tt) refl e
        | inr h ↦ elim (or_cases ((b == 61) && (c == 62)) forth h) [
          | inl e ↦ pair_at 6 61 62 b c (lit< tt) refl e
          | inr h ↦ elim (or_cases ((b == 47) && (c == 92)) back h) [
            | inl e ↦ pair_at 7 47 92 b c (lit< tt) refl e
            | inr h ↦ elim (or_cases ((b == 92) && (c == 47)) bar h) [
              | inl e ↦ pair_at 8 92 47 b c (lit< tt) refl e
              | inr e ↦ pair_at 9 124 45 b c (lit< tt) refl e
            ]
          ]
        ]
      ]
    ]

abbrev pub has_size : List ℕ → Bool
has_size [] = false
has_size (b ∷ []) = is_single b
has_size (b ∷ c ∷ []) = is_pair b c
has_size (b ∷ c ∷ d ∷ s) = false

pub all_sized : list_all has_size (drop 2 signs) ≡ true
all_sized = refl

-- no sign is longer than the one that was found
abbrev AtMost : List ℕ → List ℕ → Type 0
AtMost q [] = Unit {0}
AtMost q (b ∷ d) = suc (length d) ≤ sign_size b (d ++ q)

at_least : (t u : Bool) (m n : ℕ) → m ≤ n → m ≤ 5 → m ≤ cond t 6 (cond u 5 n)
at_least true u m n h k = omega arith
at_least false true m n h k = k
at_least false false m n h k = h

long_enough : (b : ℕ) (s : List ℕ) (m : ℕ) → m ≤ short_size b s → m ≤ 5 → m ≤ sign_size b s
long_enough b s m h k = at_least ((b == 35) && starts_with nat_eq s (codes "reset")) ((b == 35) && starts_with nat_eq s (codes "back")) m (short_size b s) h k

single_short : (b : ℕ) (s : List ℕ) → is_single b ≡ true → 1 ≤ short_size b s
single_short b [] h = rw h (omega arith)
single_short b (c ∷ s) h = either (is_pair b c && not ((c == slash) && begins_star s))
  where
    either : (t : Bool) → 1 ≤ cond t 2 (single_size b)
    either true = omega arith
    either false = rw h (omega arith)

opens_here : (c : ℕ) (s : List ℕ) → OpensNothing c s → ((c == slash) && begins_star s) ≡ false
opens_here c [] h = elim (cases_Bool (c == slash)) [ inl e ↦ rw e | inr e ↦ rw e ]
opens_here c (x ∷ s) h =
    elim (cases_Bool (c == slash)) [
      | inl e ↦ elim (cases_Bool (x == star)) [
        | inl f ↦ absurd (h (eqb-true c slash e, eqb-true x star f))
        | inr f ↦ rw (e, f)
      ]
      | inr e ↦ rw e
    ]

pair_short : (b c : ℕ) (s : List ℕ) → is_pair b c ≡ true → OpensNothing c s → 2 ≤ short_size b (c ∷ s)
pair_short b c s h o = rw (h, opens_here c s o) (omega arith)

sized : (b : ℕ) (d q : List ℕ) → has_size (b ∷ d) ≡ true → OpensNowhere (b ∷ d) q → AtMost q (b ∷ d)
sized b [] q h o = long_enough b q 1 (single_short b q h) (omega arith)
sized b (c ∷ []) q h o = long_enough b (c ∷ q) 2 (pair_short b c q h o.1.0) (omega arith)
sized b (c ∷ x ∷ d) q h o = cc

pub sign_longest : (b : ℕ) (d q : List ℕ) → IsToken Sign (b ∷ d) q → suc (length d) ≤ sign_size b (d ++ q)
sign_longest b d q h =
    elim (contains_cases (codes "#reset") (drop 1 signs) (b ∷ d) h.0) [
      | inl e ↦ subst (AtMost q) e (lit≤ tt)
      | inr m ↦ elim (contains_cases (codes "#back") (drop 2 signs) (b ∷ d) m) [
        | inl e ↦ subst (AtMost q) e (lit≤ tt)
        | inr n ↦ sized b d q (contains_passes has_size (drop 2 signs) (b ∷ d) all_sized n) h.1
      ]
    ]

-- what was found is a sign
no_opening : (b : ℕ) (s : List ℕ) → b ≢ slash → OpensNothing b s
no_opening b [] n = tt
no_opening b (c ∷ s) n = λ o. n o.0

quiet : (c r : List ℕ) → list_all (λ b. not (b == slash)) c ≡ true → OpensNowhere c r
quiet [] r h = tt
quiet (b ∷ c) r h =
    let p = and_parts (not (b == slash)) (list_all (λ b. not (b == slash)) c) h in
    let n : b ≢ slash = λ e. let f : true ≡ false = sym (eq-eqb b slash e) ∙ not-true (b == slash) p.0 in cc in
    (no_opening b (c ++ r) n, quiet c r p.1)

pub record SignOf (b : ℕ) (s : List ℕ) (n : ℕ) : Type 0 where
  pub within : n ≤ length s
  pub form : IsToken Sign (b ∷ take n s) (drop n s)

named : (b : ℕ) (p s : List ℕ) (n : ℕ) → n ≡ length p → s ≡ p ++ drop (length p) s → Contains signs (b ∷ p) → list_all (λ b. not (b == slash)) (b ∷ p) ≡ true → SignOf b s n
named b p s n l e m h =
    let f : take n s ≡ p = ap (take n) e ∙ take_at p (drop (length p) s) n (sym l) in
    let g : length s ≡ length p + length (drop (length p) s) = ap length e ∙ length-append p (drop (length p) s) in
    record {
      within = omega arith;
      form = subst (λ q. Contains signs (b ∷ q) × OpensNowhere (b ∷ q) (drop n s)) (sym f) (m, quiet (b ∷ p) (drop n s) h);
    }

single_of : (b : ℕ) (s : List ℕ) → is_single b ≡ true → SignOf b s 0
single_of b s h = record {
  within = omega arith;
  form = (single_in b h, (no_opening b s (λ e. let f : false ≡ true = rw e at h in cc), tt));
}

pair_of : (b c : ℕ) (s : List ℕ) → is_pair b c ≡ true → not ((c == slash) && begins_star s) ≡ true → SignOf b (c ∷ s) 1
pair_of b c s h o = record {
  within = omega arith;
  form = (pair_in b c h, ((λ (x : Opens b c). let f : false ≡ true = rw (x.0, x.1) at h in cc), (closed_off c s (not-true ((c == slash) && begins_star s) o), tt)));
}
  where
    closed_off : (c : ℕ) (s : List ℕ) → ((c == slash) && begins_star s) ≡ false → OpensNothing c s
    closed_off c [] h = tt
    closed_off c (x ∷ s) h = λ o. let f : true ≡ false = rw (o.0, o.1) at h in cc

short_of : (b : ℕ) (s : List ℕ) (n : ℕ) → short_size b s ≡ suc n → SignOf b s n
short_of b [] n e =
    elim (cases_Bool (is_single b)) [
      | inl t ↦ let f : 1 ≡ suc n = rw t at e in let g : n ≡ 0 = omega arith in rw g (single_of b [] t)
      | inr t ↦ let f : 0 ≡ suc n = rw t at e in absurd (omega arith)
    ]
short_of b (c ∷ s) n e =
    elim (cases_Bool (is_pair b c && not ((c == slash) && begins_star s))) [
      | inl t ↦
          let f : 2 ≡ suc n = rw t at e in
          let g : n ≡ 1 = omega arith in
          let p = and_parts (is_pair b c) (not ((c == slash) && begins_star s)) t in
          rw g (pair_of b c s p.0 p.1)
      | inr t ↦ elim (cases_Bool (is_single b)) [
        | inl u ↦ let f : 1 ≡ suc n = rw (t, u) at e in let g : n ≡ 0 = omega arith in rw g (single_of b (c ∷ s) u)
        | inr u ↦ let f : 0 ≡ suc n = rw (t, u) at e in absurd (omega arith)
      ]
    ]

pub sign_is : (b : ℕ) (s : List ℕ) (n : ℕ) → sign_size b s ≡ suc n → SignOf b s n
sign_is b s n e = by_tests ((b == 35) && starts_with nat_eq s (codes "reset")) ((b == 35) && starts_with nat_eq s (codes "back")) refl refl e
  where
    by_tests : (t u : Bool) → ((b == 35) && starts_with nat_eq s (codes "reset")) ≡ t → ((b == 35) && starts_with nat_eq s (codes "back")) ≡ u → cond t 6 (cond u 5 (short_size b s)) ≡ suc n → SignOf b s n
    by_tests true u t v e =
        let p = and_parts (b == 35) (starts_with nat_eq s (codes "reset")) t in
        let f = (starts_is Decides-eqb s (codes "reset") (starts_with nat_eq s (codes "reset")) refl).0 p.1 in
        rw (eqb-true b 35 p.0) (named 35 (codes "reset") s n (omega arith) f (0, lit< tt, refl) refl)
    by_tests false true t v e =
        let p = and_parts (b == 35) (starts_with nat_eq s (codes "back")) v in
        let f = (starts_is Decides-eqb s (codes "back") (starts_with nat_eq s (codes "back")) refl).0 p.1 in
        rw (eqb-true b 35 p.0) (named 35 (codes "back") s n (omega arith) f (1, lit< tt, refl) refl)
    by_tests false false t v e = short_of b s n e
