-- Numbers are what a scan digit by digit comes through.
use Rattle.std.proofs.Common.{◌≡◌, ◌⊎◌, ◌≤◌, ◌<◌, ◌+◌, ◌-◌, ◌*◌, ◌/◌, ◌%◌, ◌^◌, ℕ, true, false, cond, nat_lt, decimal, List, [], ◌∷◌, ◌++◌, length, take, drop, get_or, Option, Some, None, refl, sym, ap, ◌∙◌, subst, arith, append_assoc, inl, inr}
use Rattle.std.specs.Char.{is_ascii_digit}
use Rattle.std.proofs.lemmas.Bool.{cases_Bool, eq-eqb, ne_eqb, lt-ltb, ltb-true, cases_eq}
use Rattle.std.proofs.lemmas.Bool.Decides.{nat_tests}
use Rattle.std.proofs.lemmas.Fmt.{decimal_digit, decimal_step_wide, decimal_by_steps_wide}
use Rattle.std.proofs.lemmas.Nat.{div-mul-add, mod-mul-add, div-add-mod'}
use Rattle.std.proofs.lemmas.List.{append-nil, length-drop, take_more, get_or-drop}
use Rattle.ab_cert.specs.declared.count.Count.{Count}
use Rattle.ab_cert.specs.declared.count.Count.TheVariants.{Nothing, Value}
use Rattle.ab_cert.specs.Counts.{kept_below, next_digit, next_count, count_run}

pub run_none : (limit : ℕ) (x : List ℕ) → count_run limit None x ≡ None
run_none limit [] = refl
run_none limit (b ∷ x) = refl

pub run_more : (limit : ℕ) (o : Option Count) (x y : List ℕ) → count_run limit o (x ++ y) ≡ count_run limit (count_run limit o x) y
run_more limit o [] y = refl
run_more limit None (b ∷ x) y = sym (run_none limit y)
run_more limit (Some s) (b ∷ x) y = run_more limit (next_count limit s b) x y

-- one digit more

digit_next : (limit : ℕ) (s : Count) (b : ℕ) → is_ascii_digit b ≡ true → next_count limit s b ≡ next_digit limit s b
digit_next limit s b e = ap (λ t. cond t (next_digit limit s b) None) e

no_digit : (limit : ℕ) (s : Count) (b : ℕ) → is_ascii_digit b ≡ false → next_count limit s b ≡ None
no_digit limit s b e = ap (λ t. cond t (next_digit limit s b) None) e

is_below : (limit n : ℕ) → n < limit → kept_below limit n ≡ Some (Value n)
is_below limit n l = ap (λ t. cond t (Some (Value n)) None) (lt-ltb n limit l)

digit_of : (n : ℕ) → n < 10 → is_ascii_digit (48 + n) ≡ true
digit_of n l = grind (arith, nat_tests)

digit_range : (b : ℕ) → is_ascii_digit b ≡ true → (48 ≤ b) × (b < 58)
digit_range b e = (grind (arith, nat_tests), grind (arith, nat_tests))

-- a number below the limit comes through

first_on : (limit n : ℕ) → n < 10 → n < limit → next_count limit Nothing (48 + n) ≡ Some (Value n)
first_on limit n l m =
    let d : (48 + n) - 48 ≡ n = omega arith in
    digit_next limit Nothing (48 + n) (digit_of n l) ∙ (ap (kept_below limit) d ∙ is_below limit n m)

next_on : (limit v d : ℕ) → (v ≡ 0 → ⊥) → d < 10 → v * 10 + d < limit → next_count limit (Value v) (48 + d) ≡ Some (Value (v * 10 + d))
next_on limit v d z l m =
    let e : (48 + d) - 48 ≡ d = omega arith in
    digit_next limit (Value v) (48 + d) (digit_of d l)
    ∙ (ap (λ t. cond t None (kept_below limit (v * 10 + ((48 + d) - 48)))) (ne_eqb v 0 z) ∙ (ap (λ k. kept_below limit (v * 10 + k)) e ∙ is_below limit (v * 10 + d) m))

pub number_runs : (limit n : ℕ) → n < limit → n < 10 ^ 64 → count_run limit (Some Nothing) (decimal n) ≡ Some (Value n)
number_runs limit n l w =
    decimal_by_steps_wide (λ m ds. m < limit → count_run limit (Some Nothing) ds ≡ Some (Value m))
    (λ m h k. first_on limit m h k)
    (λ m ds h k below.
    let parts : m / 10 * 10 + m % 10 ≡ m = div-add-mod' m 10 in
    let small : m % 10 < 10 = omega arith in
    let less : m / 10 < limit = omega arith in
    let some : m / 10 ≡ 0 → ⊥ = λ e. absurd (omega arith) in
    let fits : m / 10 * 10 + m % 10 < limit = omega arith in
    run_more limit (Some Nothing) ds ((48 + m % 10) ∷ []) ∙ (ap (λ o. count_run limit o ((48 + m % 10) ∷ [])) (k less) ∙ (next_on limit (m / 10) (m % 10) some small fits ∙ ap (λ q. Some (Value q)) parts)))
    n w l

-- what comes through is a number below the limit

-- what was read
abbrev pub Came : ℕ → List ℕ → Count → Type 0
Came limit x Nothing = x ≡ []
Came limit x (Value v) = (x ≡ decimal v) × (v < limit)

below_of : (limit n : ℕ) (s : Count) (x : List ℕ) → kept_below limit n ≡ Some s → x ≡ decimal n → Came limit x s
below_of limit n s x e f =
    elim (cases_Bool (nat_lt n limit)) [
      | inl t ↦
          let g : Some (Value n) ≡ Some s = sym (ap (λ q. cond q (Some (Value n)) None) t) ∙ e in
          let h : Value n ≡ s = cc in
          subst (λ q. Came limit x q) h (f, ltb-true n limit t)
      | inr t ↦ let g : None ≡ Some s = sym (ap (λ q. cond q (Some (Value n)) None) t) ∙ e in cc
    ]

came_more : (limit : ℕ) (wide : limit ≤ 10 ^ 64) (x : List ℕ) (v b : ℕ) (t : Count) → (x ≡ decimal v) × (v < limit) → b - 48 < 10 → 48 + (b - 48) ≡ b → (v ≡ 0 → ⊥) → kept_below limit (v * 10 + (b - 48)) ≡ Some t
    → (nat_lt (v * 10 + (b - 48)) limit ≡ true) ⊎ (nat_lt (v * 10 + (b - 48)) limit ≡ false) → Came limit (x ++ b ∷ []) t
came_more limit wide x v b t c small n z f (inl l) =
    let d = b - 48 in
    let below : v * 10 + d < limit = ltb-true (v * 10 + d) limit l in
    let wide_below : v * 10 + d < 10 ^ 64 = omega (arith, wide, below) in
    let ten : 10 ≤ v * 10 + d = omega arith in
    let step : decimal (v * 10 + d) ≡ decimal v ++ (48 + d) ∷ [] =
    decimal_step_wide (v * 10 + d) ten wide_below ∙ (ap (λ q. decimal q ++ (48 + (v * 10 + d) % 10) ∷ []) (div-mul-add v 10 d small) ∙ ap (λ q. decimal v ++ (48 + q) ∷ []) (mod-mul-add v 10 d small)) in
    below_of limit (v * 10 + d) t (x ++ b ∷ []) f (ap (λ q. q ++ b ∷ []) c.0 ∙ (ap (λ q. decimal v ++ q ∷ []) (sym n) ∙ sym step))
came_more limit wide x v b t c small n z f (inr l) =
    let g : None ≡ Some t = sym (ap (λ q. cond q (Some (Value (v * 10 + (b - 48)))) None) l) ∙ f in cc

came_digit : (limit : ℕ) (wide : limit ≤ 10 ^ 64) (x : List ℕ) (s : Count) (b : ℕ) (t : Count) → Came limit x s → is_ascii_digit b ≡ true → next_digit limit s b ≡ Some t → Came limit (x ++ b ∷ []) t
came_digit limit wide x Nothing b t c d e =
    let r = digit_range b d in
    let n : 48 + (b - 48) ≡ b = omega (arith, r.0) in
    let one : decimal (b - 48) ≡ (48 + (b - 48)) ∷ [] = decimal_digit (b - 48) (omega (arith, r.1)) in
    below_of limit (b - 48) t (x ++ b ∷ []) e (ap (λ q. q ++ b ∷ []) c ∙ (ap (λ q. q ∷ []) (sym n) ∙ sym one))
came_digit limit wide x (Value v) b t c d e =
    elim (cases_eq v 0) [
      | inl z ↦ let g : None ≡ Some t = sym (ap (λ q. cond q None (kept_below limit (v * 10 + (b - 48)))) (eq-eqb v 0 z)) ∙ e in cc
      | inr z ↦
          let r = digit_range b d in
          let small : b - 48 < 10 = omega (arith, r.1) in
          let n : 48 + (b - 48) ≡ b = omega (arith, r.0) in
          let f : kept_below limit (v * 10 + (b - 48)) ≡ Some t = sym (ap (λ q. cond q None (kept_below limit (v * 10 + (b - 48)))) (ne_eqb v 0 z)) ∙ e in
          came_more limit wide x v b t c small n z f (cases_Bool (nat_lt (v * 10 + (b - 48)) limit))
    ]

came_step : (limit : ℕ) (wide : limit ≤ 10 ^ 64) (x : List ℕ) (s : Count) (b : ℕ) (t : Count) → Came limit x s → next_count limit s b ≡ Some t → Came limit (x ++ b ∷ []) t
came_step limit wide x s b t c e =
    elim (cases_Bool (is_ascii_digit b)) [
      | inl d ↦ came_digit limit wide x s b t c d (sym (digit_next limit s b d) ∙ e)
      | inr d ↦ let g : None ≡ Some t = sym (no_digit limit s b d) ∙ e in cc
    ]

some_or_none : (o : Option Count) → ((t : Count) × (o ≡ Some t)) ⊎ (o ≡ None)
some_or_none None = inr refl
some_or_none (Some t) = inl (t, refl)

none_not : (limit : ℕ) (y : List ℕ) (t : Count) → count_run limit None y ≡ Some t → ⊥
none_not limit y t e = let f : None ≡ Some t = sym (run_none limit y) ∙ e in cc

pub came_all : (limit : ℕ) (wide : limit ≤ 10 ^ 64) (y x : List ℕ) (s t : Count) → Came limit x s → count_run limit (Some s) y ≡ Some t → Came limit (x ++ y) t
came_all limit wide [] x s t c r =
    let g : s ≡ t = cc in
    subst (λ q. Came limit q t) (sym (append-nil x)) (subst (λ q. Came limit x q) g c)
came_all limit wide (b ∷ y) x s t c r =
    elim (some_or_none (next_count limit s b)) [
      | inl h ↦
          let k : count_run limit (Some h.0) y ≡ Some t = sym (ap (λ o. count_run limit o y) h.1) ∙ r in
          subst (λ q. Came limit q t) (append_assoc x (b ∷ []) y) (came_all limit wide y (x ++ b ∷ []) h.0 t (came_step limit wide x s b h.0 c h.1) k)
      | inr h ↦ absurd (none_not limit y t (sym (ap (λ o. count_run limit o y) h) ∙ r))
    ]

module _ (limit : ℕ) (wide : limit ≤ 10 ^ 64) where
  -- A NUMBER BELOW THE LIMIT IS WHAT A SCAN COMES THROUGH
  pub runs_number : (x : List ℕ) (v : ℕ) → count_run limit (Some Nothing) x ≡ Some (Value v) → (x ≡ decimal v) × (v < limit)
  runs_number x v e = came_all limit wide x [] Nothing (Value v) refl e

pub count_more : (limit : ℕ) (bytes : List ℕ) (start at : ℕ) (s t : Count) → start ≤ at → at < length bytes → count_run limit (Some Nothing) (take (at - start) (drop start bytes)) ≡ Some s → next_count limit s (get_or bytes at 0) ≡ Some t → count_run limit (Some Nothing) (take ((at + 1) - start) (drop start bytes)) ≡ Some t
count_more limit bytes start at s t l m came next =
    let k : (at + 1) - start ≡ (at - start) + 1 = omega arith in
    let n : start + (at - start) ≡ at = omega arith in
    let inside : at - start < length (drop start bytes) = omega (arith, length-drop {A = ℕ} start bytes) in
    let byte : get_or (drop start bytes) (at - start) 0 ≡ get_or bytes at 0 = get_or-drop start bytes (at - start) 0 ∙ ap (λ j. get_or bytes j 0) n in
    let split : take ((at + 1) - start) (drop start bytes) ≡ take (at - start) (drop start bytes) ++ get_or bytes at 0 ∷ [] =
    ap (λ j. take j (drop start bytes)) k ∙ (take_more (drop start bytes) (at - start) 0 inside ∙ ap (λ b. take (at - start) (drop start bytes) ++ b ∷ []) byte) in
    ap (count_run limit (Some Nothing)) split ∙ (run_more limit (Some Nothing) (take (at - start) (drop start bytes)) (get_or bytes at 0 ∷ []) ∙ (ap (λ o. count_run limit o (get_or bytes at 0 ∷ [])) came ∙ next))
