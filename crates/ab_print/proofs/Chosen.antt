-- The search for the first number that makes a name that isn't used.
use Rattle.std.proofs.Common.{◌≡◌, ℕ, zero, suc, ◌+◌, ◌-◌, ◌^◌, ◌≤◌, ◌<◌, length, List, ◌++◌, Bool, true, false, decimal, refl, sym, ◌∙◌, ap, arith}
use Rattle.std.specs.Prelude.{if◌then◌else◌}
use Rattle.ab_print.specs.PrintedNames.{is_in, first_from, stem, numbered, fresh}
use Rattle.ab_print.proofs.FreeNames.{first_free-longer}

more_left : (most n : ℕ) → n ≤ most → most + 1 - n ≡ suc (most - n)
more_left most n h = omega arith

pub goes_on : (test : ℕ → Bool) (most n : ℕ) → n ≤ most → test n ≡ true → first_from test (most + 1 - n) n ≡ first_from test (most + 1 - (n + 1)) (n + 1)
goes_on test most n h t =
    ap (λ (k : ℕ). first_from test k n) (more_left most n h)
    ∙ ap (λ (b : Bool). if b then (first_from test (most - n) (n + 1)) else n) t
    ∙ (let e : most - n ≡ most + 1 - (n + 1) = omega arith in ap (λ (k : ℕ). first_from test k (n + 1)) e)

pub found : (test : ℕ → Bool) (most n : ℕ) → n ≤ most → test n ≡ false → first_from test (most + 1 - n) n ≡ n
found test most n h t =
    ap (λ (k : ℕ). first_from test k n) (more_left most n h)
    ∙ ap (λ (b : Bool). if b then (first_from test (most - n) (n + 1)) else n) t

pub at_last : (test : ℕ → Bool) (most n : ℕ) → n ≡ most + 1 → first_from test (most + 1 - n) n ≡ n
at_last test most n h = let e : most + 1 - n ≡ 0 = omega arith in ap (λ (k : ℕ). first_from test k n) e

same_first : (test other : ℕ → Bool) → ((n : ℕ) → test n ≡ other n) → (most n : ℕ) → first_from test most n ≡ first_from other most n
same_first test other same zero n = refl
same_first test other same (suc most) n =
    ap (λ (b : Bool). if b then (first_from test most (n + 1)) else n) (same n)
    ∙ ap (λ (k : ℕ). if (other n) then k else n) (same_first test other same most (n + 1))

-- the first number that a test finds, which is that of whether a name is used
pub numbered_by : (test : List ℕ → Bool) (used : List (List ℕ)) (hint s : List ℕ) (most n : ℕ) → s ≡ stem hint → test hint ≡ true → first_from (λ k. test (s ++ decimal k)) most 1 ≡ n
    → length used ≤ most → most + 1 < 2 ^ 64 - 1 → ((x : List ℕ) → is_in used x ≡ test x) → s ++ decimal n ≡ fresh used hint
numbered_by test used hint s most n same taken first few short tells =
    ap (λ (w : List ℕ). w ++ decimal n) same
    ∙ ap (λ (k : ℕ). stem hint ++ decimal k)
    (sym first
    ∙ same_first (λ k. test (s ++ decimal k)) (λ k. is_in used (numbered hint k)) (λ k. ap (λ (w : List ℕ). test (w ++ decimal k)) same ∙ sym (tells (numbered hint k))) most 1
    ∙ first_free-longer used hint most (omega arith) few)
    ∙ ap (λ (b : Bool). if b then (numbered hint (first_from (λ k. is_in used (numbered hint k)) (length used) 1)) else hint) (sym (tells hint ∙ taken))

pub hint_by : (test : List ℕ → Bool) (used : List (List ℕ)) (hint : List ℕ) → test hint ≡ false → ((x : List ℕ) → is_in used x ≡ test x) → hint ≡ fresh used hint
hint_by test used hint free tells = ap (λ (b : Bool). if b then (numbered hint (first_from (λ k. is_in used (numbered hint k)) (length used) 1)) else hint) (sym (tells hint ∙ free))
