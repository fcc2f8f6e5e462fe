-- A text's first line, byte by byte.
use Rattle.std.proofs.Common.{◌≡◌, ℕ, zero, suc, ◌+◌, ◌<◌, ◌==◌, true, false, List, [], ◌∷◌, ◌++◌, length, take, drop, get_or, if◌then◌else◌, refl, sym, ◌∙◌, ap, arith, append_assoc}
use Rattle.std.proofs.lemmas.List.{take_more, take_all, drop_all, append-nil}
use Rattle.ab_run.specs.FirstLine.{first_line}

from_there : (bs : List ℕ) (i d : ℕ) → i < length bs → drop i bs ≡ get_or bs i d ∷ drop (suc i) bs
from_there [] i d l = absurd (omega (arith, l))
from_there (b ∷ bs) zero d l = refl
from_there (b ∷ bs) (suc i) d l = from_there bs i d (omega (arith, l))

-- the bytes before this place end no line
abbrev pub IsInside : List ℕ → ℕ → Type 0
IsInside bs i = first_line bs ≡ take i bs ++ first_line (drop i bs)

pub passed : (bs : List ℕ) (i d : ℕ) → i < length bs → (get_or bs i d == 10) ≡ false → IsInside bs i → IsInside bs (i + 1)
passed bs i d l other so_far =
    let b = get_or bs i d in
    let more : suc i ≡ i + 1 = omega arith in
    so_far
    ∙ ap (λ x. take i bs ++ first_line x) (from_there bs i d l)
    ∙ ap (λ t. take i bs ++ (if t then b ∷ [] else (b ∷ first_line (drop (suc i) bs)))) other
    ∙ sym (append_assoc (take i bs) (b ∷ []) (first_line (drop (suc i) bs)))
    ∙ ap (λ x. x ++ first_line (drop (suc i) bs)) (sym (take_more bs i d l))
    ∙ ap (λ n. take (i + 1) bs ++ first_line (drop n bs)) more

pub found : (bs : List ℕ) (i d : ℕ) → i < length bs → (get_or bs i d == 10) ≡ true → IsInside bs i → take (i + 1) bs ≡ first_line bs
found bs i d l here so_far =
    let b = get_or bs i d in
    take_more bs i d l
    ∙ sym (so_far ∙ ap (λ x. take i bs ++ first_line x) (from_there bs i d l) ∙ ap (λ t. take i bs ++ (if t then b ∷ [] else (b ∷ first_line (drop (suc i) bs)))) here)

-- no line ends in the text
pub all_passed : (bs : List ℕ) → IsInside bs (length bs) → bs ≡ first_line bs
all_passed bs so_far =
    sym (so_far ∙ ap (λ x. take (length bs) bs ++ first_line x) (drop_all (length bs) bs (omega arith)) ∙ append-nil (take (length bs) bs) ∙ take_all (length bs) bs (omega arith))
