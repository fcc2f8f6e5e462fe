-- Lists that end in one more, and lists of items that begin alike.
use Rattle.std.proofs.Common.{◌≡◌, ℕ, List, [], ◌∷◌, ◌++◌, map, refl, sym, ap, ◌∙◌, append_assoc, ◌⊎◌, inl, inr}
use Rattle.ab_lex.specs.Commands.{Item, command}
use Rattle.ab_edit.specs.Prefixes.{IsMore}

no_middle : {A : Type 0} (before behind : List A) (b : A) → [] ≡ before ++ b ∷ behind → ⊥
no_middle [] behind b e = cc
no_middle (x ∷ before) behind b e = cc

-- where an element of a list with one more at its end stands: it is that one, or stands in the list
pub at_end_or_before : {A : Type 0} (ks : List A) (c : A) (before behind : List A) (b : A) → ks ++ c ∷ [] ≡ before ++ b ∷ behind
    → ((before ≡ ks) × (b ≡ c)) ⊎ ((others : List A) × (ks ≡ before ++ b ∷ others))
at_end_or_before [] c [] behind b e = let f : b ≡ c = cc in inl (refl, f)
at_end_or_before [] c (x ∷ before) behind b e =
    let f : [] ≡ before ++ b ∷ behind = cc in
    absurd (no_middle before behind b f)
at_end_or_before (k ∷ ks) c [] behind b e = let f : k ≡ b = cc in inr (ks, ap (λ q. q ∷ ks) f)
at_end_or_before (k ∷ ks) c (x ∷ before) behind b e =
    let f : k ≡ x = cc in
    let g : ks ++ c ∷ [] ≡ before ++ b ∷ behind = cc in
    elim (at_end_or_before ks c before behind b g) [
      | inl h ↦ let i : k ∷ ks ≡ x ∷ before = ap (λ q. q ∷ ks) f ∙ ap (λ q. x ∷ q) (sym h.0) in inl (sym i, h.1)
      | inr h ↦ inr (h.0, ap (λ q. q ∷ ks) f ∙ ap (λ q. x ∷ q) h.1)
    ]

-- items that begin with the same commands
pub same_later : (ks ls : List (List ℕ)) (a b : List Item) → map command (ks ++ ls) ++ a ≡ map command ks ++ b → map command ls ++ a ≡ b
same_later [] ls a b e = e
same_later (k ∷ ks) ls a b e =
    let f : map command (ks ++ ls) ++ a ≡ map command ks ++ b = cc in
    same_later ks ls a b f

pub map_both : (ks ls : List (List ℕ)) (b : List Item) → map command (ks ++ ls) ++ b ≡ map command ks ++ (map command ls ++ b)
map_both [] ls b = refl
map_both (k ∷ ks) ls b = ap (λ q. command k ∷ q) (map_both ks ls b)

-- the same command in front of both
pub more_behind : (k n : List ℕ) (front whole : List (List ℕ)) → k ≡ n → IsMore front whole → IsMore (k ∷ front) (n ∷ whole)
more_behind k n front whole f h = (h.0, ap (λ q. q ∷ whole) (sym f) ∙ ap (λ q. k ∷ q) h.1)

pub more_more : (a b c : List (List ℕ)) → IsMore a b → IsMore b c → IsMore a c
more_more a b c h m = (h.0 ++ m.0, m.1 ∙ (ap (λ q. q ++ m.0) h.1 ∙ append_assoc a h.0 m.0))
