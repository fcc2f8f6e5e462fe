-- Free names in the order in which they first stand.
use Rattle.std.proofs.Common.{◌≡◌, ℕ, zero, suc, ◌<◌, Bool, true, false, ◌||◌, List, [], ◌∷◌, ◌++◌, length, get_or, refl, sym, ap, ◌∙◌, arith, if◌then◌else◌}
use Rattle.std.specs.Prelude.{bytes_eq}
use Rattle.std.proofs.lemmas.Slice.Eq.{bytes_eq-Decides}
use Rattle.ab_meaning.specs.ResolvedNames.{Name}
use Rattle.ab_meaning.specs.Types.{is_listed}
use Rattle.ab_infer.specs.Occurrences.{with_name, with_names}
use Rattle.ab_infer.specs.WalkMoves.{IsNumbered, was_there, is_new}

with_both : (xs ys zs : List Name) → with_names xs (ys ++ zs) ≡ with_names (with_names xs ys) zs
with_both xs [] zs = refl
with_both xs (y ∷ ys) zs = with_both (with_name xs y) ys zs

-- those of two parts
pub names_twice : (a b c xs ys : List Name) → b ≡ with_names a xs → c ≡ with_names b ys → c ≡ with_names a (xs ++ ys)
names_twice a b c xs ys e f = f ∙ (ap (λ zs. with_names zs ys) e ∙ sym (with_both a xs ys))

listed : (xs : List Name) (x : Name) (j : ℕ) → j < length xs → get_or xs j [] ≡ x → is_listed xs x ≡ true
listed [] x j l e = absurd (omega arith)
listed (y ∷ ys) x zero l e = ap (λ b. b || is_listed ys x) ((bytes_eq-Decides y x).1 e)
listed (y ∷ ys) x (suc j) l e = go (bytes_eq y x) (listed ys x j (omega arith) e)
  where
    go : (b : Bool) → is_listed ys x ≡ true → (b || is_listed ys x) ≡ true
    go true h = refl
    go false h = h

not_listed : (xs : List Name) (x : Name) → ((k : ℕ) → k < length xs → get_or xs k [] ≡ x → ⊥) → is_listed xs x ≡ false
not_listed [] x never = refl
not_listed (y ∷ ys) x never = go (bytes_eq y x) refl (not_listed ys x (λ k l e. never (suc k) (omega arith) e))
  where
    go : (b : Bool) → bytes_eq y x ≡ b → is_listed ys x ≡ false → (b || is_listed ys x) ≡ false
    go true e h = absurd (never zero (omega arith) ((bytes_eq-Decides y x).0 e))
    go false e h = h

pub numbered_order : (xs ys : List Name) (x : Name) (j : ℕ) → IsNumbered xs ys x j → ys ≡ with_name xs x
numbered_order xs _ x j (was_there l e) = sym (ap (λ b. if b then xs else xs ++ x ∷ []) (listed xs x j l e))
numbered_order xs _ x _ (is_new never) = sym (ap (λ b. if b then xs else xs ++ x ∷ []) (not_listed xs x never))
