-- Terms that are given for names.
use Rattle.std.proofs.Common.{◌≡◌, ℕ, List, [], ◌∷◌, ◌++◌, Bool, true, false, not, cond, bytes_eq, Some, None, refl, ap}
use Rattle.ab_theory.specs.Pieces.{Given, given_for, given_otherwise}

pub none_given : (x : List ℕ) (gs : List Given) → given_for x gs ≡ None → given_otherwise x gs ≡ gs
none_given x [] e = refl
none_given x (g ∷ gs) e = go (bytes_eq g.name x) e (none_given x gs)
  where
    go : (b : Bool) → cond b (Some g.value) (given_for x gs) ≡ None → (given_for x gs ≡ None → given_otherwise x gs ≡ gs) → cond (not b) (g ∷ given_otherwise x gs) (given_otherwise x gs) ≡ g ∷ gs
    go true e rest = absurd (cc)
    go false e rest = ap (λ l. g ∷ l) (rest e)

pub otherwise_push : (x : List ℕ) (gs : List Given) (g : Given) → given_otherwise x (gs ++ g ∷ []) ≡ given_otherwise x gs ++ given_otherwise x (g ∷ [])
otherwise_push x [] g = refl
otherwise_push x (h ∷ gs) g = go (bytes_eq h.name x) (otherwise_push x gs g)
  where
    go : (b : Bool) → given_otherwise x (gs ++ g ∷ []) ≡ given_otherwise x gs ++ given_otherwise x (g ∷ [])
        → cond (not b) (h ∷ given_otherwise x (gs ++ g ∷ [])) (given_otherwise x (gs ++ g ∷ [])) ≡ cond (not b) (h ∷ given_otherwise x gs) (given_otherwise x gs) ++ given_otherwise x (g ∷ [])
    go true e = e
    go false e = ap (λ l. h ∷ l) e
