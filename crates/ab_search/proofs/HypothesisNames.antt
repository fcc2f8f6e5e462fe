-- The names of the hypotheses of a goal.
use Rattle.std.specs.Prelude.{Contains, if◌then◌else◌, map, bytes_eq}
use Rattle.std.specs.Option.{IsSome}
use Rattle.std.proofs.Common.{◌≡◌, ℕ, List, [], ◌∷◌, true, false, Bool, Some, length, refl, subst, arith}
use Rattle.std.proofs.lemmas.Slice.Eq.{bytes_eq-Decides}
use Rattle.ab_term.proofs.Lists.{Contains-here, Contains-there}
use Rattle.ab_logic.specs.SequentReadings.{hypothesis_of}
use Rattle.ab_formulas.specs.Sequents.{named}
use Rattle.ab_logic.specs.declared.world.World.{World}
use Rattle.ab_logic.specs.declared.sequent.Hypothesis.{Hypothesis}

abbrev pub names : List Hypothesis → List (List ℕ)
names [] = []
names (h ∷ hs) = h.name ∷ names hs

pub count : (hs : List Hypothesis) → length (names hs) ≡ length hs
count [] = refl
count (h ∷ hs) = let rest = count hs in omega (arith, rest)

-- what names a hypothesis is among them
pub used : (w : World) (hs : List Hypothesis) (x : List ℕ) → IsSome (named (map (hypothesis_of w) hs) x) → Contains (names hs) x
used w [] x some = let clash : false ≡ true = some in cc
used w (h ∷ hs) x some = go (used w hs x) (bytes_eq h.name x) refl some
  where
    go : (IsSome (named (map (hypothesis_of w) hs) x) → Contains (names hs) x) → (b : Bool) → bytes_eq h.name x ≡ b → IsSome (if b then Some (hypothesis_of w h).formula else named (map (hypothesis_of w) hs) x) → Contains (names (h ∷ hs)) x
    go rest true e k = subst (Contains (h.name ∷ names hs)) ((bytes_eq-Decides h.name x).0 e) (Contains-here h.name (names hs))
    go rest false e k = Contains-there h.name (names hs) x (rest k)
