-- WHAT THE TERMS OF A GUESS HOLD.
use Rattle.std.proofs.Common.{ℕ, List, [], ◌∷◌, map, Bool, true, false, Option, Some, None, option_map}
use Rattle.std.specs.Prelude.{All}
use Rattle.std.proofs.lemmas.List.Elements.{All-head, All-tail}
use Rattle.ab_term.specs.Terms.{Read}
use Rattle.ab_term.specs.Typing.{Signature}
use Rattle.ab_unifiers.specs.Replacements.{Cell}
use Rattle.ab_unifiers.specs.Clauses.{Each}
use Rattle.ab_coverage.proofs.IndexedSpecClauses.{left_open, spread}
use Rattle.ab_coverage.proofs.IndexedInstances.{IsGuess}
use Rattle.ab_coverage.proofs.Clausal.{guessed}

-- what is said of each term that is there
abbrev OneHolds : (Read → Type 0) → Option Read → Type 0
OneHolds P None = Unit {0}
OneHolds P (Some u) = P u

abbrev pub AllHold : (Read → Type 0) → List (Option Read) → Type 0
AllHold P [] = Unit {0}
AllHold P (v ∷ vs) = OneHolds P v × AllHold P vs

pub spread_hold : (P : Read → Type 0) (fs : List Bool) (ms : List Read) → All P ms → AllHold P (spread fs ms)
spread_hold P [] ms a = tt
spread_hold P (true ∷ fs) ms a = (tt, spread_hold P fs ms a)
spread_hold P (false ∷ fs) [] a = (tt, spread_hold P fs [] a)
spread_hold P (false ∷ fs) (m ∷ ms) a = (All-head P m ms a, spread_hold P fs ms (All-tail P m ms a))

pub mapped_hold : (P Q : Read → Type 0) (f : Read → Read) → ((u : Read) → P u → Q (f u)) → (vs : List (Option Read)) → AllHold P vs → AllHold Q (map (option_map f) vs)
mapped_hold P Q f step [] a = tt
mapped_hold P Q f step (None ∷ vs) a = (tt, mapped_hold P Q f step vs a.1)
mapped_hold P Q f step (Some u ∷ vs) a = (step u a.0, mapped_hold P Q f step vs a.1)

pub guessed_hold : (sg : Signature) (P : Read → Type 0) (fs : List Bool) (bs : List (Cell (List ℕ))) (vs : List (Option Read)) (g : IsGuess sg fs bs vs) → AllHold P vs → Each (λ k u. P u) (left_open fs bs) (guessed sg fs bs vs g)
guessed_hold sg P [] [] [] g a = tt
guessed_hold sg P (true ∷ fs) (b ∷ bs) (None ∷ vs) g a = guessed_hold sg P fs bs vs g a.1
guessed_hold sg P (false ∷ fs) (b ∷ bs) (Some u ∷ vs) g a = (a.0, guessed_hold sg P fs bs vs g.1 a.1)
guessed_hold sg P fs bs vs g a = absurd g
