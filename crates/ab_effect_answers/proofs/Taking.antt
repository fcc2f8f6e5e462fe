-- Each command that takes back what was kept has an effect.
use Rattle.std.proofs.Common.{◌≡◌, ◌⊎◌, inl, inr, ℕ, Bool, true, false, List, [], ◌∷◌, ◌++◌, refl, ap, subst}
use Rattle.ab_grammar.specs.declared.head.Stand.TheVariants.{Inside}
use Rattle.ab_grammar.specs.CommandTrees.{back, reset, undo}
use Rattle.ab_command.specs.CommandReadings.{StandsHere}
use Rattle.ab_command.proofs.Sayings.{said_stands}
use Rattle.ab_states.specs.State.{State, Entry, empty, is_open}
use Rattle.ab_states.specs.Reply.{Reply}
use Rattle.ab_states.specs.ForwardEffects.{Commands}
use Rattle.ab_states.specs.Replay.{Replays, none, next, IsReplayed}
use Rattle.ab_states.specs.StateEffects.{IsBeforeLast, HasEffect, took_back, nothing_kept, undid, began, emptied}
use Rattle.ab_states.proofs.Replaying.{goes_back}

-- the last of a list, if one is there
last_there : (xs : List Entry) → (xs ≡ []) ⊎ ((front : List Entry) × (last : Entry) × (xs ≡ front ++ last ∷ []))
last_there [] = inl refl
last_there (x ∷ xs) = by_rest (last_there xs)
  where
    by_rest : (xs ≡ []) ⊎ ((front : List Entry) × (last : Entry) × (xs ≡ front ++ last ∷ [])) → (x ∷ xs ≡ []) ⊎ ((front : List Entry) × (last : Entry) × (x ∷ xs ≡ front ++ last ∷ []))
    by_rest (inl empty_rest) = inr ([], x, ap (λ (ys : List Entry). x ∷ ys) empty_rest)
    by_rest (inr (front, last, e)) = inr (x ∷ front, last, ap (λ (ys : List Entry). x ∷ ys) e)

-- nothing is kept, or there is a state before the last command
before_last : (s : State) → IsReplayed s → (s.kept ≡ []) ⊎ ((t : State) × IsBeforeLast s t)
before_last s replayed = by_last (last_there s.kept)
  where
    by_last : (s.kept ≡ []) ⊎ ((front : List Entry) × (last : Entry) × (s.kept ≡ front ++ last ∷ [])) → (s.kept ≡ []) ⊎ ((t : State) × IsBeforeLast s t)
    by_last (inl nothing) = inl nothing
    by_last (inr (front, last, e)) = let t = goes_back front last replayed e in inr (t.0, t.1)

-- a state that keeps nothing is the first
replays_none : {s t : State} {es : List Entry} → Replays s es t → es ≡ [] → t ≡ s
replays_none none e = refl
replays_none (next reply h k p) e = absurd (cc)

first_state : (s : State) → IsReplayed s → s.kept ≡ [] → s ≡ empty
first_state s replayed none_kept = replays_none replayed none_kept

module _ (s : State) (bytes : List ℕ) (replayed : IsReplayed s) where
  abbrev pub Effect : Type 0
  Effect = (reply : Reply) × (t : State) × HasEffect s bytes [] reply t

  pub back_answered : Commands s bytes back → Effect
  back_answered says = elim (before_last s replayed) [ inl nothing ↦ (_, _, nothing_kept says nothing) | inr t ↦ (_, _, took_back says t.1) ]

  by_open : Commands s bytes undo → (t : State) → IsBeforeLast s t → (b : Bool) → is_open t ≡ b → Effect
  by_open says t before true e = (_, _, undid says before e)
  by_open says t before false e = (_, _, began says before e)

  -- where nothing is kept no proof is open
  pub undo_answered : Commands s bytes undo → Effect
  undo_answered says =
      elim (before_last s replayed) [
        | inl nothing ↦ (let here : StandsHere Inside (is_open s) = said_stands bytes (is_open s) undo says in absurd (subst (λ (u : State). StandsHere Inside (is_open u)) (first_state s replayed nothing) here))
        | inr t ↦ by_open says t.0 t.1 (is_open t.0) refl
      ]

  pub reset_answered : Commands s bytes reset → Effect
  reset_answered says = (_, _, emptied says)
