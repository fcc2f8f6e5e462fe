-- Each proof command makes goals of the current one, or it is denied; and so it has an effect where a proof is open.
use Rattle.std.proofs.Common.{◌≡◌, ◌⊎◌, inl, inr, ℕ, ◌+◌, List, [], ◌∷◌, ◌++◌, map, All, Option, Some, None, is_some, refl, subst}
use Rattle.std.proofs.lemmas.List.Elements.{All-head}
use Rattle.ab_grammar.specs.declared.head.Stand.TheVariants.{Inside}
use Rattle.ab_grammar.specs.CommandTrees.{ProofCommand, search, in_proof}
use Rattle.ab_command.specs.CommandReadings.{StandsHere}
use Rattle.ab_command.proofs.Sayings.{said_stands}
use Rattle.ab_formulas.specs.Declarations.{Declarations, HaveDefinitions}
use Rattle.ab_formulas.specs.NewNames.{Label}
use Rattle.ab_formulas.specs.NamedGoals.{Goal, named, IsNumbered}
use Rattle.ab_formulas.specs.Sequents.{Sequent, IsSequent}
use Rattle.ab_effects.specs.ProofCommands.{effect, given_label}
use Rattle.ab_effects.specs.Row.{Leads}
use Rattle.ab_search_trees.specs.Outcomes.{Outcome, closed, not_pattern, not_found, ComesTo, outcome_of}
use Rattle.ab_search_trees.proofs.Some.{searched}
use Rattle.ab_declare.specs.declared.refusal.Refusal.{Refusal}
use Rattle.ab_declare.specs.Refusals.{refusal_for}
use Rattle.ab_states.specs.State.{Attempt, State, plain, is_open}
use Rattle.ab_states.specs.Reply.{Reply}
use Rattle.ab_states.specs.ProofCommandEffects.{Makes, Denies, RefusesSo}
use Rattle.ab_states.specs.ForwardEffects.{Commands, Faces, GoesForward, denied, led, proved}
use Rattle.ab_answers.specs.FindsNames.{FindsNames}
use Rattle.ab_answers.proofs.Places.{places_of, are_places}
use Rattle.ab_answers.proofs.Commands.{command_answered}
use Rattle.ab_existence.specs.Certainty.{IsCertain}
use Rattle.ab_existence.proofs.Certain.{sure, and_also}
use Rattle.ab_effect_answers.specs.WholeStates.{IsGoal, HasGoals, IsWhole}
use Rattle.ab_effect_answers.specs.SomeEffects.{CommandFindsNames}
use Rattle.ab_effect_answers.proofs.Goals.{LeavesGoals, goals_left}

-- THE COMMAND AT A SEQUENT
module _ (D : Declarations) (definitions : HaveDefinitions D) (l : Label) (s : Sequent) (is : IsSequent D s) where
  abbrev Answer : ProofCommand → Type 0
  Answer c = ((ps : List Sequent) × Makes D l c s ps) ⊎ ((r : Refusal) × Denies D l c s r)

  by_row : (c : ProofCommand) → FindsNames D c s → IsCertain (((ps : List Sequent) × Leads (effect D l c s) ps) ⊎ ((r : Refusal) × RefusesSo D l c s r))
  by_row c finds =
      and_also (command_answered D l c s finds is.numbers_differ)
      (λ a. elim a [ inl leads ↦ inl leads | inr f ↦ inr (refusal_for f.0, record { cause = f.0; refuses = f.1; is = refl }) ])

  by_outcome : (depth : ℕ) (o : Outcome) → ComesTo D depth s o → Answer (search depth)
  by_outcome depth closed comes = inl ([], (comes, refl))
  by_outcome depth (not_pattern i) comes = inr (_, (not_pattern i, comes, refl))
  by_outcome depth not_found comes = inr (_, (not_found, comes, refl))

  pub command_there : (c : ProofCommand) → FindsNames D c s → IsCertain (Answer c)
  command_there (search depth) finds =
      let ls = searched D definitions (places_of s) depth s is in
      sure (by_outcome depth (outcome_of ls.0) (places_of s, are_places s is.numbers_differ, ls.0, ls.1, refl))
  command_there c finds = by_row c finds

-- THE COMMAND WHERE A PROOF IS OPEN

inside : (o : Option Attempt) → StandsHere Inside (is_some o) → (a : Attempt) × (o ≡ Some a)
inside None here = absurd here
inside (Some a) here = (a, refl)

module _ (s : State) (bytes : List ℕ) (whole : IsWhole s) (names : CommandFindsNames s bytes) (l : Option (List ℕ)) (c : ProofCommand) (says : Commands s bytes (in_proof l c)) where
  abbrev Effect : Type 0
  Effect = (reply : Reply) × (t : State) × GoesForward s (plain bytes) reply t

  module _ (a : Attempt) (open_as : s.attempt ≡ Some a) (g : Goal) (gs : List Goal) (goals : a.goals ≡ g ∷ gs) (t : Sequent) (numbered : IsNumbered s.declarations g t) where
    faces : Faces s bytes l c a t gs
    faces = record { says = says; attempt = open_as; current = g; goals = goals; numbered = numbered }

    by_left : (ps : List Sequent) → Makes s.declarations (given_label l) c t ps → (left : List Goal) → map named ps ++ gs ≡ left → Effect
    by_left ps makes [] e = (_, _, proved l c a t gs ps faces makes e)
    by_left ps makes (h ∷ hs) e = (_, _, led l c a t gs ps h hs faces makes e)

    at_goal : IsCertain Effect
    at_goal =
        and_also (command_there s.declarations whole.definitions (given_label l) t numbered.sequent c (names l c a t gs faces))
        (λ answer. elim answer [
          | inl ps ↦ by_left ps.0 ps.1 (map named ps.0 ++ gs) refl
          | inr r ↦ (_, _, denied l c a t gs r.0 faces r.1)
        ])

  in_attempt : (a : Attempt) → s.attempt ≡ Some a → (gs : List Goal) → a.goals ≡ gs → LeavesGoals (Some a) → All (IsGoal s.declarations) gs → IsCertain Effect
  in_attempt a open_as [] goals some all = absurd (some goals)
  in_attempt a open_as (g ∷ gs) goals some all = let t = All-head (IsGoal s.declarations) g gs all in at_goal a open_as g gs goals t.0 t.1

  pub proof_command_answered : IsCertain Effect
  proof_command_answered =
      let tried = inside s.attempt (said_stands bytes (is_open s) (in_proof l c) says) in
      in_attempt tried.0 tried.1 tried.0.goals refl (subst LeavesGoals tried.1 (goals_left s whole.replayed)) (subst (HasGoals s.declarations) tried.1 whole.goals)
