-- A command has some effect on a state, whatever is told of the files; and where a proof command is sure to find names.
use Rattle.std.specs.Prelude.{◌⊎◌, ℕ, List, Option}
use Rattle.ab_grammar.specs.CommandTrees.{ProofCommand}
use Rattle.ab_formulas.specs.Sequents.{Sequent}
use Rattle.ab_formulas.specs.NamedGoals.{Goal}
use Rattle.ab_sigmod.specs.FileLoads.{FilesSeen, Load, AreLoads}
use Rattle.ab_sigmod.specs.FileOrder.{Read, Fault, IsSpecification, IsRefused}
use Rattle.ab_answers.specs.FindsNames.{FindsNames}
use Rattle.ab_states.specs.State.{Attempt, State}
use Rattle.ab_states.specs.Reply.{Reply}
use Rattle.ab_states.specs.ForwardEffects.{Faces}
use Rattle.ab_states.specs.StateEffects.{HasEffectOver}

-- IF IT IS A PROOF COMMAND, IT FINDS NAMES for all that it makes of the current goal, whatever numbers the goal's variables have
abbrev pub CommandFindsNames : State → List ℕ → Type 0
CommandFindsNames s bytes =
    (l : Option (List ℕ)) (c : ProofCommand) (a : Attempt) (t : Sequent) (gs : List Goal) → Faces s bytes l c a t gs → FindsNames s.declarations c t

-- SOME EFFECT: a reply and a next state, by some loads from files of which this was told
abbrev pub HasSomeEffect : FilesSeen → State → List ℕ → Type 0
HasSomeEffect before s bytes = (after : FilesSeen) × (reply : Reply) × (t : State) × HasEffectOver before after s bytes reply t

-- THE FILES of a specification of that name are read, or they can't be, by some loads
abbrev pub AreReadOrNot : FilesSeen → List ℕ → Type 0
AreReadOrNot before x =
    (loads : List Load) × (after : FilesSeen) × AreLoads before loads after × (((files : List Read) × IsSpecification x loads files) ⊎ ((fault : Fault) × IsRefused x loads fault))
