-- THE EFFECT OF A PROOF COMMAND on a proof, by its row.
use Rattle.std.specs.Prelude.{◌≡◌, List, ◌∷◌, ◌++◌}
use Rattle.ab_grammar.specs.CommandTrees.{ProofCommand}
use Rattle.ab_formulas.specs.NewNames.{Label}
use Rattle.ab_formulas.specs.Sequents.{Sequent}
use Rattle.ab_logic.specs.Worlds.{declarations_of}
use Rattle.ab_logic.specs.declared.world.World.{World}
use Rattle.ab_kernel.specs.Layout.{Held, goals_of}
use Rattle.ab_effects.specs.ProofCommands.{effect}
use Rattle.ab_meaning.specs.Refusals.{unknown, clash, type_clash, untyped, no_hypothesis, wrong_shape, mark, no_match, not_pattern, unresolved, names_spent}
use Rattle.ab_effects.specs.Row.{Row, Leads, Refuses}
use Rattle.ab_effects.specs.Debts.{debts_at}
use Rattle.ab_steps.specs.Progress.{Owes}
use Rattle.ab_steps.specs.declared.fault.ProofCommandFault.{ProofCommandFault}
use Rattle.ab_steps.specs.declared.fault.ProofCommandFault.TheVariants.{Unknown, Clash, TypeClash, Untyped, NoHypothesis, WrongShape, Mark, NoMatch, NotPattern, Unresolved, NamesSpent, Memory}

-- the premises of the command's row took the first goal's place
abbrev pub IsApplied : Label → ProofCommand → World → Held → World → Held → Type 0
IsApplied l command w p v q = (s : Sequent) (rest : List Sequent) → goals_of w p ≡ s ∷ rest →
    (ps : List Sequent) × Leads (effect (declarations_of w) l command s) ps × (goals_of v q ≡ ps ++ rest)

-- what the command owes at the first goal the proof owes more, and nothing else
abbrev pub OwesFor : ProofCommand → World → Held → World → Held → Type 0
OwesFor command w p v q = (s : Sequent) (rest : List Sequent) → goals_of w p ≡ s ∷ rest → Owes (debts_at s command) w p v q

-- the row refuses so; want of memory is free
abbrev pub RefusedBy : Row → ProofCommandFault → Type 0
RefusedBy row (Unknown x) = Refuses row (unknown x)
RefusedBy row (Clash x) = Refuses row (clash x)
RefusedBy row (TypeClash p) = Refuses row (type_clash p)
RefusedBy row (Untyped p) = Refuses row (untyped p)
RefusedBy row (NoHypothesis x) = Refuses row (no_hypothesis x)
RefusedBy row WrongShape = Refuses row wrong_shape
RefusedBy row Mark = Refuses row mark
RefusedBy row NoMatch = Refuses row no_match
RefusedBy row (NotPattern i) = Refuses row (not_pattern i)
RefusedBy row (Unresolved x) = Refuses row (unresolved x)
RefusedBy row NamesSpent = Refuses row names_spent
RefusedBy row (Memory f) = Unit {0}

-- the command's row refuses it so at the first goal
abbrev pub IsRefused : Label → ProofCommand → World → Held → ProofCommandFault → Type 0
IsRefused l command w p fault = (s : Sequent) (rest : List Sequent) → goals_of w p ≡ s ∷ rest →
    RefusedBy (effect (declarations_of w) l command s) fault
