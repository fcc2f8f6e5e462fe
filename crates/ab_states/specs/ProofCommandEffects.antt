-- What a proof command makes of the current goal: `search` closes it, where its search tree has an answer, and each other command
-- goes by its row.
use Rattle.std.specs.Prelude.{◌≡◌, ◌+◌, List, [], Option, Some, None}
use Rattle.ab_grammar.specs.CommandTrees.{ProofCommand, search}
use Rattle.ab_formulas.specs.Declarations.{Declarations}
use Rattle.ab_formulas.specs.NewNames.{Label}
use Rattle.ab_formulas.specs.Sequents.{Sequent}
use Rattle.ab_effects.specs.ProofCommands.{effect}
use Rattle.ab_meaning.specs.Refusals as row
use Rattle.ab_effects.specs.Row.{Leads, Refuses}
use Rattle.ab_search_trees.specs.Outcomes.{Outcome, closed, not_pattern, not_found, ComesTo}
use Rattle.ab_specification.specs.ab_declare.specs.declared.refusal.Refusal.{Refusal}
use Rattle.ab_specification.specs.ab_declare.specs.declared.refusal.Refusal.TheVariants.{NotPattern, NotFound}
use Rattle.ab_specification.specs.ab_declare.specs.Refusals.{refusal_for}

-- THESE TAKE THE GOAL'S PLACE
abbrev pub Makes : Declarations → Label → ProofCommand → Sequent → List Sequent → Type 0
Makes D l (search depth) s ps = ComesTo D depth s closed × (ps ≡ [])
Makes D l c s ps = Leads (effect D l c s) ps

-- the row refuses so
pub record RefusesSo (D : Declarations) (l : Label) (c : ProofCommand) (s : Sequent) (r : Refusal) : Type 0 where
  pub cause : row.Refusal
  pub refuses : Refuses (effect D l c s) cause
  pub is : r ≡ refusal_for cause

-- why a search is refused that comes to this; the tree counts equations from 0, and a refusal from 1
abbrev pub refusal_of : Outcome → Option Refusal
refusal_of closed = None
refusal_of (not_pattern i) = Some (NotPattern (i + 1))
refusal_of not_found = Some NotFound

-- THE COMMAND IS REFUSED
abbrev pub Denies : Declarations → Label → ProofCommand → Sequent → Refusal → Type 0
Denies D l (search depth) s r = (o : Outcome) × ComesTo D depth s o × (refusal_of o ≡ Some r)
Denies D l c s r = RefusesSo D l c s r
