-- What a proof command does to a proof, and to an attempt. Public contracts don't speak of this.
use Rattle.std.specs.Prelude.{◌≡◌, ◌≢◌, List, [], ◌∷◌, ◌++◌}
use Rattle.ab_grammar.specs.CommandTrees.{ProofCommand}
use Rattle.ab_formulas.specs.Declarations.{a_theorem, names_at}
use Rattle.ab_logic.specs.WorldGrowth.{Grows}
use Rattle.ab_formulas.specs.NewNames.{Label}
use Rattle.ab_formulas.specs.Sequents.{Sequent}
use Rattle.ab_logic.specs.Worlds.{read, declarations_of}
use Rattle.ab_logic.specs.declared.world.World.{World}
use Rattle.ab_theory.specs.Derivations.{IsTreeOf}
use Rattle.ab_theory.specs.Assumptions.{assumed_by}
use Rattle.ab_proofcmd.specs.ab_hypothesis.specs.ab_steps.specs.ab_kernel.specs.Layout.{Held, history_of, IsProof, Beyond, goals_of}
use Rattle.ab_meaning.specs.Refusals.{unknown, clash, type_clash, untyped, no_hypothesis, wrong_shape, mark, no_match, not_pattern, unresolved, names_spent}
use Rattle.ab_proofcmd.specs.ab_hypothesis.specs.ab_steps.specs.Progress.{Advances}
use Rattle.ab_proofcmd.specs.ab_hypothesis.specs.ab_steps.specs.ProofEffects.{OwesFor}
use Rattle.ab_proofcmd.specs.ab_hypothesis.specs.ab_steps.specs.declared.fault.ProofCommandFault.{ProofCommandFault}
use Rattle.ab_proofcmd.specs.ab_hypothesis.specs.ab_steps.specs.declared.fault.ProofCommandFault.TheVariants.{Unknown, Clash, TypeClash, Untyped, NoHypothesis, WrongShape, Mark, NoMatch, NotPattern, Unresolved, NamesSpent, Memory}
use Rattle.ab_states.specs.ab_specification.specs.ab_declare.specs.declared.refusal.Refusal.{Refusal}
use Rattle.ab_states.specs.ab_specification.specs.ab_declare.specs.Moments.{IsRestored}
use Rattle.ab_states.specs.ab_specification.specs.ab_declare.specs.Refusals.{refusal_for}
use Rattle.ab_states.specs.ProofCommandEffects.{Makes, Denies}
use Rattle.ab_states.specs.Reply.{reply_of, done}
use Rattle.ab_states.specs.declared.reply.Reply.{Reply}
use Rattle.ab_session.specs.declared.attempt.Attempt.{Attempt}
use Rattle.ab_session.specs.declared.attempt_steps.Outcome.{Outcome}
use Rattle.ab_session.specs.declared.attempt_steps.Outcome.TheVariants.{Refused, Left, Completed}

-- the refusal that the fault is; want of memory is none
abbrev pub TellsOf : ProofCommandFault → Refusal → Type 0
TellsOf (Unknown x) r = r ≡ refusal_for (unknown x)
TellsOf (Clash x) r = r ≡ refusal_for (clash x)
TellsOf (TypeClash p) r = r ≡ refusal_for (type_clash p)
TellsOf (Untyped p) r = r ≡ refusal_for (untyped p)
TellsOf (NoHypothesis x) r = r ≡ refusal_for (no_hypothesis x)
TellsOf WrongShape r = r ≡ refusal_for wrong_shape
TellsOf Mark r = r ≡ refusal_for mark
TellsOf NoMatch r = r ≡ refusal_for no_match
TellsOf (NotPattern i) r = r ≡ refusal_for (not_pattern i)
TellsOf (Unresolved x) r = r ≡ refusal_for (unresolved x)
TellsOf NamesSpent r = r ≡ refusal_for names_spent
TellsOf (Memory f) r = ⊥

-- what the command makes of the first goal took its place
abbrev pub IsMade : Label → ProofCommand → World → Held → World → Held → Type 0
IsMade l c w p v q = (s : Sequent) (rest : List Sequent) → goals_of w p ≡ s ∷ rest →
    (ps : List Sequent) × Makes (declarations_of w) l c s ps × (goals_of v q ≡ ps ++ rest)

-- the command is refused so at the first goal
abbrev pub IsDenied : Label → ProofCommand → World → Held → Refusal → Type 0
IsDenied l c w p r = (s : Sequent) (rest : List Sequent) → goals_of w p ≡ s ∷ rest → Denies (declarations_of w) l c s r

-- the attempt is as it was, in a world that may have more terms
pub record IsUnchanged (w : World) (a : Attempt) (v : World) (b : Attempt) : Type 0 where
  pub grows : Grows w v
  pub declared : declarations_of v ≡ declarations_of w
  pub name : b.name ≡ a.name
  pub formula : b.formula ≡ a.formula
  pub proof : b.proof ≡ a.proof

-- it went on, and goals are left
pub record GoesOn (l : Label) (c : ProofCommand) (w : World) (a : Attempt) (v : World) (b : Attempt) : Type 0 where
  pub made : IsMade l c w a.proof v b.proof
  pub advances : Advances w a.proof v b.proof
  pub owes : OwesFor c w a.proof v b.proof
  pub name : b.name ≡ a.name
  pub formula : b.formula ≡ a.formula
  pub goals : goals_of v b.proof ≢ []

-- no goal is left, the theorem stands behind all that was declared, and the reply tells of it
pub record IsCompleted (l : Label) (c : ProofCommand) (w : World) (a : Attempt) (v : World) (b : Attempt) (r : Reply) : Type 0 where
  pub made : IsMade l c w a.proof v b.proof
  pub grows : Grows w v
  pub declared : declarations_of v ≡ declarations_of w ++ a_theorem a.name (read w a.formula) (assumed_by (declarations_of w) (history_of v b.proof).tree) ∷ []
  pub owes : OwesFor c w a.proof v b.proof
  pub name : b.name ≡ a.name
  pub formula : b.formula ≡ a.formula
  pub beyond : Beyond a.proof b.proof
  pub proof : IsProof v b.proof
  pub derives : IsTreeOf (declarations_of w) (read w a.formula) (history_of v b.proof).tree
  pub replied : reply_of v r ≡ done a.name (names_at (declarations_of v) (assumed_by (declarations_of w) (history_of v b.proof).tree))

-- it is refused, and nothing is left of it
pub record IsRefusedSo (l : Label) (c : ProofCommand) (w : World) (a : Attempt) (v : World) (b : Attempt) (r : Refusal) : Type 0 where
  pub denied : IsDenied l c w a.proof r
  pub unchanged : IsUnchanged w a v b
  pub restored : IsRestored w v

abbrev pub Advanced : Label → ProofCommand → World → Attempt → World → Attempt → Outcome → Type 0
Advanced l c w a v b (Refused r) = IsRefusedSo l c w a v b r
Advanced l c w a v b Left = GoesOn l c w a v b
Advanced l c w a v b (Completed r) = IsCompleted l c w a v b r
