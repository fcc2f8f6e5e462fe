-- STATES WITHOUT COINDUCTIVE JUDGEMENTS: coinduction marks atoms alone, so that no formula of a session's state says a judgement that is marked `#`.
use Rattle.std.specs.Prelude.{Option, Some, None, All}
use Rattle.ab_search_answers.specs.Unmarked.{HasNoHash, HaveNoHash}
use Rattle.ab_states.specs.State.{Attempt, State}
use Rattle.ab_unhashed_goals.specs.Unhashed.{NoTheoremIsHashed, IsUnhashed}

-- the formula that is being proved says none, and no goal that is left of it
abbrev pub ProofIsUnhashed : Option Attempt → Type 0
ProofIsUnhashed None = Unit {0}
ProofIsUnhashed (Some a) = HasNoHash a.formula × All IsUnhashed a.goals

pub record IsUnhashedState (s : State) : Type 0 where
  pub definitions : HaveNoHash s.declarations
  pub theorems : NoTheoremIsHashed s.declarations
  pub attempt : ProofIsUnhashed s.attempt
