-- WHAT IS TRUE OF ALL THAT A SESSION DECLARES: it begins with what is built in, what is defined is so by clauses of case
-- analysis, the program's clauses are typed, and theorems are sentences. And what is true of each state of a session.
use Rattle.std.specs.Prelude.{Option, Some, None}
use Rattle.ab_formulas.specs.Formulas.{IsSentence}
use Rattle.ab_formulas.specs.Declarations.{Declarations, Extends, HaveDefinitions, HaveSentences, signature_in}
use Rattle.ab_formulas.specs.Programs.{HavePrograms}
use Rattle.ab_logic.specs.Worlds.{first_declarations}
use Rattle.ab_states.specs.State.{Attempt, State}

pub record AreSound (D : Declarations) : Type 0 where
  pub first : Extends first_declarations D
  pub definitions : HaveDefinitions D
  pub programs : HavePrograms D
  pub sentences : HaveSentences D

-- the formula that is being proved, if one is, is a sentence
abbrev pub ProvesSentence : Declarations → Option Attempt → Type 0
ProvesSentence D None = Unit {0}
ProvesSentence D (Some a) = IsSentence (signature_in D) a.formula

pub record IsSound (s : State) : Type 0 where
  pub declarations : AreSound s.declarations
  pub attempt : ProvesSentence s.declarations s.attempt
