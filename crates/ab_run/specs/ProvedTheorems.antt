-- Theorems that are proved, in terms of the kernel's derivations.
use Rattle.ab_session.specs.ab_states.specs.State.{State}
use Rattle.ab_session.specs.ab_states.specs.Reply.{Reply, completed, admitted}
use Rattle.ab_session.specs.ab_states.specs.DerivedTheorems.{AreDerived}
use Rattle.ab_session.specs.SessionAnswers.{IsDerivedLast, IsProvedLast}

-- where the reply says that a theorem is proved, it is the last of the state, and proved; where it says what it assumes, it is the
-- last, and has a derivation, perhaps with gaps
abbrev pub IsBorneOut : Reply → State → Type 0
IsBorneOut (completed name) s = IsProvedLast s.declarations name
IsBorneOut (admitted name names) s = IsDerivedLast s.declarations name
IsBorneOut reply s = Unit {0}

-- EACH THEOREM of the state has a derivation, from what was declared before it
abbrev pub AllDerived : State → Type 0
AllDerived s = AreDerived s.declarations
