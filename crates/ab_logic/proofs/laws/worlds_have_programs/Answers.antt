use Rattle.ab_logic.proofs.Programs.{have_programs, program_is}
use Rattle.ab_logic.proofs.laws.worlds_have_programs.Goals as goal

pub returns-clause-clauses : goal.returns-clause-clauses
returns-clause-clauses c = have_programs

pub returns-clause-order : goal.returns-clause-order
returns-clause-order c = λ w. program_is w 0 w.additions
