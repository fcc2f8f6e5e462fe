use Rattle.ab_lex.proofs.UnitRow.{units_there, units_unique}
use Rattle.ab_lex.proofs.laws.one_row_of_units.Goals as goal

pub returns : goal.returns
returns c = record {
  some = units_there;
  only = λ text left other units others h k. units_unique h k;
}
