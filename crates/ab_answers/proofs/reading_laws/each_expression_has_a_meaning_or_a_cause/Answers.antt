use Rattle.ab_existence.proofs.Certain.{of_two}
use Rattle.ab_answers.proofs.Readings.{meaning_there, statement_there}
use Rattle.ab_answers.proofs.reading_laws.each_expression_has_a_meaning_or_a_cause.Goals as goal

pub returns : goal.returns
returns c = record {
  meaning = λ D scope e A. of_two (meaning_there D scope e A);
  statement = λ D s e. of_two (statement_there D s e);
}
