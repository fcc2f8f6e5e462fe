use Rattle.ab_command.proofs.Sayings.{said_stands, says_one, fails_one, says_or_fails}
use Rattle.ab_command.proofs.laws.bytes_have_one_meaning.Goals as goal

pub returns-clause-says : goal.returns-clause-says
returns-clause-says c = says_one

pub returns-clause-fails : goal.returns-clause-fails
returns-clause-fails c = fails_one

pub returns-clause-either : goal.returns-clause-either
returns-clause-either c = says_or_fails

pub returns-clause-stands : goal.returns-clause-stands
returns-clause-stands c = said_stands
