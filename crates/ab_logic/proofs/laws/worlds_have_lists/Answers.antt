use Rattle.ab_logic.proofs.BuiltIn.{has_member, has_nil}
use Rattle.ab_logic.proofs.laws.worlds_have_lists.Goals as goal

pub returns-clause-member : goal.returns-clause-member
returns-clause-member c = has_member

pub returns-clause-nil : goal.returns-clause-nil
returns-clause-nil c = has_nil
