use Rattle.ab_unifiers.proofs.Membership.{member_defined}
use Rattle.ab_unifiers.proofs.case_laws.member_is_defined.Goals as goal

pub returns : goal.returns
returns g = λ sg has. member_defined sg has
