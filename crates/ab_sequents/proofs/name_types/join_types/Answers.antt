use Rattle.std.proofs.Common.{subst}
use Rattle.ab_sequents.specs.NameTypes.{IsStanding}
use Rattle.ab_sequents.proofs.Standings.{first_nowhere, first_mixed}
use Rattle.ab_sequents.proofs.name_types.join_types.Goals as goal

pub returns-in-Nowhere : goal.returns-in-Nowhere
returns-in-Nowhere c ns cs ds a b = first_nowhere c.args.types.now ns cs ds c.args.second (subst (IsStanding c.args.types.now ns cs) c.in-Nowhere.is a) b

pub returns-in-Mixed : goal.returns-in-Mixed
returns-in-Mixed c ns cs ds a b = first_mixed c.args.types.now ns cs ds (subst (IsStanding c.args.types.now ns cs) c.in-Mixed.is a)

pub returns-in-At : goal.returns-in-At
returns-in-At c ns cs ds a b = c.joined_to_one.ensures ns cs ds (subst (IsStanding c.args.types.now ns cs) c.in-At.is a) b
