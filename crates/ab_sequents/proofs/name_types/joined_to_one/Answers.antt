use Rattle.std.proofs.Common.{subst}
use Rattle.ab_sequents.specs.NameTypes.{IsStanding}
use Rattle.ab_sequents.specs.declared.name_types.Standing.TheVariants.{At}
use Rattle.ab_sequents.proofs.Standings.{second_nowhere, second_mixed, both_at, at_two}
use Rattle.ab_sequents.proofs.name_types.joined_to_one.Goals as goal

pub returns-in-Nowhere : goal.returns-in-Nowhere
returns-in-Nowhere c ns cs ds a b = second_nowhere c.args.types.now ns cs ds (At c.args.one) a (subst (IsStanding c.args.types.now ns ds) c.in-Nowhere.is b)

pub returns-in-Mixed : goal.returns-in-Mixed
returns-in-Mixed c ns cs ds a b = second_mixed c.args.types.now ns cs ds (subst (IsStanding c.args.types.now ns ds) c.in-Mixed.is b)

pub returns-then-are_same : goal.returns-then-are_same
returns-then-are_same c ns cs ds a b =
    both_at c.args.types.now ns cs ds c.args.one c.in-At.other (c.are_same.ensures.0 c.if-are_same.true) a (subst (IsStanding c.args.types.now ns ds) c.in-At.is b)

pub returns-else-are_same : goal.returns-else-are_same
returns-else-are_same c ns cs ds a b =
    let there = subst (IsStanding c.args.types.now ns ds) c.in-At.is b in
    at_two c.args.types.now ns cs ds c.args.one c.in-At.other
    (λ e. let same = c.are_same.ensures.1 (c.has_unique_ids.ensures.types c.args.one c.in-At.other a.0 there.0 e) in let no = c.if-are_same.false in cc) a there
