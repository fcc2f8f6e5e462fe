use Rattle.std.proofs.Common.{subst}
use Rattle.ab_rules.specs.UsedNumbers.{Gains, Excluded}
use Rattle.ab_rules.proofs.Chosen.{gains_blocked}
use Rattle.ab_rules.proofs.nabla_constants.exclude_in.Goals as goal

pub returns : goal.returns
returns c =
    gains_blocked _ c.len.ensures.table c.args.all c.args.ty c.requires.ty c.in_ok-names.names.items c.in_ok-names.ensures.held _ c.in_ok-names.ensures.support.same _ _
    (subst (λ ns. Gains c.args.numbers.now.items c.exclude.new.numbers.items (Excluded c.args.all c.args.ty ns)) c.deref.ensures.value c.in_ok-exclude.ensures)
