use Rattle.std.proofs.Common.{◌+◌, ◌*◌, max}
use Rattle.ab_sequents.proofs.mark_order.+agreeing.Given as goal

abbrev pub decreases-agree : goal.decreases-agree
decreases-agree l = 2 * l.a.0

abbrev pub decreases-agree_both : goal.decreases-agree_both
decreases-agree_both l = 2 * max l.a.0 l.b.0 + 1
