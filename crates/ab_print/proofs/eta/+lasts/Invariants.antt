use Rattle.std.proofs.Common.{◌+◌, ◌*◌, ◌^◌, length}
use Rattle.ab_print.proofs.Bounds.{ids_bound}
use Rattle.ab_print.proofs.eta.+lasts.Given as goal

abbrev pub decreases-is_bound_name : goal.decreases-is_bound_name
decreases-is_bound_name l = l.id.0 * 2 ^ 66 + 2 ^ 65

abbrev pub decreases-are_last : goal.decreases-are_last
decreases-are_last l = ids_bound l.ids.now * 2 ^ 66 + length l.ids.now
