use Rattle.std.proofs.Common.{◌+◌, ◌*◌, ◌^◌, length}
use Rattle.ab_print.proofs.Bounds.{ids_bound}
use Rattle.ab_print.proofs.plain_terms.+drawn.Given as goal

abbrev pub decreases-draw : goal.decreases-draw
decreases-draw l = l.id.0 * 2 ^ 66 + 2 ^ 65

abbrev pub decreases-draw_all : goal.decreases-draw_all
decreases-draw_all l = ids_bound l.ids.now * 2 ^ 66 + length l.ids.now
