use Rattle.std.proofs.Common.{◌≡◌, ◌+◌, ◌*◌, map, take}
use Rattle.std.specs.List.{All}
use Rattle.ab_norm.specs.ab_store.specs.Trees.{Holds, tree_of}
use Rattle.ab_norm.specs.NodeGrowth.{AddsTypedTerms}
use Rattle.ab_norm.proofs.Bounds.{ids_bound}
use Rattle.ab_logic.specs.Forms.{sign_of}
use Rattle.ab_formulas.specs.BodyMarks.{marked_in}
use Rattle.ab_sequents.specs.HeadMarks.{names_of}
use Rattle.ab_sequents.proofs.body_marks.+marking.Given as goal

abbrev pub decreases-mark : goal.decreases-mark
decreases-mark l = 3 * l.id.0 + 2

abbrev pub decreases-mark_spine : goal.decreases-mark_spine
decreases-mark_spine l = 3 * ids_bound l.args.now + 1

abbrev pub decreases-mark_all : goal.decreases-mark_all
decreases-mark_all l = 3 * ids_bound l.ids.now

abbrev pub invariant-mark_all-loop-id : goal.invariant-mark_all-loop-id
invariant-mark_all-loop-id l = record {
  adds : AddsTypedTerms l.types l.fn.store l.store;
  held : All (Holds l.store) l.made.items;
  reads : map (tree_of l.types l.store) l.made.items ≡ map (λ t. marked_in (names_of l.types l.predicates) (sign_of l.sign) (tree_of l.types l.fn.store t)) (take l.id-index l.ids);
}
