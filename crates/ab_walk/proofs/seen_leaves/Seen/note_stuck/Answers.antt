use Rattle.std.proofs.Common.{◌++◌, ◌∷◌, [], not, ◌∙◌, ap, subst}
use Rattle.ab_search_trees.specs.Tree.{stuck_at}
use Rattle.ab_walk.specs.Told.{Tells}
use Rattle.ab_walk.specs.declared.walk.Told.TheVariants.{Not}
use Rattle.ab_walk.proofs.OutcomesJoined.{first_none, first_some}
use Rattle.ab_walk.proofs.Seeing.{stuck_seen}
use Rattle.ab_walk.proofs.seen_leaves.Seen.note_stuck.Goals as goal

pub returns-then-is_none : goal.returns-then-is_none
returns-then-is_none c = λ done t.
    let s = c.args.self.now in
    subst (λ o. Tells (done ++ stuck_at c.args.equation ∷ []) (Not o s.blind)) (first_none s.stuck c.args.equation (c.is_none.ensures ∙ ap not c.if-is_none.true)) (stuck_seen done s.stuck s.blind c.args.equation t)

pub returns-else-is_none : goal.returns-else-is_none
returns-else-is_none c = λ done t.
    let s = c.args.self.now in
    subst (λ o. Tells (done ++ stuck_at c.args.equation ∷ []) (Not o s.blind)) (first_some s.stuck c.args.equation (c.is_none.ensures ∙ ap not c.if-is_none.false)) (stuck_seen done s.stuck s.blind c.args.equation t)
