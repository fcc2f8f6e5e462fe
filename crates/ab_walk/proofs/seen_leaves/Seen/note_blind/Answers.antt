use Rattle.std.proofs.Common.{◌++◌, true, sym, subst}
use Rattle.ab_walk.specs.Told.{Tells}
use Rattle.ab_walk.specs.Standing.{blind_if}
use Rattle.ab_walk.specs.declared.walk.Told.TheVariants.{Not}
use Rattle.ab_walk.proofs.Seeing.{blind_seen, none_seen}
use Rattle.ab_walk.proofs.seen_leaves.Seen.note_blind.Goals as goal

pub returns-then-here : goal.returns-then-here
returns-then-here c = λ done t.
    let s = c.args.self.now in
    subst (λ b. Tells (done ++ blind_if b) (Not s.stuck true)) (sym c.if-here.true) (blind_seen done s.stuck s.blind t)

pub returns-else-here : goal.returns-else-here
returns-else-here c = λ done t.
    let s = c.args.self.now in
    subst (λ b. Tells (done ++ blind_if b) (Not s.stuck s.blind)) (sym c.if-here.false) (none_seen done s.stuck s.blind t)
