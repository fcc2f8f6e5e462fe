use Rattle.std.proofs.Common.{◌≡◌, ◌-◌, ◌<◌, ◌≤◌, length, ap, arith}
use Rattle.ab_theory.specs.Derivations.{History, open_goals}
use Rattle.ab_steps.specs.ab_kernel.specs.Layout.{goals_of}
use Rattle.ab_steps.proofs.Following.{follows_on}
use Rattle.ab_conclusion.proofs.PartingGoals.{starts, parting_halves, parting_whole, parted_all, lighter_halves, lighter_whole}
use Rattle.ab_conclusion.proofs.conjunctions.split_before.Goals as goal

pub loop-place-init : goal.loop-place-init
loop-place-init g c = record { parting = starts c.args.world.now c.args.proof.now c.args.behind c.requires.world c.requires.proof; steps = omega arith }

pub returns-in_err-taken-clause-follows : goal.returns-in_err-taken-clause-follows
returns-in_err-taken-clause-follows g c = follows_on _ _ _ _ _ _ c.loop-place.invariant.parting.follows c.attempt.ensures.follows

pub loop-place-preserved-then-not-taken : goal.loop-place-preserved-then-not-taken
loop-place-preserved-then-not-taken g c =
    let v = c.loop-place.world in
    let q = c.loop-place.proof in
    let counted = c.open_goals.ensures v in
    let test = c.loop-place-test.true in
    let l : c.args.behind < length (goals_of v q) - c.loop-place.place = omega (arith, counted, test) in
    let same : goals_of c.attempt.new.world c.attempt.new.proof ≡ goals_of v q = ap (λ (h : History). open_goals h.tree) (c.in_ok-taken.ensures.same c.if-not-taken.true) in
    record {
      parting = parting_whole c.args.world.now v c.attempt.new.world c.args.proof.now q c.attempt.new.proof c.loop-place.place c.args.behind
          c.loop-place.invariant.parting l c.attempt.ensures.follows (c.in_ok-taken.ensures.failed c.if-not-taken.true) same;
      steps = omega (arith, c.loop-place.invariant.steps, c.attempt.ensures.steps);
    }

pub loop-place-smaller-then-not-taken : goal.loop-place-smaller-then-not-taken
loop-place-smaller-then-not-taken g c =
    let v = c.loop-place.world in
    let q = c.loop-place.proof in
    let counted = c.open_goals.ensures v in
    let test = c.loop-place-test.true in
    let l : c.loop-place.place < length (goals_of v q) = omega (arith, counted, test) in
    let same : goals_of c.attempt.new.world c.attempt.new.proof ≡ goals_of v q = ap (λ (h : History). open_goals h.tree) (c.in_ok-taken.ensures.same c.if-not-taken.true) in
    lighter_whole v c.attempt.new.world q c.attempt.new.proof c.loop-place.place l same

pub loop-place-preserved : goal.loop-place-preserved
loop-place-preserved g c =
    let v = c.loop-place.world in
    let q = c.loop-place.proof in
    let counted = c.open_goals.ensures v in
    let test = c.loop-place-test.true in
    let l : c.args.behind < length (goals_of v q) - c.loop-place.place = omega (arith, counted, test) in
    record {
      parting = parting_halves c.args.world.now v c.attempt.new.world c.args.proof.now q c.attempt.new.proof c.loop-place.place c.args.behind
          c.loop-place.invariant.parting l c.attempt.ensures.follows (c.in_ok-taken.ensures.took c.if-not-taken.false);
      steps = omega (arith, c.loop-place.invariant.steps, c.attempt.ensures.steps);
    }

pub loop-place-smaller : goal.loop-place-smaller
loop-place-smaller g c =
    let v = c.loop-place.world in
    let q = c.loop-place.proof in
    let counted = c.open_goals.ensures v in
    let test = c.loop-place-test.true in
    let l : c.loop-place.place < length (goals_of v q) = omega (arith, counted, test) in
    lighter_halves v c.attempt.new.world q c.attempt.new.proof c.loop-place.place l (c.in_ok-taken.ensures.took c.if-not-taken.false)

pub returns-clause-parted : goal.returns-clause-parted
returns-clause-parted g c =
    let v = c.loop-place.world in
    let q = c.loop-place.proof in
    let counted = c.open_goals.ensures v in
    let test = c.loop-place-test.false in
    let l : length (goals_of v q) - c.loop-place.place ≤ c.args.behind = omega (arith, counted, test) in
    parted_all c.args.world.now v c.args.proof.now q c.loop-place.place c.args.behind c.loop-place.invariant.parting l
