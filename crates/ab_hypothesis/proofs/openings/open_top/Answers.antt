use Rattle.std.specs.Prelude.{reverse}
use Rattle.std.proofs.Common.{◌∷◌, List, subst}
use Rattle.ab_logic.specs.declared.sequent.Hypothesis.{Hypothesis}
use Rattle.ab_equations.specs.Labels.{label_of}
use Rattle.ab_hypothesis.specs.HypothesisProgress.{Goes, label_left}
use Rattle.ab_hypothesis.proofs.openings.open_top.Goals as goal

pub returns-in_ok-open_true-in-True-clause-goes : goal.returns-in_ok-open_true-in-True-clause-goes
returns-in_ok-open_true-in-True-clause-goes g c =
    let l = label_of c.args.label.now in
    let m = label_left l c.args.left in
    subst (λ (xs : List Hypothesis). Goes c.args.world.now c.args.proof.now c.args.place l m (c.args.top ∷ reverse xs) c.open_true.new.world c.open_true.new.proof m (reverse xs)) c.deref.ensures.value
    (c.in_ok-open_true-in-True.ensures.goes m)

pub returns-in_ok-open_both-in-And-clause-goes : goal.returns-in_ok-open_both-in-And-clause-goes
returns-in_ok-open_both-in-And-clause-goes g c = c.in_ok-open_both-in-And.ensures.goes (label_left (label_of c.args.label.now) c.args.left)

pub returns-in_ok-open_exists-in-Exists-clause-goes : goal.returns-in_ok-open_exists-in-Exists-clause-goes
returns-in_ok-open_exists-in-Exists-clause-goes g c = c.in_ok-open_exists-in-Exists.ensures.goes (label_left (label_of c.args.label.now) c.args.left)

pub returns-in_ok-open_nabla-in-Nabla-clause-goes : goal.returns-in_ok-open_nabla-in-Nabla-clause-goes
returns-in_ok-open_nabla-in-Nabla-clause-goes g c = c.in_ok-open_nabla-in-Nabla.ensures.goes (label_left (label_of c.args.label.now) c.args.left)
