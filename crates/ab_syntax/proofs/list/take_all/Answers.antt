use Rattle.ab_expressions.specs.Reader.{rest}
use Rattle.ab_syntax.proofs.Taking.{one_more_shown, no_more_shown}
use Rattle.ab_syntax.proofs.list.take_all.Goals as goal

pub loop-values-preserved : goal.loop-values-preserved
loop-values-preserved g c =
    let s = rw c.in-Some.is at c.in_ok-value.ensures in
    rw s.2 (one_more_shown (g.S.Shown.leaf c.args.form).shows (g.S.Shown.leaf c.args.form).meant (g.S.Shown.leaf c.args.form).one c.args.text.now c.loop-values.here (rest c.args.text.now c.args.here.now) c.loop-values.values.items c.add.new.items.items c.in-Some.value s.0 c.in_ok-add.ensures c.loop-values.invariant)

pub returns : goal.returns
returns g c =
    let n = rw c.in_default.is at c.in_ok-value.ensures in
    rw (c.from_vec.ensures, n.1) (no_more_shown (g.S.Shown.leaf c.args.form).shows (g.S.Shown.leaf c.args.form).meant c.args.text.now c.loop-values.here (rest c.args.text.now c.args.here.now) c.loop-values.values.items n.0 c.loop-values.invariant)
