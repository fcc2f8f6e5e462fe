use Rattle.std.proofs.Common.{◌+◌, arith}
use Rattle.ab_syntax.proofs.Digits.{value_step, value_so_far}
use Rattle.ab_infer.proofs.name_meanings.value.Goals as goal

pub overflow_mul-value : goal.overflow_mul-value
overflow_mul-value c =
    let w = c.args.digits.now in
    let i = c.loop-digit.digit-index in
    omega (arith, value_step w i c.requires.digits c.loop-digit-test.true, value_so_far w (i + 1) (c.requires.digits, c.requires.short))

pub overflow_add-value : goal.overflow_add-value
overflow_add-value c =
    let w = c.args.digits.now in
    let i = c.loop-digit.digit-index in
    omega (arith, value_step w i c.requires.digits c.loop-digit-test.true, value_so_far w (i + 1) (c.requires.digits, c.requires.short))

pub loop-digit-preserved : goal.loop-digit-preserved
loop-digit-preserved c =
    let w = c.args.digits.now in
    let i = c.loop-digit.digit-index in
    let e = value_step w i c.requires.digits c.loop-digit-test.true in
    let v = c.loop-digit.invariant in
    omega (arith, e, v)
