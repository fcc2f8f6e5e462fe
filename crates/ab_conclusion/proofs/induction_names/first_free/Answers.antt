use Rattle.std.proofs.Common.{◌+◌, ◌++◌, length, decimal, arith}
use Rattle.ab_logic.specs.SequentReadings.{sequent_of, hypothesis_of}
use Rattle.std.proofs.lemmas.List.{length-map}
use Rattle.ab_steps.specs.ab_kernel.specs.ab_judgements.specs.ab_alternatives.specs.ab_equations.specs.ab_free_names.proofs.Free.{too_many}
use Rattle.ab_conclusion.proofs.Numbering.{names_in, names_counted, used_among}
use Rattle.ab_conclusion.proofs.induction_names.first_free.Goals as goal

pub unreachable-requires : goal.unreachable-requires
unreachable-requires c =
    let w = c.args.world.now in
    let s = sequent_of w c.args.goal.now in
    let hs = c.args.goal.now.hypotheses in
    let word = c.args.word.now in
    let long = names_counted s in
    let same = length-map hs (hypothesis_of w) in
    let ended = c.loop-number-test.false in
    let last = c.last_number-last.ensures.last in
    let small = c.last_number-last.ensures.small in
    too_many (names_in s) word 1 (length hs + 1) (omega (arith, long, same)) (omega (arith, last, small))
    (λ m from below. used_among s (word ++ decimal m) (c.loop-number.invariant m from (omega (arith, ended, below, last))))
