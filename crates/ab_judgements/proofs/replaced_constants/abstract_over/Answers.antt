use Rattle.std.proofs.Common.{◌≡◌, ◌+◌, ◌-◌, ◌<◌, length, get_or, arith}
use Rattle.std.proofs.lemmas.List.{get_or_default}
use Rattle.ab_norm.specs.declared.nominal.Nominal.{Nominal}
use Rattle.ab_norm.proofs.Frame.{typed_on}
use Rattle.ab_judgements.proofs.Abstracting.{abstracted_none, abstracted_more, abstracted_whole}
use Rattle.ab_judgements.proofs.replaced_constants.abstract_over.Goals as goal

pub loop-left-init : goal.loop-left-init
loop-left-init c = abstracted_none c.args.types.now c.args.store.now c.args.constants.now c.args.term c.requires.store c.requires.term

pub loop-left-preserved : goal.loop-left-preserved
loop-left-preserved c =
    let names = c.args.constants.now in
    let before = c.loop-left.invariant.within in
    let next = c.loop-left.left - 1 in
    let none : Nominal = record { number = 0; ty = record { 0 = 0 } } in
    let a = get_or names next none in
    let inside : next < length names = omega arith in
    let one_more : next + 1 ≡ c.loop-left.left = omega arith in
    abstracted_more c.args.types.now c.args.store.now names c.args.term c.loop-left.store c.under_constant.new.store c.loop-left.left next a c.loop-left.here c.in_ok-here.here
    c.loop-left.invariant one_more (get_or_default names next none a inside) c.in_ok-here.ensures.adds c.in_ok-here.ensures.held c.in_ok-here.ensures.tree

pub returns-in_err-here-clause-adds : goal.returns-in_err-here-clause-adds
returns-in_err-here-clause-adds c = typed_on c.args.types.now c.args.store.now c.loop-left.store c.under_constant.new.store c.loop-left.invariant.adds c.in_err-here.ensures.adds

pub returns-clause-tree : goal.returns-clause-tree
returns-clause-tree c =
    abstracted_whole c.args.types.now c.args.store.now c.args.constants.now c.args.term c.loop-left.store c.loop-left.left c.loop-left.here c.loop-left.invariant (omega arith)
