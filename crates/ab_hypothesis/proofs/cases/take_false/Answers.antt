use Rattle.ab_logic.specs.Worlds.{read}
use Rattle.ab_hypothesis.proofs.Moves.{on_ok}
use Rattle.ab_hypothesis.proofs.Taking.{false_sure, false_taken}
use Rattle.ab_equations.specs.Labels.{label_of}
use Rattle.ab_hypothesis.proofs.cases.take_false.Goals as goal

pub surely-requires-clause-sure : goal.surely-requires-clause-sure
surely-requires-clause-sure g c =
    false_sure c.args.world.now c.args.proof.now c.args.name.now (read c.args.world.now c.args.formula) c.requires.there c.requires.form c.in_ok-own.own c.in_ok-own.ensures

pub returns-clause-taken : goal.returns-clause-taken
returns-clause-taken g c =
    on_ok c.surely.result
    (false_taken c.args.world.now c.surely.new.world c.args.proof.now c.surely.new.proof c.args.keep c.args.name.now c.in_ok-own.own (read c.args.world.now c.args.formula) (label_of c.args.label.now) c.requires.form)
    c.surely.ensures.took
