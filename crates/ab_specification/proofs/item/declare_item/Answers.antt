use Rattle.std.specs.Prelude.{IfOk}
use Rattle.std.proofs.Common.{subst}
use Rattle.ab_grammar.specs.CommandTrees as command
use Rattle.ab_grammar.specs.FileTrees as file
use Rattle.ab_specification.specs.ItemAnswers.{ItemAnswer}
use Rattle.ab_specification.proofs.GrownWorlds.{grows_so, kinds_answer, constants_answer}
use Rattle.ab_specification.proofs.item.declare_item.Goals as goal

pub returns-in-Kind-clause-answer : goal.returns-in-Kind-clause-answer
returns-in-Kind-clause-answer g c =
    let w = c.args.world.now in
    let v = c.declare_kinds.new.world in
    let n = c.args.clauses_before in
    rw c.in-Kind.is
    (subst (λ xs. IfOk c.declare_kinds.result (ItemAnswer w v n (file.kinds xs))) c.as_slice.ensures (kinds_answer w v n c.as_slice.result.now c.declare_kinds.result c.declare_kinds.ensures.answer))

pub returns-in-Kind-clause-grows : goal.returns-in-Kind-clause-grows
returns-in-Kind-clause-grows g c =
    grows_so c.args.world.now c.declare_kinds.new.world (command.kinds c.as_slice.result.now) c.declare_kinds.result c.requires.world c.declare_kinds.ensures.answer c.declare_kinds.ensures.err

pub returns-in-Typed-clause-answer : goal.returns-in-Typed-clause-answer
returns-in-Typed-clause-answer g c =
    let w = c.args.world.now in
    let v = c.declare_constants.new.world in
    let n = c.args.clauses_before in
    rw c.in-Typed.is (constants_answer w v n c.as_slice-in-Typed.result.now _ _ c.declare_constants.result c.as_slice-in-Typed.ensures c.declare_constants.ensures.answer)

pub returns-in-Typed-clause-grows : goal.returns-in-Typed-clause-grows
returns-in-Typed-clause-grows g c =
    grows_so c.args.world.now c.declare_constants.new.world (command.constants c.as_slice-in-Typed.result.now _) c.declare_constants.result c.requires.world
    c.declare_constants.ensures.answer c.declare_constants.ensures.err
