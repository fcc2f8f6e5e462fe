use Rattle.std.specs.Prelude.{reverse}
use Rattle.ab_logic.specs.Worlds.{read}
use Rattle.ab_equations.specs.Labels.{label_of}
use Rattle.ab_hypothesis.proofs.Goes.{true_goes}
use Rattle.ab_hypothesis.proofs.Moves.{on_ok}
use Rattle.ab_hypothesis.proofs.openings.open_true.Goals as goal

pub forget-requires-clause-there : goal.forget-requires-clause-there
forget-requires-clause-there g c =
    let pending = c.requires.pending in
    (read c.args.world.now c.args.top.now.formula, record { before = pending.before; behind = pending.behind; goal = pending.goal; at = pending.at; has = pending.all.0 })

pub returns-clause-goes : goal.returns-clause-goes
returns-clause-goes g c =
    on_ok c.forget.result
    (true_goes c.args.world.now c.forget.new.world c.args.proof.now c.forget.new.proof c.args.place (label_of c.args.label.now) c.args.top.now (reverse c.args.pending.now)
    c.forget.ensures.follows c.requires.pending c.requires.form)
    c.forget.ensures.forgotten
