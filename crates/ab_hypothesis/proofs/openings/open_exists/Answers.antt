use Rattle.std.specs.Prelude.{reverse}
use Rattle.std.proofs.Common.{◌∷◌, [], ◌∙◌, ap}
use Rattle.std.proofs.lemmas.List.{reverse-append}
use Rattle.ab_equations.specs.Labels.{label_of}
use Rattle.ab_steps.proofs.Following.{follows_not}
use Rattle.ab_hypothesis.proofs.Goes.{exists_sure, exists_there, exists_goes}
use Rattle.ab_hypothesis.proofs.openings.open_exists.Goals as goal

pub surely-requires-clause-sure : goal.surely-requires-clause-sure
surely-requires-clause-sure g c =
    let w = c.args.world.now in
    let p = c.args.proof.now in
    exists_sure w w p p c.args.place (label_of c.args.label.now) c.args.top (reverse c.args.pending.now.items) (follows_not w p c.requires.world c.requires.proof) c.requires.pending
    c.requires.form.0 c.requires.form.1 c.in_ok-name.name c.in_ok-given.given c.requires.form.2 c.in_ok-name.ensures c.in_ok-given.ensures

pub formula_at-formula-requires-clause-there : goal.formula_at-formula-requires-clause-there
formula_at-formula-requires-clause-there g c =
    exists_there c.args.world.now c.surely.new.world c.args.proof.now c.surely.new.proof c.args.place (label_of c.args.label.now) c.args.top (reverse c.args.pending.now.items)
    c.surely.ensures.follows c.requires.pending
    c.requires.form.0 c.requires.form.1 c.in_ok-name.name c.in_ok-given.given c.requires.form.2 c.in_ok-name.ensures c.in_ok-given.ensures c.in_ok-surely.ensures.took

pub returns-clause-goes : goal.returns-clause-goes
returns-clause-goes g c =
    exists_goes c.args.world.now c.surely.new.world c.args.proof.now c.surely.new.proof c.args.place (label_of c.args.label.now) c.args.top (reverse c.args.pending.now.items)
    c.surely.ensures.follows c.requires.pending
    c.requires.form.0 c.requires.form.1 c.in_ok-name.name c.in_ok-given.given c.requires.form.2 c.in_ok-name.ensures c.in_ok-given.ensures c.in_ok-surely.ensures.took
    c.formula_at-formula.result _
    (ap reverse c.in_ok-push.ensures.items ∙ reverse-append c.args.pending.now.items (record { name = c.args.top.name; formula = c.formula_at-formula.result } ∷ []))
    c.formula_at-formula.ensures.held c.formula_at-formula.ensures.reads
