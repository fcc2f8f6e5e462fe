use Rattle.std.specs.Prelude.{[], Ok, Err}
use Rattle.std.proofs.Common.{◌≡◌, ◌+◌, rules, refl, ◌∙◌, ap, subst}
use Rattle.ab_logic.specs.Worlds.{read}
use Rattle.ab_equations.specs.Labels.{label_of}
use Rattle.ab_steps.proofs.Following.{follows_on}
use Rattle.ab_meaning.specs.Refusals.{not_pattern}
use Rattle.ab_hypothesis.specs.CaseAnswers.{CantTake}
use Rattle.ab_hypothesis.specs.declared.stop.Stop.{Stop}
use Rattle.ab_hypothesis.proofs.Taking.{begun_there}
use Rattle.ab_hypothesis.proofs.Solving.{still_open}
use Rattle.ab_hypothesis.proofs.AtomRows.{they_wait, atom_taken, atom_nameless, atom_stuck, atom_shapeless, atom_marked}
use Rattle.ab_hypothesis.proofs.analysis.analyse.Goals as goal

pub first_over_cells-requires-clause-open : goal.first_over_cells-requires-clause-open
first_over_cells-requires-clause-open g c =
    let F = read c.args.world.now c.args.formula in
    still_open c.begin.new.world c.begin.new.proof c.in_ok-own.own F
    (begun_there c.args.world.now c.begin.new.world c.args.proof.now c.begin.new.proof c.args.keep c.args.name.now c.in_ok-own.own F F refl c.requires.open c.in_ok-own.ensures.begun)

pub split_by-requires-clause-open : goal.split_by-requires-clause-open
split_by-requires-clause-open g c =
    let F = read c.args.world.now c.args.formula in
    still_open c.begin.new.world c.begin.new.proof c.in_ok-own.own F
    (begun_there c.args.world.now c.begin.new.world c.args.proof.now c.begin.new.proof c.args.keep c.args.name.now c.in_ok-own.own F F refl c.requires.open c.in_ok-own.ensures.begun)

pub returns-in_err-count-clause-follows : goal.returns-in_err-count-clause-follows
returns-in_err-count-clause-follows g c = follows_on _ _ _ _ _ _ c.begin.ensures.follows c.split_by.ensures.follows

pub open_each-requires-clause-wait : goal.open_each-requires-clause-wait
open_each-requires-clause-wait g c =
    let w = c.args.world.now in
    they_wait w c.begin.new.world c.args.proof.now c.begin.new.proof c.args.keep c.args.name.now c.in_ok-own.own (read w c.args.formula) (label_of c.args.label.now)
    c.requires.world c.requires.proof c.requires.there c.requires.form c.begin.ensures.follows.declared c.in_ok-own.ensures.begun
    c.split_by.new.world c.split_by.new.proof c.in-Taken.count (c.split_by.ensures.took c.in-Taken.count (c.in_ok-count.was ∙ ap Ok c.in-Taken.is)) c.requires.open

pub returns-in_err-open_each-in-Taken-clause-follows : goal.returns-in_err-open_each-in-Taken-clause-follows
returns-in_err-open_each-in-Taken-clause-follows g c =
    follows_on _ _ _ _ _ _ c.begin.ensures.follows (follows_on _ _ _ _ _ _ c.split_by.ensures.follows c.open_each.ensures.follows)

pub returns-in_err-open_each-in-Taken-clause-stopped : goal.returns-in_err-open_each-in-Taken-clause-stopped
returns-in_err-open_each-in-Taken-clause-stopped g c e =
    let w = c.args.world.now in
    let two = follows_on _ _ _ _ _ _ c.begin.ensures.follows c.split_by.ensures.follows in
    let spent : c.open_each.result ≡ Err Stop.NamesSpent = search rules in
    atom_nameless w c.begin.new.world c.args.proof.now c.begin.new.proof c.args.keep c.args.name.now c.in_ok-own.own (read w c.args.formula) (label_of c.args.label.now)
    c.requires.world c.requires.proof c.requires.there c.requires.form c.begin.ensures.follows.declared c.in_ok-own.ensures.begun
    c.split_by.new.world c.split_by.new.proof c.in-Taken.count (c.split_by.ensures.took c.in-Taken.count (c.in_ok-count.was ∙ ap Ok c.in-Taken.is)) two.declared (c.open_each.ensures.stopped spent)

pub returns-in-Taken-clause-follows : goal.returns-in-Taken-clause-follows
returns-in-Taken-clause-follows g c =
    follows_on _ _ _ _ _ _ c.begin.ensures.follows (follows_on _ _ _ _ _ _ c.split_by.ensures.follows c.open_each.ensures.follows)

pub returns-in-Taken-clause-taken : goal.returns-in-Taken-clause-taken
returns-in-Taken-clause-taken g c e =
    let w = c.args.world.now in
    let two = follows_on _ _ _ _ _ _ c.begin.ensures.follows c.split_by.ensures.follows in
    atom_taken w c.begin.new.world c.args.proof.now c.begin.new.proof c.args.keep c.args.name.now c.in_ok-own.own (read w c.args.formula) (label_of c.args.label.now)
    c.requires.world c.requires.proof c.requires.there c.requires.form c.begin.ensures.follows.declared c.in_ok-own.ensures.begun
    c.split_by.new.world c.split_by.new.proof c.in-Taken.count (c.split_by.ensures.took c.in-Taken.count (c.in_ok-count.was ∙ ap Ok c.in-Taken.is))
    c.open_each.new.world c.open_each.new.proof two.declared c.in_ok-open_each-in-Taken.ensures.opened

pub returns-then-condition-eq2-clause-follows : goal.returns-then-condition-eq2-clause-follows
returns-then-condition-eq2-clause-follows g c = follows_on _ _ _ _ _ _ c.begin.ensures.follows c.split_by.ensures.follows

pub returns-then-condition-eq2-clause-shapeless : goal.returns-then-condition-eq2-clause-shapeless
returns-then-condition-eq2-clause-shapeless g c e =
    let w = c.args.world.now in
    atom_shapeless w c.begin.new.world c.args.proof.now c.begin.new.proof c.args.keep c.args.name.now c.in_ok-own.own (read w c.args.formula) (label_of c.args.label.now)
    c.requires.world c.requires.proof c.requires.there c.requires.form c.begin.ensures.follows.declared c.in_ok-own.ensures.begun
    c.in-Failed.condition c.if-condition-eq2.true (c.split_by.ensures.failed c.in-Failed.condition (c.in_ok-count.was ∙ ap Ok c.in-Failed.is))

pub returns-in-Failed-clause-follows : goal.returns-in-Failed-clause-follows
returns-in-Failed-clause-follows g c = follows_on _ _ _ _ _ _ c.begin.ensures.follows c.split_by.ensures.follows

pub returns-in-Failed-clause-marked : goal.returns-in-Failed-clause-marked
returns-in-Failed-clause-marked g c e =
    let w = c.args.world.now in
    atom_marked w c.begin.new.world c.args.proof.now c.begin.new.proof c.args.keep c.args.name.now c.in_ok-own.own (read w c.args.formula) (label_of c.args.label.now)
    c.requires.world c.requires.proof c.requires.there c.requires.form c.begin.ensures.follows.declared c.in_ok-own.ensures.begun
    c.in-Failed.condition c.if-condition-eq2.false (c.split_by.ensures.failed c.in-Failed.condition (c.in_ok-count.was ∙ ap Ok c.in-Failed.is))

pub returns-clause-follows : goal.returns-clause-follows
returns-clause-follows g c = follows_on _ _ _ _ _ _ c.begin.ensures.follows c.split_by.ensures.follows

pub returns-clause-stuck : goal.returns-clause-stuck
returns-clause-stuck g c i e =
    let w = c.args.world.now in
    let at = c.in-Stuck.place in
    let same : at ≡ i = cc in
    subst (λ n. CantTake w c.args.proof.now (label_of c.args.label.now) c.args.keep c.args.name.now (read w c.args.formula) (not_pattern (n + 1))) same
    (atom_stuck w c.begin.new.world c.args.proof.now c.begin.new.proof c.args.keep c.args.name.now c.in_ok-own.own (read w c.args.formula) (label_of c.args.label.now)
    c.requires.world c.requires.proof c.requires.there c.requires.form c.begin.ensures.follows.declared c.in_ok-own.ensures.begun c.first_over_cells.ensures
    at (c.split_by.ensures.stuck at (c.in_ok-count.was ∙ ap Ok c.in-Stuck.is)))
