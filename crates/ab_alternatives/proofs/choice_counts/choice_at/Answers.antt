use Rattle.std.proofs.Common.{◌≡◌, ◌<◌, List, length, get_or, sym, subst}
use Rattle.ab_typing.specs.declared.definitions.ClauseTerm.{ClauseTerm}
use Rattle.ab_instances.specs.ListReadings.{names_read}
use Rattle.ab_alternatives.specs.AtomReadings.{defined_read}
use Rattle.ab_alternatives.specs.ChoiceCounts.{choices_by, LiesIn}
use Rattle.ab_alternatives.proofs.Placed.{case_in, found_here, found_later, held_for}
use Rattle.ab_alternatives.proofs.choice_counts.choice_at.Goals as goal

pub returns-in-Within-clause-choice : goal.returns-in-Within-clause-choice
returns-in-Within-clause-choice c =
    let w = c.args.world.now in
    let a = c.args.atom.now in
    let held = names_read w.types c.args.held.now in
    let k = c.clause-item.result in
    let left = c.loop-clause.left in
    let lies = subst (LiesIn w k (choices_by held (defined_read w a) (case_in w k)) left) c.in-Within.is c.in_ok-names.ensures.lies in
    sym (found_here w a held c.as_slice-clause-items.result.now c.loop-clause.clause-index k c.loop-clause-test.true c.clause-item.is c.args.place left c.loop-clause.invariant c.in-Within.names.items lies.0)

pub returns-in-Within-clause-held : goal.returns-in-Within-clause-held
returns-in-Within-clause-held c =
    let w = c.args.world.now in
    let a = c.args.atom.now in
    let held = names_read w.types c.args.held.now in
    let k = c.clause-item.result in
    let i = c.loop-clause.clause-index in
    let left = c.loop-clause.left in
    let lies = subst (LiesIn w k (choices_by held (defined_read w a) (case_in w k)) left) c.in-Within.is c.in_ok-names.ensures.lies in
    let items = c.as_slice-clause-items.ensures in
    held_for w a held c.requires.atom i _ left
    (subst (λ (ks : List ClauseTerm). i < length ks) items c.loop-clause-test.true)
    (subst (λ (ks : List ClauseTerm). k ≡ get_or ks i k) items c.clause-item.is)
    lies.0 lies.1

pub loop-clause-preserved : goal.loop-clause-preserved
loop-clause-preserved c =
    let w = c.args.world.now in
    let a = c.args.atom.now in
    let held = names_read w.types c.args.held.now in
    let k = c.clause-item.result in
    let left = c.loop-clause.left in
    let behind = subst (LiesIn w k (choices_by held (defined_read w a) (case_in w k)) left) c.in-Behind.is c.in_ok-names.ensures.lies in
    found_later w a held c.as_slice-clause-items.result.now c.loop-clause.clause-index k c.loop-clause-test.true c.clause-item.is c.args.place left c.loop-clause.invariant c.in-Behind.rest behind
