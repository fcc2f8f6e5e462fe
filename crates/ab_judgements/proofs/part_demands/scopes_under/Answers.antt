use Rattle.std.proofs.Common.{◌<◌, map, length, get_or, take_all, arith, sym, ap, ◌∙◌}
use Rattle.ab_term.specs.Terms.{Read}
use Rattle.ab_norm.specs.ab_store.specs.declared.node.TermId.{TermId}
use Rattle.ab_norm.specs.ab_store.specs.Trees.{Holds, tree_of}
use Rattle.ab_norm.proofs.Frame.{typed_on}
use Rattle.ab_theory.specs.Parts.{under_all}
use Rattle.ab_judgement_forms.specs.PartReadings.{name_read}
use Rattle.ab_judgement_forms.proofs.ClosedInTurn.{map_then}
use Rattle.ab_judgement_forms.proofs.OneMore.{one_more, one_more_held}
use Rattle.ab_judgements.proofs.part_demands.scopes_under.Goals as goal

pub returns-in_err-under_all-clause-adds : goal.returns-in_err-under_all-clause-adds
returns-in_err-under_all-clause-adds c = typed_on c.args.types.now c.args.store.now c.loop-goal.store c.under_all.new.store c.loop-goal.invariant.adds c.in_err-under_all.ensures.adds

pub returns-in_err-push-clause-adds : goal.returns-in_err-push-clause-adds
returns-in_err-push-clause-adds c = typed_on c.args.types.now c.args.store.now c.loop-goal.store c.under_all.new.store c.loop-goal.invariant.adds c.in_ok-under_all.ensures.adds

pub loop-goal-preserved : goal.loop-goal-preserved
loop-goal-preserved c =
    let T = c.args.types.now in
    let S = c.args.store.now in
    let l = c.loop-goal in
    let U = c.under_all.new.store in
    let adds = c.in_ok-under_all.ensures.adds in
    let d : TermId = record { 0 = 0 } in
    let g = get_or c.args.goals.now l.goal-index d in
    let within : l.goal-index < length c.args.goals.now = omega (arith, c.loop-goal-test.true) in
    let there : Holds S g = c.requires.goals l.goal-index d within in
    record {
      held = one_more_held T l.store U adds.before l.list.items c.push.new.self.items c.in_ok-under_all.field-0 c.in_ok-push.ensures.items l.invariant.held c.in_ok-under_all.ensures.held;
      trees = one_more T l.store U adds.before l.list.items c.push.new.self.items c.in_ok-under_all.field-0 c.in_ok-push.ensures.items l.invariant.held
          (λ t. under_all (map (name_read T) c.args.names.now) (tree_of T S t)) c.args.goals.now l.goal-index d within l.invariant.trees
          (c.in_ok-under_all.ensures.tree ∙ ap (under_all (map (name_read T) c.args.names.now)) (l.invariant.adds.before.trees T g there));
      adds = typed_on T S l.store U l.invariant.adds adds;
    }

pub returns-clause-trees : goal.returns-clause-trees
returns-clause-trees c =
    let T = c.args.types.now in
    let S = c.args.store.now in
    let f : TermId → Read = (λ t. under_all (map (name_read T) c.args.names.now) (tree_of T S t)) in
    c.loop-goal.invariant.trees
    ∙ ap (map f) (take_all c.loop-goal.goal-index c.args.goals.now (omega (arith, c.loop-goal-test.false)))
    ∙ sym (map_then (tree_of T S) (under_all (map (name_read T) c.args.names.now)) c.args.goals.now)
