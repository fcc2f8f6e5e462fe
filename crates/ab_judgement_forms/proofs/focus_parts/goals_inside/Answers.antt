use Rattle.std.proofs.Common.{ℕ, ◌-◌, get_or, arith, ap, ◌∙◌}
use Rattle.ab_term.specs.Reach.{raise}
use Rattle.ab_norm.specs.ab_store.specs.Trees.{Holds, tree_of}
use Rattle.ab_norm.proofs.Frame.{typed_on}
use Rattle.ab_judgement_forms.specs.declared.focus_parts.Placed.{Placed}
use Rattle.ab_judgement_forms.specs.PartWalks.{goal_inside}
use Rattle.ab_judgement_forms.proofs.OneMore.{one_more, one_more_held}
use Rattle.ab_judgement_forms.proofs.focus_parts.goals_inside.Goals as goal

pub returns-in_err-raised_term-clause-adds : goal.returns-in_err-raised_term-clause-adds
returns-in_err-raised_term-clause-adds c = typed_on c.args.types.now c.args.store.now c.loop-placed.store c.raised_term.new.store c.loop-placed.invariant.adds c.in_err-raised_term.ensures.adds

pub returns-in_err-push-clause-adds : goal.returns-in_err-push-clause-adds
returns-in_err-push-clause-adds c = typed_on c.args.types.now c.args.store.now c.loop-placed.store c.raised_term.new.store c.loop-placed.invariant.adds c.in_ok-raised_term.ensures.adds

pub loop-placed-preserved : goal.loop-placed-preserved
loop-placed-preserved c =
    let T = c.args.types.now in
    let S = c.args.store.now in
    let l = c.loop-placed in
    let U = c.raised_term.new.store in
    let adds = c.in_ok-raised_term.ensures.adds in
    let d : Placed = record { depth = 0; goal = record { 0 = 0 } } in
    let g = get_or c.args.goals.now l.placed-index d in
    let there : Holds S g.goal = c.requires.goals l.placed-index d (omega (arith, c.loop-placed-test.true)) in
    record {
      held = one_more_held T l.store U adds.before l.list.items c.push.new.self.items c.in_ok-raised_term.field-0 c.in_ok-push.ensures.items l.invariant.held c.in_ok-raised_term.ensures.held;
      trees = one_more T l.store U adds.before l.list.items c.push.new.self.items c.in_ok-raised_term.field-0 c.in_ok-push.ensures.items l.invariant.held
          (goal_inside T S c.args.count) c.args.goals.now l.placed-index d (omega (arith, c.loop-placed-test.true)) l.invariant.trees
          (c.in_ok-raised_term.ensures.tree ∙ ap (λ (k : ℕ). raise k 0 (tree_of T l.store g.goal)) c.saturating_sub-above.ensures ∙ ap (raise (c.args.count - g.depth) 0) (l.invariant.adds.before.trees T g.goal there));
      adds = typed_on T S l.store U l.invariant.adds adds;
    }
