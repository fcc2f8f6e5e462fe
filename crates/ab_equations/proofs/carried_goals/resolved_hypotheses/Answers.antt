use Rattle.std.proofs.Common.{arith, sym, ap, subst, ◌∙◌}
use Rattle.ab_norm.specs.ab_store.specs.Trees.{Holds}
use Rattle.ab_norm.specs.ab_store.specs.Reading.{reading}
use Rattle.ab_logic.specs.declared.sequent.Hypothesis.{Hypothesis}
use Rattle.ab_norm.proofs.Frame.{adds_on}
use Rattle.ab_equations.proofs.Resolving.{resolved_more}
use Rattle.ab_equations.proofs.carried_goals.resolved_hypotheses.Goals as goal

pub copy_resolved-requires-clause-store : goal.copy_resolved-requires-clause-store
copy_resolved-requires-clause-store g c = c.loop-hypothesis.invariant.made.adds.typed c.args.types.now c.requires.store

pub copy_resolved-requires-clause-id : goal.copy_resolved-requires-clause-id
copy_resolved-requires-clause-id g c = c.loop-hypothesis.invariant.made.adds.before.ids _
    (subst (λ (h : Hypothesis). Holds c.args.store.now h.formula) (sym c.hypothesis-item.is) (c.requires.held c.loop-hypothesis.hypothesis-index c.hypothesis-item.result c.loop-hypothesis-test.true))

pub returns-in_err-formula-clause-adds : goal.returns-in_err-formula-clause-adds
returns-in_err-formula-clause-adds g c = adds_on _ _ _ c.loop-hypothesis.invariant.made.adds c.copy_resolved.ensures.adds

pub returns-in_err-name-clause-adds : goal.returns-in_err-name-clause-adds
returns-in_err-name-clause-adds g c = adds_on _ _ _ c.loop-hypothesis.invariant.made.adds c.copy_resolved.ensures.adds

pub returns-in_err-push-clause-adds : goal.returns-in_err-push-clause-adds
returns-in_err-push-clause-adds g c = adds_on _ _ _ c.loop-hypothesis.invariant.made.adds c.copy_resolved.ensures.adds

pub loop-hypothesis-preserved : goal.loop-hypothesis-preserved
loop-hypothesis-preserved g c =
    let h = c.hypothesis-item.result in
    let is = c.hypothesis-item.is in
    let counted = c.loop-hypothesis.invariant.counted in
    let more = c.copy_resolved.ensures.steps in
    record {
      made = resolved_more c.args.types.now c.args.store.now c.loop-hypothesis.store c.copy_resolved.new.store c.args.hypotheses.now c.loop-hypothesis.resolved.items c.push.new.self.items c.loop-hypothesis.hypothesis-index h
          c.in_ok-name.name c.in_ok-formula.formula c.loop-hypothesis.invariant.made c.loop-hypothesis-test.true c.requires.held c.copy_resolved.ensures.adds c.in_ok-formula.ensures.held
          (c.in_ok-formula.ensures.tree ∙ ap (λ (k : Hypothesis). reading c.args.types.now c.loop-hypothesis.store k.formula) is)
          (c.in_ok-name.ensures ∙ ap (λ (k : Hypothesis). k.name) is)
          c.in_ok-push.ensures.items;
      counted = omega (arith, counted, more);
    }
