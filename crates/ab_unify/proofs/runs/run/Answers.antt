use Rattle.std.proofs.Common.{◌++◌, ◌+◌, ◌≤◌, Some, None, subst, arith}
use Rattle.ab_unify.proofs.Growth.{grows_none, grows_on}
use Rattle.ab_unify.specs.States.{Advances, rules_in}
use Rattle.ab_unify.proofs.Ran.{run_begins, run_on, step_less, run_ends, run_counts}
use Rattle.ab_unify.proofs.runs.run.Goals as goal

pub steps-init : goal.steps-init
steps-init g c =
    let types = c.args.types.now in
    let store = c.args.store.now in
    let F = c.args.flexible.now.items in
    record {
      grows = grows_none types store c.requires.store;
      counted = omega arith;
      free = c.requires.free;
      equations = c.requires.equations;
      rest = c.requires.rest;
      run = run_begins types store F (c.args.waiting.now.items ++ c.args.queue.now.items) c.args.steps.now c.requires.store c.requires.free;
    }

pub returns-in_err-verdict-clause-grows : goal.returns-in_err-verdict-clause-grows
returns-in_err-verdict-clause-grows g c =
    grows_on c.args.types.now c.steps.types c.advance.new.types c.args.store.now c.steps.store c.advance.new.store c.steps.invariant.grows c.in_err-verdict.ensures.grows

pub returns-in-Some-clause-grows : goal.returns-in-Some-clause-grows
returns-in-Some-clause-grows g c =
    grows_on c.args.types.now c.steps.types c.advance.new.types c.args.store.now c.steps.store c.advance.new.store c.steps.invariant.grows c.advance.ensures.grows

pub returns-in-Some-clause-counts : goal.returns-in-Some-clause-counts
returns-in-Some-clause-counts g c =
    let T0 = c.args.types.now in
    let S0 = c.args.store.now in
    let F0 = c.args.flexible.now.items in
    let es = c.args.waiting.now.items ++ c.args.queue.now.items in
    let T = c.steps.types in
    let S = c.steps.store in
    let F = c.steps.flexible.items in
    let left = c.steps.waiting.items ++ c.steps.queue.items in
    let U = c.advance.new.types in
    let V = c.advance.new.store in
    let H = c.advance.new.flexible.items in
    let then_left = c.advance.new.waiting.items ++ c.advance.new.queue.items in
    let step : Advances T S F left U V H then_left (Some c.in-Some.verdict) = subst (Advances T S F left U V H then_left) c.in-Some.is c.in_ok-verdict.ensures.advances in
    let more : c.steps.steps + rules_in (Some c.in-Some.verdict) ≤ c.advance.new.steps = subst (λ v. c.steps.steps + rules_in v ≤ c.advance.new.steps) c.in-Some.is c.in_ok-verdict.ensures.counts in
    run_counts T0 S0 F0 es T S F left U V H then_left c.args.steps.now c.steps.steps c.advance.new.steps c.in-Some.verdict c.steps.invariant.run step more

pub returns-in-Some-clause-runs : goal.returns-in-Some-clause-runs
returns-in-Some-clause-runs g c =
    let T0 = c.args.types.now in
    let S0 = c.args.store.now in
    let F0 = c.args.flexible.now.items in
    let es = c.args.waiting.now.items ++ c.args.queue.now.items in
    let T = c.steps.types in
    let S = c.steps.store in
    let F = c.steps.flexible.items in
    let left = c.steps.waiting.items ++ c.steps.queue.items in
    let U = c.advance.new.types in
    let V = c.advance.new.store in
    let H = c.advance.new.flexible.items in
    let then_left = c.advance.new.waiting.items ++ c.advance.new.queue.items in
    let step : Advances T S F left U V H then_left (Some c.in-Some.verdict) = subst (Advances T S F left U V H then_left) c.in-Some.is c.in_ok-verdict.ensures.advances in
    run_ends T0 S0 F0 es T S F left U V H then_left c.args.steps.now c.steps.steps c.in-Some.verdict c.steps.invariant.run step

pub steps-smaller : goal.steps-smaller
steps-smaller g c =
    let T0 = c.args.types.now in
    let S0 = c.args.store.now in
    let F0 = c.args.flexible.now.items in
    let es = c.args.waiting.now.items ++ c.args.queue.now.items in
    let T = c.steps.types in
    let S = c.steps.store in
    let F = c.steps.flexible.items in
    let left = c.steps.waiting.items ++ c.steps.queue.items in
    let U = c.advance.new.types in
    let V = c.advance.new.store in
    let H = c.advance.new.flexible.items in
    let then_left = c.advance.new.waiting.items ++ c.advance.new.queue.items in
    let step : Advances T S F left U V H then_left None = subst (Advances T S F left U V H then_left) c.in_default.is c.in_ok-verdict.ensures.advances in
    step_less T0 S0 F0 es T S F left U V H then_left c.steps.invariant.grows.typed c.steps.invariant.free step

pub steps-preserved : goal.steps-preserved
steps-preserved g c =
    let T0 = c.args.types.now in
    let S0 = c.args.store.now in
    let F0 = c.args.flexible.now.items in
    let es = c.args.waiting.now.items ++ c.args.queue.now.items in
    let T = c.steps.types in
    let S = c.steps.store in
    let F = c.steps.flexible.items in
    let left = c.steps.waiting.items ++ c.steps.queue.items in
    let U = c.advance.new.types in
    let V = c.advance.new.store in
    let H = c.advance.new.flexible.items in
    let then_left = c.advance.new.waiting.items ++ c.advance.new.queue.items in
    let step : Advances T S F left U V H then_left None = subst (Advances T S F left U V H then_left) c.in_default.is c.in_ok-verdict.ensures.advances in
    let more : c.steps.steps + 1 ≤ c.advance.new.steps = subst (λ v. c.steps.steps + rules_in v ≤ c.advance.new.steps) c.in_default.is c.in_ok-verdict.ensures.counts in
    let grows = c.in_ok-verdict.ensures.grows in
    let run = run_on T0 S0 F0 es T S F left U V H then_left c.args.steps.now c.steps.steps c.advance.new.steps c.steps.invariant.run step more in
    record {
      grows = grows_on T0 T U S0 S V c.steps.invariant.grows grows;
      counted = omega (arith, c.steps.invariant.counted, more);
      free = run.reached.free;
      equations = c.in_ok-verdict.ensures.equations;
      rest = c.in_ok-verdict.ensures.rest;
      run = run;
    }
