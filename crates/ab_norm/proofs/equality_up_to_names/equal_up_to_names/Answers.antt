use Rattle.std.proofs.Common.{sym, ◌∙◌}
use Rattle.ab_store.proofs.Putting.{resolved_reads}
use Rattle.ab_norm.proofs.Copied.{same_still}
use Rattle.ab_norm.proofs.Frame.{if_ok}
use Rattle.ab_norm.proofs.UpTo.{sends_alike, none_alike}
use Rattle.ab_norm.proofs.equality_up_to_names.equal_up_to_names.Goals as goal

pub returns-then-branch-clause-sends : goal.returns-then-branch-clause-sends
returns-then-branch-clause-sends c =
    let types = c.args.types.now in
    let store = c.args.store.now in
    let clear = c.in_ok-are_resolved.ensures c.if-branch.true in
    if_ok c.permutation.result (λ found. sends_alike types found (sym (resolved_reads types store c.args.a clear.0)) (sym (resolved_reads types store c.args.b clear.1))) c.permutation.ensures.sends

pub returns-then-branch-clause-none : goal.returns-then-branch-clause-none
returns-then-branch-clause-none c =
    let types = c.args.types.now in
    let store = c.args.store.now in
    let clear = c.in_ok-are_resolved.ensures c.if-branch.true in
    if_ok c.permutation.result (λ found. none_alike found (sym (resolved_reads types store c.args.a clear.0)) (sym (resolved_reads types store c.args.b clear.1))) c.permutation.ensures.none

pub carry_resolved-requires-2-clause-apart : goal.carry_resolved-requires-2-clause-apart
carry_resolved-requires-2-clause-apart c = c.in_ok-left.ensures.adds.typed

pub carry_resolved-requires-2-clause-same : goal.carry_resolved-requires-2-clause-same
carry_resolved-requires-2-clause-same c =
    let left = c.in_ok-left.ensures in
    same_still c.args.types.now c.args.store.now c.in_ok-apart.apart c.carry_resolved.new.apart c.in_ok-apart.ensures.same c.in_ok-apart.ensures.typed left.adds.before left.adds.cells

pub permutation-requires-2-clause-store : goal.permutation-requires-2-clause-store
permutation-requires-2-clause-store c = c.in_ok-right.ensures.adds.typed

pub permutation-requires-2-clause-a : goal.permutation-requires-2-clause-a
permutation-requires-2-clause-a c = c.in_ok-right.ensures.adds.before.ids c.in_ok-left.left c.in_ok-left.ensures.held

pub returns-clause-sends : goal.returns-clause-sends
returns-clause-sends c =
    let types = c.args.types.now in
    let left = c.in_ok-left.ensures in
    let right = c.in_ok-right.ensures in
    if_ok c.permutation-2.result (λ found. sends_alike types found (right.adds.before.trees types c.in_ok-left.left left.held ∙ left.tree) right.tree) c.permutation-2.ensures.sends

pub returns-clause-none : goal.returns-clause-none
returns-clause-none c =
    let types = c.args.types.now in
    let left = c.in_ok-left.ensures in
    let right = c.in_ok-right.ensures in
    if_ok c.permutation-2.result (λ found. none_alike found (right.adds.before.trees types c.in_ok-left.left left.held ∙ left.tree) right.tree) c.permutation-2.ensures.none
