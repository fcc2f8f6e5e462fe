use Rattle.std.proofs.Common.{◌≡◌, ◌↔◌, ◌∙◌, true, sym, subst}
use Rattle.ab_term.specs.Translation.{EqualPastHints}
use Rattle.ab_store.specs.Reading.{tree_of, reading}
use Rattle.ab_norm.proofs.Copied.{same_still}
use Rattle.ab_norm.proofs.Frame.{if_ok}
use Rattle.ab_norm.proofs.equality.equal_apart.Goals as goal

pub carry_resolved-requires-2-clause-apart : goal.carry_resolved-requires-2-clause-apart
carry_resolved-requires-2-clause-apart c = c.in_ok-left.ensures.adds.typed

pub carry_resolved-requires-2-clause-same : goal.carry_resolved-requires-2-clause-same
carry_resolved-requires-2-clause-same c =
    let left = c.in_ok-left.ensures in
    same_still c.args.types.now c.args.store.now c.in_ok-apart.apart c.carry_resolved.new.apart c.in_ok-apart.ensures.same c.in_ok-apart.ensures.typed left.adds.before left.adds.cells

pub is_equal-requires-clause-a : goal.is_equal-requires-clause-a
is_equal-requires-clause-a c = c.in_ok-right.ensures.adds.before.ids c.in_ok-left.left c.in_ok-left.ensures.held

pub is_equal-requires-clause-agreed : goal.is_equal-requires-clause-agreed
is_equal-requires-clause-agreed c = λ types ok typed x y e. absurd (cc (sym (c.new-agreed.ensures x y) ∙ e))

pub returns : goal.returns
returns c =
    let types = c.args.types.now in
    let store = c.args.store.now in
    let left = c.in_ok-left.ensures in
    let right = c.in_ok-right.ensures in
    if_ok c.is_equal.result (λ same found.
    subst (λ x. (same ≡ true) ↔ EqualPastHints x (reading types store c.args.b)) (right.adds.before.trees types c.in_ok-left.left left.held ∙ left.tree)
    (subst (λ y. (same ≡ true) ↔ EqualPastHints (tree_of types c.carry_resolved-2.new.apart c.in_ok-left.left) y) right.tree (found types c.requires.types right.adds.typed))) c.is_equal.ensures.same
