use Rattle.std.proofs.Common.{◌≡◌, ◌↔◌, ◌∙◌, true, refl, sym, ap, subst}
use Rattle.ab_term.specs.Translation.{forget, EqualPastHints}
use Rattle.ab_store.specs.Reading.{tree_of, reading}
use Rattle.ab_store.proofs.Putting.{resolved_reads}
use Rattle.ab_norm.proofs.Frame.{if_ok}
use Rattle.ab_norm.proofs.equality.equal.Goals as goal

pub returns-then-is_same_term : goal.returns-then-is_same_term
returns-then-is_same_term c = (λ yes. ap (λ t. forget (reading c.args.types.now c.args.store.now t)) (c.is_same_term.ensures c.if-is_same_term.true), λ same. refl)

pub is_equal-requires-clause-agreed : goal.is_equal-requires-clause-agreed
is_equal-requires-clause-agreed c = λ types ok typed x y e. absurd (cc (sym (c.new-agreed.ensures x y) ∙ e))

pub returns-then-branch : goal.returns-then-branch
returns-then-branch c =
    let types = c.args.types.now in
    let store = c.args.store.now in
    let clear = c.in_ok-are_resolved.ensures c.if-branch.true in
    if_ok c.is_equal.result (λ same found.
    subst (λ x. (same ≡ true) ↔ EqualPastHints x (reading types store c.args.b)) (sym (resolved_reads types store c.args.a clear.0))
    (subst (λ y. (same ≡ true) ↔ EqualPastHints (tree_of types store c.args.a) y) (sym (resolved_reads types store c.args.b clear.1)) (found types c.has_unique_ids.ensures.table c.requires.store))) c.is_equal.ensures.same
