use Rattle.std.proofs.Common.{◌≡◌, ◌≢◌, length, map, sym, ap, ◌∙◌, rules}
use Rattle.ab_term.specs.Terms.{terms_of}
use Rattle.ab_norm.specs.ab_store.specs.Trees.{tree_of, head_in}
use Rattle.ab_formulas.specs.Marks.{marks_made, marks_of_all, by_scope, by_parts, making_of}
use Rattle.ab_sequents.specs.HeadMarks.{making_read}
use Rattle.ab_sequents.proofs.Parts.{not_one, not_two}
use Rattle.ab_sequents.proofs.mark_order.marks_under_head.Goals as goal

pub returns-in-ByHead-clause-below : goal.returns-in-ByHead-clause-below
returns-in-ByHead-clause-below c = λ n all. c.at_head.ensures.below n

pub returns-else-args-eq0-clause-below : goal.returns-else-args-eq0-clause-below
returns-else-args-eq0-clause-below c = λ n all. c.at_marked.ensures.below n

pub returns-else-args-eq1-clause-seen : goal.returns-else-args-eq1-clause-seen
returns-else-args-eq1-clause-seen c = λ types.
    let store = c.args.store.now in
    let h = head_in types store.cells c.args.head in
    let ts = terms_of (map (tree_of types store) c.args.args.now) in
    let other : length c.args.args.now ≢ 1 = search rules in
    let is : making_of h ≡ by_scope = sym (c.requires.making types) ∙ ap making_read c.in-ByScope.is in
    sym (ap (λ m. marks_made m h ts (marks_of_all ts)) is ∙ not_one (tree_of types store) h c.args.args.now other)

pub returns-else-args-eq2-clause-seen : goal.returns-else-args-eq2-clause-seen
returns-else-args-eq2-clause-seen c = λ types.
    let store = c.args.store.now in
    let h = head_in types store.cells c.args.head in
    let ts = terms_of (map (tree_of types store) c.args.args.now) in
    let other : length c.args.args.now ≢ 2 = search rules in
    let is : making_of h ≡ by_parts = sym (c.requires.making types) ∙ ap making_read c.in-ByParts.is in
    sym (ap (λ m. marks_made m h ts (marks_of_all ts)) is ∙ not_two (tree_of types store) h c.args.args.now other)
