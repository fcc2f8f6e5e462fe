use Rattle.std.proofs.Common.{◌≡◌, ◌≢◌, length, map, sym, ap, ◌∙◌, rules}
use Rattle.ab_term.specs.Terms.{logical, spine, terms_of}
use Rattle.ab_norm.specs.ab_store.specs.Trees.{tree_of, logical_of}
use Rattle.ab_unify.specs.Problem.{variables_read}
use Rattle.ab_search_trees.specs.Judgements.{hides}
use Rattle.ab_search_ways.proofs.OtherCounts.{hides_by_two, hides_by_three, judged_two, focused_three}
use Rattle.ab_search_ways.proofs.blindness.hides_by.Goals as goal

pub returns-else-args-eq2 : goal.returns-else-args-eq2
returns-else-args-eq2 c = λ types.
    let f = tree_of types c.args.store.now in
    let ys = variables_read types c.args.store.now c.args.flexible.now in
    let ts = terms_of (map f c.args.args.now) in
    let other : length c.args.args.now ≢ 2 = search rules in
    sym (ap (λ l. hides ys (spine (logical (logical_of types l)) ts)) c.in-Judge.is ∙ hides_by_two f ys c.args.args.now other)

pub returns-else-args-eq3 : goal.returns-else-args-eq3
returns-else-args-eq3 c = λ types.
    let f = tree_of types c.args.store.now in
    let ys = variables_read types c.args.store.now c.args.flexible.now in
    let ts = terms_of (map f c.args.args.now) in
    let other : length c.args.args.now ≢ 3 = search rules in
    sym (ap (λ l. hides ys (spine (logical (logical_of types l)) ts)) c.in-Focus.is ∙ hides_by_three f ys c.args.args.now other)

pub returns-then-args-eq2 : goal.returns-then-args-eq2
returns-then-args-eq2 c = λ types.
    let f = tree_of types c.args.store.now in
    let ys = variables_read types c.args.store.now c.args.flexible.now in
    let ts = terms_of (map f c.args.args.now) in
    let two : length c.args.args.now ≡ 2 = search rules in
    c.hides_head.ensures types ∙ judged_two f ys (record { 0 = 0 }) c.args.args.now two ∙ sym (ap (λ l. hides ys (spine (logical (logical_of types l)) ts)) c.in-Judge.is)

pub returns-then-args-eq3 : goal.returns-then-args-eq3
returns-then-args-eq3 c = λ types.
    let f = tree_of types c.args.store.now in
    let ys = variables_read types c.args.store.now c.args.flexible.now in
    let ts = terms_of (map f c.args.args.now) in
    let three : length c.args.args.now ≡ 3 = search rules in
    c.hides_in_focus.ensures types ∙ focused_three f ys (record { 0 = 0 }) c.args.args.now three ∙ sym (ap (λ l. hides ys (spine (logical (logical_of types l)) ts)) c.in-Focus.is)
