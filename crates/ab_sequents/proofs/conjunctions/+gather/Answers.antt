use Rattle.std.proofs.Common.{List, ◌++◌, map, sym, ap, ◌∙◌, append_assoc}
use Rattle.ab_term.specs.Terms.{Read}
use Rattle.ab_norm.specs.ab_store.specs.Trees.{tree_of}
use Rattle.ab_theory.specs.Conjuncts.{conjuncts}
use Rattle.ab_sequents.proofs.Halves.{both_is}
use Rattle.ab_sequents.proofs.Standings.{on_ok}
use Rattle.ab_sequents.proofs.conjunctions.+gather.Goals as goal

pub returns-in_ok-gather-in-Some-clause-held : goal.returns-in_ok-gather-in-Some-clause-held
returns-in_ok-gather-in-Some-clause-held t c = on_ok c.gather-in-Some.result (λ more before. more (c.in_ok-gather-in-Some.ensures.held before)) c.gather-in-Some.ensures.held

pub returns-in_ok-gather-in-Some-clause-reads : goal.returns-in_ok-gather-in-Some-clause-reads
returns-in_ok-gather-in-Some-clause-reads t c =
    on_ok c.gather-in-Some.result
    (λ more types.
    let f = tree_of types c.args.store.now in
    let old = map f c.args.parts.now.items in
    let A = f c.in-Some.left in
    let B = f c.in-Some.right in
    more types
    ∙ ap (λ (Fs : List Read). Fs ++ conjuncts B) (c.in_ok-gather-in-Some.ensures.reads types)
    ∙ append_assoc old (conjuncts A) (conjuncts B)
    ∙ ap (λ (F : Read). old ++ conjuncts F) (sym (both_is (f c.args.id) A B (sym (c.in-Some.ensures.reads types)))))
    c.gather-in-Some.ensures.reads
