use Rattle.std.proofs.Common.{◌≡◌, ◌≢◌, ◌<◌, ◌-◌, suc, length, arith, rules, ap, ◌∙◌}
use Rattle.ab_term.specs.Logical.{implication}
use Rattle.ab_term.specs.Terms.{logical, spine, term, no_terms, Read}
use Rattle.ab_norm.specs.ab_store.specs.Trees.{tree_of}
use Rattle.ab_norm.proofs.Frame.{adds_none, adds_on, if_ok}
use Rattle.ab_logic.specs.Forms.{sign_of}
use Rattle.ab_formulas.specs.BodyMarks.{with_mark}
use Rattle.ab_sequents.proofs.Looks.{in_later, not_arrow}
use Rattle.ab_sequents.proofs.size_marks.+mark_antecedent.Goals as goal

pub returns-in_default : goal.returns-in_default
returns-in_default t c = record {
  held = c.requires;
  reads = λ types. not_arrow (with_mark (sign_of c.args.sign)) (tree_of types c.args.store.now c.args.id) c.args.place types c.args.store.now c.look_at.result c.in_default.not-Arrow (c.look_at.ensures.reads types);
  adds = adds_none c.args.store.now;
}

pub returns-then-place-eq1-clause-adds : goal.returns-then-place-eq1-clause-adds
returns-then-place-eq1-clause-adds t c = adds_on c.args.store.now c.mark_formula.new.store c.arrow.new.store c.in_ok-made.ensures.adds c.arrow.ensures.adds

pub returns-clause-adds : goal.returns-clause-adds
returns-clause-adds t c = adds_on c.args.store.now c.mark_antecedent.new.store c.arrow-2.new.store c.in_ok-made-2.ensures.adds c.arrow-2.ensures.adds

pub returns-clause-reads : goal.returns-clause-reads
returns-clause-reads t c =
    let there : c.in-Arrow.left.0 < length c.args.store.now.nodes = omega (arith, c.in-Arrow.ensures.below.0, c.requires) in
    let none : c.args.place ≢ 0 = search rules in
    let one : c.args.place ≢ 1 = search rules in
    let next : c.args.place ≡ suc (c.args.place - 1) = omega (arith, none) in
    let more : c.args.place - 1 ≢ 0 = omega (arith, none, one) in
    if_ok c.arrow-2.result (λ r made types.
    made types
    ∙ ap (λ (A : Read). spine (logical implication) (term A (term (tree_of types c.mark_antecedent.new.store c.in_ok-made-2.made) no_terms))) (c.in_ok-made-2.ensures.adds.before.trees types c.in-Arrow.left there)
    ∙ ap (λ (B : Read). spine (logical implication) (term (tree_of types c.args.store.now c.in-Arrow.left) (term B no_terms))) (c.in_ok-made-2.ensures.reads types)
    ∙ in_later (with_mark (sign_of c.args.sign)) (tree_of types c.args.store.now c.args.id) c.args.place (c.args.place - 1) (tree_of types c.args.store.now c.in-Arrow.left) (tree_of types c.args.store.now c.in-Arrow.right) next more (c.in-Arrow.ensures.reads types)) c.arrow-2.ensures.reads
