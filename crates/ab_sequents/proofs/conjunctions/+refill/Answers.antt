use Rattle.std.specs.List.{All}
use Rattle.std.specs.Prelude.{drop}
use Rattle.std.proofs.Common.{◌≡◌, ◌<◌, List, [], ◌∷◌, length, map, sym, ap, subst, ◌∙◌, arith}
use Rattle.std.proofs.lemmas.List.Elements.{All-cons, All-nil, All-same}
use Rattle.ab_term.specs.Logical.{conjunction}
use Rattle.ab_term.specs.Terms.{logical, spine, term, no_terms, terms_of, Read}
use Rattle.ab_norm.specs.ab_store.specs.declared.node.TermId.{TermId}
use Rattle.ab_norm.specs.ab_store.specs.Trees.{Holds, tree_of}
use Rattle.ab_norm.specs.ab_store.proofs.Growing.{extended_on}
use Rattle.ab_norm.proofs.Frame.{adds_on, still_read, if_ok}
use Rattle.ab_theory.specs.Conjuncts.{conjuncts, with_parts}
use Rattle.ab_sequents.proofs.Halves.{joined, both_is, alone_with, of_next, behind_both, behind_read}
use Rattle.ab_sequents.proofs.conjunctions.+refill.Goals as goal

pub returns-in_err-second-in-Some-clause-adds : goal.returns-in_err-second-in-Some-clause-adds
returns-in_err-second-in-Some-clause-adds t c = adds_on c.args.store.now c.refill.new.store c.refill-in-Some.new.store c.in_ok-first-in-Some.ensures.adds c.in_err-second-in-Some.ensures.adds

pub returns-in_err-from_array-in-Some-clause-adds : goal.returns-in_err-from_array-in-Some-clause-adds
returns-in_err-from_array-in-Some-clause-adds t c = adds_on c.args.store.now c.refill.new.store c.refill-in-Some.new.store c.in_ok-first-in-Some.ensures.adds c.in_ok-second-in-Some.ensures.adds

pub spine-requires-clause-args : goal.spine-requires-clause-args
spine-requires-clause-args t c =
    let P : TermId → Type 0 = Holds c.refill-in-Some.new.store in
    let first : P c.in_ok-first-in-Some.first = c.in_ok-second-in-Some.ensures.adds.before.ids c.in_ok-first-in-Some.first c.in_ok-first-in-Some.ensures.held in
    All-same P _ _ c.in_ok-from_array-in-Some.ensures.items
    (All-cons P c.in_ok-first-in-Some.first (c.in_ok-second-in-Some.second ∷ []) first (All-cons P c.in_ok-second-in-Some.second [] c.in_ok-second-in-Some.ensures.held (All-nil P)))

pub returns-in-None-clause-held : goal.returns-in-None-clause-held
returns-in-None-clause-held t c =
    of_next (Holds c.args.store.now) c.args.parts.now c.args.place.now c.args.id c.next_part.result c.requires.parts c.requires.formula c.next_part.ensures.part

pub returns-in-None-clause-reads : goal.returns-in-None-clause-reads
returns-in-None-clause-reads t c types =
    let f = tree_of types c.args.store.now in
    ap f c.next_part.ensures.part ∙ alone_with f c.args.parts.now c.args.place.now c.args.id (sym (c.in-None.ensures.reads types))

pub returns-in_ok-from_array-in-Some-clause-reads : goal.returns-in_ok-from_array-in-Some-clause-reads
returns-in_ok-from_array-in-Some-clause-reads t c =
    let S = c.args.store.now in
    let one = c.in_ok-first-in-Some in
    let two = c.in_ok-second-in-Some in
    let T = c.refill.new.store in
    let U = c.refill-in-Some.new.store in
    let there : c.in-Some.right.0 < length S.nodes = omega (arith, c.in-Some.ensures.below.1, c.requires.formula) in
    if_ok c.spine.result (λ r made types.
    let f = tree_of types S in
    let A = f c.in-Some.left in
    let B = f c.in-Some.right in
    let Gs = drop c.args.place.now (map f c.args.parts.now) in
    let first : tree_of types U one.first ≡ with_parts Gs A =
    two.ensures.adds.before.trees types one.first one.ensures.held
    ∙ one.ensures.reads types in
    let second : tree_of types U two.second ≡ with_parts (drop (length (conjuncts A)) Gs) B =
    two.ensures.reads types
    ∙ ap (λ (Fs : List Read). with_parts (drop c.refill.new.place Fs) (tree_of types T c.in-Some.right)) (still_read types S T c.args.parts.now one.ensures.adds c.requires.parts)
    ∙ ap (with_parts (drop c.refill.new.place (map f c.args.parts.now))) (one.ensures.adds.before.trees types c.in-Some.right there)
    ∙ ap (λ (Fs : List Read). with_parts Fs B) (behind_read f c.args.parts.now c.args.place.now c.refill.new.place (length (conjuncts A)) (one.ensures.behind types)) in
    made types
    ∙ ap (λ (ts : List TermId). spine (logical conjunction) (terms_of (map (tree_of types U) ts))) c.in_ok-from_array-in-Some.ensures.items
    ∙ ap (λ (F : Read). joined F (tree_of types U two.second)) first
    ∙ ap (joined (with_parts Gs A)) second
    ∙ ap (with_parts Gs) (sym (both_is (f c.args.id) A B (sym (c.in-Some.ensures.reads types))))) c.spine.ensures.tree

pub returns-in_ok-from_array-in-Some-clause-behind : goal.returns-in_ok-from_array-in-Some-clause-behind
returns-in_ok-from_array-in-Some-clause-behind t c =
    let S = c.args.store.now in
    let one = c.in_ok-first-in-Some in
    let two = c.in_ok-second-in-Some in
    let there : c.in-Some.right.0 < length S.nodes = omega (arith, c.in-Some.ensures.below.1, c.requires.formula) in
    if_ok c.spine.result (λ r made types.
    let f = tree_of types S in
    let A = f c.in-Some.left in
    let B = f c.in-Some.right in
    two.ensures.behind types
    ∙ ap (λ (F : Read). drop (length (conjuncts F)) (drop c.refill.new.place c.args.parts.now)) (one.ensures.adds.before.trees types c.in-Some.right there)
    ∙ ap (drop (length (conjuncts B))) (one.ensures.behind types)
    ∙ behind_both A B (drop c.args.place.now c.args.parts.now)
    ∙ ap (λ (F : Read). drop (length (conjuncts F)) (drop c.args.place.now c.args.parts.now)) (sym (both_is (f c.args.id) A B (sym (c.in-Some.ensures.reads types))))) c.spine.ensures.tree

pub returns-in_ok-from_array-in-Some-clause-adds : goal.returns-in_ok-from_array-in-Some-clause-adds
returns-in_ok-from_array-in-Some-clause-adds t c =
    let over = adds_on c.args.store.now c.refill.new.store c.refill-in-Some.new.store c.in_ok-first-in-Some.ensures.adds c.in_ok-second-in-Some.ensures.adds in
    record {
      before = extended_on c.args.store.now c.refill-in-Some.new.store c.spine.new.self over.before c.spine.ensures.before;
      cells = c.spine.ensures.cells ∙ over.cells;
      typed = λ types d. c.spine.ensures.typed types (over.typed types d) tt;
    }
