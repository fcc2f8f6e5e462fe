use Rattle.std.proofs.Common.{◌≡◌, ℕ, false, ◌+◌, ◌<◌, [], ◌∷◌, length, replicate, ◌∙◌, ap, subst, refl, arith}
use Rattle.std.proofs.lemmas.List.{length-replicate}
use Rattle.ab_store.specs.ab_types.specs.Ids.{type_of}
use Rattle.ab_inference.specs.declared.shape.Shape.TheVariants.{Open}
use Rattle.ab_inference.specs.Assignments.{Solved}
use Rattle.ab_inference.specs.Solutions.{HasNoSolution}
use Rattle.ab_inference.proofs.Tables.{still_held, same_reading}
use Rattle.ab_inference.specs.Inferences.{Inferring, HasNoTyping}
use Rattle.ab_inference.specs.Verdicts.{HasPropAt, IsFirstOpenMark, IsOpenAt, type_found, no_mark}
use Rattle.ab_meaning.specs.Types.{PropFree}
use Rattle.ab_inference.proofs.Judging.{no_typing, no_root, no_solution, some_prop, some_open, the_reading_found}
use Rattle.ab_inference.proofs.decision.decide.Goals as goal

pub returns-in_default-clause-verdict : goal.returns-in_default-clause-verdict
returns-in_default-clause-verdict c = λ made cells names k runs fit base_is frees_is apart marks_are.
    let t = c.args.types.now in
    let b = c.in_ok-shapes.ensures.items_if_clones_equal (λ y e. e) in
    let first_is = b ∙ ap (λ n. replicate (c.args.base + n) Open) frees_is in
    let none : HasNoTyping t c.args.base c.in_ok-shapes.shapes.items (k ∷ []) = rw c.in_default.is at (c.in_ok-root.ensures.inferred cells names k runs) in
    no_typing t made names k (type_of t c.args.expected) c.args.base base_is apart fit (subst (λ s. HasNoTyping t c.args.base s (k ∷ [])) first_is none)

pub equate-requires-clause-formed : goal.equate-requires-clause-formed
equate-requires-clause-formed c = (rw c.in-Some.is at c.in_ok-root.ensures.kept).formed

pub equate-requires-clause-held : goal.equate-requires-clause-held
equate-requires-clause-held c = (rw c.in-Some.is at c.in_ok-root.ensures.kept).held

pub equate-requires-clause-within : goal.equate-requires-clause-within
equate-requires-clause-within c = ((rw c.in-Some.is at c.in_ok-root.ensures.kept).below.0, c.requires.expected)

pub returns-then-not-branch-clause-verdict : goal.returns-then-not-branch-clause-verdict
returns-then-not-branch-clause-verdict c = λ made cells names k runs fit base_is frees_is apart marks_are.
    let t = c.args.types.now in
    let b = c.in_ok-shapes.ensures.items_if_clones_equal (λ y e. e) in
    let first_is = b ∙ ap (λ n. replicate (c.args.base + n) Open) frees_is in
    let found : Inferring t c.args.base c.in_ok-shapes.shapes.items c.infer.new.shapes.items (k ∷ []) (c.in-Some.root ∷ []) = rw c.in-Some.is at (c.in_ok-root.ensures.inferred cells names k runs) in
    no_root t made names k (type_of t c.args.expected) c.args.base base_is apart fit c.infer.new.shapes.items c.in-Some.root
    (subst (λ s. Inferring t c.args.base s c.infer.new.shapes.items (k ∷ []) (c.in-Some.root ∷ [])) first_is found) c.args.expected refl (c.in_ok-equate.ensures.apart c.if-not-branch.true)

pub returns-in_default-2-clause-verdict : goal.returns-in_default-2-clause-verdict
returns-in_default-2-clause-verdict c = λ made cells names k runs fit base_is frees_is apart marks_are.
    let t = c.args.types.now in
    let b = c.in_ok-shapes.ensures.items_if_clones_equal (λ y e. e) in
    let first_is = b ∙ ap (λ n. replicate (c.args.base + n) Open) frees_is in
    let found : Inferring t c.args.base c.in_ok-shapes.shapes.items c.infer.new.shapes.items (k ∷ []) (c.in-Some.root ∷ []) = rw c.in-Some.is at (c.in_ok-root.ensures.inferred cells names k runs) in
    let none : HasNoSolution t c.deref.result.now = rw c.in_default-2.is at c.in_ok-found.ensures.solved in
    no_solution t made names k (type_of t c.args.expected) c.args.base base_is apart fit c.infer.new.shapes.items c.in-Some.root
    (subst (λ s. Inferring t c.args.base s c.infer.new.shapes.items (k ∷ []) (c.in-Some.root ∷ [])) first_is found) c.args.expected refl
    c.equate.new.shapes.items (c.in_ok-equate.ensures.met c.if-not-branch.false) (subst (HasNoSolution t) c.deref.ensures.value none)

pub has_prop-requires-clause-prop_held : goal.has_prop-requires-clause-prop_held
has_prop-requires-clause-prop_held c = still_held c.args.types.now c.solve.new.types c.solve.ensures.kept c.args.formulas.prop c.requires.prop.prop_held

pub has_prop-requires-clause-prop : goal.has_prop-requires-clause-prop
has_prop-requires-clause-prop c = same_reading c.args.types.now c.solve.new.types c.solve.ensures.kept c.args.formulas.prop c.requires.prop.prop_held ∙ c.requires.prop.prop_is

pub has_prop-requires-clause-marks : goal.has_prop-requires-clause-marks
has_prop-requires-clause-marks c = λ i d l.
    let kept = rw c.in-Some.is at c.in_ok-root.ensures.kept in
    let sol : Solved c.args.types.now c.solve.new.types c.deref.result.now c.in-Some-2.found.items = rw c.in-Some-2.is at c.in_ok-found.ensures.solved in
    let m = c.requires.marks i d l in
    let b = c.in_ok-shapes.ensures.items_if_clones_equal (λ y e. e) in
    omega (arith, m, sol.len, ap length c.deref.ensures.value, c.equate.ensures.len, kept.longer, ap length b, length-replicate (c.args.base + c.args.frees) Open, ap length c.deref-2.ensures.value)

pub first_open-requires : goal.first_open-requires
first_open-requires c = record {
  marks = λ i d l.
      let kept = rw c.in-Some.is at c.in_ok-root.ensures.kept in
      let sol : Solved c.args.types.now c.solve.new.types c.deref.result.now c.in-Some-2.found.items = rw c.in-Some-2.is at c.in_ok-found.ensures.solved in
      let m = c.requires.marks i d l in
      let b = c.in_ok-shapes.ensures.items_if_clones_equal (λ y e. e) in
      omega (arith, m, sol.len, ap length c.deref.ensures.value, c.equate.ensures.len, kept.longer, ap length b, length-replicate (c.args.base + c.args.frees) Open, ap length c.deref-3.ensures.value);
}

pub returns-then-branch-clause-verdict : goal.returns-then-branch-clause-verdict
returns-then-branch-clause-verdict c = λ made cells names k runs fit base_is frees_is apart marks_are.
    let t = c.args.types.now in
    let b = c.in_ok-shapes.ensures.items_if_clones_equal (λ y e. e) in
    let first_is = b ∙ ap (λ n. replicate (c.args.base + n) Open) frees_is in
    let kept = rw c.in-Some.is at c.in_ok-root.ensures.kept in
    let found : Inferring t c.args.base c.in_ok-shapes.shapes.items c.infer.new.shapes.items (k ∷ []) (c.in-Some.root ∷ []) = rw c.in-Some.is at (c.in_ok-root.ensures.inferred cells names k runs) in
    let sol : Solved t c.solve.new.types c.deref.result.now c.in-Some-2.found.items = rw c.in-Some-2.is at c.in_ok-found.ensures.solved in
    some_prop t made names k (type_of t c.args.expected) c.args.base base_is apart fit c.infer.new.shapes.items c.in-Some.root
    (subst (λ s. Inferring t c.args.base s c.infer.new.shapes.items (k ∷ []) (c.in-Some.root ∷ [])) first_is found) c.args.expected refl
    c.equate.new.shapes.items (c.in_ok-equate.ensures.met c.if-not-branch.false)
    c.solve.new.types c.in-Some-2.found.items (subst (λ s. Solved t c.solve.new.types s c.in-Some-2.found.items) c.deref.ensures.value sol) c.args.marks.now marks_are
    (λ i l. let m = c.requires.marks i no_mark l in omega (arith, m, c.equate.ensures.len, kept.longer, ap length b, length-replicate (c.args.base + c.args.frees) Open))
    (subst (λ f. HasPropAt c.solve.new.types c.args.base f c.args.marks.now) c.deref-2.ensures.value (c.in_ok-has_prop.ensures.some c.if-branch.true))

pub returns-in-Some-first_open-clause-verdict : goal.returns-in-Some-first_open-clause-verdict
returns-in-Some-first_open-clause-verdict c = λ made cells names k runs fit base_is frees_is apart marks_are.
    let t = c.args.types.now in
    let b = c.in_ok-shapes.ensures.items_if_clones_equal (λ y e. e) in
    let first_is = b ∙ ap (λ n. replicate (c.args.base + n) Open) frees_is in
    let kept = rw c.in-Some.is at c.in_ok-root.ensures.kept in
    let found : Inferring t c.args.base c.in_ok-shapes.shapes.items c.infer.new.shapes.items (k ∷ []) (c.in-Some.root ∷ []) = rw c.in-Some.is at (c.in_ok-root.ensures.inferred cells names k runs) in
    let sol : Solved t c.solve.new.types c.deref.result.now c.in-Some-2.found.items = rw c.in-Some-2.is at c.in_ok-found.ensures.solved in
    some_open t made names k (type_of t c.args.expected) c.args.base base_is apart fit c.infer.new.shapes.items c.in-Some.root
    (subst (λ s. Inferring t c.args.base s c.infer.new.shapes.items (k ∷ []) (c.in-Some.root ∷ [])) first_is found) c.args.expected refl
    c.equate.new.shapes.items (c.in_ok-equate.ensures.met c.if-not-branch.false)
    c.solve.new.types c.in-Some-2.found.items (subst (λ s. Solved t c.solve.new.types s c.in-Some-2.found.items) c.deref.ensures.value sol) c.args.marks.now marks_are
    (λ i l. let m = c.requires.marks i no_mark l in omega (arith, m, c.equate.ensures.len, kept.longer, ap length b, length-replicate (c.args.base + c.args.frees) Open))
    (subst (λ f. (i : ℕ) → i < length c.args.marks.now → PropFree (type_found c.solve.new.types c.args.base f c.args.marks.now i)) c.deref-2.ensures.value (c.in_ok-has_prop.ensures.none c.if-branch.false))
    c.in-Some-first_open.place
    (subst (λ f. IsFirstOpenMark c.args.base f c.args.marks.now c.in-Some-first_open.place) c.deref-3.ensures.value c.in-Some-first_open.ensures)

pub returns-clause-verdict : goal.returns-clause-verdict
returns-clause-verdict c = λ made cells names k runs fit base_is frees_is apart marks_are.
    let t = c.args.types.now in
    let b = c.in_ok-shapes.ensures.items_if_clones_equal (λ y e. e) in
    let first_is = b ∙ ap (λ n. replicate (c.args.base + n) Open) frees_is in
    let kept = rw c.in-Some.is at c.in_ok-root.ensures.kept in
    let found : Inferring t c.args.base c.in_ok-shapes.shapes.items c.infer.new.shapes.items (k ∷ []) (c.in-Some.root ∷ []) = rw c.in-Some.is at (c.in_ok-root.ensures.inferred cells names k runs) in
    let sol : Solved t c.solve.new.types c.deref.result.now c.in-Some-2.found.items = rw c.in-Some-2.is at c.in_ok-found.ensures.solved in
    the_reading_found t made names k (type_of t c.args.expected) c.args.base base_is apart fit c.infer.new.shapes.items c.in-Some.root
    (subst (λ s. Inferring t c.args.base s c.infer.new.shapes.items (k ∷ []) (c.in-Some.root ∷ [])) first_is found) c.args.expected refl
    c.equate.new.shapes.items (c.in_ok-equate.ensures.met c.if-not-branch.false)
    c.solve.new.types c.in-Some-2.found.items (subst (λ s. Solved t c.solve.new.types s c.in-Some-2.found.items) c.deref.ensures.value sol) c.args.marks.now marks_are
    (λ i l. let m = c.requires.marks i no_mark l in omega (arith, m, c.equate.ensures.len, kept.longer, ap length b, length-replicate (c.args.base + c.args.frees) Open))
    (subst (λ f. (i : ℕ) → i < length c.args.marks.now → PropFree (type_found c.solve.new.types c.args.base f c.args.marks.now i)) c.deref-2.ensures.value (c.in_ok-has_prop.ensures.none c.if-branch.false))
    (subst (λ f. (i : ℕ) → i < length c.args.marks.now → IsOpenAt c.args.base f c.args.marks.now i ≡ false) c.deref-3.ensures.value c.in-None.ensures)
    (omega (arith, c.equate.ensures.len, kept.longer, ap length first_is))

pub returns-clause-found : goal.returns-clause-found
returns-clause-found c =
    let b = c.in_ok-shapes.ensures.items_if_clones_equal (λ y e. e) in
    let kept = rw c.in-Some.is at c.in_ok-root.ensures.kept in
    let sol : Solved c.args.types.now c.solve.new.types c.deref.result.now c.in-Some-2.found.items = rw c.in-Some-2.is at c.in_ok-found.ensures.solved in
    let shapes = ap length c.deref.ensures.value in (
      omega (arith, sol.len, shapes, c.equate.ensures.len, kept.longer, ap length b, length-replicate (c.args.base + c.args.frees) Open),
      λ i l. sol.held i (omega (arith, l, sol.len)),
    )
