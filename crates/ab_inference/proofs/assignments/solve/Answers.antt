use Rattle.std.proofs.Common.{◌≡◌, ℕ, ◌++◌, List, length, take, drop, refl, sym, ◌∙◌, subst, arith}
use Rattle.std.proofs.lemmas.List.{take_at}
use Rattle.ab_inference.specs.declared.assignments.Mark.TheVariants.{Done}
use Rattle.ab_inference.specs.Assignments.{IsDone, IsSettled, mark_at, settled_at}
use Rattle.ab_inference.proofs.Tables.{still_held, same_reading}
use Rattle.ab_inference.proofs.Ending.{Walking, walking_begins, walking_more, none_walked, all_walked}
use Rattle.ab_inference.proofs.assignments.solve.Goals as goal

pub loop-i-init : goal.loop-i-init
loop-i-init c =
    let b = c.in_ok-marks.ensures.items_if_clones_equal (λ y e. e) in
    record {
      walking = rw b (walking_begins c.args.types.now c.args.shapes.now (length c.args.shapes.now) c.requires.table c.requires.held refl);
      kinds = refl;
      constants = refl;
    }

pub settle-requires-clause-filler_held : goal.settle-requires-clause-filler_held
settle-requires-clause-filler_held c = still_held c.args.types.now c.loop-i.types c.loop-i.invariant.walking.more c.args.filler c.requires.filler_held

pub settle-requires-clause-filler : goal.settle-requires-clause-filler
settle-requires-clause-filler c = same_reading c.args.types.now c.loop-i.types c.loop-i.invariant.walking.more c.args.filler c.requires.filler_held ∙ c.requires.filler

pub returns-then-not-branch-clause-solved : goal.returns-then-not-branch-clause-solved
returns-then-not-branch-clause-solved c =
    none_walked c.args.types.now c.loop-i.types c.args.shapes.now c.loop-i.marks.items c.loop-i.i c.requires.held c.loop-i.invariant.walking (c.in_ok-settle.ensures.none c.if-not-branch.true)

written : {X : Type 0} (n : ℕ) (xs ys : List X) → n ≡ length ys → length xs ≡ length ys → take n (xs ++ drop (length xs) ys) ≡ xs
written n xs ys e l = take_at xs (drop (length xs) ys) n (omega arith)

pub loop-i-preserved : goal.loop-i-preserved
loop-i-preserved c =
    let s = c.args.shapes.now in
    let d = c.deref_mut.ensures in
    let h : IsSettled c.settle.new.types s c.loop-i.marks.items c.settle.new.marks c.loop-i.i =
    subst (λ m. IsSettled c.settle.new.types s m c.settle.new.marks c.loop-i.i) d.value (c.in_ok-settle.ensures.settled c.if-not-branch.false) in
    let w : take c.loop-i.marks.len (c.settle.new.marks ++ drop (length c.settle.new.marks) c.loop-i.marks.items) ≡ c.settle.new.marks =
    written c.loop-i.marks.len c.settle.new.marks c.loop-i.marks.items c.loop-i.marks.ok.0 (omega (arith, c.settle.auto.marks, d.len, c.loop-i.marks.ok.0)) in
    let more = walking_more c.args.types.now c.loop-i.types c.settle.new.types s c.loop-i.marks.items c.settle.new.marks c.loop-i.i (omega (arith, c.loop-i-test.true)) c.loop-i.invariant.walking c.settle.ensures.kept c.settle.ensures.table h in
    record {
      walking = rw w more;
      kinds = c.settle.ensures.kinds ∙ c.loop-i.invariant.kinds;
      constants = c.settle.ensures.constants ∙ c.loop-i.invariant.constants;
    }

pub settled_variables-requires-clause-done : goal.settled_variables-requires-clause-done
settled_variables-requires-clause-done c = λ k l. subst (λ m. IsDone m k) (sym c.deref.ensures.value) (c.loop-i.invariant.walking.walked.done k (omega (arith, c.loop-i-test.false, c.loop-i.auto.i-end)))

pub returns-clause-solved : goal.returns-clause-solved
returns-clause-solved c =
    let f = c.in_ok-settled_variables.ensures in
    all_walked c.args.types.now c.loop-i.types c.args.shapes.now c.loop-i.marks.items c.loop-i.i c.requires.held c.loop-i.invariant.walking (omega (arith, c.loop-i-test.false, c.loop-i.auto.i-end))
    c.in_ok-settled_variables.field-0.items f.len (λ k l. subst (λ m. mark_at m k ≡ Done (settled_at c.in_ok-settled_variables.field-0.items k)) c.deref.ensures.value (f.found k l))
