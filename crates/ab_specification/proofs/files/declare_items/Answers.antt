use Rattle.std.proofs.Common.{◌+◌, map, drop, sym, subst, arith}
use Rattle.std.proofs.lemmas.List.{drop_all}
use Rattle.ab_syntax.specs.FileItems.{own_item_of}
use Rattle.ab_logic.proofs.Growing.{grows_not, grows_on}
use Rattle.ab_specification.specs.FileDeclarations.{placed_items, in_file}
use Rattle.ab_specification.proofs.Turns.{SoFar, none_yet, item_more, item_refused, all_more, placed_from, refused_answer}
use Rattle.ab_specification.proofs.files.declare_items.Goals as goal

pub loop-item-init : goal.loop-item-init
loop-item-init g c = record {
  so_far = none_yet c.args.world.now (placed_items c.args.file.now 0 (map own_item_of c.args.items.now));
  grows = grows_not c.args.world.now c.requires;
  few = omega arith;
  steps = omega arith;
}

pub declare_item-requires-clause-world : goal.declare_item-requires-clause-world
declare_item-requires-clause-world g c = c.loop-item.invariant.grows.world

pub returns-in-Ok-Some-clause-answer : goal.returns-in-Ok-Some-clause-answer
returns-in-Ok-Some-clause-answer g c =
    let w = c.args.world.now in
    let now = c.loop-item.world in
    let file = c.args.file.now in
    let xs = c.args.items.now in
    let i = c.loop-item.item-index in
    let x = c.item-item.result in
    let all = placed_items file 0 (map own_item_of xs) in
    let told = rw c.in-Ok-Some.field-0-is at c.in-Ok-Some.ensures.answer in
    let at = subst (SoFar w now all) (placed_from file c.loop-item.clauses xs i x c.loop-item-test.true c.item-item.is) c.loop-item.invariant.so_far in
    refused_answer w c.declare_item.new.world all (in_file file c.in-Ok-Some.refusal) c.refused_in.result c.refused_in.ensures
    (item_refused w now all _ _ c.in-Ok-Some.refusal at told)

pub returns-in-Ok-Some-clause-grows : goal.returns-in-Ok-Some-clause-grows
returns-in-Ok-Some-clause-grows g c = grows_on c.args.world.now c.loop-item.world c.declare_item.new.world c.loop-item.invariant.grows c.declare_item.ensures.grows

pub returns-in-Err-clause-grows : goal.returns-in-Err-clause-grows
returns-in-Err-clause-grows g c = grows_on c.args.world.now c.loop-item.world c.declare_item.new.world c.loop-item.invariant.grows c.declare_item.ensures.grows

pub loop-item-preserved : goal.loop-item-preserved
loop-item-preserved g c =
    let w = c.args.world.now in
    let now = c.loop-item.world in
    let file = c.args.file.now in
    let xs = c.args.items.now in
    let i = c.loop-item.item-index in
    let x = c.item-item.result in
    let all = placed_items file 0 (map own_item_of xs) in
    let told = rw c.in-Ok-None.field-0-is at c.in-Ok-None.ensures.answer in
    let at = subst (SoFar w now all) (placed_from file c.loop-item.clauses xs i x c.loop-item-test.true c.item-item.is) c.loop-item.invariant.so_far in
    let next = item_more w now all c.declare_item.new.world _ _ at told in
    record {
      so_far = subst (λ k. SoFar w c.declare_item.new.world all (placed_items file (c.loop-item.clauses + k) (map own_item_of (drop (i + 1) xs)))) (sym c.clauses_in-clauses.ensures.is) next;
      grows = grows_on w now c.declare_item.new.world c.loop-item.invariant.grows c.declare_item.ensures.grows;
      few = omega (arith, c.loop-item.invariant.few, c.clauses_in-clauses.ensures.few);
      steps = omega (arith, c.loop-item.invariant.steps, c.declare_item.ensures.steps);
    }

pub returns-clause-answer : goal.returns-clause-answer
returns-clause-answer g c =
    let w = c.args.world.now in
    let now = c.loop-item.world in
    let file = c.args.file.now in
    let xs = c.args.items.now in
    let all = placed_items file 0 (map own_item_of xs) in
    let none = drop_all c.loop-item.item-index xs (omega (arith, c.loop-item-test.false)) in
    all_more w now all (subst (λ ys. SoFar w now all (placed_items file c.loop-item.clauses (map own_item_of ys))) none c.loop-item.invariant.so_far)
