use Rattle.std.proofs.Common.{◌+◌, map, drop, ◌++◌, sym, ap, ◌∙◌, subst, arith}
use Rattle.std.proofs.lemmas.List.{drop_all}
use Rattle.ab_syntax.specs.FileItems.{own_item_of}
use Rattle.ab_logic.proofs.Growing.{grows_not, grows_on}
use Rattle.ab_sigmod.specs.Outcomes.{read_of}
use Rattle.ab_specification.specs.FileDeclarations.{placed_items, items_of}
use Rattle.ab_specification.proofs.Turns.{SoFar, none_yet, items_more, items_refused, all_more, items_from}
use Rattle.ab_specification.proofs.files.declare_files.Goals as goal

pub loop-file-init : goal.loop-file-init
loop-file-init g c = record {
  so_far = none_yet c.args.world.now (items_of (map read_of c.args.files.now));
  grows = grows_not c.args.world.now c.requires;
  steps = omega arith;
}

pub declare_items-requires : goal.declare_items-requires
declare_items-requires g c = c.loop-file.invariant.grows.world

pub returns-in-Ok-Some-clause-answer : goal.returns-in-Ok-Some-clause-answer
returns-in-Ok-Some-clause-answer g c =
    let w = c.args.world.now in
    let now = c.loop-file.world in
    let fs = c.args.files.now in
    let i = c.loop-file.file-index in
    let f = c.file-item.result in
    let all = items_of (map read_of fs) in
    let rest = items_of (map read_of (drop (i + 1) fs)) in
    let told = rw c.in-Ok-Some.field-0-is at c.in-Ok-Some.ensures.answer in
    let at = subst (SoFar w now all) (items_from fs i f c.loop-file-test.true c.file-item.is ∙ ap (λ ys. placed_items f.name 0 (map own_item_of ys) ++ rest) (sym c.as_slice.ensures)) c.loop-file.invariant.so_far in
    items_refused w now all (placed_items f.name 0 (map own_item_of c.as_slice.result.now)) rest c.in-Ok-Some.refusal at told

pub returns-in-Ok-Some-clause-grows : goal.returns-in-Ok-Some-clause-grows
returns-in-Ok-Some-clause-grows g c = grows_on c.args.world.now c.loop-file.world c.declare_items.new.world c.loop-file.invariant.grows c.declare_items.ensures.grows

pub returns-in-Err-clause-grows : goal.returns-in-Err-clause-grows
returns-in-Err-clause-grows g c = grows_on c.args.world.now c.loop-file.world c.declare_items.new.world c.loop-file.invariant.grows c.declare_items.ensures.grows

pub loop-file-preserved : goal.loop-file-preserved
loop-file-preserved g c =
    let w = c.args.world.now in
    let now = c.loop-file.world in
    let fs = c.args.files.now in
    let i = c.loop-file.file-index in
    let f = c.file-item.result in
    let all = items_of (map read_of fs) in
    let rest = items_of (map read_of (drop (i + 1) fs)) in
    let told = rw c.in-Ok-None.field-0-is at c.in-Ok-None.ensures.answer in
    let at = subst (SoFar w now all) (items_from fs i f c.loop-file-test.true c.file-item.is ∙ ap (λ ys. placed_items f.name 0 (map own_item_of ys) ++ rest) (sym c.as_slice.ensures)) c.loop-file.invariant.so_far in
    record {
      so_far = items_more w now all c.declare_items.new.world (placed_items f.name 0 (map own_item_of c.as_slice.result.now)) rest at told;
      grows = grows_on w now c.declare_items.new.world c.loop-file.invariant.grows c.declare_items.ensures.grows;
      steps = omega (arith, c.loop-file.invariant.steps, c.declare_items.ensures.steps);
    }

pub returns-clause-answer : goal.returns-clause-answer
returns-clause-answer g c =
    let w = c.args.world.now in
    let now = c.loop-file.world in
    let fs = c.args.files.now in
    let all = items_of (map read_of fs) in
    let none = drop_all c.loop-file.file-index fs (omega (arith, c.loop-file-test.false)) in
    all_more w now all (subst (λ ys. SoFar w now all (items_of (map read_of ys))) none c.loop-file.invariant.so_far)
