use Rattle.std.specs.Prelude.{is_ok, if◌then◌else◌}
use Rattle.std.proofs.Common.{◌≡◌, ◌+◌, ◌∷◌, ◌++◌, take, drop, length, ap, ◌∙◌, arith, true}
use Rattle.std.specs.List.{insert, remove}
use Rattle.std.proofs.lemmas.List.{length-take-le}
use Rattle.ab_kernel.proofs.Placing.{insert_at, remove_more, length_left}
use Rattle.ab_kernel.proofs.goal_numbers.restore_goal.Goals as goal

pub remove-requires : goal.remove-requires
remove-requires c =
    omega (arith, length_left c.args.numbers.now.items c.args.at c.loop.counter (omega arith), ap length c.loop.invariant.items)

pub loop-preserved : goal.loop-preserved
loop-preserved c = record {
  items =
      c.remove.ensures.items
      ∙ ap (λ zs. remove zs c.args.at) c.loop.invariant.items
      ∙ remove_more c.args.numbers.now.items c.args.at c.loop.counter (omega arith);
  capacity = c.remove.ensures.capacity ∙ c.loop.invariant.capacity;
}

pub insert-requires : goal.insert-requires
insert-requires c =
    omega (arith, length_left c.args.numbers.now.items c.args.at c.loop.counter (omega arith), ap length c.loop.invariant.items)

pub returns-clause-items : goal.returns-clause-items
returns-clause-items c =
    let all : c.loop.counter ≡ c.args.count = omega arith in
    let left = length_left c.args.numbers.now.items c.args.at c.loop.counter (omega arith) in
    let counted = ap length c.loop.invariant.items in
    let ok : is_ok c.insert.result ≡ true = c.insert.ensures.succeeds (omega arith) in
    c.insert.ensures.items
    ∙ ap (λ b. if b then insert c.loop.numbers.items c.args.at c.args.number else c.loop.numbers.items) ok
    ∙ ap (λ zs. insert zs c.args.at c.args.number) c.loop.invariant.items
    ∙ insert_at _ _ c.args.at c.args.number (length-take-le c.args.at c.args.numbers.now.items (omega arith))
    ∙ ap (λ k. take c.args.at c.args.numbers.now.items ++ c.args.number ∷ drop (c.args.at + k) c.args.numbers.now.items) all

pub returns-clause-capacity : goal.returns-clause-capacity
returns-clause-capacity c =
    let left = length_left c.args.numbers.now.items c.args.at c.loop.counter (omega arith) in
    let counted = ap length c.loop.invariant.items in
    (c.insert.ensures.in_place (omega arith)).1.0 ∙ c.loop.invariant.capacity
