use Rattle.std.specs.Prelude.{is_ok, if◌then◌else◌}
use Rattle.std.proofs.Common.{◌≡◌, ◌+◌, ◌<◌, drop, vec_len, vec_capacity, length, ap, ◌∙◌, arith, true}
use Rattle.std.specs.List.{insert}
use Rattle.ab_kernel.proofs.Placing.{insert_more, length-placed}
use Rattle.ab_kernel.proofs.goal_numbers.replace_goal.Goals as goal

pub loop-number-preserved : goal.loop-number-preserved
loop-number-preserved c =
    let counted = ap length c.loop-number.invariant.items in
    let placed = length-placed c.args.numbers.now.items c.args.at c.args.first c.loop-number.number (omega arith) (omega arith) in
    let room : vec_len c.loop-number.numbers < vec_capacity c.loop-number.numbers = omega arith in
    let ok : is_ok c.insert.result ≡ true = c.insert.ensures.succeeds room in
    record {
      items =
          c.insert.ensures.items
          ∙ ap (λ b. if b then insert c.loop-number.numbers.items c.args.at c.loop-number.number else c.loop-number.numbers.items) ok
          ∙ ap (λ zs. insert zs c.args.at c.loop-number.number) c.loop-number.invariant.items
          ∙ insert_more c.args.numbers.now.items (drop (c.args.at + 1) c.args.numbers.now.items) c.args.at c.args.first c.loop-number.number (omega arith) (omega arith);
      capacity = (c.insert.ensures.in_place room).1.0 ∙ c.loop-number.invariant.capacity;
    }
