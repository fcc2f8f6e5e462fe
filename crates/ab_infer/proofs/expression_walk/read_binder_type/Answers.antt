use Rattle.ab_infer.specs.Rows.{AddsTypes}
use Rattle.ab_infer.proofs.Grounds.{ground_more}
use Rattle.ab_infer.proofs.expression_walk.read_binder_type.Goals as goal

pub returns-in_err-written-in-Some-clause-ground : goal.returns-in_err-written-in-Some-clause-ground
returns-in_err-written-in-Some-clause-ground c = λ store formulas scope g.
    let e = c.in_err-written-in-Some.ensures in
    let adds : AddsTypes c.args.types.now c.read_written.new.types = record { kept = e.kept; kinds = e.kinds; constants = e.constants } in
    ground_more c.args.types.now c.read_written.new.types adds store formulas scope e.table g

pub returns-in_ok-written-in-Some-clause-ground : goal.returns-in_ok-written-in-Some-clause-ground
returns-in_ok-written-in-Some-clause-ground c = λ store formulas scope g.
    let e = c.in_ok-written-in-Some.ensures in
    let adds : AddsTypes c.args.types.now c.read_written.new.types = record { kept = e.kept; kinds = e.kinds; constants = e.constants } in
    ground_more c.args.types.now c.read_written.new.types adds store formulas scope e.table g
