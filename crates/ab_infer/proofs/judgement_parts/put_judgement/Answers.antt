use Rattle.ab_norm.specs.ab_types.proofs.Entries.{type_still_held}
use Rattle.ab_infer.proofs.Grounds.{adds_both, ground_more}
use Rattle.ab_infer.proofs.Larger.{store_more}
use Rattle.ab_infer.proofs.Connectives.{adds_type}
use Rattle.ab_infer.proofs.Judgements.{on_ok, judgement_type, grew_judgement}
use Rattle.ab_infer.proofs.judgement_parts.put_judgement.Goals as goal

pub arrow-requires-clause-to_held : goal.arrow-requires-clause-to_held
arrow-requires-clause-to_held c = type_still_held c.type_over_list.new.types c.kind_type.new.types c.in_ok-list.ensures.adds.kept c.in_ok-rest.rest c.in_ok-rest.ensures.held

pub returns-clause-head : goal.returns-clause-head
returns-clause-head c = λ store typed.
    let one = c.type_over_list.new.types in
    let two = c.kind_type.new.types in
    let three = c.arrow.new.self in
    let adds = adds_both c.args.types.now two three (adds_both c.args.types.now one two c.in_ok-rest.ensures.adds c.in_ok-list.ensures.adds)
    (adds_type two three _ c.arrow.result c.arrow.ensures.kept c.arrow.ensures.entries c.arrow.ensures.err) in
    on_ok c.put.result
    (grew_judgement three store c.args.row.now c.put.new.self c.args.focused c.judgement_constant.result c.in_ok-ty.ty (store_more c.args.types.now three adds.kept store typed) c.in_ok-ty.ensures.held
    (c.judgement_constant.ensures.typed three) (c.judgement_constant.ensures.is three)
    (judgement_type one two three c.in_ok-rest.rest c.in_ok-list.list c.in_ok-ty.ty c.args.focused c.in_ok-list.ensures.adds.kept c.in_ok-rest.ensures.held c.in_ok-rest.ensures.is c.in_ok-list.ensures.is c.in_ok-ty.ensures.id))
    c.put.ensures

pub returns-clause-adds : goal.returns-clause-adds
returns-clause-adds c =
    adds_both c.args.types.now c.kind_type.new.types c.arrow.new.self
    (adds_both c.args.types.now c.type_over_list.new.types c.kind_type.new.types c.in_ok-rest.ensures.adds c.in_ok-list.ensures.adds)
    (adds_type c.kind_type.new.types c.arrow.new.self _ c.arrow.result c.arrow.ensures.kept c.arrow.ensures.entries c.arrow.ensures.err)

pub returns-clause-ground : goal.returns-clause-ground
returns-clause-ground c = λ store formulas scope ground.
    let one = c.type_over_list.new.types in
    let two = c.kind_type.new.types in
    let three = c.arrow.new.self in
    let adds = adds_both c.args.types.now two three (adds_both c.args.types.now one two c.in_ok-rest.ensures.adds c.in_ok-list.ensures.adds)
    (adds_type two three _ c.arrow.result c.arrow.ensures.kept c.arrow.ensures.entries c.arrow.ensures.err) in
    ground_more c.args.types.now three adds store formulas scope c.in_ok-ty.ensures.table ground

pub returns-in_err-rest-clause-ground : goal.returns-in_err-rest-clause-ground
returns-in_err-rest-clause-ground c = λ store formulas scope ground.
    ground_more c.args.types.now c.type_over_list.new.types c.type_over_list.ensures.adds store formulas scope c.type_over_list.ensures.table ground

pub returns-in_err-list-clause-ground : goal.returns-in_err-list-clause-ground
returns-in_err-list-clause-ground c = λ store formulas scope ground.
    ground_more c.args.types.now c.kind_type.new.types (adds_both c.args.types.now c.type_over_list.new.types c.kind_type.new.types c.in_ok-rest.ensures.adds c.kind_type.ensures.adds) store formulas scope c.kind_type.ensures.table ground

pub returns-in_err-ty-clause-ground : goal.returns-in_err-ty-clause-ground
returns-in_err-ty-clause-ground c = λ store formulas scope ground.
    let two = c.kind_type.new.types in
    let three = c.arrow.new.self in
    ground_more c.args.types.now three (adds_both c.args.types.now two three (adds_both c.args.types.now c.type_over_list.new.types two c.in_ok-rest.ensures.adds c.in_ok-list.ensures.adds)
    (adds_type two three _ c.arrow.result c.arrow.ensures.kept c.arrow.ensures.entries c.arrow.ensures.err)) store formulas scope c.arrow.ensures.table ground
