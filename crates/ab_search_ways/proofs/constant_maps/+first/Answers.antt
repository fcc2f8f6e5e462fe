use Rattle.std.proofs.Common.{Some, None, ap, sym, ◌∙◌}
use Rattle.ab_norm.specs.Nominals.{nominal_of}
use Rattle.ab_instances.specs.ListReadings.{names_read}
use Rattle.ab_search_trees.specs.Maps.{images_in}
use Rattle.std.specs.Prelude.{slice_get}
use Rattle.ab_search_ways.specs.MapSteps.{names_of}
use Rattle.ab_search_ways.proofs.Listing.{first_here, none_here, left_over}
use Rattle.ab_search_ways.proofs.constant_maps.+first.Goals as goal
use Rattle.ab_search_ways.proofs.constant_maps.+first.Goals.{first_beginning-then-is_of_type+in_ok-left+in_ok-list+in_default, first_beginning-else-is_of_type}

pub first_beginning-returns-in-Some-clause-first : goal.first_beginning-returns-in-Some-clause-first
first_beginning-returns-in-Some-clause-first t c =
    let types = c.args.types.now in
    let rest = names_read types c.args.rest.now in
    let free = names_read types c.args.free.now in
    ap (λ l. Some (names_read types l)) c.in_ok-begin_with.ensures
    ∙ first_here types (nominal_of types c.args.first) rest free c.args.candidates.now c.loop-a.a-index (record { number = 0; ty = record { 0 = 0 } }) c.loop-a-test.true c.loop-a.invariant
    (sym c.is_of_type.ensures ∙ c.if-is_of_type.true) (Some (names_read types c.in-Some.list.items))
    (sym (ap (names_of types) c.in-Some.is) ∙ c.in_ok-list.ensures.first
    ∙ ap (λ l. slice_get (images_in rest l) 0) (left_over types _ free c.in_ok-left.left.items c.deref.result.now c.in_ok-left.ensures.list c.deref.ensures.value))

pub first_beginning-loop-a-preserved : goal.first_beginning-loop-a-preserved
first_beginning-loop-a-preserved t c =
    let types = c.args.types.now in
    let rest = names_read types c.args.rest.now in
    let free = names_read types c.args.free.now in
    elim c.if-is_of_type.branch [
      | first_beginning-then-is_of_type+in_ok-left+in_ok-list+in_default w ↦
          first_here types (nominal_of types c.args.first) rest free c.args.candidates.now c.loop-a.a-index (record { number = 0; ty = record { 0 = 0 } }) c.loop-a-test.true c.loop-a.invariant
          (sym c.is_of_type.ensures ∙ w.if-is_of_type.true) None
          (sym (ap (names_of types) w.in_default.is) ∙ w.in_ok-list.ensures.first
          ∙ ap (λ l. slice_get (images_in rest l) 0) (left_over types _ free w.in_ok-left.left.items w.deref.result.now w.in_ok-left.ensures.list w.deref.ensures.value))
      | first_beginning-else-is_of_type w ↦
          none_here types (nominal_of types c.args.first) rest free c.args.candidates.now c.loop-a.a-index (record { number = 0; ty = record { 0 = 0 } }) c.loop-a-test.true c.loop-a.invariant
          (sym c.is_of_type.ensures ∙ w.if-is_of_type.false)
    ]
