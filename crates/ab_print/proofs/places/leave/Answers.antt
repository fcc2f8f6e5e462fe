use Rattle.std.proofs.Common.{ap, sym}
use Rattle.ab_print.specs.Places.{places_in}
use Rattle.ab_print.proofs.Putting.{put_is, taken_out}
use Rattle.ab_print.proofs.places.leave.Goals as goal

pub returns-in_ok-insert-in-Some : goal.returns-in_ok-insert-in-Some
returns-in_ok-insert-in-Some c =
    put_is c.args.places.now c.insert.new.self c.in_ok-from_slice-in-Some.field-0 c.in-Some.numbers c.args.name.now (places_in c.args.outer) c.in_ok-insert-in-Some.ensures.updates c.in_ok-from_slice-in-Some.ensures.items
    (sym (ap places_in c.in-Some.is))

pub returns-in-None : goal.returns-in-None
returns-in-None c = taken_out c.args.places.now c.remove.new.self c.args.name.now (places_in c.args.outer) c.remove.ensures.updates (ap places_in c.in-None.is)
