use Rattle.ab_print.proofs.Putting.{put_is}
use Rattle.ab_print.proofs.places.enter.Goals as goal

pub returns-clause-put : goal.returns-clause-put
returns-clause-put c =
    put_is c.args.places.now c.insert.new.self c.in_ok-from_slice.field-0 c.in_ok-bound.bound c.args.name.now c.args.bound.now c.in_ok-outer.ensures.updates c.in_ok-from_slice.ensures.items c.in_ok-bound.ensures.items
