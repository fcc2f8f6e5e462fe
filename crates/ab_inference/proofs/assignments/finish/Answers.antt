use Rattle.ab_inference.proofs.Joining.{link_order, arrow_names}
use Rattle.ab_inference.proofs.Tables.{same_kinds, same_constants}
use Rattle.ab_inference.proofs.assignments.finish.Goals as goal

pub arrow-requires-clause-from_held : goal.arrow-requires-clause-from_held
arrow-requires-clause-from_held c =
    let n = arrow_names c.args.shapes.now c.args.i c.in-Arrow.from c.in-Arrow.to c.requires.formed c.requires.i_in c.in-Arrow.is in
    (c.requires.settling.at c.in-Arrow.from c.settled_of-from.result n.0 c.settled_of-from.ensures).within

pub arrow-requires-clause-to_held : goal.arrow-requires-clause-to_held
arrow-requires-clause-to_held c =
    let n = arrow_names c.args.shapes.now c.args.i c.in-Arrow.from c.in-Arrow.to c.requires.formed c.requires.i_in c.in-Arrow.is in
    (c.requires.settling.at c.in-Arrow.to c.settled_of-to.result n.1 c.settled_of-to.ensures).within

pub returns-in-Link-clause-held : goal.returns-in-Link-clause-held
returns-in-Link-clause-held c =
    let n = link_order c.args.shapes.now c.args.i c.in-Link.j c.requires.formed c.requires.i_in c.in-Link.is in
    (c.requires.settling.at c.in-Link.j c.settled_of.result n.1 c.settled_of.ensures).within

pub returns-in_ok-ty-in-Arrow-clause-kinds : goal.returns-in_ok-ty-in-Arrow-clause-kinds
returns-in_ok-ty-in-Arrow-clause-kinds c = same_kinds c.args.types.now c.arrow.new.self _ c.in_ok-ty-in-Arrow.ensures.entries

pub returns-in_ok-ty-in-Arrow-clause-constants : goal.returns-in_ok-ty-in-Arrow-clause-constants
returns-in_ok-ty-in-Arrow-clause-constants c = same_constants c.args.types.now c.arrow.new.self _ c.in_ok-ty-in-Arrow.ensures.entries
