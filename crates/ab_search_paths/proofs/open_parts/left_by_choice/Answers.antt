use Rattle.ab_search_paths.proofs.Parts.{cut_off}
use Rattle.ab_search_paths.proofs.open_parts.left_by_choice.Goals as goal

pub returns-clause-grows : goal.returns-clause-grows
returns-clause-grows g c =
    let m = c.mark-mark.ensures in
    let made = c.open_of_choice-list in
    let back = c.cut_to.ensures in
    (cut_off c.args.world.now made.new.world c.requires.world made.ensures.additions made.ensures.grows c.mark-mark.result m.has m.bindings m.nodes m.cells m.typed c.cut_to.new.self back.bindings back.nodes back.cells back.typed back.marks).0

pub returns-clause-declared : goal.returns-clause-declared
returns-clause-declared g c =
    let m = c.mark-mark.ensures in
    let made = c.open_of_choice-list in
    let back = c.cut_to.ensures in
    (cut_off c.args.world.now made.new.world c.requires.world made.ensures.additions made.ensures.grows c.mark-mark.result m.has m.bindings m.nodes m.cells m.typed c.cut_to.new.self back.bindings back.nodes back.cells back.typed back.marks).1
