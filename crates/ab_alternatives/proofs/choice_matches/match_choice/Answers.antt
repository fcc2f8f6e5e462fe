use Rattle.std.proofs.Common.{◌∙◌}
use Rattle.ab_equations.proofs.Restored as restored
use Rattle.ab_logic.specs.declared.world.World.{World}
use Rattle.ab_unify.proofs.Cut.{cut_as_before, cut_grows}
use Rattle.ab_alternatives.proofs.Tried.{grown_to, declared_to}
use Rattle.ab_alternatives.proofs.choice_matches.match_choice.Goals as goal

pub returns-clause-cells : goal.returns-clause-cells
returns-clause-cells g c =
    let w = c.args.world.now in
    let W = c.match_in-matched.new.world in
    let X = c.cut_to.new.self in
    let m = c.mark-mark.result in
    let back = c.cut_to.ensures in
    let before = cut_as_before w.types W.types w.store W.store X m c.requires.world.typed c.match_in-matched.ensures.grows c.mark-mark.ensures.has c.mark-mark.ensures.bindings c.mark-mark.ensures.nodes c.mark-mark.ensures.cells back.bindings back.nodes back.cells in
    restored.same_cells_read w.types W.types w.store X c.requires.world.typed c.match_in-matched.ensures.grows.table before.1

pub returns-clause-grows : goal.returns-clause-grows
returns-clause-grows g c =
    let w = c.args.world.now in
    let W = c.match_in-matched.new.world in
    let X = c.cut_to.new.self in
    let end : World = record { types = W.types; store = X; additions = W.additions } in
    let m = c.mark-mark.result in
    let back = c.cut_to.ensures in
    let g3 = cut_grows w.types W.types w.store W.store X m c.requires.world.typed c.match_in-matched.ensures.grows c.mark-mark.ensures.has c.mark-mark.ensures.bindings c.mark-mark.ensures.nodes c.mark-mark.ensures.cells back.bindings back.nodes back.cells c.mark-mark.ensures.typed back.typed back.marks in
    let before = cut_as_before w.types W.types w.store W.store X m c.requires.world.typed c.match_in-matched.ensures.grows c.mark-mark.ensures.has c.mark-mark.ensures.bindings c.mark-mark.ensures.nodes c.mark-mark.ensures.cells back.bindings back.nodes back.cells in
    grown_to w end c.requires.world c.match_in-matched.ensures.additions g3 (before.2 ∙ c.requires.world.unbound)

pub returns-clause-declared : goal.returns-clause-declared
returns-clause-declared g c =
    let w = c.args.world.now in
    let W = c.match_in-matched.new.world in
    let X = c.cut_to.new.self in
    let end : World = record { types = W.types; store = X; additions = W.additions } in
    let m = c.mark-mark.result in
    let back = c.cut_to.ensures in
    let g3 = cut_grows w.types W.types w.store W.store X m c.requires.world.typed c.match_in-matched.ensures.grows c.mark-mark.ensures.has c.mark-mark.ensures.bindings c.mark-mark.ensures.nodes c.mark-mark.ensures.cells back.bindings back.nodes back.cells c.mark-mark.ensures.typed back.typed back.marks in
    declared_to w end c.requires.world c.match_in-matched.ensures.additions g3
