use Rattle.std.proofs.Common.{refl, sym, ap, ◌∙◌, subst}
use Rattle.std.specs.List.{All}
use Rattle.std.specs.Option.{option_copied}
use Rattle.ab_norm.specs.ab_store.specs.Trees.{HoldsCell}
use Rattle.ab_logic.specs.declared.world.World.{World}
use Rattle.ab_search_paths.proofs.EntriesKept.{at_holds, later_terms}
use Rattle.ab_search_paths.proofs.StandIns.{term_in}
use Rattle.ab_search_paths.proofs.ways_taken.by_term.Goals as goal

pub cell_given-requires-clause-cell : goal.cell_given-requires-clause-cell
cell_given-requires-clause-cell c =
    let w = c.args.world.now in
    let all = c.in_ok-cells.ensures w.types w.store c.requires.after.answer in
    at_holds (HoldsCell w.store) c.deref.result.now 0 c.in-Some.cell.now (sym c.first.ensures.value ∙ ap option_copied c.in-Some.is) (subst (All (HoldsCell w.store)) (sym c.deref.ensures.value) all)

pub returns-clause-taken : goal.returns-clause-taken
returns-clause-taken c =
    let w = c.args.world.now in
    let v : World = record { types = w.types; store = c.cell_given.new.store; additions = w.additions } in
    term_in v (later_terms w v c.requires.world refl refl c.cell_given.ensures.adds).grows.world c.in_ok-term.term c.in_ok-term.ensures.typed

pub returns-in_err-term-clause-later : goal.returns-in_err-term-clause-later
returns-in_err-term-clause-later c =
    let w = c.args.world.now in
    later_terms w (record { types = w.types; store = c.cell_given.new.store; additions = w.additions }) c.requires.world refl refl c.cell_given.ensures.adds

pub returns-clause-later : goal.returns-clause-later
returns-clause-later c =
    let w = c.args.world.now in
    later_terms w (record { types = w.types; store = c.cell_given.new.store; additions = w.additions }) c.requires.world refl refl c.cell_given.ensures.adds
