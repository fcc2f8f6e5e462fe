use Rattle.std.proofs.Common.{refl}
use Rattle.ab_norm.proofs.Frame.{if_ok}
use Rattle.ab_logic.specs.declared.world.World.{World}
use Rattle.ab_walk.specs.ab_next_ways.specs.ab_search_ways.proofs.Posed.{grown, told}
use Rattle.ab_search_paths.proofs.EntriesKept.{path_later, later_on, entries_in, entries_out}
use Rattle.ab_search_paths.proofs.answer_paths.final_path.Goals as goal

pub with_values-list-requires-clause-path : goal.with_values-list-requires-clause-path
with_values-list-requires-clause-path g c = path_later c.args.world.now c.open_path.new.world c.open_path.ensures.later c.args.path.now c.requires.path

pub with_values-list-requires-clause-entries : goal.with_values-list-requires-clause-entries
with_values-list-requires-clause-entries g c = entries_in c.open_path.new.world c.open_path.ensures.later.grows.world c.in_ok-entries.entries.items c.in_ok-entries.ensures.entries

pub returns-clause-entries : goal.returns-clause-entries
returns-clause-entries g c =
    let u = c.open_path.new.world in
    let first = c.open_path.ensures.later in
    let bound = c.with_values-list.ensures.grows in
    let x : World = record { types = u.types; store = c.with_values-list.new.store; additions = u.additions } in
    let v : World = record { types = u.types; store = c.rewind.new.self; additions = u.additions } in
    let m = c.mark-mark.ensures in
    let r = c.rewind.ensures in
    let again = grown u x first.grows.world refl bound c.mark-mark.result m.has m.bindings c.rewind.new.self r.nodes r.cells r.bindings (r.typed u.types bound.typed) r.marks in
    if_ok c.with_values-list.result (λ list all. entries_out v again.world c.with_values-list.new.store r.nodes r.cells list.items all) c.with_values-list.ensures.entries

pub returns-clause-later : goal.returns-clause-later
returns-clause-later g c =
    let w = c.args.world.now in
    let u = c.open_path.new.world in
    let first = c.open_path.ensures.later in
    let bound = c.with_values-list.ensures.grows in
    let x : World = record { types = u.types; store = c.with_values-list.new.store; additions = u.additions } in
    let v : World = record { types = u.types; store = c.rewind.new.self; additions = u.additions } in
    let m = c.mark-mark.ensures in
    let r = c.rewind.ensures in
    later_on w u v first
    (record {
      grows = grown u x first.grows.world refl bound c.mark-mark.result m.has m.bindings c.rewind.new.self r.nodes r.cells r.bindings (r.typed u.types bound.typed) r.marks;
      declared = told u x first.grows.world refl bound c.mark-mark.result m.has m.bindings c.rewind.new.self r.nodes r.cells r.bindings (r.typed u.types bound.typed) r.marks;
    })
