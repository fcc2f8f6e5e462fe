use Rattle.std.proofs.Common.{◌-◌, sym, subst, arith}
use Rattle.std.specs.List.{All}
use Rattle.std.proofs.lemmas.List.Elements.{All-push}
use Rattle.ab_walk.specs.ab_next_ways.specs.ab_search_ways.specs.Answers.{HoldsPlace}
use Rattle.ab_walk.specs.declared.frames.Frame.{Frame}
use Rattle.ab_search_paths.specs.Paths.{HoldsEntry}
use Rattle.ab_search_paths.proofs.EntriesKept.{later_on, path_later, entries_later}
use Rattle.ab_search_paths.proofs.answer_paths.open_path.Goals as goal

pub open_entry-requires-clause-before : goal.open_entry-requires-clause-before
open_entry-requires-clause-before g c =
    let v = c.loop-place.world in
    let all = path_later c.args.world.now v c.loop-place.invariant.later c.args.path.now c.requires.path in
    subst (λ (f : Frame). HoldsPlace v.types v.store f.place) (sym c.index-path-place-in-loop-place.is) (all (c.loop-place.place - 1) c.index-path-place-in-loop-place.result (omega arith))

pub open_entry-requires-clause-after : goal.open_entry-requires-clause-after
open_entry-requires-clause-after g c =
    let v = c.loop-place.world in
    let all = path_later c.args.world.now v c.loop-place.invariant.later c.args.path.now c.requires.path in
    all c.loop-place.place c.index-path-place.result (omega arith)

pub returns-in_err-open_entry-clause-later : goal.returns-in_err-open_entry-clause-later
returns-in_err-open_entry-clause-later g c = later_on c.args.world.now c.loop-place.world c.open_entry.new.world c.loop-place.invariant.later c.open_entry.ensures.later

pub returns-in_err-push-clause-later : goal.returns-in_err-push-clause-later
returns-in_err-push-clause-later g c = later_on c.args.world.now c.loop-place.world c.open_entry.new.world c.loop-place.invariant.later c.open_entry.ensures.later

pub loop-place-preserved : goal.loop-place-preserved
loop-place-preserved g c =
    let l = c.loop-place in
    let v = c.open_entry.new.world in
    let P = HoldsEntry v in
    let later = c.open_entry.ensures.later in
    let counted = l.invariant.counted in
    let more = c.open_entry.ensures.steps in
    record {
      later = later_on c.args.world.now l.world v l.invariant.later later;
      entries = subst (All P) (sym c.in_ok-push.ensures.items) (All-push P l.entries.items c.in_ok-open_entry.field-0 (entries_later l.world v later l.entries.items l.invariant.entries) c.in_ok-open_entry.ensures.entry);
      counted = omega (arith, counted, more);
    }
