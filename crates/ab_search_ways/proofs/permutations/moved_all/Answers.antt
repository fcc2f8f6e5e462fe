use Rattle.std.proofs.Common.{◌≡◌, ◌+◌, ◌-◌, ◌<◌, length, map, drop, get_or, arith, sym, ◌∙◌, ap, subst}
use Rattle.std.specs.List.{All}
use Rattle.ab_term.proofs.Permuting.{exchange, moved}
use Rattle.ab_norm.specs.Nominals.{nominal_of, HoldsNominal}
use Rattle.ab_instances.specs.ListReadings.{names_read}
use Rattle.ab_search_ways.proofs.Moving.{none_moved, nothing_left, moved_more, same_length}
use Rattle.ab_search_ways.proofs.permutations.moved_all.Goals as goal

pub loop-done-init : goal.loop-done-init
loop-done-init c =
    let types = c.args.types.now in
    let names = c.args.names.now in
    let targets = c.args.targets.now in
    let all = names_read types c.args.all.now in
    record {
      list = ap (names_read types) c.in_ok-now.ensures.items
          ∙ sym (ap (λ xs. map (moved (names_read types xs) (names_read types (drop (length names - 0) targets))) all) (nothing_left names (length names - 0) (omega arith)) ∙ none_moved (names_read types (drop (length names - 0) targets)) all);
      held = subst (All (HoldsNominal types)) (sym c.in_ok-now.ensures.items) c.requires.all;
      as_many = ap length c.in_ok-now.ensures.items;
    }

pub loop-done-preserved : goal.loop-done-preserved
loop-done-preserved c =
    let types = c.args.types.now in
    let names = c.args.names.now in
    let targets = c.args.targets.now in
    let all = names_read types c.args.all.now in
    let done = c.loop-done.done in
    let place = length names - 1 - done in
    let within : done < length names = c.loop-done-test.true in
    let same : place ≡ length names - (done + 1) = omega arith in
    let before : length names - done ≡ place + 1 = omega (arith, within) in
    let y = nominal_of types (get_or targets place (record { number = 0; ty = record { 0 = 0 } })) in
    let made : names_read types c.in_ok-now-2.now.items ≡ map (exchange (nominal_of types (get_or c.loop-done.now.items place c.index.result.now)) y) (names_read types c.loop-done.now.items) =
    c.in_ok-now-2.ensures.list
    ∙ ap (λ x. map (exchange (nominal_of types x) y) (names_read types c.deref.result.now)) c.index.ensures
    ∙ ap (λ l. map (exchange (nominal_of types (get_or c.loop-done.now.items place c.index.result.now)) y) (names_read types l)) c.deref.ensures.value in
    let list : names_read types c.in_ok-now-2.now.items ≡ map (moved (names_read types (drop place names)) (names_read types (drop place targets))) all =
    moved_more types names targets c.args.all.now c.loop-done.now.items c.in_ok-now-2.now.items c.requires.front.0 place c.index.result.now (record { number = 0; ty = record { 0 = 0 } }) (omega (arith, within)) c.requires.as_many c.requires.front.1
    (subst (λ k. names_read types c.loop-done.now.items ≡ map (moved (names_read types (drop k names)) (names_read types (drop k targets))) all) before c.loop-done.invariant.list) made in
    record {
      list = subst (λ k. names_read types c.in_ok-now-2.now.items ≡ map (moved (names_read types (drop k names)) (names_read types (drop k targets))) all) same list;
      held = c.in_ok-now-2.ensures.held;
      as_many = same_length types (moved (names_read types (drop place names)) (names_read types (drop place targets))) c.args.all.now c.in_ok-now-2.now.items list;
    }
