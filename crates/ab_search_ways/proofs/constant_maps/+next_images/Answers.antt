use Rattle.std.proofs.Common.{◌≡◌, ◌≢◌, ◌-◌, length, take, drop, slice_index_or, Some, None, ap, sym, ◌∙◌, subst, arith}
use Rattle.std.specs.Prelude.{All, AllPairs, slice_get}
use Rattle.ab_norm.specs.Nominals.{nominal_of, HoldsNominal}
use Rattle.ab_norm.proofs.Frame.{if_ok}
use Rattle.ab_instances.specs.ListReadings.{names_read}
use Rattle.ab_unifiers.specs.Choices.{others}
use Rattle.ab_search_trees.specs.Maps.{images_in}
use Rattle.ab_search_ways.specs.MapSteps.{names_of, images_beginning, IsNextOf}
use Rattle.ab_search_ways.proofs.Listing.{rest_all, first_all, rest_shorter, left_over, others_once, no_next, next_here}
use Rattle.ab_search_ways.proofs.constant_maps.+next_images.Goals as goal

pub returns-in_default-now-clause-next : goal.returns-in_default-now-clause-next
returns-in_default-now-clause-next t c =
    let types = c.args.types.now in
    no_next types c.args.names.now c.args.now.now (names_read types c.args.free.now) c.in-len1-up.len_at_least c.in_default-now.len_below

pub next_images-requires : goal.next_images-requires
next_images-requires t c =
    let types = c.args.types.now in
    let free = names_read types c.args.free.now in
    let a = nominal_of types (slice_index_or c.args.now.now 0 (record { number = 0; ty = record { 0 = 0 } })) in
    let left : names_read types c.deref.result.now ≡ others a free = left_over types a free c.in_ok-left.left.items c.deref.result.now c.in_ok-left.ensures.list c.deref.ensures.value in (
      omega (arith, rest_shorter c.args.names.now c.in-len1-up.len_at_least, c.decreases),
      (
        c.requires.table,
        (
          rest_all (HoldsNominal types) c.args.names.now c.in-len1-up.len_at_least c.requires.names,
          (
            subst (All (HoldsNominal types)) (sym c.deref.ensures.value) c.in_ok-left.ensures.held,
            (
              subst (AllPairs (λ x y. x ≢ y)) (sym left) (others_once a free c.requires.once),
              rest_all (HoldsNominal types) c.args.now.now c.in-len1-up-now.len_at_least c.requires.now,
            ),
          ),
        ),
      ),
    )

pub returns-in-Some-clause-next : goal.returns-in-Some-clause-next
returns-in-Some-clause-next t c =
    let types = c.args.types.now in
    let names = c.args.names.now in
    let now = c.args.now.now in
    let free = names_read types c.args.free.now in
    let a = nominal_of types (slice_index_or now 0 (record { number = 0; ty = record { 0 = 0 } })) in
    let left : names_read types c.deref.result.now ≡ others a free = left_over types a free c.in_ok-left.left.items c.deref.result.now c.in_ok-left.ensures.list c.deref.ensures.value in
    subst (IsNextOf (images_in (names_read types names) free) (names_read types now)) (sym (ap (λ l. Some (names_read types l)) c.in_ok-begin_with.ensures))
    (next_here types names now c.deref.result.now free (record { number = 0; ty = record { 0 = 0 } }) c.in-len1-up.len_at_least c.in-len1-up-now.len_at_least c.requires.once left (Some (names_read types c.in-Some.list.items))
    (subst (IsNextOf (images_in (names_read types (take (length names - 1) (drop 1 names))) (names_read types c.deref.result.now)) (names_read types (take (length now - 1) (drop 1 now)))) (ap (names_of types) c.in-Some.is) c.in_ok-list.ensures.next))

pub first_beginning-requires-clause-rest : goal.first_beginning-requires-clause-rest
first_beginning-requires-clause-rest t c = rest_all (HoldsNominal c.args.types.now) c.args.names.now c.in-len1-up.len_at_least c.requires.names

pub returns-clause-next : goal.returns-clause-next
returns-clause-next t c =
    let types = c.args.types.now in
    let names = c.args.names.now in
    let now = c.args.now.now in
    let free = names_read types c.args.free.now in
    let a = nominal_of types (slice_index_or now 0 (record { number = 0; ty = record { 0 = 0 } })) in
    let left : names_read types c.deref.result.now ≡ others a free = left_over types a free c.in_ok-left.left.items c.deref.result.now c.in_ok-left.ensures.list c.deref.ensures.value in
    if_ok c.first_beginning.result (λ o first.
    subst (IsNextOf (images_in (names_read types names) free) (names_read types now)) (ap (λ l. slice_get (images_beginning (nominal_of types (slice_index_or names 0 (record { number = 0; ty = record { 0 = 0 } }))) (names_read types (take (length names - 1) (drop 1 names))) free l) 0)
    (sym (c.behind.ensures.list types c.requires.table c.requires.free (first_all (HoldsNominal types) now (record { number = 0; ty = record { 0 = 0 } }) c.in-len1-up-now.len_at_least c.requires.now)))
    ∙ sym first)
    (next_here types names now c.deref.result.now free (record { number = 0; ty = record { 0 = 0 } }) c.in-len1-up.len_at_least c.in-len1-up-now.len_at_least c.requires.once left None
    (subst (IsNextOf (images_in (names_read types (take (length names - 1) (drop 1 names))) (names_read types c.deref.result.now)) (names_read types (take (length now - 1) (drop 1 now)))) (ap (names_of types) c.in_default-2.is) c.in_ok-list.ensures.next))) c.first_beginning.ensures.first
