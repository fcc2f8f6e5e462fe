use Rattle.std.proofs.Common.{◌≤◌, slice_index_or, length, map, arith, sym, ◌∙◌, ap, subst}
use Rattle.std.specs.List.{All}
use Rattle.std.proofs.lemmas.List.Elements.{All-push}
use Rattle.std.proofs.lemmas.Result.{on_ok_weaker}
use Rattle.ab_norm.specs.ab_types.specs.Ids.{HoldsType, type_of}
use Rattle.ab_norm.specs.Nominals.{HoldsNominal}
use Rattle.ab_instances.specs.ListReadings.{names_read}
use Rattle.ab_instances.proofs.Chosen.{rest_all, first_all, rest_shorter, behind_reads, behind_held}
use Rattle.ab_instances.proofs.constant_choices.+chosen.Goals as goal

pub choose-choose_after-requires : goal.choose-choose_after-requires
choose-choose_after-requires t c =
    let types = c.args.types.now in
    let l : 1 ≤ length c.args.names.now = c.in-len1-up.len_at_least in
    let first : HoldsType types (slice_index_or c.args.names.now 0 (record { 0 = 0 })) = first_all (HoldsType types) c.args.names.now (record { 0 = 0 }) l c.requires.names in
    let new : HoldsNominal types c.new_constant.result = subst (HoldsType types) (sym c.new_constant.ensures.ty) first in
    let all : All (HoldsNominal types) c.deref-a-items.result.now = subst (All (HoldsNominal types)) (sym (c.deref-a-items.ensures.value ∙ c.in_ok-push-in-len1-up.ensures.items))
    (All-push (HoldsNominal types) c.in_ok-candidates-in-len1-up.candidates.items c.new_constant.result c.in_ok-candidates-in-len1-up.ensures.held new) in (
      omega (arith, rest_shorter c.args.names.now l, c.decreases),
      (c.requires.table, (all c.loop-a.a-index (record { number = 0; ty = record { 0 = 0 } }) c.loop-a-test.true, (rest_all (HoldsType types) c.args.names.now l c.requires.names, (c.requires.free, (c.requires.held, c.loop-a.invariant.held))))),
    )

pub choose_after-returns-clause-list : goal.choose_after-returns-clause-list
choose_after-returns-clause-list t c =
    let types = c.args.types.now in
    on_ok_weaker c.add_behind.result (λ now.
    behind_reads types c.args.a (map (type_of types) c.args.rest.now) c.args.list.now.items c.add_behind.new.list.items c.deref-3.result.now c.args.free.now c.args.held.now c.deref.result.now c.deref-2.result.now
    (ap (names_read types) c.deref.ensures.value ∙ c.in_ok-left.ensures.list) (c.deref-2.ensures.value ∙ c.in_ok-more.ensures) (ap (map (names_read types)) c.deref-3.ensures.value ∙ c.in_ok-choices.ensures.list) now) c.add_behind.ensures

pub choose_after-returns-clause-held : goal.choose_after-returns-clause-held
choose_after-returns-clause-held t c =
    let types = c.args.types.now in
    on_ok_weaker c.add_behind.result (λ now.
    behind_held (HoldsNominal types) c.args.a c.args.list.now.items c.add_behind.new.list.items c.deref-3.result.now c.requires.a c.requires.list (subst (All (All (HoldsNominal types))) (sym c.deref-3.ensures.value) c.in_ok-choices.ensures.held) now) c.add_behind.ensures
