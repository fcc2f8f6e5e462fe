use Rattle.std.proofs.Common.{◌≡◌, ◌+◌, ◌-◌, ◌<◌, [], map, drop, length, sym, ◌∙◌, ap, subst, arith}
use Rattle.ab_term.specs.Types.{Ty}
use Rattle.ab_term.specs.Abstraction.{over}
use Rattle.ab_norm.specs.ab_store.specs.Naming.{IsTerm}
use Rattle.ab_norm.specs.declared.nominal.Nominal.{Nominal}
use Rattle.ab_norm.specs.Nominals.{nominal_of}
use Rattle.ab_norm.proofs.Frame.{typed_none, typed_on}
use Rattle.ab_search_paths.proofs.CellTerms.{over_none, over_next}
use Rattle.ab_search_paths.proofs.cell_terms.over_constants.Goals as goal

pub returns-in_err-here-clause-adds : goal.returns-in_err-here-clause-adds
returns-in_err-here-clause-adds c = λ types typed held.
    let none : Nominal = record { number = 0; ty = record { 0 = 0 } } in
    let before = c.loop-done.invariant.adds types typed held in
    typed_on types c.args.store.now c.loop-done.store c.over_constant.new.store before
    (c.in_err-here.ensures.adds types before.typed (held (length c.args.constants.now - 1 - c.loop-done.done) none (omega arith)))

pub loop-done-init : goal.loop-done-init
loop-done-init c =
    let names = c.args.constants.now in
    record {
      held = c.requires.term;
      typed = λ types A table typed held is. subst (λ B. IsTerm types c.args.store.now [] c.args.term B) (sym (over_none types names (length names - 0) A (omega arith))) is;
      adds = λ types typed held. typed_none types c.args.store.now typed;
    }

pub loop-done-preserved : goal.loop-done-preserved
loop-done-preserved c =
    let none : Nominal = record { number = 0; ty = record { 0 = 0 } } in
    let names = c.args.constants.now in
    let done = c.loop-done.done in
    let place = length names - 1 - done in
    let there : place < length names = omega arith in
    let next : length names - done ≡ place + 1 = omega arith in
    let same : length names - (done + 1) ≡ place = omega arith in
    let new = c.over_constant.new.store in
    record {
      held = c.in_ok-here.ensures.held;
      typed = λ types A table typed held is.
          let before = c.loop-done.invariant.adds types typed held in
          let B : Ty = over (map (nominal_of types) (drop (length names - done) names)) A in
          subst (λ C. IsTerm types new [] c.in_ok-here.here C)
          (sym (ap (λ n. over (map (nominal_of types) (drop n names)) A) same ∙ over_next types names place (length names - done) none A there next))
          (c.in_ok-here.ensures.typed types B table before.typed (held place none there) (c.loop-done.invariant.typed types A table typed held is));
      adds = λ types typed held.
          let before = c.loop-done.invariant.adds types typed held in
          typed_on types c.args.store.now c.loop-done.store new before (c.in_ok-here.ensures.adds types before.typed (held place none there));
    }

pub returns-clause-typed : goal.returns-clause-typed
returns-clause-typed c = λ types A table typed held is.
    let names = c.args.constants.now in
    let end : length names - c.loop-done.done ≡ 0 = omega arith in
    subst (λ n. IsTerm types c.loop-done.store [] c.loop-done.here (over (map (nominal_of types) (drop n names)) A)) end (c.loop-done.invariant.typed types A table typed held is)
