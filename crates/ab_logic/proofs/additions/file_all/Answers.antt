use Rattle.std.specs.HashMap.{get}
use Rattle.std.specs.Map.{lookup}
use Rattle.std.proofs.Common.{take, get_or, Some, if◌then◌else◌, refl, sym, ap, ◌∙◌}
use Rattle.std.proofs.lemmas.List.{take_more, take_all}
use Rattle.ab_store.specs.ab_types.specs.declared.ids.ConstId.{ConstId}
use Rattle.ab_logic.specs.Additions.{same_constant, is_among}
use Rattle.ab_logic.proofs.Lookups.{put_one, put_some}
use Rattle.ab_logic.proofs.additions.file_all.Goals as goal

pub returns-in_err-insert-clause-part : goal.returns-in_err-insert-clause-part
returns-in_err-insert-clause-part c = λ p.
    put_some p c.args.place c.loop-predicate.predicate-index c.args.predicates.now (get same_constant c.args.places.now p) (get same_constant c.insert.new.self p)
    (ap (lookup (same_constant p)) c.in_err-insert.ensures.err ∙ c.loop-predicate.invariant.filed p)

pub loop-predicate-init : goal.loop-predicate-init
loop-predicate-init c = record { filed = λ p. refl }

pub loop-predicate-preserved : goal.loop-predicate-preserved
loop-predicate-preserved c = record {
  filed = λ p.
      let i = c.loop-predicate.predicate-index in
      let ps = c.args.predicates.now in
      let d : ConstId = record { 0 = 0 } in
      put_one (get_or ps i d) p c.args.place (take i ps) (get same_constant c.loop-predicate.places p) (get same_constant c.insert.new.self p) (get same_constant c.args.places.now p)
      (c.in_ok-insert.ensures.updates.0 p) (c.loop-predicate.invariant.filed p)
      ∙ ap (λ qs. if is_among qs p then Some c.args.place else (get same_constant c.args.places.now p)) (sym (take_more ps i d c.loop-predicate-test.true));
}

pub returns-clause-filed : goal.returns-clause-filed
returns-clause-filed c = λ p.
    c.loop-predicate.invariant.filed p
    ∙ ap (λ qs. if is_among qs p then Some c.args.place else (get same_constant c.args.places.now p)) (take_all c.loop-predicate.predicate-index c.args.predicates.now c.loop-predicate-test.false)

pub returns-clause-part : goal.returns-clause-part
returns-clause-part c = λ p.
    put_some p c.args.place c.loop-predicate.predicate-index c.args.predicates.now (get same_constant c.args.places.now p) (get same_constant c.loop-predicate.places p) (c.loop-predicate.invariant.filed p)
