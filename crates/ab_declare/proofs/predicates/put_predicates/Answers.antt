use Rattle.std.proofs.Common.{◌∙◌, ◌∷◌, [], map, take, drop, ◌+◌, sym, subst}
use Rattle.std.proofs.lemmas.Result.{err_from_is_err_and}
use Rattle.ab_norm.specs.ab_types.proofs.Entries.{extended_twice}
use Rattle.ab_syntax.specs.Commands.{defined_of}
use Rattle.ab_declare.specs.Halts.{Halts, ArePut, ArentPut}
use Rattle.ab_declare.proofs.Putting.{put_more, put_stops}
use Rattle.ab_declare.proofs.Turns.{halts_more, at_item, behind_item}
use Rattle.ab_declare.proofs.predicates.put_predicates.Goals as goal

pub returns-in_err-id-clause-put : goal.returns-in_err-id-clause-put
returns-in_err-id-clause-put c =
    let i = c.loop-predicate.predicate-index in
    let xs = c.args.predicates.now in
    let d = defined_of c.predicate-item.result in
    let t = c.args.types.now in
    let u = c.loop-predicate.types in
    let p = err_from_is_err_and c.from_residual.result c.from_residual.ensures.1 in
    rw (p.1, p.2) (subst (λ ds. Halts (ArentPut t ds) c.in_err-id.field-0.0) (sym (at_item defined_of xs i c.predicate-item.result c.loop-predicate-test.true c.predicate-item.is))
    (halts_more (ArentPut u (d ∷ [])) (ArentPut t _) c.in_err-id.field-0.0
    (put_stops t u (map defined_of (take i xs)) c.loop-predicate.ids.items c.loop-predicate.invariant.put c.loop-predicate.invariant.kinds d (map defined_of (drop (i + 1) xs))) c.in_err-id.ensures.put))

pub returns-in_err-put_last-clause-kept : goal.returns-in_err-put_last-clause-kept
returns-in_err-put_last-clause-kept c = extended_twice c.args.types.now c.loop-predicate.types c.put_predicate.new.types c.loop-predicate.invariant.kept c.in_ok-id.ensures.kept

pub loop-predicate-preserved : goal.loop-predicate-preserved
loop-predicate-preserved c =
    let i = c.loop-predicate.predicate-index in
    let xs = c.args.predicates.now in
    let t = c.args.types.now in
    let u = c.loop-predicate.types in
    let v = c.put_predicate.new.types in
    let d = defined_of c.predicate-item.result in
    let inv = c.loop-predicate.invariant in
    let more = put_more t u (map defined_of (take i xs)) c.loop-predicate.ids.items inv.put inv.kinds v d c.in_ok-id.id c.in_ok-id.ensures.kept c.in_ok-id.ensures.put in
    record {
      put = rw (behind_item defined_of xs i c.predicate-item.result c.loop-predicate-test.true c.predicate-item.is, c.in_ok-put_last.ensures) more;
      kinds = c.in_ok-id.ensures.kinds ∙ inv.kinds;
      kept = extended_twice t u v inv.kept c.in_ok-id.ensures.kept;
      table = c.in_ok-id.ensures.table;
    }
