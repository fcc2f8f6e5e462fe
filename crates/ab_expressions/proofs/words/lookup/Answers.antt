use Rattle.std.proofs.Common.{◌≡◌, Some, sym, ◌∙◌, ap, get_or, bytes_eq, true, false}
use Rattle.ab_expressions.proofs.Lookups.{row_found, row_passed}
use Rattle.ab_expressions.proofs.words.lookup.Goals as goal

pub returns-then-eq : goal.returns-then-eq
returns-then-eq g c =
    let d = c.loop-known-item.result in
    let same = c.loop-known-item.is in
    let hit : bytes_eq c.args.word.now ((get_or c.args.table.now c.loop-known.known-index d).0.now) ≡ true = ap (λ r. bytes_eq c.args.word.now (r.0.now)) (sym same) ∙ sym c.eq.ensures ∙ c.if-eq.true in
    let found = row_found (λ row. (row.0.now, row.1)) c.args.table.now c.args.word.now d c.loop-known.known-index c.loop-known-test.true hit in
    ap (λ r. Some (r.1)) same ∙ sym found ∙ c.loop-known.invariant

pub loop-known-preserved : goal.loop-known-preserved
loop-known-preserved g c =
    let d = c.loop-known-item.result in
    let same = c.loop-known-item.is in
    let miss : bytes_eq c.args.word.now ((get_or c.args.table.now c.loop-known.known-index d).0.now) ≡ false = ap (λ r. bytes_eq c.args.word.now (r.0.now)) (sym same) ∙ sym c.eq.ensures ∙ c.if-eq.false in
    sym (row_passed (λ row. (row.0.now, row.1)) c.args.table.now c.args.word.now d c.loop-known.known-index c.loop-known-test.true miss) ∙ c.loop-known.invariant
