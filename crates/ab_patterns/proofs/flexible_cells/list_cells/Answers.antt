use Rattle.std.proofs.Common.{◌≡◌, ◌+◌, ◌∷◌, [], ◌++◌, cond, take, get_or, sym, ◌∙◌, ap, arith, append-nil}
use Rattle.std.specs.HashMap.{get}
use Rattle.ab_norm.specs.ab_store.specs.declared.node.CellId.{CellId}
use Rattle.ab_patterns.specs.Flexible.{same_cell, counts, listed_from}
use Rattle.ab_patterns.proofs.Placed.{listed_next}
use Rattle.ab_patterns.proofs.flexible_cells.list_cells.Goals as goal
use Rattle.ab_patterns.proofs.flexible_cells.list_cells.Goals.{then-counts+in_ok-push, else-counts}

pub loop-at-preserved : goal.loop-at-preserved
loop-at-preserved c =
    let places = get same_cell c.args.places.now in
    let row = c.args.row.now in
    let at = c.loop-at.at in
    let cell : CellId = get_or row at (record { 0 = 0 }) in
    let before = listed_from places 0 (take at row) in
    let tells : c.counts.result ≡ counts (places cell) at = c.counts.ensures ∙ ap (λ o. counts o at) (c.copied.ensures ∙ c.get.ensures.value) in
    let step : listed_from places 0 (take (at + 1) row) ≡ before ++ cond c.counts.result (cell ∷ []) [] =
    listed_next places row at (record { 0 = 0 }) (omega arith) ∙ ap (λ b. before ++ cond b (cell ∷ []) []) (sym tells) in
    elim c.if-counts.branch [
      | then-counts+in_ok-push w ↦ ap (λ v. v.items) w.cells-is ∙ w.in_ok-push.ensures.items ∙ ap (λ l. l ++ cell ∷ []) c.loop-at.invariant ∙ sym (step ∙ ap (λ b. before ++ cond b (cell ∷ []) []) w.if-counts.true)
      | else-counts w ↦ ap (λ v. v.items) w.cells-is ∙ c.loop-at.invariant ∙ sym (step ∙ ap (λ b. before ++ cond b (cell ∷ []) []) w.if-counts.false ∙ append-nil before)
    ]
