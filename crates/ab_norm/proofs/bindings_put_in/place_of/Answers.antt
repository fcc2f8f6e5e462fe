use Rattle.std.proofs.Common.{◌≢◌, ◌<◌, ◌∙◌, arith, ap, sym, get_or, length}
use Rattle.ab_store.specs.declared.node.Binding.{Binding}
use Rattle.ab_store.specs.declared.node.Head.TheVariants.{Cell}
use Rattle.ab_norm.proofs.Resolved.{one_more_clear}
use Rattle.ab_norm.proofs.PutIn.{same_cell, unbound_apart}
use Rattle.ab_norm.proofs.bindings_put_in.place_of.Goals as goal

abbrev none : Binding
none = record { cell = record { 0 = 0 }; term = record { 0 = 0 } }

pub returns-then-is_free-clause-place : goal.returns-then-is_free-clause-place
returns-then-is_free-clause-place c = unbound_apart c.args.store.now c.args.head (c.is_free.ensures.0 c.if-is_free.true) c.args.count

pub returns-then-is_cell-clause-place : goal.returns-then-is_cell-clause-place
returns-then-is_cell-clause-place c =
    let within : c.loop-i.i < length c.args.store.now.bindings = omega (arith, c.requires.count) in
    (omega arith, same_cell c.bindings-bindings.result.now c.args.store.now.bindings c.loop-i.i none c.args.head c.bindings-bindings.ensures.list within (c.is_cell.ensures.0 c.if-is_cell.true))

pub loop-i-preserved : goal.loop-i-preserved
loop-i-preserved c =
    one_more_clear (λ (b : Binding). c.args.head ≢ Cell b.cell) c.args.store.now.bindings c.loop-i.i none (omega (arith, c.requires.count)) c.loop-i.invariant
    (λ same. absurd (cc (sym c.if-is_cell.false ∙ c.is_cell.ensures.1 (same ∙ ap (λ l. Cell (get_or l c.loop-i.i none).cell) (sym c.bindings-bindings.ensures.list)))))
