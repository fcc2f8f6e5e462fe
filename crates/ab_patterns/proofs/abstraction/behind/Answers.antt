use Rattle.std.proofs.Common.{◌-◌, length, arith, sym, ◌∙◌, refl}
use Rattle.std.proofs.lemmas.Bool.{false≢true}
use Rattle.ab_norm.specs.ab_store.specs.declared.node.Head.{Head}
use Rattle.ab_norm.specs.ab_store.specs.declared.node.Head.TheVariants.{Const}
use Rattle.ab_patterns.proofs.Placements.{any_default, none_behind, one_behind}
use Rattle.ab_patterns.proofs.abstraction.behind.Goals as goal

abbrev none : Head
none = Const (record { 0 = 0 })

pub loop-done-init : goal.loop-done-init
loop-done-init c = none_behind c.args.names.now (length c.args.names.now - 0) c.args.name (omega arith)

pub loop-done-preserved : goal.loop-done-preserved
loop-done-preserved c =
    one_behind c.args.names.now c.loop-done.done (length c.args.names.now - 1 - c.loop-done.done) c.args.name none (omega arith) refl c.loop-done.invariant (λ same. false≢true (sym c.if-is_same_head.false ∙ c.is_same_head.ensures.1 same))

pub returns-then-is_same_head : goal.returns-then-is_same_head
returns-then-is_same_head c = (omega arith, c.loop-done.invariant, λ d. any_default c.args.names.now (length c.args.names.now - 1 - c.loop-done.done) c.args.name none d (omega arith) (c.is_same_head.ensures.0 c.if-is_same_head.true))
