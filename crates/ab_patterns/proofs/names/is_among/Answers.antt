use Rattle.std.proofs.Common.{◌∙◌, sym, arith, map}
use Rattle.std.proofs.lemmas.Bool.{false≢true}
use Rattle.std.proofs.lemmas.List.{at_drop_all}
use Rattle.ab_norm.specs.ab_store.specs.Trees.{head_reading}
use Rattle.ab_norm.specs.ab_store.specs.declared.node.Head.{Head}
use Rattle.ab_norm.specs.ab_store.specs.declared.node.Head.TheVariants.{Const}
use Rattle.ab_term.specs.Abstraction.{among}
use Rattle.ab_patterns.proofs.Among.{first_among, rest_among}
use Rattle.ab_patterns.proofs.names.is_among.Goals as goal

abbrev none : Head
none = Const (record { 0 = 0 })

pub returns-then-is_same_head : goal.returns-then-is_same_head
returns-then-is_same_head c = λ types store ok typed held.
    first_among types store c.args.head c.args.heads.now c.loop-other.other-index none (omega arith) (c.is_same_head.ensures.0 c.if-is_same_head.true) ∙ c.loop-other.invariant types store ok typed held

pub loop-other-preserved : goal.loop-other-preserved
loop-other-preserved c = λ types store ok typed held.
    rest_among types store c.args.head c.args.heads.now c.loop-other.other-index none (omega arith) ok typed held (λ e. false≢true (sym c.if-is_same_head.false ∙ c.is_same_head.ensures.1 e))
    ∙ c.loop-other.invariant types store ok typed held

pub returns : goal.returns
returns c = λ types store ok typed held.
    sym (at_drop_all (λ l. among (map (head_reading types store) l) (head_reading types store c.args.head)) c.args.heads.now c.loop-other.other-index (omega arith)) ∙ c.loop-other.invariant types store ok typed held
