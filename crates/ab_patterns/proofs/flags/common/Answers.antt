use Rattle.std.proofs.Common.{◌∙◌, ap, arith, map}
use Rattle.std.proofs.lemmas.List.{take_all}
use Rattle.ab_norm.specs.ab_store.specs.Trees.{head_reading}
use Rattle.ab_norm.specs.ab_store.specs.declared.node.Head.{Head}
use Rattle.ab_norm.specs.ab_store.specs.declared.node.Head.TheVariants.{Const}
use Rattle.ab_term.specs.Abstraction.{among}
use Rattle.ab_patterns.proofs.Flagged.{common_one}
use Rattle.ab_patterns.proofs.flags.common.Goals as goal

abbrev none : Head
none = Const (record { 0 = 0 })

pub loop-name-preserved : goal.loop-name-preserved
loop-name-preserved c = λ types store ok names others.
    common_one types store c.args.names.now (map (head_reading types store) c.args.others.now) c.loop-name.name-index none (omega arith) c.is_among.result
    (c.is_among.ensures types store ok others (names c.loop-name.name-index none (omega arith)))
    c.loop-name.keep.items c.push.new.self.items c.in_ok-push.ensures.items (c.loop-name.invariant types store ok names others)

pub returns : goal.returns
returns c = λ types store ok names others.
    c.loop-name.invariant types store ok names others
    ∙ ap (λ l. map (among (map (head_reading types store) c.args.others.now)) (map (head_reading types store) l)) (take_all c.loop-name.name-index c.args.names.now (omega arith))
