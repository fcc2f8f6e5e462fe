use Rattle.std.proofs.Common.{◌≡◌, ◌≢◌, suc, ◌-◌, Option, sym, ap, subst, ◌∙◌, rules, arith}
use Rattle.std.specs.Prelude.{IfSome}
use Rattle.ab_norm.specs.ab_store.specs.declared.node.TermId.{TermId}
use Rattle.std.specs.Option.{option_map}
use Rattle.ab_logic.specs.Worlds.{Holds, read, declarations_of}
use Rattle.ab_search_trees.specs.Goals as tree
use Rattle.ab_search_ways.specs.declared.goal.Goal.{Goal}
use Rattle.ab_search_ways.proofs.NewConclusion.{layer_made}
use Rattle.ab_search_ways.proofs.form_ways.by_layer.Goals as goal

pub returns-clause-made : goal.returns-clause-made
returns-clause-made c = λ base now aside stands.
    let w = c.args.world.now in
    let v = c.layer_of.new.world in
    let e = c.in_ok-conclusion.ensures in
    let first = c.in_ok-only.only in
    let asked = c.in_ok-only.ensures in
    let k : Goal = record first { layers = c.args.goal.now.layers - 1 } in
    let way = c.in_ok-leading_to.ensures in
    let there = subst (λ (m : Option TermId). IfSome m (Holds v)) c.in-Some.is e.held in
    let some : c.args.goal.now.layers ≢ 0 = search rules in
    let less : c.args.goal.now.layers ≡ suc (c.args.goal.now.layers - 1) = omega (arith, some) in
    layer_made w v e.grows (declarations_of w) c.args.goal.now c.requires.goal c.args.flexible.now e.cells c.in-Some.conclusion there
    k asked.added asked.conclusion c.in_ok-leading_to.field-0 way.cells way.equations way.serves (way.goals ∙ c.in_ok-goals.ensures.items) base now aside stands
    asked.constants (sym e.reads ∙ ap (option_map (read v)) c.in-Some.is) less
    (ap (λ (q : tree.Goal). record q { layers = c.args.goal.now.layers - 1 }) (asked.reads v base))
