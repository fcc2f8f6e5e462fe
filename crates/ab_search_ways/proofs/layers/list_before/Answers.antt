use Rattle.std.proofs.Common.{Contains, IsNone, sym, subst, codes, refl, rules, arith}
use Rattle.ab_term.specs.Constants.{names}
use Rattle.ab_norm.specs.ab_types.specs.Entries.{constants}
use Rattle.ab_search_ways.proofs.layers.list_before.Goals as goal

pub unreachable-requires : goal.unreachable-requires
unreachable-requires c =
    let none : IsNone c.look.result = search rules in
    let part = c.requires.world.begins in
    c.look.ensures.absent.0 none (subst (Contains (names (constants c.args.world.now.types))) (sym c.in_ok-name.ensures) (subst (λ t. Contains (names (constants t)) (codes "::")) (sym part.1) (1, omega arith, refl)))
