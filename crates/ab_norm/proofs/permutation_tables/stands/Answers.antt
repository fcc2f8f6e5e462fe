use Rattle.std.proofs.Common.{◌≢◌, arith, subst}
use Rattle.std.specs.List.{All}
use Rattle.std.proofs.lemmas.List.{take_all}
use Rattle.std.proofs.lemmas.List.Elements.{All-contains}
use Rattle.ab_term.proofs.Lists.{Contains-from_map}
use Rattle.ab_norm.specs.declared.nominal.Swap.{Swap}
use Rattle.ab_norm.proofs.Compared.{never}
use Rattle.ab_norm.proofs.permutation_tables.stands.Goals as goal

pub returns : goal.returns
returns c =
    never _ (λ there.
    let r = Contains-from_map (λ (p : Swap). p.from) c.args.table.now c.args.a there in
    let all : All (λ p. p.from ≢ c.args.a) c.args.table.now = subst (All (λ (p : Swap). p.from ≢ c.args.a)) (take_all c.loop-swap.swap-index c.args.table.now (omega arith)) c.loop-swap.invariant in
    All-contains (λ (p : Swap). p.from ≢ c.args.a) c.args.table.now r.0 all r.1 r.2)
