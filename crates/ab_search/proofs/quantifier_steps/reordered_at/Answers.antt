use Rattle.std.proofs.Common.{[]}
use Rattle.std.proofs.lemmas.List.Elements.{All-cons, All-nil}
use Rattle.ab_logic.specs.Worlds.{Holds}
use Rattle.ab_search.proofs.quantifier_steps.reordered_at.Goals as goal

pub constants_of-requires-clause-arguments : goal.constants_of-requires-clause-arguments
constants_of-requires-clause-arguments g c =
    let v = c.compare.new.world in
    let t = c.in_ok-conclusion.conclusion in
    All-cons (Holds v) t [] (c.compare.ensures.got.grows.ids t (c.in_ok-conclusion.ensures.held c.args.world.now c.requires.proof)) (All-nil (Holds v))
