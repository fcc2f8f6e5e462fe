use Rattle.std.specs.List.{All}
use Rattle.std.proofs.Common.{map, sym, subst}
use Rattle.ab_formulas.specs.ProposedClauses.{IsProposed}
use Rattle.ab_typing.specs.DefinitionReadings.{name_of, block_of}
use Rattle.ab_logic.specs.NewDefinitions.{AreNew}
use Rattle.ab_logic.specs.Worlds.{declarations_of}
use Rattle.ab_logic.proofs.Blocks.{proposed_kept}
use Rattle.ab_logic.proofs.Growing.{same_constants}
use Rattle.ab_logic.proofs.world.World.define.Goals as goal

pub returns-in-Some-2-clause-refused : goal.returns-in-Some-2-clause-refused
returns-in-Some-2-clause-refused g c =
    let w = c.args.self.now in
    let b = block_of w.types w.store c.args.block in
    c.in_ok-define_fault.ensures b (declarations_of w) (subst (λ ps. AreNew (declarations_of w) (map (name_of w.types) ps)) c.as_slice.ensures (c.first_defined.ensures.new c.in_default.is))
    (c.in_ok-fault.ensures.first c.in-Some-2.fault c.in-Some-2.is)

pub put-requires-clause-kept : goal.put-requires-clause-kept
put-requires-clause-kept g c =
    let w = c.args.self.now in
    proposed_kept w.types w.store c.args.block c.requires.held
    (subst (λ sg. All (IsProposed sg) (block_of w.types w.store c.args.block).clauses) (sym (same_constants w c.requires.world)) c.requires.proposed) (c.in_ok-fault.ensures.none.0 c.in_default-2.is)
