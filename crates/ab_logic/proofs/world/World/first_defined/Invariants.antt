use Rattle.std.specs.List.{All}
use Rattle.std.proofs.Common.{◌≡◌, None, map, take}
use Rattle.ab_typing.specs.DefinitionReadings.{name_of}
use Rattle.ab_logic.specs.Additions.{block_kept}
use Rattle.ab_logic.specs.NewDefinitions.{AreNew}
use Rattle.ab_logic.specs.Worlds.{declarations_of}
use Rattle.ab_logic.proofs.world.World.first_defined.Given as goal

abbrev pub invariant-loop-predicate : goal.invariant-loop-predicate
invariant-loop-predicate l = record {
  kept : All (λ p. block_kept l.self.additions p ≡ None) (take l.predicate-index l.predicates);
  new : AreNew (declarations_of l.self) (map (name_of l.self.types) (take l.predicate-index l.predicates));
}
