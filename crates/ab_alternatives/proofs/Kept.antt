-- The definition of a predicate that a world keeps is kept well.
use Rattle.std.specs.Prelude.{if◌then◌else◌}
use Rattle.std.specs.List.{All}
use Rattle.std.proofs.Common.{◌≡◌, List, [], ◌∷◌, Bool, true, false, Some, subst}
use Rattle.std.proofs.lemmas.List.Elements.{All-head, All-tail}
use Rattle.ab_norm.specs.ab_types.specs.Entries.{Table}
use Rattle.ab_norm.specs.ab_types.specs.declared.ids.ConstId.{ConstId}
use Rattle.ab_norm.specs.ab_store.specs.Trees.{Contents}
use Rattle.ab_typing.specs.declared.definitions.Block.{Block}
use Rattle.ab_logic.specs.Additions.{is_among, block_or, block_kept}
use Rattle.ab_logic.specs.Worlds.{IsKept, IsKeptBlock}
use Rattle.ab_logic.specs.declared.additions.Added.{Added}
use Rattle.ab_logic.specs.declared.additions.Addition.{Addition}
use Rattle.ab_logic.specs.declared.additions.Addition.TheVariants.{Theorem, Definition, Clause}

module _ (types : Table) (store : Contents) (p : ConstId) where
  pub kept_block : (xs : List Added) (b : Block) → All (λ (a : Added). IsKept types store a.what) xs → block_kept xs p ≡ Some b → IsKeptBlock types store b
  kept_block [] b all e = absurd (cc)
  kept_block (a ∷ xs) b all e = go a.what (All-head (λ (c : Added). IsKept types store c.what) a xs all) e (kept_block xs b (All-tail (λ (c : Added). IsKept types store c.what) a xs all))
    where
      test : (d : Block) (t : Bool) → IsKeptBlock types store d → (if t then Some d else block_kept xs p) ≡ Some b → (block_kept xs p ≡ Some b → IsKeptBlock types store b) → IsKeptBlock types store b
      test d true is f rest = let same : d ≡ b = cc in subst (IsKeptBlock types store) same is
      test d false is f rest = rest f

      go : (what : Addition) → IsKept types store what → block_or what p (block_kept xs p) ≡ Some b → (block_kept xs p ≡ Some b → IsKeptBlock types store b) → IsKeptBlock types store b
      go (Theorem t) is f rest = rest f
      go (Clause c h) is f rest = rest f
      go (Definition d) is f rest = test d (is_among d.predicates p) is f rest
