-- Which definitions may be added, and what is told of the others: first that a predicate has a definition already, then
-- the first fault of the clauses.
use Rattle.std.specs.Prelude.{◌≡◌, ℕ, List, ◌∷◌, ◌++◌, None, All}
use Rattle.std.specs.Option.{IsSome}
use Rattle.ab_formulas.specs.Clauses.{Block}
use Rattle.ab_formulas.specs.Faults.{bad_head, not_stratified, IsRightBlock, IsFaultOf}
use Rattle.ab_formulas.specs.Declarations.{Declarations, block_in}
use Rattle.ab_logic.specs.declared.world.DefineFault.{DefineFault}
use Rattle.ab_logic.specs.declared.world.DefineFault.TheVariants.{Clash, NotStratified, BadHead, Memory}

module _ (D : Declarations) where
  -- none of the predicates has a definition
  abbrev pub AreNew : List (List ℕ) → Type 0
  AreNew ps = All (λ p. block_in D p ≡ None) ps

  -- the first of them that has one
  pub record IsFirstDefined (ps : List (List ℕ)) (p : List ℕ) : Type 0 where
    pub before : List (List ℕ)
    pub after : List (List ℕ)
    pub whole : ps ≡ before ++ p ∷ after
    pub new_before : AreNew before
    pub defined : IsSome (block_in D p)

  -- THE DEFINITION MAY BE ADDED
  pub record IsDefinable (b : Block) : Type 0 where
    pub new : AreNew b.predicates
    pub right : IsRightBlock b

  -- WHAT IS TOLD of it otherwise; want of memory may always be
  abbrev pub IsDefineFault : Block → DefineFault → Type 0
  IsDefineFault b (Clash p) = IsFirstDefined b.predicates p
  IsDefineFault b (BadHead number) = AreNew b.predicates × IsFaultOf b (bad_head number)
  IsDefineFault b (NotStratified p) = AreNew b.predicates × IsFaultOf b (not_stratified p)
  IsDefineFault b (Memory fault) = Unit {0}
