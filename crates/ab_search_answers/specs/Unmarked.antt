-- FORMULAS WITHOUT COINDUCTIVE JUDGEMENTS: coinduction marks atoms alone, so that no judgement is ever marked `#`.
use Rattle.std.specs.Prelude.{◌≡◌, ℕ, List, Some, All}
use Rattle.ab_term.specs.Terms.{Read}
use Rattle.ab_unifiers.specs.Clauses.{Clause}
use Rattle.ab_formulas.specs.Declarations.{Declarations, Block, block_in}
use Rattle.ab_formulas.specs.Marks.{hash_of, Marks, at_judgement, below, in_both, marks_of}

abbrev pub HoldNoHash : Marks → Type 0
HoldNoHash (at_judgement (hash_of i)) = ⊥
HoldNoHash (below a) = HoldNoHash a
HoldNoHash (in_both a b) = HoldNoHash a × HoldNoHash b
HoldNoHash _ = Unit {0}

-- NO JUDGEMENT OF THE FORMULA IS MARKED `#`
abbrev pub HasNoHash : Read → Type 0
HasNoHash F = HoldNoHash (marks_of F)

-- nor one of a body of a definition
abbrev pub HaveNoHash : Declarations → Type 0
HaveNoHash D = (p : List ℕ) (b : Block) → block_in D p ≡ Some b → All (λ (c : Clause (List ℕ)). HasNoHash c.body) b.clauses
