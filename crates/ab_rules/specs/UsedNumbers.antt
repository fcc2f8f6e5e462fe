-- The numbers that are not to be used for the name of a `nabla`, as they are gathered.
use Rattle.std.specs.Prelude.{◌≡◌, ◌≢◌, ◌⊎◌, ℕ, ◌≤◌, List, Bool, IsTrue}
use Rattle.std.specs.List.{Contains}
use Rattle.ab_term.specs.Types.{Ty}
use Rattle.ab_term.specs.Terms as tree
use Rattle.ab_norm.specs.ab_types.specs.declared.ids.TypeId.{TypeId}
use Rattle.ab_norm.specs.declared.nominal.Nominal.{Nominal}

-- the second list has what the first has, and the numbers with the property, and no other
pub record Gains (old new : List ℕ) (P : ℕ → Type 0) : Type 0 where
  pub among : (n : ℕ) → Contains new n → Contains old n ⊎ P n
  pub kept : (n : ℕ) → Contains old n → Contains new n
  pub gained : (n : ℕ) → P n → Contains new n

-- the number is that of one of the constants: of any, or of one at another type
abbrev pub Excluded : Bool → TypeId → List Nominal → ℕ → Type 0
Excluded all ty names n = (b : Nominal) × Contains names b × (b.number ≡ n) × (IsTrue all ⊎ (b.ty ≢ ty))

abbrev pub Blocked : Bool → Ty → List tree.Nominal → ℕ → Type 0
Blocked all A names n = (b : tree.Nominal) × Contains names b × (b.number ≡ n) × (IsTrue all ⊎ (b.type ≢ A))

pub record IsAbsent (numbers : List ℕ) (n : ℕ) : Type 0 where
  pub positive : 1 ≤ n
  pub absent : ¬ Contains numbers n
