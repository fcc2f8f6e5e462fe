-- The types that a proof's steps name, by the nominal constants for which they put terms.
use Rattle.std.specs.Prelude.{ℕ, ◌-◌, ◌≤◌, ◌↔◌, length, All, Option}
use Rattle.std.specs.List.{AllWithin}
use Rattle.ab_store.specs.ab_types.specs.Entries.{Table, types}
use Rattle.ab_store.specs.ab_types.specs.Ids.{HoldsType}
use Rattle.ab_store.specs.ab_types.specs.LastTypes.{types_up_to}
use Rattle.ab_store.specs.ab_types.specs.declared.ids.TypeId.{TypeId}
use Rattle.ab_kernel.specs.ab_rules.specs.declared.replaces.Replace.{Replace}
use Rattle.ab_kernel.specs.ab_rules.specs.declared.step.Step.{Step}
use Rattle.ab_kernel.specs.ab_rules.specs.declared.step.Step.TheVariants.{SpecInst}
use Rattle.ab_kernel.specs.Layout.{Held, StepAt, steps_in}

-- the types of the constants for which the step puts terms are the table's
abbrev pub HasTypes : Table → Step → Type 0
HasTypes table (SpecInst H rs l) = All (λ (r : Replace). HoldsType table r.from.ty) rs
HasTypes table step = Unit {0}

-- the types that the steps behind the first so many name are the table's; the latest step is told first
abbrev pub HasTypesBehind : Table → Held → ℕ → Type 0
HasTypesBehind table p steps = AllWithin (λ (r : StepAt). HasTypes table r.step) (steps_in p.nodes p.journal) 0 (length p.journal - steps)

-- THE TYPE IS THE LAST of those that a thing names: a table has them all exactly where it has this one. Where none is told each table has them.
abbrev pub IsLastType : (Table → Type 0) → Option TypeId → Type 0
IsLastType Has last = (table : Table) → (types_up_to last ≤ length (types table)) ↔ Has table
