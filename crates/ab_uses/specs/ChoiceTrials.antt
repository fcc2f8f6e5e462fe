-- Choices of constants that are tried one after another. Public contracts don't speak of this.
use Rattle.std.specs.Prelude.{◌≡◌, ℕ, List, ◌∷◌, ◌++◌, map, filter, All, Bool, true, false}
use Rattle.ab_term.specs.Terms as tree
use Rattle.ab_norm.specs.ab_types.specs.Entries.{Table}
use Rattle.ab_norm.specs.ab_types.specs.Ids.{type_of}
use Rattle.ab_norm.specs.ab_types.specs.declared.ids.TypeId.{TypeId}
use Rattle.ab_norm.specs.ab_store.specs.Trees.{Contents}
use Rattle.ab_norm.specs.Nominals.{HoldsNominal}
use Rattle.ab_unifiers.specs.Replacements.{Cell}
use Rattle.ab_unifiers.specs.Choices.{choices}
use Rattle.ab_alternatives.specs.ab_instances.specs.ListReadings.{names_read}
use Rattle.ab_theory.specs.Splits.{NeverArises}
use Rattle.ab_theory.specs.Uses.{use_by}
use Rattle.ab_theory.specs.UseAnswers.{Using, case_by}
use Rattle.ab_uses.specs.ChoiceAnswers.{ComesOut}
use Rattle.ab_uses.specs.declared.begun_choices.Begun.{Begun}
use Rattle.ab_uses.specs.declared.outcome.Outcome.{Outcome}
use Rattle.ab_uses.specs.declared.outcome.Outcome.TheVariants.{PassedOver, Apart}

-- no choice behind this one is tried
abbrev pub decides : Outcome → Bool
decides PassedOver = false
decides Apart = false
decides _ = true

module _ (types : Table) where
  -- the constants of a choice that has begun are the table's
  pub record IsBegun (b : Begun) : Type 0 where
    pub chosen : All (HoldsNominal types) b.chosen.items
    pub free : All (HoldsNominal types) b.free.items
    pub held : All (HoldsNominal types) b.held.items

  -- the choices that begin so, for further names of these types, in order
  abbrev pub choices_behind : List TypeId → Begun → List (List tree.Nominal)
  choices_behind As b = map (λ ns. names_read types b.chosen.items ++ ns) (choices (map (type_of types) As) (names_read types b.free.items) (names_read types b.held.items))

-- each constant stands outside the formula that its name is taken off
abbrev pub stands_outside : Using → List tree.Nominal → Bool
stands_outside u names = (use_by u.goal 0 u.parts u.formula names).outside

module _ (cells : List (Cell (List ℕ))) (u : Using) (list : List (List tree.Nominal)) where
  -- none of the choices can serve
  abbrev pub NoneServes : Type 0
  NoneServes = All (λ b. NeverArises (case_by cells u b)) (filter (stands_outside u) list)

  -- the choice is there, and none before it can serve
  abbrev pub IsFirstOf : List tree.Nominal → Type 0
  IsFirstOf names =
      (before after : List (List tree.Nominal)) × (filter (stands_outside u) list ≡ before ++ names ∷ after) × All (λ b. NeverArises (case_by cells u b)) before

  -- SO THE CHOICES COME OUT, in this order: the first that may serve decides
  abbrev pub FirstComesOut : Table → Contents → Outcome → Type 0
  FirstComesOut types store PassedOver = NoneServes
  FirstComesOut types store Apart = NoneServes
  FirstComesOut types store o = (names : List tree.Nominal) × IsFirstOf names × ComesOut cells u names types store o
