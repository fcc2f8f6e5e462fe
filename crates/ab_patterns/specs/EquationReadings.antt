-- What the solver's equations and results on shared terms stand for, as plain ones. The terms are looked at as they
-- stand, so nothing of this speaks of bindings.
use Rattle.std.specs.Prelude.{ℕ, List, map, Option, Some, None, Vec, All}
use Rattle.std.specs.Global.{Global}
use Rattle.ab_term.specs.Terms as tree
use Rattle.ab_norm.specs.ab_types.specs.Entries.{Table}
use Rattle.ab_norm.specs.ab_store.specs.declared.node.Head.{Head}
use Rattle.ab_norm.specs.ab_store.specs.Trees.{Contents, Holds, tree_of, head_reading}
use Rattle.ab_norm.specs.ab_store.specs.Bindings.{IsResolved}
use Rattle.ab_unifiers.specs.Unification as solve
use Rattle.ab_unifiers.specs.Unification.{clash, parts}
use Rattle.ab_patterns.specs.declared.equation.Numbered.{Numbered}
use Rattle.ab_patterns.specs.declared.rigid_rules.Simple.{Simple}
use Rattle.ab_patterns.specs.declared.rigid_rules.Simple.TheVariants.{NoRule, Clash, Parts}

module _ (types : Table) (store : Contents) where
  abbrev pub equation_of : Numbered → solve.Equation (List ℕ)
  equation_of e = record { place = e.place; left = tree_of types store e.left; right = tree_of types store e.right }

  abbrev pub simple_of : Simple → Option (solve.Result (List ℕ))
  simple_of NoRule = None
  simple_of Clash = Some clash
  simple_of (Parts es) = Some (parts (map equation_of es.items))

-- the names that were found, if they were
abbrev pub names_of : Table → Contents → Option (Vec Head Global) → Option (List (tree.Head ℕ))
names_of types store None = None
names_of types store (Some hs) = Some (map (head_reading types store) hs.items)

abbrev pub HoldsEquation : Contents → Numbered → Type 0
HoldsEquation store e = Holds store e.left × Holds store e.right

-- the equations that take the place of one are between terms of the store
abbrev pub HoldsParts : Contents → Simple → Type 0
HoldsParts store NoRule = Unit {0}
HoldsParts store Clash = Unit {0}
HoldsParts store (Parts es) = All (HoldsEquation store) es.items

-- no bound cell stands in its sides
abbrev pub EquationIsResolved : Contents → Numbered → Type 0
EquationIsResolved store e = IsResolved store e.left × IsResolved store e.right
