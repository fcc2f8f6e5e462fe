-- How a store is kept, and what it keeps beside its nodes so that walks can be spared. Public contracts don't speak
-- of this.
use Rattle.std.specs.Prelude.{◌≡◌, ℕ, ◌≤◌, ◌<◌, List, [], map, length, get_or, false, All}
use Rattle.ab_term.specs.Terms.{Nominal, Variable, Terms, Read}
use Rattle.ab_term.specs.Reach.{reach, reach_of_all}
use Rattle.ab_term.specs.Names.{support, support_of_all}
use Rattle.ab_term.specs.Variables.{variables, variables_of_all}
use Rattle.ab_types.specs.Entries.{Table}
use Rattle.ab_store.specs.declared.node.TermId.{TermId}
use Rattle.ab_store.specs.declared.node.CellId.{CellId}
use Rattle.ab_store.specs.declared.node.Binding.{Binding}
use Rattle.ab_store.specs.declared.facts.Facts.{Facts}
use Rattle.ab_store.specs.declared.store.NodeEntry.{NodeEntry}
use Rattle.ab_store.specs.declared.store.Slot.{Slot}
use Rattle.ab_store.specs.Trees.{Contents, tree_of}
use Rattle.ab_store.specs.Reading.{bound_in}
use Rattle.ab_store.specs.Naming.{NodesNameEarlier}
use Rattle.ab_store.specs.Bindings.{AreInOrder}

-- The facts hold of what reaches so far, and in which these nominal constants and these variables stand. The flags are
-- one way: where they say that something may stand there, it need not.
pub record Covers (facts : Facts) (far : ℕ) (names : List Nominal) (xs : List (Variable ℕ)) : Type 0 where
  pub reach : facts.reach ≡ far
  pub nominals : facts.nominals ≡ false → names ≡ []
  pub cells : facts.cells ≡ false → xs ≡ []

abbrev pub HoldOf : Facts → Read → Type 0
HoldOf facts t = Covers facts (reach t) (support t) (variables t)

abbrev pub HoldOfAll : Facts → Terms ℕ (List ℕ) → Type 0
HoldOfAll facts ts = Covers facts (reach_of_all ts) (support_of_all ts) (variables_of_all ts)

-- what contracts see of it
abbrev pub contents : List NodeEntry → List Slot → List Binding → ℕ → Contents
contents entries slots trail room = record {
  nodes = map (λ e. e.node) entries;
  cells = map (λ s. s.cell) slots;
  bindings = trail;
  room = room;
}

-- WHAT A STORE KEEPS IS RIGHT
pub record AreSound (entries : List NodeEntry) (slots : List Slot) (trail : List Binding) : Type 0 where
  pub earlier : NodesNameEarlier (length (map (λ s. s.cell) slots)) (map (λ e. e.node) entries)
  pub facts : (types : Table) (t : TermId) (d : NodeEntry) → t.0 < length entries → HoldOf (get_or entries t.0 d).facts (tree_of types (contents entries slots trail 0) t)
  -- each cell keeps what it is bound to, and bound terms have no free names
  pub bound : (c : CellId) (d : Slot) → c.0 < length slots → (get_or slots c.0 d).binding ≡ bound_in trail c
  pub order : AreInOrder (contents entries slots trail 0)
  pub closed : (types : Table) → All (λ b. reach (tree_of types (contents entries slots trail 0) b.term) ≤ 0) trail
