-- Expressions as rows of steps that make them: each step takes the last expressions made, and makes one.
use Rattle.std.specs.Prelude.{ℕ, ◌<◌, List, [], ◌∷◌, length, get_or, map, Option, Some, None, option_map}
use Rattle.ab_term.specs.Types.{Ty}
use Rattle.ab_term.specs.Terms.{Head}
use Rattle.ab_store.specs.ab_types.specs.Entries.{Table}
use Rattle.ab_store.specs.ab_types.specs.Ids.{HoldsType, type_of}
use Rattle.ab_store.specs.ab_types.specs.declared.ids.TypeId.{TypeId}
use Rattle.ab_store.specs.declared.node.CellEntry.{CellEntry}
use Rattle.ab_store.specs.Trees.{head_in}
use Rattle.ab_store.specs.Naming.{HeadNames, HeadIsTyped}
use Rattle.ab_meaning.specs.ResolvedNames.{Name, Binding, quantified, pi}
use Rattle.ab_grammar.specs.declared.Quant.TheVariants.{Forall, Exists, Nabla}
use Rattle.ab_inference.specs.Sketches.{Sketch, bound, known, free, apply, behind, abs, equal, bind}
use Rattle.ab_inference.specs.declared.op.Binds.{Binds}
use Rattle.ab_inference.specs.declared.op.Binds.TheVariants as binds
use Rattle.ab_inference.specs.declared.op.Op.{Op}
use Rattle.ab_inference.specs.declared.op.Op.TheVariants as op

pub data Item : Type 0 where
  bound_item : ℕ → ℕ → Item
  known_item : Head ℕ → Ty → Item
  free_item : Name → ℕ → ℕ → Item
  apply_item : Item
  behind_item : Item
  abs_item : Name → ℕ → ℕ → Item
  equal_item : ℕ → Item
  bind_item : Binding → Name → ℕ → ℕ → Option Ty → Item

-- the steps make the second list of expressions of the first, the last one first
pub data Runs : List Item → List Sketch → List Sketch → Type 0 where
  no_item : {st : List Sketch} → Runs [] st st
  run_bound : {is : List Item} {st out : List Sketch} {i n : ℕ} → Runs is (bound i n ∷ st) out → Runs (bound_item i n ∷ is) st out
  run_known : {is : List Item} {st out : List Sketch} {h : Head ℕ} {A : Ty} → Runs is (known h A ∷ st) out → Runs (known_item h A ∷ is) st out
  run_free : {is : List Item} {st out : List Sketch} {x : Name} {j p : ℕ} → Runs is (free x j p ∷ st) out → Runs (free_item x j p ∷ is) st out
  run_apply : {is : List Item} {st out : List Sketch} {e f : Sketch} → Runs is (apply e f ∷ st) out → Runs (apply_item ∷ is) (f ∷ e ∷ st) out
  run_behind : {is : List Item} {st out : List Sketch} {e f : Sketch} → Runs is (behind e f ∷ st) out → Runs (behind_item ∷ is) (f ∷ e ∷ st) out
  run_abs : {is : List Item} {st out : List Sketch} {x : Name} {n p : ℕ} {e : Sketch} → Runs is (abs x n p e ∷ st) out → Runs (abs_item x n p ∷ is) (e ∷ st) out
  run_equal : {is : List Item} {st out : List Sketch} {n : ℕ} {e f : Sketch} → Runs is (equal n e f ∷ st) out → Runs (equal_item n ∷ is) (f ∷ e ∷ st) out
  run_bind : {is : List Item} {st out : List Sketch} {q : Binding} {x : Name} {n p : ℕ} {w : Option Ty} {e : Sketch} → Runs is (bind q x n p w e ∷ st) out → Runs (bind_item q x n p w ∷ is) (e ∷ st) out

abbrev pub binding_of : Binds → Binding
binding_of binds.Forall = quantified Forall
binding_of binds.Exists = quantified Exists
binding_of binds.Nabla = quantified Nabla
binding_of binds.Pi = pi

-- the step that the program's stands for
abbrev pub item_of : Table → List CellEntry → List Name → Op → Item
item_of types cells frees (op.Bound i n) = bound_item i n
item_of types cells frees (op.Known h id) = known_item (head_in types cells h) (type_of types id)
item_of types cells frees (op.Free j p) = free_item (get_or frees j []) j p
item_of types cells frees op.Apply = apply_item
item_of types cells frees op.Behind = behind_item
item_of types cells frees (op.Abs x n p) = abs_item x n p
item_of types cells frees (op.Equal n) = equal_item n
item_of types cells frees (op.Bind q x n p w) = bind_item (binding_of q) x n p (option_map (type_of types) w)

abbrev pub items_of : Table → List CellEntry → List Name → List Op → List Item
items_of types cells frees = map (item_of types cells frees)

abbrev pub HoldsWritten : Table → Option TypeId → Type 0
HoldsWritten types None = Unit {0}
HoldsWritten types (Some id) = HoldsType types id

-- the variables and types that the step names are there
abbrev pub OpTyped : Table → ℕ → ℕ → Op → Type 0
OpTyped types n frees (op.Bound i m) = m < n
OpTyped types n frees (op.Known h id) = HoldsType types id
OpTyped types n frees (op.Free j p) = j < frees
OpTyped types n frees op.Apply = Unit {0}
OpTyped types n frees op.Behind = Unit {0}
OpTyped types n frees (op.Abs x m p) = m < n
OpTyped types n frees (op.Equal m) = m < n
OpTyped types n frees (op.Bind q x m p w) = (m < n) × HoldsWritten types w

-- the head that the step names, if it is one, is there
abbrev pub OpHeads : Table → List CellEntry → Op → Type 0
OpHeads types cells (op.Known h id) = HeadNames (length cells) h × HeadIsTyped types h
OpHeads types cells _ = Unit {0}
