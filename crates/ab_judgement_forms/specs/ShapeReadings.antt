-- The program's shapes of formulas of the specification logic. Public contracts don't speak of it.
use Rattle.std.specs.Prelude.{◌≡◌, ℕ, ◌<◌, codes}
use Rattle.ab_norm.specs.ab_types.specs.Entries.{Table}
use Rattle.ab_norm.specs.ab_types.specs.Ids.{type_of, constant_of, HoldsType, HoldsConstant}
use Rattle.ab_norm.specs.ab_types.specs.declared.ids.ConstId.{ConstId}
use Rattle.ab_norm.specs.ab_types.specs.declared.ids.TypeId.{TypeId}
use Rattle.ab_term.specs.Types.{o}
use Rattle.ab_norm.specs.ab_store.specs.Trees.{Contents, tree_of}
use Rattle.ab_judgement_forms.specs.declared.shapes.Shape.{Shape as Kept}
use Rattle.ab_judgement_forms.specs.declared.shapes.Shape.TheVariants.{Pi, Imply, With, Other}
use Rattle.ab_judgement_forms.specs.Shapes.{Shape, for_names, behind, together, other}

-- the shape that the program's stands for
abbrev pub shape_read : Table → Contents → Kept → Shape
shape_read types store (Pi A t) = for_names (type_of types A) (tree_of types store t)
shape_read types store (Imply t u) = behind (tree_of types store t) (tree_of types store u)
shape_read types store (With t u) = together (tree_of types store t) (tree_of types store u)
shape_read types store Other = other

-- the parts are earlier than this number
abbrev pub PartsBelow : ℕ → Kept → Type 0
PartsBelow n (Pi A t) = t.0 < n
PartsBelow n (Imply t u) = (t.0 < n) × (u.0 < n)
PartsBelow n (With t u) = (t.0 < n) × (u.0 < n)
PartsBelow n Other = Unit {0}

-- the type that a shape names is the table's
abbrev pub ShapeIsTyped : Table → Kept → Type 0
ShapeIsTyped types (Pi A t) = HoldsType types A
ShapeIsTyped types _ = Unit {0}

-- the constant is `::`
abbrev pub IsCons : Table → ConstId → Type 0
IsCons types c = HoldsConstant types c × ((constant_of types c).name ≡ codes "::")

-- the constant is `member`
abbrev pub IsMember : Table → ConstId → Type 0
IsMember types c = HoldsConstant types c × ((constant_of types c).name ≡ codes "member")

-- the type is that of formulas of the specification logic
abbrev pub IsO : Table → TypeId → Type 0
IsO types A = HoldsType types A × (type_of types A ≡ o)
