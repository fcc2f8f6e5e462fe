-- The trees of the grammar that the program's trees stand for.
use Rattle.std.specs.Prelude.{option_map, map}
use Rattle.ab_expressions.specs.declared.tree.TypeParse.{TypeParse, fold-TypeParse}
use Rattle.ab_expressions.specs.declared.tree.TypeParse.TheOpen.{TypeParse-F}
use Rattle.ab_expressions.specs.declared.tree.Binder.{Binder}
use Rattle.ab_expressions.specs.declared.tree.Parse.{Parse, fold-Parse}
use Rattle.ab_expressions.specs.declared.tree.Parse.TheOpen.{Parse-F}
use Rattle.ab_expressions.specs.Items.{list_of}
use Rattle.ab_grammar.specs.Tree as tree
use Rattle.ab_grammar.specs.Tree.{Ty, Tree, trees_of, focus_of}

abbrev pub type_step : TypeParse-F Ty → Ty
type_step (TypeParse-F.Base x p) = tree.base x p
type_step (TypeParse-F.Arrow a b) = tree.arrow (a.value) (b.value)

abbrev pub type_of : TypeParse → Ty
type_of = fold-TypeParse Ty type_step

abbrev pub binder_of : Binder → tree.Binder
binder_of b = record { name = b.name; type_of = option_map type_of b.ty; place = b.place }

abbrev pub tree_step : Parse-F Tree → Tree
tree_step (Parse-F.Name x p) = tree.name x p
tree_step (Parse-F.Apply f vs p) = tree.apply (f.value) (trees_of (list_of vs)) p
tree_step (Parse-F.Abs x t p) = tree.abs x (t.value) p
tree_step (Parse-F.Join o t u p) = tree.join o (t.value) (u.value) p
tree_step (Parse-F.Bind q bs t p) = tree.bind q (map binder_of (list_of bs)) (t.value) p
tree_step (Parse-F.Judge cs f g p) = tree.judge (trees_of (list_of cs)) (focus_of (option_map (λ b. b.value) f)) (g.value) p

-- the tree of an expression
abbrev pub tree_of : Parse → Tree
tree_of = fold-Parse Tree tree_step
