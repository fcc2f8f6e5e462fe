-- The items of the grammar that the program's items of specification files stand for.
use Rattle.ab_grammar.specs.FileTrees.{Item, kinds, constants, clause, accumulation}
use Rattle.ab_syntax.specs.declared.spec_item.SpecItem.{SpecItem}
use Rattle.ab_syntax.specs.declared.spec_item.SpecItem.TheVariants.{Kind, Typed, Clause}
use Rattle.ab_syntax.specs.declared.spec_item.FileItem.{FileItem}
use Rattle.ab_syntax.specs.declared.spec_item.FileItem.TheVariants.{Own, Accumulation}
use Rattle.ab_expressions.specs.Items.{list_of}
use Rattle.ab_expressions.specs.SyntaxTrees.{type_of}
use Rattle.ab_syntax.specs.Commands.{clause_of}

abbrev pub own_item_of : SpecItem → Item
own_item_of (Kind xs) = kinds (list_of xs)
own_item_of (Typed xs a) = constants (list_of xs) (type_of a)
own_item_of (Clause c) = clause (clause_of c)

-- the item of the grammar
abbrev pub item_of : FileItem → Item
item_of (Own i) = own_item_of i
item_of (Accumulation xs) = accumulation (list_of xs)
