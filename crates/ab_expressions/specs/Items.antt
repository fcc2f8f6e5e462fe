-- Lists, as the program's trees hold them.
use Rattle.std.specs.Prelude.{List}
use Rattle.ab_expressions.specs.declared.items.Items.{Items}

abbrev pub list_of : {T : Type 0} → Items T → List T
list_of l = l.items.items
