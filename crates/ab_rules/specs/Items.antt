-- Lists, as steps hold them.
use Rattle.std.specs.Prelude.{List}
use Rattle.ab_rules.specs.declared.items.Items.{Items}

abbrev pub list_of : {T : Type 0} → Items T → List T
list_of l = l.items.items
