-- Arguments that fit a type.
use Rattle.std.specs.Prelude.{List, map}
use Rattle.ab_term.specs.Types.{Ty}
use Rattle.ab_term.specs.Terms.{terms_of}
use Rattle.ab_term.specs.Typing.{TakeType}
use Rattle.ab_store.specs.ab_types.specs.Entries.{Table, signature}
use Rattle.ab_store.specs.declared.node.TermId.{TermId}
use Rattle.ab_store.specs.Reading.{Contents, tree_of}

-- given these arguments, over bound names of the listed types, a term of the first type is one of the second
abbrev pub AreTaken : Table → Contents → List Ty → List TermId → Ty → Ty → Type 0
AreTaken types store G ts A B = TakeType (signature types) G (terms_of (map (tree_of types store) ts)) A B
