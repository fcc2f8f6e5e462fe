-- WHAT THE FILES OF A SPECIFICATION DECLARE, item by item and file by file, and when they are refused: by the first item that is.
use Rattle.std.specs.Prelude.{ℕ, ◌+◌, List, [], ◌∷◌, ◌++◌, Some}
use Rattle.ab_grammar.specs.FileTrees.{Item, clause}
use Rattle.ab_formulas.specs.Declarations.{Declarations}
use Rattle.ab_sigmod.specs.FileOrder.{Read}
use Rattle.ab_declare.specs.declared.refusal.Place.{Place}
use Rattle.ab_declare.specs.declared.refusal.Refusal.{Refusal}
use Rattle.ab_declare.specs.declared.refusal.Refusal.TheVariants.{Syntax, Unknown, Clash, TypeClash, Untyped, BadHead, TooNested}
use Rattle.ab_specification.specs.ItemDeclarations.{ItemDeclares, ItemDeclines}

-- an item, in which file it stands, and how many clauses of that file stand before it
pub record PlacedItem : Type 0 where
  pub file : List ℕ
  pub clauses_before : ℕ
  pub item : Item

abbrev pub clauses_in : Item → ℕ
clauses_in (clause c) = 1
clauses_in _ = 0

-- the items of a file, where so many clauses of it stand before them
abbrev pub placed_items : List ℕ → ℕ → List Item → List PlacedItem
placed_items file n [] = []
placed_items file n (i ∷ is) = record { file = file; clauses_before = n; item = i } ∷ placed_items file (n + clauses_in i) is

-- ALL ITEMS of the files, in order
abbrev pub items_of : List Read → List PlacedItem
items_of [] = []
items_of (f ∷ fs) = placed_items f.name 0 f.items ++ items_of fs

abbrev pub place_in : List ℕ → Place → Place
place_in file p = record { at = p.at; file = Some file }

-- what is told of an item that is refused, with the file in which it stands
abbrev pub in_file : List ℕ → Refusal → Refusal
in_file file (Syntax p) = Syntax (place_in file p)
in_file file (Unknown x f) = Unknown x (Some file)
in_file file (Clash x f) = Clash x (Some file)
in_file file (TypeClash p) = TypeClash (place_in file p)
in_file file (Untyped p) = Untyped (place_in file p)
in_file file (BadHead n f) = BadHead n (Some file)
in_file file (TooNested p) = TooNested (place_in file p)
in_file file r = r

-- THE ITEMS DECLARE THESE, one after another: each where those before it are declared too
pub data AllDeclare : Declarations → List PlacedItem → Declarations → Type 0 where
  no_item : {D : Declarations} → AllDeclare D [] []
  one_more : {D more rest : Declarations} {i : PlacedItem} {is : List PlacedItem} → ItemDeclares D i.item more → AllDeclare (D ++ more) is rest → AllDeclare D (i ∷ is) (more ++ rest)

-- ONE OF THEM IS REFUSED, for this: it is the first, and those before it are declared where it is looked at
pub data FirstDeclines : Declarations → List PlacedItem → Refusal → Type 0 where
  this : {D : Declarations} {i : PlacedItem} {is : List PlacedItem} {r : Refusal} → ItemDeclines D i.clauses_before i.item r → FirstDeclines D (i ∷ is) (in_file i.file r)
  later : {D more : Declarations} {i : PlacedItem} {is : List PlacedItem} {r : Refusal} → ItemDeclares D i.item more → FirstDeclines (D ++ more) is r → FirstDeclines D (i ∷ is) r

-- THE FILES DECLARE THESE, where this was declared
abbrev pub SpecDeclares : Declarations → List Read → Declarations → Type 0
SpecDeclares D files more = AllDeclare D (items_of files) more

-- THEY ARE REFUSED
abbrev pub SpecDeclines : Declarations → List Read → Refusal → Type 0
SpecDeclines D files r = FirstDeclines D (items_of files) r
