-- When names tell apart what they stand for, and what is asked of the constants that are printed as signs.
use Rattle.std.specs.Prelude.{◌≡◌, ℕ, ◌+◌, ◌-◌, ◌^◌, ◌<◌, List, length, Some, Contains, codes}
use Rattle.ab_term.specs.Types.{arrow, o, olist}
use Rattle.ab_term.specs.Terms.{Head}
use Rattle.ab_term.specs.Typing.{Signature}
use Rattle.ab_print.specs.PrintedNames.{name_of}

-- there are numbers of 64 bits for as many names
abbrev pub IsShort : {X : Type 0} → List X → Type 0
IsShort xs = length xs + 1 < 2 ^ 64 - 1

-- heads that are printed alike are the same
abbrev pub ArePrintedApart : {Var : Type 0} → (Var → List ℕ) → List (List ℕ) → List (Head Var) → Type 0
ArePrintedApart {Var} name names hs = (h g : Head Var) (x : List ℕ) → Contains hs h → Contains hs g → name_of name names h ≡ Some x → name_of name names g ≡ Some x → h ≡ g

-- `::` puts a formula of the specification logic before a list
abbrev pub HasLists : Signature → Type 0
HasLists sg = sg (codes "::") ≡ Some (arrow o (arrow olist olist))
