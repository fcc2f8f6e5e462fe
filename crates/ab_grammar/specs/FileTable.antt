-- The texts of specification files: a title, and the forms of items behind it, each with its full stop.
use Rattle.std.specs.Prelude.{ℕ, List, [], ◌∷◌, Option, Some, None, codes}
use Rattle.ab_grammar.specs.declared.Infix.TheVariants.{With}
use Rattle.ab_grammar.specs.declared.file.FileKind.{FileKind}
use Rattle.ab_grammar.specs.declared.file.FileKind.TheVariants.{Signature, Module}
use Rattle.ab_grammar.specs.Token.{word, comma, stop, from, type_word}
use Rattle.ab_grammar.specs.Tree.{Ty, Tree, joined}
use Rattle.ab_grammar.specs.Nesting.{Spot}
use Rattle.ab_grammar.specs.Language.{Key, Expression, TypeExpression}
use Rattle.ab_grammar.specs.CommandTrees.{Clause}
use Rattle.ab_grammar.specs.CommandForms.{Form, Valued, Optional, ◌▹◌, ◌▸◌, ◌◂◌, Separated}
use Rattle.ab_grammar.specs.CommandTable.{Word, Sign, Name, DeclaredNames, clause_of}
use Rattle.ab_grammar.specs.FileTrees.{Item, kinds, constants, clause, accumulation}

-- a, .., b
abbrev pub Names : Form (List (List ℕ))
Names = Separated (Key comma) Name

abbrev pub title_word : FileKind → List ℕ
title_word Signature = codes "sig"
title_word Module = codes "module"

-- THE TITLE of a file: sig NAME.   module NAME.
abbrev pub TitleText : FileKind → Form (List ℕ)
TitleText f = Word (title_word f) ▸ (Name ◂ Sign stop)

-- goals are joined by `&` from the left
abbrev pub one_goal : Tree → List Tree → Tree
one_goal g [] = g
one_goal g (h ∷ hs) = one_goal (joined With g h) hs

abbrev pub goal_of : List Tree → Option Tree
goal_of [] = None
goal_of (g ∷ gs) = Some (one_goal g gs)

-- g, .., g; each goal is an expression of its own
abbrev pub Goals : Form (Option Tree)
Goals = Valued goal_of (Separated (Key comma) Expression)

-- :- g, .., g
abbrev pub GoalBody : Form (Option Tree)
GoalBody = Optional None (Sign from ▸ Goals)

-- e, or e :- g, .., g
abbrev pub ProgramClause : Form Clause
ProgramClause = Valued clause_of (Expression ▹ GoalBody)

-- these tokens begin with the word that begins an accumulation of modules
pub data BeginsAccumulation : List Spot → Type 0 where
  begins_accumulation : {d : ℕ} {us : List Spot} → (p : ℕ) → BeginsAccumulation (record { token = word (codes "accumulate") p; depth = d } ∷ us)

-- an item without its full stop
pub data ItemForm : FileKind → List Spot → Item → Type 0 where
  -- kind w, .., w type
  kinds_item : {us : List Spot} {xs : List (List ℕ)} → (Word (codes "kind") ▸ (DeclaredNames ◂ Sign type_word)) us xs → ItemForm Signature us (kinds xs)
  -- type w, .., w ty
  constants_item : {us : List Spot} {xs : List (List ℕ)} {A : Ty} → (Sign type_word ▸ (DeclaredNames ▹ TypeExpression)) us (xs, A) → ItemForm Signature us (constants xs A)
  -- accum_sig a, .., b
  signatures_item : {us : List Spot} {xs : List (List ℕ)} → (Word (codes "accum_sig") ▸ Names) us xs → ItemForm Signature us (accumulation xs)
  -- accumulate a, .., b
  modules_item : {us : List Spot} {xs : List (List ℕ)} → (Word (codes "accumulate") ▸ Names) us xs → ItemForm Module us (accumulation xs)
  -- a clause, which doesn't begin as an accumulation does
  clause_item : {us : List Spot} {c : Clause} → (BeginsAccumulation us → ⊥) → ProgramClause us c → ItemForm Module us (clause c)

-- AN ITEM of a file
abbrev pub ItemText : FileKind → Form Item
ItemText f = ItemForm f ◂ Sign stop
