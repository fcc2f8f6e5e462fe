-- A CERTIFICATE'S LINES, each a list of pieces.
use Rattle.std.specs.Prelude.{ℕ, Bool, true, false, List, [], ◌∷◌, ◌++◌, length, map, codes, decimal, Option, Some, None}
use Rattle.std.specs.List.{flat_map}
use Rattle.ab_cert.specs.Plain.{Ty, base, arrow, Detail, bare, with_type, with_level, Head, constant, logic, nominal, cell, index, Term, lam, spine, Terms, no_terms, one_more, list_of, Replace, Field, name, label, flag, place, term, numbers, labels, replaces, Step, Variable, Clause, Item, kind, const, block, program, theorem}

abbrev pub Pieces : Type 0
Pieces = List (List ℕ)

abbrev pub type_pieces : Ty → Pieces
type_pieces (base k) = k ∷ []
type_pieces (arrow a b) = codes ">" ∷ (type_pieces a ++ type_pieces b)

abbrev pub detail_pieces : Detail → Pieces
detail_pieces bare = []
detail_pieces (with_type ty) = type_pieces ty
detail_pieces (with_level n) = decimal n ∷ []

abbrev pub head_pieces : Head → Pieces
head_pieces (constant c) = codes "c" ∷ c ∷ []
head_pieces (logic s) = codes "l" ∷ s.word ∷ detail_pieces s.detail
head_pieces (nominal n ty) = codes "n" ∷ decimal n ∷ type_pieces ty
head_pieces (cell x) = codes "v" ∷ x ∷ []
head_pieces (index i) = codes "i" ∷ decimal i ∷ []

abbrev mutual
  pub term_pieces : Term → Pieces
  term_pieces (lam ty hint body) = codes "\\" ∷ (type_pieces ty ++ hint ∷ term_pieces body)
  term_pieces (spine head args) = codes "@" ∷ (head_pieces head ++ decimal (length (list_of args)) ∷ terms_pieces args)

  pub terms_pieces : Terms → Pieces
  terms_pieces no_terms = []
  terms_pieces (one_more t ts) = term_pieces t ++ terms_pieces ts

abbrev pub label_piece : Option (List ℕ) → List ℕ
label_piece None = codes "-"
label_piece (Some x) = x

abbrev pub flag_piece : Bool → List ℕ
flag_piece false = codes "0"
flag_piece true = codes "1"

abbrev pub replace_pieces : Replace → Pieces
replace_pieces r = decimal r.number ∷ (type_pieces r.ty ++ term_pieces r.to)

-- the length of a list, and then its members
abbrev pub list_pieces : {A : Type 0} → (A → Pieces) → List A → Pieces
list_pieces pieces xs = decimal (length xs) ∷ flat_map pieces xs

abbrev pub field_pieces : Field → Pieces
field_pieces (name x) = x ∷ []
field_pieces (label l) = label_piece l ∷ []
field_pieces (flag b) = flag_piece b ∷ []
field_pieces (place n) = decimal n ∷ []
field_pieces (term t) = term_pieces t
field_pieces (numbers ns) = list_pieces (λ n. decimal n ∷ []) ns
field_pieces (labels ls) = list_pieces (λ l. label_piece l ∷ []) ls
field_pieces (replaces rs) = list_pieces replace_pieces rs

abbrev pub step_pieces : Step → Pieces
step_pieces s = decimal s.number ∷ flat_map field_pieces s.fields

abbrev pub variable_pieces : Variable → Pieces
variable_pieces v = v.name ∷ type_pieces v.ty

abbrev pub clause_pieces : Clause → Pieces
clause_pieces c = list_pieces variable_pieces c.variables ++ (term_pieces c.head ++ term_pieces c.body)

abbrev pub block_piece : Bool → List ℕ
block_piece true = codes "i"
block_piece false = codes "c"

abbrev pub item_lines : Item → List Pieces
item_lines (kind x) = (codes "K" ∷ x ∷ []) ∷ []
item_lines (const x ty) = (codes "C" ∷ x ∷ type_pieces ty) ∷ []
item_lines (block inductive names clauses) =
    (codes "B" ∷ block_piece inductive ∷ (list_pieces (λ x. x ∷ []) names ++ decimal (length clauses) ∷ [])) ∷ map (λ c. codes "D" ∷ clause_pieces c) clauses
item_lines (program c) = (codes "S" ∷ clause_pieces c) ∷ []
item_lines (theorem x formula steps) = (codes "T" ∷ x ∷ decimal (length steps) ∷ term_pieces formula) ∷ map step_pieces steps

abbrev pub first_line : Pieces
first_line = codes "abella-cert" ∷ codes "1" ∷ []

abbrev pub last_line : Pieces
last_line = codes "end" ∷ []

-- THE LINES
abbrev pub lines_of : List Item → List Pieces
lines_of items = first_line ∷ (flat_map item_lines items ++ last_line ∷ [])
