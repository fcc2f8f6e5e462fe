-- Tools of the reader's private functions: the pieces of a text, and how things are spelled by them.
use Rattle.std.specs.Prelude.{◌≡◌, ◌<◌, ◌^◌, ℕ, Bool, List, [], ◌∷◌, ◌++◌, length, map, drop, codes, decimal, if◌then◌else◌, Option, Some, None, Result, IfOk}
use Rattle.std.specs.List.{flat_map}
use Rattle.ab_cert.specs.declared.text.Text.{Text}
use Rattle.ab_cert.specs.declared.members.Members.{Members}
use Rattle.ab_cert.specs.declared.type_tree.TypeNode.{TypeNode}
use Rattle.ab_cert.specs.declared.type_tree.TypeTree.{TypeTree}
use Rattle.ab_cert.specs.declared.head.CertSign.{CertSign}
use Rattle.ab_cert.specs.declared.head.CertHead.{CertHead}
use Rattle.ab_cert.specs.declared.term_tree.TermNode.{TermNode}
use Rattle.ab_cert.specs.declared.term_tree.CertTree.{CertTree}
use Rattle.ab_cert.specs.declared.clause.CertVar.{CertVar}
use Rattle.ab_cert.specs.declared.clause.CertClause.{CertClause}
use Rattle.ab_cert.specs.declared.clause.CertReplace.{CertReplace}
use Rattle.ab_cert.specs.declared.step.Label.{Label}
use Rattle.ab_cert.specs.declared.step.CertStep.{CertStep}
use Rattle.ab_cert.specs.declared.cert.CertItem.{CertItem}
use Rattle.ab_cert.specs.Plain.{Ty, Head, Sign, Term, Variable, Replace, Clause, Step, Item, kind, const, block, program, theorem}
use Rattle.ab_cert.specs.Tables.{IsName, IsLong, IsSmall, IsCount, Each, IsList, IsTy, IsSign, IsHead, IsTerm, IsLabel, IsReplace, IsStep, IsVariable, IsClause, IsItem}
use Rattle.ab_cert.specs.Pieces.{Pieces, type_pieces, detail_pieces, head_pieces, term_pieces, label_piece, flag_piece, replace_pieces, list_pieces, field_pieces, step_pieces, variable_pieces, clause_pieces, block_piece, item_lines}
use Rattle.ab_cert.specs.Members.{members_of}
use Rattle.ab_cert.specs.Signs.{type_of, sign_of, head_of}
use Rattle.ab_cert.specs.TermNodes.{Node, lam_node, spine_node, node_of, node_pieces}
use Rattle.ab_cert.specs.Values.{term_of, label_of, replace_of, variable_of, clause_of, step_of, item_of}
use Rattle.ab_cert.specs.TypeNodes.{type_node_piece}
use Rattle.ab_cert.specs.Splits.{pieces_in}

-- what is still to be read
abbrev pub left_of : Text → Pieces
left_of t = pieces_in t.rest.now

-- HOW A THING IS SPELLED: what it stands for, the pieces of that, and which may be written
pub record Form (T : Type 0) : Type 1 where
  pub Meant : Type 0
  pub meant : T → Meant
  pub pieces : Meant → Pieces
  pub good : Meant → Type 0

-- WHAT IS READ: where the pieces begin by those of a thing, this thing, and what follows it is left
abbrev pub Reads : {T E : Type 0} → Form T → Pieces → Result T E → Pieces → Type 0
Reads f old r new = (x : f.Meant) (rest : Pieces) → f.good x → old ≡ f.pieces x ++ rest → IfOk r (λ v. (f.meant v ≡ x) × (new ≡ rest))

-- so many of them, one behind another
abbrev pub ReadsMany : {T E : Type 0} → Form T → ℕ → Pieces → Result (Members T) E → Pieces → Type 0
ReadsMany f n old r new = (xs : List f.Meant) (rest : Pieces) → length xs ≡ n → Each f.good xs → old ≡ flat_map f.pieces xs ++ rest → IfOk r (λ v. (map f.meant (members_of v) ≡ xs) × (new ≡ rest))

-- what is read without memory
abbrev pub Takes : {A : Type 0} → (A → Type 0) → (A → List ℕ) → Pieces → A → Pieces → Type 0
Takes {A = A} P piece old v new = (x : A) (rest : Pieces) → P x → old ≡ piece x ∷ rest → (v ≡ x) × (new ≡ rest)

abbrev pub name_form : Form (List ℕ)
name_form = record { Meant = List ℕ; meant = λ x. x; pieces = λ x. x ∷ []; good = IsName }

abbrev pub label_form : Form Label
label_form = record { Meant = Option (List ℕ); meant = label_of; pieces = λ l. label_piece l ∷ []; good = IsLabel }

abbrev pub flag_form : Form Bool
flag_form = record { Meant = Bool; meant = λ b. b; pieces = λ b. flag_piece b ∷ []; good = λ b. Unit {0} }

abbrev pub place_form : Form ℕ
place_form = record { Meant = ℕ; meant = λ n. n; pieces = λ n. decimal n ∷ []; good = IsCount }

abbrev pub small_form : Form ℕ
small_form = record { Meant = ℕ; meant = λ n. n; pieces = λ n. decimal n ∷ []; good = IsSmall }

abbrev pub type_form : Form TypeTree
type_form = record { Meant = Ty; meant = type_of; pieces = type_pieces; good = IsTy }

abbrev pub sign_form : Form CertSign
sign_form = record { Meant = Sign; meant = sign_of; pieces = λ s. s.word ∷ detail_pieces s.detail; good = IsSign }

abbrev pub head_form : Form CertHead
head_form = record { Meant = Head; meant = head_of; pieces = head_pieces; good = IsHead }

-- the node may be written
abbrev pub IsNode : Node → Type 0
IsNode (lam_node ty hint) = IsTy ty × IsName hint
IsNode (spine_node head count) = IsHead head × IsCount count

-- the node may be written
abbrev pub IsTypeNode : TypeNode → Type 0
IsTypeNode (TypeNode.Base k) = IsName k
IsTypeNode TypeNode.Arrow = Unit {0}

abbrev pub type_node_form : Form TypeNode
type_node_form = record { Meant = TypeNode; meant = λ n. n; pieces = λ n. type_node_piece n ∷ []; good = IsTypeNode }

abbrev pub node_form : Form TermNode
node_form = record { Meant = Node; meant = node_of; pieces = node_pieces; good = IsNode }

abbrev pub term_form : Form CertTree
term_form = record { Meant = Term; meant = term_of; pieces = term_pieces; good = IsTerm }

abbrev pub list_form : {T : Type 0} → Form T → Form (Members T)
list_form f = record { Meant = List f.Meant; meant = λ l. map f.meant (members_of l); pieces = list_pieces f.pieces; good = IsList f.good }

abbrev pub both_form : {S T : Type 0} → Form S → Form T → Form (S × T)
both_form f g = record {
  Meant = f.Meant × g.Meant;
  meant = λ p. (f.meant p.0, g.meant p.1);
  pieces = λ p. f.pieces p.0 ++ g.pieces p.1;
  good = λ p. f.good p.0 × g.good p.1;
}

abbrev pub variable_form : Form CertVar
variable_form = record { Meant = Variable; meant = variable_of; pieces = variable_pieces; good = IsVariable }

abbrev pub replace_form : Form CertReplace
replace_form = record { Meant = Replace; meant = replace_of; pieces = replace_pieces; good = IsReplace }

abbrev pub clause_form : Form CertClause
clause_form = record { Meant = Clause; meant = clause_of; pieces = clause_pieces; good = IsClause }

-- a clause of a block, with its word
abbrev pub clause_line_form : Form CertClause
clause_line_form = record { Meant = Clause; meant = clause_of; pieces = λ c. codes "D" ∷ clause_pieces c; good = IsClause }

abbrev pub step_form : Form CertStep
step_form = record { Meant = Step; meant = step_of; pieces = step_pieces; good = IsStep }

-- what is read of a step behind the number of its rule
abbrev pub ReadsFields : {E : Type 0} → ℕ → Pieces → Result CertStep E → Pieces → Type 0
ReadsFields rule old r new = (x : Step) (rest : Pieces) → IsStep x → rule ≡ x.number → old ≡ flat_map field_pieces x.fields ++ rest → IfOk r (λ v. (step_of v ≡ x) × (new ≡ rest))

-- a block behind its letter
abbrev pub block_pieces : Item → Pieces
block_pieces (block inductive names clauses) = block_piece inductive ∷ (list_pieces (λ x. x ∷ []) names ++ decimal (length clauses) ∷ flat_map (λ c. codes "D" ∷ clause_pieces c) clauses)
block_pieces x = []

abbrev pub IsBlock : Item → Type 0
IsBlock (block inductive names clauses) = IsItem (block inductive names clauses)
IsBlock x = ⊥

abbrev pub block_form : Form CertItem
block_form = record { Meant = Item; meant = item_of; pieces = block_pieces; good = IsBlock }

-- a theorem behind its letter
abbrev pub theorem_pieces : Item → Pieces
theorem_pieces (theorem x formula steps) = x ∷ (decimal (length steps) ∷ (term_pieces formula ++ flat_map step_pieces steps))
theorem_pieces x = []

abbrev pub IsTheorem : Item → Type 0
IsTheorem (theorem x formula steps) = IsItem (theorem x formula steps)
IsTheorem x = ⊥

abbrev pub theorem_form : Form CertItem
theorem_form = record { Meant = Item; meant = item_of; pieces = theorem_pieces; good = IsTheorem }

-- the pieces of an item's lines
abbrev pub item_pieces : Item → Pieces
item_pieces x = flat_map (λ l. l) (item_lines x)

-- an item is read where the pieces begin by those of one, and none where the last line is next
abbrev pub ReadsItem : {E : Type 0} → Pieces → Result (Option CertItem) E → Pieces → Type 0
ReadsItem old r new =
    ((x : Item) (rest : Pieces) → IsItem x → old ≡ item_pieces x ++ rest → IfOk r (λ o. (v : CertItem) × ((o ≡ Some v) × ((item_of v ≡ x) × (new ≡ rest)))))
    × ((rest : Pieces) → old ≡ codes "end" ∷ rest → IfOk r (λ o. o ≡ None))
