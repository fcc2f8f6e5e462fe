-- The table of commands and of proof commands: with which token each begins, where it stands, and its form.
use Rattle.std.specs.Prelude.{◌≡◌, ◌≢◌, ℕ, ◌<◌, ◌≤◌, List, [], ◌∷◌, ◌++◌, Bool, true, false, Option, Some, None, IsTrue, codes, decimal, bytes_eq, if◌then◌else◌}
use Rattle.ab_grammar.specs.declared.Infix.TheVariants.{Equal}
use Rattle.ab_grammar.specs.declared.head.Head.{Head}
use Rattle.ab_grammar.specs.declared.head.Head.TheVariants as head
use Rattle.ab_grammar.specs.declared.head.ProofHead.{ProofHead}
use Rattle.ab_grammar.specs.declared.head.ProofHead.TheVariants as proof
use Rattle.ab_grammar.specs.declared.head.Stand.{Stand}
use Rattle.ab_grammar.specs.declared.head.Stand.TheVariants.{Outside, Inside, Anywhere}
use Rattle.ab_grammar.specs.declared.Quant.TheVariants.{Exists}
use Rattle.ab_grammar.specs.Token.{Token, word, quantifier, sign, left_paren, right_paren, comma, colon, other, Other, stop, semicolon, becomes, star, by_word, to_word, with_word, on_word, type_word, number, text}
use Rattle.ab_grammar.specs.Token as token
use Rattle.ab_grammar.specs.Tree.{Ty, Tree, place_of}
use Rattle.ab_grammar.specs.Nesting.{Spot}
use Rattle.ab_grammar.specs.Language.{Key, Expression, TypeExpression}
use Rattle.ab_grammar.specs.CommandTrees.{Defined, Clause, Instance, Argument, named, hole, ProofCommand, Command, kinds, constants, subgoals, in_proof, split_all, unfold_goal}
use Rattle.ab_grammar.specs.CommandTrees as tree
use Rattle.ab_grammar.specs.CommandForms.{Form, One, Nothing, Valued, Optional, Many, ◌▹◌, ◌▸◌, ◌◂◌, OneOrMore, Separated}

-- Words

-- a nominal name is n and a number without leading zeros, of one to nine digits
abbrev pub IsNominal : List ℕ → ℕ → Type 0
IsNominal x n = (x ≡ codes "n" ++ decimal n) × (0 < n) × (n ≤ 999999999)

-- a kind, a constant and a predicate begin with a small letter, and are no nominal names
pub record IsDeclarable (x : List ℕ) : Type 0 where
  pub letter : ℕ
  pub others : List ℕ
  pub spelled : x ≡ letter ∷ others
  pub from_a : 97 ≤ letter
  pub to_z : letter ≤ 122
  pub not_nominal : (n : ℕ) → IsNominal x n → ⊥

pub data ShowsName : Token → List ℕ → Type 0 where
  shows_name : (x : List ℕ) (p : ℕ) → ShowsName (word x p) x

pub data ShowsDeclared : Token → List ℕ → Type 0 where
  shows_declared : (x : List ℕ) (p : ℕ) → IsDeclarable x → ShowsDeclared (word x p) x

pub data ShowsNominal : Token → ℕ → Type 0 where
  shows_nominal : (x : List ℕ) (p n : ℕ) → IsNominal x n → ShowsNominal (word x p) n

-- behind `to`, the word _ is a hole
pub data ShowsArgument : Token → Argument → Type 0 where
  shows_named : (x : List ℕ) (p : ℕ) → x ≢ codes "_" → ShowsArgument (word x p) (named x)
  shows_hole : (p : ℕ) → ShowsArgument (word (codes "_") p) hole

pub data ShowsNumber : Token → ℕ → Type 0 where
  shows_number : (n : ℕ) → ShowsNumber (other (number n)) n

-- `search` goes at most 1,000 deep
pub data ShowsDepth : Token → ℕ → Type 0 where
  shows_depth : (n : ℕ) → n ≤ 1000 → ShowsDepth (other (number n)) n

-- `Query` tells from 1 to 1,000 answers
pub data ShowsLimit : Token → ℕ → Type 0 where
  shows_limit : (n : ℕ) → 1 ≤ n → n ≤ 1000 → ShowsLimit (other (number n)) n

pub data ShowsText : Token → List ℕ → Type 0 where
  shows_text : (t : List ℕ) → ShowsText (other (text t)) t

-- one token, whatever its place is
pub data StandsAnywhere (k : ℕ → Token) : Token → Unit {0} → Type 0 where
  stands_at : (p : ℕ) → StandsAnywhere k (k p) tt

abbrev pub Placed : (ℕ → Token) → Form (Unit {0})
Placed k = One (StandsAnywhere k)

abbrev pub Word : List ℕ → Form (Unit {0})
Word x = Placed (word x)

abbrev pub Sign : Other → Form (Unit {0})
Sign o = Key (other o)

abbrev pub Name : Form (List ℕ)
Name = One ShowsName

abbrev pub DeclaredName : Form (List ℕ)
DeclaredName = One ShowsDeclared

-- Parts of commands

-- w, .., w
abbrev pub DeclaredNames : Form (List (List ℕ))
DeclaredNames = Separated (Key comma) DeclaredName

abbrev pub defined_of : List ℕ × Ty → Defined
defined_of d = record { name = d.0; type_of = d.1 }

-- w : type
abbrev pub Definiendum : Form Defined
Definiendum = Valued defined_of (DeclaredName ◂ Key colon ▹ TypeExpression)

abbrev pub Definienda : Form (List Defined)
Definienda = Separated (Key comma) Definiendum

abbrev pub clause_of : Tree × Option Tree → Clause
clause_of c = record { head = c.0; body = c.1; place = place_of c.0 }

-- e, or e := e
abbrev pub ClauseBody : Form (Option Tree)
ClauseBody = Optional None (Valued Some (Sign becomes ▸ Expression))

abbrev pub ClauseForm : Form Clause
ClauseForm = Valued clause_of (Expression ▹ ClauseBody)

abbrev pub Clauses : Form (List Clause)
Clauses = Separated (Sign semicolon) ClauseForm

-- w : type, .., w : type by c ; .. ; c
abbrev pub Definition : Form (List Defined × List Clause)
Definition = Definienda ◂ Sign by_word ▹ Optional [] Clauses

abbrev pub instance_of : List ℕ × Tree → Instance
instance_of i = record { name = i.0; term = i.1 }

abbrev pub InstanceForm : Form Instance
InstanceForm = Valued instance_of (Name ◂ Key (sign Equal) ▹ Expression)

-- X = e, .., X = e
abbrev pub InstanceList : Form (List Instance)
InstanceList = Separated (Key comma) InstanceForm

-- with X = e, .., X = e
abbrev pub Instances : Form (List Instance)
Instances = Sign with_word ▸ InstanceList

-- to a .. a
abbrev pub Arguments : Form (List Argument)
Arguments = Sign to_word ▸ OneOrMore (One ShowsArgument)

abbrev pub kept : Unit {0} → Bool
kept u = true

-- (keep)
abbrev pub Keep : Form Bool
Keep = Valued kept (Key left_paren ▸ (Word (codes "keep") ▸ Key right_paren))

-- (n n ..)
abbrev pub Nominals : Form (List ℕ)
Nominals = Key left_paren ▸ OneOrMore (One ShowsNominal) ◂ Key right_paren

abbrev pub OptionalName : Form (Option (List ℕ))
OptionalName = Optional None (Valued Some Name)

-- on n
abbrev pub OptionalDepth : Form ℕ
OptionalDepth = Optional 5 (Sign on_word ▸ One ShowsDepth)

-- to m
abbrev pub OptionalLimit : Form ℕ
OptionalLimit = Optional 10 (Sign to_word ▸ One ShowsLimit)

-- n .. n
abbrev pub Numbers : Form (List ℕ)
Numbers = OneOrMore (One ShowsNumber)

-- on, off
pub data Switch : List Spot → Bool → Type 0 where
  switched_on : {us : List Spot} → Sign on_word us tt → Switch us true
  switched_off : {us : List Spot} → Word (codes "off") us tt → Switch us false

-- The table

-- the words with which commands begin
abbrev pub command_words : List (List ℕ × Head)
command_words =
    (codes "Kind", head.Kind) ∷ (codes "Type", head.Typed) ∷ (codes "Define", head.Define) ∷ (codes "CoDefine", head.CoDefine)
    ∷ (codes "Theorem", head.Theorem) ∷ (codes "Specification", head.Specification) ∷ (codes "Query", head.Query) ∷ (codes "Show", head.Show) ∷ (codes "Quit", head.Quit)
    ∷ (codes "Set", head.Set) ∷ (codes "undo", head.Undo) ∷ (codes "abort", head.Abort) ∷ []

abbrev pub proof_words : List (List ℕ × ProofHead)
proof_words =
    (codes "intros", proof.Intros) ∷ (codes "induction", proof.Induction) ∷ (codes "coinduction", proof.Coinduction) ∷ (codes "case", proof.Case)
    ∷ (codes "apply", proof.Apply) ∷ (codes "backchain", proof.Backchain) ∷ (codes "cut", proof.Cut) ∷ (codes "inst", proof.Inst)
    ∷ (codes "monotone", proof.Monotone) ∷ (codes "search", proof.Search) ∷ (codes "skip", proof.Skip) ∷ (codes "split", proof.Split) ∷ (codes "left", proof.Left)
    ∷ (codes "right", proof.Right) ∷ (codes "witness", proof.Witness) ∷ (codes "unfold", proof.Unfold) ∷ (codes "assert", proof.Assert)
    ∷ (codes "clear", proof.Clear) ∷ (codes "rename", proof.Rename) ∷ (codes "permute", proof.Permute) ∷ []

-- what a table lists for a word
abbrev pub listed : {A : Type 0} → List (List ℕ × A) → List ℕ → Option A
listed [] x = None
listed (row ∷ rows) x = if bytes_eq x row.0 then Some row.1 else listed rows x

-- the first token of a command
pub data Opens : Head → Token → Unit {0} → Type 0 where
  opens : {h : Head} → (x : List ℕ) (p : ℕ) → listed command_words x ≡ Some h → Opens h (word x p) tt
  opens_back : Opens head.Back (other token.back) tt
  opens_reset : Opens head.Reset (other token.reset) tt

pub data OpensProof : ProofHead → Token → Unit {0} → Type 0 where
  opens_proof : {h : ProofHead} → (x : List ℕ) (p : ℕ) → listed proof_words x ≡ Some h → OpensProof h (word x p) tt
  opens_exists : (p : ℕ) → OpensProof proof.Exists (quantifier Exists p) tt

-- the proof commands before which a label may stand
abbrev pub takes_label : ProofHead → Bool
takes_label proof.Induction = true
takes_label proof.Coinduction = true
takes_label proof.Case = true
takes_label proof.Apply = true
takes_label proof.Cut = true
takes_label proof.Inst = true
takes_label proof.Monotone = true
takes_label proof.Assert = true
takes_label proof.Intros = false
takes_label proof.Backchain = false
takes_label proof.Search = false
takes_label proof.Skip = false
takes_label proof.Split = false
takes_label proof.Left = false
takes_label proof.Right = false
takes_label proof.Exists = false
takes_label proof.Witness = false
takes_label proof.Unfold = false
takes_label proof.Clear = false
takes_label proof.Rename = false
takes_label proof.Permute = false

-- what stands behind the first token of a command, up to its full stop
pub data Row : Head → List Spot → Command → Type 0 where
  kind_row : {us : List Spot} {xs : List (List ℕ)} → (DeclaredNames ◂ Sign type_word) us xs → Row head.Kind us (kinds xs)
  typed_row : {us : List Spot} {xs : List (List ℕ)} {A : Ty} → (DeclaredNames ▹ TypeExpression) us (xs, A) → Row head.Typed us (constants xs A)
  define_row : {us : List Spot} {ds : List Defined} {cs : List Clause} → Definition us (ds, cs) → Row head.Define us (tree.define true ds cs)
  codefine_row : {us : List Spot} {ds : List Defined} {cs : List Clause} → Definition us (ds, cs) → Row head.CoDefine us (tree.define false ds cs)
  theorem_row : {us : List Spot} {x : List ℕ} {e : Tree} → (Name ◂ Key colon ▹ Expression) us (x, e) → Row head.Theorem us (tree.theorem x e)
  specification_row : {us : List Spot} {x : List ℕ} → One ShowsText us x → Row head.Specification us (tree.specification x)
  query_row : {us : List Spot} {e : Tree} {n m : ℕ} → (Expression ▹ OptionalDepth ▹ OptionalLimit) us ((e, n), m) → Row head.Query us (tree.query e n m)
  show_row : {us : List Spot} {x : List ℕ} → Name us x → Row head.Show us (tree.show x)
  quit_row : {us : List Spot} → Nothing us tt → Row head.Quit us tree.quit
  set_row : {us : List Spot} {on : Bool} → (Word (codes "subgoals") ▸ Switch) us on → Row head.Set us (subgoals on)
  back_row : {us : List Spot} → Nothing us tt → Row head.Back us tree.back
  reset_row : {us : List Spot} → Nothing us tt → Row head.Reset us tree.reset
  undo_row : {us : List Spot} → Nothing us tt → Row head.Undo us tree.undo
  abort_row : {us : List Spot} → Nothing us tt → Row head.Abort us tree.abort

-- the same for a proof command
pub data ProofRow : ProofHead → List Spot → ProofCommand → Type 0 where
  intros_row : {us : List Spot} {xs : List (List ℕ)} → Many Name us xs → ProofRow proof.Intros us (tree.intros xs)
  induction_row : {us : List Spot} {ns : List ℕ} → (Sign on_word ▸ Numbers) us ns → ProofRow proof.Induction us (tree.induction ns)
  coinduction_row : {us : List Spot} → Nothing us tt → ProofRow proof.Coinduction us tree.coinduction
  case_row : {us : List Spot} {x : List ℕ} {keep : Bool} → (Name ▹ Optional false Keep) us (x, keep) → ProofRow proof.Case us (tree.case x keep)
  apply_row : {us : List Spot} {x : List ℕ} {vs : List Argument} {is : List Instance} → (Name ▹ Optional [] Arguments ▹ Optional [] Instances) us ((x, vs), is) → ProofRow proof.Apply us (tree.apply x vs is)
  backchain_row : {us : List Spot} {x : List ℕ} {is : List Instance} → (Name ▹ Optional [] Instances) us (x, is) → ProofRow proof.Backchain us (tree.backchain x is)
  cut_row : {us : List Spot} {x y : List ℕ} → (Name ◂ Sign with_word ▹ Name) us (x, y) → ProofRow proof.Cut us (tree.cut x y)
  inst_row : {us : List Spot} {x : List ℕ} {is : List Instance} → (Name ◂ Sign with_word ▹ InstanceList) us (x, is) → ProofRow proof.Inst us (tree.inst x is)
  monotone_row : {us : List Spot} {x : List ℕ} {e : Tree} → (Name ◂ Sign with_word ▹ Expression) us (x, e) → ProofRow proof.Monotone us (tree.monotone x e)
  search_row : {us : List Spot} {n : ℕ} → Optional 5 (One ShowsDepth) us n → ProofRow proof.Search us (tree.search n)
  skip_row : {us : List Spot} → Nothing us tt → ProofRow proof.Skip us tree.skip
  split_row : {us : List Spot} → Nothing us tt → ProofRow proof.Split us tree.split
  split_all_row : {us : List Spot} → Sign star us tt → ProofRow proof.Split us split_all
  left_row : {us : List Spot} → Nothing us tt → ProofRow proof.Left us tree.left
  right_row : {us : List Spot} → Nothing us tt → ProofRow proof.Right us tree.right
  exists_row : {us : List Spot} {e : Tree} → Expression us e → ProofRow proof.Exists us (tree.exists e)
  witness_row : {us : List Spot} {e : Tree} → Expression us e → ProofRow proof.Witness us (tree.exists e)
  unfold_row : {us : List Spot} → Nothing us tt → ProofRow proof.Unfold us unfold_goal
  assert_row : {us : List Spot} {e : Tree} → Expression us e → ProofRow proof.Assert us (tree.assert e)
  clear_row : {us : List Spot} {xs : List (List ℕ)} → OneOrMore Name us xs → ProofRow proof.Clear us (tree.clear xs)
  rename_row : {us : List Spot} {x y : List ℕ} → (Name ◂ Sign to_word ▹ Name) us (x, y) → ProofRow proof.Rename us (tree.rename x y)
  permute_row : {us : List Spot} {ns : List ℕ} {x : Option (List ℕ)} → (Nominals ▹ OptionalName) us (ns, x) → ProofRow proof.Permute us (tree.permute ns x)

-- a token with which a command begins
pub data BeginsCommand : Token → Type 0 where
  begins_plain : {k : Token} → (h : Head) → Opens h k tt → BeginsCommand k
  begins_proof : {k : Token} → (h : ProofHead) → OpensProof h k tt → BeginsCommand k

-- a label is a word with which no command begins
pub data ShowsLabel : Token → List ℕ → Type 0 where
  shows_label : (x : List ℕ) (p : ℕ) → (BeginsCommand (word x p) → ⊥) → ShowsLabel (word x p) x

-- a proof command that may have a label
pub data LabelledForm : List Spot → ProofCommand → Type 0 where
  labelled_form : {us : List Spot} {c : ProofCommand} → (h : ProofHead) → IsTrue (takes_label h) → (One (OpensProof h) ▸ ProofRow h) us c → LabelledForm us c

-- a command without its full stop
pub data CommandForm : List Spot → Command → Type 0 where
  plain : {us : List Spot} {c : Command} → (h : Head) → (One (Opens h) ▸ Row h) us c → CommandForm us c
  unlabelled : {us : List Spot} {c : ProofCommand} → (h : ProofHead) → (One (OpensProof h) ▸ ProofRow h) us c → CommandForm us (in_proof None c)
  labelled : {us : List Spot} {x : List ℕ} {c : ProofCommand} → (One ShowsLabel ◂ Key colon ▹ LabelledForm) us (x, c) → CommandForm us (in_proof (Some x) c)

abbrev pub CommandText : Form Command
CommandText = CommandForm ◂ Sign stop

-- Where commands stand

abbrev pub stand_of : Head → Stand
stand_of head.Kind = Outside
stand_of head.Typed = Outside
stand_of head.Define = Outside
stand_of head.CoDefine = Outside
stand_of head.Theorem = Outside
stand_of head.Specification = Outside
stand_of head.Query = Anywhere
stand_of head.Show = Anywhere
stand_of head.Quit = Anywhere
stand_of head.Set = Anywhere
stand_of head.Back = Anywhere
stand_of head.Reset = Anywhere
stand_of head.Undo = Inside
stand_of head.Abort = Inside

abbrev pub standing : Command → Stand
standing (kinds xs) = Outside
standing (constants xs A) = Outside
standing (tree.define inductive ds cs) = Outside
standing (tree.theorem x e) = Outside
standing (tree.specification x) = Outside
standing (tree.query e n m) = Anywhere
standing (tree.show x) = Anywhere
standing tree.quit = Anywhere
standing (subgoals on) = Anywhere
standing tree.back = Anywhere
standing tree.reset = Anywhere
standing tree.undo = Inside
standing tree.abort = Inside
standing (in_proof x c) = Inside

-- where a command stands is known by its first token, or by a word and a colon
pub data StandsAt : List Token → Stand → Type 0 where
  by_head : {k : Token} → (h : Head) (ks : List Token) → Opens h k tt → StandsAt (k ∷ ks) (stand_of h)
  by_proof_head : {k : Token} → (h : ProofHead) (ks : List Token) → OpensProof h k tt → StandsAt (k ∷ ks) Inside
  by_label : {k : Token} → (x : List ℕ) (ks : List Token) → ShowsLabel k x → StandsAt (k ∷ colon ∷ ks) Inside
