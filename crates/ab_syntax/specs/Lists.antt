-- The forms of the lists that commands have, with what follows an item and the list.
use Rattle.std.specs.Prelude.{◌≡◌, ℕ, List, Some, ◌⊎◌, refl}
use Rattle.std.proofs.Common.{inl, inr}
use Rattle.ab_grammar.specs.Token.{Token, comma, other, semicolon, by_word}
use Rattle.ab_grammar.specs.Nesting.{Spot}
use Rattle.ab_grammar.specs.Language.{Key, Expression}
use Rattle.ab_grammar.specs.CommandForms.{◌▸◌, Many}
use Rattle.ab_grammar.specs.CommandTable.{Name, DeclaredName, Definiendum, InstanceForm, ClauseForm}
use Rattle.ab_grammar.specs.CommandTrees as tree
use Rattle.ab_grammar.specs.Tree.{Tree}
use Rattle.ab_grammar.proofs.Following.{first, Follow, Followed, Anything, by_comma, by_other, Comes, Except, BeforeStop, ClauseEnds}
use Rattle.ab_grammar.proofs.Beginnings.{followed_by, followed_by_stop}
use Rattle.ab_grammar.proofs.Looping.{follows_item}
use Rattle.ab_syntax.specs.declared.command.ClauseParse.{ClauseParse}
use Rattle.ab_syntax.specs.declared.command.Defined.{Defined}
use Rattle.ab_syntax.specs.declared.command.Instance.{Instance}
use Rattle.ab_expressions.specs.declared.kind.Kind.{Kind}
use Rattle.ab_expressions.specs.declared.kind.Kind.TheVariants as kind
use Rattle.ab_expressions.specs.declared.tree.Parse.{Parse}
use Rattle.ab_expressions.specs.SyntaxTrees.{tree_of}
use Rattle.ab_syntax.specs.Commands.{defined_of, clause_of, instance_of}
use Rattle.ab_expressions.specs.Kinds.{key_of, IsKey}

-- a list: the form of an item and what it stands for, the key between two items, what follows an item and what the list;
-- that the list isn't followed by the key, and that what follows an item of the list may follow an item
pub record ListForm (X : Type 0) : Type 1 where
  pub Meant : Type 0
  pub form : List Spot → Meant → Type 0
  pub meant : X → Meant
  pub sign : Kind
  pub key : IsKey sign
  pub ends : List Token → Type 0
  pub list_ends : List Token → Type 0
  pub apart : (r : List Token) → list_ends r → first r ≡ Some (key_of sign) → ⊥
  pub within : (r : List Token) → Follow (Many (Key (key_of sign) ▸ form)) list_ends r → ends r

abbrev pub declared_names : ListForm (List ℕ)
declared_names = record { Meant = List ℕ; form = DeclaredName; meant = λ x. x; sign = kind.Comma; key = λ w p. refl; ends = Anything; list_ends = Except comma; apart = λ r n. n; within = λ r f. tt }

-- a definiendum is followed by a comma, or by `by`
pub by_no_comma : (r : List Token) → Comes (other by_word) r → first r ≡ Some comma → ⊥
by_no_comma r e f = absurd (cc)

comma_or_by : (r : List Token) → (Comes comma r) ⊎ (Comes (other by_word) r) → Followed r
comma_or_by r (inl e) = followed_by r comma e by_comma
comma_or_by r (inr e) = followed_by r (other by_word) e (by_other by_word)

pub definiendum_ends : (r : List Token) → Follow (Many (Key comma ▸ Definiendum)) (Comes (other by_word)) r → Followed r
definiendum_ends r f = comma_or_by r (follows_item comma Definiendum Anything (Comes (other by_word)) by_no_comma (λ r f. tt) r f)

abbrev pub definienda : ListForm Defined
definienda = record { Meant = tree.Defined; form = Definiendum; meant = defined_of; sign = kind.Comma; key = λ w p. refl; ends = Followed; list_ends = Comes (other by_word); apart = by_no_comma; within = definiendum_ends }

-- an instance by a comma, or by the full stop
pub stop_no_comma : (r : List Token) → BeforeStop r → first r ≡ Some comma → ⊥
stop_no_comma r e f = absurd (cc)

comma_or_stop : (r : List Token) → (Comes comma r) ⊎ BeforeStop r → Followed r
comma_or_stop r (inl e) = followed_by r comma e by_comma
comma_or_stop r (inr e) = followed_by_stop r e

pub instance_ends : (r : List Token) → Follow (Many (Key comma ▸ InstanceForm)) BeforeStop r → Followed r
instance_ends r f = comma_or_stop r (follows_item comma InstanceForm Anything BeforeStop stop_no_comma (λ r f. tt) r f)

abbrev pub instances : ListForm Instance
instances = record { Meant = tree.Instance; form = InstanceForm; meant = instance_of; sign = kind.Comma; key = λ w p. refl; ends = Followed; list_ends = BeforeStop; apart = stop_no_comma; within = instance_ends }

-- a clause by a semicolon, or by the full stop
pub stop_no_semicolon : (r : List Token) → BeforeStop r → first r ≡ Some (other semicolon) → ⊥
stop_no_semicolon r e f = absurd (cc)

pub clause_ends : (r : List Token) → Follow (Many (Key (other semicolon) ▸ ClauseForm)) BeforeStop r → ClauseEnds r
clause_ends r f = follows_item (other semicolon) ClauseForm Anything BeforeStop stop_no_semicolon (λ r f. tt) r f

abbrev pub clauses : ListForm ClauseParse
clauses = record { Meant = tree.Clause; form = ClauseForm; meant = clause_of; sign = kind.Semicolon; key = λ w p. refl; ends = ClauseEnds; list_ends = BeforeStop; apart = stop_no_semicolon; within = clause_ends }

-- the files that are accumulated, and the goals of a clause: each is followed by a comma, or by the full stop
abbrev pub file_names : ListForm (List ℕ)
file_names = record { Meant = List ℕ; form = Name; meant = λ x. x; sign = kind.Comma; key = λ w p. refl; ends = Anything; list_ends = BeforeStop; apart = stop_no_comma; within = λ r f. tt }

pub goal_ends : (r : List Token) → Follow (Many (Key comma ▸ Expression)) BeforeStop r → Followed r
goal_ends r f = comma_or_stop r (follows_item comma Expression Anything BeforeStop stop_no_comma (λ r f. tt) r f)

abbrev pub goals : ListForm Parse
goals = record { Meant = Tree; form = Expression; meant = tree_of; sign = kind.Comma; key = λ w p. refl; ends = Followed; list_ends = BeforeStop; apart = stop_no_comma; within = goal_ends }
