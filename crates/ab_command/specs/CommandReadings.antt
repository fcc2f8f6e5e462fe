-- What the bytes of a command say: the command, as the grammar's tree, or the first cause why they say none.
use Rattle.std.specs.Prelude.{◌≡◌, ◌+◌, ℕ, Bool, true, false, List}
use Rattle.ab_lex.specs.declared.token.Token.{Token}
use Rattle.ab_lex.specs.declared.token.LexFault.{LexFault}
use Rattle.ab_lex.specs.Tokens.{TokensOf, FaultOf, BeginsAt, place_of}
use Rattle.ab_grammar.specs.declared.head.Stand.{Stand}
use Rattle.ab_grammar.specs.declared.head.Stand.TheVariants.{Outside, Inside, Anywhere}
use Rattle.ab_grammar.specs.CommandTrees.{Command}
use Rattle.ab_grammar.specs.CommandTable.{CommandText, StandsAt}
use Rattle.ab_grammar.specs.Language.{Accepted, SyntaxAt, TooNestedAt}
use Rattle.ab_syntax.specs.ab_expressions.specs.Tokens.{tokens_in}
use Rattle.ab_syntax.specs.Faults.{nested_place, IsCommandPlace}
use Rattle.ab_command.specs.declared.fault.Cause.{Cause}
use Rattle.ab_command.specs.declared.fault.Cause.TheVariants.{Syntax, WrongPlace, TooNested, NotBuilt}
use Rattle.ab_command.specs.declared.fault.Unread.{Unread}
use Rattle.ab_command.specs.declared.fault.Unread.TheVariants as unread
use Rattle.ab_command.specs.Supported.{IsBuilt}

-- whether a command of this place may stand where a proof is open, or where none is
abbrev pub StandsHere : Stand → Bool → Type 0
StandsHere Outside true = ⊥
StandsHere Outside false = Unit {0}
StandsHere Inside true = Unit {0}
StandsHere Inside false = ⊥
StandsHere Anywhere proving = Unit {0}

-- the bytes have a fault at this place, counted from where their first token begins, or the fault where it stands before all tokens
pub record FaultAtPlace (bytes : List ℕ) (place : ℕ) : Type 0 where
  pub start : ℕ
  pub begins : BeginsAt bytes start
  pub fault : LexFault
  pub fault_is : FaultOf bytes fault
  pub place_is : place_of fault ≡ start + place

-- the bytes have these tokens, and a command whose place they tell stands here
pub record Fits (bytes : List ℕ) (proving : Bool) (ts : List Token) : Type 0 where
  pub tokens_are : TokensOf bytes ts
  pub stands : (d : Stand) → StandsAt (tokens_in bytes ts) d → StandsHere d proving

-- WHERE A PROOF IS OPEN, OR NONE IS, THE BYTES SAY THE COMMAND
pub record Says (bytes : List ℕ) (proving : Bool) (c : Command) : Type 0 where
  pub tokens : List Token
  pub fits : Fits bytes proving tokens
  pub spells : Accepted CommandText (tokens_in bytes tokens) c
  pub built : IsBuilt c

-- THEY SAY NO COMMAND that is built, and this is the first cause, in the order in which they are looked at: bytes that are no token,
-- the place, the grammar with its bound on nesting, and what is built
pub data Fails (bytes : List ℕ) (proving : Bool) : Cause → Type 0 where
  no_token : (place : ℕ) → FaultAtPlace bytes place → Fails bytes proving (Syntax place)
  out_of_place : (ts : List Token) (d : Stand) → TokensOf bytes ts → StandsAt (tokens_in bytes ts) d → ¬ StandsHere d proving → Fails bytes proving WrongPlace
  ungrammatical : (ts : List Token) (i place : ℕ) → Fits bytes proving ts → SyntaxAt CommandText (tokens_in bytes ts) i → IsCommandPlace bytes ts i place → Fails bytes proving (Syntax place)
  too_nested : (ts : List Token) (i : ℕ) → Fits bytes proving ts → TooNestedAt CommandText (tokens_in bytes ts) i → Fails bytes proving (TooNested (nested_place bytes ts i))
  not_built : (ts : List Token) (c : Command) → Fits bytes proving ts → Accepted CommandText (tokens_in bytes ts) c → ¬ IsBuilt c → Fails bytes proving NotBuilt

-- want of memory says nothing of the bytes
abbrev pub FailsBy : List ℕ → Bool → Unread → Type 0
FailsBy bytes proving (unread.Refused cause) = Fails bytes proving cause
FailsBy bytes proving (unread.Memory fault) = Unit {0}
