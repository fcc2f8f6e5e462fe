-- The trees of commands, as a reader of the language draws them. Names are lists of bytes.
use Rattle.std.specs.Prelude.{ℕ, List, Option, Bool}
use Rattle.ab_grammar.specs.Tree.{Ty, Tree}

-- a predicate that is defined, and its type
pub record Defined : Type 0 where
  pub name : List ℕ
  pub type_of : Ty

-- a clause of a definition; its place is that of its head
pub record Clause : Type 0 where
  pub head : Tree
  pub body : Option Tree
  pub place : ℕ

-- a term that is given for a name
pub record Instance : Type 0 where
  pub name : List ℕ
  pub term : Tree

-- what stands for an antecedent: a hypothesis, or a hole that becomes a goal
pub data Argument : Type 0 where
  named : List ℕ → Argument
  hole : Argument

pub data ProofCommand : Type 0 where
  intros : List (List ℕ) → ProofCommand
  -- the places of the antecedents that get a size, one for each part of the conclusion
  induction : List ℕ → ProofCommand
  coinduction : ProofCommand
  -- whether the hypothesis is kept
  case : List ℕ → Bool → ProofCommand
  apply : List ℕ → List Argument → List Instance → ProofCommand
  backchain : List ℕ → List Instance → ProofCommand
  cut : List ℕ → List ℕ → ProofCommand
  inst : List ℕ → List Instance → ProofCommand
  monotone : List ℕ → Tree → ProofCommand
  search : ℕ → ProofCommand
  skip : ProofCommand
  split : ProofCommand
  split_all : ProofCommand
  left : ProofCommand
  right : ProofCommand
  exists : Tree → ProofCommand
  unfold_goal : ProofCommand
  assert : Tree → ProofCommand
  clear : List (List ℕ) → ProofCommand
  rename : List ℕ → List ℕ → ProofCommand
  permute : List ℕ → Option (List ℕ) → ProofCommand

pub data Command : Type 0 where
  kinds : List (List ℕ) → Command
  constants : List (List ℕ) → Ty → Command
  -- whether the block is inductive
  define : Bool → List Defined → List Clause → Command
  theorem : List ℕ → Tree → Command
  specification : List ℕ → Command
  -- how deep is searched, and how many answers are told at most
  query : Tree → ℕ → ℕ → Command
  show : List ℕ → Command
  quit : Command
  subgoals : Bool → Command
  back : Command
  reset : Command
  undo : Command
  abort : Command
  -- with its label, where there is one
  in_proof : Option (List ℕ) → ProofCommand → Command
