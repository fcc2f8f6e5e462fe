-- A CERTIFICATE as plain data: what was declared, in order, and the steps of each theorem's derivation. Names are lists of bytes.
use Rattle.std.specs.Prelude.{ℕ, Bool, List, [], ◌∷◌, Option}

pub data Ty : Type 0 where
  base : List ℕ → Ty
  arrow : Ty → Ty → Ty

-- what a logical constant carries: nothing, a type, or the level of a mark
pub data Detail : Type 0 where
  bare : Detail
  with_type : Ty → Detail
  with_level : ℕ → Detail

-- a logical constant
pub record Sign : Type 0 where
  pub word : List ℕ
  pub detail : Detail

pub data Head : Type 0 where
  constant : List ℕ → Head
  logic : Sign → Head
  nominal : ℕ → Ty → Head
  cell : List ℕ → Head
  index : ℕ → Head

mutual
  pub data Term : Type 0 where
    -- the type and the hint of a bound variable, and what it reaches over
    lam : Ty → List ℕ → Term → Term
    spine : Head → Terms → Term

  pub data Terms : Type 0 where
    no_terms : Terms
    one_more : Term → Terms → Terms

-- what is put for a nominal constant
pub record Replace : Type 0 where
  pub number : ℕ
  pub ty : Ty
  pub to : Term

-- what a step is given, as one of its fields; a label is a name or is left to be chosen
pub data Field : Type 0 where
  name : List ℕ → Field
  label : Option (List ℕ) → Field
  flag : Bool → Field
  place : ℕ → Field
  term : Term → Field
  numbers : List ℕ → Field
  labels : List (Option (List ℕ)) → Field
  replaces : List Replace → Field

-- a step of a derivation: the number of its rule, and its fields
pub record Step : Type 0 where
  pub number : ℕ
  pub fields : List Field

pub record Variable : Type 0 where
  pub name : List ℕ
  pub ty : Ty

pub record Clause : Type 0 where
  pub variables : List Variable
  pub head : Term
  pub body : Term

pub data Item : Type 0 where
  kind : List ℕ → Item
  const : List ℕ → Ty → Item
  -- whether it is inductive, its predicates, and its clauses
  block : Bool → List (List ℕ) → List Clause → Item
  program : Clause → Item
  -- its name, its formula, and the steps of its derivation
  theorem : List ℕ → Term → List Step → Item

-- the list of the terms
abbrev pub list_of : Terms → List Term
list_of no_terms = []
list_of (one_more t ts) = t ∷ list_of ts

abbrev pub terms_of : List Term → Terms
terms_of [] = no_terms
terms_of (t ∷ ts) = one_more t (terms_of ts)
