-- Plain trees for terms: abstractions, and heads with the arguments that they are given. A bound name is an
-- index, the number of binders between it and its own. The trees are generic in what stands for a variable,
-- as the number of a store's cell or a printed name, and in what stands for a binder's hint, as the bytes
-- of a name, or nothing.
use Rattle.std.specs.Prelude.{ℕ, List, [], ◌∷◌}
use Rattle.ab_term.specs.Types.{Ty}
use Rattle.ab_term.specs.Logical.{Logical}

-- A nominal constant. One number at two types is two constants.
pub record Nominal : Type 0 where
  pub number : ℕ
  pub type : Ty

-- A variable that stands for a term of its type. One name at two types is two variables.
pub record Variable (Var : Type 0) : Type 0 where
  pub name : Var
  pub type : Ty

pub data Head (Var : Type 0) : Type 0 where
  constant : List ℕ → Head Var
  logical : Logical → Head Var
  nominal : Nominal → Head Var
  variable : Variable Var → Head Var
  index : ℕ → Head Var

mutual
  pub data Term (Var Hint : Type 0) : Type 0 where
    lam : Ty → Hint → Term Var Hint → Term Var Hint
    spine : Head Var → Terms Var Hint → Term Var Hint

  pub data Terms (Var Hint : Type 0) : Type 0 where
    no_terms : Terms Var Hint
    term : Term Var Hint → Terms Var Hint → Terms Var Hint

module _ {Var Hint : Type 0} where
  abbrev pub terms_of : List (Term Var Hint) → Terms Var Hint
  terms_of [] = no_terms
  terms_of (t ∷ ts) = term t (terms_of ts)

  -- the terms of both, in order
  abbrev pub joined : Terms Var Hint → Terms Var Hint → Terms Var Hint
  joined no_terms us = us
  joined (term t ts) us = term t (joined ts us)

  -- one term more, at the end
  abbrev pub with_last : Terms Var Hint → Term Var Hint → Terms Var Hint
  with_last no_terms t = term t no_terms
  with_last (term s ts) t = term s (with_last ts t)

-- a term over numbered variables, with names as hints: what formulas are
abbrev pub Read : Type 0
Read = Term ℕ (List ℕ)
