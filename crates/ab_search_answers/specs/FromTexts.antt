-- CLAUSES OF A DEFINITION, AS A TEXT GIVES THEM: the body is a reading of an expression, in which names that are neither bound nor known stand for the clause's variables.
use Rattle.std.specs.Prelude.{◌≡◌, ℕ, List, [], Ok}
use Rattle.ab_term.specs.Types.{Ty}
use Rattle.ab_term.specs.Terms.{variable, Read}
use Rattle.ab_term.specs.Typing.{Signature}
use Rattle.ab_grammar.specs.Tree.{Tree}
use Rattle.ab_unifiers.specs.Clauses as cases
use Rattle.ab_formulas.specs.Clauses.{Clause}
use Rattle.ab_formulas.specs.CaseClauses.{case_of}
use Rattle.ab_formulas.specs.Sequents.{Variable}
use Rattle.ab_theory.specs.Unfolding.{exists_all}
use Rattle.ab_meaning.specs.Normal.{normal_form}
use Rattle.ab_meaning.specs.Readings.{Raw, Making, Reads}
use Rattle.ab_meaning.specs.ResolvedNames.{Name, Resolved}
use Rattle.ab_meaning.specs.Scopes.{Scope, resolved}

-- a free name stands for the variable of its number
abbrev pub numbered_by : (Name → ℕ) → Making
numbered_by number x A = variable (record { name = number x; type = A })

-- THE FORMULA IS A BODY FROM A TEXT: the normal form of a reading, some variables closed by `exists`
pub record IsBodyFromText (F : Read) : Type 0 where
  pub signature : Signature
  pub scope : Scope
  pub text : Tree
  pub named : Resolved
  pub names : resolved scope [] text ≡ Ok named
  pub number : Name → ℕ
  pub types : Name → Ty
  pub raw : Raw
  pub type : Ty
  pub given : List Ty
  pub reads : Reads (numbered_by number) types [] named raw type given
  pub closed : List Variable
  pub is : F ≡ exists_all closed (normal_form signature [] raw)

-- the clause of case analysis that a kept one with such a body is
abbrev pub IsFromText : cases.Clause (List ℕ) → Type 0
IsFromText c = (k : Clause) × IsBodyFromText k.body × (c ≡ case_of k)
