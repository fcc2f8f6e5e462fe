-- How the definition of `member` is kept in a new world. Public contracts don't speak of this.
use Rattle.std.specs.Prelude.{◌≡◌, [], ◌∷◌, codes}
use Rattle.ab_term.specs.Types.{o, olist}
use Rattle.ab_term.specs.Logical.{truth}
use Rattle.ab_term.specs.Terms.{constant, logical, spine, no_terms, Read}
use Rattle.ab_store.specs.ab_types.specs.Entries.{Table}
use Rattle.ab_store.specs.ab_types.specs.Ids.{HoldsType, HoldsConstant, type_of}
use Rattle.ab_unifiers.specs.Member.{clause_variable, before, in_the_list}
use Rattle.ab_formulas.specs.Clauses.{Clause}
use Rattle.ab_typing.specs.DefinitionReadings.{name_of}
use Rattle.ab_logic.specs.declared.member.Words.{Words}

-- the words are those of the table
pub record AreWords (types : Table) (words : Words) : Type 0 where
  pub member_held : HoldsConstant types words.member
  pub cons_held : HoldsConstant types words.cons
  pub o_held : HoldsType types words.o
  pub olist_held : HoldsType types words.olist
  pub member_is : name_of types words.member ≡ codes "member"
  pub cons_is : name_of types words.cons ≡ codes "::"
  pub o_is : type_of types words.o ≡ o
  pub olist_is : type_of types words.olist ≡ olist

-- `member` of two terms
abbrev pub member_of : Read → Read → Read
member_of A L = spine (constant (codes "member")) (in_the_list A L)

-- `member A (A :: L)`
abbrev pub kept_first : Clause
kept_first = record {
  variables = record { number = 0; type = o; hint = codes "A" } ∷ record { number = 1; type = olist; hint = codes "L" } ∷ [];
  head = member_of (clause_variable 0 o) (before (clause_variable 0 o) (clause_variable 1 olist));
  body = spine (logical truth) no_terms;
}

-- `member A (B :: L) := member A L`
abbrev pub kept_later : Clause
kept_later = record {
  variables = record { number = 2; type = o; hint = codes "A" } ∷ record { number = 3; type = o; hint = codes "B" } ∷ record { number = 4; type = olist; hint = codes "L" } ∷ [];
  head = member_of (clause_variable 2 o) (before (clause_variable 3 o) (clause_variable 4 olist));
  body = member_of (clause_variable 2 o) (clause_variable 4 olist);
}
