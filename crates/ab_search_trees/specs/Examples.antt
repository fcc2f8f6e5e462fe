-- Goals to try the tree on, as one writes them.
use Rattle.std.specs.Prelude.{ℕ, zero, suc, List, [], ◌∷◌, codes, true, false}
use Rattle.ab_term.specs.Types.{Ty, kind, arrow, prop, o, olist}
use Rattle.ab_term.specs.Logical.{truth, falsity, equality, existential, nabla, plus, hash}
use Rattle.ab_term.specs.Terms.{Nominal, Variable, constant, logical, nominal, variable, index, lam, spine, no_terms, terms_of, Read}
use Rattle.ab_unifiers.specs.Replacements.{Cell}
use Rattle.ab_unifiers.specs.Clauses.{Clause}
use Rattle.ab_unifiers.specs.Member.{before, clause_variable, member_clauses}
use Rattle.ab_formulas.specs.Declarations.{Declarations, a_kind, a_constant, a_block, a_program_clause}
use Rattle.ab_formulas.specs.Sequents.{Sequent}
use Rattle.ab_search_trees.specs.Goals.{Now}
use Rattle.ab_search_trees.specs.Judgements.{judged}

abbrev pub i : Ty
i = kind (codes "i")

abbrev pub bound : ℕ → Read
bound k = spine (index k) no_terms

abbrev pub name : ℕ → Nominal
name k = record { number = k; type = i }

abbrev pub p_of : ℕ → Read
p_of k = spine (constant (codes "p")) (terms_of (spine (nominal (name k)) no_terms ∷ []))

-- the goal alone
abbrev pub alone : Read → Sequent
alone F = record { variables = []; hypotheses = []; conclusion = F; counter = 0 }

-- `nabla a, exists F, F a a = a`
abbrev pub beyond_patterns : Read
beyond_patterns =
    spine (logical (nabla i)) (terms_of (lam i (codes "a")
    (spine (logical (existential (arrow i (arrow i i)))) (terms_of (lam (arrow i (arrow i i)) (codes "F")
    (spine (logical (equality i)) (terms_of (spine (index 0) (terms_of (bound 1 ∷ bound 1 ∷ [])) ∷ bound 1 ∷ []))) ∷ []))) ∷ []))

-- `p n1` is assumed, and `p n2` is asked for
abbrev pub by_another_name : Sequent
by_another_name = record { variables = []; hypotheses = record { name = codes "H1"; formula = p_of 1 } ∷ []; conclusion = p_of 2; counter = 1 }

-- the answer to that
abbrev pub nothing_put_in : Now
nothing_put_in = record { cells = []; flexible = []; answer = []; held = name 1 ∷ name 2 ∷ [] }

-- `Define p : i -> prop by p a ; p b`, and `exists X, p X` is asked for
abbrev pub const_of : List ℕ → Read
const_of c = spine (constant c) no_terms

abbrev pub fact : List ℕ → Clause (List ℕ)
fact c = record { predicate = codes "p"; variables = []; names = []; arguments = terms_of (const_of c ∷ []); body = spine (logical truth) no_terms }

abbrev pub two_facts : Declarations
two_facts =
    a_kind (codes "i") ∷ a_constant (codes "a") i ∷ a_constant (codes "b") i ∷ a_constant (codes "p") (arrow i prop)
    ∷ a_block (record { inductive = true; predicates = codes "p" ∷ []; clauses = fact (codes "a") ∷ fact (codes "b") ∷ [] }) ∷ []

abbrev pub which : Read
which = spine (logical (existential i)) (terms_of (lam i (codes "X") (spine (constant (codes "p")) (terms_of (bound 0 ∷ []))) ∷ []))

-- the variable that is made for X, and the answer that puts in the constant for it
abbrev pub for_X : Variable ℕ
for_X = record { name = 0; type = i }

abbrev pub put_in : List ℕ → Now
put_in c = record { cells = record { hint = codes "X"; type = i } ∷ []; flexible = []; answer = (for_X, const_of c) ∷ []; held = [] }

-- `Define nat : nat -> prop by nat z ; nat (s N) := nat N`, and a numeral
abbrev pub given : List ℕ → Read → Read
given c t = spine (constant c) (terms_of (t ∷ []))

abbrev pub numeral : ℕ → Read
numeral zero = const_of (codes "z")
numeral (suc n) = given (codes "s") (numeral n)

abbrev pub next_number : Clause (List ℕ)
next_number = record {
  predicate = codes "nat";
  variables = record { hint = codes "N"; type = i } ∷ [];
  names = [];
  arguments = terms_of (given (codes "s") (clause_variable 0 i) ∷ []);
  body = given (codes "nat") (clause_variable 0 i);
}

abbrev pub natural_numbers : Declarations
natural_numbers =
    a_block (record {
      inductive = true;
      predicates = codes "nat" ∷ [];
      clauses = record { predicate = codes "nat"; variables = []; names = []; arguments = terms_of (numeral 0 ∷ []); body = spine (logical truth) no_terms } ∷ next_number ∷ [];
    }) ∷ []

-- the program `q X :- p X.`, and `{L, p c |- q c}`
abbrev pub with_member : Declarations
with_member = a_block (record { inductive = true; predicates = codes "member" ∷ []; clauses = member_clauses }) ∷ []

abbrev pub q_by_p : Declarations
q_by_p =
    a_program_clause (record {
      predicate = codes "q";
      variables = record { hint = codes "X"; type = i } ∷ [];
      names = [];
      arguments = terms_of (clause_variable 0 i ∷ []);
      body = given (codes "p") (clause_variable 0 i);
    })
    ∷ with_member

abbrev pub from_the_list : Sequent
from_the_list = record {
  variables = record { number = 0; type = olist; name = codes "L" } ∷ [];
  hypotheses = [];
  conclusion = judged (before (given (codes "p") (const_of (codes "c"))) (spine (variable (record { name = 0; type = olist })) no_terms)) (given (codes "q") (const_of (codes "c")));
  counter = 0;
}

abbrev pub list_cells : List (Cell (List ℕ))
list_cells = record { hint = codes "L"; type = olist } ∷ []

-- the program `a.`, `{a}`, and `exists G, {G}`
abbrev pub a_holds : Declarations
a_holds = a_program_clause (record { predicate = codes "a"; variables = []; names = []; arguments = no_terms; body = spine (logical truth) no_terms }) ∷ with_member

abbrev pub of_nothing : Read → Read
of_nothing G = judged (const_of (codes "nil")) G

abbrev pub some_goal : Read
some_goal = spine (logical (existential o)) (terms_of (lam o (codes "G") (of_nothing (bound 0)) ∷ []))

-- `false`
abbrev pub never : Read
never = spine (logical falsity) no_terms

-- `CoDefine eqs : str -> str -> prop by eqs (cons N S) (cons N T) := eqs S T`; `eqs S S +` is assumed, and `eqs S S #` is asked
-- for, or `eqs S S +`
abbrev pub str : Ty
str = kind (codes "str")

abbrev pub related : Read → Read → Read
related t u = spine (constant (codes "eqs")) (terms_of (t ∷ u ∷ []))

abbrev pub joined : Read → Read → Read
joined n t = spine (constant (codes "cons")) (terms_of (n ∷ t ∷ []))

abbrev pub equal_streams : Declarations
equal_streams =
    a_block (record {
      inductive = false;
      predicates = codes "eqs" ∷ [];
      clauses = record {
        predicate = codes "eqs";
        variables = record { hint = codes "N"; type = i } ∷ record { hint = codes "S"; type = str } ∷ record { hint = codes "T"; type = str } ∷ [];
        names = [];
        arguments = terms_of (joined (clause_variable 0 i) (clause_variable 1 str) ∷ joined (clause_variable 0 i) (clause_variable 2 str) ∷ []);
        body = related (clause_variable 1 str) (clause_variable 2 str);
      } ∷ [];
    }) ∷ []

abbrev pub to_itself : Read
to_itself = let S = spine (variable (record { name = 0; type = str })) no_terms in related S S

abbrev pub smaller : Read
smaller = spine (logical (plus 1)) (terms_of (to_itself ∷ []))

abbrev pub asked_of_smaller : Read → Sequent
asked_of_smaller F = record {
  variables = record { number = 0; type = str; name = codes "S" } ∷ [];
  hypotheses = record { name = codes "H2"; formula = smaller } ∷ [];
  conclusion = F;
  counter = 2;
}

abbrev pub as_large : Read
as_large = spine (logical (hash 1)) (terms_of (to_itself ∷ []))

abbrev pub stream_cells : List (Cell (List ℕ))
stream_cells = record { hint = codes "S"; type = str } ∷ []
