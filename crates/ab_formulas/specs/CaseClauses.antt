-- The clause of case analysis that a kept one is: its variables are numbered from 0 on, and the names of its head's
-- prefix behind them. Binders that expansion brings in have the hint x.
use Rattle.std.specs.Prelude.{ℕ, List, map, length, codes}
use Rattle.ab_term.specs.Terms.{Variable}
use Rattle.ab_term.specs.Variables.{image}
use Rattle.ab_term.specs.Typing.{Signature}
use Rattle.ab_term.specs.Sameness.{same_number}
use Rattle.ab_unifiers.specs.Replacements.{Cell}
use Rattle.ab_unifiers.specs.Clauses as cases
use Rattle.ab_unifiers.specs.Clauses.{numbered, put_together}
use Rattle.ab_unifiers.specs.Prefixes.{prefix, opened, predicate_of, arguments_of, own_terms, IsKept}
use Rattle.ab_formulas.specs.Clauses.{ClauseVariable, Clause}

abbrev pub in_terms : ClauseVariable → Variable ℕ
in_terms v = record { name = v.number; type = v.type }

abbrev pub cell_of : ClauseVariable → Cell (List ℕ)
cell_of v = record { hint = v.hint; type = v.type }

-- THE CLAUSE that is kept so
abbrev pub case_of : Clause → cases.Clause (List ℕ)
case_of c =
    let x = codes "x" in
    let own = map cell_of c.variables in
    let to_own = put_together (map in_terms c.variables) (own_terms x (numbered 0 own)) in
    let names = prefix c.head in
    let atom = opened (image same_number to_own c.head) (own_terms x (numbered (length own) names)) in
    record { variables = own; names = names; predicate = predicate_of atom; arguments = arguments_of atom; body = image same_number to_own c.body }

-- what is kept: different variables; head and body are formulas over them, without nominal constants
abbrev pub IsWellKept : Signature → Clause → Type 0
IsWellKept sg c = IsKept sg (map in_terms c.variables) c.head c.body
