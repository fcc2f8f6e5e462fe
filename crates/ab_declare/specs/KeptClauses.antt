-- How a clause is kept. Which variables stand in a term is said of normal forms.
use Rattle.std.specs.Prelude.{List, Bool, true, false, ◌&&◌, not, filter}
use Rattle.ab_unifiers.specs.Replacements.{occurs}
use Rattle.ab_term.specs.Terms.{Read}
use Rattle.ab_formulas.specs.Clauses.{ClauseVariable, Clause}
use Rattle.ab_formulas.specs.CaseClauses.{in_terms}
use Rattle.ab_declare.specs.Existentials.{exists_all}

-- the variable stands in the body, and not in the head
abbrev pub stands_in_body_alone : Read → Read → ClauseVariable → Bool
stands_in_body_alone head body v = occurs (in_terms v) body && not (occurs (in_terms v) head)

-- THE CLAUSE AS IT IS KEPT, where it is closed, and where it isn't: variables that stand in the body alone are closed by
-- `exists` there, and the others are the clause's, both in their order
abbrev pub kept_clause : Bool → List ClauseVariable → Read → Read → Clause
kept_clause false vs head body = record { variables = vs; head = head; body = body }
kept_clause true vs head body = record {
  variables = filter (λ v. not (stands_in_body_alone head body v)) vs;
  head = head;
  body = exists_all (filter (stands_in_body_alone head body) vs) body;
}
