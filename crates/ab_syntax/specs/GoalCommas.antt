-- What is kept where the tokens of a clause are seen one by one, and how those to come are seen. No public contract speaks of it.
use Rattle.std.specs.Prelude.{List, ◌∷◌, Bool, true, false, if◌then◌else◌}
use Rattle.ab_grammar.specs.Token.{Token}
use Rattle.ab_grammar.specs.FileTokens as file
use Rattle.ab_grammar.specs.FileTokens.{goal_tokens, clause_tokens}
use Rattle.ab_syntax.specs.declared.goal_commas.OpenBracket.{OpenBracket}
use Rattle.ab_syntax.specs.declared.goal_commas.ClausePart.{ClausePart}
use Rattle.ab_expressions.specs.ReaderSteps.{stack}

abbrev pub open_of : OpenBracket → file.Open
open_of b = record { parenthesis = b.parenthesis; naming = b.naming }

-- the brackets that are open, the innermost first
abbrev pub brackets_of : ClausePart → List file.Open
brackets_of p = open_of p.inner ∷ stack open_of p.outer.items

-- the tokens to come, as they are seen: those of goals, or those of a head with what stands behind it
abbrev pub as_goals : Bool → List file.Open → List Token → List Token
as_goals true os ks = goal_tokens os ks
as_goals false os ks = clause_tokens ks

abbrev pub seen_behind : ClausePart → List Token → List Token
seen_behind p = as_goals p.goals (brackets_of p)
