-- WHATEVER WAY the search goes on by is safe, since there is the evidence for clauses and for rules.
use Rattle.ab_unifiers.specs.Member.{HasMember}
use Rattle.ab_formulas.specs.Declarations.{Declarations, signature_in, HaveDefinitions}
use Rattle.ab_formulas.specs.Programs.{HavePrograms}
use Rattle.ab_search_answers.specs.Unmarked.{HaveNoHash}
use Rattle.ab_search_answers.proofs.ByClauses.{clause_evidence}
use Rattle.ab_search_answers.proofs.ByRules.{rule_evidence}
use Rattle.ab_search_answers.proofs.Reached.{KindsSafe}
use Rattle.ab_search_answers.proofs.SafeRest.{way_safe}

pub all_safe : (D : Declarations) → HaveDefinitions D → HavePrograms D → HasMember (signature_in D) → HaveNoHash D → KindsSafe D
all_safe D defs program has none now S g ys f t k r w among fine taking goes = way_safe D defs program has none (clause_evidence D defs) (rule_evidence D program has) now S f g ys t k r w among fine goes
