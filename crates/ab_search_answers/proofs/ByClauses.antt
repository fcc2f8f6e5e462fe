-- THE EVIDENCE FOR CLAUSES is there: a clause on the path of an answer is solved wherever its atom comes to stand.
use Rattle.std.proofs.Common.{◌∙◌, sym}
use Rattle.ab_term.specs.Variables.{image}
use Rattle.ab_term.specs.Sameness.{same_number}
use Rattle.ab_term.proofs.Lists.{Contains-from_map}
use Rattle.ab_formulas.specs.Declarations.{Declarations, HaveDefinitions}
use Rattle.ab_search_trees.specs.Goals.{Goal}
use Rattle.ab_search_trees.specs.Ways.{by_choice}
use Rattle.ab_search_clauses.proofs.OnPath.{gives, leaves}
use Rattle.ab_search_answers.specs.Followed.{in_the_end}
use Rattle.ab_search_answers.proofs.Below.{ClauseEvidence}

pub clause_evidence : (D : Declarations) → HaveDefinitions D → ClauseEvidence D
clause_evidence D defs now last g depth d c ys more q n is may there taken =
    let r = in_the_end last q n in
    let place = taken.place in
    let below = taken.below in
    let left = leaves D defs now last g depth d c ys more q n place.flexible place.task place.branch is there taken.solved below.later below.held taken.known in
    record {
      by = gives D defs now last g depth d c ys more q n place.flexible place.task place.branch is there taken.solved below.later below.held taken.known may;
      body = λ F m. (let from = Contains-from_map (λ (h : Goal). image same_number r h.conclusion) (by_choice D now g depth d c).goals F m in sym from.2 ∙ left from.0 from.1);
    }
