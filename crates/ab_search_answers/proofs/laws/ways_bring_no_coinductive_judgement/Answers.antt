use Rattle.ab_search_answers.proofs.WaysUnmarked.{ways_unmarked}
use Rattle.ab_search_answers.proofs.laws.ways_bring_no_coinductive_judgement.Goals as goal

pub returns : goal.returns
returns c = λ D now g defs none formula unmarked w m h k. ways_unmarked D defs none now g formula.stands unmarked w m h k
