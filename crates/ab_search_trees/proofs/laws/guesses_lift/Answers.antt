use Rattle.ab_search_trees.proofs.Lifts.{guess_not_apart, guess_lifts}
use Rattle.ab_search_trees.proofs.laws.guesses_lift.Goals as goal

pub returns-clause-apart : goal.returns-clause-apart
returns-clause-apart g c = λ sg x es cells ys f d k y o i m p. guess_not_apart sg x es cells ys d k y o f i m p

pub returns-clause-unified : goal.returns-clause-unified
returns-clause-unified g c = λ sg x es cells more ys q f d k y o i m p. guess_lifts sg x es cells ys d k y o f i m more q p
