use Rattle.ab_unifiers.proofs.Given.{apart_none, most_general}
use Rattle.ab_unifiers.proofs.Restricted.{restricted_general, image-restricted}
use Rattle.ab_unifiers.proofs.unification_laws.answers_are_most_general.Goals as goal

pub returns-clause-unified : goal.returns-clause-unified
returns-clause-unified g c = λ sg x es cells more ys s typed known over p u unifier. most_general sg x es cells ys typed known over u unifier more s p

pub returns-clause-apart : goal.returns-clause-apart
returns-clause-apart g c = λ sg x es cells ys typed known over p u unifier. apart_none sg x es cells ys typed known over u unifier p

pub returns-clause-most_general : goal.returns-clause-most_general
returns-clause-most_general g c = λ sg x es cells more ys s typed known over p. restricted_general sg x es cells ys typed known over more s p

pub returns-clause-restricted_alike : goal.returns-clause-restricted_alike
returns-clause-restricted_alike g c = λ sg x es cells more ys s typed known over p t o. image-restricted sg x es cells ys typed known over more s p t o
