-- The marks of a formula serve itself.
use Rattle.std.proofs.Common.{refl}
use Rattle.ab_term.specs.Terms.{Read}
use Rattle.ab_formulas.specs.Marks.{Sign, plain, star_of, at_of, plus_of, hash_of, Serves, Marks, nowhere, at_atom, at_judgement, below, in_both, marks_of, Agree, MarksServe, MarksServeIn}

serves : (m : Sign) → Serves m m
serves plain = tt
serves (star_of i) = refl
serves (at_of i) = refl
serves (plus_of i) = refl
serves (hash_of i) = refl

agrees : (a : Marks) → Agree a a
agrees nowhere = tt
agrees (at_atom m) = refl
agrees (at_judgement m) = refl
agrees (below a) = agrees a
agrees (in_both a b) = (agrees a, agrees b)

serves_all : (a : Marks) → MarksServe a a
serves_all nowhere = tt
serves_all (at_atom m) = serves m
serves_all (at_judgement m) = serves m
serves_all (below a) = agrees a
serves_all (in_both a b) = (agrees a, agrees b)

pub serves_itself : (F : Read) → MarksServeIn F F
serves_itself F = serves_all (marks_of F)
