-- THE PARTS OF A FORMULA: what stands under its outermost conjunctions.
use Rattle.std.specs.Prelude.{List, [], ◌∷◌, ◌++◌, length, drop}
use Rattle.ab_term.specs.Logical.{conjunction}
use Rattle.ab_term.specs.Terms.{logical, spine, no_terms, term, Read}

-- the parts, which are no conjunctions, in order
abbrev pub conjuncts : Read → List Read
conjuncts (spine (logical conjunction) (term A (term B no_terms))) = conjuncts A ++ conjuncts B
conjuncts F = F ∷ []

-- THE FORMULA WITH OTHER PARTS, in order
abbrev pub with_parts : List Read → Read → Read
with_parts Gs (spine (logical conjunction) (term A (term B no_terms))) =
    spine (logical conjunction) (term (with_parts Gs A) (term (with_parts (drop (length (conjuncts A)) Gs) B) no_terms))
with_parts (G ∷ Gs) F = G
with_parts [] F = F
