-- How many antecedents are taken off.
use Rattle.std.proofs.Common.{◌≡◌, ℕ, zero, suc, ◌≤◌, List, [], ◌∷◌, map, length, Option, Some, None, refl, ◌∙◌, ap, arith}
use Rattle.ab_term.specs.Types.{Ty}
use Rattle.ab_term.specs.Logical.{universal, nabla, implication}
use Rattle.ab_term.specs.Terms.{Nominal, logical, lam, spine, no_terms, term, Read}
use Rattle.ab_theory.specs.Pieces.{Given, given_for, given_otherwise, Part, part_for, variable_for, given_term, constant_for, antecedent, pieces, parts, antecedent_count}
use Rattle.ab_theory.specs.Uses.{used, types_chosen, with_term, right_side}
use Rattle.ab_consequences.specs.UsesFollow.{antecedents_among}
use Rattle.ab_consequences.proofs.UseStages.{types_of, rest_same, none_same}

-- a use has as many as its parts
pub used_count : (held : List Nominal) (n : ℕ) (ps : List Part) (names : List Nominal) (F : Read) → types_of names ≡ types_chosen ps → length (used held n ps names F).antecedents ≡ antecedents_among ps
used_count held n [] names F types = refl
used_count held n (variable_for x A ∷ ps) names F types = used_count held (suc n) ps names _ types
used_count held n (given_term t ∷ ps) names F types = used_count held n ps names _ types
used_count held n (constant_for A ∷ ps) [] F types = absurd (none_same types)
used_count held n (constant_for A ∷ ps) (a ∷ names) F types = used_count held n ps names _ (rest_same types)
used_count held n (antecedent ∷ ps) names F types = ap suc (used_count held n ps names _ types)

none_more : (n : ℕ) → n ≤ 0 → 0 ≡ n
none_more n l = omega (arith, l)

one_less : (n m : ℕ) → suc (suc n) ≤ suc m → suc n ≤ m
one_less n m l = omega (arith, l)

through : (x : List ℕ) (A : Ty) (o : Option Read) (qs : List Part) → antecedents_among (part_for x A o ∷ qs) ≡ antecedents_among qs
through x A None qs = refl
through x A (Some t) qs = refl

-- a formula that has so many has as many parts
pub parts_count : (n : ℕ) (F : Read) (gs : List Given) → n ≤ antecedent_count F → antecedents_among (parts gs (pieces n F)) ≡ n
parts_count n (spine (logical (universal A)) (term (lam B x t) no_terms)) gs l = through x A (given_for x gs) (parts (given_otherwise x gs) (pieces n t)) ∙ parts_count n t (given_otherwise x gs) l
parts_count n (spine (logical (nabla A)) (term (lam B x t) no_terms)) gs l = parts_count n t gs l
parts_count zero (spine (logical implication) (term A (term B no_terms))) gs l = refl
parts_count (suc zero) (spine (logical implication) (term A (term B no_terms))) gs l = refl
parts_count (suc (suc n)) (spine (logical implication) (term A (term B no_terms))) gs l = ap suc (parts_count (suc n) B gs (one_less n (antecedent_count B) l))
parts_count n _ gs l = none_more n l
