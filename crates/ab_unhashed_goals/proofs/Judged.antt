-- TERMS FOR THE CONSTANTS OF A JUDGEMENT leave it one, without a mark.
use Rattle.std.proofs.Common.{ℕ, zero, suc, List, [], ◌∷◌, map, codes}
use Rattle.ab_term.specs.Types.{Ty, kind, arrow, prop}
use Rattle.ab_term.specs.Logical.{judgement}
use Rattle.ab_term.specs.Terms.{Nominal, Terms, nominal, logical, lam, spine, Read}
use Rattle.ab_term.specs.Abstraction.{over, close, abstracted}
use Rattle.ab_term.specs.Substitution.{shift, substitute_by, reduce, instance, instance_by_all}
use Rattle.ab_formulas.specs.Marks.{plain}
use Rattle.ab_theory.specs.Contexts.{replace_constants}
use Rattle.ab_theory.specs.Judgements.{marked_judgement}
use Rattle.ab_search_answers.specs.Unmarked.{HasNoHash}

-- a judgement without a focus and without a mark, under any names
abbrev IsJudged : Read → Type 0
IsJudged (lam A x t) = IsJudged t
IsJudged (spine (logical judgement) ts) = Unit {0}
IsJudged (spine h ts) = ⊥

judged_none : (t : Read) → IsJudged t → HasNoHash t
judged_none (lam A x t) is = judged_none t is
judged_none (spine (logical judgement) ts) is = tt
judged_none (spine h ts) is = absurd is

closed_judged : (k : ℕ) (a : Nominal) (t : Read) → IsJudged t → IsJudged (close k (nominal a) t)
closed_judged k a (lam A x t) is = closed_judged (suc k) a t is
closed_judged k a (spine (logical judgement) ts) is = tt
closed_judged k a (spine h ts) is = absurd is

abstracted_judged : (A : Ty) (names : List Nominal) (t : Read) → IsJudged t → IsJudged (abstracted (codes "x") A (map nominal names) t)
abstracted_judged A [] t is = is
abstracted_judged (kind k) (a ∷ names) t is = is
abstracted_judged (arrow A B) (a ∷ names) t is = closed_judged zero a (abstracted (codes "x") B (map nominal names) t) (abstracted_judged B names t is)

put_judged : (apply : Read → Terms ℕ (List ℕ) → Read) (u : Read) (k : ℕ) (t : Read) → IsJudged t → IsJudged (substitute_by apply u k t)
put_judged apply u k (lam A x t) is = put_judged apply (shift zero u) (suc k) t is
put_judged apply u k (spine (logical judgement) ts) is = tt
put_judged apply u k (spine h ts) is = absurd is

instance_judged : (t u : Read) → IsJudged t → IsJudged (instance t u)
instance_judged (lam A x t) u is = put_judged (reduce A) u zero t is
instance_judged (spine h ts) u is = is

instances_judged : (us : List Read) (t : Read) → IsJudged t → IsJudged (instance_by_all t us)
instances_judged [] t is = is
instances_judged (u ∷ us) t is = instances_judged us (instance t u) (instance_judged t u is)

pub replaced_none : (rs : List (Nominal × Read)) (L G : Read) → HasNoHash (replace_constants rs (marked_judgement plain L G))
replaced_none rs L G =
    let names = map (λ (r : Nominal × Read). r.0) rs in
    let J = marked_judgement plain L G in
    judged_none (replace_constants rs J) (instances_judged (map (λ (r : Nominal × Read). r.1) rs) (abstracted (codes "x") (over names prop) (map nominal names) J) (abstracted_judged (over names prop) names J tt))
