use Rattle.std.specs.Option.{option_map}
use Rattle.std.specs.Prelude.{nat_eq, if◌then◌else◌}
use Rattle.std.proofs.Common.{◌≡◌, List, [], ◌∷◌, map, length, Option, Some, None, refl, sym, ap, arith}
use Rattle.std.proofs.lemmas.Bool.{ne_eqb}
use Rattle.ab_term.specs.Logical.{judgement, focused_judgement}
use Rattle.ab_term.specs.Terms.{logical, spine, terms_of, Read}
use Rattle.ab_norm.specs.ab_store.specs.declared.node.TermId.{TermId}
use Rattle.ab_formulas.specs.Marks.{Sign}
use Rattle.ab_theory.specs.Judgements.{Judgement, judgement_as}
use Rattle.ab_sequents.proofs.places.judges.Goals as goal

module _ (f : TermId → Read) (m : Sign) where
  of_two : (ts : List TermId) → option_map (λ (i : Judgement). i.sign) (judgement_as m (spine (logical judgement) (terms_of (map f ts)))) ≡ (if nat_eq (length ts) 2 then Some m else None)
  of_two [] = refl
  of_two (t ∷ []) = refl
  of_two (t ∷ u ∷ []) = refl
  of_two (t ∷ u ∷ v ∷ ts) = sym (ap (λ b. if b then Some m else None) (ne_eqb (length (t ∷ u ∷ v ∷ ts)) 2 (λ e. absurd (omega (arith, e)))))

  of_three : (ts : List TermId) → option_map (λ (i : Judgement). i.sign) (judgement_as m (spine (logical focused_judgement) (terms_of (map f ts)))) ≡ (if nat_eq (length ts) 3 then Some m else None)
  of_three [] = refl
  of_three (t ∷ []) = refl
  of_three (t ∷ u ∷ []) = refl
  of_three (t ∷ u ∷ v ∷ []) = refl
  of_three (t ∷ u ∷ v ∷ w ∷ ts) = sym (ap (λ b. if b then Some m else None) (ne_eqb (length (t ∷ u ∷ v ∷ w ∷ ts)) 3 (λ e. absurd (omega (arith, e)))))

pub returns-in-Judge : goal.returns-in-Judge
returns-in-Judge c types f m = rw c.in-Judge.is (of_two f m c.args.args.now)

pub returns-in-Focus : goal.returns-in-Focus
returns-in-Focus c types f m = rw c.in-Focus.is (of_three f m c.args.args.now)
