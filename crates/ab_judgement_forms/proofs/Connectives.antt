-- Goals opened and formulas taken apart, by the outermost connective.
use Rattle.std.proofs.Common.{◌≡◌, ◌≢◌, zero, List, [], ◌∷◌, ◌++◌, map, length, refl}
use Rattle.ab_term.specs.Types.{Ty}
use Rattle.ab_term.specs.Logical.{truth, falsity, conjunction, disjunction, implication, equality, universal, existential, nabla, judgement, focused_judgement, star, at_sign, plus, hash, spec_universal, spec_implication, spec_conjunction}
use Rattle.ab_term.specs.Terms.{constant, nominal, variable, index, logical, lam, spine, no_terms, term, terms_of, Read}
use Rattle.ab_term.specs.Substitution.{shift}
use Rattle.ab_unifiers.specs.Member.{before}
use Rattle.ab_formulas.specs.Marks.{Sign}
use Rattle.ab_theory.specs.Judgements.{marked_judgement}
use Rattle.ab_theory.specs.Opening.{both, open_goal}
use Rattle.ab_theory.specs.Parts.{Part, under_name, with_goal, parts_of}
use Rattle.ab_judgement_forms.specs.Shapes.{Shape, for_names, behind, together, other, shape_by, shape_of}

abbrev pub opened_by : Sign → Read → Read → Shape → Read
opened_by m L F (for_names A (lam B x G)) = spine (logical (nabla A)) (term (lam A x (open_goal m (shift zero L) G)) no_terms)
opened_by m L F (behind G H) = open_goal m (before G L) H
opened_by m L F (together G H) = both (open_goal m L G) (open_goal m L H)
opened_by m L F _ = marked_judgement m L F

abbrev pub atom_alone : Read → Part
atom_alone A = record { names = []; goals = []; atom = A }

abbrev pub parts_by : Read → Shape → List Part
parts_by F (for_names A (lam B x G)) = map (under_name (record { hint = x; type = A })) (parts_of G)
parts_by F (behind G H) = map (with_goal G) (parts_of H)
parts_by F (together G H) = parts_of G ++ parts_of H
parts_by F _ = atom_alone F ∷ []

pub record Seen (F : Read) : Type 0 where
  pub opened : (m : Sign) (L : Read) → open_goal m L F ≡ opened_by m L F (shape_of F)
  pub parts : parts_of F ≡ parts_by F (shape_of F)

pub seen : (F : Read) → Seen F
seen (lam A x t) = record { opened = λ m L. refl; parts = refl }
seen (spine (constant c) ts) = record { opened = λ m L. refl; parts = refl }
seen (spine (nominal a) ts) = record { opened = λ m L. refl; parts = refl }
seen (spine (variable v) ts) = record { opened = λ m L. refl; parts = refl }
seen (spine (index i) ts) = record { opened = λ m L. refl; parts = refl }
seen (spine (logical truth) ts) = record { opened = λ m L. refl; parts = refl }
seen (spine (logical falsity) ts) = record { opened = λ m L. refl; parts = refl }
seen (spine (logical conjunction) ts) = record { opened = λ m L. refl; parts = refl }
seen (spine (logical disjunction) ts) = record { opened = λ m L. refl; parts = refl }
seen (spine (logical implication) ts) = record { opened = λ m L. refl; parts = refl }
seen (spine (logical (equality A)) ts) = record { opened = λ m L. refl; parts = refl }
seen (spine (logical (universal A)) ts) = record { opened = λ m L. refl; parts = refl }
seen (spine (logical (existential A)) ts) = record { opened = λ m L. refl; parts = refl }
seen (spine (logical (nabla A)) ts) = record { opened = λ m L. refl; parts = refl }
seen (spine (logical judgement) ts) = record { opened = λ m L. refl; parts = refl }
seen (spine (logical focused_judgement) ts) = record { opened = λ m L. refl; parts = refl }
seen (spine (logical (star i)) ts) = record { opened = λ m L. refl; parts = refl }
seen (spine (logical (at_sign i)) ts) = record { opened = λ m L. refl; parts = refl }
seen (spine (logical (plus i)) ts) = record { opened = λ m L. refl; parts = refl }
seen (spine (logical (hash i)) ts) = record { opened = λ m L. refl; parts = refl }
seen (spine (logical (spec_universal A)) no_terms) = record { opened = λ m L. refl; parts = refl }
seen (spine (logical (spec_universal A)) (term (lam B x t) no_terms)) = record { opened = λ m L. refl; parts = refl }
seen (spine (logical (spec_universal A)) (term (spine h us) no_terms)) = record { opened = λ m L. refl; parts = refl }
seen (spine (logical (spec_universal A)) (term (lam B x t) (term u us))) = record { opened = λ m L. refl; parts = refl }
seen (spine (logical (spec_universal A)) (term (spine h ts) (term u us))) = record { opened = λ m L. refl; parts = refl }
seen (spine (logical spec_implication) no_terms) = record { opened = λ m L. refl; parts = refl }
seen (spine (logical spec_implication) (term t no_terms)) = record { opened = λ m L. refl; parts = refl }
seen (spine (logical spec_implication) (term t (term u no_terms))) = record { opened = λ m L. refl; parts = refl }
seen (spine (logical spec_implication) (term t (term u (term v us)))) = record { opened = λ m L. refl; parts = refl }
seen (spine (logical spec_conjunction) no_terms) = record { opened = λ m L. refl; parts = refl }
seen (spine (logical spec_conjunction) (term t no_terms)) = record { opened = λ m L. refl; parts = refl }
seen (spine (logical spec_conjunction) (term t (term u no_terms))) = record { opened = λ m L. refl; parts = refl }
seen (spine (logical spec_conjunction) (term t (term u (term v us)))) = record { opened = λ m L. refl; parts = refl }

module _ {X : Type 0} (f : X → Read) where
  pub not_one : (A : Ty) (ts : List X) → length ts ≢ 1 → shape_by (spec_universal A) (terms_of (map f ts)) ≡ other
  not_one A [] e = refl
  not_one A (t ∷ []) e = absurd (e refl)
  not_one A (t ∷ u ∷ ts) e = refl

  pub not_two : (ts : List X) → length ts ≢ 2 → (shape_by spec_implication (terms_of (map f ts)) ≡ other) × (shape_by spec_conjunction (terms_of (map f ts)) ≡ other)
  not_two [] e = (refl, refl)
  not_two (t ∷ []) e = (refl, refl)
  not_two (t ∷ u ∷ []) e = absurd (e refl)
  not_two (t ∷ u ∷ v ∷ ts) e = (refl, refl)
