-- What stands in front of a formula's result, by what is taken off it next.
use Rattle.std.proofs.Common.{◌≡◌, ◌≢◌, ℕ, zero, suc, List, [], ◌∷◌, refl, sym, ap, ◌∙◌}
use Rattle.ab_term.specs.Types.{Ty}
use Rattle.ab_term.specs.Logical.{truth, falsity, conjunction, disjunction, implication, equality, universal, existential, nabla, judgement, focused_judgement, star, at_sign, plus, hash, spec_universal, spec_implication, spec_conjunction}
use Rattle.ab_term.specs.Terms.{constant, nominal, variable, index, logical, lam, spine, Terms, no_terms, term, Read}
use Rattle.ab_theory.specs.Pieces.{Piece, universal_of, nabla_of, antecedent_of, pieces, behind, antecedent_count}
use Rattle.ab_uses.specs.Layers.{Layer, for_all, nabla_over, implies, last, layer_of}

abbrev pub count_by : Layer → ℕ
count_by (for_all x A t) = antecedent_count t
count_by (nabla_over A t) = antecedent_count t
count_by (implies A B) = suc (antecedent_count B)
count_by last = 0

abbrev pub pieces_by : ℕ → Layer → List Piece
pieces_by n (for_all x A t) = universal_of x A ∷ pieces n t
pieces_by n (nabla_over A t) = nabla_of A ∷ pieces n t
pieces_by zero (implies A B) = []
pieces_by (suc zero) (implies A B) = antecedent_of A ∷ []
pieces_by (suc (suc n)) (implies A B) = antecedent_of A ∷ pieces (suc n) B
pieces_by n last = []

abbrev pub behind_by : ℕ → Read → Layer → Read
behind_by n F (for_all x A t) = behind n t
behind_by n F (nabla_over A t) = behind n t
behind_by zero F (implies A B) = F
behind_by (suc zero) F (implies A B) = B
behind_by (suc (suc n)) F (implies A B) = behind (suc n) B
behind_by n F last = F

pub record Layered (F : Read) : Type 0 where
  pub count_is : antecedent_count F ≡ count_by (layer_of F)
  pub pieces_is : (n : ℕ) → pieces n F ≡ pieces_by n (layer_of F)
  pub behind_is : (n : ℕ) → behind n F ≡ behind_by n F (layer_of F)

pieces_implied : (A B : Read) (n : ℕ) → pieces n (spine (logical implication) (term A (term B no_terms))) ≡ pieces_by n (implies A B)
pieces_implied A B zero = refl
pieces_implied A B (suc zero) = refl
pieces_implied A B (suc (suc n)) = refl

behind_implied : (A B : Read) (n : ℕ) → behind n (spine (logical implication) (term A (term B no_terms))) ≡ behind_by n (spine (logical implication) (term A (term B no_terms))) (implies A B)
behind_implied A B zero = refl
behind_implied A B (suc zero) = refl
behind_implied A B (suc (suc n)) = refl

pieces_alone : (n : ℕ) → pieces n (spine (logical implication) no_terms) ≡ []
pieces_alone zero = refl
pieces_alone (suc zero) = refl
pieces_alone (suc (suc n)) = refl

behind_alone : (n : ℕ) → behind n (spine (logical implication) no_terms) ≡ spine (logical implication) no_terms
behind_alone zero = refl
behind_alone (suc zero) = refl
behind_alone (suc (suc n)) = refl

pieces_half : (t : Read) (n : ℕ) → pieces n (spine (logical implication) (term t no_terms)) ≡ []
pieces_half t zero = refl
pieces_half t (suc zero) = refl
pieces_half t (suc (suc n)) = refl

behind_half : (t : Read) (n : ℕ) → behind n (spine (logical implication) (term t no_terms)) ≡ spine (logical implication) (term t no_terms)
behind_half t zero = refl
behind_half t (suc zero) = refl
behind_half t (suc (suc n)) = refl

pieces_many : (t u v : Read) (us : Terms ℕ (List ℕ)) (n : ℕ) → pieces n (spine (logical implication) (term t (term u (term v us)))) ≡ []
pieces_many t u v us zero = refl
pieces_many t u v us (suc zero) = refl
pieces_many t u v us (suc (suc n)) = refl

behind_many : (t u v : Read) (us : Terms ℕ (List ℕ)) (n : ℕ) → behind n (spine (logical implication) (term t (term u (term v us)))) ≡ spine (logical implication) (term t (term u (term v us)))
behind_many t u v us zero = refl
behind_many t u v us (suc zero) = refl
behind_many t u v us (suc (suc n)) = refl

pub layered : (F : Read) → Layered F
layered (lam A x t) = record { count_is = refl; pieces_is = λ n. refl; behind_is = λ n. refl }
layered (spine (constant c) ts) = record { count_is = refl; pieces_is = λ n. refl; behind_is = λ n. refl }
layered (spine (nominal a) ts) = record { count_is = refl; pieces_is = λ n. refl; behind_is = λ n. refl }
layered (spine (variable v) ts) = record { count_is = refl; pieces_is = λ n. refl; behind_is = λ n. refl }
layered (spine (index i) ts) = record { count_is = refl; pieces_is = λ n. refl; behind_is = λ n. refl }
layered (spine (logical truth) ts) = record { count_is = refl; pieces_is = λ n. refl; behind_is = λ n. refl }
layered (spine (logical falsity) ts) = record { count_is = refl; pieces_is = λ n. refl; behind_is = λ n. refl }
layered (spine (logical conjunction) ts) = record { count_is = refl; pieces_is = λ n. refl; behind_is = λ n. refl }
layered (spine (logical disjunction) ts) = record { count_is = refl; pieces_is = λ n. refl; behind_is = λ n. refl }
layered (spine (logical (equality A)) ts) = record { count_is = refl; pieces_is = λ n. refl; behind_is = λ n. refl }
layered (spine (logical (existential A)) ts) = record { count_is = refl; pieces_is = λ n. refl; behind_is = λ n. refl }
layered (spine (logical judgement) ts) = record { count_is = refl; pieces_is = λ n. refl; behind_is = λ n. refl }
layered (spine (logical focused_judgement) ts) = record { count_is = refl; pieces_is = λ n. refl; behind_is = λ n. refl }
layered (spine (logical (star i)) ts) = record { count_is = refl; pieces_is = λ n. refl; behind_is = λ n. refl }
layered (spine (logical (at_sign i)) ts) = record { count_is = refl; pieces_is = λ n. refl; behind_is = λ n. refl }
layered (spine (logical (plus i)) ts) = record { count_is = refl; pieces_is = λ n. refl; behind_is = λ n. refl }
layered (spine (logical (hash i)) ts) = record { count_is = refl; pieces_is = λ n. refl; behind_is = λ n. refl }
layered (spine (logical (spec_universal A)) ts) = record { count_is = refl; pieces_is = λ n. refl; behind_is = λ n. refl }
layered (spine (logical spec_implication) ts) = record { count_is = refl; pieces_is = λ n. refl; behind_is = λ n. refl }
layered (spine (logical spec_conjunction) ts) = record { count_is = refl; pieces_is = λ n. refl; behind_is = λ n. refl }
layered (spine (logical (universal A)) no_terms) = record { count_is = refl; pieces_is = λ n. refl; behind_is = λ n. refl }
layered (spine (logical (universal A)) (term (lam B x t) no_terms)) = record { count_is = refl; pieces_is = λ n. refl; behind_is = λ n. refl }
layered (spine (logical (universal A)) (term (spine h us) no_terms)) = record { count_is = refl; pieces_is = λ n. refl; behind_is = λ n. refl }
layered (spine (logical (universal A)) (term (lam B x t) (term u us))) = record { count_is = refl; pieces_is = λ n. refl; behind_is = λ n. refl }
layered (spine (logical (universal A)) (term (spine h ts) (term u us))) = record { count_is = refl; pieces_is = λ n. refl; behind_is = λ n. refl }
layered (spine (logical (nabla A)) no_terms) = record { count_is = refl; pieces_is = λ n. refl; behind_is = λ n. refl }
layered (spine (logical (nabla A)) (term (lam B x t) no_terms)) = record { count_is = refl; pieces_is = λ n. refl; behind_is = λ n. refl }
layered (spine (logical (nabla A)) (term (spine h us) no_terms)) = record { count_is = refl; pieces_is = λ n. refl; behind_is = λ n. refl }
layered (spine (logical (nabla A)) (term (lam B x t) (term u us))) = record { count_is = refl; pieces_is = λ n. refl; behind_is = λ n. refl }
layered (spine (logical (nabla A)) (term (spine h ts) (term u us))) = record { count_is = refl; pieces_is = λ n. refl; behind_is = λ n. refl }
layered (spine (logical implication) no_terms) = record { count_is = refl; pieces_is = pieces_alone; behind_is = behind_alone }
layered (spine (logical implication) (term t no_terms)) = record { count_is = refl; pieces_is = pieces_half t; behind_is = behind_half t }
layered (spine (logical implication) (term A (term B no_terms))) = record { count_is = refl; pieces_is = pieces_implied A B; behind_is = behind_implied A B }
layered (spine (logical implication) (term t (term u (term v us)))) = record { count_is = refl; pieces_is = pieces_many t u v us; behind_is = behind_many t u v us }

-- one layer
module _ (F : Read) where
  pub count_under : (x : List ℕ) (A : Ty) (t : Read) → for_all x A t ≡ layer_of F → antecedent_count F ≡ antecedent_count t
  count_under x A t e = (layered F).count_is ∙ ap count_by (sym e)

  pub count_within : (A : Ty) (t : Read) → nabla_over A t ≡ layer_of F → antecedent_count F ≡ antecedent_count t
  count_within A t e = (layered F).count_is ∙ ap count_by (sym e)

  pub count_implied : (A B : Read) → implies A B ≡ layer_of F → antecedent_count F ≡ suc (antecedent_count B)
  count_implied A B e = (layered F).count_is ∙ ap count_by (sym e)

  pub count_last : last ≡ layer_of F → antecedent_count F ≡ 0
  count_last e = (layered F).count_is ∙ ap count_by (sym e)

  pub pieces_under : (n : ℕ) (x : List ℕ) (A : Ty) (t : Read) → for_all x A t ≡ layer_of F → pieces n F ≡ universal_of x A ∷ pieces n t
  pieces_under n x A t e = (layered F).pieces_is n ∙ ap (pieces_by n) (sym e)

  pub pieces_within : (n : ℕ) (A : Ty) (t : Read) → nabla_over A t ≡ layer_of F → pieces n F ≡ nabla_of A ∷ pieces n t
  pieces_within n A t e = (layered F).pieces_is n ∙ ap (pieces_by n) (sym e)

  pub pieces_none : (A B : Read) → implies A B ≡ layer_of F → pieces 0 F ≡ []
  pieces_none A B e = (layered F).pieces_is 0 ∙ ap (pieces_by 0) (sym e)

  pub pieces_one : (A B : Read) → implies A B ≡ layer_of F → pieces 1 F ≡ antecedent_of A ∷ []
  pieces_one A B e = (layered F).pieces_is 1 ∙ ap (pieces_by 1) (sym e)

  pub pieces_more : (n m : ℕ) (A B : Read) → implies A B ≡ layer_of F → n ≡ suc m → m ≢ 0 → pieces n F ≡ antecedent_of A ∷ pieces m B
  pieces_more n zero A B e is other = absurd (other refl)
  pieces_more n (suc m) A B e is other = ap (λ k. pieces k F) is ∙ (layered F).pieces_is (suc (suc m)) ∙ ap (pieces_by (suc (suc m))) (sym e)

  pub pieces_last : (n : ℕ) → last ≡ layer_of F → pieces n F ≡ []
  pieces_last n e = (layered F).pieces_is n ∙ ap (pieces_by n) (sym e)

  pub behind_under : (n : ℕ) (x : List ℕ) (A : Ty) (t : Read) → for_all x A t ≡ layer_of F → behind n F ≡ behind n t
  behind_under n x A t e = (layered F).behind_is n ∙ ap (behind_by n F) (sym e)

  pub behind_within : (n : ℕ) (A : Ty) (t : Read) → nabla_over A t ≡ layer_of F → behind n F ≡ behind n t
  behind_within n A t e = (layered F).behind_is n ∙ ap (behind_by n F) (sym e)

  pub behind_none : (A B : Read) → implies A B ≡ layer_of F → behind 0 F ≡ F
  behind_none A B e = (layered F).behind_is 0 ∙ ap (behind_by 0 F) (sym e)

  pub behind_one : (A B : Read) → implies A B ≡ layer_of F → behind 1 F ≡ B
  behind_one A B e = (layered F).behind_is 1 ∙ ap (behind_by 1 F) (sym e)

  pub behind_more : (n m : ℕ) (A B : Read) → implies A B ≡ layer_of F → n ≡ suc m → m ≢ 0 → behind n F ≡ behind m B
  behind_more n zero A B e is other = absurd (other refl)
  behind_more n (suc m) A B e is other = ap (λ k. behind k F) is ∙ (layered F).behind_is (suc (suc m)) ∙ ap (behind_by (suc (suc m)) F) (sym e)

  pub behind_last : (n : ℕ) → last ≡ layer_of F → behind n F ≡ F
  behind_last n e = (layered F).behind_is n ∙ ap (behind_by n F) (sym e)
