-- What the functions on formulas do, by the outermost constant.
use Rattle.std.proofs.Common.{◌≡◌, ℕ, zero, suc, List, Option, Some, None, ◌≢◌, refl, sym, ap, subst, ◌∙◌}
use Rattle.ab_term.specs.Types.{Ty}
use Rattle.ab_term.specs.Terms as tree
use Rattle.ab_term.specs.Logical.{truth, falsity, conjunction, disjunction, implication, equality, universal, existential, nabla, judgement, focused_judgement, star, at_sign, plus, hash, spec_universal, spec_implication, spec_conjunction}
use Rattle.ab_term.specs.Terms.{constant, nominal, variable, index, logical, lam, spine, Terms, no_terms, term, Read}
use Rattle.ab_norm.specs.ab_types.specs.Entries.{Table}
use Rattle.ab_norm.specs.ab_store.specs.Trees.{Contents}
use Rattle.ab_norm.specs.ab_store.specs.declared.node.TermId.{TermId}
use Rattle.ab_norm.specs.ab_store.specs.declared.node.Head.{Head}
use Rattle.ab_sequents.specs.declared.formula_views.Outer.{Outer as KeptOuter}
use Rattle.ab_sequents.specs.declared.formula_views.Outer.TheVariants.{Under, Arrow, Other}
use Rattle.ab_theory.specs.Induction.{matrix, antecedent, consequent, in_matrix, in_antecedent, in_consequent}
use Rattle.ab_sequents.specs.SizeViews.{Outer, under, arrow, other, outer_of, outer_read, OfHead}

abbrev pub matrix_by : Read → Outer → Read
matrix_by F (under h (lam B x t)) = matrix t
matrix_by F _ = F

abbrev pub in_matrix_by : (Read → Read) → Read → Outer → Read
in_matrix_by f F (under h (lam B x t)) = spine h (term (lam B x (in_matrix f t)) no_terms)
in_matrix_by f F _ = f F

abbrev pub consequent_by : Read → Outer → Read
consequent_by F (arrow A B) = consequent B
consequent_by F _ = F

abbrev pub in_consequent_by : (Read → Read) → Read → Outer → Read
in_consequent_by f F (arrow A B) = spine (logical implication) (term A (term (in_consequent f B) no_terms))
in_consequent_by f F _ = f F

abbrev pub first_by : Outer → Option Read
first_by (arrow A B) = Some A
first_by _ = None

abbrev pub later_by : ℕ → Outer → Option Read
later_by n (arrow A B) = antecedent (suc n) B
later_by n _ = None

abbrev pub in_first_by : (Read → Read) → Read → Outer → Read
in_first_by f F (arrow A B) = spine (logical implication) (term (f A) (term B no_terms))
in_first_by f F _ = F

abbrev pub in_later_by : (Read → Read) → ℕ → Read → Outer → Read
in_later_by f n F (arrow A B) = spine (logical implication) (term A (term (in_antecedent f (suc n) B) no_terms))
in_later_by f n F _ = F

pub record Looks (F : Read) : Type 0 where
  pub matrix_is : matrix F ≡ matrix_by F (outer_of F)
  pub in_matrix_is : (f : Read → Read) → in_matrix f F ≡ in_matrix_by f F (outer_of F)
  pub consequent_is : consequent F ≡ consequent_by F (outer_of F)
  pub in_consequent_is : (f : Read → Read) → in_consequent f F ≡ in_consequent_by f F (outer_of F)
  pub first_is : antecedent (suc zero) F ≡ first_by (outer_of F)
  pub later_is : (n : ℕ) → antecedent (suc (suc n)) F ≡ later_by n (outer_of F)
  pub in_first_is : (f : Read → Read) → in_antecedent f (suc zero) F ≡ in_first_by f F (outer_of F)
  pub in_later_is : (f : Read → Read) (n : ℕ) → in_antecedent f (suc (suc n)) F ≡ in_later_by f n F (outer_of F)

pub looks : (F : Read) → Looks F
looks (lam A x t) = record { matrix_is = refl; in_matrix_is = λ f. refl; consequent_is = refl; in_consequent_is = λ f. refl; first_is = refl; later_is = λ n. refl; in_first_is = λ f. refl; in_later_is = λ f n. refl }
looks (spine (constant c) ts) = record { matrix_is = refl; in_matrix_is = λ f. refl; consequent_is = refl; in_consequent_is = λ f. refl; first_is = refl; later_is = λ n. refl; in_first_is = λ f. refl; in_later_is = λ f n. refl }
looks (spine (nominal a) ts) = record { matrix_is = refl; in_matrix_is = λ f. refl; consequent_is = refl; in_consequent_is = λ f. refl; first_is = refl; later_is = λ n. refl; in_first_is = λ f. refl; in_later_is = λ f n. refl }
looks (spine (variable v) ts) = record { matrix_is = refl; in_matrix_is = λ f. refl; consequent_is = refl; in_consequent_is = λ f. refl; first_is = refl; later_is = λ n. refl; in_first_is = λ f. refl; in_later_is = λ f n. refl }
looks (spine (index i) ts) = record { matrix_is = refl; in_matrix_is = λ f. refl; consequent_is = refl; in_consequent_is = λ f. refl; first_is = refl; later_is = λ n. refl; in_first_is = λ f. refl; in_later_is = λ f n. refl }
looks (spine (logical truth) ts) = record { matrix_is = refl; in_matrix_is = λ f. refl; consequent_is = refl; in_consequent_is = λ f. refl; first_is = refl; later_is = λ n. refl; in_first_is = λ f. refl; in_later_is = λ f n. refl }
looks (spine (logical falsity) ts) = record { matrix_is = refl; in_matrix_is = λ f. refl; consequent_is = refl; in_consequent_is = λ f. refl; first_is = refl; later_is = λ n. refl; in_first_is = λ f. refl; in_later_is = λ f n. refl }
looks (spine (logical conjunction) ts) = record { matrix_is = refl; in_matrix_is = λ f. refl; consequent_is = refl; in_consequent_is = λ f. refl; first_is = refl; later_is = λ n. refl; in_first_is = λ f. refl; in_later_is = λ f n. refl }
looks (spine (logical disjunction) ts) = record { matrix_is = refl; in_matrix_is = λ f. refl; consequent_is = refl; in_consequent_is = λ f. refl; first_is = refl; later_is = λ n. refl; in_first_is = λ f. refl; in_later_is = λ f n. refl }
looks (spine (logical (equality A)) ts) = record { matrix_is = refl; in_matrix_is = λ f. refl; consequent_is = refl; in_consequent_is = λ f. refl; first_is = refl; later_is = λ n. refl; in_first_is = λ f. refl; in_later_is = λ f n. refl }
looks (spine (logical (existential A)) ts) = record { matrix_is = refl; in_matrix_is = λ f. refl; consequent_is = refl; in_consequent_is = λ f. refl; first_is = refl; later_is = λ n. refl; in_first_is = λ f. refl; in_later_is = λ f n. refl }
looks (spine (logical judgement) ts) = record { matrix_is = refl; in_matrix_is = λ f. refl; consequent_is = refl; in_consequent_is = λ f. refl; first_is = refl; later_is = λ n. refl; in_first_is = λ f. refl; in_later_is = λ f n. refl }
looks (spine (logical focused_judgement) ts) = record { matrix_is = refl; in_matrix_is = λ f. refl; consequent_is = refl; in_consequent_is = λ f. refl; first_is = refl; later_is = λ n. refl; in_first_is = λ f. refl; in_later_is = λ f n. refl }
looks (spine (logical (star i)) ts) = record { matrix_is = refl; in_matrix_is = λ f. refl; consequent_is = refl; in_consequent_is = λ f. refl; first_is = refl; later_is = λ n. refl; in_first_is = λ f. refl; in_later_is = λ f n. refl }
looks (spine (logical (at_sign i)) ts) = record { matrix_is = refl; in_matrix_is = λ f. refl; consequent_is = refl; in_consequent_is = λ f. refl; first_is = refl; later_is = λ n. refl; in_first_is = λ f. refl; in_later_is = λ f n. refl }
looks (spine (logical (plus i)) ts) = record { matrix_is = refl; in_matrix_is = λ f. refl; consequent_is = refl; in_consequent_is = λ f. refl; first_is = refl; later_is = λ n. refl; in_first_is = λ f. refl; in_later_is = λ f n. refl }
looks (spine (logical (hash i)) ts) = record { matrix_is = refl; in_matrix_is = λ f. refl; consequent_is = refl; in_consequent_is = λ f. refl; first_is = refl; later_is = λ n. refl; in_first_is = λ f. refl; in_later_is = λ f n. refl }
looks (spine (logical (spec_universal A)) ts) = record { matrix_is = refl; in_matrix_is = λ f. refl; consequent_is = refl; in_consequent_is = λ f. refl; first_is = refl; later_is = λ n. refl; in_first_is = λ f. refl; in_later_is = λ f n. refl }
looks (spine (logical spec_implication) ts) = record { matrix_is = refl; in_matrix_is = λ f. refl; consequent_is = refl; in_consequent_is = λ f. refl; first_is = refl; later_is = λ n. refl; in_first_is = λ f. refl; in_later_is = λ f n. refl }
looks (spine (logical spec_conjunction) ts) = record { matrix_is = refl; in_matrix_is = λ f. refl; consequent_is = refl; in_consequent_is = λ f. refl; first_is = refl; later_is = λ n. refl; in_first_is = λ f. refl; in_later_is = λ f n. refl }
looks (spine (logical (universal A)) no_terms) = record { matrix_is = refl; in_matrix_is = λ f. refl; consequent_is = refl; in_consequent_is = λ f. refl; first_is = refl; later_is = λ n. refl; in_first_is = λ f. refl; in_later_is = λ f n. refl }
looks (spine (logical (universal A)) (term (lam B x t) no_terms)) = record { matrix_is = refl; in_matrix_is = λ f. refl; consequent_is = refl; in_consequent_is = λ f. refl; first_is = refl; later_is = λ n. refl; in_first_is = λ f. refl; in_later_is = λ f n. refl }
looks (spine (logical (universal A)) (term (spine h us) no_terms)) = record { matrix_is = refl; in_matrix_is = λ f. refl; consequent_is = refl; in_consequent_is = λ f. refl; first_is = refl; later_is = λ n. refl; in_first_is = λ f. refl; in_later_is = λ f n. refl }
looks (spine (logical (universal A)) (term (lam B x t) (term u us))) = record { matrix_is = refl; in_matrix_is = λ f. refl; consequent_is = refl; in_consequent_is = λ f. refl; first_is = refl; later_is = λ n. refl; in_first_is = λ f. refl; in_later_is = λ f n. refl }
looks (spine (logical (universal A)) (term (spine h ts) (term u us))) = record { matrix_is = refl; in_matrix_is = λ f. refl; consequent_is = refl; in_consequent_is = λ f. refl; first_is = refl; later_is = λ n. refl; in_first_is = λ f. refl; in_later_is = λ f n. refl }
looks (spine (logical (nabla A)) no_terms) = record { matrix_is = refl; in_matrix_is = λ f. refl; consequent_is = refl; in_consequent_is = λ f. refl; first_is = refl; later_is = λ n. refl; in_first_is = λ f. refl; in_later_is = λ f n. refl }
looks (spine (logical (nabla A)) (term (lam B x t) no_terms)) = record { matrix_is = refl; in_matrix_is = λ f. refl; consequent_is = refl; in_consequent_is = λ f. refl; first_is = refl; later_is = λ n. refl; in_first_is = λ f. refl; in_later_is = λ f n. refl }
looks (spine (logical (nabla A)) (term (spine h us) no_terms)) = record { matrix_is = refl; in_matrix_is = λ f. refl; consequent_is = refl; in_consequent_is = λ f. refl; first_is = refl; later_is = λ n. refl; in_first_is = λ f. refl; in_later_is = λ f n. refl }
looks (spine (logical (nabla A)) (term (lam B x t) (term u us))) = record { matrix_is = refl; in_matrix_is = λ f. refl; consequent_is = refl; in_consequent_is = λ f. refl; first_is = refl; later_is = λ n. refl; in_first_is = λ f. refl; in_later_is = λ f n. refl }
looks (spine (logical (nabla A)) (term (spine h ts) (term u us))) = record { matrix_is = refl; in_matrix_is = λ f. refl; consequent_is = refl; in_consequent_is = λ f. refl; first_is = refl; later_is = λ n. refl; in_first_is = λ f. refl; in_later_is = λ f n. refl }
looks (spine (logical implication) no_terms) = record { matrix_is = refl; in_matrix_is = λ f. refl; consequent_is = refl; in_consequent_is = λ f. refl; first_is = refl; later_is = λ n. refl; in_first_is = λ f. refl; in_later_is = λ f n. refl }
looks (spine (logical implication) (term t no_terms)) = record { matrix_is = refl; in_matrix_is = λ f. refl; consequent_is = refl; in_consequent_is = λ f. refl; first_is = refl; later_is = λ n. refl; in_first_is = λ f. refl; in_later_is = λ f n. refl }
looks (spine (logical implication) (term t (term u no_terms))) = record { matrix_is = refl; in_matrix_is = λ f. refl; consequent_is = refl; in_consequent_is = λ f. refl; first_is = refl; later_is = λ n. refl; in_first_is = λ f. refl; in_later_is = λ f n. refl }
looks (spine (logical implication) (term t (term u (term v us)))) = record { matrix_is = refl; in_matrix_is = λ f. refl; consequent_is = refl; in_consequent_is = λ f. refl; first_is = refl; later_is = λ n. refl; in_first_is = λ f. refl; in_later_is = λ f n. refl }

module _ (f : Read → Read) (F : Read) where
  -- an antecedent behind the first
  pub in_later : (n k : ℕ) (A B : Read) → n ≡ suc k → k ≢ 0 → arrow A B ≡ outer_of F → spine (logical implication) (term A (term (in_antecedent f k B) no_terms)) ≡ in_antecedent f n F
  in_later n zero A B e z o = absurd (z refl)
  in_later n (suc k) A B e z o = sym (ap (λ i. in_antecedent f i F) e ∙ (looks F).in_later_is f k ∙ ap (in_later_by f k F) (sym o))

  -- there is no antecedent
  pub not_under : (n : ℕ) (h : tree.Head ℕ) (t : Read) → under h t ≡ outer_of F → F ≡ in_antecedent f n F
  not_under zero h t e = refl
  not_under (suc zero) h t e = sym ((looks F).in_first_is f ∙ ap (in_first_by f F) (sym e))
  not_under (suc (suc n)) h t e = sym ((looks F).in_later_is f n ∙ ap (in_later_by f n F) (sym e))

  pub not_other : (n : ℕ) → other ≡ outer_of F → F ≡ in_antecedent f n F
  not_other zero e = refl
  not_other (suc zero) e = sym ((looks F).in_first_is f ∙ ap (in_first_by f F) (sym e))
  not_other (suc (suc n)) e = sym ((looks F).in_later_is f n ∙ ap (in_later_by f n F) (sym e))

  pub not_arrow : (n : ℕ) (types : Table) (store : Contents) (o : KeptOuter) → ((a b : TermId) → ¬ (o ≡ Arrow a b)) → outer_read types store o ≡ outer_of F → F ≡ in_antecedent f n F
  not_arrow n types store (Under h t) never e = not_under n _ _ e
  not_arrow n types store Other never e = not_other n e
  not_arrow n types store (Arrow a b) never e = absurd (never a b refl)

  -- the prefix goes on, or doesn't
  pub goes_on : (h : tree.Head ℕ) (A : Ty) (x : List ℕ) (t u : Read) → under h u ≡ outer_of F → u ≡ lam A x t → spine h (term (lam A x (in_matrix f t)) no_terms) ≡ in_matrix f F
  goes_on h A x t u e is = sym ((looks F).in_matrix_is f ∙ ap (in_matrix_by f F) (sym (ap (under h) (sym is) ∙ e)))

  pub ends : (h g : tree.Head ℕ) (ts : Terms ℕ (List ℕ)) (u : Read) → under h u ≡ outer_of F → u ≡ spine g ts → f F ≡ in_matrix f F
  ends h g ts u e is = sym ((looks F).in_matrix_is f ∙ ap (in_matrix_by f F) (sym (ap (under h) (sym is) ∙ e)))

-- what holds of the head
pub of_head : (P : Head → Type 0) (g : Head) (o : KeptOuter) → P g → OfHead (λ h. h ≡ g) o → OfHead P o
of_head P g (Under h t) p e = subst P (sym e) p
of_head P g (Arrow a b) p e = tt
of_head P g Other p e = tt
