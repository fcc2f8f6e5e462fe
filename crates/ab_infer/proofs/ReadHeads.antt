-- The heads of a reading, and terms without variables and nominal constants.
use Rattle.std.proofs.Common.{◌≡◌, ℕ, List, [], ◌++◌, refl, ap, ◌∙◌}
use Rattle.ab_term.specs.Types.{Ty}
use Rattle.ab_term.specs.Logical.{equality}
use Rattle.ab_term.specs.Terms.{Head, constant, logical, nominal, variable, index, Term, lam, spine, Terms, no_terms, term}
use Rattle.ab_term.specs.Names.{support, support_of_all}
use Rattle.ab_term.specs.Variables.{variables, variables_of_all}
use Rattle.ab_grammar.specs.declared.Quant.TheVariants.{Forall, Exists, Nabla}
use Rattle.ab_meaning.specs.Types.{PropFree}
use Rattle.ab_meaning.specs.ResolvedNames.{Name, Resolved, Binding, quantified, pi, binding_head}
use Rattle.ab_meaning.specs.Readings.{Raw, Making, Reads, reads_bound, reads_known, reads_free, reads_apply, reads_behind, reads_abs, reads_equal, reads_bind}
use Rattle.ab_infer.specs.Heads.{AreHeads, AreAllHeads, AreRawHeads, KnownAre, IsOrdinary, IsFixed}

module _ (P : Head ℕ → Type 0) (FreeNames : Type 0) (made : Making) (types : Name → Ty) (indices : (i : ℕ) → P (index i)) (equations : (A : Ty) → P (logical (equality A)))
    (binders : (q : Binding) (A : Ty) → PropFree A → P (logical (binding_head q A))) (names : FreeNames → (x : Name) → PropFree (types x) → P (made x (types x))) where
  pub reading_heads : {G : List Ty} {e : Resolved} {t : Raw} {A : Ty} {As : List Ty} → KnownAre P FreeNames e → Reads made types G e t A As → AreRawHeads P t
  reading_heads k (reads_bound {i = i} at) = indices i
  reading_heads k reads_known = k
  reading_heads k (reads_free {x = x} free) = names k x free
  reading_heads k (reads_apply r s) = (reading_heads k.0 r, reading_heads k.1 s)
  reading_heads k (reads_behind r s) = (reading_heads k.1 s, reading_heads k.0 r)
  reading_heads k (reads_abs free r) = reading_heads k r
  reading_heads k (reads_equal {A = A} r s) = ((equations A, reading_heads k.0 r), reading_heads k.1 s)
  reading_heads k (reads_bind {q = q} {A = A} free keeps r) = (binders q A free, reading_heads k r)

pub ordinary_binders : (q : Binding) (A : Ty) → PropFree A → IsOrdinary (logical (binding_head q A))
ordinary_binders (quantified Forall) A f = f
ordinary_binders (quantified Exists) A f = f
ordinary_binders (quantified Nabla) A f = f
ordinary_binders pi A f = tt

pub fixed_binders : (q : Binding) (A : Ty) → PropFree A → IsFixed (logical (binding_head q A))
fixed_binders q A f = tt

both_none : {X : Type 0} (xs ys : List X) → xs ≡ [] → ys ≡ [] → xs ++ ys ≡ []
both_none xs ys e f = ap (λ l. l ++ ys) e ∙ f

mutual
  pub no_variables : (t : Term ℕ (List ℕ)) → AreHeads IsFixed t → variables t ≡ []
  no_variables (lam A x t) h = no_variables t h
  no_variables (spine (constant c) ts) h = no_variables_in ts h.1
  no_variables (spine (logical l) ts) h = no_variables_in ts h.1
  no_variables (spine (nominal a) ts) h = absurd h.0
  no_variables (spine (variable x) ts) h = absurd h.0
  no_variables (spine (index i) ts) h = no_variables_in ts h.1

  no_variables_in : (ts : Terms ℕ (List ℕ)) → AreAllHeads IsFixed ts → variables_of_all ts ≡ []
  no_variables_in no_terms h = refl
  no_variables_in (term t ts) h = both_none (variables t) (variables_of_all ts) (no_variables t h.0) (no_variables_in ts h.1)

mutual
  pub no_names : (t : Term ℕ (List ℕ)) → AreHeads IsFixed t → support t ≡ []
  no_names (lam A x t) h = no_names t h
  no_names (spine (constant c) ts) h = no_names_in ts h.1
  no_names (spine (logical l) ts) h = no_names_in ts h.1
  no_names (spine (nominal a) ts) h = absurd h.0
  no_names (spine (variable x) ts) h = absurd h.0
  no_names (spine (index i) ts) h = no_names_in ts h.1

  no_names_in : (ts : Terms ℕ (List ℕ)) → AreAllHeads IsFixed ts → support_of_all ts ≡ []
  no_names_in no_terms h = refl
  no_names_in (term t ts) h = both_none (support t) (support_of_all ts) (no_names t h.0) (no_names_in ts h.1)
