-- What a formula begins with, where pieces are taken off it: it begins so still, once a term is put for a name further out.
use Rattle.std.proofs.Common.{◌≡◌, ℕ, zero, suc, List, [], ◌∷◌, refl, sym, ap, subst}
use Rattle.ab_term.specs.Types.{Ty}
use Rattle.ab_term.specs.Logical.{universal, nabla, implication}
use Rattle.ab_term.specs.Terms.{Terms, logical, lam, spine, no_terms, term, Read}
use Rattle.ab_term.specs.Substitution.{shift, substitute_by, reduce, instance}
use Rattle.ab_theory.specs.Pieces.{Piece, universal_of, nabla_of, antecedent_of, pieces}

abbrev pub for_all_of : Ty → Ty → List ℕ → Read → Read
for_all_of A C y t = spine (logical (universal A)) (term (lam C y t) no_terms)

abbrev pub for_new_of : Ty → Ty → List ℕ → Read → Read
for_new_of A C y t = spine (logical (nabla A)) (term (lam C y t) no_terms)

abbrev pub implied_of : Read → Read → Read
implied_of P Q = spine (logical implication) (term P (term Q no_terms))

-- the formula begins with these pieces, whatever its antecedents are
abbrev pub HasFront : List Piece → Read → Type 0
HasFront [] F = Unit {0}
HasFront (universal_of x A ∷ ps) (spine (logical (universal B)) (term (lam C y t) no_terms)) = (B ≡ A) × HasFront ps t
HasFront (nabla_of A ∷ ps) (spine (logical (nabla B)) (term (lam C y t) no_terms)) = (B ≡ A) × HasFront ps t
HasFront (antecedent_of G ∷ ps) (spine (logical implication) (term P (term Q no_terms))) = HasFront ps Q
HasFront _ _ = ⊥

pub has_front : (n : ℕ) (F : Read) → HasFront (pieces n F) F
has_front n (spine (logical (universal A)) (term (lam B x t) no_terms)) = (refl, has_front n t)
has_front n (spine (logical (nabla A)) (term (lam B x t) no_terms)) = (refl, has_front n t)
has_front (suc zero) (spine (logical implication) (term A (term B no_terms))) = tt
has_front (suc (suc n)) (spine (logical implication) (term A (term B no_terms))) = has_front (suc n) B
has_front _ _ = tt

-- such a formula, by its first piece
module _ (ps : List Piece) where
  pub for_all_front : (x : List ℕ) (A : Ty) (F : Read) → HasFront (universal_of x A ∷ ps) F → (C : Ty) × (y : List ℕ) × (t : Read) × (F ≡ for_all_of A C y t) × HasFront ps t
  for_all_front x A (spine (logical (universal B)) (term (lam C y t) no_terms)) h = (C, y, t, ap (λ E. for_all_of E C y t) h.0, h.1)
  for_all_front x A _ h = absurd h

  pub nabla_front : (A : Ty) (F : Read) → HasFront (nabla_of A ∷ ps) F → (C : Ty) × (y : List ℕ) × (t : Read) × (F ≡ for_new_of A C y t) × HasFront ps t
  nabla_front A (spine (logical (nabla B)) (term (lam C y t) no_terms)) h = (C, y, t, ap (λ E. for_new_of E C y t) h.0, h.1)
  nabla_front A _ h = absurd h

  pub implied_front : (G F : Read) → HasFront (antecedent_of G ∷ ps) F → (P : Read) × (Q : Read) × (F ≡ implied_of P Q) × HasFront ps Q
  implied_front G (spine (logical implication) (term P (term Q no_terms))) h = (P, Q, refl, h)
  implied_front G _ h = absurd h

module _ (apply : Read → Terms ℕ (List ℕ) → Read) where
  front_kept : (u : Read) (k : ℕ) (ps : List Piece) (F : Read) → HasFront ps F → HasFront ps (substitute_by apply u k F)
  front_kept u k [] F h = tt
  front_kept u k (universal_of x A ∷ ps) F h =
      let f = for_all_front ps x A F h in
      subst (λ G. HasFront (universal_of x A ∷ ps) (substitute_by apply u k G)) (sym f.3) (refl, front_kept (shift zero u) (suc k) ps f.2 f.4)
  front_kept u k (nabla_of A ∷ ps) F h =
      let f = nabla_front ps A F h in
      subst (λ G. HasFront (nabla_of A ∷ ps) (substitute_by apply u k G)) (sym f.3) (refl, front_kept (shift zero u) (suc k) ps f.2 f.4)
  front_kept u k (antecedent_of E ∷ ps) F h =
      let f = implied_front ps E F h in
      subst (λ G. HasFront (antecedent_of E ∷ ps) (substitute_by apply u k G)) (sym f.2) (front_kept u k ps f.1 f.3)

pub front_put : (ps : List Piece) (C : Ty) (y : List ℕ) (t u : Read) → HasFront ps t → HasFront ps (instance (lam C y t) u)
front_put ps C y t u h = front_kept (reduce C) u zero ps t h
