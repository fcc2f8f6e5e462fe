-- Whether marks serve, one antecedent after another.
use Rattle.std.proofs.Common.{◌≡◌, ◌≢◌, ◌↔◌, ℕ, zero, suc, List, [], ◌∷◌, Option, Some, None, refl, sym, subst, arith}
use Rattle.ab_term.specs.Terms.{Read}
use Rattle.ab_theory.specs.Pieces.{Piece, antecedent_of, pieces, AllServe}
use Rattle.ab_uses.specs.Layers.{implies, last, layer_of, ServesIfAny}
use Rattle.ab_uses.proofs.Layers.{pieces_none, pieces_one, pieces_more, pieces_last}

pub first_serves : (A : Read) (ps : List Piece) (h : Option Read) (hs : List (Option Read)) → AllServe (antecedent_of A ∷ ps) (h ∷ hs) → ServesIfAny A h
first_serves A ps None hs all = tt
first_serves A ps (Some G) hs all = all.0

pub others_serve : (A : Read) (ps : List Piece) (h : Option Read) (hs : List (Option Read)) → AllServe (antecedent_of A ∷ ps) (h ∷ hs) → AllServe ps hs
others_serve A ps None hs all = all
others_serve A ps (Some G) hs all = all.1

pub both_serve : (A : Read) (ps : List Piece) (h : Option Read) (hs : List (Option Read)) → ServesIfAny A h → AllServe ps hs → AllServe (antecedent_of A ∷ ps) (h ∷ hs)
both_serve A ps None hs first all = all
both_serve A ps (Some G) hs first all = (first, all)

-- the pieces are of a formula
module _ (F : Read) where
  pub same_serve : (n : ℕ) (ps : List Piece) (hs : List (Option Read)) → pieces n F ≡ ps → AllServe (pieces n F) hs ↔ AllServe ps hs
  same_serve n ps hs e = (subst (λ qs. AllServe qs hs) e, subst (λ qs. AllServe qs hs) (sym e))

  -- there is nothing to serve
  pub last_serves : (n : ℕ) (hs : List (Option Read)) → last ≡ layer_of F → AllServe (pieces n F) hs
  last_serves n hs e = (same_serve n [] hs (pieces_last F n e)).1 tt

  module _ (A B : Read) (e : implies A B ≡ layer_of F) where
    pub none_serves : (n : ℕ) (hs : List (Option Read)) → n ≡ 0 → AllServe (pieces n F) hs
    none_serves zero hs is = (same_serve 0 [] hs (pieces_none F A B e)).1 tt
    none_serves (suc n) hs is = absurd (omega (arith, is))

    pub none_given_serves : (n : ℕ) → AllServe (pieces n F) []
    none_given_serves zero = (same_serve 0 [] [] (pieces_none F A B e)).1 tt
    none_given_serves (suc zero) = (same_serve 1 (antecedent_of A ∷ []) [] (pieces_one F A B e)).1 tt
    none_given_serves (suc (suc n)) = (same_serve (suc (suc n)) (antecedent_of A ∷ pieces (suc n) B) [] (pieces_more F (suc (suc n)) (suc n) A B e refl (omega arith))).1 tt

    pub must_serve : (n : ℕ) (h : Option Read) (hs : List (Option Read)) → n ≢ 0 → AllServe (pieces n F) (h ∷ hs) → ServesIfAny A h
    must_serve zero h hs some all = absurd (some refl)
    must_serve (suc zero) h hs some all = first_serves A [] h hs ((same_serve 1 (antecedent_of A ∷ []) (h ∷ hs) (pieces_one F A B e)).0 all)
    must_serve (suc (suc n)) h hs some all = first_serves A (pieces (suc n) B) h hs ((same_serve (suc (suc n)) (antecedent_of A ∷ pieces (suc n) B) (h ∷ hs) (pieces_more F (suc (suc n)) (suc n) A B e refl (omega arith))).0 all)

    pub one_serves : (n : ℕ) (h : Option Read) (hs : List (Option Read)) → n ≡ 1 → ServesIfAny A h → AllServe (pieces n F) (h ∷ hs)
    one_serves zero h hs is first = absurd (omega (arith, is))
    one_serves (suc zero) h hs is first = (same_serve 1 (antecedent_of A ∷ []) (h ∷ hs) (pieces_one F A B e)).1 (both_serve A [] h hs first tt)
    one_serves (suc (suc n)) h hs is first = absurd (omega (arith, is))

    pub further_serve : (n m : ℕ) (h : Option Read) (hs : List (Option Read)) → n ≡ suc m → m ≢ 0 → ServesIfAny A h → AllServe (pieces n F) (h ∷ hs) ↔ AllServe (pieces m B) hs
    further_serve n m h hs is other first =
        let same = same_serve n (antecedent_of A ∷ pieces m B) (h ∷ hs) (pieces_more F n m A B e is other) in
        (λ all. others_serve A (pieces m B) h hs (same.0 all), λ all. same.1 (both_serve A (pieces m B) h hs first all))
