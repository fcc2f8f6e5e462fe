-- Free indices are names of the context: so a term without context has none, and is one in any context.
use Rattle.std.proofs.Common.{◌≡◌, ℕ, zero, suc, ◌<◌, ◌≤◌, length, List, [], ◌∷◌, ◌++◌, Some, arith}
use Rattle.ab_term.specs.Types.{Ty}
use Rattle.ab_term.specs.Terms.{Head, constant, logical, nominal, variable, index, Term, Terms}
use Rattle.ab_term.specs.Typing.{Signature, type_at, head_type, HasType, TakeType, typed_lam, typed_spine, take_none, take_term}
use Rattle.ab_term.specs.Reach.{head_reach, reach, reach_of_all}

pub type_at-append : (G K : List Ty) (i : ℕ) (A : Ty) → type_at G i ≡ Some A → type_at (G ++ K) i ≡ Some A
type_at-append [] K i A e = cc
type_at-append (B ∷ G) K zero A e = e
type_at-append (B ∷ G) K (suc i) A e = type_at-append G K i A e

pub type_at-below : (G : List Ty) (i : ℕ) (A : Ty) → type_at G i ≡ Some A → i < length G
type_at-below [] i A e = absurd (cc)
type_at-below (B ∷ G) zero A e = omega arith
type_at-below (B ∷ G) (suc i) A e = omega (arith, type_at-below G i A e)

module _ (sg : Signature) {Var : Type 0} where
  head_type-append : (G K : List Ty) (h : Head Var) (A : Ty) → head_type sg G h ≡ Some A → head_type sg (G ++ K) h ≡ Some A
  head_type-append G K (constant c) A e = e
  head_type-append G K (logical l) A e = e
  head_type-append G K (nominal a) A e = e
  head_type-append G K (variable x) A e = e
  head_type-append G K (index i) A e = type_at-append G K i A e

  head_reach-within : (G : List Ty) (h : Head Var) (A : Ty) → head_type sg G h ≡ Some A → head_reach h ≤ length G
  head_reach-within G (constant c) A e = omega arith
  head_reach-within G (logical l) A e = omega arith
  head_reach-within G (nominal a) A e = omega arith
  head_reach-within G (variable x) A e = omega arith
  head_reach-within G (index i) A e = omega (arith, type_at-below G i A e)

module _ (sg : Signature) {Var Hint : Type 0} where
  mutual
    pub append_typed : {G : List Ty} {t : Term Var Hint} {A : Ty} (K : List Ty) → HasType sg G t A → HasType sg (G ++ K) t A
    append_typed K (typed_lam d) = typed_lam (append_typed K d)
    append_typed {G = G} K (typed_spine {A = A} {h = h} e ds) = typed_spine (head_type-append sg G K h A e) (append_all_typed K ds)

    append_all_typed : {G : List Ty} {ts : Terms Var Hint} {A B : Ty} (K : List Ty) → TakeType sg G ts A B → TakeType sg (G ++ K) ts A B
    append_all_typed K take_none = take_none
    append_all_typed K (take_term d ds) = take_term (append_typed K d) (append_all_typed K ds)

  mutual
    pub reach_within : {G : List Ty} {t : Term Var Hint} {A : Ty} → HasType sg G t A → reach t ≤ length G
    reach_within {G = G} (typed_lam {A = A} d) = omega (arith, reach_within d)
    reach_within {G = G} (typed_spine {A = A} {h = h} e ds) = omega (arith, head_reach-within sg G h A e, reach_of_all_within ds)

    pub reach_of_all_within : {G : List Ty} {ts : Terms Var Hint} {A B : Ty} → TakeType sg G ts A B → reach_of_all ts ≤ length G
    reach_of_all_within take_none = omega arith
    reach_of_all_within (take_term d ds) = omega (arith, reach_within d, reach_of_all_within ds)

  -- a term without context is one in any
  pub closed_typed : {t : Term Var Hint} {A : Ty} (G : List Ty) → HasType sg [] t A → HasType sg G t A
  closed_typed G d = append_typed G d

  pub closed_reach : {t : Term Var Hint} {A : Ty} → HasType sg [] t A → reach t ≤ 0
  closed_reach d = reach_within d
