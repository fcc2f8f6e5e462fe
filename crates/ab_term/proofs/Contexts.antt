-- The laws in contexts that are written as lists: names before and behind the one that goes.
use Rattle.std.proofs.Common.{◌≡◌, ℕ, suc, ◌+◌, length, List, [], ◌∷◌, ◌++◌, subst, arith}
use Rattle.ab_term.specs.Types.{Ty}
use Rattle.ab_term.specs.Terms.{Term}
use Rattle.ab_term.specs.Typing.{Signature, HasType}
use Rattle.ab_term.specs.Substitution.{shift, substitute}
use Rattle.ab_term.proofs.Preservation.{Insert, here, there, substitute_typed}
use Rattle.ab_term.proofs.Commutation.{Square, commutes}

pub inserted : (Ds : List Ty) (A : Ty) (G : List Ty) → Insert (length Ds) A (Ds ++ G) (Ds ++ A ∷ G)
inserted [] A G = here
inserted (D ∷ Ds) A G = there (inserted Ds A G)

inserted_under : (Ds : List Ty) (j : ℕ) (B : Ty) (G H : List Ty) → Insert j B G H → Insert (length Ds + j) B (Ds ++ G) (Ds ++ H)
inserted_under [] j B G H p = subst (λ n. Insert n B G H) (let e : j ≡ 0 + j = omega arith in e) p
inserted_under (D ∷ Ds) j B G H p =
    subst (λ n. Insert n B (D ∷ (Ds ++ G)) (D ∷ (Ds ++ H))) (let e : suc (length Ds + j) ≡ suc (length Ds) + j = omega arith in e) (there (inserted_under Ds j B G H p))

two_inserted : (Ds Es G : List Ty) (A B : Ty) → Square (length Ds) (length Ds + length Es) A B (Ds ++ (Es ++ G)) (Ds ++ (Es ++ B ∷ G)) (Ds ++ A ∷ (Es ++ G)) (Ds ++ A ∷ (Es ++ B ∷ G))
two_inserted Ds Es G A B = record {
  below = omega arith;
  v_in_u = inserted_under Ds (length Es) B (Es ++ G) (Es ++ B ∷ G) (inserted Es B G);
  u_in_all = inserted Ds A (Es ++ B ∷ G);
  u_in_v = inserted Ds A (Es ++ G);
  v_in_all = subst (λ n. Insert n B (Ds ++ A ∷ (Es ++ G)) (Ds ++ A ∷ (Es ++ B ∷ G))) (let e : length Ds + suc (length Es) ≡ suc (length Ds + length Es) = omega arith in e)
      (inserted_under Ds (suc (length Es)) B (A ∷ (Es ++ G)) (A ∷ (Es ++ B ∷ G)) (there (inserted Es B G)));
}

module _ (sg : Signature) (Var Hint : Type 0) (Ds Es G : List Ty) (A B C : Ty) where
  pub substitutes_typed : (t u : Term Var Hint) → HasType sg (Ds ++ G) u A → HasType sg (Ds ++ A ∷ G) t B → HasType sg (Ds ++ G) (substitute A u (length Ds) t) B
  substitutes_typed t u d e = substitute_typed sg d (inserted Ds A G) e

  pub substitutes_commute : (t u v : Term Var Hint) → HasType sg (Ds ++ (Es ++ G)) v B → HasType sg (Ds ++ (Es ++ B ∷ G)) u A → HasType sg (Ds ++ A ∷ (Es ++ B ∷ G)) t C
      → substitute B v (length Ds + length Es) (substitute A u (length Ds) t)
      ≡ substitute A (substitute B v (length Ds + length Es) u) (length Ds) (substitute B (shift (length Ds) v) (suc (length Ds + length Es)) t)
  substitutes_commute t u v dv du d = commutes sg Var Hint (two_inserted Ds Es G A B) dv du d
