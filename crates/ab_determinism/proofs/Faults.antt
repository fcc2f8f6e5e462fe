-- The first fault of clauses is one.
use Rattle.std.proofs.Common.{◌≡◌, ℕ, suc, List, [], ◌∷◌, refl, ap}
use Rattle.std.specs.List.{All}
use Rattle.std.proofs.lemmas.List.Elements.{All-head, All-tail}
use Rattle.ab_formulas.specs.Clauses.{Clause}
use Rattle.ab_formulas.specs.Stratification.{left_of_arrows, constants}
use Rattle.ab_formulas.specs.Faults.{Fault, not_stratified, IsRight, HasFault, in_head, in_body, FirstFault, here, later}
use Rattle.ab_formulas.proofs.Names.{not_avoided, one_first}

module _ (ps : List (List ℕ)) where
  right_or : (n : ℕ) (c : Clause) (f : Fault) → HasFault ps n c f → IsRight ps c → ⊥
  right_or n c f (in_head bad) right = bad right.head
  right_or n c f (in_body {p = p} good first) right = not_avoided ps (constants left_of_arrows c.body) p first right.body

  one_fault : (n : ℕ) (c : Clause) (f g : Fault) → HasFault ps n c f → HasFault ps n c g → f ≡ g
  one_fault n c f g (in_head a) (in_head b) = refl
  one_fault n c f g (in_head a) (in_body good first) = absurd (a good)
  one_fault n c f g (in_body good first) (in_head b) = absurd (b good)
  one_fault n c f g (in_body {p = p} good a) (in_body {p = q} good' b) = ap not_stratified (one_first ps (constants left_of_arrows c.body) p q a b)

  pub one_first_fault : (n : ℕ) (cs : List Clause) (f g : Fault) → FirstFault ps n cs f → FirstFault ps n cs g → f ≡ g
  one_first_fault n [] f g x y = elim x [ ]
  one_first_fault n (c ∷ cs) f g (here a) (here b) = one_fault n c f g a b
  one_first_fault n (c ∷ cs) f g (here a) (later right b) = absurd (right_or n c f a right)
  one_first_fault n (c ∷ cs) f g (later right a) (here b) = absurd (right_or n c g b right)
  one_first_fault n (c ∷ cs) f g (later right a) (later right' b) = one_first_fault (suc n) cs f g a b

  pub no_fault : (n : ℕ) (cs : List Clause) (f : Fault) → FirstFault ps n cs f → All (IsRight ps) cs → ⊥
  no_fault n [] f x all = elim x [ ]
  no_fault n (c ∷ cs) f (here a) all = right_or n c f a (All-head (IsRight ps) c cs all)
  no_fault n (c ∷ cs) f (later right a) all = no_fault (suc n) cs f a (All-tail (IsRight ps) c cs all)
