-- Clauses that are one but for the numbers of their variables.
use Rattle.std.specs.Prelude.{◌≡◌, ◌↔◌, ℕ, List}
use Rattle.ab_formulas.specs.Clauses.{Clause}
use Rattle.ab_formulas.specs.CaseClauses.{case_of}
use Rattle.ab_formulas.specs.Faults.{Fault, IsRight, HasFault}

-- THE CLAUSES ARE ONE: they are the same clause of case analysis, and whatever predicates are defined they have the same faults
pub record AreOne (k l : Clause) : Type 0 where
  pub case : case_of k ≡ case_of l
  pub right : (ps : List (List ℕ)) → IsRight ps k ↔ IsRight ps l
  pub faults : (ps : List (List ℕ)) (number : ℕ) (f : Fault) → HasFault ps number k f ↔ HasFault ps number l f
