use Rattle.std.specs.Prelude.{drop, if◌then◌else◌, leb}
use Rattle.std.proofs.Common.{◌≡◌, ℕ, ◌<◌, ◌≤◌, Bool, true, false, List, [], ◌∷◌, length, Option, Some, None, refl, ap, ◌∙◌, arith}
use Rattle.std.proofs.lemmas.Bool.{leb-true, leb-false}
use Rattle.std.proofs.lemmas.List.{drop_all, drop_more}
use Rattle.ab_formulas.specs.Declarations.{Declarations}
use Rattle.ab_formulas.specs.Marks.{Sign}
use Rattle.ab_theory.specs.Induction.{inductive_signs}
use Rattle.ab_sequents.proofs.places.none_is_left.Goals as goal

module _ (D : Declarations) (ns : List ℕ) (n : ℕ) where
  none_left : (b : Bool) → leb (length ns) n ≡ b → inductive_signs D (drop n ns) [] ≡ (if b then Some [] else None)
  none_left true e = ap (λ ms. inductive_signs D ms []) (drop_all n ns (leb-true (length ns) n e))
  none_left false e = ap (λ ms. inductive_signs D ms []) (drop_more ns n 0 (leb-false (length ns) n e))

pub returns-in-Induction : goal.returns-in-Induction
returns-in-Induction c D = rw c.in-Induction.is (none_left D c.args.places.now c.args.count (leb (length c.args.places.now) c.args.count) refl)
