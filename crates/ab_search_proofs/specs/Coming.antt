-- WHAT COMES OF A CLAUSE: by the rule a conclusion unfolds to the clause's body closed over what is left open, by `exists` and then, for the clause's
-- names, by `nabla`. Some steps more open it again.
use Rattle.std.specs.Prelude.{◌≡◌, List, [], ◌∷◌}
use Rattle.ab_term.specs.Terms.{Read}
use Rattle.ab_formulas.specs.Declarations.{Declarations}
use Rattle.ab_formulas.specs.Sequents.{Sequent}
use Rattle.ab_theory.specs.Steps.{exists_right, nabla_right}
use Rattle.ab_search_proofs.specs.Likeness.{StandIn, IsLikeGoal}
use Rattle.ab_search_proofs.specs.Taking.{LeadsTo}

-- THE SEQUENT COMES TO one that is like the goal, by terms for `exists` and by constants for `nabla`
pub data ComesTo (D : Declarations) (vs : List StandIn) (Hs : List Read) (C : Read) : Sequent → Type 0 where
  it_is : {s : Sequent} → IsLikeGoal D vs Hs C s → ComesTo D vs Hs C s
  by_term : {s : Sequent} (u : Read) (t : Sequent) → LeadsTo D (exists_right u) s (λ ps. ps ≡ t ∷ []) → ComesTo D vs Hs C t → ComesTo D vs Hs C s
  by_constant : {s : Sequent} (t : Sequent) → LeadsTo D nabla_right s (λ ps. ps ≡ t ∷ []) → ComesTo D vs Hs C t → ComesTo D vs Hs C s
