-- What a search closes is derived.
use Rattle.std.proofs.Common.{ℕ, [], refl}
use Rattle.ab_formulas.specs.Declarations.{Declarations}
use Rattle.ab_formulas.specs.Sequents.{Sequent, IsSequent}
use Rattle.ab_search_trees.specs.Outcomes.{ComesTo, closed}
use Rattle.ab_search_layers.specs.Layered.{MemberIsDefined}
use Rattle.ab_search_answers.specs.Unmarked.{HasNoHash, HaveNoHash}
use Rattle.ab_search_answers.proofs.Derived.{closed_derived}
use Rattle.ab_derived_goals.specs.Derived.{AreSound, IsDerivedAlike}

pub search_derived : (D : Declarations) (depth : ℕ) (s : Sequent) → AreSound D → MemberIsDefined D → HaveNoHash D → IsSequent D s → HasNoHash s.conclusion → ComesTo D depth s closed → IsDerivedAlike D s [] []
search_derived D depth s sound member none is unmarked (cells, are, ls, searched, end) =
    let w = closed_derived D sound.sentences sound.definitions sound.programs sound.member member none cells depth s is are unmarked ls searched end in
    ([], (w.0, record { derives = w.1.derives; valid = w.1.valid; leaves = w.1.closed; owes = w.1.nothing_owed }), refl)
