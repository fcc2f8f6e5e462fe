-- WHAT `permute` LEADS TO IS DERIVED: a formula in which nominal constants changed places is cut in.
use Rattle.std.specs.Option.{IsSome}
use Rattle.std.specs.Prelude.{if◌then◌else◌}
use Rattle.std.proofs.Common.{◌≡◌, ◌≢◌, ℕ, List, [], ◌∷◌, false, true, Option, Some, None, sym, ◌∙◌, ap, subst}
use Rattle.ab_term.specs.Terms.{Read}
use Rattle.ab_term.proofs.UpToNames.{up_to_names-symmetric}
use Rattle.ab_formulas.specs.Declarations.{Declarations}
use Rattle.ab_formulas.specs.Marks.{MarksServe, erased, marks_of}
use Rattle.ab_formulas.specs.NewNames.{auto}
use Rattle.ab_formulas.specs.Sequents.{Sequent, IsSequent, IsUsed, formula_of, proving, assuming, without}
use Rattle.ab_consequences.specs.Standing.{StandsFor}
use Rattle.ab_consequences.proofs.Allowed.{marks_serve, found_last}
use Rattle.ab_consequences.proofs.Leading.{removed}
use Rattle.ab_derived_goals.specs.Derived.{AreSound, IsDerived}
use Rattle.ab_derived_goals.proofs.Hypotheses.{by_hypothesis, cut_in, dropped, renamed}
use Rattle.ab_derived_goals.proofs.Named.{none_used, used_some, named_others, named_append, other_name, without_last, without_other}
use Rattle.ab_derived_goals.proofs.Trees.{left}
use Rattle.ab_derived_goals.proofs.Waiting.{hidden_name}

module _ (D : Declarations) (sound : AreSound D) (s : Sequent) (is : IsSequent D s) where
  -- what stands for the conclusion is proved in its place
  pub conclusion_for : (F : Read) → StandsFor D s F s.conclusion → IsDerived D s (proving F s ∷ []) []
  conclusion_for F stands =
      let y = hidden_name auto s in
      let none = none_used (formula_of s y.0) y.1.new in
      cut_in D sound s F y.0 (proving F s ∷ []) [] [] [] is stands.fits stands.formula y.1.new (λ it. left D (proving F s))
      (λ it.
      by_hypothesis D sound (assuming y.0 F s) y.0 F it (found_last s.hypotheses y.0 F none) stands.same
      (subst (λ m. MarksServe m (marks_of F)) stands.marks (marks_serve (marks_of F))))

  -- what stands for a hypothesis takes its place, and stands last
  pub hypothesis_for : (H : List ℕ) (F G : Read) → formula_of s H ≡ Some G → StandsFor D s F G → IsDerived D s (assuming H F (without H s) ∷ []) []
  hypothesis_for H F G has stands =
      let y = hidden_name auto s in
      let none = none_used (formula_of s y.0) y.1.new in
      let apart : y.0 ≢ H = λ e. y.1.new (subst (IsUsed s) (sym e) (used_some has)) in
      let goal = assuming H F (without H s) in
      let k = assuming y.0 F (without H s) in
      let gone : formula_of (without H s) y.0 ≡ None = named_others s.hypotheses H y.0 (λ e. apart (sym e)) ∙ none in
      let unused : formula_of k H ≡ None = named_append (without H s).hypotheses (record { name = y.0; formula = F } ∷ []) H (removed s.hypotheses H) ∙ ap (λ b. if b then Some F else None) (other_name y.0 H apart) in
      cut_in D sound s F y.0 [] (goal ∷ []) [] [] is stands.fits stands.formula y.1.new
      (λ it.
      by_hypothesis D sound (proving F s) H G it has (up_to_names-symmetric (erased F) (erased G) stands.same)
      (subst (MarksServe (marks_of F)) stands.marks (marks_serve (marks_of F))))
      (λ it.
      dropped D sound (assuming y.0 F s) H (goal ∷ []) [] it (λ next.
      let same = without_other s H y.0 F apart in
      subst (λ t. IsDerived D t (goal ∷ []) []) (sym same)
      (renamed D sound k y.0 H F (goal ∷ []) [] (subst (IsSequent D) same next) (found_last (without H s).hypotheses y.0 F gone)
      (λ used. let clash : false ≡ true = subst (λ (o : Option Read). IsSome o) unused used in cc)
      (λ last.
      let end = without_last (without H s) y.0 F gone in
      subst (λ t. IsDerived D (assuming H F t) (goal ∷ []) []) (sym end) (left D goal)))))
