-- THE PREMISES OF A RULE cover the hypothesis that it takes apart; and so do those of a node of a valid derivation.
use Rattle.std.proofs.Common.{◌≡◌, ◌⊎◌, inl, inr, ℕ, List, Option, Some, refl, sym, ◌∙◌, subst}
use Rattle.ab_term.specs.Terms.{Read}
use Rattle.ab_term.specs.Variables.{Substitution, IsTyped, IsClean}
use Rattle.ab_unifiers.specs.Member.{HasMember}
use Rattle.ab_formulas.specs.Declarations.{Declarations, HaveDefinitions, signature_in}
use Rattle.ab_formulas.specs.Forms.{as_equal}
use Rattle.ab_formulas.specs.NewNames as names
use Rattle.ab_formulas.specs.NewNames.{Label, Names, IsNoVariable}
use Rattle.ab_formulas.specs.Programs.{HavePrograms}
use Rattle.ab_formulas.specs.Sequents.{Sequent, IsSequent, formula_of, formulas_of, counted, without}
use Rattle.ab_theory.specs.Derivations.{Derivation, Derivations, goal, by, none, more, roots, Valid, AllValid}
use Rattle.ab_theory.specs.Rules.{Rule}
use Rattle.ab_theory.specs.Splits.{Split}
use Rattle.ab_theory.specs.Steps.{Step, definition_left, equal_left}
use Rattle.ab_theory.specs.Subjects.{subject_of, cases_by}
use Rattle.ab_theory.proofs.Sequents.{without_sequent}
use Rattle.ab_theory.proofs.SubjectParts.{subject_is}
use Rattle.ab_coverage.specs.HypothesisCover.{IsCovered}
use Rattle.ab_coverage.specs.Nodes.{HasNode, HaveNode}
use Rattle.ab_coverage.proofs.HypothesisCovered.{others_stay, subject_covered, equation_covered}

-- a goal that names a new hypothesis is the same but for its counter
recounted : (l : Label) (s : Sequent) (x : List ℕ) (t : Sequent) → Names l s x t → (n : ℕ) × (t ≡ counted n s)
recounted names.auto s x t n = (n.0, n.3)
recounted (names.given y) s x t n = (s.counter, n.2)

pub one_formula : {F G : Read} {o : Option Read} → o ≡ Some F → o ≡ Some G → F ≡ G
one_formula {F = F} {G = G} e f = let whole : Some F ≡ Some G = sym e ∙ f in cc

module _ (D : Declarations) (s : Sequent) (H : List ℕ) (F : Read) (ps : List Sequent) (is : IsSequent D s) (e : formula_of s H ≡ Some F) (q : Substitution ℕ (List ℕ)) (typed : IsTyped (signature_in D) q) (clean : IsClean q (formulas_of s)) where
  pub definition_covers : HaveDefinitions D → HavePrograms D → HasMember (signature_in D) → (l : Label) → Rule D (definition_left H l) s ps → IsCovered D s F q (without H s) ps
  definition_covers definitions programs has l rule =
      let cells = rule.0 in
      let x = rule.2.2.0 in
      let named = rule.2.2.2.1 in
      let n = recounted l (without H s) named.0 named.1 named.2 in
      subject_covered D s is H F e q typed clean definitions programs has (without H s) n.0 (others_stay D s H is) named.0 cells rule.1 ps x
      (subject_is D F x (subst (λ G. subject_of D G ≡ Some x) (one_formula rule.2.1 e) rule.2.2.1))
      (subst (λ t. Split (λ k hint z. IsNoVariable k z) cells (cases_by s t named.0 x) ps) n.1 named.3)

  pub equation_covers : Rule D (equal_left H) s ps → IsCovered D s F q (without H s) ps
  equation_covers rule =
      equation_covered D s is H F e q typed clean (without H s) (without_sequent D s H is) refl rule.0 rule.1 rule.2.2.0 (subst (λ G. as_equal G ≡ Some rule.2.2.0) (one_formula rule.2.1 e) rule.2.2.1) ps rule.2.2.2

-- each node of a valid derivation is by its rule
module _ (D : Declarations) (s : Sequent) (step : Step) (ps : List Sequent) where
  mutual
    pub node_rule : (d : Derivation) → Valid D d → HasNode d s step ps → Rule D step s ps
    node_rule (goal g) valid node = absurd node
    node_rule (by t g ds) valid (inl here) = subst (λ l. Rule D step s l) here.2 (subst (λ k. Rule D step k (roots ds)) here.1 (subst (λ k. Rule D k g (roots ds)) here.0 valid.0))
    node_rule (by t g ds) valid (inr there) = nodes_rule ds valid.1 there

    nodes_rule : (ds : Derivations) → AllValid D ds → HaveNode ds s step ps → Rule D step s ps
    nodes_rule none valid node = absurd node
    nodes_rule (more d ds) valid (inl first) = node_rule d valid.0 first
    nodes_rule (more d ds) valid (inr others) = nodes_rule ds valid.1 others
