-- THE ROW OF `case` covers the hypothesis, by its form.
use Rattle.std.proofs.Common.{◌≡◌, inl, inr, ℕ, List, [], Bool, true, false, Option, Some, None, refl, sym, ◌∙◌, ap, subst}
use Rattle.std.specs.Prelude.{if◌then◌else◌, All, slice_get}
use Rattle.ab_term.specs.Types.{Ty}
use Rattle.ab_term.specs.Terms.{Read}
use Rattle.ab_term.specs.Variables.{Substitution, IsTyped, IsClean}
use Rattle.ab_unifiers.specs.Member.{HasMember}
use Rattle.ab_formulas.specs.Declarations.{Declarations, HaveDefinitions, signature_in}
use Rattle.ab_formulas.specs.Forms as forms
use Rattle.ab_formulas.specs.Forms.{Form, marked, other, form_of, as_equal, equal_in}
use Rattle.ab_formulas.specs.NewNames.{Label, IsNoVariable, IsNamedFor}
use Rattle.ab_formulas.specs.Programs.{HavePrograms}
use Rattle.ab_formulas.specs.Sequents.{Variable, Sequent, IsSequent, formula_of, formulas_of, without}
use Rattle.ab_theory.specs.Atoms.{defined_atom, defined_form}
use Rattle.ab_theory.specs.Judgements.{as_judgement, judgement_in}
use Rattle.ab_theory.specs.Row.{Takes, solves}
use Rattle.ab_theory.proofs.Naming.{named_new}
use Rattle.ab_theory.proofs.One.{becomes_more}
use Rattle.ab_theory.proofs.Sequents.{without_sequent}
use Rattle.ab_theory.proofs.Splitting.{split_more}
use Rattle.ab_theory.proofs.SubjectParts.{subject_is}
use Rattle.ab_coverage.specs.HypothesisCover.{IsCovered}
use Rattle.ab_coverage.proofs.HypothesisCovered.{all_stays, others_stay, subject_covered, equation_covered}
use Rattle.ab_coverage.proofs.NewHypothesis.{Stays}
use Rattle.ab_effects.specs.CaseAnalysis.{AllOpened}
use Rattle.ab_effects.specs.Row as effects
use Rattle.ab_effects.specs.ProofCommands.{cases, analysing}
use Rattle.ab_effects.specs.Solutions.{IsSolved}
use Rattle.ab_case_coverage.specs.CaseGoals.{ComeTo}

no_value : {A X : Type 0} {o : Option A} {a : A} → o ≡ None → o ≡ Some a → X
no_value {a = a} n e = absurd (let bad : None ≡ Some a = sym n ∙ e in cc)

-- where the formula is none of these, nothing is asked
other_form : (D : Declarations) (s : Sequent) (F : Read) (q : Substitution ℕ (List ℕ)) (rest : Sequent) (gs : List Sequent) → defined_atom D F ≡ None → as_judgement F ≡ None → as_equal F ≡ None → IsCovered D s F q rest gs
other_form D s F q rest gs atom judgement equation = record {
  atoms = λ d B e. no_value atom e;
  judgements = λ j B e. no_value judgement e;
  focused_ones = λ j G B e. no_value judgement e;
  equations = λ t u e. no_value equation e;
}

module _ (D : Declarations) (definitions : HaveDefinitions D) (programs : HavePrograms D) (has : HasMember (signature_in D)) (l : Label) (H : List ℕ) (s : Sequent) (F : Read) (is : IsSequent D s) (e : formula_of s H ≡ Some F)
    (q : Substitution ℕ (List ℕ)) (q_typed : IsTyped (signature_in D) q) (q_clean : IsClean q (formulas_of s)) where
  -- what stays is a sequent over the same variables
  module _ (rest : Sequent) (staying : Stays D s rest) (rest_is : IsSequent D rest) (same : rest.variables ≡ s.variables) where
    abbrev Covers : Form → List Sequent → Type 0
    Covers f us = (gs : List Sequent) × ComeTo D f l gs us × IsCovered D s F q rest gs

    analysed : (us : List Sequent) → effects.Leads (analysing D F l s rest) us → (gs : List Sequent) × AllOpened D l gs us × IsCovered D s F q rest gs
    analysed us leads =
        let gs = leads.2.2.0 in
        let parted = leads.2.2.1 in (
          gs,
          subst (AllOpened D l gs) (sym leads.2.2.2.2) leads.2.2.2.1,
          subject_covered D s is H F e q q_typed q_clean definitions programs has rest rest.counter staying parted.2 parted.0 parted.1 gs leads.0 (subject_is D F leads.0 leads.1)
              (split_more (IsNamedFor D) (λ k hint x. IsNoVariable k x) (named_new D) parted.3),
        )

    -- an equation is solved there
    taken : (t u : Read) (gs : List Sequent) (solved : IsSolved D rest t u gs) → Takes (solves (λ k hint x. IsNoVariable k x) solved.0 rest t u) gs
    taken t u gs (cells, are, inl b) = inl (b.0, becomes_more (IsNamedFor D) (λ k hint x. IsNoVariable k x) (named_new D) cells rest b.0 t u b.1, b.2)
    taken t u gs (cells, are, inr b) = inr b

    solved_covered : (A : Ty) (t u : Read) → form_of F ≡ forms.equal A t u → (us : List Sequent) → effects.Leads (cases D (forms.equal A t u) F l s rest) us → Covers (forms.equal A t u) us
    solved_covered A t u q2 us leads =
        let solved = leads.1 in (
          leads.0,
          leads.2,
          equation_covered D s is H F e q q_typed q_clean rest rest_is same solved.0 (subst (λ xs. All (λ (x : Variable). slice_get solved.0 x.number ≡ Some (record { hint = x.name; type = x.type })) xs) same solved.1)
              (t, u) (ap equal_in q2) leads.0 (taken t u leads.0 solved),
        )

    -- of the other forms
    nothing : (f : Form) → form_of F ≡ f → defined_form D f F ≡ None → judgement_in f F ≡ None → equal_in f ≡ None → (us : List Sequent) → IsCovered D s F q rest us
    nothing f form atom judgement equation us = other_form D s F q rest us (ap (λ k. defined_form D k F) form ∙ atom) (ap (λ k. judgement_in k F) form ∙ judgement) (ap equal_in form ∙ equation)

    by_form : (f : Form) → form_of F ≡ f → (us : List Sequent) → effects.Leads (cases D f F l s rest) us → Covers f us
    by_form (marked m t) form us leads = analysed us leads
    by_form other form us leads = analysed us leads
    by_form (forms.equal A t u) form us leads = solved_covered A t u form us leads
    by_form forms.truth form us leads = (us, refl, nothing forms.truth form refl refl refl us)
    by_form forms.falsity form us leads = (us, refl, nothing forms.falsity form refl refl refl us)
    by_form (forms.both A B) form us leads = (us, refl, nothing (forms.both A B) form refl refl refl us)
    by_form (forms.either A B) form us leads = (us, refl, nothing (forms.either A B) form refl refl refl us)
    by_form (forms.implies A B) form us leads = (us, refl, nothing (forms.implies A B) form refl refl refl us)
    by_form (forms.for_all A t) form us leads = (us, refl, nothing (forms.for_all A t) form refl refl refl us)
    by_form (forms.exists A t) form us leads = (us, refl, nothing (forms.exists A t) form refl refl refl us)
    by_form (forms.nabla A t) form us leads = (us, refl, nothing (forms.nabla A t) form refl refl refl us)

  pub case_covered : (keep : Bool) (us : List Sequent) → effects.Leads (cases D (form_of F) F l s (if keep then s else without H s)) us
      → (gs : List Sequent) × ComeTo D (form_of F) l gs us × IsCovered D s F q (if keep then s else without H s) gs
  case_covered true us leads = by_form s (all_stays D s is) is refl (form_of F) refl us leads
  case_covered false us leads = by_form (without H s) (others_stay D s H is) (without_sequent D s H is) refl (form_of F) refl us leads
