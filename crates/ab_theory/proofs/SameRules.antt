-- Where no clause is added the rules of judgements stay, and what may be analysed and unfolded stays so.
use Rattle.std.proofs.Common.{◌≡◌, ◌++◌, [], Option, Some, None, refl, ◌∙◌, ap, append-nil}
use Rattle.std.specs.Option.{option_map}
use Rattle.ab_term.specs.Terms.{constant, logical, nominal, variable, index, lam, spine, Read}
use Rattle.ab_formulas.specs.Declarations.{Declarations}
use Rattle.ab_formulas.specs.Forms as forms
use Rattle.ab_formulas.specs.Forms.{Form, form_of}
use Rattle.ab_formulas.specs.Marks.{Sign, plain}
use Rattle.ab_formulas.specs.Programs.{program_in}
use Rattle.ab_formulas.proofs.Declaring.{extends_not, extends_on}
use Rattle.ab_formulas.proofs.Programs.{program_in-append}
use Rattle.ab_theory.specs.Atoms.{Defined, defined_as, defined_form, defined_atom}
use Rattle.ab_theory.specs.Judgements.{Judgement, judgement_as, judgement_in, as_judgement}
use Rattle.ab_theory.specs.SpecRules.{rules_of}
use Rattle.ab_theory.specs.Subjects.{Subject, with_rules, atom_or, subject_of}
use Rattle.ab_theory.specs.Growth.{AddsNoClause}
use Rattle.ab_theory.proofs.Lasting.{still_atom}

-- declarations that grow so

pub adds_none : (D : Declarations) → AddsNoClause D D
adds_none D = record { longer = extends_not D; program = refl }

pub adds_on : (C D E : Declarations) → AddsNoClause C D → AddsNoClause D E → AddsNoClause C E
adds_on C D E a b = record { longer = extends_on C D E a.longer b.longer; program = b.program ∙ a.program }

pub adds_behind : (D more : Declarations) → program_in more ≡ [] → AddsNoClause D (D ++ more)
adds_behind D more none = record {
  longer = (more, refl);
  program = program_in-append D more ∙ ap (λ cs. program_in D ++ cs) none ∙ append-nil (program_in D);
}

-- the rules

pub same_rules : (D E : Declarations) → program_in E ≡ program_in D → (j : Option Judgement) → with_rules E j ≡ with_rules D j
same_rules D E same None = refl
same_rules D E same (Some j) = ap (λ cs. option_map (Subject.a_judgement j) (rules_of cs j)) same

-- a judgement is no defined atom

no_atom_as : (E : Declarations) (m k : Sign) (t : Read) (j : Judgement) → judgement_as m t ≡ Some j → defined_as E k t ≡ None
no_atom_as E m k (spine (logical l) ts) j e = refl
no_atom_as E m k (lam A x t) j e = absurd (cc)
no_atom_as E m k (spine (constant c) ts) j e = absurd (cc)
no_atom_as E m k (spine (nominal a) ts) j e = absurd (cc)
no_atom_as E m k (spine (variable y) ts) j e = absurd (cc)
no_atom_as E m k (spine (index i) ts) j e = absurd (cc)

no_atom_in : (E : Declarations) (f : Form) (F : Read) (j : Judgement) → judgement_in f F ≡ Some j → defined_form E f F ≡ None
no_atom_in E forms.truth F j e = absurd (cc)
no_atom_in E forms.falsity F j e = absurd (cc)
no_atom_in E (forms.both A B) F j e = absurd (cc)
no_atom_in E (forms.either A B) F j e = absurd (cc)
no_atom_in E (forms.implies A B) F j e = absurd (cc)
no_atom_in E (forms.equal A t u) F j e = absurd (cc)
no_atom_in E (forms.for_all A t) F j e = absurd (cc)
no_atom_in E (forms.exists A t) F j e = absurd (cc)
no_atom_in E (forms.nabla A t) F j e = absurd (cc)
no_atom_in E (forms.marked m A) F j e = no_atom_as E m m A j e
no_atom_in E forms.other F j e = no_atom_as E plain plain F j e

no_atom : (E : Declarations) (F : Read) (j : Judgement) → as_judgement F ≡ Some j → defined_atom E F ≡ None
no_atom E F j e = no_atom_in E (form_of F) F j e

module _ (D E : Declarations) (grows : AddsNoClause D E) where
  by_judgement : (F : Read) (o : Option Judgement) (x : Subject) → as_judgement F ≡ o → with_rules D o ≡ Some x → atom_or (defined_atom E F) (with_rules E o) ≡ Some x
  by_judgement F None x e h = absurd (cc)
  by_judgement F (Some j) x e h =
      ap (λ a. atom_or a (with_rules E (Some j))) (no_atom E F j e) ∙ same_rules D E grows.program (Some j) ∙ h

  by_atom : (F : Read) (a : Option Defined) (x : Subject) → defined_atom D F ≡ a → atom_or a (with_rules D (as_judgement F)) ≡ Some x → subject_of E F ≡ Some x
  by_atom F (Some d) x e h = ap (λ b. atom_or b (with_rules E (as_judgement F))) (still_atom D E grows.longer F d e) ∙ h
  by_atom F None x e h = by_judgement F (as_judgement F) x refl h

  pub still_subject : (F : Read) (x : Subject) → subject_of D F ≡ Some x → subject_of E F ≡ Some x
  still_subject F x h = by_atom F (defined_atom D F) x refl h
