-- What a formula is, with other numbers for variables: its form, the atom or judgement, and the subject.
use Rattle.std.specs.Option.{option_map}
use Rattle.std.proofs.Common.{◌≡◌, ℕ, List, map, Option, Some, None, refl, ◌∙◌, ap}
use Rattle.ab_term.specs.Logical as plain
use Rattle.ab_term.specs.Logical.{Logical}
use Rattle.ab_term.specs.Terms.{constant, logical, nominal, variable, index, lam, spine, Terms, no_terms, term, Read}
use Rattle.ab_term.specs.Translation.{translate_all}
use Rattle.ab_unifiers.specs.Renumbering.{renumbered}
use Rattle.ab_formulas.specs.Declarations.{Declarations, Block, block_in}
use Rattle.ab_formulas.specs.Programs.{program_in}
use Rattle.ab_formulas.specs.Forms.{Form, truth, falsity, both, either, implies, equal, for_all, exists, nabla, marked, other, form_alone, form_with, form_between, form_given, form_of}
use Rattle.ab_formulas.specs.Marks as marks
use Rattle.ab_formulas.specs.Marks.{Sign}
use Rattle.ab_theory.specs.Atoms.{Defined, defined_as, defined_form, defined_atom}
use Rattle.ab_theory.specs.Judgements.{Judgement, judgement_as, judgement_in, as_judgement}
use Rattle.ab_theory.specs.SpecRules.{SpecRule, rules_of}
use Rattle.ab_theory.specs.Subjects.{Subject, an_atom, a_judgement, with_rules, atom_or, subject_of}
use Rattle.ab_effects.specs.Judgements.{renumbered_judgement, renumbered_rule}
use Rattle.ab_effects.proofs.Following.{moved_atom}
use Rattle.ab_effects.proofs.SameRules.{rules_moved}

module _ (f : ℕ → ℕ) where
  abbrev T : Read → Read
  T = renumbered f

  abbrev Ts : Terms ℕ (List ℕ) → Terms ℕ (List ℕ)
  Ts = translate_all f (λ x. x)

  -- THE FORM

  abbrev pub form_renumbered : Form → Form
  form_renumbered truth = truth
  form_renumbered falsity = falsity
  form_renumbered (both A B) = both (T A) (T B)
  form_renumbered (either A B) = either (T A) (T B)
  form_renumbered (implies A B) = implies (T A) (T B)
  form_renumbered (equal A t u) = equal A (T t) (T u)
  form_renumbered (for_all A F) = for_all A (T F)
  form_renumbered (exists A F) = exists A (T F)
  form_renumbered (nabla A F) = nabla A (T F)
  form_renumbered (marked m A) = marked m (T A)
  form_renumbered other = other

  alone_moved : (l : Logical) → form_alone l ≡ form_renumbered (form_alone l)
  alone_moved plain.truth = refl
  alone_moved plain.falsity = refl
  alone_moved _ = refl

  with_moved : (l : Logical) (t : Read) → form_with l (T t) ≡ form_renumbered (form_with l t)
  with_moved (plain.universal A) t = refl
  with_moved (plain.existential A) t = refl
  with_moved (plain.nabla A) t = refl
  with_moved (plain.star i) t = refl
  with_moved (plain.at_sign i) t = refl
  with_moved (plain.plus i) t = refl
  with_moved (plain.hash i) t = refl
  with_moved _ t = refl

  between_moved : (l : Logical) (t u : Read) → form_between l (T t) (T u) ≡ form_renumbered (form_between l t u)
  between_moved plain.conjunction t u = refl
  between_moved plain.disjunction t u = refl
  between_moved plain.implication t u = refl
  between_moved (plain.equality A) t u = refl
  between_moved _ t u = refl

  given_moved : (l : Logical) (ts : Terms ℕ (List ℕ)) → form_given l (Ts ts) ≡ form_renumbered (form_given l ts)
  given_moved l no_terms = alone_moved l
  given_moved l (term t no_terms) = with_moved l t
  given_moved l (term t (term u no_terms)) = between_moved l t u
  given_moved l (term t (term u (term v ts))) = refl

  pub form_moved : (C : Read) → form_of (T C) ≡ form_renumbered (form_of C)
  form_moved (lam A x t) = refl
  form_moved (spine (constant c) ts) = refl
  form_moved (spine (nominal a) ts) = refl
  form_moved (spine (variable y) ts) = refl
  form_moved (spine (index i) ts) = refl
  form_moved (spine (logical l) ts) = given_moved l ts

  -- THE DEFINED ATOM that it is

  as_moved : (D : Declarations) (m : Sign) (C : Read) → defined_as D m (T C) ≡ option_map (moved_atom f) (defined_as D m C)
  as_moved D m (lam A x t) = refl
  as_moved D m (spine (logical l) ts) = refl
  as_moved D m (spine (nominal a) ts) = refl
  as_moved D m (spine (variable y) ts) = refl
  as_moved D m (spine (index i) ts) = refl
  as_moved D m (spine (constant p) ts) = go (block_in D p)
    where
      go : (o : Option Block)
          → option_map (λ b. record { sign = m; predicate = p; arguments = Ts ts; block = b }) o ≡ option_map (moved_atom f) (option_map (λ b. record { sign = m; predicate = p; arguments = ts; block = b }) o)
      go None = refl
      go (Some b) = refl

  by_form_moved : (D : Declarations) (k : Form) (C : Read) → defined_form D (form_renumbered k) (T C) ≡ option_map (moved_atom f) (defined_form D k C)
  by_form_moved D (marked m A) C = as_moved D m A
  by_form_moved D other C = as_moved D marks.plain C
  by_form_moved D _ C = refl

  pub atom_moved : (D : Declarations) (C : Read) → defined_atom D (T C) ≡ option_map (moved_atom f) (defined_atom D C)
  atom_moved D C = ap (λ k. defined_form D k (T C)) (form_moved C) ∙ by_form_moved D (form_of C) C

  -- THE JUDGEMENT that it is

  judged_moved : (m : Sign) (C : Read) → judgement_as m (T C) ≡ option_map (renumbered_judgement f) (judgement_as m C)
  judged_moved m (spine (logical plain.judgement) (term L (term G no_terms))) = refl
  judged_moved m (spine (logical plain.focused_judgement) (term L (term F (term A no_terms)))) = refl
  judged_moved m _ = refl

  in_moved : (k : Form) (C : Read) → judgement_in (form_renumbered k) (T C) ≡ option_map (renumbered_judgement f) (judgement_in k C)
  in_moved (marked m t) C = judged_moved m t
  in_moved other C = judged_moved marks.plain C
  in_moved _ C = refl

  pub judgement_moved : (C : Read) → as_judgement (T C) ≡ option_map (renumbered_judgement f) (as_judgement C)
  judgement_moved C = ap (λ k. judgement_in k (T C)) (form_moved C) ∙ in_moved (form_of C) C

  -- THE SUBJECT that it is

  abbrev pub moved_subject : Subject → Subject
  moved_subject (an_atom d) = an_atom (moved_atom f d)
  moved_subject (a_judgement j rs) = a_judgement (renumbered_judgement f j) (map (renumbered_rule f) rs)

  ruled_moved : (j : Judgement) (o : Option (List SpecRule)) → option_map (a_judgement (renumbered_judgement f j)) (option_map (map (renumbered_rule f)) o) ≡ option_map moved_subject (option_map (a_judgement j) o)
  ruled_moved j None = refl
  ruled_moved j (Some rs) = refl

  rules_with_moved : (D : Declarations) (o : Option Judgement) → with_rules D (option_map (renumbered_judgement f) o) ≡ option_map moved_subject (with_rules D o)
  rules_with_moved D None = refl
  rules_with_moved D (Some j) = ap (option_map (a_judgement (renumbered_judgement f j))) (rules_moved f (program_in D) j) ∙ ruled_moved j (rules_of (program_in D) j)

  either_moved : (o : Option Defined) (p : Option Subject) → atom_or (option_map (moved_atom f) o) (option_map moved_subject p) ≡ option_map moved_subject (atom_or o p)
  either_moved None p = refl
  either_moved (Some d) p = refl

  pub subject_moved : (D : Declarations) (C : Read) → subject_of D (T C) ≡ option_map moved_subject (subject_of D C)
  subject_moved D C =
      ap (λ o. atom_or o (with_rules D (as_judgement (T C)))) (atom_moved D C)
      ∙ ap (λ o. atom_or (option_map (moved_atom f) (defined_atom D C)) o) (ap (with_rules D) (judgement_moved C) ∙ rules_with_moved D (as_judgement C))
      ∙ either_moved (defined_atom D C) (with_rules D (as_judgement C))
