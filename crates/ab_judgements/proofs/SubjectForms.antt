-- What a subject of a goal's formula is, on shared terms: its atom or judgement is typed, and its ways are those of its reading.
use Rattle.std.specs.Prelude.{Contains, IfSome, IsSome, slice_get}
use Rattle.std.specs.List.{All, take-map}
use Rattle.std.specs.Option.{option_map}
use Rattle.std.proofs.Common.{◌≡◌, ℕ, List, [], ◌∷◌, ◌++◌, map, take, length, Option, Some, None, refl, sym, ◌∙◌, ap, subst}
use Rattle.std.proofs.Math.Seq.{take-append_seam}
use Rattle.std.proofs.lemmas.List.Elements.{All-map, All-contains}
use Rattle.ab_term.specs.Types.{Ty, prop, o, olist}
use Rattle.ab_term.specs.Terms as tree
use Rattle.ab_term.specs.Terms.{Read, constant, spine}
use Rattle.ab_term.specs.Typing.{Signature, HasType, typed_spine}
use Rattle.ab_term.specs.Names.{support}
use Rattle.ab_norm.specs.ab_store.specs.Naming.{IsTerm}
use Rattle.ab_norm.specs.ab_store.specs.declared.node.CellId.{CellId}
use Rattle.ab_norm.specs.ab_store.specs.declared.node.TermId.{TermId}
use Rattle.ab_unifiers.specs.Replacements.{Cell}
use Rattle.ab_formulas.specs.Declarations.{signature_in}
use Rattle.ab_formulas.specs.Formulas.{IsFormula}
use Rattle.ab_formulas.specs.Programs.{program_in}
use Rattle.ab_formulas.specs.Sequents.{Variable, Sequent, IsSequent, formulas_of}
use Rattle.ab_logic.specs.Worlds.{IsWorld, Holds, read, variable_of, declarations_of}
use Rattle.ab_logic.specs.SequentReadings.{sequent_of}
use Rattle.ab_logic.specs.declared.world.World.{World}
use Rattle.ab_logic.specs.declared.sequent.Sequent.{Sequent as Kept}
use Rattle.ab_logic.proofs.Growing.{same_constants}
use Rattle.ab_theory.specs.Atoms.{Defined, Choice}
use Rattle.ab_theory.specs.Judgements as plain
use Rattle.ab_theory.specs.Judgements.{as_judgement}
use Rattle.ab_theory.specs.SpecRules.{SpecRule, rules_of}
use Rattle.ab_theory.specs.Splits.{NeverArises}
use Rattle.ab_theory.specs.Subjects as subjects
use Rattle.ab_theory.specs.Subjects.{Way, an_atom, a_judgement, subject_of, way_by_choice, way_by_rule, ways_of}
use Rattle.ab_theory.proofs.JudgementRules.{judgement_known}
use Rattle.ab_theory.proofs.RuleDemands.{FocusKnown, JudgementKnown}
use Rattle.ab_theory.proofs.SubjectParts.{IsSubject, subject_is, made_there}
use Rattle.ab_theory.proofs.Taken.{IsAtomOf, atom_of}
use Rattle.ab_alternatives.specs.FirstChoice.{Finds, IsFirstAt}
use Rattle.ab_alternatives.specs.declared.first_choice.Found.{Found}
use Rattle.ab_alternatives.specs.declared.first_choice.Found.TheVariants.{Closed, Open, Stuck, Nothing}
use Rattle.ab_judgements.specs.DemandReadings.{IsTypedJudgement}
use Rattle.ab_judgement_forms.specs.JudgementReadings.{judgement_read, HoldsJudgement}
use Rattle.ab_judgements.specs.RuleSteps.{NoneOf, IsFoundBy}
use Rattle.ab_judgements.specs.RuleWalks.{HasListed}
use Rattle.ab_judgements.specs.SubjectAnswers.{IsFirstWay, FindsWay}
use Rattle.ab_judgements.specs.SubjectReadings.{subject_read, HasRules}
use Rattle.ab_judgement_forms.specs.declared.judgements.Judgement.{Judgement}
use Rattle.ab_judgements.specs.declared.subjects.Subject.TheVariants as subject
use Rattle.ab_judgements.proofs.LaterJudgements.{rules_known}

-- cells that read as the same variables
pub same_variables : (w : World) (xs ys : List CellId) → map (variable_of w) xs ≡ map (variable_of w) ys → xs ≡ ys
same_variables w [] [] e = refl
same_variables w [] (y ∷ ys) e = absurd (cc)
same_variables w (x ∷ xs) [] e = absurd (cc)
same_variables w (x ∷ xs) (y ∷ ys) e =
    let one : variable_of w x ≡ variable_of w y = cc in
    let others : map (variable_of w) xs ≡ map (variable_of w) ys = cc in
    let number : x.0 ≡ y.0 = ap (λ (v : Variable). v.number) one in
    let cell : x ≡ y = ap (λ n. record { 0 = n }) number in
    ap (λ c. c ∷ xs) cell ∙ ap (λ l. y ∷ l) (same_variables w xs ys others)

-- a formula of a goal
pub formula_in : (w : World) (s : Kept) → IsSequent (declarations_of w) (sequent_of w s) → (F : Read) → Contains (formulas_of (sequent_of w s)) F → IsFormula (signature_in (declarations_of w)) F
formula_in w s is F c = All-contains (IsFormula (signature_in (declarations_of w))) (formulas_of (sequent_of w s)) F is.formulas c

-- A DEFINED ATOM that the formula is, is typed
pub atom_typed : (w : World) (F : Read) → IsFormula (signature_in (declarations_of w)) F → (d : Defined) → Some (an_atom d) ≡ subject_of (declarations_of w) F → HasType (signature_in (declarations_of w)) [] (spine (constant d.predicate) d.arguments) prop
atom_typed w F formula d e =
    let atom : IsAtomOf (signature_in (declarations_of w)) d = atom_of (declarations_of w) (signature_in (declarations_of w)) F d formula.typed (subject_is (declarations_of w) F (an_atom d) (sym e)) in
    typed_spine atom.signature atom.taken

-- A JUDGEMENT that the formula is, is typed
module _ (w : World) (is : IsWorld w) (j : Judgement) where
  abbrev J : plain.Judgement
  J = judgement_read w j

  -- it has rules
  has_rules : (r : Option (List SpecRule)) → rules_of (program_in (declarations_of w)) J ≡ r → IsSome r → (rs : List SpecRule) × (rules_of (program_in (declarations_of w)) J ≡ Some rs)
  has_rules None e h = absurd (cc)
  has_rules (Some rs) e h = (rs, e)

  -- so it reads
  reads_so : (x : subjects.Subject) (r : Option (List SpecRule)) → rules_of (program_in (declarations_of w)) J ≡ r → option_map (a_judgement J) r ≡ Some x → (rs : List SpecRule) × HasListed w j rs × (a_judgement J rs ≡ x)
  reads_so x None e h = absurd (cc)
  reads_so x (Some rs) e h = (rs, e, cc)

  pub judgement_reads : (x : subjects.Subject) → subject_read w (subject.Judgement j) ≡ Some x → (rs : List SpecRule) × HasListed w j rs × (a_judgement J rs ≡ x)
  judgement_reads x e = reads_so x (rules_of (program_in (declarations_of w)) J) refl e

  module _ (held : HoldsJudgement w j) (has : HasRules w (subject.Judgement j)) (F : Read) (formula : IsFormula (signature_in (declarations_of w)) F) (e : subject_read w (subject.Judgement j) ≡ subject_of (declarations_of w) F) where
    abbrev sg : Signature
    sg = signature_in (declarations_of w)

    there : (t : TermId) (A : Ty) → Holds w t → HasType sg [] (read w t) A → IsTerm w.types w.store [] t A
    there t A h d = (h, subst (λ (s : Signature). HasType s [] (read w t) A) (sym (same_constants w is)) d)

    of_focus : (M : List tree.Nominal) (f : Option TermId) → IfSome f (Holds w) → FocusKnown sg (λ y. Unit {0}) M (option_map (read w) f) → IfSome f (λ G. IsTerm w.types w.store [] G o)
    of_focus M None h k = h
    of_focus M (Some G) h k = there G o h k.typed

    pub judgement_typed : IsTypedJudgement w j
    judgement_typed =
        let rules = has_rules (rules_of (program_in (declarations_of w)) J) refl (rules_known w j has) in
        let says : IsSubject (declarations_of w) F (a_judgement J rules.0) = subject_is (declarations_of w) F (a_judgement J rules.0) (sym e ∙ ap (option_map (a_judgement J)) rules.1) in
        let known : JudgementKnown sg (λ y. Unit {0}) (support F) J = judgement_known sg (λ y. Unit {0}) (support F) F J says.0 formula.typed (record { over = λ y c. tt; names = λ a c. c }) in
        record {
          context = there j.context olist held.context known.context.typed;
          focus = of_focus (support F) j.focus held.focus known.focus;
          goal = there j.goal o held.goal known.goal.typed;
        }

-- THE FIRST WAY of an atom is by its first choice
module _ (cells : List (Cell (List ℕ))) (s : Sequent) (d : Defined) where
  abbrev Never : Way → Type 0
  Never y = NeverArises (y.case cells)

  first_so : (place : ℕ) (c : Choice) → IsFirstAt cells s d place c → IsFirstWay cells s (an_atom d) place (way_by_choice s d c)
  first_so place c h = record {
    there = made_there (way_by_choice s d) _ place c h.there;
    none_before = subst (All Never) (sym (take-map (way_by_choice s d) place _)) (All-map Never (way_by_choice s d) _ h.none_before);
  }

  pub finds_way : (f : Found) → Finds cells s d f → FindsWay cells s (an_atom d) f
  finds_way (Closed place) h = (way_by_choice s d h.0, first_so place h.0 h.1, h.2)
  finds_way (Open place name) h = (way_by_choice s d h.0, first_so place h.0 h.1, h.2, h.3, h.4, h.5)
  finds_way (Stuck place i) h = (way_by_choice s d h.0, first_so place h.0 h.1, h.2)
  finds_way Nothing h = All-map Never (way_by_choice s d) _ h

-- and that of a judgement by its first rule
module _ (cells : List (Cell (List ℕ))) (s : Sequent) (j : plain.Judgement) where
  abbrev NeverSo : Way → Type 0
  NeverSo y = NeverArises (y.case cells)

  abbrev way : SpecRule → Way
  way = way_by_rule s j

  at_length : (xs ys : List SpecRule) (r : SpecRule) → slice_get (xs ++ r ∷ ys) (length xs) ≡ Some r
  at_length [] ys r = refl
  at_length (x ∷ xs) ys r = at_length xs ys r

  first_rule_so : (xs ys : List SpecRule) (r : SpecRule) → NoneOf cells s j xs → (place : ℕ) → place ≡ length xs → IsFirstWay cells s (a_judgement j (xs ++ r ∷ ys)) place (way r)
  first_rule_so xs ys r none place e = record {
    there = made_there way (xs ++ r ∷ ys) place r (ap (slice_get (xs ++ r ∷ ys)) e ∙ at_length xs ys r);
    none_before = subst (All NeverSo) (sym (take-map way place (xs ++ r ∷ ys) ∙ ap (λ n. map way (take n (xs ++ r ∷ ys))) e ∙ ap (map way) (take-append_seam xs (r ∷ ys)))) (All-map NeverSo way xs none);
  }

  pub found_by : (xs ys : List SpecRule) (r : SpecRule) → NoneOf cells s j xs → (f : Found) → IsFoundBy cells (way r) (length xs) f → FindsWay cells s (a_judgement j (xs ++ r ∷ ys)) f
  found_by xs ys r none (Closed place) h = (way r, first_rule_so xs ys r none place h.0, h.1)
  found_by xs ys r none (Open place name) h = (way r, first_rule_so xs ys r none place h.0, h.1, h.2, h.3, h.4)
  found_by xs ys r none (Stuck place i) h = (way r, first_rule_so xs ys r none place h.0, h.1)
  found_by xs ys r none Nothing h = absurd h

  pub found_none : (rs : List SpecRule) → NoneOf cells s j rs → FindsWay cells s (a_judgement j rs) Nothing
  found_none rs none = All-map NeverSo way rs none
