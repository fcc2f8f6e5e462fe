-- BY INDUCTION: what is proved layer by layer is derived, and so is whatever it opens to.
use Rattle.std.specs.Prelude.{All, Contains}
use Rattle.std.proofs.Common.{◌≡◌, ◌≢◌, inl, inr, ℕ, List, [], ◌∷◌, ◌++◌, map, codes, true, false, Some, None, refl, sym, ◌∙◌, ap, subst}
use Rattle.ab_term.specs.Types.{Ty}
use Rattle.ab_term.specs.Terms as tree
use Rattle.ab_term.specs.Terms.{logical, lam, spine, no_terms, term, Read}
use Rattle.ab_term.specs.Names.{support, HasOneTypeEach, permute, moved_by, EqualUpToNames}
use Rattle.ab_term.specs.Typing.{HasType}
use Rattle.ab_term.specs.Translation.{forget}
use Rattle.ab_term.specs.Substitution.{instance}
use Rattle.ab_term.specs.Abstraction.{over}
use Rattle.ab_term.proofs.Lists.{Contains-none}
use Rattle.ab_unifiers.specs.Clauses.{name_term}
use Rattle.ab_unifiers.specs.Choices.{in_order}
use Rattle.ab_unifiers.specs.Member.{HasMember}
use Rattle.ab_formulas.specs.BodyMarks.{mark_above}
use Rattle.ab_formulas.specs.Declarations.{Declarations, HaveSentences, HaveDefinitions, signature_in}
use Rattle.ab_formulas.specs.Formulas.{a_formula, StandsIn, IsSentence}
use Rattle.ab_formulas.specs.Forms.{Form, form_of, other, truth, equal, both, either, implies, for_all, exists, nabla}
use Rattle.ab_formulas.specs.GoalTerms.{HoldsOnly}
use Rattle.ab_formulas.specs.Marks as marks
use Rattle.ab_formulas.specs.Marks.{marks_of, MarksServe, MarksServeIn, erased}
use Rattle.ab_formulas.specs.NewNames.{given}
use Rattle.ab_formulas.specs.Programs.{HavePrograms}
use Rattle.ab_formulas.specs.Sequents.{Sequent, IsSequent}
use Rattle.ab_theory.specs.Atoms.{Defined, defined_form, defined_atom}
use Rattle.ab_theory.specs.Derivations.{Derivation, IsDerivation, proves, goals_admitted}
use Rattle.ab_theory.specs.Judgements.{Judgement, judgement_in, as_judgement}
use Rattle.ab_theory.specs.Opening.{open_goal}
use Rattle.ab_theory.specs.SpecRules.{some_item}
use Rattle.ab_theory.specs.Steps.{true_right, and_right, or_right, arrow_right, for_all_right, nabla_right, equal_right, definition_right}
use Rattle.ab_theory.proofs.Rooted.{first_sequent}
use Rattle.ab_search_trees.specs.Guesses.{a_variable}
use Rattle.ab_search_trees.specs.Judgements.{opened_once}
use Rattle.ab_search_proofs.specs.Coming.{ComesTo}
use Rattle.ab_search_proofs.specs.Likeness.{StandIn, replaced, AreLike}
use Rattle.ab_search_proofs.specs.Proved.{IsByClause, IsByRule, body_by}
use Rattle.ab_search_proofs.proofs.Begins.{begins}
use Rattle.ab_search_proofs.proofs.Connectives.{same_option, truth_step, equality_step, both_step, left_step, right_step, assuming_step}
use Rattle.ab_search_proofs.proofs.Constants.{constant_step}
use Rattle.ab_search_proofs.proofs.Derived.{after, no_premise, one_premise, two_premises, one_sequent, comes}
use Rattle.ab_search_proofs.proofs.Generic.{variable_step}
use Rattle.ab_search_proofs.proofs.Places.{some_label}
use Rattle.ab_search_proofs.proofs.Renamed.{rename-erased, rename_stands, marks_of-rename}
use Rattle.ab_search_proofs.proofs.Ruled.{rule_step}
use Rattle.ab_search_proofs.proofs.Served.{like_hypothesis}
use Rattle.ab_search_proofs.proofs.Unfolds.{clause_step}
use Rattle.ab_search_layers.specs.Layered.{OpensTo, it_stays, a_layer, in_both, in_nabla, in_exists, Gives, it_opens, Layered, by_truth, by_hypothesis, by_equality, by_both, by_left, by_right, by_assuming, by_constant, by_term, by_variable, by_layer, by_clause, by_rule, by_empty_list, MemberIsDefined}
use Rattle.ab_search_layers.proofs.Giving.{gives_stands, put_in, terms_first, leaf_given}
use Rattle.ab_search_layers.proofs.Opens.{layer, Opened, opened, opens_support}
use Rattle.ab_search_layers.proofs.Suiting.{IsLeaf}
use Rattle.ab_search_layers.proofs.TakenOut.{with_other_constants}
use Rattle.ab_search_layers.proofs.Through.{Derived, right_through}
use Rattle.ab_search_layers.proofs.Void.{void_list, void_proved}

-- WHAT DOESN'T OPEN: atoms, and judgements without a layer
atom_stays : (D : Declarations) (d : Defined) {C E : Read} → OpensTo C E → defined_atom D C ≡ Some d → E ≡ C
atom_stays D d it_stays e = refl
atom_stays D d (a_layer {F = C} {G = F} q o) e = absurd (let bad : None ≡ Some d = sym (ap (defined_atom D) (layer C F q).is) ∙ e in cc)
atom_stays D d (in_both a b) e = absurd (cc)
atom_stays D d (in_nabla o) e = absurd (cc)
atom_stays D d (in_exists o) e = absurd (cc)

judgement_stays : (j : Judgement) {C E : Read} → OpensTo C E → opened_once C ≡ None → as_judgement C ≡ Some j → E ≡ C
judgement_stays j it_stays none e = refl
judgement_stays j (a_layer {G = F} q o) none e = absurd (let bad : Some F ≡ None = sym q ∙ none in cc)
judgement_stays j (in_both a b) none e = absurd (cc)
judgement_stays j (in_nabla o) none e = absurd (cc)
judgement_stays j (in_exists o) none e = absurd (cc)

module _ (D : Declarations) (sentences : HaveSentences D) (definitions : HaveDefinitions D) (programs : HavePrograms D) (has : HasMember (signature_in D)) (defined : MemberIsDefined D) where
  abbrev Goal : List StandIn → List Read → Read → Type 0
  Goal vs Hs C = Derived D sentences definitions programs has vs Hs C

  -- BY A HYPOTHESIS of what gives it
  assumed : (ys : List (tree.Variable ℕ)) (vs : List StandIn) (Hs : List Read) (B C E : Read) → map replaced vs ≡ ys → Contains Hs B → EqualUpToNames (erased B) (erased C) → MarksServeIn C B → StandsIn a_formula C → Gives D ys C E → Goal vs Hs E
  assumed ys vs Hs B C E q m (ps, table, same) serves stands gives s is l =
      let h = like_hypothesis D vs Hs s.hypotheses B l.hypotheses m in
      let r = with_other_constants D vs ps table Hs E B s l m in
      let leaf : IsLeaf (permute ps B) C = record {
        stands = rename_stands (moved_by ps) a_formula B (h.2).formula.stands;
        stands_there = stands;
        same = ap forget (sym (rename-erased (moved_by ps) B)) ∙ same;
        serve = subst (MarksServe (marks_of C)) (sym (marks_of-rename (moved_by ps) B)) serves;
      } in
      leaf_given D sentences definitions programs has ys (permute ps B) C E gives leaf vs (λ y n. subst (λ ks. Contains ks y) (sym q) n) r.0 r.1 s is r.2

  -- what is seen of the form
  seen : (k : Form) {C E : Read} → OpensTo C E → form_of C ≡ k → Opened C E k
  seen k {C} {E} o e = subst (Opened C E) e (opened o)

  -- where no `exists` is shown
  alone : (ys : List (tree.Variable ℕ)) (vs : List StandIn) (Hs : List Read) (C E : Read) → map replaced vs ≡ ys → ((A : Ty) (R : Read) → form_of C ≡ exists A R → ⊥) → Gives D ys C E → ((K : Read) → OpensTo C K → Goal vs Hs K) → Goal vs Hs E
  alone ys vs Hs C E q none g base = terms_first D sentences definitions programs has ys vs Hs C E q g (λ K k. elim k [ inl o ↦ base K o | inr w ↦ elim w [ inl e ↦ absurd (none e.type e.scope e.here) | inr a ↦ absurd (none a.type a.scope a.here) ] ])

  pub derived : (ys : List (tree.Variable ℕ)) (Hs : List Read) (C : Read) → Layered D ys Hs C → (E : Read) → Gives D ys C E → (vs : List StandIn) → map replaced vs ≡ ys → Goal vs Hs E
  derived ys Hs C (by_truth e) E g vs q =
      alone ys vs Hs C E q (λ A R f. cc) g (λ K o s is l.
      after D sentences definitions programs has (AreLike D vs Hs []) true_right s is refl (truth_step D vs Hs K s l (ap form_of (seen truth o e) ∙ e)) (λ ps k j. no_premise D sentences definitions programs has vs Hs ps k))
  derived ys Hs C (by_hypothesis B m e serves) E g vs q = λ s is l. assumed ys vs Hs B C E q m e serves (gives_stands D ys g l.conclusion.formula.stands) g s is l
  derived ys Hs C (by_equality {A = A} {t = t} {u = u} e same) E g vs q =
      alone ys vs Hs C E q (λ A R f. cc) g (λ K o s is l.
      after D sentences definitions programs has (AreLike D vs Hs []) equal_right s is refl (equality_step D vs Hs K s l A t u (ap form_of (seen (equal A t u) o e) ∙ e) same) (λ ps k j. no_premise D sentences definitions programs has vs Hs ps k))
  derived ys Hs C (by_both {A = A} {B = B} e a b) E g vs q =
      alone ys vs Hs C E q (λ A R f. cc) g (λ K o s is l.
      let k = seen (both A B) o e in
      after D sentences definitions programs has (AreLike D vs Hs (k.0 ∷ k.1 ∷ [])) and_right s is refl (both_step D vs Hs K s l k.0 k.1 k.2)
      (two_premises D sentences definitions programs has vs Hs k.0 k.1 (derived ys Hs A a k.0 (it_opens k.3) vs q) (derived ys Hs B b k.1 (it_opens k.4) vs q)))
  derived ys Hs C (by_left {A = A} {B = B} e a) E g vs q =
      alone ys vs Hs C E q (λ A R f. cc) g (λ K o s is l.
      after D sentences definitions programs has (AreLike D vs Hs (A ∷ [])) (or_right true) s is refl (left_step D vs Hs K s l A B (ap form_of (seen (either A B) o e) ∙ e)) (one_premise D sentences definitions programs has vs Hs A (derived ys Hs A a A (it_opens it_stays) vs q)))
  derived ys Hs C (by_right {A = A} {B = B} e b) E g vs q =
      alone ys vs Hs C E q (λ A R f. cc) g (λ K o s is l.
      after D sentences definitions programs has (AreLike D vs Hs (B ∷ [])) (or_right false) s is refl (right_step D vs Hs K s l A B (ap form_of (seen (either A B) o e) ∙ e)) (one_premise D sentences definitions programs has vs Hs B (derived ys Hs B b B (it_opens it_stays) vs q)))
  derived ys Hs C (by_assuming {A = A} {B = B} e b) E g vs q =
      alone ys vs Hs C E q (λ A R f. cc) g (λ K o s is l.
      let x = some_label s in
      after D sentences definitions programs has (AreLike D vs (Hs ++ A ∷ []) (B ∷ [])) (arrow_right (given x.0)) s is refl (assuming_step D vs Hs K s l A B (given x.0) x.0 s (ap form_of (seen (implies A B) o e) ∙ e) (x.1, refl, refl))
      (one_premise D sentences definitions programs has vs (Hs ++ A ∷ []) B (derived ys (Hs ++ A ∷ []) B b B (it_opens it_stays) vs q)))
  derived ys Hs C (by_constant {F = F} {A = A} a e t out p) E g vs q =
      alone ys vs Hs C E q (λ A R f. cc) g (λ K o s is l.
      let k = seen (nabla A F) o e in
      let name = name_term (codes "x") a in
      after D sentences definitions programs has (AreLike D vs Hs (instance k.0 name ∷ [])) nabla_right s is refl (constant_step D vs Hs K s l A k.0 a k.1 t (λ m. out (opens_support o a m)))
      (one_premise D sentences definitions programs has vs Hs (instance k.0 name) (derived ys Hs (instance F name) p (instance k.0 name) (it_opens (k.2 name)) vs q)))
  derived ys Hs C (by_term {F = F} {A = A} t e typed known p) E g vs q =
      let holds = subst (λ ks. HoldsOnly ks t) (sym q) known in
      terms_first D sentences definitions programs has ys vs Hs C E q g (λ K k. elim k [
        | inl o ↦ (let x = seen (exists A F) o e in put_in D sentences definitions programs has vs Hs K x.0 t A x.1 typed holds (derived ys Hs (instance F t) p (instance x.0 t) (it_opens (x.2 t)) vs q))
        | inr w ↦ elim w [
          | inl w ↦ (
              let same : exists A F ≡ exists w.type w.scope = sym e ∙ w.here in
              let type : A ≡ w.type = cc in
              let scope : F ≡ w.scope = cc in
              let fits = subst (HasType (signature_in D) [] t) type typed in
              put_in D sentences definitions programs has vs Hs K w.scope_there t w.type w.there fits holds
              (derived ys Hs (instance F t) p (instance w.scope_there t) (subst (λ z. Gives D ys (instance z t) (instance w.scope_there t)) (sym scope) (w.each t fits)) vs q)
              )
          | inr w ↦ (
              let same : exists A F ≡ exists w.type w.scope = sym e ∙ w.here in
              let type : A ≡ w.type = cc in
              let scope : F ≡ w.scope = cc in
              derived ys Hs (instance F t) p K (subst (λ z. Gives D ys (instance z t) K) (sym scope) (w.any t (subst (HasType (signature_in D) [] t) type typed))) vs q
              )
        ]
      ])
  derived ys Hs C (by_variable {F = F} {A = A} n e new p) E g vs q =
      let x : tree.Variable ℕ = record { name = n; type = over (in_order (support C)) A } in
      let asked = instance F (a_variable n (in_order (support C)) A) in
      alone ys vs Hs C E q (λ A R f. cc) g (λ K o.
      subst (Goal vs Hs) (sym (seen (for_all A F) o e)) (λ s is l.
      after D sentences definitions programs has (λ ps. (v : StandIn) × (replaced v ≡ x) × AreLike D (v ∷ vs) Hs (asked ∷ []) ps) for_all_right s is refl
      (variable_step D vs Hs C s l A F n e (subst (All (λ (y : tree.Variable ℕ). y.name ≢ n)) (sym q) new))
      (λ ps k j. one_premise D sentences definitions programs has (k.0 ∷ vs) Hs asked (derived (x ∷ ys) Hs asked p asked (it_opens it_stays) (k.0 ∷ vs) (ap (λ z. z ∷ map replaced vs) k.1 ∙ ap (λ z. x ∷ z) q)) ps k.2 j)))
  derived ys Hs C (by_layer {F = F} e once p) E g vs q =
      alone ys vs Hs C E q (λ A R f. cc) g (λ K o. elim (seen other o e) [
        | inl same ↦ (
            let k = layer C F once in
            subst (Goal vs Hs) (sym (same ∙ k.is)) (right_through D sentences definitions programs has vs Hs k.context k.goal k.kind (derived ys Hs F p (open_goal marks.plain k.context k.goal) (it_opens k.opens) vs q))
            )
        | inr k ↦ derived ys Hs F p K (it_opens (subst (λ z. OpensTo z K) (same_option (sym k.1 ∙ once)) k.2)) vs q
      ])
  derived ys Hs C (by_clause d c us ns i p) E g vs q =
      alone ys vs Hs C E q (λ A R f. let bad : None ≡ Some d = sym (ap (λ k. defined_form D k C) f) ∙ i.atom in cc) g (λ K o.
      subst (Goal vs Hs) (sym (atom_stays D d o i.atom)) (λ s is l.
      let step = clause_step D definitions vs Hs C s is l d c us ns (subst (λ ks. IsByClause D ks C d c us ns) (sym q) i) in
      let B = body_by d c us ns in
      after D sentences definitions programs has (λ ps. (t : Sequent) × (ps ≡ t ∷ []) × ComesTo D vs Hs B t) (definition_right step.0) s is refl step.1
      (λ ps k j. one_sequent D sentences definitions programs has k.0 (λ h. comes D sentences definitions programs has vs Hs B (derived ys Hs B p B (it_opens it_stays) vs q) k.0 k.2 h) ps k.1 j)))
  derived ys Hs C (by_rule us B F none i down p) E g vs q =
      alone ys vs Hs C E q (λ A R f. let bad : None ≡ Some i.judgement = sym (ap (λ k. judgement_in k C) f) ∙ i.is in cc) g (λ K o.
      subst (Goal vs Hs) (sym (judgement_stays i.judgement o none i.is)) (λ s is l.
      let step = rule_step D programs has vs Hs C s is l us B (subst (λ ks. IsByRule D ks C us B) (sym q) i) in
      after D sentences definitions programs has (λ ps. (t : Sequent) × (ps ≡ t ∷ []) × ComesTo D vs Hs B t) (definition_right step.0) s is refl step.1
      (λ ps k j. one_sequent D sentences definitions programs has k.0 (λ h. comes D sentences definitions programs has vs Hs B (derived ys Hs F p B down vs q) k.0 k.2 h) ps k.1 j)))
  derived ys Hs C (by_empty_list j is unfocused nil p) E g vs q =
      let v = void_list (mark_above j.sign) j.context j.goal nil in
      void_proved D sentences definitions programs has defined ys Hs (some_item (mark_above j.sign) j.context j.goal) p v.1 vs E

  -- OF A SENTENCE
  pub sentence_derived : (F : Read) → IsSentence (signature_in D) F → Layered D [] [] F → (d : Derivation) × IsDerivation D F d
  sentence_derived F is p =
      let one : HasOneTypeEach (support F) = subst HasOneTypeEach (sym is.nameless) (λ a b m k e. absurd (Contains-none a m)) in
      let s : Sequent = proves F 0 in
      let sequent : IsSequent D s = first_sequent D F 0 is.formula is.closed one in
      let r = derived [] [] F p F (it_opens it_stays) [] refl s sequent (begins D s sequent) in
      (r.0, record { tree = record { sentence = is; valid = (r.1).valid; closed = (r.1).closed; derives = (r.1).derives }; whole = ap goals_admitted (r.1).nothing_owed })
