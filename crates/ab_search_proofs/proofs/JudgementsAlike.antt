-- What is like a judgement is one, of the same mark.
use Rattle.std.proofs.Common.{sym, ◌≡◌, List, Some, None, refl, ◌∙◌, ap}
use Rattle.ab_term.specs.Logical.{judgement, focused_judgement}
use Rattle.ab_term.specs.Terms.{Nominal, logical, spine, no_terms, term, Read}
use Rattle.ab_term.specs.Names.{permute, moved_by}
use Rattle.ab_term.specs.Translation.{forget}
use Rattle.ab_term.specs.Variables.{image}
use Rattle.ab_term.specs.Sameness.{same_number}
use Rattle.ab_term.proofs.Depends.{nothing}
use Rattle.ab_formulas.specs.Declarations.{Declarations}
use Rattle.ab_formulas.specs.Forms.{Form, truth, falsity, both, either, implies, equal, for_all, exists, nabla, marked, other, form_of}
use Rattle.ab_formulas.specs.Marks.{Sign, plain}
use Rattle.ab_theory.specs.Atoms.{defined_as, defined_form, defined_atom}
use Rattle.ab_theory.specs.Judgements.{Judgement, judgement_as, judgement_in, as_judgement}
use Rattle.ab_search_trees.proofs.Forms.{FormMade, begins_logical, one_more, no_more}
use Rattle.ab_search_trees.proofs.Images.{form_under}
use Rattle.ab_search_proofs.specs.Likeness.{StandIn, replacing, IsLike}
use Rattle.ab_search_proofs.proofs.Renamed.{form_renamed}
use Rattle.ab_search_proofs.proofs.Alike.{like_form, made_so}
use Rattle.ab_search_proofs.proofs.AtomsAlike.{marked_made, other_made}

module _ (D : Declarations) (vs : List StandIn) where
  -- THE JUDGEMENT of the sequent, which is no atom
  pub record JudgementLike (ps : List (Nominal × Nominal)) (j : Judgement) (G : Read) : Type 0 where
    pub judged : Judgement
    pub is : as_judgement G ≡ Some judged
    pub sign : judged.sign ≡ j.sign
    pub no_atom : defined_atom D G ≡ None
    pub context : forget (permute ps (image same_number (replacing vs) j.context)) ≡ forget judged.context
    pub goal : forget (permute ps (image same_number (replacing vs) j.goal)) ≡ forget judged.goal
    pub unfocused : j.focus ≡ None → judged.focus ≡ None
    pub focused : (F : Read) → j.focus ≡ Some F → (K : Read) × (judged.focus ≡ Some K) × (forget (permute ps (image same_number (replacing vs) F)) ≡ forget K)

  module _ (ps : List (Nominal × Nominal)) where
    abbrev here : Read → Read
    here t = permute ps (image same_number (replacing vs) t)

    as_like : (m : Sign) (A B G : Read) (j : Judgement) → judgement_as m A ≡ Some j → forget (here A) ≡ forget B → as_judgement G ≡ judgement_as m B → defined_atom D G ≡ defined_as D m B → JudgementLike ps j G
    as_like m (spine (logical judgement) (term L (term H no_terms))) B G j e s is none =
        let given : Judgement = record { sign = m; context = L; focus = None; goal = H } in
        let same : given ≡ j = cc in
        let b = begins_logical judgement (term (forget (here L)) (term (forget (here H)) no_terms)) B s in
        let one = one_more b.0 b.2 in
        let two = one_more one.1 one.4 in
        let whole : B ≡ spine (logical judgement) (term one.0 (term two.0 no_terms)) = b.1 ∙ ap (spine (logical judgement)) (one.2 ∙ ap (term one.0) (two.2 ∙ ap (term two.0) (no_more two.4))) in
        record {
          judged = record { sign = m; context = one.0; focus = None; goal = two.0 };
          is = is ∙ ap (judgement_as m) whole;
          sign = ap (λ k. k.sign) same;
          no_atom = none ∙ ap (defined_as D m) whole;
          context = ap (λ k. forget (here k.context)) (sym same) ∙ one.3;
          goal = ap (λ k. forget (here k.goal)) (sym same) ∙ two.3;
          unfocused = λ q. refl;
          focused = λ F q. absurd (let bad : None ≡ Some F = ap (λ k. k.focus) same ∙ q in cc);
        }
    as_like m (spine (logical focused_judgement) (term L (term K (term H no_terms)))) B G j e s is none =
        let given : Judgement = record { sign = m; context = L; focus = Some K; goal = H } in
        let same : given ≡ j = cc in
        let b = begins_logical focused_judgement (term (forget (here L)) (term (forget (here K)) (term (forget (here H)) no_terms))) B s in
        let one = one_more b.0 b.2 in
        let two = one_more one.1 one.4 in
        let three = one_more two.1 two.4 in
        let whole : B ≡ spine (logical focused_judgement) (term one.0 (term two.0 (term three.0 no_terms))) =
        b.1 ∙ ap (spine (logical focused_judgement)) (one.2 ∙ ap (term one.0) (two.2 ∙ ap (term two.0) (three.2 ∙ ap (term three.0) (no_more three.4)))) in
        record {
          judged = record { sign = m; context = one.0; focus = Some two.0; goal = three.0 };
          is = is ∙ ap (judgement_as m) whole;
          sign = ap (λ k. k.sign) same;
          no_atom = none ∙ ap (defined_as D m) whole;
          context = ap (λ k. forget (here k.context)) (sym same) ∙ one.3;
          goal = ap (λ k. forget (here k.goal)) (sym same) ∙ three.3;
          unfocused = λ q. absurd (let bad : Some K ≡ None = ap (λ k. k.focus) same ∙ q in cc);
          focused = λ F q. (let there : Some K ≡ Some F = ap (λ k. k.focus) same ∙ q in let in_focus : K ≡ F = cc in (two.0, refl, ap (λ k. forget (here k)) (sym in_focus) ∙ two.3));
        }
    as_like m _ B G j e s is none = absurd (cc)

  pub judgement_like : (C G : Read) (l : IsLike D vs C G) (j : Judgement) → as_judgement C ≡ Some j → JudgementLike (l.same).0 j G
  judgement_like C G l j e = go (form_of C) refl (like_form D vs C G l) e
    where
      go : (k : Form) → form_of C ≡ k → FormMade nothing (form_renamed (moved_by (l.same).0) (form_under (replacing vs) k)) (form_of G) → judgement_in k C ≡ Some j → JudgementLike (l.same).0 j G
      go (marked m A) p made q =
          let b = marked_made nothing m (permute (l.same).0 (image same_number (replacing vs) A)) (form_of G) made in
          as_like (l.same).0 m A b.0 G j q (made_so (permute (l.same).0 (image same_number (replacing vs) A)) b.0 b.2) (ap (λ k. judgement_in k G) b.1) (ap (λ k. defined_form D k G) b.1)
      go other p made q = let o = other_made nothing (form_of G) made in as_like (l.same).0 plain C G G j q (l.same).2 (ap (λ k. judgement_in k G) o) (ap (λ k. defined_form D k G) o)
      go truth p made q = absurd (cc)
      go falsity p made q = absurd (cc)
      go (both A B) p made q = absurd (cc)
      go (either A B) p made q = absurd (cc)
      go (implies A B) p made q = absurd (cc)
      go (equal A t u) p made q = absurd (cc)
      go (for_all A F) p made q = absurd (cc)
      go (exists A F) p made q = absurd (cc)
      go (nabla A F) p made q = absurd (cc)
