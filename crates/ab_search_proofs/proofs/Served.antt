-- The step by a hypothesis.
use Rattle.std.proofs.Common.{◌≡◌, ◌≢◌, inl, inr, ℕ, List, [], ◌∷◌, bytes_eq, cond, Some, refl, sym, ◌∙◌, ap, subst}
use Rattle.std.specs.Prelude.{AllPairs, Contains}
use Rattle.std.proofs.lemmas.Bool.{false_from_ne_true}
use Rattle.std.proofs.lemmas.List.Elements.{All-contains}
use Rattle.std.proofs.lemmas.Slice.Eq.{bytes_eq-Decides}
use Rattle.ab_term.specs.Terms.{Read}
use Rattle.ab_term.specs.Names.{rename, permute, moved_by, EqualUpToNames}
use Rattle.ab_term.specs.Translation.{forget}
use Rattle.ab_term.specs.Variables.{Substitution, value_in, image}
use Rattle.ab_term.specs.Sameness.{same_number}
use Rattle.ab_term.proofs.Depends.{nothing}
use Rattle.ab_term.proofs.Lists.{Contains-none, Contains-cases, Contains-here, Contains-there, AllPairs-parts}
use Rattle.ab_term.proofs.Translations.{translate-rename}
use Rattle.ab_term.proofs.UpToNames.{up_to_names-symmetric, up_to_names-transitive}
use Rattle.ab_unifiers.specs.Clauses.{Each}
use Rattle.ab_unifiers.proofs.Following.{plain, image_plain}
use Rattle.ab_formulas.specs.Declarations.{Declarations}
use Rattle.ab_formulas.specs.Formulas.{a_formula, StandsIn}
use Rattle.ab_formulas.specs.Marks.{erased, marks_of, MarksServe, MarksServeIn}
use Rattle.ab_formulas.specs.Sequents.{Hypothesis, Sequent, IsSequent, formulas, named, formula_of}
use Rattle.ab_formulas.proofs.Images.{image_stands}
use Rattle.ab_theory.specs.Steps.{initial}
use Rattle.ab_search_trees.proofs.Unmarked.{makes_erased, marks_made_same}
use Rattle.ab_search_proofs.specs.Likeness.{StandIn, replacing, IsLike, IsLikeGoal, AreLike}
use Rattle.ab_search_proofs.specs.Taking.{LeadsTo}
use Rattle.ab_search_proofs.proofs.Renamed.{marks_of-rename, rename-erased, rename_stands}
use Rattle.ab_search_proofs.proofs.Alike.{makes_it, made_so}
use Rattle.ab_search_proofs.proofs.StandIns.{stand_ins_nameless, under_up_to_names}
use Rattle.ab_search_proofs.proofs.Taken.{leads_to}

-- where names differ each hypothesis is found by its name
pub found_by_name : (hs : List Hypothesis) → AllPairs (λ (h k : Hypothesis). h.name ≢ k.name) hs → (h : Hypothesis) → Contains hs h → named hs h.name ≡ Some h.formula
found_by_name [] d h m = absurd (Contains-none h m)
found_by_name (k ∷ hs) d h m = elim (Contains-cases k hs h m) [
  | inl e ↦ ap (λ b. cond b (Some k.formula) (named hs h.name)) ((bytes_eq-Decides k.name h.name).1 (ap (λ (g : Hypothesis). g.name) e)) ∙ ap (λ (g : Hypothesis). Some g.formula) e
  | inr n ↦
      let parts = AllPairs-parts (λ (g f : Hypothesis). g.name ≢ f.name) k hs d in
      ap (λ b. cond b (Some k.formula) (named hs h.name)) (false_from_ne_true (bytes_eq k.name h.name) (λ t. All-contains (λ (g : Hypothesis). k.name ≢ g.name) hs h parts.0 n ((bytes_eq-Decides k.name h.name).0 t)))
      ∙ found_by_name hs parts.1 h n
]

module _ (D : Declarations) (vs : List StandIn) where
  abbrev r : Substitution ℕ (List ℕ)
  r = replacing vs

  -- a hypothesis of the goal has one that is like it
  pub like_hypothesis : (Hs : List Read) (hs : List Hypothesis) (B : Read) → Each (IsLike D vs) Hs (formulas hs) → Contains Hs B → (h : Hypothesis) × Contains hs h × IsLike D vs B h.formula
  like_hypothesis [] hs B e m = absurd (Contains-none B m)
  like_hypothesis (A ∷ Hs) [] B e m = absurd e
  like_hypothesis (A ∷ Hs) (h ∷ hs) B e m = elim (Contains-cases A Hs B m) [
    | inl q ↦ (h, Contains-here h hs, subst (λ k. IsLike D vs k h.formula) q e.0)
    | inr n ↦ let rest = like_hypothesis Hs hs B e.1 n in (rest.0, Contains-there h hs rest.0 rest.1, rest.2)
  ]

  module _ (F G : Read) (l : IsLike D vs F G) where
    abbrev there : Read
    there = image same_number r F

    there_stands : StandsIn a_formula there
    there_stands = image_stands (value_in same_number r) a_formula F (l.formula).stands

    -- marks stay
    pub like_marks : marks_of F ≡ marks_of G
    like_marks =
        let m = moved_by (l.same).0 in
        marks_made_same (plain r) F there (l.formula).stands (sym (image_plain r F))
        ∙ sym (marks_of-rename m there)
        ∙ marks_made_same nothing (permute (l.same).0 there) G (rename_stands m a_formula there there_stands) (makes_it (permute (l.same).0 there) G (l.same).2)

    -- and likeness goes past them
    pub like_erased : EqualUpToNames (image same_number r (erased F)) (erased G)
    like_erased =
        let ps = (l.same).0 in
        let m = moved_by ps in (
          ps,
          (l.same).1,
          translate-rename (λ v. v) (λ x. tt) m (image same_number r (erased F))
              ∙ ap (rename m) (image_plain r (erased F) ∙ makes_erased (plain r) F there (l.formula).stands (sym (image_plain r F)))
              ∙ sym (translate-rename (λ v. v) (λ x. tt) m (erased there))
              ∙ ap forget (rename-erased m there)
              ∙ made_so (erased (permute ps there)) (erased G) (makes_erased nothing (permute ps there) G (rename_stands m a_formula there there_stands) (makes_it (permute ps there) G (l.same).2)),
        )

  pub hypothesis_step : (Hs : List Read) (C B : Read) (s : Sequent) → IsSequent D s → IsLikeGoal D vs Hs C s → Contains Hs B → EqualUpToNames (erased B) (erased C) → MarksServeIn C B
      → (name : List ℕ) × LeadsTo D (initial name) s (AreLike D vs Hs [])
  hypothesis_step Hs C B s is l m e serves =
      let h = like_hypothesis Hs s.hypotheses B l.hypotheses m in
      let G = (h.0).formula in
      let found : formula_of s (h.0).name ≡ Some G = found_by_name s.hypotheses is.labels_differ h.0 h.1 in
      let same : EqualUpToNames (erased G) (erased s.conclusion) =
      up_to_names-transitive (erased G) (image same_number r (erased C)) (erased s.conclusion)
      (up_to_names-transitive (erased G) (image same_number r (erased B)) (image same_number r (erased C))
      (up_to_names-symmetric (image same_number r (erased B)) (erased G) (like_erased B G h.2))
      (under_up_to_names r (stand_ins_nameless s vs l.variables) (erased B) (erased C) e))
      (like_erased C s.conclusion l.conclusion) in
      let serve : MarksServeIn s.conclusion G = subst (λ k. MarksServe k (marks_of G)) (like_marks C s.conclusion l.conclusion) (subst (MarksServe (marks_of C)) (like_marks B G h.2) serves) in (
        (h.0).name,
        leads_to D (initial (h.0).name) s (AreLike D vs Hs []) (λ cells are. ([], (G, found, (same, (serve, refl))))) (λ cells are i f. f.2.1.1)
            (λ cells are ps k. subst (AreLike D vs Hs []) (sym k.2.1.1) tt),
      )
