-- THE WAY BY A HYPOTHESIS, against guesses: where a map of a guessed hypothesis's constants serves, one of the hypothesis in the tree does.
use Rattle.std.proofs.Common.{◌≡◌, inl, inr, ℕ, List, [], ◌∷◌, map, Bool, Option, Some, None, option_map, refl, sym, ◌∙◌, ap, subst}
use Rattle.std.specs.Prelude.{Contains}
use Rattle.std.proofs.lemmas.List.Elements.{All-nil, All-cons, Contains-append_right}
use Rattle.ab_term.specs.Terms.{Nominal, Variable, Term, Read}
use Rattle.ab_term.specs.Typing.{Signature}
use Rattle.ab_term.specs.Names.{support, rename, permute, moved_by}
use Rattle.ab_term.specs.Translation.{forget, EqualPastHints}
use Rattle.ab_term.specs.Variables.{image_by}
use Rattle.ab_term.proofs.Lists.{Contains-none, Contains-here, Contains-there, Contains-cases, Contains-map}
use Rattle.ab_term.proofs.Depends.{image_agrees}
use Rattle.ab_term.proofs.Renamings.{rename-image_by}
use Rattle.ab_term.proofs.Permuting.{Each, moved, OfOneType, moved_type, moved_injective, moved_each, rename_agrees}
use Rattle.ab_term.proofs.Translations.{translate-rename}
use Rattle.ab_term.proofs.UpToNames.{rename-itself}
use Rattle.ab_unifiers.proofs.Following.{Put}
use Rattle.ab_unifiers.specs.Choices.{in_order, for_each}
use Rattle.ab_unifiers.proofs.Choosing.{gathered, ordered_contains, contains_ordered, ordered_pairs}
use Rattle.ab_formulas.specs.Declarations.{Declarations, signature_in}
use Rattle.ab_formulas.specs.Forms.{form_of}
use Rattle.ab_formulas.specs.Marks.{MarksServe, MarksServeIn, marks_of, erased}
use Rattle.ab_search_trees.specs.Goals.{Goal, Now}
use Rattle.ab_search_trees.specs.Maps.{mapping, maps}
use Rattle.ab_search_trees.specs.Ways.{equating, by_truth, by_hypothesis}
use Rattle.ab_search_trees.specs.Guesses.{AreTargets}
use Rattle.ab_search_trees.proofs.Forms.{Makes}
use Rattle.ab_search_trees.proofs.Facts.{IsPart, AllParts, IsTask}
use Rattle.ab_search_trees.proofs.Against.{IsState, MakesEach, IsGuess}
use Rattle.ab_search_trees.proofs.Hypotheses.{erased_names, made_names}
use Rattle.ab_search_trees.proofs.Unmarked.{makes_erased, marks_made_same}
use Rattle.ab_search_trees.proofs.Nameless.{nameless_support}
use Rattle.ab_search_trees.proofs.Mapped.{mapped_by, mapped_each, moved_within, map_there}
use Rattle.ab_search_completeness.proofs.Going.{Goes}
use Rattle.ab_search_completeness.proofs.Connectives.{in_front}

-- a hypothesis of the second goal is made of one of the first
pub record Given (sg : Signature) (now : Now) (branch : List Nominal) (u : Bool) (f : Put) (ts : List Read) (v : Read) : Type 0 where
  pub from : Read
  pub there : Contains ts from
  pub makes : Makes f from v
  pub part : IsPart sg now branch u from

pub given_from : (sg : Signature) (now : Now) (branch : List Nominal) (u : Bool) (f : Put) (ts vs : List Read) → AllParts sg now branch u ts → MakesEach f ts vs → (v : Read) → Contains vs v → Given sg now branch u f ts v
given_from sg now branch u f [] [] p m v c = absurd (Contains-none v c)
given_from sg now branch u f [] (w ∷ vs) p m v c = absurd m
given_from sg now branch u f (t ∷ ts) [] p m v c = absurd m
given_from sg now branch u f (t ∷ ts) (w ∷ vs) p m v c = elim (Contains-cases w vs v c) [
  | inl e ↦ record { from = t; there = Contains-here t ts; makes = m.0 ∙ ap forget e; part = p.0 }
  | inr n ↦ (let r = given_from sg now branch u f ts vs p.1 m.1 v n in record { from = r.from; there = Contains-there t ts r.from r.there; makes = r.makes; part = r.part })
]

each_type : (bs ns : List Nominal) → map (λ a. a.type) ns ≡ map (λ b. b.type) bs → Each (λ b n. b.type ≡ n.type) bs ns
each_type [] [] e = tt
each_type [] (n ∷ ns) e = absurd (cc)
each_type (b ∷ bs) [] e = absurd (cc)
each_type (b ∷ bs) (n ∷ ns) e = let first : n.type ≡ b.type = cc in let rest : map (λ a. a.type) ns ≡ map (λ b. b.type) bs = cc in (sym first, each_type bs ns rest)

module _ (D : Declarations) (now : Now) (f : Put) (s : IsState (signature_in D) now f) where
  -- a renaming goes through a guess, since that puts in no constant
  renamed_made : (p : Nominal → Nominal) (T : Term ℕ (Unit {0})) → image_by f (rename p T) ≡ rename p (image_by f T)
  renamed_made p T = sym (rename-image_by p f T ∙ image_agrees (λ x. option_map (rename p) (f x)) f (rename p T) (λ y c. value y (f y) refl))
    where
      value : (y : Variable ℕ) (o : Option (Term ℕ (Unit {0}))) → f y ≡ o → option_map (rename p) (f y) ≡ f y
      value y None e = ap (option_map (rename p)) e ∙ sym e
      value y (Some v) e = ap (option_map (rename p)) e ∙ ap Some (rename_agrees p (λ a. a) v (λ a m. absurd (Contains-none a (subst (λ l. Contains l a) (nameless_support v (s.fits.has y v e)) m))) ∙ rename-itself v) ∙ sym e

  pub goes_hypothesis : (g h : Goal) → IsTask (signature_in D) now g → IsGuess f g h → (B : Read) (ns : List Nominal) → Contains h.hypotheses B → AreTargets h.constants (in_order (support B)) ns
      → EqualPastHints (permute (mapping (in_order (support B)) ns) (erased B)) (erased h.conclusion) → MarksServeIn h.conclusion B → Goes D now f g []
  goes_hypothesis g h t a B ns there targets same serves =
      let sg = signature_in D in
      let given = given_from sg now g.constants g.untouched f g.hypotheses h.hypotheses t.hypotheses a.hypotheses B there in
      let E = given.from in
      let part = given.part in
      let concluded = t.conclusion in
      let few = in_order (support B) in
      let many = in_order (support E) in
      let p = moved few ns in
      let one_type : OfOneType few ns = each_type few ns targets.types in
      let keeps : (b : Nominal) → (p b).type ≡ b.type = moved_type few ns one_type in
      let of_branch : (b : Nominal) → Contains (support E) b → Contains g.constants b = part.facts.constants in
      let of_few : (b : Nominal) → Contains few b → Contains g.constants b = λ b m. of_branch b (made_names D now f s E B given.makes b (contains_ordered (support B) b m)) in
      let of_ns : (b : Nominal) → Contains ns b → Contains g.constants b = λ b m. subst (λ l. Contains l b) a.constants (targets.there b m) in
      let into : (b : Nominal) → Contains many b → Contains g.constants (p b) = λ b m. moved_within (λ k. Contains g.constants k) few ns of_few of_ns b (of_branch b (contains_ordered (support E) b m)) in
      let ps = mapping many (map p many) in
      let L = permute ps (erased E) in
      let R = erased g.conclusion in
      let w = equating D now g L R ((g.conclusion, E) ∷ []) in
      let way_there : Contains (by_hypothesis D now g E) w = Contains-map (λ qs. equating D now g (permute qs (erased E)) R ((g.conclusion, E) ∷ [])) (maps many g.constants) ps (map_there p keeps (moved_injective few ns) many g.constants (ordered_pairs (support E)) into) in
      let renamed : L ≡ rename p (erased E) = rename_agrees (moved_by ps) p (erased E) (λ b m. mapped_by p many b (ordered_contains (support E) b (erased_names E b m))) in
      let guessed : permute (mapping few ns) (erased B) ≡ rename p (erased B) = rename_agrees (moved_by (mapping few ns)) p (erased B) (λ b m. mapped_each p few ns (moved_each few ns one_type (ordered_pairs (support B)) targets.different) b (ordered_contains (support B) b (erased_names B b m))) in
      record {
        way = w;
        there = λ sight. in_front D now g w (Contains-append_right (by_truth D now g (form_of g.conclusion)) (for_each (by_hypothesis D now g) g.hypotheses) w (gathered (by_hypothesis D now g) g.hypotheses E w given.there way_there));
        put = f;
        fits = s.fits;
        same = λ y l. refl;
        alike = (
          ap (image_by f) (ap forget renamed ∙ translate-rename (λ v. v) (λ y. tt) p (erased E))
              ∙ renamed_made p (forget (erased E))
              ∙ ap (rename p) (makes_erased f E B part.formula.stands given.makes)
              ∙ sym (translate-rename (λ v. v) (λ y. tt) p (erased B))
              ∙ ap forget (sym guessed)
              ∙ same
              ∙ sym (makes_erased f g.conclusion h.conclusion concluded.formula.stands a.conclusion),
          tt,
        );
        serve = All-cons (λ (q : Read × Read). MarksServeIn q.0 q.1) (g.conclusion, E) []
            (subst (λ m. MarksServe m (marks_of E)) (sym (marks_made_same f g.conclusion h.conclusion concluded.formula.stands a.conclusion)) (subst (λ m. MarksServe (marks_of h.conclusion) m) (sym (marks_made_same f E B part.formula.stands given.makes)) serves))
            (All-nil (λ (q : Read × Read). MarksServeIn q.0 q.1));
        goals = tt;
      }
