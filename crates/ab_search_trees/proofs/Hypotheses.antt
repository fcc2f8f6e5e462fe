-- THE WAY BY A HYPOTHESIS, against guesses.
use Rattle.std.proofs.Common.{◌≡◌, inl, inr, ℕ, List, [], ◌∷◌, map, Bool, Option, Some, None, option_map, refl, sym, ◌∙◌, ap, subst}
use Rattle.std.specs.Prelude.{Contains}
use Rattle.std.proofs.lemmas.List.Elements.{All-nil, All-cons, Contains-append_right}
use Rattle.ab_term.specs.Types.{prop}
use Rattle.ab_term.specs.Terms.{Nominal, Variable, Term, Read}
use Rattle.ab_term.specs.Typing.{Signature, HasType}
use Rattle.ab_term.specs.Names.{support, rename, permute, moved_by}
use Rattle.ab_term.specs.Translation.{forget, EqualPastHints}
use Rattle.ab_term.specs.Variables.{variables, image_by}
use Rattle.ab_term.proofs.Lists.{Contains-none, Contains-here, Contains-there, Contains-cases, Contains-map}
use Rattle.ab_term.proofs.Depends.{image_agrees}
use Rattle.ab_term.proofs.Stands.{Either, has, has_names, has_variables, support-image}
use Rattle.ab_term.proofs.Renamings.{rename-image_by, rename_typed}
use Rattle.ab_term.proofs.Permuting.{Each, moved, OfOneType, moved_type, moved_injective, moved_each, rename_agrees}
use Rattle.ab_term.proofs.Translations.{translate-rename, support-translate}
use Rattle.ab_term.proofs.UpToNames.{rename-itself}
use Rattle.ab_unifiers.proofs.Following.{Put}
use Rattle.ab_unifiers.specs.Choices.{in_order, for_each}
use Rattle.ab_unifiers.proofs.Choosing.{gathered, ordered_contains, contains_ordered, ordered_pairs}
use Rattle.ab_formulas.specs.Declarations.{Declarations, signature_in}
use Rattle.ab_formulas.specs.Forms.{form_of}
use Rattle.ab_formulas.specs.Marks.{MarksServe, MarksServeIn, marks_of, erased}
use Rattle.ab_search_trees.specs.Goals.{Goal, Now}
use Rattle.ab_search_trees.specs.Maps.{mapping, maps}
use Rattle.ab_search_trees.specs.Ways.{equating, by_truth, by_hypothesis}
use Rattle.ab_search_trees.specs.Tree.{Serve}
use Rattle.ab_search_trees.specs.Guesses.{AreTargets}
use Rattle.ab_search_trees.proofs.Forms.{Makes}
use Rattle.ab_search_trees.proofs.Facts.{IsPart, AllParts}
use Rattle.ab_search_trees.proofs.Against.{IsState, MakesEach, Finds, on_way}
use Rattle.ab_search_trees.proofs.ByForm.{on_front}
use Rattle.ab_search_trees.proofs.Unmarked.{erased_typed, erased_has, variables_rename, makes_erased, marks_made_same}
use Rattle.ab_search_trees.proofs.Nameless.{nameless_support}
use Rattle.ab_search_trees.proofs.Mapped.{mapped_by, mapped_each, moved_within, map_there}

-- a hypothesis of the second goal is made of one of the first
record Given (sg : Signature) (now : Now) (branch : List Nominal) (u : Bool) (f : Put) (ts : List Read) (v : Read) : Type 0 where
  pub from : Read
  pub there : Contains ts from
  pub makes : Makes f from v
  pub part : IsPart sg now branch u from

given_from : (sg : Signature) (now : Now) (branch : List Nominal) (u : Bool) (f : Put) (ts vs : List Read) → AllParts sg now branch u ts → MakesEach f ts vs → (v : Read) → Contains vs v → Given sg now branch u f ts v
given_from sg now branch u f [] [] p m v c = absurd (Contains-none v c)
given_from sg now branch u f [] (w ∷ vs) p m v c = absurd m
given_from sg now branch u f (t ∷ ts) [] p m v c = absurd m
given_from sg now branch u f (t ∷ ts) (w ∷ vs) p m v c = elim (Contains-cases w vs v c) [
  | inl e ↦ record { from = t; there = Contains-here t ts; makes = m.0 ∙ ap forget e; part = p.0 }
  | inr n ↦ (let r = given_from sg now branch u f ts vs p.1 m.1 v n in record { from = r.from; there = Contains-there t ts r.from r.there; makes = r.makes; part = r.part })
]

each_type : (bs ns : List Nominal) → map (λ a. a.type) ns ≡ map (λ b. b.type) bs → Each (λ b n. b.type ≡ n.type) bs ns
each_type [] [] e = tt
each_type [] (n ∷ ns) e = absurd (cc)
each_type (b ∷ bs) [] e = absurd (cc)
each_type (b ∷ bs) (n ∷ ns) e = let first : n.type ≡ b.type = cc in let rest : map (λ a. a.type) ns ≡ map (λ b. b.type) bs = cc in (sym first, each_type bs ns rest)

pub erased_names : (t : Read) (a : Nominal) → Contains (support (erased t)) a → Contains (support t) a
erased_names t = has_names (λ b. Contains (support t) b) (λ y. Contains (variables t) y) (erased t) (erased_has (Either (λ b. Contains (support t) b) (λ y. Contains (variables t) y)) t (has (λ b. Contains (support t) b) (λ y. Contains (variables t) y) t (λ b m. m) (λ y m. m)))

pub erased_variables : (t : Read) (y : Variable ℕ) → Contains (variables (erased t)) y → Contains (variables t) y
erased_variables t = has_variables (λ b. Contains (support t) b) (λ y. Contains (variables t) y) (erased t) (erased_has (Either (λ b. Contains (support t) b) (λ y. Contains (variables t) y)) t (has (λ b. Contains (support t) b) (λ y. Contains (variables t) y) t (λ b m. m) (λ y m. m)))

module _ (D : Declarations) where
  -- a guess puts in no constant
  nameless : (now : Now) (f : Put) → IsState (signature_in D) now f → (y : Variable ℕ) (v : Term ℕ (Unit {0})) → f y ≡ Some v → support v ≡ []
  nameless now f s y v e = nameless_support v (s.fits.has y v e)

  -- what it makes has no more constants
  pub made_names : (now : Now) (f : Put) → IsState (signature_in D) now f → (t v : Read) → Makes f t v → (a : Nominal) → Contains (support v) a → Contains (support t) a
  made_names now f s t v m a c =
      elim (support-image f (forget t) a (subst (λ l. Contains l a) (sym (support-translate (λ y. y) (λ y. tt) v) ∙ ap support (sym m)) c)) [
        | inl b ↦ subst (λ l. Contains l a) (support-translate (λ y. y) (λ y. tt) t) b
        | inr b ↦ absurd (Contains-none a (subst (λ l. Contains l a) (nameless now f s b.0 b.1 (b.2).1) b.3))
      ]

  -- a renaming goes through it
  made_renamed : (now : Now) (f : Put) → IsState (signature_in D) now f → (p : Nominal → Nominal) (T : Term ℕ (Unit {0})) → image_by f (rename p T) ≡ rename p (image_by f T)
  made_renamed now f s p T = sym (rename-image_by p f T ∙ image_agrees (λ x. option_map (rename p) (f x)) f (rename p T) (λ y c. value y (f y) refl))
    where
      value : (y : Variable ℕ) (o : Option (Term ℕ (Unit {0}))) → f y ≡ o → option_map (rename p) (f y) ≡ f y
      value y None e = ap (option_map (rename p)) e ∙ sym e
      value y (Some v) e = ap (option_map (rename p)) e ∙ ap Some (rename_agrees p (λ a. a) v (λ a m. absurd (Contains-none a (subst (λ l. Contains l a) (nameless now f s y v e) m))) ∙ rename-itself v) ∙ sym e

  pub finds_hypothesis : (h : Goal) (B : Read) (ns : List Nominal) → Contains h.hypotheses B → AreTargets h.constants (in_order (support B)) ns
      → EqualPastHints (permute (mapping (in_order (support B)) ns) (erased B)) (erased h.conclusion) → MarksServeIn h.conclusion B → (hs : List Goal) → Finds D hs → Finds D (h ∷ hs)
  finds_hypothesis h B ns there targets same serves hs c now f [] s t a ls l = absurd a
  finds_hypothesis h B ns there targets same serves hs c now f (g ∷ gs) s t a ls l =
      let sg = signature_in D in
      let given = given_from sg now g.constants g.untouched f g.hypotheses h.hypotheses (t.0).hypotheses (a.0).hypotheses B there in
      let E = given.from in
      let part = given.part in
      let concluded = (t.0).conclusion in
      let few = in_order (support B) in
      let many = in_order (support E) in
      let p = moved few ns in
      let one_type : OfOneType few ns = each_type few ns targets.types in
      let keeps : (b : Nominal) → (p b).type ≡ b.type = moved_type few ns one_type in
      let of_branch : (b : Nominal) → Contains (support E) b → Contains g.constants b = part.facts.constants in
      let of_few : (b : Nominal) → Contains few b → Contains g.constants b = λ b m. of_branch b (made_names now f s E B given.makes b (contains_ordered (support B) b m)) in
      let of_ns : (b : Nominal) → Contains ns b → Contains g.constants b = λ b m. subst (λ l. Contains l b) (a.0).constants (targets.there b m) in
      let into : (b : Nominal) → Contains many b → Contains g.constants (p b) = λ b m. moved_within (λ k. Contains g.constants k) few ns of_few of_ns b (of_branch b (contains_ordered (support E) b m)) in
      let ps = mapping many (map p many) in
      let L = permute ps (erased E) in
      let R = erased g.conclusion in
      let w = equating D now g L R ((g.conclusion, E) ∷ []) in
      let way_there : Contains (by_hypothesis D now g E) w = Contains-map (λ qs. equating D now g (permute qs (erased E)) R ((g.conclusion, E) ∷ [])) (maps many g.constants) ps (map_there p keeps (moved_injective few ns) many g.constants (ordered_pairs (support E)) into) in
      let renamed : L ≡ rename p (erased E) = rename_agrees (moved_by ps) p (erased E) (λ b m. mapped_by p many b (ordered_contains (support E) b (erased_names E b m))) in
      let guessed : permute (mapping few ns) (erased B) ≡ rename p (erased B) = rename_agrees (moved_by (mapping few ns)) p (erased B) (λ b m. mapped_each p few ns (moved_each few ns one_type (ordered_pairs (support B)) targets.different) b (ordered_contains (support B) b (erased_names B b m))) in
      let alike : image_by f (forget L) ≡ image_by f (forget R) =
      ap (image_by f) (ap forget renamed ∙ translate-rename (λ v. v) (λ y. tt) p (erased E))
      ∙ made_renamed now f s p (forget (erased E))
      ∙ ap (rename p) (makes_erased f E B part.formula.stands given.makes)
      ∙ sym (translate-rename (λ v. v) (λ y. tt) p (erased B))
      ∙ ap forget (sym guessed)
      ∙ same
      ∙ sym (makes_erased f g.conclusion h.conclusion concluded.formula.stands (a.0).conclusion) in
      let left_typed : HasType sg [] L prop = subst (λ k. HasType sg [] k prop) (sym renamed) (rename_typed sg p keeps (erased_typed sg part.formula.typed)) in
      let right_typed : HasType sg [] R prop = erased_typed sg concluded.formula.typed in
      let serve : Serve w = All-cons (λ (q : Read × Read). MarksServeIn q.0 q.1) (g.conclusion, E) []
      (subst (λ m. MarksServe m (marks_of E)) (sym (marks_made_same f g.conclusion h.conclusion concluded.formula.stands (a.0).conclusion)) (subst (λ m. MarksServe (marks_of h.conclusion) m) (sym (marks_made_same f E B part.formula.stands given.makes)) serves))
      (All-nil (λ (q : Read × Read). MarksServeIn q.0 q.1)) in
      on_front D now g gs w
      (Contains-append_right (by_truth D now g (form_of g.conclusion)) (for_each (by_hypothesis D now g) g.hypotheses) w (gathered (by_hypothesis D now g) g.hypotheses E w given.there way_there))
      (on_way D now w gs hs f s (([], prop, left_typed, right_typed), tt)
      ((λ y m. part.facts.over y (erased_variables E y (subst (λ l. Contains l y) (variables_rename p (erased E)) (subst (λ k. Contains (variables k) y) renamed m)))), (λ y m. concluded.facts.over y (erased_variables g.conclusion y m)), tt)
      (alike, tt) serve t.1 a.1 c)
      ls l
