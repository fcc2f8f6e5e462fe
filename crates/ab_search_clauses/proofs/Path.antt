-- ON THE PATH OF AN ANSWER: what is put in at last is the answer of the way's equations, what is put in from there on, and the fillings of the answer.
use Rattle.std.proofs.Common.{◌≡◌, ◌⊎◌, inl, inr, ℕ, ◌≤◌, List, [], ◌++◌, map, length, drop, codes, true, not, Some, refl, sym, ◌∙◌, ap, subst, arith, length-append, ◌∷◌, Bool, false, if◌then◌else◌, Option, None}
use Rattle.std.specs.Prelude.{Contains}
use Rattle.ab_term.specs.Types.{Ty}
use Rattle.ab_term.specs.Terms.{Variable, variable, no_terms, Read, Nominal, nominal}
use Rattle.ab_term.specs.Typing.{Signature, HasType}
use Rattle.ab_term.specs.Variables.{Substitution, variables, value_in, image, composition, IsTyped}
use Rattle.ab_term.specs.Sameness.{same_number, same_numbered}
use Rattle.ab_term.proofs.Compositions.{image_typed, image-composition, composition_typed, then_by, value_in-composition}
use Rattle.ab_term.proofs.Expansions.{expansion_typed}
use Rattle.ab_term.proofs.Lists.{Contains-none, Contains-cases, Contains-there}
use Rattle.ab_term.proofs.Stands.{variables-expansion_of}
use Rattle.ab_unifiers.specs.Replacements.{Cell, holds}
use Rattle.ab_unifiers.specs.Unification.{unified, Solves, Equation}
use Rattle.ab_unifiers.specs.Unifiers.{AreKnown, keys, AreTyped, Unifies, AllHoldCells, IsCell}
use Rattle.ab_unifiers.specs.Clauses.{numbered, name_term}
use Rattle.ab_unifiers.specs.Alternatives.{made_terms}
use Rattle.ab_unifiers.proofs.Avoiding.{not_held}
use Rattle.ab_unifiers.proofs.Keys.{keys-composition}
use Rattle.ab_unifiers.proofs.Lifting.{OfCells, made_terms_typed}
use Rattle.ab_unifiers.proofs.Once.{answer_once}
use Rattle.ab_unifiers.proofs.Problems.{answer_typed, answer_unifies, answer_clean}
use Rattle.ab_unifiers.proofs.Rows.{numbered_within, held_append}
use Rattle.ab_formulas.specs.Declarations.{Declarations, signature_in}
use Rattle.ab_formulas.specs.GoalTerms.{HoldsOnly}
use Rattle.ab_search_trees.specs.Goals.{Goal, Now}
use Rattle.ab_search_trees.specs.Outcomes.{filling}
use Rattle.ab_search_trees.specs.Tree.{problem_of, now_after}
use Rattle.ab_search_trees.specs.Ways.{Way}
use Rattle.ab_search_trees.proofs.Facts.{IsTask}
use Rattle.ab_search_trees.proofs.Lifts.{filter_from, answer_grows, known_cell}
use Rattle.ab_search_trees.proofs.Shows.{IsLater}
use Rattle.ab_search_clauses.specs.Paths.{alone, at_last, IsAtLast}
use Rattle.std.proofs.lemmas.List.Elements.{All-nil, All-cons}
use Rattle.ab_term.specs.Names.{support}
use Rattle.ab_term.specs.Translation.{forget}
use Rattle.ab_unifiers.specs.Choices.{new_constant}
use Rattle.ab_unifiers.proofs.Matching.{new_is_new}
use Rattle.ab_unifiers.proofs.Ruling.{image_past_hints}
use Rattle.ab_search_proofs.proofs.StandIns.{none_left, under_support}

-- FILLINGS are typed, and constants that aren't held
pub filling_typed : (sg : Signature) (held : List Nominal) (zs : List (Variable ℕ)) → IsTyped sg (filling held zs)
filling_typed sg held [] = All-nil (λ p. HasType sg [] p.1 p.0.type)
filling_typed sg held (z ∷ zs) =
    let a = new_constant held z.type in
    All-cons (λ p. HasType sg [] p.1 p.0.type) (z, name_term (codes "x") a) (filling (a ∷ held) zs) (expansion_typed sg (codes "x") a.type [] (nominal a) refl) (filling_typed sg (a ∷ held) zs)

pub filled_with : (held : List Nominal) (zs : List (Variable ℕ)) (y : Variable ℕ) (v : Read) → value_in same_number (filling held zs) y ≡ Some v → (a : Nominal) × (¬ (Contains held a)) × (name_term (codes "x") a ≡ v)
filled_with held [] y v e = absurd (cc)
filled_with held (z ∷ zs) y v e = go (same_numbered z y) e (filled_with (new_constant held z.type ∷ held) zs y v)
  where
    go : (b : Bool) → (if b then Some (name_term (codes "x") (new_constant held z.type)) else value_in same_number (filling (new_constant held z.type ∷ held) zs) y) ≡ Some v
        → (value_in same_number (filling (new_constant held z.type ∷ held) zs) y ≡ Some v → (c : Nominal) × (¬ (Contains (new_constant held z.type ∷ held) c)) × (name_term (codes "x") c ≡ v))
        → (c : Nominal) × (¬ (Contains held c)) × (name_term (codes "x") c ≡ v)
    go true e rest = (new_constant held z.type, new_is_new held z.type, cc)
    go false e rest = let r = rest e in (r.0, λ m. r.1 (Contains-there (new_constant held z.type) held r.0 m), r.2)

-- ONE AFTER ANOTHER
module _ (sg : Signature) (q n : Substitution ℕ (List ℕ)) (q_is : IsTyped sg q) (n_is : IsTyped sg n) where
  pub unifies_both : (es : List (Equation (List ℕ))) → AreTyped sg es → Unifies q es → Unifies (composition same_number q n) es
  unifies_both [] t u = tt
  unifies_both (e ∷ es) t u = (
    ap forget (image-composition sg same_number q q_is n n_is t.0.2) ∙ image_past_hints n (image same_number q e.left) (image same_number q e.right) u.0 ∙ sym (ap forget (image-composition sg same_number q q_is n n_is t.0.3)),
    unifies_both es t.1 u.1,
  )

  pub nameless_both : ((y : Variable ℕ) (v : Read) → value_in same_number q y ≡ Some v → support v ≡ []) → ((y : Variable ℕ) (v : Read) → value_in same_number n y ≡ Some v → support v ≡ [])
      → (y : Variable ℕ) (v : Read) → value_in same_number (composition same_number q n) y ≡ Some v → support v ≡ []
  nameless_both a b y v e = go (value_in same_number q y) refl (sym (value_in-composition same_number q n y) ∙ e)
    where
      go : (o : Option Read) → value_in same_number q y ≡ o → then_by (value_in same_number n) y o ≡ Some v → support v ≡ []
      go None p s = b y v s
      go (Some w) p s =
          let same : image same_number n w ≡ v = cc in
          subst (λ k. support k ≡ []) same (none_left (support (image same_number n w)) (λ c m. Contains-none c (subst (λ l. Contains l c) (a y w p) (under_support n b w c m))))

module _ (D : Declarations) (now last : Now) (g : Goal) (w : Way) (typed : AreTyped (signature_in D) w.equations) (over : AllHoldCells w.cells w.equations) (are_cells : (y : Variable ℕ) → holds w.flexible y ≡ true → IsCell w.cells y)
    (task : IsTask (signature_in D) now g) (more : List (Cell (List ℕ))) (q n : Substitution ℕ (List ℕ))
    (solves : Solves (codes "x") (problem_of w) (unified more q)) (later : IsLater (signature_in D) (now_after now w more q) n) where
  abbrev sg : Signature
  sg = signature_in D

  abbrev x : List ℕ
  x = codes "x"

  abbrev pub fill : Substitution ℕ (List ℕ)
  fill = filling last.held last.flexible

  abbrev pub put_in : Substitution ℕ (List ℕ)
  put_in = composition same_number q n

  -- all that is put in from here on
  abbrev pub in_the_end : Substitution ℕ (List ℕ)
  in_the_end = composition same_number q (composition same_number n (filling last.held last.flexible))

  known_way : AreKnown w.cells w.flexible
  known_way y h = known_cell w.cells y.name y.type (are_cells y h)

  q_typed : IsTyped sg q
  q_typed = answer_typed sg x w.equations w.cells w.flexible typed known_way more q solves

  fill_typed : IsTyped sg (filling last.held last.flexible)
  fill_typed = filling_typed sg last.held last.flexible

  put_in_typed : IsTyped sg put_in
  put_in_typed = composition_typed sg same_number q q_typed n later.typed

  -- in one step or in three
  pub steps : {G : List Ty} {u : Read} {A : Ty} → HasType sg G u A → image same_number in_the_end u ≡ at_last put_in fill u
  steps {u = u} k =
      image-composition sg same_number q q_typed (composition same_number n fill) (composition_typed sg same_number n later.typed fill fill_typed) k
      ∙ image-composition sg same_number n later.typed fill fill_typed (image_typed sg same_number q q_typed k)
      ∙ ap (image same_number fill) (sym (image-composition sg same_number q q_typed n later.typed k))

  all_steps : (cs : List (Cell (List ℕ))) (us : List Read) → OfCells sg (codes "x") cs us → map (image same_number in_the_end) us ≡ map (at_last put_in fill) us
  all_steps [] [] e = refl
  all_steps [] (u ∷ us) e = absurd e
  all_steps (c ∷ cs) [] e = absurd e
  all_steps (c ∷ cs) (u ∷ us) e = ap (λ v. v ∷ map (image same_number in_the_end) us) (steps e.0) ∙ ap (λ l. at_last put_in fill u ∷ l) (all_steps cs us e.1)

  -- what becomes of new variables
  pub made_steps : (k : ℕ) (S : List Nominal) (cs : List (Cell (List ℕ))) → map (image same_number in_the_end) (made_terms (codes "x") k S cs) ≡ map (at_last put_in fill) (made_terms (codes "x") k S cs)
  made_steps k S cs = all_steps cs (made_terms (codes "x") k S cs) (made_terms_typed sg (codes "x") k S cs)

  longer : length w.cells ≤ length more
  longer = let made = answer_grows sg x w.equations w.cells w.flexible typed known_way are_cells over more q solves in let sum = ap length made.1 ∙ length-append w.cells made.0 in omega (arith, sum)

  within : (y : Variable ℕ) → holds (keys put_in) y ≡ true → (holds w.flexible y ≡ true) ⊎ (length w.cells ≤ y.name)
  within y h = elim (held_append (keys q) (keys n) y (subst (λ l. holds l y ≡ true) (keys-composition q n) h)) [
    | inl k ↦ elim ((answer_once x w.equations w.cells w.flexible known_way more q solves).1 y k) [ inl b ↦ inl b | inr b ↦ inr b.0 ]
    | inr k ↦ elim (later.within y k) [
      | inl b ↦ elim (not_held w.flexible (numbered (length w.cells) (drop (length w.cells) more)) y (filter_from (λ z. not (holds (keys q) z)) (w.flexible ++ numbered (length w.cells) (drop (length w.cells) more)) y b)) [
        | inl e ↦ inl e
        | inr e ↦ inr (numbered_within (length w.cells) (drop (length w.cells) more) y e).0
      ]
      | inr b ↦ inr (omega (arith, b, longer))
    ]
  ]

  module _ (names : List Nominal) (held : (a : Nominal) → Contains names a → Contains last.held a) (ys : List (Variable ℕ)) (known : (u : Read) → ((y : Variable ℕ) → Contains (variables u) y → Contains (variables g.conclusion) y ⊎ ((holds w.flexible y ≡ true) × (length now.cells ≤ y.name))) → HoldsOnly ys (image same_number in_the_end u)) where
    pub is_last : IsAtLast sg now g w names ys put_in fill
    is_last = record {
      typed = put_in_typed;
      nameless = nameless_both sg q n q_typed later.typed (answer_clean sg x w.equations w.cells w.flexible typed known_way more q solves) later.nameless;
      within = within;
      unifies = unifies_both sg q n q_typed later.typed w.equations typed (answer_unifies sg x w.equations w.cells w.flexible typed known_way more q solves);
      filled = fill_typed;
      constants = λ y v e. let r = filled_with last.held last.flexible y v e in (r.0, (λ m. r.1 (held r.0 m)), r.2);
      conclusion = subst (HoldsOnly ys) (steps task.conclusion.formula.typed) (known g.conclusion (λ y m. inl m));
      own = λ y h l. subst (HoldsOnly ys) (steps (expansion_typed sg x y.type [] (variable y) refl)) (known (alone y) (λ z m. inr (own_held y h l z m)));
    }
      where
        own_held : (y : Variable ℕ) → holds w.flexible y ≡ true → length now.cells ≤ y.name → (z : Variable ℕ) → Contains (variables (alone y)) z → (holds w.flexible z ≡ true) × (length now.cells ≤ z.name)
        own_held y h l z m = elim (Contains-cases y [] z (subst (λ k. Contains k z) (variables-expansion_of x y.type (variable y) no_terms) m)) [
          | inl e ↦ subst (λ (z : Variable ℕ). (holds w.flexible z ≡ true) × (length now.cells ≤ z.name)) e (h, l)
          | inr i ↦ absurd (Contains-none z i)
        ]
