-- WHAT STANDS IN A PART stands in the whole: the sides of an equation, an opened layer, the arguments of a defined atom; and the constants of maps.
use Rattle.std.proofs.Common.{◌≡◌, inl, inr, ℕ, zero, List, [], ◌∷◌, ◌++◌, map, filter, not, Some, sym, ◌∙◌, ap, subst}
use Rattle.std.specs.Prelude.{Contains}
use Rattle.std.proofs.lemmas.List.Elements.{Contains-append_left, Contains-append_right, Contains-append_cases}
use Rattle.ab_term.specs.Types.{Ty, same_type}
use Rattle.ab_term.specs.Logical as plain
use Rattle.ab_term.specs.Logical.{Logical}
use Rattle.ab_term.specs.Terms.{Nominal, Variable, constant, logical, nominal, variable, index, lam, spine, no_terms, term, Read}
use Rattle.ab_term.specs.Names.{same_nominal}
use Rattle.ab_term.specs.Substitution.{shift}
use Rattle.ab_term.specs.Variables.{variables, variables_of_all}
use Rattle.ab_term.proofs.Lists.{Contains-none, Contains-here, Contains-there, Contains-cases, Contains-from_map}
use Rattle.ab_term.proofs.Permuting.{Each}
use Rattle.ab_term.proofs.Stands.{variables-shift}
use Rattle.ab_unifiers.specs.Choices.{others, of_type, placed}
use Rattle.ab_unifiers.specs.Member.{before}
use Rattle.ab_unifiers.proofs.Choosing.{gathered_from, placed_cases}
use Rattle.ab_formulas.specs.Declarations.{Declarations}
use Rattle.ab_formulas.specs.Forms.{equal, form_of, form_alone, form_with, form_between}
use Rattle.ab_theory.specs.Atoms.{Defined, defined_atom}
use Rattle.ab_theory.specs.Opening.{both}
use Rattle.ab_theory.proofs.Marked.{with_mark_variables}
use Rattle.ab_theory.proofs.Sized.{atom_of}
use Rattle.ab_search_trees.specs.Judgements.{judged, layer_of, opened_once}
use Rattle.ab_search_trees.specs.Maps.{images_in, same_constants, mapping, targets, maps}
use Rattle.ab_search_trees.specs.Ways.{with_constants}
use Rattle.ab_search_trees.proofs.Atoms.{filter_parts}
use Rattle.ab_search_trees.proofs.ByForm.{placed_itself, placed_others}

-- each variable of the second stands in the first
abbrev pub Inside : Read → Read → Type 0
Inside t u = (y : Variable ℕ) → Contains (variables u) y → Contains (variables t) y

-- THE SIDES OF AN EQUATION
abbrev AreSides : Read → Read → Read → Type 0
AreSides C t u = Inside C t × Inside C u

sides_between : (l : Logical) (v w : Read) (A : Ty) (t u : Read) → form_between l v w ≡ equal A t u → (v ≡ t) × (w ≡ u)
sides_between (plain.equality B) v w A t u e = (cc, cc)
sides_between plain.conjunction v w A t u e = absurd (cc)
sides_between plain.disjunction v w A t u e = absurd (cc)
sides_between plain.implication v w A t u e = absurd (cc)
sides_between _ v w A t u e = absurd (cc)

no_sides_alone : (l : Logical) (A : Ty) (t u : Read) → form_alone l ≡ equal A t u → ⊥
no_sides_alone plain.truth A t u e = absurd (cc)
no_sides_alone plain.falsity A t u e = absurd (cc)
no_sides_alone _ A t u e = absurd (cc)

no_sides_with : (l : Logical) (v : Read) (A : Ty) (t u : Read) → form_with l v ≡ equal A t u → ⊥
no_sides_with (plain.universal B) v A t u e = absurd (cc)
no_sides_with (plain.existential B) v A t u e = absurd (cc)
no_sides_with (plain.nabla B) v A t u e = absurd (cc)
no_sides_with (plain.star i) v A t u e = absurd (cc)
no_sides_with (plain.at_sign i) v A t u e = absurd (cc)
no_sides_with (plain.plus i) v A t u e = absurd (cc)
no_sides_with (plain.hash i) v A t u e = absurd (cc)
no_sides_with _ v A t u e = absurd (cc)

pub sides_inside : (C : Read) (A : Ty) (t u : Read) → form_of C ≡ equal A t u → AreSides C t u
sides_inside (lam B x v) A t u e = absurd (cc)
sides_inside (spine (constant c) ts) A t u e = absurd (cc)
sides_inside (spine (nominal a) ts) A t u e = absurd (cc)
sides_inside (spine (variable y) ts) A t u e = absurd (cc)
sides_inside (spine (index i) ts) A t u e = absurd (cc)
sides_inside (spine (logical l) no_terms) A t u e = absurd (no_sides_alone l A t u e)
sides_inside (spine (logical l) (term v no_terms)) A t u e = absurd (no_sides_with l v A t u e)
sides_inside (spine (logical l) (term v (term w no_terms))) A t u e =
    let same = sides_between l v w A t u e in (
      (λ y m. Contains-append_left (variables v) (variables w ++ []) y (subst (λ k. Contains (variables k) y) (sym same.0) m)),
      (λ y m. Contains-append_right (variables v) (variables w ++ []) y (Contains-append_left (variables w) [] y (subst (λ k. Contains (variables k) y) (sym same.1) m))),
    )
sides_inside (spine (logical l) (term v (term w (term z ts)))) A t u e = absurd (cc)

-- A LAYER
module _ (P : Variable ℕ → Type 0) where
  abbrev All_of : List (Variable ℕ) → Type 0
  All_of xs = (y : Variable ℕ) → Contains xs y → P y

  of_both : (xs ys : List (Variable ℕ)) → All_of xs → All_of ys → All_of (xs ++ ys)
  of_both xs ys f g y m = elim (Contains-append_cases xs ys y m) [ inl a ↦ f y a | inr b ↦ g y b ]

  none_of : All_of []
  none_of y m = absurd (Contains-none y m)

  of_judged : (L G : Read) → All_of (variables L) → All_of (variables G) → All_of (variables L ++ (variables G ++ []))
  of_judged L G f g = of_both (variables L) (variables G ++ []) f (of_both (variables G) [] g none_of)

  of_layer : (L G F : Read) → All_of (variables L) → All_of (variables G) → layer_of L G ≡ Some F → All_of (variables F)
  of_layer L (spine (logical plain.spec_conjunction) (term A (term B no_terms))) F f g e =
      let a : All_of (variables A) = λ y m. g y (Contains-append_left (variables A) (variables B ++ []) y m) in
      let b : All_of (variables B) = λ y m. g y (Contains-append_right (variables A) (variables B ++ []) y (Contains-append_left (variables B) [] y m)) in
      let same : both (judged L A) (judged L B) ≡ F = cc in
      subst (λ k. All_of (variables k)) same (of_judged (judged L A) (judged L B) (of_judged L A f a) (of_judged L B f b))
  of_layer L (spine (logical plain.spec_implication) (term A (term B no_terms))) F f g e =
      let a : All_of (variables A) = λ y m. g y (Contains-append_left (variables A) (variables B ++ []) y m) in
      let b : All_of (variables B) = λ y m. g y (Contains-append_right (variables A) (variables B ++ []) y (Contains-append_left (variables B) [] y m)) in
      let same : judged (before A L) B ≡ F = cc in
      subst (λ k. All_of (variables k)) same (of_judged (before A L) B (of_judged A L a f) b)
  of_layer L (spine (logical (plain.spec_universal A)) (term (lam B x G) no_terms)) F f g e =
      let b : All_of (variables G) = λ y m. g y (Contains-append_left (variables G) [] y m) in
      let same : spine (logical (plain.nabla A)) (term (lam A x (judged (shift zero L) G)) no_terms) ≡ F = cc in
      let l : All_of (variables (shift zero L)) = subst All_of (sym (variables-shift zero L)) f in
      subst (λ k. All_of (variables k)) same (of_both (variables (judged (shift zero L) G)) [] (of_judged (shift zero L) G l b) none_of)
  of_layer L _ F f g e = absurd (cc)

pub opened_inside : (C F : Read) → opened_once C ≡ Some F → Inside C F
opened_inside (spine (logical plain.judgement) (term L (term G no_terms))) F e = of_layer (λ y. Contains (variables L ++ (variables G ++ [])) y) L G F
    (λ y m. Contains-append_left (variables L) (variables G ++ []) y m) (λ y m. Contains-append_right (variables L) (variables G ++ []) y (Contains-append_left (variables G) [] y m)) e
opened_inside _ F e = absurd (cc)

-- THE ARGUMENTS of a defined atom
pub arguments_inside : (D : Declarations) (C : Read) (d : Defined) → defined_atom D C ≡ Some d → (y : Variable ℕ) → Contains (variables_of_all d.arguments) y → Contains (variables C) y
arguments_inside D C d e y m = subst (λ l. Contains l y) (sym (ap variables (atom_of D C d e).formula ∙ with_mark_variables d.sign (spine (constant d.predicate) d.arguments))) m

-- MAPS lead into the branch
images_there : (bs free ns : List Nominal) → Contains (images_in bs free) ns → (a : Nominal) → Contains ns a → Contains free a
images_there [] free ns m a k = elim (Contains-cases [] [] ns m) [ inl e ↦ absurd (Contains-none a (subst (λ l. Contains l a) (sym e) k)) | inr n ↦ absurd (Contains-none ns n) ]
images_there (b ∷ bs) free ns m a k =
    let from = gathered_from (λ c. map (λ ks. c ∷ ks) (images_in bs (others c free))) (of_type b.type free) ns m in
    let c = from.0 in
    let rest = Contains-from_map (λ ks. c ∷ ks) (images_in bs (others c free)) ns from.2 in
    elim (Contains-cases c rest.0 a (subst (λ l. Contains l a) (sym rest.2) k)) [
      | inl e ↦ subst (Contains free) e (filter_parts (λ d. same_type d.type b.type) free c from.1).0
      | inr n ↦ (filter_parts (λ d. not (same_nominal c d)) free a (images_there bs (others c free) rest.0 rest.1 a n)).0
    ]

mapped_to : (bs ns : List Nominal) (a : Nominal) → Contains (map (λ (p : Nominal × Nominal). p.1) (mapping bs ns)) a → Contains ns a
mapped_to [] ns a m = absurd (Contains-none a m)
mapped_to (b ∷ bs) [] a m = absurd (Contains-none a m)
mapped_to (b ∷ bs) (n ∷ ns) a m = elim (Contains-cases n (map (λ (p : Nominal × Nominal). p.1) (mapping bs ns)) a m) [ inl e ↦ subst (Contains (n ∷ ns)) e (Contains-here n ns) | inr k ↦ Contains-there n ns a (mapped_to bs ns a k) ]

to_mapped : (R : Nominal → Nominal → Type 0) (bs ns : List Nominal) → Each R bs ns → (a : Nominal) → Contains ns a → Contains (map (λ (p : Nominal × Nominal). p.1) (mapping bs ns)) a
to_mapped R [] [] e a m = m
to_mapped R [] (n ∷ ns) e a m = absurd e
to_mapped R (b ∷ bs) [] e a m = absurd e
to_mapped R (b ∷ bs) (n ∷ ns) e a m = elim (Contains-cases n ns a m) [
  | inl q ↦ subst (Contains (n ∷ map (λ (p : Nominal × Nominal). p.1) (mapping bs ns))) q (Contains-here n (map (λ (p : Nominal × Nominal). p.1) (mapping bs ns)))
  | inr k ↦ Contains-there n (map (λ (p : Nominal × Nominal). p.1) (mapping bs ns)) a (to_mapped R bs ns e.1 a k)
]

pub map_there : (bs free : List Nominal) → ((a : Nominal) → Contains bs a → Contains free a) → (ps : List (Nominal × Nominal)) → Contains (maps bs free) ps → (ns : List Nominal) → ps ≡ mapping bs ns → (R : Nominal → Nominal → Type 0) → Each R bs ns → (a : Nominal) → Contains ns a → Contains free a
map_there bs free own ps m ns e R each a k =
    let from = Contains-from_map (mapping bs) (targets bs free) ps m in
    let there = mapped_to bs from.0 a (subst (λ qs. Contains (map (λ (p : Nominal × Nominal). p.1) qs) a) (sym e ∙ sym from.2) (to_mapped R bs ns each a k)) in
    elim (Contains-cases bs (filter (λ ns. not (same_constants bs ns)) (images_in bs free)) from.0 from.1) [
      | inl q ↦ own a (subst (λ l. Contains l a) (sym q) there)
      | inr n ↦ images_there bs free from.0 (filter_parts (λ ns. not (same_constants bs ns)) (images_in bs free) from.0 n).0 a there
    ]

-- CONSTANTS THAT ARE TAKEN: into more
pub placed_more : (b : Nominal) (xs ys : List Nominal) → ((a : Nominal) → Contains xs a → Contains ys a) → (a : Nominal) → Contains (placed b xs) a → Contains (placed b ys) a
placed_more b xs ys f a m = elim (placed_cases b xs a m) [ inl e ↦ subst (Contains (placed b ys)) e (placed_itself b ys) | inr n ↦ placed_others b ys a (f a n) ]

pub taken_more : (new xs ys : List Nominal) → ((a : Nominal) → Contains xs a → Contains ys a) → (a : Nominal) → Contains (with_constants new xs) a → Contains (with_constants new ys) a
taken_more [] xs ys f = f
taken_more (n ∷ new) xs ys f = taken_more new (placed n xs) (placed n ys) (placed_more n xs ys f)
