-- WHERE EQUATIONS ARE UNIFIED and no variable is made: with the terms for the variables that stay open, a formula under the answer is what the unifier makes of it.
use Rattle.std.proofs.Common.{◌≡◌, inl, inr, ℕ, ◌<◌, ◌≤◌, List, [], ◌∷◌, ◌++◌, map, length, filter, codes, true, false, Some, None, refl, sym, ◌∙◌, ap, subst, arith, Bool, cond, not, ◌||◌, if◌then◌else◌}
use Rattle.std.specs.Prelude.{All, Contains}
use Rattle.std.proofs.Math.Seq.{drop-append_seam}
use Rattle.ab_term.specs.Types.{Ty, prop}
use Rattle.ab_term.specs.Terms as tree
use Rattle.ab_term.specs.Terms.{variable, no_terms, Read, Nominal, constant, nominal, spine}
use Rattle.ab_term.specs.Typing.{Signature, HasType}
use Rattle.ab_term.specs.Translation.{forget, EqualPastHints}
use Rattle.ab_term.specs.Variables.{Substitution, variables, value_in, image, one_by_one, IsTyped}
use Rattle.ab_term.specs.Sameness.{same_number, same_numbered}
use Rattle.ab_term.proofs.Compositions.{image_typed, image-composition}
use Rattle.ab_term.proofs.Depends.{image_agrees}
use Rattle.ab_term.proofs.Expansions.{expansion_typed}
use Rattle.ab_term.proofs.Lists.{Contains-none, Contains-cases, Contains-from_map, All-from_contains, Contains-here, Contains-there}
use Rattle.ab_term.proofs.Stands.{variables-image, variables-expansion_of}
use Rattle.ab_unifiers.specs.Replacements.{Cell, holds}
use Rattle.ab_unifiers.specs.Unification.{Equation, unified, Solves}
use Rattle.ab_unifiers.specs.Unifiers.{given, keys, IsCell, AreTyped, AreKnown, AreOver, AllHoldCells, IsOver, IsInstance, IsUnifier}
use Rattle.ab_unifiers.specs.Clauses.{Each, numbered, put_together}
use Rattle.ab_unifiers.proofs.Choosing.{contains_kept}
use Rattle.ab_unifiers.proofs.Given.{most_general}
use Rattle.ab_unifiers.proofs.Past.{own, images_agree}
use Rattle.ab_unifiers.proofs.Problems.{answer_typed}
use Rattle.ab_unifiers.proofs.Rows.{each_any, together_typed, keys_put_together}
use Rattle.ab_unifiers.proofs.Ruling.{image_none}
use Rattle.ab_unifiers.proofs.Variables.{holds_contains}
use Rattle.ab_formulas.specs.Sequents.{Variable, in_terms}
use Rattle.ab_formulas.proofs.Idempotent.{none_replaced}
use Rattle.ab_theory.specs.Equations.{stays, made, variables_from}
use Rattle.ab_theory.proofs.Putting.{numbered_from}
use Rattle.ab_search_trees.proofs.Lifts.{no_value, known_cell, image_cells}
use Rattle.ab_search_proofs.proofs.Unfolds.{from_number}
use Rattle.std.proofs.lemmas.Bool.{false≢true, or_right, false_from_ne_true}
use Rattle.std.proofs.lemmas.List.Elements.{All-nil, All-cons, All-head, All-tail}
use Rattle.ab_term.proofs.Same.{same_numbered-Decides}

-- no key has no value
pub none_key : (s : Substitution ℕ (List ℕ)) (y : tree.Variable ℕ) → value_in same_number s y ≡ None → holds (keys s) y ≡ false
none_key [] y e = refl
none_key (p ∷ s) y e = go (same_numbered p.0 y) e (none_key s y)
  where
    go : (b : Bool) → (if b then Some p.1 else value_in same_number s y) ≡ None → (value_in same_number s y ≡ None → holds (keys s) y ≡ false) → (b || holds (keys s) y) ≡ false
    go true e rest = absurd (cc)
    go false e rest = rest e

-- TERMS THAT HOLD NO KEY may be put in one by one or at once
pub once : (sg : Signature) (n : ℕ) (ks : List (tree.Variable ℕ)) (vs : List Read) → ((k : tree.Variable ℕ) → holds ks k ≡ true → n ≤ k.name) → All (λ (v : Read). (y : tree.Variable ℕ) → Contains (variables v) y → y.name < n) vs → Each (λ k v. HasType sg [] v k.type) ks vs
    → {G : List Ty} {t : Read} {A : Ty} → HasType sg G t A → one_by_one same_number (put_together ks vs) t ≡ image same_number (put_together ks vs) t
once sg n [] [] high low e {t = t} d = sym (image_none t)
once sg n [] (v ∷ vs) high low e d = absurd e
once sg n (k ∷ ks) [] high low e d = absurd e
once sg n (k ∷ ks) (v ∷ vs) high low e {t = t} d =
    let Low : Read → Type 0 = λ v. (y : tree.Variable ℕ) → Contains (variables v) y → y.name < n in
    let rest = put_together ks vs in
    let one : Substitution ℕ (List ℕ) = (k, v) ∷ [] in
    let one_typed : IsTyped sg one = All-cons (λ p. HasType sg [] p.1 p.0.type) (k, v) [] e.0 (All-nil (λ p. HasType sg [] p.1 p.0.type)) in
    let rest_typed : IsTyped sg rest = together_typed sg ks vs e.1 in
    let below : (y : tree.Variable ℕ) → holds ks y ≡ true → n ≤ y.name = λ y h. high y (or_right (same_numbered k y) (holds ks y) h) in
    let still : image same_number rest v ≡ v =
    image_agrees (value_in same_number rest) (value_in same_number []) v (λ y m. no_value rest y (ap (λ l. holds l y) (keys_put_together ks vs (each_any (λ k v. HasType sg [] v k.type) ks vs e.1))
    ∙ false_from_ne_true (holds ks y) (λ h. let g = below y h in let l = All-head Low v vs low y m in absurd (omega (arith, g, l))))) ∙ image_none v in
    once sg n ks vs below (All-tail Low v vs low) e.1 (image_typed sg same_number one one_typed d)
    ∙ sym (image-composition sg same_number one one_typed rest rest_typed d)
    ∙ ap (λ w. image same_number ((k, w) ∷ rest) t) still

-- THE TERMS for what stays open
module _ (p : Substitution ℕ (List ℕ)) where
  abbrev pub kept : List Variable → List Read → List Read
  kept [] vs = []
  kept (y ∷ ys) [] = []
  kept (y ∷ ys) (v ∷ vs) = cond (stays p y) (v ∷ kept ys vs) (kept ys vs)

  pub kept_each : (R : Variable → Read → Type 0) (ys : List Variable) (vs : List Read) → Each R ys vs → Each R (filter (stays p) ys) (kept ys vs)
  kept_each R [] [] e = tt
  kept_each R [] (v ∷ vs) e = absurd e
  kept_each R (y ∷ ys) [] e = absurd e
  kept_each R (y ∷ ys) (v ∷ vs) e = go (stays p y) (kept_each R ys vs e.1)
    where
      go : (b : Bool) → Each R (filter (stays p) ys) (kept ys vs) → Each R (cond b (y ∷ filter (stays p) ys) (filter (stays p) ys)) (cond b (v ∷ kept ys vs) (kept ys vs))
      go true r = (e.0, r)
      go false r = r

  pub kept_in : (ys : List Variable) (vs : List Read) (t : Read) → Contains (kept ys vs) t → Contains vs t
  kept_in [] vs t m = absurd (Contains-none t m)
  kept_in (y ∷ ys) [] t m = absurd (Contains-none t m)
  kept_in (y ∷ ys) (v ∷ vs) t m = go (stays p y) m (kept_in ys vs t)
    where
      go : (b : Bool) → Contains (cond b (v ∷ kept ys vs) (kept ys vs)) t → (Contains (kept ys vs) t → Contains vs t) → Contains (v ∷ vs) t
      go true m rest = elim (Contains-cases v (kept ys vs) t m) [ inl e ↦ subst (Contains (v ∷ vs)) e (Contains-here v vs) | inr n ↦ Contains-there v vs t (rest n) ]
      go false m rest = Contains-there v vs t (rest m)

  -- what isn't replaced has its term
  pub kept_value : (ys : List Variable) (vs : List Read) → Each (λ y v. Unit {0}) ys vs → (z : tree.Variable ℕ) → holds (keys p) z ≡ false
      → value_in same_number (put_together (map in_terms (filter (stays p) ys)) (kept ys vs)) z ≡ value_in same_number (put_together (map in_terms ys) vs) z
  kept_value [] [] e z n = refl
  kept_value [] (v ∷ vs) e z n = absurd e
  kept_value (y ∷ ys) [] e z n = absurd e
  kept_value (y ∷ ys) (v ∷ vs) e z n = go (stays p y) refl (same_numbered (in_terms y) z) refl (kept_value ys vs e.1 z n)
    where
      go : (b : Bool) → stays p y ≡ b → (q : Bool) → same_numbered (in_terms y) z ≡ q → value_in same_number (put_together (map in_terms (filter (stays p) ys)) (kept ys vs)) z ≡ value_in same_number (put_together (map in_terms ys) vs) z
          → value_in same_number (put_together (map in_terms (cond b (y ∷ filter (stays p) ys) (filter (stays p) ys))) (cond b (v ∷ kept ys vs) (kept ys vs))) z ≡ (if same_numbered (in_terms y) z then Some v else value_in same_number (put_together (map in_terms ys) vs) z)
      go true f q g r = ap (λ w. if same_numbered (in_terms y) z then Some v else w) r
      go false f true g r = absurd (false≢true (sym f ∙ ap not (ap (holds (keys p)) ((same_numbered-Decides (in_terms y) z).0 g) ∙ n)))
      go false f false g r = r ∙ sym (ap (λ b. if b then Some v else value_in same_number (put_together (map in_terms ys) vs) z) g)

pub each_back : (R : tree.Variable ℕ → Read → Type 0) (ys : List Variable) (vs : List Read) → Each R (map in_terms ys) vs → Each (λ (y : Variable) v. R (in_terms y) v) ys vs
each_back R [] [] e = tt
each_back R [] (v ∷ vs) e = absurd e
each_back R (y ∷ ys) [] e = absurd e
each_back R (y ∷ ys) (v ∷ vs) e = (e.0, each_back R ys vs e.1)

pub each_on : (R : tree.Variable ℕ → Read → Type 0) (ys : List Variable) (vs : List Read) → Each (λ (y : Variable) v. R (in_terms y) v) ys vs → Each R (map in_terms ys) vs
each_on R [] [] e = tt
each_on R [] (v ∷ vs) e = absurd e
each_on R (y ∷ ys) [] e = absurd e
each_on R (y ∷ ys) (v ∷ vs) e = (e.0, each_on R ys vs e.1)

module _ (sg : Signature) (cells brings : List (Cell (List ℕ))) (es : List (Equation (List ℕ))) (values : List Read)
    (values_typed : Each (λ z v. HasType sg [] v z.type) (numbered (length cells) brings) values) (low : (v : Read) → Contains values v → (y : tree.Variable ℕ) → Contains (variables v) y → y.name < length cells)
    (typed : AreTyped sg es) (known : AreKnown (cells ++ brings) (numbered (length cells) brings)) (over : AreOver (cells ++ brings) es) (hold : AllHoldCells (cells ++ brings) es)
    (are_cells : (y : tree.Variable ℕ) → holds (numbered (length cells) brings) y ≡ true → IsCell (cells ++ brings) y)
    (is_unifier : IsUnifier sg (numbered (length cells) brings) es (put_together (numbered (length cells) brings) values))
    (p : Substitution ℕ (List ℕ)) (solves : Solves (codes "x") (given es (cells ++ brings) (numbered (length cells) brings)) (unified (cells ++ brings) p)) where
  abbrev x : List ℕ
  x = codes "x"

  abbrev zs : List (tree.Variable ℕ)
  zs = numbered (length cells) brings

  abbrev after : List (Cell (List ℕ))
  after = cells ++ brings

  abbrev unifier : Substitution ℕ (List ℕ)
  unifier = put_together (numbered (length cells) brings) values

  abbrev brought : List Variable
  brought = variables_from (length cells) brings

  abbrev pub left_open : List Variable
  left_open = filter (stays p) (variables_from (length cells) brings)

  abbrev pub terms : List Read
  terms = kept p (variables_from (length cells) brings) values

  numbered_so : map in_terms brought ≡ zs
  numbered_so = numbered_from (length cells) brings

  brought_typed : Each (λ (y : Variable) t. HasType sg [] t y.type) brought values
  brought_typed = each_back (λ y t. HasType sg [] t y.type) brought values (subst (λ l. Each (λ y t. HasType sg [] t y.type) l values) (sym numbered_so) values_typed)

  pub made_so : made cells (cells ++ brings) p ≡ left_open
  made_so = ap (λ l. filter (stays p) (variables_from (length cells) l)) (drop-append_seam cells brings)

  pub terms_in : (t : Read) → Contains terms t → Contains values t
  terms_in = kept_in p brought values

  pub open_typed : Each (λ (y : Variable) t. HasType sg [] t y.type) left_open terms
  open_typed = kept_each p (λ (y : Variable) t. HasType sg [] t y.type) brought values brought_typed

  abbrev put_open : Substitution ℕ (List ℕ)
  put_open = put_together (map in_terms left_open) terms

  put_open_typed : IsTyped sg put_open
  put_open_typed = together_typed sg (map in_terms left_open) terms (each_on (λ y t. HasType sg [] t y.type) left_open terms open_typed)

  p_typed : IsTyped sg p
  p_typed = answer_typed sg x es after zs typed known after p solves

  general : IsInstance sg after p unifier
  general = most_general sg x es after zs typed known over unifier is_unifier after p solves

  abbrev r : Substitution ℕ (List ℕ)
  r = general.0

  -- on a variable that isn't replaced
  on_open : (y : tree.Variable ℕ) → holds (keys p) y ≡ false → y.name < length after → EqualPastHints (image same_number put_open (own x y)) (image same_number r (own x y))
  on_open y n l =
      let own_typed : HasType sg [] (own x y) y.type = expansion_typed sg x y.type [] (variable y) refl in
      let alone : (z : tree.Variable ℕ) → Contains (variables (own x y)) z → y ≡ z = λ z m. elim (Contains-cases y [] z (subst (λ q. Contains q z) (variables-expansion_of x y.type (variable y) no_terms) m)) [ inl e ↦ e | inr i ↦ absurd (Contains-none z i) ] in
      let as_kept : image same_number put_open (own x y) ≡ image same_number unifier (own x y) =
      image_agrees (value_in same_number put_open) (value_in same_number unifier) (own x y) (λ z m.
      kept_value p brought values (each_any (λ (y : Variable) t. HasType sg [] t y.type) brought values brought_typed) z (ap (holds (keys p)) (sym (alone z m)) ∙ n)
      ∙ ap (λ q. value_in same_number (put_together q values) z) numbered_so) in
      let stays_so : image same_number p (own x y) ≡ own x y =
      image_agrees (value_in same_number p) (value_in same_number []) (own x y) (λ z m. no_value p z (ap (holds (keys p)) (sym (alone z m)) ∙ n)) ∙ image_none (own x y) in
      ap forget as_kept
      ∙ general.2 [] (own x y) y.type own_typed (λ z h. subst (λ (q : tree.Variable ℕ). q.name < length after) (alone z (holds_contains (variables (own x y)) z h)) l)
      ∙ ap forget (image-composition sg same_number p p_typed r general.1 own_typed ∙ ap (image same_number r) stays_so)

  module _ (body : Read) (is_typed : HasType sg [] body prop) (in_cells : (y : tree.Variable ℕ) → Contains (variables body) y → IsCell (cells ++ brings) y) where
    body_over : IsOver after body
    body_over y h = known_cell after y.name y.type (in_cells y (holds_contains (variables body) y h))

    -- the variables of the body under the answer aren't replaced
    left_free : (y : tree.Variable ℕ) → Contains (variables (image same_number p body)) y → holds (keys p) y ≡ false
    left_free y m = elim (variables-image (value_in same_number p) body y m) [
      | inl a ↦ none_key p y a.1
      | inr a ↦ none_replaced x es after zs known over after p solves a.0 a.1 (a.2).1 y a.3
    ]

    left_low : (y : tree.Variable ℕ) → Contains (variables (image same_number p body)) y → y.name < length after
    left_low y m = known_cell after y.name y.type (image_cells sg x es after zs typed known are_cells hold after p solves body in_cells y m)

    pub body_opens : EqualPastHints (one_by_one same_number (put_together (map in_terms left_open) terms) (image same_number p body)) (image same_number unifier body)
    body_opens =
        let X = image same_number p body in
        let X_typed = image_typed sg same_number p p_typed is_typed in
        let high : (y : tree.Variable ℕ) → holds (map in_terms left_open) y ≡ true → length cells ≤ y.name = λ y h.
        (let from = Contains-from_map in_terms left_open y (holds_contains (map in_terms left_open) y h) in
        subst (λ (q : tree.Variable ℕ). length cells ≤ q.name) from.2 (from_number (length cells) brings from.0 (contains_kept (stays p) brought from.0 from.1).0)) in
        ap forget (once sg (length cells) (map in_terms left_open) terms high
        (All-from_contains (λ (v : Read). (y : tree.Variable ℕ) → Contains (variables v) y → y.name < length cells) terms (λ v m y i. low v (terms_in v m) y i))
        (each_on (λ y t. HasType sg [] t y.type) left_open terms open_typed) X_typed)
        ∙ images_agree sg x put_open r put_open_typed general.1 (variables X) (λ y h. let m = holds_contains (variables X) y h in on_open y (left_free y m) (left_low y m)) X_typed (λ y h. h)
        ∙ ap forget (sym (image-composition sg same_number p p_typed r general.1 is_typed))
        ∙ sym (general.2 [] body prop is_typed body_over)
