-- TERMS FOR NEW VARIABLES over constants: abstracted over these, they unify what they make equal.
use Rattle.std.proofs.Common.{◌≡◌, ◌⊎◌, inl, inr, ℕ, ◌<◌, List, [], ◌∷◌, map, codes, true, false, Option, Some, None, option_map, refl, sym, ◌∙◌, ap, subst, arith, zero, suc}
use Rattle.std.specs.Prelude.{All, Contains}
use Rattle.std.proofs.lemmas.Bool.{false_from_ne_true}
use Rattle.std.proofs.lemmas.List.Elements.{All-contains, Contains-append_cases, All-head, All-tail}
use Rattle.ab_term.specs.Types.{Ty}
use Rattle.ab_term.specs.Terms as tree
use Rattle.ab_term.specs.Terms.{Nominal, nominal, Read}
use Rattle.ab_term.specs.Typing.{Signature, HasType}
use Rattle.ab_term.specs.Names.{support}
use Rattle.ab_term.specs.Abstraction.{over, abstracted}
use Rattle.ab_term.specs.Translation.{forget}
use Rattle.ab_term.specs.Variables.{Substitution, variables, value_in, image, image_by, IsTyped, IsClean}
use Rattle.ab_term.specs.Sameness.{same_number}
use Rattle.ab_term.proofs.Depends.{image_agrees}
use Rattle.ab_term.proofs.Lists.{Contains-none, Contains-here, Contains-there, Contains-cases, All-from_contains}
use Rattle.ab_term.proofs.Translations.{support-translate, translate_typed}
use Rattle.ab_unifiers.specs.Replacements.{Cell, holds}
use Rattle.ab_unifiers.specs.Unification.{Equation}
use Rattle.ab_unifiers.specs.Unifiers.{Unifies, IsUnifier, sides, keys}
use Rattle.ab_unifiers.specs.Clauses.{Each, put_together, HoldsNone}
use Rattle.ab_unifiers.specs.Alternatives.{cells_over, made_over, made_terms}
use Rattle.ab_unifiers.proofs.Constants as names_in
use Rattle.ab_unifiers.proofs.Core.{made_are_over, over_has}
use Rattle.ab_unifiers.proofs.Covered.{found_of_all, hold_none}
use Rattle.ab_unifiers.proofs.Following.{plain, plain_typed, image_plain}
use Rattle.ab_unifiers.proofs.Lifting.{lifted, OfCells, lifted_typed}
use Rattle.ab_unifiers.proofs.Rows.{each_any, each_held, each_weaker, found_each, keys_put_together, together_typed, together_all, numbered_within, numbered_different}
use Rattle.ab_unifiers.proofs.Ruling.{image_none}
use Rattle.ab_formulas.specs.GoalTerms.{HoldsOnly}
use Rattle.ab_formulas.specs.Sequents.{names_of}
use Rattle.ab_search_trees.specs.Lifting.{MakesEqual}
use Rattle.ab_search_trees.proofs.Lifts.{no_value}
use Rattle.ab_pattern_matching.specs.Reading.{HoldNoneOf, IsGuessOver}
use Rattle.ab_search_proofs.proofs.Unfolds.{names_inside}
use Rattle.ab_unifiers.proofs.Unifier.{from_cells}
use Rattle.ab_term.proofs.ClosingImages.{variables-close}
use Rattle.ab_term.proofs.Closing.{forget-abstracted}
use Rattle.ab_term.proofs.Raising.{new_over, image-given, forget-given}

-- an abstraction over constants holds no variable more
abstracted_variables : (x : List ℕ) (ns : List Nominal) (A : Ty) (t : Read) (y : tree.Variable ℕ) → Contains (variables (abstracted x (over ns A) (map nominal ns) t)) y → Contains (variables t) y
abstracted_variables x [] A t y m = m
abstracted_variables x (a ∷ ns) A t y m = abstracted_variables x ns A t y (variables-close zero (nominal a) (abstracted x (over ns A) (map nominal ns) t) y m).0

-- constants that none of the sides holds
none_of : (ns : List Nominal) (K : Nominal → Type 0) → ((a : Nominal) → Contains ns a → K a → ⊥) → (es : List (Equation (List ℕ))) → All (names_in.Has K) (sides es) → HoldNoneOf ns es
none_of ns K out [] all = tt
none_of ns K out (e ∷ es) all =
    let first = All-head (names_in.Has K) e.left (e.right ∷ sides es) all in
    let others = All-tail (names_in.Has K) e.left (e.right ∷ sides es) all in (
      (λ a m. ((λ i. out a m (names_in.has_support K e.left first a i)), (λ i. out a m (names_in.has_support K e.right (All-head (names_in.Has K) e.right (sides es) others) a i)))),
      none_of ns K out es (All-tail (names_in.Has K) e.right (sides es) others),
    )

plain_equal : (u : Substitution ℕ (List ℕ)) (es : List (Equation (List ℕ))) → Unifies u es → MakesEqual (plain u) es
plain_equal u [] e = tt
plain_equal u (d ∷ es) e = (sym (image_plain u d.left) ∙ e.0 ∙ image_plain u d.right, plain_equal u es e.1)

module _ (sg : Signature) (k : ℕ) (S : List Nominal) (cs : List (Cell (List ℕ))) (us : List Read) (us_are : OfCells sg (codes "x") cs us) where
  abbrev x : List ℕ
  x = codes "x"

  abbrev pub zs : List (tree.Variable ℕ)
  zs = made_over (codes "x") k S cs

  abbrev pub values : List Read
  values = lifted sg (codes "x") S cs us

  abbrev pub unifier : Substitution ℕ (List ℕ)
  unifier = put_together (made_over (codes "x") k S cs) (lifted sg (codes "x") S cs us)

  pub values_typed : Each (λ z v. HasType sg [] v z.type) zs values
  values_typed = lifted_typed sg x k S cs us us_are

  pub unifier_typed : IsTyped sg unifier
  unifier_typed = together_typed sg zs values values_typed

  values_any : Each (λ z v. Unit {0}) zs values
  values_any = each_any (λ z v. HasType sg [] v z.type) zs values values_typed

  unifier_keys : keys unifier ≡ zs
  unifier_keys = keys_put_together zs values values_any

  pub found : Each (λ z v. value_in same_number unifier z ≡ Some v) zs values
  found = found_each unifier zs values (numbered_different k (cells_over x S cs)) (λ y h t e. e) values_any

  -- the new variables, given the constants, become the terms
  pub become : Each (λ m w. image_by (plain unifier) (forget m) ≡ forget w) (made_terms (codes "x") k S cs) us
  become = go k cs us us_are found
    where
      go : (i : ℕ) (ds : List (Cell (List ℕ))) (ws : List Read) → OfCells sg (codes "x") ds ws
          → Each (λ z v. value_in same_number (put_together (made_over (codes "x") k S cs) (lifted sg (codes "x") S cs us)) z ≡ Some v) (made_over (codes "x") i S ds) (lifted sg (codes "x") S ds ws)
          → Each (λ m w. image_by (plain (put_together (made_over (codes "x") k S cs) (lifted sg (codes "x") S cs us))) (forget m) ≡ forget w) (made_terms (codes "x") i S ds) ws
      go i [] [] d f = tt
      go i [] (w ∷ ws) d f = absurd d
      go i (c ∷ ds) [] d f = absurd d
      go i (c ∷ ds) (w ∷ ws) d f = (
        ap (image_by (plain unifier)) (forget-given x (new_over i S c.type) S c.type)
            ∙ image-given sg (plain unifier) (plain_typed sg unifier unifier_typed) i S c.type (forget w) (translate_typed sg (λ v. v) (λ h. tt) d.0) (ap (option_map forget) f.0 ∙ ap Some (forget-abstracted x (over S c.type) (map nominal S) w)),
        go (suc i) ds ws d.1 f.1,
      )

  not_unified : (y : tree.Variable ℕ) → holds zs y ≡ false → value_in same_number unifier y ≡ None
  not_unified y h = no_value unifier y (ap (λ l. holds l y) unifier_keys ∙ h)

  -- older terms stay
  pub old_stays : (t : Read) → ((y : tree.Variable ℕ) → Contains (variables t) y → y.name < k) → image same_number unifier t ≡ t
  old_stays t old = image_agrees (value_in same_number unifier) (value_in same_number []) t (λ y m. not_unified y (false_from_ne_true (holds zs y) (λ h.
      let high = (numbered_within k (cells_over x S cs) y h).0 in let low = old y m in omega (arith, high, low)))) ∙ image_none t

  pub value_listed : (y : tree.Variable ℕ) (v : Read) → value_in same_number unifier y ≡ Some v → Contains values v
  value_listed = found_of_all (Contains values) unifier (together_all (Contains values) zs values (listed zs values values_any (λ v m. m)))
    where
      listed : (ys : List (tree.Variable ℕ)) (vs : List Read) → Each (λ y v. Unit {0}) ys vs → ((v : Read) → Contains vs v → Contains values v) → Each (λ y v. Contains values v) ys vs
      listed [] [] e f = tt
      listed [] (v ∷ vs) e f = absurd e
      listed (y ∷ ys) [] e f = absurd e
      listed (y ∷ ys) (v ∷ vs) e f = (f v (Contains-here v vs), listed ys vs e.1 (λ w m. f w (Contains-there v vs w m)))

  abbrev pub foreign : List Nominal
  foreign = names_of (lifted sg (codes "x") S cs us)

  pub guess_over : IsGuessOver sg (made_over (codes "x") k S cs) foreign (plain unifier)
  guess_over = record {
    typed = plain_typed sg unifier unifier_typed;
    held = λ y v e a m. held y v (value_in same_number unifier y) refl e a m;
    some = λ y h. each_held (λ z v. value_in same_number unifier z ≡ Some v) (λ z. (v : tree.Term ℕ (Unit {0})) × (plain unifier z ≡ Some v)) (λ z v e. (forget v, ap (option_map forget) e)) zs values found y h;
    none = λ y h. ap (option_map forget) (not_unified y h);
  }
    where
      held : (y : tree.Variable ℕ) (v : tree.Term ℕ (Unit {0})) (o : Option Read) → value_in same_number unifier y ≡ o → option_map forget o ≡ Some v → (a : Nominal) → Contains (support v) a → Contains (names_of (lifted sg (codes "x") S cs us)) a
      held y v None q e a m = absurd (cc)
      held y v (Some u) q e a m =
          let same : forget u ≡ v = cc in
          names_inside values u a (value_listed y u q) (subst (λ l. Contains l a) (support-translate (λ k. k) (λ h. tt) u) (subst (λ t. Contains (support t) a) (sym same) m))

  from_value : (vs : List Read) (a : Nominal) → Contains (names_of vs) a → (v : Read) × Contains vs v × Contains (support v) a
  from_value [] a m = absurd (Contains-none a m)
  from_value (v ∷ vs) a m = elim (Contains-append_cases (support v) (names_of vs) a m) [
    | inl i ↦ (v, Contains-here v vs, i)
    | inr i ↦ let r = from_value vs a i in (r.0, Contains-there v vs r.0 r.1, r.2)
  ]

  -- what the values hold is what the terms hold
  pub values_known : (V : List (tree.Variable ℕ)) → All (HoldsOnly V) us → (v : Read) → Contains values v → (y : tree.Variable ℕ) → Contains (variables v) y → Contains V y
  values_known V known = go cs us (λ u m. All-contains (HoldsOnly V) us u known m)
    where
      go : (ds : List (Cell (List ℕ))) (vs : List Read) → ((u : Read) → Contains vs u → HoldsOnly V u) → (v : Read) → Contains (lifted sg x S ds vs) v → (y : tree.Variable ℕ) → Contains (variables v) y → Contains V y
      go [] vs f v m = absurd (Contains-none v m)
      go (e ∷ ds) [] f v m = absurd (Contains-none v m)
      go (e ∷ ds) (u ∷ vs) f v m = elim (Contains-cases (abstracted x (over S e.type) (map nominal S) u) (lifted sg x S ds vs) v m) [
        | inl q ↦ (λ y i. All-contains (Contains V) (variables u) y (f u (Contains-here u vs)) (abstracted_variables x S e.type u y (subst (λ t. Contains (variables t) y) (sym q) i)))
        | inr n ↦ go ds vs (λ w i. f w (Contains-there u vs w i)) v n
      ]

  pub values_names : (v : Read) → Contains values v → (a : Nominal) → Contains (support v) a → Contains (names_of us) a
  values_names = go cs us (λ u m a i. names_inside us u a m i)
    where
      go : (ds : List (Cell (List ℕ))) (vs : List Read) → ((u : Read) → Contains vs u → (a : Nominal) → Contains (support u) a → Contains (names_of us) a) → (v : Read) → Contains (lifted sg x S ds vs) v → (a : Nominal) → Contains (support v) a → Contains (names_of us) a
      go [] vs f v m = absurd (Contains-none v m)
      go (e ∷ ds) [] f v m = absurd (Contains-none v m)
      go (e ∷ ds) (u ∷ vs) f v m = elim (Contains-cases (abstracted x (over S e.type) (map nominal S) u) (lifted sg x S ds vs) v m) [
        | inl q ↦ (λ a i. let P : Nominal → Type 0 = Contains (names_of us) in
            (names_in.has_support (names_in.ButAll P S) (abstracted x (over S e.type) (map nominal S) u) (names_in.abstracted_has P x S e.type u (names_in.support_has P u (f u (Contains-here u vs)))) a (subst (λ t. Contains (support t) a) (sym q) i)).0)
        | inr n ↦ go ds vs (λ w i. f w (Contains-there u vs w i)) v n
      ]

  -- THE VALUES' CONSTANTS are others, where the terms hold none of these besides
  module _ (ns : List Nominal) (without : All (HoldsNone sg ns) us) where
    abbrev Other : Nominal → Type 0
    Other = names_in.ButAll (λ a. ¬ (Contains ns a)) S

    values_other : Each (λ z v. names_in.Has Other v) zs values
    values_other = over_has sg x (λ a. ¬ (Contains ns a)) S zs cs us (made_are_over sg x k S cs) (hold_none sg ns 0 cs us (from_cells sg x 0 cs us us_are) without)

    each_other : (ys : List (tree.Variable ℕ)) (vs : List Read) → Each (λ z v. names_in.Has Other v) ys vs → (v : Read) → Contains vs v → names_in.Has Other v
    each_other [] [] e v m = absurd (Contains-none v m)
    each_other [] (w ∷ vs) e v m = absurd e
    each_other (y ∷ ys) [] e v m = absurd (Contains-none v m)
    each_other (y ∷ ys) (w ∷ vs) e v m = elim (Contains-cases w vs v m) [ inl q ↦ subst (names_in.Has Other) q e.0 | inr i ↦ each_other ys vs e.1 v i ]

    pub values_without : (v : Read) → Contains values v → HoldsNone sg ns v
    values_without v m = All-from_contains (λ a. ¬ (Contains (support v) a)) ns (λ a i j. (names_in.has_support Other v (each_other zs values values_other v m) a j).0 i)

    -- EQUATIONS over these constants that they make equal
    module _ (es : List (Equation (List ℕ))) (holding : All (names_in.Has (λ a. Contains S a ⊎ Contains ns a)) (sides es)) (unifies : Unifies unifier es) where
      abbrev Known : Nominal → Type 0
      Known a = Contains S a ⊎ Contains ns a

      apart : (a : Nominal) → Other a → Known a → ⊥
      apart a p k = elim k [ inl i ↦ p.1 i | inr i ↦ p.0 i ]

      clean : IsClean unifier (sides es)
      clean = together_all (λ v. All (λ t. All (λ a. ¬ (Contains (support t) a)) (support v)) (sides es)) zs values
          (each_weaker (λ z v. names_in.Has Other v) (λ z v. All (λ t. All (λ a. ¬ (Contains (support t) a)) (support v)) (sides es))
          (λ z v h. All-from_contains (λ t. All (λ a. ¬ (Contains (support t) a)) (support v)) (sides es) (λ t i. All-from_contains (λ a. ¬ (Contains (support t) a)) (support v) (λ a m j.
          apart a (names_in.has_support Other v h a m) (names_in.has_support Known t (All-contains (names_in.Has Known) (sides es) t holding i) a j)))) zs values values_other)

      pub is_unifier : IsUnifier sg (made_over (codes "x") k S cs) es unifier
      is_unifier = record { typed = unifier_typed; clean = clean; within = λ y h. subst (λ l. holds l y ≡ true) unifier_keys h; unifies = unifies }

      pub hold_none_there : HoldNoneOf foreign es
      hold_none_there = none_of foreign Known (λ a m i.
          let from = from_value values a m in apart a (names_in.has_support Other from.0 (each_other zs values values_other from.0 from.1) a from.2) i) es holding

      pub equal : MakesEqual (plain unifier) es
      equal = plain_equal unifier es unifies
