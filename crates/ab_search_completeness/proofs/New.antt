-- NEW VARIABLES UNDER A GUESS: each is the term that is guessed for it, abstracted over the constants that the variable is given.
use Rattle.std.proofs.Common.{◌≡◌, inl, inr, ℕ, suc, ◌<◌, ◌≤◌, List, [], ◌∷◌, ◌++◌, map, length, codes, Bool, true, false, Option, Some, None, option_map, refl, sym, ◌∙◌, ap, subst, arith}
use Rattle.std.specs.Prelude.{Contains}
use Rattle.std.proofs.lemmas.Bool.{false≢true, false_from_ne_true}
use Rattle.ab_term.specs.Terms.{Nominal, Variable, nominal, Term, Read}
use Rattle.ab_term.specs.Typing.{Signature, HasType}
use Rattle.ab_term.specs.Names.{support}
use Rattle.ab_term.specs.Abstraction.{Only, over, abstracted}
use Rattle.ab_term.specs.Translation.{forget}
use Rattle.ab_term.specs.Variables.{Substitution, value_in, image_by, IsTyped}
use Rattle.ab_term.specs.Sameness.{same_number}
use Rattle.ab_term.proofs.Closing.{forget-abstracted}
use Rattle.ab_term.proofs.Raising.{image-given, forget-given}
use Rattle.ab_term.proofs.Translations.{translate_typed, support-translate}
use Rattle.ab_unifiers.specs.Replacements.{Cell, holds}
use Rattle.ab_unifiers.specs.Clauses.{Each, put_together}
use Rattle.ab_unifiers.specs.Alternatives.{cells_over, made_over, made_terms}
use Rattle.ab_unifiers.proofs.Agreeing.{holds_front, holds_behind}
use Rattle.ab_unifiers.proofs.Avoiding.{not_held}
use Rattle.ab_unifiers.proofs.Constants as names
use Rattle.ab_unifiers.proofs.Core.{made_are_over, over_has}
use Rattle.ab_unifiers.proofs.Following.{Put, Fits, plain, plain_typed}
use Rattle.ab_unifiers.proofs.Lifting.{lifted, OfCells, lifted_typed}
use Rattle.ab_unifiers.proofs.Rows.{each_any, each_held, found_each, found_has, nothing_found, keys_put_together, together_typed, numbered_within, numbered_different}
use Rattle.ab_unifiers.proofs.Unifier.{append-none}
use Rattle.ab_search_trees.specs.Goals.{Now}
use Rattle.ab_search_trees.proofs.Guessed.{support_only, contained}
use Rattle.ab_search_trees.proofs.Lifts.{no_value}
use Rattle.ab_search_trees.proofs.Against.{IsState}
use Rattle.ab_search_trees.proofs.Clauses.{or_else}
use Rattle.ab_search_trees.proofs.Growing.{IsGrown}

module _ (sg : Signature) (now : Now) (f : Put) (s : IsState sg now f) (first : ℕ) (far : length now.cells ≤ first) (S : List Nominal) (cs : List (Cell (List ℕ))) (us : List Read) (us_are : OfCells sg (codes "x") cs us)
    (us_of : Each (λ k u. names.Has (Contains S) u) cs us) where
  abbrev x : List ℕ
  x = codes "x"

  abbrev own : List (Cell (List ℕ))
  own = cells_over x S cs

  abbrev pub zs : List (Variable ℕ)
  zs = made_over x first S cs

  abbrev values : List Read
  values = lifted sg x S cs us

  abbrev sub : Substitution ℕ (List ℕ)
  sub = put_together zs values

  values_typed : Each (λ z v. HasType sg [] v z.type) zs values
  values_typed = lifted_typed sg x first S cs us us_are

  sub_typed : IsTyped sg sub
  sub_typed = together_typed sg zs values values_typed

  found : Each (λ z v. value_in same_number sub z ≡ Some v) zs values
  found = found_each sub zs values (numbered_different first own) (λ y h t e. e) (each_any (λ z v. HasType sg [] v z.type) zs values values_typed)

  -- THE GUESS, with what is guessed for the new variables
  abbrev pub with_new : Put
  with_new y = or_else (plain sub y) (f y)

  not_old : (y : Variable ℕ) → y.name < length now.cells → holds zs y ≡ false
  not_old y l = false_from_ne_true (holds zs y) (λ h. let high = (numbered_within first own y h).0 in absurd (omega (arith, high, l, far)))

  no_sub : (y : Variable ℕ) → holds zs y ≡ false → plain sub y ≡ None
  no_sub y h = ap (option_map forget) (no_value sub y (ap (λ l. holds l y) (keys_put_together zs values (each_any (λ z v. HasType sg [] v z.type) zs values values_typed)) ∙ h))

  is_sub : (y : Variable ℕ) → holds zs y ≡ true → (v : Read) × (value_in same_number sub y ≡ Some v)
  is_sub = each_held (λ z v. value_in same_number sub z ≡ Some v) (λ z. (v : Read) × (value_in same_number sub z ≡ Some v)) (λ z v e. (v, e)) zs values found

  at_old : (y : Variable ℕ) → holds zs y ≡ false → with_new y ≡ f y
  at_old y h = ap (λ o. or_else o (f y)) (no_sub y h)

  at_new : (y : Variable ℕ) (v : Read) → value_in same_number sub y ≡ Some v → with_new y ≡ Some (forget v)
  at_new y v e = ap (λ o. or_else (option_map forget o) (f y)) e

  pub same_before : (y : Variable ℕ) → y.name < length now.cells → with_new y ≡ f y
  same_before y l = at_old y (not_old y l)

  nameless : Each (λ z v. names.Has (names.ButAll (Contains S) S) v) zs values
  nameless = over_has sg x (Contains S) S zs cs us (made_are_over sg x first S cs) us_of

  value_only : (y : Variable ℕ) (v : Read) → value_in same_number sub y ≡ Some v → HasType sg [] (forget v) y.type → Only [] (forget v)
  value_only y v q typed_v =
      let h : names.Has (names.ButAll (Contains S) S) v = found_has (names.Has (names.ButAll (Contains S) S)) zs values [] nameless (nothing_found (names.Has (names.ButAll (Contains S) S))) y v (ap (λ l. value_in same_number l y) (append-none sub) ∙ q) in
      support_only sg [] [] (forget v) typed_v (λ i l. absurd (omega (arith, l)))
      (λ a m. let there = subst (λ l. Contains l a) (support-translate (λ k. k) (λ k. tt) v) (contained (support (forget v)) a m) in let p = names.has_support (names.ButAll (Contains S) S) v h a there in absurd (p.1 p.0))

  pub fits_new : Fits sg [] (now.flexible ++ zs) with_new
  fits_new = record {
    typed = λ y v q. typed_at y v (plain sub y) refl q;
    has = λ y v q. only_at y v (value_in same_number sub y) refl q;
    some = λ y h. elim (not_held now.flexible zs y h) [
      | inl a ↦ some_old y a (holds zs y) refl
      | inr a ↦ (let v = is_sub y a in (forget v.0, at_new y v.0 v.1))
    ];
    none = λ y h. at_old y (false_from_ne_true (holds zs y) (λ m. false≢true (sym h ∙ holds_behind now.flexible zs y m))) ∙ s.fits.none y (false_from_ne_true (holds now.flexible y) (λ m. false≢true (sym h ∙ holds_front now.flexible zs y m)));
  }
    where
      typed_at : (y : Variable ℕ) (v : Term ℕ (Unit {0})) (o : Option (Term ℕ (Unit {0}))) → plain sub y ≡ o → or_else o (f y) ≡ Some v → HasType sg [] v y.type
      typed_at y v None p q = s.fits.typed y v q
      typed_at y v (Some w) p q = plain_typed sg sub sub_typed y v (p ∙ q)

      only_at : (y : Variable ℕ) (v : Term ℕ (Unit {0})) (o : Option Read) → value_in same_number sub y ≡ o → or_else (option_map forget o) (f y) ≡ Some v → Only [] v
      only_at y v None p q = s.fits.has y v q
      only_at y v (Some w) p q = let same : forget w ≡ v = cc in subst (Only []) same (value_only y w p (plain_typed sg sub sub_typed y (forget w) (ap (option_map forget) p)))

      some_old : (y : Variable ℕ) → holds now.flexible y ≡ true → (b : Bool) → holds zs y ≡ b → (v : Term ℕ (Unit {0})) × (with_new y ≡ Some v)
      some_old y a true h = let v = is_sub y h in (forget v.0, at_new y v.0 v.1)
      some_old y a false h = let r = s.fits.some y a in (r.0, at_old y h ∙ r.1)

  -- whatever cells come with them
  pub grown_new : (more : List (Cell (List ℕ))) → IsGrown now (record now { cells = now.cells ++ more; flexible = now.flexible ++ zs }) f with_new
  grown_new more = record {
    cells = (more, refl);
    fixed = λ y l m. false_from_ne_true (holds (now.flexible ++ zs) y) (λ h. elim (not_held now.flexible zs y h) [ inl a ↦ false≢true (sym m ∙ a) | inr a ↦ false≢true (sym (not_old y l) ∙ a) ]);
    same = same_before;
  }

  -- the new variables, given the constants, become the terms
  met_from : (n : ℕ) (ks : List (Cell (List ℕ))) (ws : List Read) → OfCells sg x ks ws → Each (λ z v. value_in same_number sub z ≡ Some v) (made_over x n S ks) (lifted sg x S ks ws) → Each (λ m w. image_by with_new (forget m) ≡ forget w) (made_terms x n S ks) ws
  met_from n [] [] d e = tt
  met_from n [] (w ∷ ws) d e = absurd d
  met_from n (k ∷ ks) [] d e = absurd d
  met_from n (k ∷ ks) (w ∷ ws) d e =
      let z : Variable ℕ = record { name = n; type = over S k.type } in (
        ap (image_by with_new) (forget-given x z S k.type)
            ∙ image-given sg with_new fits_new.typed n S k.type (forget w) (translate_typed sg (λ v. v) (λ h. tt) d.0) (at_new z (abstracted x (over S k.type) (map nominal S) w) e.0 ∙ ap Some (forget-abstracted x (over S k.type) (map nominal S) w)),
        met_from (suc n) ks ws d.1 e.1,
      )

  pub met_new : Each (λ m w. image_by with_new (forget m) ≡ forget w) (made_terms x first S cs) us
  met_new = met_from first cs us us_are found
