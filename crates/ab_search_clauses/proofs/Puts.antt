-- WHAT IS PUT IN FOR A CLAUSE'S VARIABLES, and then something else: the clause's parts with that put in at once.
use Rattle.std.proofs.Common.{◌≡◌, inl, inr, ℕ, List, [], ◌∷◌, ◌++◌, map, length, codes, Bool, true, false, if◌then◌else◌, Option, Some, None, option_map, refl, sym, ◌∙◌, ap, subst}
use Rattle.std.specs.Prelude.{Contains}
use Rattle.std.proofs.lemmas.Bool.{false≢true}
use Rattle.ab_term.specs.Types.{Ty}
use Rattle.ab_term.specs.Terms.{Nominal, Variable, nominal, no_terms, Read}
use Rattle.ab_term.specs.Typing.{Signature, HasType}
use Rattle.ab_term.specs.Names.{rename, support}
use Rattle.ab_term.specs.Expansion.{expansion}
use Rattle.ab_term.specs.Variables.{Substitution, variables, value_in, image, image_by, composition, IsTyped}
use Rattle.ab_term.specs.Sameness.{same_number, same_numbered}
use Rattle.ab_term.proofs.Compositions.{then_by, value_in-composition, image-composition, image_typed, map_typed}
use Rattle.ab_term.proofs.Depends.{image_agrees}
use Rattle.ab_term.proofs.Lists.{Contains-none}
use Rattle.ab_term.proofs.OwnExpansion.{image_by-expansion_of}
use Rattle.ab_term.proofs.Permuting.{rename_agrees}
use Rattle.ab_term.proofs.Renamings.{rename-image_by, rename-expansion_of}
use Rattle.ab_term.proofs.UpToNames.{rename-itself}
use Rattle.ab_unifiers.specs.Replacements.{holds}
use Rattle.ab_unifiers.specs.Clauses.{Clause, clause_variables, clause_names, put_together, name_term, filled, AreFor}
use Rattle.ab_unifiers.proofs.Agreeing.{contains_holds}
use Rattle.ab_unifiers.proofs.Covered.{names_typed}
use Rattle.ab_unifiers.proofs.Rows.{each_any, found_none, held_append}
use Rattle.ab_unifiers.proofs.Unifier.{filled_typed, append-none}

-- each value is changed
mapped : (f : Read → Read) (ys : List (Variable ℕ)) (ts : List Read) (rest more : Substitution ℕ (List ℕ)) → ((y : Variable ℕ) → value_in same_number more y ≡ option_map f (value_in same_number rest y))
    → (y : Variable ℕ) → value_in same_number (put_together ys (map f ts) ++ more) y ≡ option_map f (value_in same_number (put_together ys ts ++ rest) y)
mapped f [] [] rest more e y = e y
mapped f [] (t ∷ ts) rest more e y = e y
mapped f (z ∷ ys) [] rest more e y = e y
mapped f (z ∷ ys) (t ∷ ts) rest more e y = go (same_numbered z y) (mapped f ys ts rest more e y)
  where
    go : (b : Bool) → value_in same_number (put_together ys (map f ts) ++ more) y ≡ option_map f (value_in same_number (put_together ys ts ++ rest) y)
        → (if b then Some (f t) else value_in same_number (put_together ys (map f ts) ++ more) y) ≡ option_map f (if b then Some t else value_in same_number (put_together ys ts ++ rest) y)
    go true r = refl
    go false r = r

names_moved : (m : Nominal → Nominal) → ((a : Nominal) → (m a).type ≡ a.type) → (ns : List Nominal) → map (rename m) (map (name_term (codes "x")) ns) ≡ map (name_term {Hint = List ℕ} (codes "x")) (map m ns)
names_moved m keeps [] = refl
names_moved m keeps (a ∷ ns) =
    let one : rename m (name_term {Hint = List ℕ} (codes "x") a) ≡ name_term (codes "x") (m a) = rename-expansion_of m (codes "x") a.type (nominal a) no_terms ∙ ap (λ A. expansion (codes "x") A (nominal (m a))) (sym (keeps a)) in
    ap (λ t. t ∷ map (rename m) (map (name_term (codes "x")) ns)) one ∙ ap (λ l. name_term (codes "x") (m a) ∷ l) (names_moved m keeps ns)

module _ (sg : Signature) (c : Clause (List ℕ)) (us : List Read) (ns : List Nominal) (for : AreFor sg (clause_variables c) us) (types : map (λ a. a.type) ns ≡ map (λ z. z.type) c.names) where
  abbrev put : Substitution ℕ (List ℕ)
  put = filled (codes "x") c us ns

  names_for : AreFor sg (clause_names c) (map (name_term (codes "x")) ns)
  names_for = names_typed sg (codes "x") (length c.variables) c.names ns types

  pub put_typed : IsTyped sg put
  put_typed = filled_typed sg (codes "x") c us ns for names_for

  -- something is put in for each
  all_put : (y : Variable ℕ) → holds (clause_variables c ++ clause_names c) y ≡ true → value_in same_number put y ≡ None → ⊥
  all_put y h e =
      let one = found_none (clause_variables c) us (put_together (clause_names c) (map (name_term (codes "x")) ns)) (each_any (λ y t. HasType sg [] t y.type) (clause_variables c) us for) y e in
      let two = found_none (clause_names c) (map (name_term (codes "x")) ns) [] (each_any (λ y t. HasType sg [] t y.type) (clause_names c) (map (name_term (codes "x")) ns) names_for) y
      (ap (λ l. value_in same_number l y) (append-none (put_together (clause_names c) (map (name_term (codes "x")) ns))) ∙ one.1) in
      elim (held_append (clause_variables c) (clause_names c) y h) [ inl a ↦ false≢true (sym one.0 ∙ a) | inr a ↦ false≢true (sym two.0 ∙ a) ]

  -- ANOTHER SUBSTITUTION behind
  module _ (r : Substitution ℕ (List ℕ)) (typed : IsTyped sg r) where
    names_stay : (as_ : List Nominal) → map (image same_number r) (map (name_term (codes "x")) as_) ≡ map (name_term (codes "x")) as_
    names_stay [] = refl
    names_stay (a ∷ as_) =
        ap (λ t. t ∷ map (image same_number r) (map (name_term (codes "x")) as_)) (image_by-expansion_of sg ℕ (List ℕ) (value_in same_number r) (map_typed sg same_number r typed) (codes "x") a.type (nominal a) no_terms tt)
        ∙ ap (λ l. name_term (codes "x") a ∷ l) (names_stay as_)

    names_values : (y : Variable ℕ) → value_in same_number (put_together (clause_names c) (map (name_term (codes "x")) ns)) y ≡ option_map (image same_number r) (value_in same_number (put_together (clause_names c) (map (name_term (codes "x")) ns)) y)
    names_values y =
        let names = map (name_term {Hint = List ℕ} (codes "x")) ns in
        ap (λ l. value_in same_number (put_together (clause_names c) l) y) (sym (names_stay ns))
        ∙ ap (λ l. value_in same_number l y) (sym (append-none (put_together (clause_names c) (map (image same_number r) names))))
        ∙ mapped (image same_number r) (clause_names c) names [] [] (λ z. refl) y
        ∙ ap (λ l. option_map (image same_number r) (value_in same_number l y)) (append-none (put_together (clause_names c) names))

    values_through : (y : Variable ℕ) → value_in same_number (filled (codes "x") c (map (image same_number r) us) ns) y ≡ option_map (image same_number r) (value_in same_number put y)
    values_through = mapped (image same_number r) (clause_variables c) us (put_together (clause_names c) (map (name_term (codes "x")) ns)) (put_together (clause_names c) (map (name_term (codes "x")) ns)) names_values

    pub put_through : (t : Read) {A : Ty} → HasType sg [] t A → ((y : Variable ℕ) → holds (variables t) y ≡ true → holds (clause_variables c ++ clause_names c) y ≡ true) → image same_number r (image same_number put t) ≡ image same_number (filled (codes "x") c (map (image same_number r) us) ns) t
    put_through t d own =
        sym (image-composition sg same_number put put_typed r typed d)
        ∙ image_agrees (value_in same_number (composition same_number put r)) (value_in same_number (filled (codes "x") c (map (image same_number r) us) ns)) t (λ y m.
        value_in-composition same_number put r y ∙ some y (own y (contains_holds (variables t) y m)) (value_in same_number put y) refl ∙ sym (values_through y))
      where
        some : (y : Variable ℕ) → holds (clause_variables c ++ clause_names c) y ≡ true → (o : Option Read) → value_in same_number put y ≡ o → then_by (value_in same_number r) y (value_in same_number put y) ≡ option_map (image same_number r) (value_in same_number put y)
        some y h None e = absurd (all_put y h e)
        some y h (Some u) e = ap (then_by (value_in same_number r) y) e ∙ sym (ap (option_map (image same_number r)) e)

    pub through_for : AreFor sg (clause_variables c) (map (image same_number r) us)
    through_for = go (clause_variables c) us for
      where
        go : (ys : List (Variable ℕ)) (ts : List Read) → AreFor sg ys ts → AreFor sg ys (map (image same_number r) ts)
        go [] [] e = tt
        go [] (t ∷ ts) e = absurd e
        go (y ∷ ys) [] e = absurd e
        go (y ∷ ys) (t ∷ ts) e = (image_typed sg same_number r typed e.0, go ys ts e.1)

  -- OTHER CONSTANTS
  module _ (m : Nominal → Nominal) (keeps : (a : Nominal) → (m a).type ≡ a.type) where
    values_moved : (y : Variable ℕ) → value_in same_number (filled (codes "x") c (map (rename m) us) (map m ns)) y ≡ option_map (rename m) (value_in same_number put y)
    values_moved = mapped (rename m) (clause_variables c) us (put_together (clause_names c) (map (name_term (codes "x")) ns)) (put_together (clause_names c) (map (name_term (codes "x")) (map m ns))) (λ y.
        let names = map (name_term {Hint = List ℕ} (codes "x")) ns in
        ap (λ l. value_in same_number (put_together (clause_names c) l) y) (sym (names_moved m keeps ns))
        ∙ ap (λ l. value_in same_number l y) (sym (append-none (put_together (clause_names c) (map (rename m) names))))
        ∙ mapped (rename m) (clause_names c) names [] [] (λ z. refl) y
        ∙ ap (λ l. option_map (rename m) (value_in same_number l y)) (append-none (put_together (clause_names c) names)))

    pub put_moved : (t : Read) → support t ≡ [] → rename m (image same_number put t) ≡ image same_number (filled (codes "x") c (map (rename m) us) (map m ns)) t
    put_moved t none =
        rename-image_by m (value_in same_number put) t
        ∙ ap (λ h. image_by h (rename m t)) (λ i y. sym (values_moved y) i)
        ∙ ap (image same_number (filled (codes "x") c (map (rename m) us) (map m ns))) (rename_agrees m (λ a. a) t (λ a k. absurd (Contains-none a (subst (λ l. Contains l a) none k))) ∙ rename-itself t)
