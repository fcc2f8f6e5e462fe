-- Eta-long forms of heads that are given arguments, with the bindings put in.
use Rattle.std.proofs.Common.{◌≡◌, ℕ, List, [], ◌∷◌, map, get_or, Bool, true, false, cond, Option, None, Some, option_map, ◌&&◌, refl, sym, ◌∙◌, ap, subst}
use Rattle.std.specs.Prelude.{◌==◌}
use Rattle.std.specs.List.{All}
use Rattle.std.specs.Cmp.{unsigned_Decides}
use Rattle.std.proofs.lemmas.List.Elements.{All-cons, All-nil, All-head, All-tail, All-map, All-weaker}
use Rattle.ab_term.specs.Types.{Ty, same_type}
use Rattle.ab_term.specs.Terms as tree
use Rattle.ab_term.specs.Terms.{Variable, Terms, no_terms, term, terms_of}
use Rattle.ab_term.specs.Typing.{HasType}
use Rattle.ab_term.specs.Expansion.{expansion_of, expansion}
use Rattle.ab_term.specs.Sameness.{same_number}
use Rattle.ab_term.specs.Translation.{forget, EqualPastHints}
use Rattle.ab_term.specs.Variables.{Substitution, IsTyped, value_in, image_by, image, image_all, one_by_one, at_once}
use Rattle.ab_term.proofs.Compositions.{map_typed}
use Rattle.ab_term.proofs.Expansions.{expansion_typed}
use Rattle.ab_term.proofs.Images.{IsTypedMap}
use Rattle.ab_term.proofs.InOrder.{one_by_one-at_once, at_once_typed}
use Rattle.ab_term.proofs.OwnExpansion.{Stays, image_by-expansion_of, image_by-own}
use Rattle.ab_term.proofs.PastHints.{bare, forget-image}
use Rattle.ab_term.proofs.Recognising.{forget-expansion}
use Rattle.ab_term.proofs.Translations.{translate_typed}
use Rattle.ab_store.specs.ab_types.specs.Entries.{Table, signature}
use Rattle.ab_store.specs.ab_types.specs.Ids.{type_of}
use Rattle.ab_store.specs.declared.node.TermId.{TermId}
use Rattle.ab_store.specs.declared.node.CellId.{CellId}
use Rattle.ab_store.specs.declared.node.Head.{Head}
use Rattle.ab_store.specs.declared.node.Head.TheVariants.{Const, Logic, Nominal, Cell, Index}
use Rattle.ab_store.specs.declared.node.Binding.{Binding}
use Rattle.ab_store.specs.Reading.{Read, Contents, Holds, HoldsCell, cell_of, tree_of, head_reading, bound_in, binding_of, cell_variable, pairs, reading}
use Rattle.ab_store.specs.Bindings.{AreInOrder}
use Rattle.ab_store.specs.Growth.{IsExtendedBy}
use Rattle.ab_store.specs.Naming.{IsTypedBy}
use Rattle.ab_store.proofs.Putting.{Pair, pair, pairs_typed, is_bound, value_is}
use Rattle.ab_norm.specs.Heads.{IsFree}
use Rattle.ab_norm.proofs.Read.{map_twice, still_read, still_trees}
use Rattle.ab_norm.proofs.Resolved.{pair_on}

-- the pair is for another variable than the head
abbrev Apart : tree.Head ℕ → Pair → Type 0
Apart (tree.variable y) p = (p.0.name == y.name) ≡ false
Apart _ p = Unit {0}

-- pairs that are put into each term of a list
abbrev put_all : Substitution ℕ (List ℕ) → Terms ℕ (List ℕ) → Terms ℕ (List ℕ)
put_all [] ts = ts
put_all (p ∷ ps) ts = put_all ps (image_all same_number (p ∷ []) ts)

put_none : (ps : Substitution ℕ (List ℕ)) → put_all ps no_terms ≡ no_terms
put_none [] = refl
put_none (p ∷ ps) = put_none ps

put_more : (ps : Substitution ℕ (List ℕ)) (t : Read) (ts : Terms ℕ (List ℕ)) → put_all ps (term t ts) ≡ term (one_by_one same_number ps t) (put_all ps ts)
put_more [] t ts = refl
put_more (p ∷ ps) t ts = put_more ps (image same_number (p ∷ []) t) (image_all same_number (p ∷ []) ts)

put_each : (ps : Substitution ℕ (List ℕ)) (ts : List Read) → put_all ps (terms_of ts) ≡ terms_of (map (one_by_one same_number ps) ts)
put_each ps [] = put_none ps
put_each ps (t ∷ ts) = put_more ps t (terms_of ts) ∙ ap (term (one_by_one same_number ps t)) (put_each ps ts)

module _ (types : Table) where
  abbrev Fit : Pair → Type 0
  Fit p = HasType (signature types) [] p.1 p.0.type

  one_stays : (p : Pair) (typed : IsTyped (signature types) (p ∷ [])) (h : tree.Head ℕ) → Apart h p → Stays (signature types) ℕ (List ℕ) (value_in same_number (p ∷ [])) (map_typed (signature types) same_number (p ∷ []) typed) h
  one_stays p typed (tree.constant c) apart = tt
  one_stays p typed (tree.logical l) apart = tt
  one_stays p typed (tree.nominal a) apart = tt
  one_stays p typed (tree.variable y) apart = ap (λ k. cond (k && same_type p.0.type y.type) (Some p.1) None) apart
  one_stays p typed (tree.index i) apart = tt

  put_given : (x : List ℕ) (B : Ty) (h : tree.Head ℕ) (ps : Substitution ℕ (List ℕ)) → IsTyped (signature types) ps → All (Apart h) ps → (ts : Terms ℕ (List ℕ))
      → one_by_one same_number ps (expansion_of x B h ts) ≡ expansion_of x B h (put_all ps ts)
  put_given x B h [] typed apart ts = refl
  put_given x B h (p ∷ ps) typed apart ts =
      let one : IsTyped (signature types) (p ∷ []) = All-cons Fit p [] (All-head Fit p ps typed) (All-nil Fit) in
      ap (one_by_one same_number ps) (image_by-expansion_of (signature types) ℕ (List ℕ) (value_in same_number (p ∷ [])) (map_typed (signature types) same_number (p ∷ []) one) x B h ts
      (one_stays p one h (All-head (Apart h) p ps apart)))
      ∙ put_given x B h ps (All-tail Fit p ps typed) (All-tail (Apart h) p ps apart) (image_all same_number (p ∷ []) ts)

  -- a head that is no bound cell
  free_apart : (s t : Contents) (h : Head) → IsFree s h → All (λ b. Apart (head_reading types s h) (pair types t b)) s.bindings
  free_apart s t (Const c) free i d l = tt
  free_apart s t (Logic c) free i d l = tt
  free_apart s t (Nominal n a) free i d l = tt
  free_apart s t (Index j) free i d l = tt
  free_apart s t (Cell c) free i d l = go ((get_or s.bindings i d).cell.0 == c.0) refl
    where
      go : (k : Bool) → ((get_or s.bindings i d).cell.0 == c.0) ≡ k → k ≡ false
      go true e =
          let one : (get_or s.bindings i d).cell.0 ≡ c.0 = (unsigned_Decides (get_or s.bindings i d).cell.0 c.0).0 e in
          absurd (is_bound s.bindings i d l (subst (λ n. bound_in s.bindings (record { 0 = n }) ≡ None) (sym one) free))
      go false e = refl

  pub given_reads : (s t : Contents) → IsExtendedBy s t → IsTypedBy types t → (x : List ℕ) (B : Ty) (h : Head) (ts : List TermId) (r : TermId) → IsFree s h → All (Holds s) ts
      → tree_of types t r ≡ expansion_of x B (head_reading types s h) (terms_of (map (tree_of types s) ts))
      → reading types t r ≡ expansion_of x B (head_reading types s h) (terms_of (map (reading types s) ts))
  given_reads s t more typed x B h ts r free held made =
      let ps : Substitution ℕ (List ℕ) = pairs types t in
      let g : tree.Head ℕ = head_reading types s h in
      let apart : All (Apart g) ps = All-map (Apart g) (pair types t) t.bindings (subst (All (λ b. Apart g (pair types t b))) (sym more.bindings) (free_apart s t h free)) in
      ap (one_by_one same_number ps) made
      ∙ put_given x B g ps (pairs_typed types t typed) apart (terms_of (map (tree_of types s) ts))
      ∙ ap (expansion_of x B g)
      (put_each ps (map (tree_of types s) ts)
      ∙ ap (λ l. terms_of (map (one_by_one same_number ps) l)) (sym (still_trees types s t more ts held))
      ∙ ap terms_of (map_twice (one_by_one same_number ps) (tree_of types t) ts ∙ still_read types s t more ts held))

-- a head that is a bound cell

bound_held : (P : TermId → Type 0) (bs : List Binding) (c : CellId) (u : TermId) → All (λ b. P b.term) bs → bound_in bs c ≡ Some u → P u
bound_held P [] c u all e = absurd (cc)
bound_held P (b ∷ bs) c u all e = go (bound_held P bs c u (All-tail (λ (b : Binding). P b.term) b bs all)) (b.cell.0 == c.0) e
  where
    go : (bound_in bs c ≡ Some u → P u) → (k : Bool) → cond k (Some b.term) (bound_in bs c) ≡ Some u → P u
    go rest true e = let one : b.term ≡ u = cc in subst P one (All-head (λ (b : Binding). P b.term) b bs all)
    go rest false e = rest e

module _ (types : Table) (s t : Contents) (more : IsExtendedBy s t) (order : AreInOrder s) where
  pairs_among : (bs : List Binding) → All (λ b. HoldsCell s b.cell × Holds s b.term) bs → map (pair types t) bs ≡ map (pair types s) bs
  pairs_among [] held = refl
  pairs_among (b ∷ bs) held =
      let here = All-head (λ (b : Binding). HoldsCell s b.cell × Holds s b.term) b bs held in
      ap (λ p. p ∷ map (pair types t) bs) (pair_on types s t more b here.0 here.1)
      ∙ ap (λ l. pair types s b ∷ l) (pairs_among bs (All-tail (λ (b : Binding). HoldsCell s b.cell × Holds s b.term) b bs held))

  same_pairs : pairs types t ≡ pairs types s
  same_pairs = ap (map (pair types t)) more.bindings ∙ pairs_among s.bindings order.held

  module _ (typed : IsTypedBy types s) where
    abbrev all : Substitution ℕ (List ℕ)
    all = at_once same_number (pairs types s)

    abbrev put : Variable ℕ → Option Read
    put = value_in same_number all

    all_typed : IsTypedMap (signature types) put
    all_typed = map_typed (signature types) same_number all (at_once_typed (signature types) same_number (pairs types s) (pairs_typed types s typed))

    bare_typed : IsTypedMap (signature types) (bare put)
    bare_typed y w e = go (put y) refl e
      where
        go : (o : Option Read) → put y ≡ o → option_map forget o ≡ Some w → HasType (signature types) [] w y.type
        go None is e = absurd (cc)
        go (Some v) is e =
            let one : forget v ≡ w = cc in
            subst (λ z. HasType (signature types) [] z y.type) one (translate_typed (signature types) (λ v. v) (λ x. tt) (all_typed y v is))

    pub bound_reads : (x : List ℕ) (c : CellId) (u r : TermId) (A : Ty) → binding_of s c ≡ Some u → A ≡ type_of types (cell_of s c).ty
        → tree_of types t r ≡ expansion x A (head_reading types s (Cell c)) → EqualPastHints (reading types t r) (reading types s u)
    bound_reads x c u r A bound is made =
        let v : Variable ℕ = cell_variable types s c in
        let w : Read = expansion x v.type (tree.variable v) in
        let held : Holds s u = bound_held (Holds s) s.bindings c u (All-weaker (λ (b : Binding). HoldsCell s b.cell × Holds s b.term) (λ b. Holds s b.term) (λ b h. h.1) s.bindings order.held) bound in
        let value : bare put v ≡ Some (forget (reading types s u)) = ap (option_map forget) (value_is types s typed order c ∙ ap (option_map (reading types s)) bound) in
        ap forget
        (ap (one_by_one same_number (pairs types t)) (made ∙ ap (λ B. expansion x B (tree.variable v)) is)
        ∙ ap (λ ps. one_by_one same_number ps w) same_pairs
        ∙ one_by_one-at_once (signature types) same_number (pairs types s) (pairs_typed types s typed) (expansion_typed (signature types) x v.type [] (tree.variable v) refl))
        ∙ forget-image put w
        ∙ ap (image_by (bare put)) (forget-expansion x v.type (tree.variable v))
        ∙ image_by-own (signature types) ℕ (bare put) bare_typed v (forget (reading types s u)) value
