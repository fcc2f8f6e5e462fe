-- When two terms of a store read alike past their hints.
use Rattle.std.proofs.Common.{◌≡◌, ◌≢◌, ◌⊎◌, inl, inr, ◌↔◌, ℕ, ◌+◌, ◌<◌, ◌≤◌, List, [], ◌∷◌, ◌++◌, map, take, length, get_or, Bool, true, false, refl, sym, ◌∙◌, ap, arith}
use Rattle.std.proofs.lemmas.List.{map_more, take_all, get_or-map, length-map}
use Rattle.ab_term.specs.Terms as tree
use Rattle.ab_term.specs.Terms.{Term, Terms, lam, spine, term, no_terms, terms_of, Read}
use Rattle.ab_term.specs.Translation.{forget, forget_all, EqualPastHints, translate_head}
use Rattle.ab_store.specs.ab_types.specs.Entries.{Table}
use Rattle.ab_store.specs.ab_types.specs.Ids.{HoldsType, type_of}
use Rattle.ab_store.specs.ab_types.specs.Sound.{IsTable}
use Rattle.ab_store.specs.ab_types.specs.declared.ids.TypeId.{TypeId}
use Rattle.ab_store.specs.ab_types.proofs.Kept.{one_type}
use Rattle.ab_store.specs.declared.node.TermId.{TermId}
use Rattle.ab_store.specs.declared.node.Head.{Head}
use Rattle.ab_store.specs.declared.node.Node.{Node}
use Rattle.ab_store.specs.declared.node.Node.TheVariants.{Lam, Spine}
use Rattle.ab_store.specs.Trees.{Contents, tree_of, head_reading, node_tree}
use Rattle.ab_store.specs.Naming.{HeadIsTyped, IsTypedBy}
use Rattle.ab_norm.specs.declared.memo.Agreed.{Agreed}
use Rattle.ab_norm.specs.WalkMemory.{has_agreed}
use Rattle.ab_norm.specs.NameMatches.{AllAgree}
use Rattle.ab_norm.proofs.OneHead.{one_head}

abbrev pub Bare : Type 0
Bare = Term ℕ (Unit {0})

same_translated : (h : tree.Head ℕ) → translate_head (λ v. v) h ≡ h
same_translated (tree.constant c) = refl
same_translated (tree.logical l) = refl
same_translated (tree.nominal a) = refl
same_translated (tree.variable x) = refl
same_translated (tree.index i) = refl

-- lists of terms and their trees
pub forget_terms : (ts : List Read) → forget_all (terms_of ts) ≡ terms_of (map forget ts)
forget_terms [] = refl
forget_terms (t ∷ ts) = ap (term (forget t)) (forget_terms ts)

list_of : Terms ℕ (Unit {0}) → List Bare
list_of no_terms = []
list_of (term t ts) = t ∷ list_of ts

list_terms : (ts : List Bare) → list_of (terms_of ts) ≡ ts
unfolding list_of
list_terms [] = refl
list_terms (t ∷ ts) = ap (λ l. t ∷ l) (list_terms ts)

pub same_list : (ts us : List Read) → forget_all (terms_of ts) ≡ forget_all (terms_of us) → map forget ts ≡ map forget us
same_list ts us e =
    sym (list_terms (map forget ts)) ∙ ap list_of (sym (forget_terms ts) ∙ e ∙ forget_terms us) ∙ list_terms (map forget us)

pub same_terms : (ts us : List Read) → map forget ts ≡ map forget us → forget_all (terms_of ts) ≡ forget_all (terms_of us)
same_terms ts us e = forget_terms ts ∙ ap terms_of e ∙ sym (forget_terms us)

module _ (types : Table) (s : Contents) where
  -- abstractions
  module _ (a b : TermId) (n m : Node) (A B : TypeId) (x y : List ℕ) (t u : TermId)
      (reads_a : tree_of types s a ≡ node_tree types s n) (is_a : n ≡ Lam A x t)
      (reads_b : tree_of types s b ≡ node_tree types s m) (is_b : m ≡ Lam B y u) where
    left : forget (tree_of types s a) ≡ lam (type_of types A) tt (forget (tree_of types s t))
    left = ap forget (reads_a ∙ ap (node_tree types s) is_a)

    right : forget (tree_of types s b) ≡ lam (type_of types B) tt (forget (tree_of types s u))
    right = ap forget (reads_b ∙ ap (node_tree types s) is_b)

    pub same_lam : (r : Bool) → A ≡ B → (r ≡ true) ↔ EqualPastHints (tree_of types s t) (tree_of types s u) → (r ≡ true) ↔ EqualPastHints (tree_of types s a) (tree_of types s b)
    same_lam r one body = (λ e. left ∙ ap (λ C. lam (type_of types C) tt (forget (tree_of types s t))) one ∙ ap (lam (type_of types B) tt) (body.0 e) ∙ sym right, λ e. body.1 (let f = sym left ∙ e ∙ right in cc))

    pub other_type : IsTable types → HoldsType types A → HoldsType types B → A ≢ B → EqualPastHints (tree_of types s a) (tree_of types s b) → ⊥
    other_type ok ha hb differ e = differ (one_type types ok A B ha hb (let f = sym left ∙ e ∙ right in cc))

  -- heads with arguments
  module _ (a b : TermId) (n m : Node) (h g : Head) (ts us : List TermId)
      (reads_a : tree_of types s a ≡ node_tree types s n) (is_a : n ≡ Spine h ts)
      (reads_b : tree_of types s b ≡ node_tree types s m) (is_b : m ≡ Spine g us) where
    left_spine : forget (tree_of types s a) ≡ spine (head_reading types s h) (forget_all (terms_of (map (tree_of types s) ts)))
    left_spine = ap forget (reads_a ∙ ap (node_tree types s) is_a) ∙ ap (λ k. spine k (forget_all (terms_of (map (tree_of types s) ts)))) (same_translated (head_reading types s h))

    right_spine : forget (tree_of types s b) ≡ spine (head_reading types s g) (forget_all (terms_of (map (tree_of types s) us)))
    right_spine = ap forget (reads_b ∙ ap (node_tree types s) is_b) ∙ ap (λ k. spine k (forget_all (terms_of (map (tree_of types s) us)))) (same_translated (head_reading types s g))

    pub same_spine : (r : Bool) → h ≡ g → (r ≡ true) ↔ (forget_all (terms_of (map (tree_of types s) ts)) ≡ forget_all (terms_of (map (tree_of types s) us))) → (r ≡ true) ↔ EqualPastHints (tree_of types s a) (tree_of types s b)
    same_spine r one args = (
      λ e. left_spine ∙ ap (λ k. spine (head_reading types s k) (forget_all (terms_of (map (tree_of types s) ts)))) one ∙ ap (spine (head_reading types s g)) (args.0 e) ∙ sym right_spine,
      λ e. args.1 (let f = sym left_spine ∙ e ∙ right_spine in cc),
    )

    pub other_head : IsTable types → HeadIsTyped types h → HeadIsTyped types g → h ≢ g → EqualPastHints (tree_of types s a) (tree_of types s b) → ⊥
    other_head ok hh hg differ e = differ (one_head types ok s h g hh hg (let f = sym left_spine ∙ e ∙ right_spine in cc))

  -- one of each
  pub other_shape : (a b : TermId) (n m : Node) (A : TypeId) (x : List ℕ) (t : TermId) (g : Head) (us : List TermId)
      → tree_of types s a ≡ node_tree types s n → n ≡ Lam A x t → tree_of types s b ≡ node_tree types s m → m ≡ Spine g us
      → EqualPastHints (tree_of types s a) (tree_of types s b) → ⊥
  other_shape a b n m A x t g us reads_a is_a reads_b is_b e =
      let l : forget (tree_of types s a) ≡ lam (type_of types A) tt (forget (tree_of types s t)) = ap forget (reads_a ∙ ap (node_tree types s) is_a) in
      let r : forget (tree_of types s b) ≡ spine (translate_head (λ v. v) (head_reading types s g)) (forget_all (terms_of (map (tree_of types s) us))) = ap forget (reads_b ∙ ap (node_tree types s) is_b) in
      let f = sym l ∙ e ∙ r in
      cc

  abbrev pub bare : TermId → Bare
  bare t = forget (tree_of types s t)

  map_twice : (ts : List TermId) → map forget (map (tree_of types s) ts) ≡ map bare ts
  map_twice [] = refl
  map_twice (t ∷ ts) = ap (λ l. bare t ∷ l) (map_twice ts)

  -- all are equal
  pub all_equal : (ts us : List TermId) (i : ℕ) → length ts ≡ length us → length ts ≤ i → map bare (take i ts) ≡ map bare (take i us)
      → forget_all (terms_of (map (tree_of types s) ts)) ≡ forget_all (terms_of (map (tree_of types s) us))
  all_equal ts us i same l e =
      same_terms (map (tree_of types s) ts) (map (tree_of types s) us)
      (map_twice ts ∙ sym (ap (map bare) (take_all i ts l)) ∙ e ∙ ap (map bare) (take_all i us (omega arith)) ∙ sym (map_twice us))

  -- the first difference
  pub one_differs : (ts us : List TermId) (i : ℕ) (d : TermId) → length ts ≡ length us → i < length ts
      → (EqualPastHints (tree_of types s (get_or ts i d)) (tree_of types s (get_or us i d)) → ⊥)
      → forget_all (terms_of (map (tree_of types s) ts)) ≡ forget_all (terms_of (map (tree_of types s) us)) → ⊥
  one_differs ts us i d same l differ e =
      let lists : map bare ts ≡ map bare us = sym (map_twice ts) ∙ same_list (map (tree_of types s) ts) (map (tree_of types s) us) e ∙ map_twice us in
      differ (sym (get_or-map bare ts i d (bare d) l) ∙ ap (λ l. get_or l i (bare d)) lists ∙ get_or-map bare us i d (bare d) (omega arith))

  pub other_count : (ts us : List TermId) → length ts ≢ length us → forget_all (terms_of (map (tree_of types s) ts)) ≡ forget_all (terms_of (map (tree_of types s) us)) → ⊥
  other_count ts us differ e =
      let lists : map bare ts ≡ map bare us = sym (map_twice ts) ∙ same_list (map (tree_of types s) ts) (map (tree_of types s) us) e ∙ map_twice us in
      differ (sym (length-map ts bare) ∙ ap length lists ∙ length-map us bare)

  pub one_more_equal : (ts us : List TermId) (i : ℕ) (d : TermId) → i < length ts → i < length us
      → map bare (take i ts) ≡ map bare (take i us) → EqualPastHints (tree_of types s (get_or ts i d)) (tree_of types s (get_or us i d))
      → map bare (take (i + 1) ts) ≡ map bare (take (i + 1) us)
  one_more_equal ts us i d l m before here =
      map_more bare ts i d l ∙ ap (λ l. l ++ bare (get_or ts i d) ∷ []) before ∙ ap (λ x. map bare (take i us) ++ x ∷ []) here ∙ sym (map_more bare us i d m)

pub never : (A : Type 0) → (A → ⊥) → (false ≡ true) ↔ A
never A out = (λ e. absurd (cc), λ a. absurd (out a))

-- what a test that failed says
pub apart : {X : Type 0} {x y : X} (r : Bool) → r ≡ false → (r ≡ true) ↔ (x ≡ y) → x ≢ y
apart r off test e = let f = sym off ∙ test.1 e in absurd (cc)

-- one pair more is kept
pub agrees_more : (s : Contents) (old new : Agreed) (a b : TermId) → AllAgree s old
    → ((types : Table) → IsTable types → IsTypedBy types s → EqualPastHints (tree_of types s a) (tree_of types s b))
    → ((x y : TermId) → (has_agreed new x y ≡ has_agreed old x y) ⊎ ((x ≡ a) × (y ≡ b))) → AllAgree s new
agrees_more s old new a b known here keeps types ok typed x y e = go (keeps x y)
  where
    go : (has_agreed new x y ≡ has_agreed old x y) ⊎ ((x ≡ a) × (y ≡ b)) → EqualPastHints (tree_of types s x) (tree_of types s y)
    go (inl same) = known types ok typed x y (sym same ∙ e)
    go (inr one) =
        ap (λ i. forget (tree_of types s i)) one.0 ∙ here types ok typed ∙ ap (λ i. forget (tree_of types s i)) (sym one.1)
