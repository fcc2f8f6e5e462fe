-- What a walk through two terms finds out, part by part.
use Rattle.std.proofs.Common.{◌≡◌, ◌≢◌, ◌⊎◌, inl, inr, ◌↔◌, ℕ, zero, suc, ◌+◌, ◌<◌, ◌≤◌, List, [], ◌∷◌, ◌++◌, map, take, length, get_or, Bool, true, false, refl, sym, ◌∙◌, ap, subst, arith}
use Rattle.std.proofs.lemmas.List.{map_more, take_all, get_or-map, length-map}
use Rattle.ab_term.specs.Terms as tree
use Rattle.ab_term.specs.Terms.{lam, spine, terms_of}
use Rattle.ab_term.specs.Translation.{forget, forget_all, translate_head}
use Rattle.ab_term.specs.Names.{support, rename_head, rename, rename_all}
use Rattle.ab_store.specs.ab_types.specs.Entries.{Table}
use Rattle.ab_store.specs.ab_types.specs.Ids.{HoldsType, type_of}
use Rattle.ab_store.specs.ab_types.specs.Sound.{IsTable}
use Rattle.ab_store.specs.ab_types.specs.declared.ids.TypeId.{TypeId}
use Rattle.ab_store.specs.ab_types.proofs.Kept.{one_type}
use Rattle.ab_store.specs.declared.node.TermId.{TermId}
use Rattle.ab_store.specs.declared.node.Head.{Head}
use Rattle.ab_store.specs.declared.node.Head.TheVariants.{Const, Logic, Nominal, Cell, Index}
use Rattle.ab_store.specs.declared.node.Node.{Node}
use Rattle.ab_store.specs.declared.node.Node.TheVariants.{Lam, Spine}
use Rattle.ab_store.specs.Trees.{Contents, tree_of, head_reading, node_tree}
use Rattle.ab_store.specs.Naming.{HeadIsTyped}
use Rattle.ab_norm.specs.declared.nominal.Swap.{Swap}
use Rattle.ab_norm.specs.declared.memo.Agreed.{Agreed}
use Rattle.ab_norm.specs.WalkMemory.{has_agreed}
use Rattle.ab_norm.specs.Nominals.{HoldsPairs}
use Rattle.ab_norm.specs.NameMatches.{Renaming, IsRenaming, Sends, Found, AllMatch}
use Rattle.ab_norm.proofs.OneHead.{one_head}
use Rattle.ab_norm.proofs.Renamed.{stays as term_stays}
use Rattle.ab_norm.proofs.Compared.{Bare, bare, same_list, same_terms}

module _ (types : Table) where
  -- the same, asked in other words
  pub found_same : (old new : List Swap) (does doing : Renaming → Type 0) (answer : Bool) → ((f : Renaming) → does f ↔ doing f) → Found types old new does answer → Found types old new doing answer
  found_same old new does doing answer same found = record {
    held = found.held;
    before = found.before;
    sound = λ yes f s. (same f).0 (found.sound yes f s);
    complete = λ f r s d. found.complete f r s ((same f).1 d);
  }

  -- nothing does it
  pub found_never : (old : List Swap) (does : Renaming → Type 0) → HoldsPairs types old → ((f : Renaming) → IsRenaming f → does f → ⊥) → Found types old old does false
  found_never old does held never = record {
    held = held;
    before = λ f s. s;
    sound = λ yes. absurd (cc);
    complete = λ f r s d. absurd (never f r d);
  }

  -- all do it, or none
  pub found_test : (old : List Swap) (does : Renaming → Type 0) (answer : Bool) (A : Type 0) → HoldsPairs types old → (answer ≡ true) ↔ A → ((f : Renaming) → does f ↔ A) → Found types old old does answer
  found_test old does answer A held test same = record {
    held = held;
    before = λ f s. s;
    sound = λ yes f s. (same f).1 (test.0 yes);
    complete = λ f r s d. (test.1 ((same f).0 d), s);
  }

  -- one part and then another
  pub found_both : (old mid new : List Swap) (does doing both : Renaming → Type 0) (answer : Bool) → Found types old mid does true → Found types mid new doing answer
      → ((f : Renaming) → both f ↔ (does f × doing f)) → Found types old new both answer
  found_both old mid new does doing both answer first second parts = record {
    held = second.held;
    before = λ f s. first.before f (second.before f s);
    sound = λ yes f s. (parts f).1 (first.sound refl f (second.before f s), second.sound yes f s);
    complete = λ f r s d.
        let p = (parts f).0 d in
        second.complete f r (first.complete f r s p.0).1 p.1;
  }

  -- a part that fails
  pub found_fails : (old new : List Swap) (does both : Renaming → Type 0) → Found types old new does false → ((f : Renaming) → both f → does f) → Found types old new both false
  found_fails old new does both first part = record {
    held = first.held;
    before = first.before;
    sound = λ yes. absurd (cc);
    complete = λ f r s d. first.complete f r s (part f d);
  }

  pub found_then_fails : (old mid new : List Swap) (does doing both : Renaming → Type 0) → Found types old mid does true → Found types mid new doing false
      → ((f : Renaming) → both f → does f × doing f) → Found types old new both false
  found_then_fails old mid new does doing both first second parts = record {
    held = second.held;
    before = λ f s. first.before f (second.before f s);
    sound = λ yes. absurd (cc);
    complete = λ f r s d.
        let p = parts f d in
        second.complete f r (first.complete f r s p.0).1 p.1;
  }

  -- the answer, by another name
  pub found_as : (old new : List Swap) (does : Renaming → Type 0) (answer other : Bool) → answer ≡ other → Found types old new does answer → Found types old new does other
  found_as old new does answer other e found = subst (Found types old new does) e found

  pub found_none : (ps : List Swap) (does : Renaming → Type 0) → HoldsPairs types ps → ((f : Renaming) → does f) → Found types ps ps does true
  found_none ps does held all = record { held = held; before = λ f s. s; sound = λ yes f s. all f; complete = λ f r s d. (refl, s) }

  -- heads
  stays : (s : Contents) (f : Renaming) (h : Head) → ((n : ℕ) (a : TypeId) → h ≡ Nominal n a → ⊥) → rename_head f (head_reading types s h) ≡ head_reading types s h
  stays s f (Const c) n = refl
  stays s f (Logic l) n = refl
  stays s f (Nominal i a) n = absurd (n i a refl)
  stays s f (Cell c) n = refl
  stays s f (Index i) n = refl

  pub other_heads : IsTable types → (s : Contents) (h g : Head) (answer : Bool) (ps : List Swap) → ((n : ℕ) (a : TypeId) → h ≡ Nominal n a → ⊥)
      → HeadIsTyped types h → HeadIsTyped types g → HoldsPairs types ps → (answer ≡ true) ↔ (h ≡ g)
      → Found types ps ps (λ f. rename_head f (head_reading types s h) ≡ head_reading types s g) answer
  other_heads ok s h g answer ps n hh hg held test =
      found_test ps (λ f. rename_head f (head_reading types s h) ≡ head_reading types s g) answer (h ≡ g) held test
      (λ f. (λ e. one_head types ok s h g hh hg (sym (stays s f h n) ∙ e), λ e. stays s f h n ∙ ap (head_reading types s) e))

  pub nominal_heads : (s : Contents) (h g : Head) (i j : ℕ) (a b : TypeId) (answer : Bool) (old new : List Swap) → h ≡ Nominal i a → g ≡ Nominal j b
      → Found types old new (λ f. f (record { number = i; type = type_of types a }) ≡ record { number = j; type = type_of types b }) answer
      → Found types old new (λ f. rename_head f (head_reading types s h) ≡ head_reading types s g) answer
  nominal_heads s h g i j a b answer old new is_h is_g found =
      found_same old new (λ f. f (record { number = i; type = type_of types a }) ≡ record { number = j; type = type_of types b }) (λ f. rename_head f (head_reading types s h) ≡ head_reading types s g) answer
      (λ f. (
        λ e. ap (λ k. rename_head f (head_reading types s k)) is_h ∙ ap tree.nominal e ∙ sym (ap (head_reading types s) is_g),
        λ e. let p = sym (ap (λ k. rename_head f (head_reading types s k)) is_h) ∙ e ∙ ap (head_reading types s) is_g in cc,
      )) found

same_translated : (h : tree.Head ℕ) → translate_head (λ v. v) h ≡ h
same_translated (tree.constant c) = refl
same_translated (tree.logical l) = refl
same_translated (tree.nominal a) = refl
same_translated (tree.variable x) = refl
same_translated (tree.index i) = refl

module _ (types : Table) (s : Contents) (f : Renaming) where
  -- what the first becomes, past hints
  abbrev pub image : TermId → Bare
  image t = forget (rename f (tree_of types s t))

  -- abstractions
  module _ (a b : TermId) (n m : Node) (A B : TypeId) (x y : List ℕ) (t u : TermId)
      (reads_a : tree_of types s a ≡ node_tree types s n) (is_a : n ≡ Lam A x t)
      (reads_b : tree_of types s b ≡ node_tree types s m) (is_b : m ≡ Lam B y u) where
    left : image a ≡ lam (type_of types A) tt (image t)
    left = ap (λ r. forget (rename f r)) (reads_a ∙ ap (node_tree types s) is_a)

    right : bare types s b ≡ lam (type_of types B) tt (bare types s u)
    right = ap forget (reads_b ∙ ap (node_tree types s) is_b)

    pub matched_lam : A ≡ B → (image t ≡ bare types s u) ↔ (image a ≡ bare types s b)
    matched_lam one = (λ e. left ∙ ap (λ C. lam (type_of types C) tt (image t)) one ∙ ap (lam (type_of types B) tt) e ∙ sym right, λ e. let p = sym left ∙ e ∙ right in cc)

    pub unmatched_lam : IsTable types → HoldsType types A → HoldsType types B → A ≢ B → image a ≡ bare types s b → ⊥
    unmatched_lam ok ha hb differ e = differ (one_type types ok A B ha hb (let p = sym left ∙ e ∙ right in cc))

  -- heads with arguments
  module _ (a b : TermId) (n m : Node) (h g : Head) (ts us : List TermId)
      (reads_a : tree_of types s a ≡ node_tree types s n) (is_a : n ≡ Spine h ts)
      (reads_b : tree_of types s b ≡ node_tree types s m) (is_b : m ≡ Spine g us) where
    left_spine : image a ≡ spine (rename_head f (head_reading types s h)) (forget_all (rename_all f (terms_of (map (tree_of types s) ts))))
    left_spine = ap (λ r. forget (rename f r)) (reads_a ∙ ap (node_tree types s) is_a) ∙ ap (λ k. spine k (forget_all (rename_all f (terms_of (map (tree_of types s) ts))))) (same_translated (rename_head f (head_reading types s h)))

    right_spine : bare types s b ≡ spine (head_reading types s g) (forget_all (terms_of (map (tree_of types s) us)))
    right_spine = ap forget (reads_b ∙ ap (node_tree types s) is_b) ∙ ap (λ k. spine k (forget_all (terms_of (map (tree_of types s) us)))) (same_translated (head_reading types s g))

    pub matched_spine : (image a ≡ bare types s b) ↔ ((rename_head f (head_reading types s h) ≡ head_reading types s g) × (forget_all (rename_all f (terms_of (map (tree_of types s) ts))) ≡ forget_all (terms_of (map (tree_of types s) us))))
    matched_spine = (
      λ e. let p = sym left_spine ∙ e ∙ right_spine in (cc, cc),
      λ e. left_spine ∙ ap (λ k. spine k (forget_all (rename_all f (terms_of (map (tree_of types s) ts))))) e.0 ∙ ap (spine (head_reading types s g)) e.1 ∙ sym right_spine,
    )

  -- one of each
  pub unmatched_shapes : (a b : TermId) (n m : Node) (A : TypeId) (x : List ℕ) (t : TermId) (g : Head) (us : List TermId)
      → tree_of types s a ≡ node_tree types s n → n ≡ Lam A x t → tree_of types s b ≡ node_tree types s m → m ≡ Spine g us
      → image a ≡ bare types s b → ⊥
  unmatched_shapes a b n m A x t g us reads_a is_a reads_b is_b e =
      let l : image a ≡ lam (type_of types A) tt (image t) = ap (λ r. forget (rename f r)) (reads_a ∙ ap (node_tree types s) is_a) in
      let r : bare types s b ≡ spine (translate_head (λ v. v) (head_reading types s g)) (forget_all (terms_of (map (tree_of types s) us))) = ap forget (reads_b ∙ ap (node_tree types s) is_b) in
      let p = sym l ∙ e ∙ r in
      cc

  pub shapes_unmatched : (a b : TermId) (n m : Node) (A : TypeId) (x : List ℕ) (t : TermId) (g : Head) (us : List TermId)
      → tree_of types s a ≡ node_tree types s n → n ≡ Spine g us → tree_of types s b ≡ node_tree types s m → m ≡ Lam A x t
      → image a ≡ bare types s b → ⊥
  shapes_unmatched a b n m A x t g us reads_a is_a reads_b is_b e =
      let l : image a ≡ spine (translate_head (λ v. v) (rename_head f (head_reading types s g))) (forget_all (rename_all f (terms_of (map (tree_of types s) us)))) = ap (λ r. forget (rename f r)) (reads_a ∙ ap (node_tree types s) is_a) in
      let r : bare types s b ≡ lam (type_of types A) tt (bare types s t) = ap forget (reads_b ∙ ap (node_tree types s) is_b) in
      let p = sym l ∙ e ∙ r in
      cc

  -- lists
  renamed : (ts : List TermId) → rename_all f (terms_of (map (tree_of types s) ts)) ≡ terms_of (map (λ t. rename f (tree_of types s t)) ts)
  renamed [] = refl
  renamed (t ∷ ts) = ap (tree.term (rename f (tree_of types s t))) (renamed ts)

  images_are : (ts : List TermId) → map forget (map (λ t. rename f (tree_of types s t)) ts) ≡ map image ts
  images_are [] = refl
  images_are (t ∷ ts) = ap (λ l. image t ∷ l) (images_are ts)

  bares_are : (ts : List TermId) → map forget (map (tree_of types s) ts) ≡ map (bare types s) ts
  bares_are [] = refl
  bares_are (t ∷ ts) = ap (λ l. bare types s t ∷ l) (bares_are ts)

  pub lists_match : (ts us : List TermId) → (map image ts ≡ map (bare types s) us) ↔ (forget_all (rename_all f (terms_of (map (tree_of types s) ts))) ≡ forget_all (terms_of (map (tree_of types s) us)))
  lists_match ts us = (
    λ e. ap forget_all (renamed ts) ∙ same_terms (map (λ t. rename f (tree_of types s t)) ts) (map (tree_of types s) us) (images_are ts ∙ e ∙ sym (bares_are us)),
    λ e. sym (images_are ts) ∙ same_list (map (λ t. rename f (tree_of types s t)) ts) (map (tree_of types s) us) (sym (ap forget_all (renamed ts)) ∙ e) ∙ bares_are us,
  )

  pub counts_differ : (ts us : List TermId) → length ts ≢ length us → forget_all (rename_all f (terms_of (map (tree_of types s) ts))) ≡ forget_all (terms_of (map (tree_of types s) us)) → ⊥
  counts_differ ts us differ e = differ (sym (length-map ts image) ∙ ap length ((lists_match ts us).1 e) ∙ length-map us (bare types s))

  pub all_taken : (ts us : List TermId) (i : ℕ) → length ts ≡ length us → length ts ≤ i
      → (map image (take i ts) ≡ map (bare types s) (take i us)) ↔ (forget_all (rename_all f (terms_of (map (tree_of types s) ts))) ≡ forget_all (terms_of (map (tree_of types s) us)))
  all_taken ts us i same l =
      let e : take i ts ≡ ts = take_all i ts l in
      let g : take i us ≡ us = take_all i us (omega arith) in
      (λ p. (lists_match ts us).0 (sym (ap (map image) e) ∙ p ∙ ap (map (bare types s)) g), λ p. ap (map image) e ∙ (lists_match ts us).1 p ∙ sym (ap (map (bare types s)) g))

  pub at_place : (ts us : List TermId) (i : ℕ) (d : TermId) → i < length ts → i < length us → map image ts ≡ map (bare types s) us → image (get_or ts i d) ≡ bare types s (get_or us i d)
  at_place ts us i d l m e = sym (get_or-map image ts i d (image d) l) ∙ ap (λ x. get_or x i (image d)) e ∙ get_or-map (bare types s) us i d (image d) m

  pub place_matches : (ts us : List TermId) (i : ℕ) (d : TermId) → i < length ts → i < length us
      → forget_all (rename_all f (terms_of (map (tree_of types s) ts))) ≡ forget_all (terms_of (map (tree_of types s) us)) → image (get_or ts i d) ≡ bare types s (get_or us i d)
  place_matches ts us i d l m e = at_place ts us i d l m ((lists_match ts us).1 e)

  last_parts : (xs ys : List Bare) (x y : Bare) → xs ++ x ∷ [] ≡ ys ++ y ∷ [] → (xs ≡ ys) × (x ≡ y)
  last_parts [] [] x y e = (refl, cc)
  last_parts [] (b ∷ []) x y e = absurd (cc)
  last_parts [] (b ∷ c ∷ ys) x y e = absurd (cc)
  last_parts (a ∷ []) [] x y e = absurd (cc)
  last_parts (a ∷ c ∷ xs) [] x y e = absurd (cc)
  last_parts (a ∷ xs) (b ∷ ys) x y e =
      let head : a ≡ b = cc in
      let tail : xs ++ x ∷ [] ≡ ys ++ y ∷ [] = cc in
      let rest = last_parts xs ys x y tail in
      (ap (λ c. c ∷ xs) head ∙ ap (λ l. b ∷ l) rest.0, rest.1)

  pub prefix_matches : (ts us : List TermId) (i : ℕ) → length ts ≡ length us → map image ts ≡ map (bare types s) us → map image (take i ts) ≡ map (bare types s) (take i us)
  prefix_matches ts us i same e = sym (take_map image i ts) ∙ ap (take i) e ∙ take_map (bare types s) i us
    where
      take_map : (g : TermId → Bare) (i : ℕ) (xs : List TermId) → take i (map g xs) ≡ map g (take i xs)
      take_map g zero xs = refl
      take_map g (suc i) [] = refl
      take_map g (suc i) (x ∷ xs) = ap (λ l. g x ∷ l) (take_map g i xs)

  pub one_more : (ts us : List TermId) (i : ℕ) (d : TermId) → i < length ts → i < length us
      → (map image (take (i + 1) ts) ≡ map (bare types s) (take (i + 1) us)) ↔ ((map image (take i ts) ≡ map (bare types s) (take i us)) × (image (get_or ts i d) ≡ bare types s (get_or us i d)))
  one_more ts us i d l m = (
    λ e. last_parts (map image (take i ts)) (map (bare types s) (take i us)) (image (get_or ts i d)) (bare types s (get_or us i d)) (sym (map_more image ts i d l) ∙ e ∙ map_more (bare types s) us i d m),
    λ p. map_more image ts i d l ∙ ap (λ x. x ++ image (get_or ts i d) ∷ []) p.0 ∙ ap (λ x. map (bare types s) (take i us) ++ x ∷ []) p.1 ∙ sym (map_more (bare types s) us i d m),
  )

-- pairs that are kept

pub matches_on : (types : Table) (s : Contents) (old new : List Swap) (agreed : Agreed) → ((f : Renaming) → Sends types f new → Sends types f old) → AllMatch types s old agreed → AllMatch types s new agreed
matches_on types s old new agreed before known x y e f sends = known x y e f (before f sends)

pub matches_more : (types : Table) (s : Contents) (ps : List Swap) (old new : Agreed) (a b : TermId) → AllMatch types s ps old
    → ((f : Renaming) → Sends types f ps → forget (rename f (tree_of types s a)) ≡ forget (tree_of types s b))
    → ((x y : TermId) → (has_agreed new x y ≡ has_agreed old x y) ⊎ ((x ≡ a) × (y ≡ b))) → AllMatch types s ps new
matches_more types s ps old new a b known here keeps x y e f sends = go (keeps x y)
  where
    go : (has_agreed new x y ≡ has_agreed old x y) ⊎ ((x ≡ a) × (y ≡ b)) → forget (rename f (tree_of types s x)) ≡ forget (tree_of types s y)
    go (inl same) = known x y (sym same ∙ e) f sends
    go (inr one) = ap (λ i. forget (rename f (tree_of types s i))) one.0 ∙ here f sends ∙ ap (λ i. forget (tree_of types s i)) (sym one.1)

-- what is known already decides nothing more
pub found_known : (types : Table) (ps : List Swap) (does : Renaming → Type 0) → HoldsPairs types ps → ((f : Renaming) → Sends types f ps → does f) → Found types ps ps does true
found_known types ps does held known = record { held = held; before = λ f s. s; sound = λ e. known; complete = λ f r s d. (refl, s) }

pub fixed_matches : (f : Renaming) (types : Table) (s : Contents) (a b : TermId) → a ≡ b → support (tree_of types s a) ≡ [] → forget (rename f (tree_of types s a)) ≡ forget (tree_of types s b)
fixed_matches f types s a b one none = ap forget (term_stays f (tree_of types s a) none) ∙ ap (λ i. forget (tree_of types s i)) one
