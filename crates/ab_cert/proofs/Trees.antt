-- Reading the nodes of a tree, one by one.
use Rattle.std.proofs.Common.{◌≡◌, ◌+◌, ◌≤◌, ℕ, zero, suc, List, [], ◌∷◌, ◌++◌, length, map, take, drop, refl, sym, ap, ◌∙◌, subst, append_assoc, arith}
use Rattle.std.specs.List.{flat_map}
use Rattle.std.proofs.lemmas.List.{append-nil, map-append, take-append-drop, length-drop}
use Rattle.std.proofs.lemmas.Grind.{flat_map-append}
use Rattle.std.proofs.Math.ListN.{length-append}
use Rattle.ab_cert.specs.Tables.{Each}
use Rattle.ab_cert.specs.Pieces.{Pieces}
use Rattle.ab_cert.specs.Forms.{Form}
use Rattle.ab_cert.specs.TreeForms.{TreeForm, AreNodes}

pub none_left : {A : Type 0} (xs : List A) → length xs ≡ 0 → xs ≡ []
none_left [] e = refl
none_left (x ∷ xs) e = cc

pub each_append : {A : Type 0} (P : A → Type 0) (xs ys : List A) → Each P xs → Each P ys → Each P (xs ++ ys)
each_append P [] ys h k = k
each_append P (x ∷ xs) ys h k = (h.0, each_append P xs ys h.1 k)

length_take : {A : Type 0} (n m : ℕ) (xs : List A) → length xs ≡ n + m → length (take n xs) ≡ n
length_take zero m xs e = refl
length_take (suc n) m [] e = absurd (omega (arith, e))
length_take (suc n) m (x ∷ xs) e = ap suc (length_take n m xs (omega (arith, e)))

-- whatever trees follow the nodes, they are those of a tree with them
abbrev pub AreBegun : {X : Type 0} → TreeForm X → List X → ℕ → Type 0
AreBegun f xs m = (ts : List f.Tree) → length ts ≡ m → (t : f.Tree) × (map f.form.meant xs ++ flat_map f.nodes ts ≡ f.nodes t)

-- the nodes are the first of this tree's, and its others are still to be read
pub record TreeBegun {X : Type 0} (f : TreeForm X) (t : f.Tree) (rest : Pieces) (xs : List X) (m : ℕ) (left : Pieces) : Type 0 where
  pub after : List f.Tree
  pub count : length after ≡ m
  pub each : Each f.good after
  pub nodes : map f.form.meant xs ++ flat_map f.nodes after ≡ f.nodes t
  pub left_is : left ≡ flat_map f.pieces after ++ rest

abbrev pub SoFar : {X : Type 0} → TreeForm X → Pieces → List X → ℕ → Pieces → Type 0
SoFar f old xs m left = (t : f.Tree) (rest : Pieces) → f.good t → old ≡ f.pieces t ++ rest → TreeBegun f t rest xs m left

module _ {X : Type 0} (f : TreeForm X) where
  -- nothing is read
  pub begun_none : AreBegun f [] 1
  begun_none [] e = cc
  begun_none (t ∷ []) e = (t, append-nil (f.nodes t))
  begun_none (t ∷ (u ∷ ts)) e = cc

  pub far_none : (old : Pieces) → SoFar f old [] 1 old
  far_none old = λ t rest h e. record {
    after = t ∷ [];
    count = refl;
    each = (h, tt);
    nodes = append-nil (f.nodes t);
    left_is = e ∙ ap (λ q. q ++ rest) (sym (append-nil (f.pieces t)));
  }

  -- one node more
  pub begun_more : (xs : List X) (x : X) (m k : ℕ) → m ≡ suc k → AreBegun f xs m → AreBegun f (xs ++ x ∷ []) (f.width (f.form.meant x) + k)
  begun_more xs x m k s h ts e =
      let n = f.form.meant x in
      let w = f.width n in
      let mine = take w ts in
      let others = drop w ts in
      let b = f.build n mine (length_take w k ts e) in
      let all : mine ++ others ≡ ts = take-append-drop w ts in
      let count : length (b.0 ∷ others) ≡ m = omega (arith, length-append mine others, ap length all, length_take w k ts e, e, s) in
      let g = h (b.0 ∷ others) count in
      let top : f.nodes b.0 ≡ n ∷ flat_map f.nodes mine = f.nodes_are b.0 ∙ (ap (λ q. q ∷ flat_map f.nodes (f.kids b.0)) b.1.0 ∙ ap (λ q. n ∷ flat_map f.nodes q) b.1.1) in
      let parts : flat_map f.nodes ts ≡ flat_map f.nodes mine ++ flat_map f.nodes others = ap (flat_map f.nodes) (sym all) ∙ flat_map-append f.nodes mine others in (
        g.0,
        ap (λ q. q ++ flat_map f.nodes ts) (map-append f.form.meant xs (x ∷ []))
            ∙ (append_assoc (map f.form.meant xs) (n ∷ []) (flat_map f.nodes ts)
            ∙ (ap (λ q. map f.form.meant xs ++ n ∷ q) parts
            ∙ (ap (λ q. map f.form.meant xs ++ (q ++ flat_map f.nodes others)) (sym top) ∙ g.1))),
      )

  far_next : (t : f.Tree) (rest : Pieces) (xs : List X) (x : X) (k : ℕ) (left new : Pieces) (a : f.Tree) (more_trees : List f.Tree)
      → length more_trees ≡ k → f.good a → Each f.good more_trees → map f.form.meant xs ++ flat_map f.nodes (a ∷ more_trees) ≡ f.nodes t → left ≡ flat_map f.pieces (a ∷ more_trees) ++ rest
      → ((y : f.form.Meant) (r : Pieces) → f.form.good y → left ≡ f.form.pieces y ++ r → (f.form.meant x ≡ y) × (new ≡ r))
      → TreeBegun f t rest (xs ++ x ∷ []) (f.width (f.form.meant x) + k) new
  far_next t rest xs x k left new a more_trees l ga gs e d h =
      let n = f.form.meant x in
      let kids = f.kids a in
      let more = flat_map f.pieces (kids ++ more_trees) ++ rest in
      let split : flat_map f.pieces (a ∷ more_trees) ++ rest ≡ f.form.pieces (f.top a) ++ more =
      ap (λ q. (q ++ flat_map f.pieces more_trees) ++ rest) (f.pieces_are a)
      ∙ (ap (λ q. q ++ rest) (append_assoc (f.form.pieces (f.top a)) (flat_map f.pieces kids) (flat_map f.pieces more_trees))
      ∙ (append_assoc (f.form.pieces (f.top a)) (flat_map f.pieces kids ++ flat_map f.pieces more_trees) rest
      ∙ ap (λ q. f.form.pieces (f.top a) ++ (q ++ rest)) (sym (flat_map-append f.pieces kids more_trees)))) in
      let g = h (f.top a) more (f.good_top a ga) (d ∙ split) in
      record {
        after = kids ++ more_trees;
        count = length-append kids more_trees ∙ (ap (λ q. q + length more_trees) (f.wide a ∙ ap f.width (sym g.0)) ∙ ap (λ q. f.width n + q) l);
        each = each_append f.good kids more_trees (f.good_kids a ga) gs;
        nodes = ap (λ q. q ++ flat_map f.nodes (kids ++ more_trees)) (map-append f.form.meant xs (x ∷ []))
            ∙ (append_assoc (map f.form.meant xs) (n ∷ []) (flat_map f.nodes (kids ++ more_trees))
            ∙ (ap (λ q. map f.form.meant xs ++ n ∷ q) (flat_map-append f.nodes kids more_trees)
            ∙ (ap (λ q. map f.form.meant xs ++ q ∷ (flat_map f.nodes kids ++ flat_map f.nodes more_trees)) g.0
            ∙ (ap (λ q. map f.form.meant xs ++ (q ++ flat_map f.nodes more_trees)) (sym (f.nodes_are a)) ∙ e))));
        left_is = g.1;
      }

  far_cases : (t : f.Tree) (rest : Pieces) (xs : List X) (x : X) (m k : ℕ) (left new : Pieces) (after : List f.Tree)
      → m ≡ suc k → length after ≡ m → Each f.good after → map f.form.meant xs ++ flat_map f.nodes after ≡ f.nodes t → left ≡ flat_map f.pieces after ++ rest
      → ((y : f.form.Meant) (r : Pieces) → f.form.good y → left ≡ f.form.pieces y ++ r → (f.form.meant x ≡ y) × (new ≡ r))
      → TreeBegun f t rest (xs ++ x ∷ []) (f.width (f.form.meant x) + k) new
  far_cases t rest xs x m k left new [] s l g e d h = absurd (omega (arith, s, l))
  far_cases t rest xs x m k left new (a ∷ more_trees) s l g e d h = far_next t rest xs x k left new a more_trees (omega (arith, s, l)) g.0 g.1 e d h

  pub far_more : (old : Pieces) (xs : List X) (x : X) (m k : ℕ) (left new : Pieces) → m ≡ suc k
      → ((y : f.form.Meant) (r : Pieces) → f.form.good y → left ≡ f.form.pieces y ++ r → (f.form.meant x ≡ y) × (new ≡ r))
      → SoFar f old xs m left → SoFar f old (xs ++ x ∷ []) (f.width (f.form.meant x) + k) new
  far_more old xs x m k left new s h far = λ t rest g e.
      let b = far t rest g e in
      far_cases t rest xs x m k left new b.after s b.count b.each b.nodes b.left_is h

  -- all are read
  pub begun_all : (xs : List X) (m : ℕ) → m ≡ 0 → AreBegun f xs m → AreNodes f xs
  begun_all xs m z h =
      let g = h [] (sym z) in
      (g.0, sym (append-nil (map f.form.meant xs)) ∙ g.1)

  pub far_all : (old : Pieces) (xs : List X) (m : ℕ) (left : Pieces) → m ≡ 0 → SoFar f old xs m left
      → (t : f.Tree) (rest : Pieces) → f.good t → old ≡ f.pieces t ++ rest → (map f.form.meant xs ≡ f.nodes t) × (left ≡ rest)
  far_all old xs m left z far t rest g e =
      let b = far t rest g e in
      let none = none_left b.after (b.count ∙ z) in (
        sym (append-nil (map f.form.meant xs)) ∙ (ap (λ q. map f.form.meant xs ++ flat_map f.nodes q) (sym none) ∙ b.nodes),
        b.left_is ∙ ap (λ q. flat_map f.pieces q ++ rest) none,
      )
