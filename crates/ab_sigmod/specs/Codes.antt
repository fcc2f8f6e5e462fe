-- What a model whose value holds files that were read needs: trees, items and files as trees of numbers, one to one.
use Rattle.std.specs.Prelude.{◌≡◌, ℕ, List, [], ◌∷◌, Option, get_or, refl}
use Rattle.std.proofs.Common.{ap}
use package.base.Stored.{Gv, gnil, gnum, gcons}
use Rattle.std.specs.Coded.{Coded, code_by, coded×, coded_ℕ, coded_list, coded_option}
use Rattle.ab_grammar.specs.declared.Infix.{Infix}
use Rattle.ab_grammar.specs.declared.Infix.TheVariants.{Arrow, Or, And, Equal, Imply, With, Cons}
use Rattle.ab_grammar.specs.declared.Quant.{Quant}
use Rattle.ab_grammar.specs.declared.Quant.TheVariants.{Forall, Exists, Nabla}
use Rattle.ab_grammar.specs.Tree.{Ty, base, arrow, Binder, Tree, name, apply, abs, join, bind, judge, Trees, no_trees, tree, Focus, unfocused, focused}
use Rattle.ab_grammar.specs.CommandTrees.{Clause}
use Rattle.ab_grammar.specs.FileTrees.{Item, kinds, constants, clause, accumulation}
use Rattle.ab_sigmod.specs.FileOrder.{Read}

abbrev name_code : Coded (List ℕ)
name_code = coded_list coded_ℕ

abbrev of_type : Ty → Gv
of_type (base x p) = gcons (gnum 0) (gcons (name_code.code x) (gnum p))
of_type (arrow A B) = gcons (gnum 1) (gcons (of_type A) (of_type B))

pub type_inj : (A B : Ty) → of_type A ≡ of_type B → A ≡ B
type_inj (base x p) (base y q) e =
    let f : x ≡ y = name_code.inj x y (cc) in
    let g : p ≡ q = cc in
    cc
type_inj (base x p) (arrow C D) e = cc
type_inj (arrow A B) (base y q) e = cc
type_inj (arrow A B) (arrow C D) e =
    let f : A ≡ C = type_inj A C (cc) in
    let g : B ≡ D = type_inj B D (cc) in
    cc

abbrev type_code : Coded Ty
type_code = record { code = of_type; inj = type_inj }

abbrev binder_code : Coded Binder
binder_code = code_by (List ℕ × (Option Ty × ℕ)) (coded× name_code (coded× (coded_option type_code) coded_ℕ)) (λ b. (b.name, (b.type_of, b.place))) (λ p. record { name = p.0; type_of = p.1.0; place = p.1.1 }) (λ b. refl)

-- a sign by its place in the list of all

abbrev pub of_infix : Infix → ℕ
of_infix Arrow = 0
of_infix Or = 1
of_infix And = 2
of_infix Equal = 3
of_infix Imply = 4
of_infix With = 5
of_infix Cons = 6

abbrev pub to_infix : ℕ → Infix
to_infix n = get_or (Arrow ∷ Or ∷ And ∷ Equal ∷ Imply ∷ With ∷ Cons ∷ []) n Arrow

pub to_of_infix : (o : Infix) → to_infix (of_infix o) ≡ o
to_of_infix Arrow = refl
to_of_infix Or = refl
to_of_infix And = refl
to_of_infix Equal = refl
to_of_infix Imply = refl
to_of_infix With = refl
to_of_infix Cons = refl

abbrev infix_code : Coded Infix
infix_code = code_by ℕ coded_ℕ of_infix to_infix to_of_infix

abbrev pub of_quant : Quant → ℕ
of_quant Forall = 0
of_quant Exists = 1
of_quant Nabla = 2

abbrev pub to_quant : ℕ → Quant
to_quant n = get_or (Forall ∷ Exists ∷ Nabla ∷ []) n Forall

pub to_of_quant : (q : Quant) → to_quant (of_quant q) ≡ q
to_of_quant Forall = refl
to_of_quant Exists = refl
to_of_quant Nabla = refl

abbrev quant_code : Coded Quant
quant_code = code_by ℕ coded_ℕ of_quant to_quant to_of_quant

abbrev mutual
  of_tree : Tree → Gv
  of_tree (name x p) = gcons (gnum 0) (gcons (name_code.code x) (gnum p))
  of_tree (apply f ts p) = gcons (gnum 1) (gcons (of_tree f) (gcons (of_trees ts) (gnum p)))
  of_tree (abs x t p) = gcons (gnum 2) (gcons (name_code.code x) (gcons (of_tree t) (gnum p)))
  of_tree (join o t u p) = gcons (gnum 3) (gcons (infix_code.code o) (gcons (of_tree t) (gcons (of_tree u) (gnum p))))
  of_tree (bind q bs t p) = gcons (gnum 4) (gcons (quant_code.code q) (gcons ((coded_list binder_code).code bs) (gcons (of_tree t) (gnum p))))
  of_tree (judge cs f g p) = gcons (gnum 5) (gcons (of_trees cs) (gcons (of_focus f) (gcons (of_tree g) (gnum p))))

  of_trees : Trees → Gv
  of_trees no_trees = gnil
  of_trees (tree t ts) = gcons (of_tree t) (of_trees ts)

  of_focus : Focus → Gv
  of_focus unfocused = gnil
  of_focus (focused t) = gcons (gnum 0) (of_tree t)

mutual
  pub tree_inj : (t u : Tree) → of_tree t ≡ of_tree u → t ≡ u
  tree_inj (name x p) (name y q) e =
      let e0 : x ≡ y = name_code.inj x y (cc) in
      let e1 : p ≡ q = cc in
      cc
  tree_inj (name x p) (apply g us q) e = cc
  tree_inj (name x p) (abs y u q) e = cc
  tree_inj (name x p) (join k u v q) e = cc
  tree_inj (name x p) (bind b cs u q) e = cc
  tree_inj (name x p) (judge us g u q) e = cc
  tree_inj (apply f ts p) (name y q) e = cc
  tree_inj (apply f ts p) (apply g us q) e =
      let e0 : f ≡ g = tree_inj f g (cc) in
      let e1 : ts ≡ us = trees_inj ts us (cc) in
      let e2 : p ≡ q = cc in
      cc
  tree_inj (apply f ts p) (abs y u q) e = cc
  tree_inj (apply f ts p) (join k u v q) e = cc
  tree_inj (apply f ts p) (bind b cs u q) e = cc
  tree_inj (apply f ts p) (judge us g u q) e = cc
  tree_inj (abs x t p) (name y q) e = cc
  tree_inj (abs x t p) (apply g us q) e = cc
  tree_inj (abs x t p) (abs y u q) e =
      let e0 : x ≡ y = name_code.inj x y (cc) in
      let e1 : t ≡ u = tree_inj t u (cc) in
      let e2 : p ≡ q = cc in
      cc
  tree_inj (abs x t p) (join k u v q) e = cc
  tree_inj (abs x t p) (bind b cs u q) e = cc
  tree_inj (abs x t p) (judge us g u q) e = cc
  tree_inj (join o t s p) (name y q) e = cc
  tree_inj (join o t s p) (apply g us q) e = cc
  tree_inj (join o t s p) (abs y u q) e = cc
  tree_inj (join o t s p) (join k u v q) e =
      let e0 : o ≡ k = infix_code.inj o k (cc) in
      let e1 : t ≡ u = tree_inj t u (cc) in
      let e2 : s ≡ v = tree_inj s v (cc) in
      let e3 : p ≡ q = cc in
      cc
  tree_inj (join o t s p) (bind b cs u q) e = cc
  tree_inj (join o t s p) (judge us g u q) e = cc
  tree_inj (bind a bs t p) (name y q) e = cc
  tree_inj (bind a bs t p) (apply g us q) e = cc
  tree_inj (bind a bs t p) (abs y u q) e = cc
  tree_inj (bind a bs t p) (join k u v q) e = cc
  tree_inj (bind a bs t p) (bind b cs u q) e =
      let e0 : a ≡ b = quant_code.inj a b (cc) in
      let e1 : bs ≡ cs = (coded_list binder_code).inj bs cs (cc) in
      let e2 : t ≡ u = tree_inj t u (cc) in
      let e3 : p ≡ q = cc in
      cc
  tree_inj (bind a bs t p) (judge us g u q) e = cc
  tree_inj (judge ts f t p) (name y q) e = cc
  tree_inj (judge ts f t p) (apply g us q) e = cc
  tree_inj (judge ts f t p) (abs y u q) e = cc
  tree_inj (judge ts f t p) (join k u v q) e = cc
  tree_inj (judge ts f t p) (bind b cs u q) e = cc
  tree_inj (judge ts f t p) (judge us g u q) e =
      let e0 : ts ≡ us = trees_inj ts us (cc) in
      let e1 : f ≡ g = focus_inj f g (cc) in
      let e2 : t ≡ u = tree_inj t u (cc) in
      let e3 : p ≡ q = cc in
      cc

  trees_inj : (ts us : Trees) → of_trees ts ≡ of_trees us → ts ≡ us
  trees_inj no_trees no_trees e = cc
  trees_inj no_trees (tree u us) e = cc
  trees_inj (tree t ts) no_trees e = cc
  trees_inj (tree t ts) (tree u us) e =
      let e0 : t ≡ u = tree_inj t u (cc) in
      let e1 : ts ≡ us = trees_inj ts us (cc) in
      cc

  focus_inj : (f g : Focus) → of_focus f ≡ of_focus g → f ≡ g
  focus_inj unfocused unfocused e = cc
  focus_inj unfocused (focused u) e = cc
  focus_inj (focused t) unfocused e = cc
  focus_inj (focused t) (focused u) e =
      let e0 : t ≡ u = tree_inj t u (cc) in
      cc

abbrev tree_code : Coded Tree
tree_code = record { code = of_tree; inj = tree_inj }

abbrev clause_code : Coded Clause
clause_code = code_by (Tree × (Option Tree × ℕ)) (coded× tree_code (coded× (coded_option tree_code) coded_ℕ)) (λ c. (c.head, (c.body, c.place))) (λ p. record { head = p.0; body = p.1.0; place = p.1.1 }) (λ c. refl)

abbrev names_code : Coded (List (List ℕ))
names_code = coded_list name_code

abbrev of_item : Item → Gv
of_item (kinds xs) = gcons (gnum 0) (names_code.code xs)
of_item (constants xs A) = gcons (gnum 1) (gcons (names_code.code xs) (type_code.code A))
of_item (clause c) = gcons (gnum 2) (clause_code.code c)
of_item (accumulation xs) = gcons (gnum 3) (names_code.code xs)

pub item_inj : (i j : Item) → of_item i ≡ of_item j → i ≡ j
item_inj (kinds xs) (kinds ys) e = ap kinds (names_code.inj xs ys (cc))
item_inj (kinds xs) (constants ys B) e = cc
item_inj (kinds xs) (clause d) e = cc
item_inj (kinds xs) (accumulation ys) e = cc
item_inj (constants xs A) (kinds ys) e = cc
item_inj (constants xs A) (constants ys B) e =
    let e0 : xs ≡ ys = names_code.inj xs ys (cc) in
    let e1 : A ≡ B = type_code.inj A B (cc) in
    cc
item_inj (constants xs A) (clause d) e = cc
item_inj (constants xs A) (accumulation ys) e = cc
item_inj (clause c) (kinds ys) e = cc
item_inj (clause c) (constants ys B) e = cc
item_inj (clause c) (clause d) e = ap clause (clause_code.inj c d (cc))
item_inj (clause c) (accumulation ys) e = cc
item_inj (accumulation xs) (kinds ys) e = cc
item_inj (accumulation xs) (constants ys B) e = cc
item_inj (accumulation xs) (clause d) e = cc
item_inj (accumulation xs) (accumulation ys) e = ap accumulation (names_code.inj xs ys (cc))

abbrev item_code : Coded Item
item_code = record { code = of_item; inj = item_inj }

abbrev pub read_code : Coded Read
read_code = code_by (List ℕ × List Item) (coded× name_code (coded_list item_code)) (λ r. (r.name, r.items)) (λ p. record { name = p.0; items = p.1 }) (λ r. refl)
