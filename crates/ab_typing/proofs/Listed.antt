-- Which variables stand in terms, node by node.
use Rattle.std.proofs.Common.{◌≡◌, ◌⊎◌, inl, inr, ◌↔◌, ℕ, ◌||◌, List, [], ◌∷◌, ◌++◌, map, Bool, true, false, Contains, refl, sym, ap, ◌∙◌, subst}
use Rattle.std.specs.List.{All, list_any}
use Rattle.std.proofs.lemmas.List.Elements.{All-nil, All-cons, All-head, All-tail, All-append}
use Rattle.std.proofs.lemmas.Bool.Decides.{Decides-eqb}
use lib.Dec.{eqb}
use Rattle.ab_term.specs.Terms.{Variable, terms_of, Read}
use Rattle.ab_term.specs.Variables.{variables, variables_of_head, variables_of_all}
use Rattle.ab_term.proofs.Lists.{Contains-none, Contains-here, Contains-there, Contains-cases, Contains-map, Contains-from_map}
use Rattle.ab_store.specs.ab_types.specs.Entries.{Table}
use Rattle.ab_store.specs.ab_types.specs.declared.ids.TypeId.{TypeId}
use Rattle.ab_store.specs.declared.node.TermId.{TermId}
use Rattle.ab_store.specs.declared.node.CellId.{CellId}
use Rattle.ab_store.specs.declared.node.Head.{Head}
use Rattle.ab_store.specs.declared.node.Node.{Node}
use Rattle.ab_store.specs.declared.node.Node.TheVariants.{Lam, Spine}
use Rattle.ab_store.specs.Trees.{Contents, tree_of, head_reading, node_tree}
use Rattle.ab_typing.specs.Cells.{variable_of}
use Rattle.ab_formulas.specs.GoalTerms.{HoldsOnly}

any_from_contains : (vs : List CellId) (c : CellId) → Contains vs c → list_any (λ (y : CellId). eqb y.0 c.0) vs ≡ true
any_from_contains [] c m = absurd (Contains-none c m)
any_from_contains (v ∷ vs) c m = go (eqb v.0 c.0) refl (any_from_contains vs c) (Contains-cases v vs c m)
  where
    go : (b : Bool) → eqb v.0 c.0 ≡ b → (Contains vs c → list_any (λ (y : CellId). eqb y.0 c.0) vs ≡ true) → (v ≡ c) ⊎ Contains vs c → (b || list_any (λ (y : CellId). eqb y.0 c.0) vs) ≡ true
    go true e later d = refl
    go false e later (inl p) = absurd (let q : false ≡ true = sym e ∙ (Decides-eqb v.0 c.0).1 (ap (λ (x : CellId). x.0) p) in cc)
    go false e later (inr d) = later d

contains_from_any : (vs : List CellId) (c : CellId) → list_any (λ (y : CellId). eqb y.0 c.0) vs ≡ true → Contains vs c
contains_from_any [] c e = absurd (cc)
contains_from_any (v ∷ vs) c e = go (eqb v.0 c.0) refl (contains_from_any vs c) e
  where
    go : (b : Bool) → eqb v.0 c.0 ≡ b → (list_any (λ (y : CellId). eqb y.0 c.0) vs ≡ true → Contains vs c) → (b || list_any (λ (y : CellId). eqb y.0 c.0) vs) ≡ true → Contains (v ∷ vs) c
    go true p later q = subst (Contains (v ∷ vs)) (ap (λ n. record { 0 = n }) ((Decides-eqb v.0 c.0).0 p)) (Contains-here v vs)
    go false p later q = Contains-there v vs c (later q)

pub listed : (types : Table) (s : Contents) (vs : List CellId) (c : CellId) (r : Bool) → r ≡ list_any (λ (y : CellId). eqb y.0 c.0) vs
    → (r ≡ true) ↔ All (Contains (map (variable_of types s) vs)) (variable_of types s c ∷ [])
listed types s vs c r e = (there, back)
  where
    there : r ≡ true → All (Contains (map (variable_of types s) vs)) (variable_of types s c ∷ [])
    there h = All-cons (Contains (map (variable_of types s) vs)) (variable_of types s c) [] (Contains-map (variable_of types s) vs c (contains_from_any vs c (sym e ∙ h))) (All-nil (Contains (map (variable_of types s) vs)))

    back : All (Contains (map (variable_of types s) vs)) (variable_of types s c ∷ []) → r ≡ true
    back all = go (Contains-from_map (variable_of types s) vs (variable_of types s c) (All-head (Contains (map (variable_of types s) vs)) (variable_of types s c) [] all))
      where
        go : (a : CellId) × (Contains vs a) × (variable_of types s a ≡ variable_of types s c) → r ≡ true
        go (a, m, same) = e ∙ any_from_contains vs c (subst (Contains vs) (ap (λ n. record { 0 = n }) (ap (λ (x : Variable ℕ). x.name) same)) m)

-- the variables of several terms are listed where those of each are
module _ (xs : List (Variable ℕ)) where
  front : (ys zs : List (Variable ℕ)) → All (Contains xs) (ys ++ zs) → All (Contains xs) ys
  front [] zs h = All-nil (Contains xs)
  front (y ∷ ys) zs h = All-cons (Contains xs) y ys (All-head (Contains xs) y (ys ++ zs) h) (front ys zs (All-tail (Contains xs) y (ys ++ zs) h))

  back_part : (ys zs : List (Variable ℕ)) → All (Contains xs) (ys ++ zs) → All (Contains xs) zs
  back_part [] zs h = h
  back_part (y ∷ ys) zs h = back_part ys zs (All-tail (Contains xs) y (ys ++ zs) h)

  all_listed : (f : TermId → Read) (ts : List TermId) → All (λ t. HoldsOnly xs (f t)) ts → All (Contains xs) (variables_of_all (terms_of (map f ts)))
  all_listed f [] h = All-nil (Contains xs)
  all_listed f (t ∷ ts) h = All-append (Contains xs) (variables (f t)) (variables_of_all (terms_of (map f ts))) (All-head (λ t. HoldsOnly xs (f t)) t ts h) (all_listed f ts (All-tail (λ t. HoldsOnly xs (f t)) t ts h))

  each_listed : (f : TermId → Read) (ts : List TermId) → All (Contains xs) (variables_of_all (terms_of (map f ts))) → All (λ t. HoldsOnly xs (f t)) ts
  each_listed f [] h = All-nil (λ t. HoldsOnly xs (f t))
  each_listed f (t ∷ ts) h =
      All-cons (λ t. HoldsOnly xs (f t)) t ts (front (variables (f t)) (variables_of_all (terms_of (map f ts))) h)
      (each_listed f ts (back_part (variables (f t)) (variables_of_all (terms_of (map f ts))) h))

  module _ (types : Table) (s : Contents) (t : TermId) (n : Node) (reads : tree_of types s t ≡ node_tree types s n) where
    pub holds_lam : (ty : TypeId) (x : List ℕ) (body : TermId) (r : Bool) → n ≡ Lam ty x body
        → (r ≡ true) ↔ HoldsOnly xs (tree_of types s body) → (r ≡ true) ↔ HoldsOnly xs (tree_of types s t)
    holds_lam ty x body r is h = subst (λ u. (r ≡ true) ↔ HoldsOnly xs u) (sym (reads ∙ ap (node_tree types s) is)) h

    spine_reads : (h : Head) (ts : List TermId) → n ≡ Spine h ts → variables (tree_of types s t) ≡ variables_of_head (head_reading types s h) ++ variables_of_all (terms_of (map (tree_of types s) ts))
    spine_reads h ts is = ap variables (reads ∙ ap (node_tree types s) is)

    pub holds_spine : (h : Head) (ts given : List TermId) (r : Bool) → n ≡ Spine h ts → given ≡ ts
        → All (Contains xs) (variables_of_head (head_reading types s h))
        → (r ≡ true) ↔ All (λ t. HoldsOnly xs (tree_of types s t)) given
        → (r ≡ true) ↔ HoldsOnly xs (tree_of types s t)
    holds_spine h ts given r is same head all = (
      λ e. subst (All (Contains xs)) (sym (spine_reads h ts is)) (All-append (Contains xs) (variables_of_head (head_reading types s h)) (variables_of_all (terms_of (map (tree_of types s) ts))) head
          (all_listed (tree_of types s) ts (subst (All (λ t. HoldsOnly xs (tree_of types s t))) same (all.0 e)))),
      λ w. all.1 (subst (All (λ t. HoldsOnly xs (tree_of types s t))) (sym same) (each_listed (tree_of types s) ts
          (back_part (variables_of_head (head_reading types s h)) (variables_of_all (terms_of (map (tree_of types s) ts))) (subst (All (Contains xs)) (spine_reads h ts is) w)))),
    )

    pub unlisted_head : (h : Head) (ts : List TermId) → n ≡ Spine h ts → HoldsOnly xs (tree_of types s t) → All (Contains xs) (variables_of_head (head_reading types s h))
    unlisted_head h ts is w = front (variables_of_head (head_reading types s h)) (variables_of_all (terms_of (map (tree_of types s) ts))) (subst (All (Contains xs)) (spine_reads h ts is) w)
