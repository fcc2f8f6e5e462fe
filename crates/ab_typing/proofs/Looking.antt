-- The first predicate that stands in a term, node by node.
use Rattle.std.proofs.Common.{◌≡◌, ℕ, zero, suc, ◌+◌, ◌<◌, ◌≤◌, List, [], ◌∷◌, ◌++◌, map, drop, length, get_or, Option, Some, None, bytes_eq, refl, sym, ap, ◌∙◌, arith}
use Rattle.std.specs.List.{list_any}
use Rattle.std.specs.Option.{option_or}
use Rattle.std.proofs.lemmas.List.Folds.{find-append}
use Rattle.ab_term.specs.Terms.{terms_of, Read}
use Rattle.ab_store.specs.ab_types.specs.Entries.{Table}
use Rattle.ab_store.specs.ab_types.specs.declared.ids.TypeId.{TypeId}
use Rattle.ab_store.specs.declared.node.TermId.{TermId}
use Rattle.ab_store.specs.declared.node.Head.{Head}
use Rattle.ab_store.specs.declared.node.Node.{Node}
use Rattle.ab_store.specs.declared.node.Node.TheVariants.{Lam, Spine}
use Rattle.ab_store.specs.Trees.{Contents, tree_of, head_reading, node_tree}
use Rattle.ab_formulas.specs.Stratification.{Part, constants, constants_of_all, own_constant, part_of_first}
use Rattle.ab_typing.specs.JudgedTerms.{first_of}

pub first_of-append : (ps xs ys : List (List ℕ)) → first_of ps (xs ++ ys) ≡ option_or (first_of ps xs) (first_of ps ys)
first_of-append ps xs ys = find-append (λ c. list_any (bytes_eq c) ps) xs ys

-- found in the front, or else behind
pub in_front : (ps xs ys : List (List ℕ)) (o : Option (List ℕ)) (p : List ℕ) → o ≡ first_of ps xs → o ≡ Some p → Some p ≡ first_of ps (xs ++ ys)
in_front ps xs ys o p e is = sym (first_of-append ps xs ys ∙ ap (λ r. option_or r (first_of ps ys)) (sym e ∙ is))

pub behind : (ps xs ys : List (List ℕ)) (o : Option (List ℕ)) → o ≡ first_of ps xs → o ≡ None → first_of ps (xs ++ ys) ≡ first_of ps ys
behind ps xs ys o e is = first_of-append ps xs ys ∙ ap (λ r. option_or r (first_of ps ys)) (sym e ∙ is)

module _ (ps : List (List ℕ)) (types : Table) (s : Contents) (p : Part) (t : TermId) (n : Node) (reads : tree_of types s t ≡ node_tree types s n) where
  pub lam_constants : (ty : TypeId) (x : List ℕ) (body : TermId) → n ≡ Lam ty x body → constants p (tree_of types s t) ≡ constants p (tree_of types s body)
  lam_constants ty x body is = ap (constants p) (reads ∙ ap (node_tree types s) is)

  pub spine_constants : (h : Head) (ts given : List TermId) → n ≡ Spine h ts → given ≡ ts
      → constants p (tree_of types s t) ≡ own_constant p (head_reading types s h) ++ constants_of_all (part_of_first p (head_reading types s h)) p (terms_of (map (tree_of types s) given))
  spine_constants h ts given is same =
      ap (constants p) (reads ∙ ap (node_tree types s) is)
      ∙ ap (λ l. own_constant p (head_reading types s h) ++ constants_of_all (part_of_first p (head_reading types s h)) p (terms_of (map (tree_of types s) l))) (sym same)

-- a list from a place on
pub drop_here : {X : Type 0} (xs : List X) (i : ℕ) (d : X) → i < length xs → drop i xs ≡ get_or xs i d ∷ drop (i + 1) xs
drop_here [] i d l = absurd (omega arith)
drop_here (x ∷ xs) zero d l = refl
drop_here (x ∷ xs) (suc i) d l =
    let next : suc i + 1 ≡ suc (i + 1) = omega arith in
    drop_here xs i d (omega (arith, l)) ∙ ap (λ n. get_or xs i d ∷ drop n (x ∷ xs)) (sym next)

pub drop_end : {X : Type 0} (xs : List X) (i : ℕ) → length xs ≤ i → drop i xs ≡ []
drop_end [] zero l = refl
drop_end [] (suc i) l = refl
drop_end (x ∷ xs) zero l = absurd (omega (arith, l))
drop_end (x ∷ xs) (suc i) l = drop_end xs i (omega (arith, l))

module _ (f : TermId → Read) (p q : Part) (ids : List TermId) (i : ℕ) (d : TermId) (l : i < length ids) where
  pub constants_here : constants_of_all p q (terms_of (map f (drop i ids))) ≡ constants p (f (get_or ids i d)) ++ constants_of_all q q (terms_of (map f (drop (i + 1) ids)))
  constants_here = ap (λ xs. constants_of_all p q (terms_of (map f xs))) (drop_here ids i d l)
