-- What a term reads as that is given its arguments one by one.
use Rattle.std.proofs.Common.{◌≡◌, ℕ, ◌-◌, ◌<◌, List, [], ◌∷◌, map, take, drop, length, get_or, refl, sym, ◌∙◌, ap, arith}
use Rattle.std.specs.List.{All}
use Rattle.std.proofs.lemmas.List.Elements.{All-drop}
use Rattle.std.proofs.lemmas.List.{take_all}
use Rattle.ab_term.specs.Types.{arrow}
use Rattle.ab_term.specs.Terms.{terms_of}
use Rattle.ab_term.specs.Substitution as tree
use Rattle.ab_term.specs.Reach.{raise}
use Rattle.ab_term.proofs.Reaching.{raise-none}
use Rattle.ab_store.specs.ab_types.specs.Entries.{Table}
use Rattle.ab_store.specs.ab_types.specs.Ids.{type_of}
use Rattle.ab_store.specs.ab_types.specs.declared.ids.TypeId.{TypeId}
use Rattle.ab_store.specs.declared.node.TermId.{TermId}
use Rattle.ab_store.specs.declared.node.Node.{Node}
use Rattle.ab_store.specs.declared.node.Node.TheVariants.{Lam}
use Rattle.ab_store.specs.Trees.{Contents, Holds, tree_of, node_tree}
use Rattle.ab_norm.specs.NodeGrowth.{AddsTerms}
use Rattle.ab_norm.proofs.Frame.{still_read}

module _ (types : Table) (s0 s1 s2 : Contents) where
  pub applied : (ty from to : TypeId) (u : TermId) (v r : TermId) (n : Node) (b : TypeId) (x : List ℕ) (body d : TermId) (args rest : List TermId)
      → AddsTerms s0 s1
      → All (Holds s0) args
      → type_of types ty ≡ arrow (type_of types from) (type_of types to)
      → tree_of types s0 u ≡ node_tree types s0 n
      → n ≡ Lam b x body
      → 0 < length args
      → rest ≡ drop 1 args
      → tree_of types s1 v ≡ tree.substitute (type_of types from) (raise 0 0 (tree_of types s0 (get_or args 0 d))) 0 (tree_of types s0 body)
      → tree_of types s2 r ≡ tree.reduce (type_of types to) (tree_of types s1 v) (terms_of (map (tree_of types s1) rest))
      → tree_of types s2 r ≡ tree.reduce (type_of types ty) (tree_of types s0 u) (terms_of (map (tree_of types s0) args))
  applied ty from to u v r n b x body d args rest adds held type reads is some left one reduced =
      let rest_held : All (Holds s0) (drop 1 args) = All-drop (Holds s0) 1 args held in
      reduced
      ∙ ap (λ l. tree.reduce (type_of types to) (tree_of types s1 v) (terms_of (map (tree_of types s1) l))) left
      ∙ ap (λ w. tree.reduce (type_of types to) w (terms_of (map (tree_of types s1) (drop 1 args)))) (one ∙ ap (λ w. tree.substitute (type_of types from) w 0 (tree_of types s0 body)) (raise-none (tree_of types s0 (get_or args 0 d)) 0))
      ∙ ap (λ l. tree.reduce (type_of types to) (tree.substitute (type_of types from) (tree_of types s0 (get_or args 0 d)) 0 (tree_of types s0 body)) (terms_of l)) (still_read types s0 s1 (drop 1 args) adds rest_held)
      ∙ sym (ap (λ l. tree.reduce (type_of types ty) (tree_of types s0 u) (terms_of (map (tree_of types s0) l))) (first_and_rest args d some)
      ∙ ap (λ A. tree.reduce A (tree_of types s0 u) (terms_of (map (tree_of types s0) (get_or args 0 d ∷ drop 1 args)))) type
      ∙ ap (λ w. tree.reduce (arrow (type_of types from) (type_of types to)) w (terms_of (map (tree_of types s0) (get_or args 0 d ∷ drop 1 args)))) (reads ∙ ap (node_tree types s0) is))
    where
      first_and_rest : (args : List TermId) (d : TermId) → 0 < length args → args ≡ get_or args 0 d ∷ drop 1 args
      first_and_rest [] d h = absurd (omega arith)
      first_and_rest (a ∷ args) d h = refl

pub rest_is : (args : List TermId) → take (length args - 1) (drop 1 args) ≡ drop 1 args
rest_is [] = take_all (length {A = TermId} [] - 1) [] (omega arith)
rest_is (a ∷ args) = take_all (length (a ∷ args) - 1) args (omega arith)
