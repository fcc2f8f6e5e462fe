-- Goals under binders, opened in a store that only got terms.
use Rattle.std.proofs.Common.{◌≡◌, List, [], ◌∷◌, map, ap, ◌∙◌, refl}
use Rattle.std.specs.List.{All}
use Rattle.ab_term.specs.Terms.{Read}
use Rattle.ab_term.specs.Substitution.{instance_by_all}
use Rattle.ab_norm.specs.ab_types.specs.Entries.{Table}
use Rattle.ab_norm.specs.ab_store.specs.declared.node.TermId.{TermId}
use Rattle.ab_norm.specs.ab_store.specs.Trees.{Contents, Holds, tree_of}
use Rattle.ab_norm.specs.NodeGrowth.{AddsTypedTerms}
use Rattle.ab_norm.proofs.Frame.{adds_but_types}
use Rattle.ab_formulas.specs.Marks.{Sign}
use Rattle.ab_theory.specs.Opening.{both, open_goal, conjunction_from}

pub map_alike : {X Y : Type 0} (f g : X → Y) → ((a : X) → f a ≡ g a) → (xs : List X) → map f xs ≡ map g xs
map_alike f g e [] = refl
map_alike f g e (a ∷ xs) = ap (λ b. b ∷ map f xs) (e a) ∙ ap (λ l. g a ∷ l) (map_alike f g e xs)

module _ (T : Table) (m : Sign) (list : TermId) (names : List TermId) where
  abbrev pub opened_at : Contents → Read → Read
  opened_at S s = open_goal m (tree_of T S list) (instance_by_all s (map (tree_of T S) names))

  module _ (S V : Contents) (adds : AddsTypedTerms T S V) (list_held : Holds S list) (names_held : All (Holds S) names) where
    pub still_opened : (s : Read) → opened_at V s ≡ opened_at S s
    still_opened s =
        ap (λ K. open_goal m K (instance_by_all s (map (tree_of T V) names))) (adds.before.trees T list list_held)
        ∙ ap (λ us. open_goal m (tree_of T S list) (instance_by_all s us)) (adds_but_types T S V adds names names_held).1

    pub all_opened : (scopes : List TermId) → All (Holds S) scopes → map (opened_at V) (map (tree_of T V) scopes) ≡ map (opened_at S) (map (tree_of T S) scopes)
    all_opened scopes held = ap (map (opened_at V)) (adds_but_types T S V adds scopes held).1 ∙ map_alike (opened_at V) (opened_at S) still_opened (map (tree_of T S) scopes)
