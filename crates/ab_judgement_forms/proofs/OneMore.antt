-- One term more in a list of terms, in a store that grew.
use Rattle.std.proofs.Common.{◌≡◌, ℕ, ◌+◌, ◌<◌, List, [], ◌∷◌, ◌++◌, map, take, length, get_or, sym, ap, ◌∙◌, subst}
use Rattle.std.specs.List.{All}
use Rattle.std.proofs.lemmas.List.{map-append, map_more}
use Rattle.std.proofs.lemmas.List.Elements.{All-push, All-weaker}
use Rattle.ab_term.specs.Terms.{Read}
use Rattle.ab_norm.specs.ab_types.specs.Entries.{Table}
use Rattle.ab_norm.specs.ab_store.specs.declared.node.TermId.{TermId}
use Rattle.ab_norm.specs.ab_store.specs.Trees.{Contents, Holds, tree_of}
use Rattle.ab_norm.specs.ab_store.specs.Growth.{IsExtendedBy}
use Rattle.ab_norm.proofs.Frame.{still_read_before}

module _ (T : Table) (S U : Contents) (more : IsExtendedBy S U) (items new : List TermId) (r : TermId) (push : new ≡ items ++ r ∷ []) (held : All (Holds S) items) where
  pub one_more : {X : Type 0} (f : X → Read) (xs : List X) (i : ℕ) (d : X) → i < length xs
      → map (tree_of T S) items ≡ map f (take i xs) → tree_of T U r ≡ f (get_or xs i d) → map (tree_of T U) new ≡ map f (take (i + 1) xs)
  one_more f xs i d l before here =
      ap (map (tree_of T U)) push
      ∙ map-append (tree_of T U) items (r ∷ [])
      ∙ ap (λ l. l ++ tree_of T U r ∷ []) (still_read_before T S U items more held ∙ before)
      ∙ ap (λ u. map f (take i xs) ++ u ∷ []) here
      ∙ sym (map_more f xs i d l)

  pub one_more_held : Holds U r → All (Holds U) new
  one_more_held here = subst (All (Holds U)) (sym push) (All-push (Holds U) items r (All-weaker (Holds S) (Holds U) more.ids items held) here)
