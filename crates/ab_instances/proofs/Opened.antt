-- Heads whose prefix is taken off, on shared terms.
use Rattle.std.proofs.Common.{◌≡◌, ℕ, ◌-◌, ◌≤◌, List, [], ◌∷◌, length, take, drop, get_or, slice_index_or, refl, sym, ◌∙◌, ap, arith}
use Rattle.std.specs.List.{All}
use Rattle.std.proofs.lemmas.List.Elements.{All-tail, All-weaker}
use Rattle.ab_term.specs.Terms.{Head, spine, term, no_terms, terms_of, Read}
use Rattle.ab_term.specs.Substitution.{instance}
use Rattle.ab_norm.specs.ab_types.specs.Entries.{Table}
use Rattle.ab_norm.specs.ab_store.specs.declared.node.TermId.{TermId}
use Rattle.ab_norm.specs.ab_store.specs.Trees.{Contents, Holds, tree_of}
use Rattle.ab_norm.specs.ab_store.specs.Growth.{IsExtendedBy}
use Rattle.ab_norm.proofs.Frame.{still_read_before}
use Rattle.ab_unifiers.specs.Prefixes.{opened}
use Rattle.ab_instances.specs.ListReadings.{trees_at}
use Rattle.ab_instances.proofs.Chosen.{rest_is, rest_all}

pub one_only : {X : Type 0} (xs : List X) (d : X) → length xs ≡ 1 → xs ≡ get_or xs 0 d ∷ []
one_only [] d e = absurd (omega (arith, e))
one_only (x ∷ []) d e = refl
one_only (x ∷ y ∷ xs) d e = absurd (omega (arith, e))

pub opened_other : (h : Head ℕ) (ts : List Read) (u : Read) (us : List Read) → (length ts ≡ 1 → ⊥) → opened (spine h (terms_of ts)) (u ∷ us) ≡ spine h (terms_of ts)
opened_other h [] u us n = refl
opened_other h (t ∷ []) u us n = absurd (n refl)
opened_other h (t ∷ v ∷ ts) u us n = refl

-- one name of the prefix more
pub opened_step : (T : Table) (s t : Contents) → IsExtendedBy s t → (formula scope here : TermId) (names : List TermId) (d : TermId) → 1 ≤ length names → All (Holds s) names
    → (h : Head ℕ) × (tree_of T s formula ≡ spine h (term (tree_of T s scope) no_terms)) → tree_of T t here ≡ instance (tree_of T s scope) (tree_of T s (slice_index_or names 0 d))
    → (w : Read) → w ≡ opened (tree_of T t here) (trees_at T t (take (length names - 1) (drop 1 names))) → w ≡ opened (tree_of T s formula) (trees_at T s names)
opened_step T s t more formula scope here [] d l held shape made w e = absurd (omega (arith, l))
opened_step T s t more formula scope here (n ∷ ns) d l held shape made w e =
    e
    ∙ ap (λ l. opened (tree_of T t here) (trees_at T t l)) (rest_is n ns)
    ∙ ap (opened (tree_of T t here)) (still_read_before T s t ns more (All-tail (Holds s) n ns held))
    ∙ ap (λ u. opened u (trees_at T s ns)) made
    ∙ sym (ap (λ u. opened u (trees_at T s (n ∷ ns))) shape.1)

pub rest_held : (s t : Contents) → IsExtendedBy s t → (names : List TermId) → 1 ≤ length names → All (Holds s) names → All (Holds t) (take (length names - 1) (drop 1 names))
rest_held s t more names l held = rest_all (Holds t) names l (All-weaker (Holds s) (Holds t) more.ids names held)
