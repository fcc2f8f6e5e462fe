-- What values stand for when they are given arguments, and when the store grows.
use Rattle.std.specs.List.{All}
use Rattle.std.proofs.Common.{◌≡◌, ℕ, List, [], ◌∷◌, ◌++◌, length, codes, refl, sym, ap, ◌∙◌, subst}
use Rattle.std.proofs.lemmas.List.Elements.{All-weaker}
use Rattle.ab_term.specs.Types.{Ty, kind, arrow}
use Rattle.ab_term.specs.Terms.{Terms, no_terms, term, terms_of, joined}
use Rattle.ab_term.specs.Expansion.{expansion_of}
use Rattle.ab_norm.specs.ab_types.specs.Entries.{Table}
use Rattle.ab_norm.specs.ab_types.specs.Ids.{type_of}
use Rattle.ab_norm.specs.ab_store.specs.declared.node.TermId.{TermId}
use Rattle.ab_norm.specs.ab_store.specs.declared.node.Head.{Head}
use Rattle.ab_norm.specs.ab_store.specs.Trees.{Contents, Holds, head_in, head_reading, tree_of}
use Rattle.ab_norm.specs.ab_store.specs.Naming.{HeadNames}
use Rattle.ab_norm.specs.NodeGrowth.{AddsTypedTerms}
use Rattle.ab_norm.proofs.Frame.{still_read_before}
use Rattle.ab_meaning.specs.Normal.{left_type, given_all}
use Rattle.ab_infer.specs.declared.value.Value.{Value}
use Rattle.ab_infer.specs.declared.value.Value.TheVariants.{Given, Done}
use Rattle.ab_infer.specs.Values.{trees_of, means, HoldsValue}

pub joined_none : (ts : Terms ℕ (List ℕ)) → joined ts no_terms ≡ ts
joined_none no_terms = refl
joined_none (term t ts) = ap (term t) (joined_none ts)

pub left_none : (A : Ty) → left_type {Var = ℕ} A no_terms ≡ A
left_none (kind k) = refl
left_none (arrow A B) = refl

pub left_kind : (k : List ℕ) (us : Terms ℕ (List ℕ)) → left_type (kind k) us ≡ kind k
left_kind k no_terms = refl
left_kind k (term u us) = refl

module _ (types : Table) where
  pub joined_last : (s : Contents) (ts : List TermId) (t : TermId) (us : Terms ℕ (List ℕ)) → joined (trees_of types s (ts ++ t ∷ [])) us ≡ joined (trees_of types s ts) (term (tree_of types s t) us)
  joined_last s [] t us = refl
  joined_last s (x ∷ ts) t us = ap (term (tree_of types s x)) (joined_last s ts t us)

  pub finished : (s : Contents) (h : Head) (A : Ty) (ts : List TermId) → expansion_of (codes "x") A (head_reading types s h) (trees_of types s ts)
      ≡ expansion_of (codes "x") (left_type {Var = ℕ} A no_terms) (head_reading types s h) (joined (trees_of types s ts) no_terms)
  finished s h A ts =
      ap (λ B. expansion_of (codes "x") B (head_reading types s h) (trees_of types s ts)) (sym (left_none A))
      ∙ ap (expansion_of (codes "x") (left_type {Var = ℕ} A no_terms) (head_reading types s h)) (sym (joined_none (trees_of types s ts)))

  -- one argument more
  pub head_given : (s : Contents) (h : Head) (A B : Ty) (ts : List TermId) (t : TermId) (us : Terms ℕ (List ℕ)) → left_type B us ≡ left_type A (term (tree_of types s t) us)
      → expansion_of (codes "x") (left_type B us) (head_reading types s h) (joined (trees_of types s (ts ++ t ∷ [])) us)
      ≡ expansion_of (codes "x") (left_type A (term (tree_of types s t) us)) (head_reading types s h) (joined (trees_of types s ts) (term (tree_of types s t) us))
  head_given s h A B ts t us left =
      ap (λ C. expansion_of (codes "x") C (head_reading types s h) (joined (trees_of types s (ts ++ t ∷ [])) us)) left
      ∙ ap (expansion_of (codes "x") (left_type A (term (tree_of types s t) us)) (head_reading types s h)) (joined_last s ts t us)

  module _ (s t : Contents) (adds : AddsTypedTerms types s t) where
    pub means_kept : (w : Value) → HoldsValue types s w → (us : Terms ℕ (List ℕ)) → means types t w us ≡ means types s w us
    means_kept (Given h ty ts) held us =
        ap (λ g. expansion_of (codes "x") (left_type (type_of types ty) us) g (joined (trees_of types t ts) us)) (ap (λ cells. head_in types cells h) adds.cells)
        ∙ ap (λ l. expansion_of (codes "x") (left_type (type_of types ty) us) (head_reading types s h) (joined (terms_of l) us)) (still_read_before types s t ts adds.before held.3)
    means_kept (Done x) held us = ap (λ r. given_all r us) (adds.before.trees types x held)

    pub value_kept : (w : Value) → HoldsValue types s w → HoldsValue types t w
    value_kept (Given h ty ts) held = (subst (λ cells. HeadNames (length cells) h) (sym adds.cells) held.0, held.1, held.2, All-weaker (Holds s) (Holds t) adds.before.ids ts held.3)
    value_kept (Done x) held = adds.before.ids x held

    pub values_kept : (ws : List Value) → All (HoldsValue types s) ws → All (HoldsValue types t) ws
    values_kept = All-weaker (HoldsValue types s) (HoldsValue types t) value_kept
