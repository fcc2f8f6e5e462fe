-- A permutation that sends one term to another is changed so that it sends given constants to given ones, where these stand in neither term
-- or are sent there already.
use Rattle.std.proofs.Common.{◌≡◌, ◌≢◌, ◌⊎◌, inl, inr, List, [], ◌∷◌, map, sym, ◌∙◌, ap, subst}
use Rattle.std.specs.Prelude.{AllPairs, Contains}
use Rattle.ab_term.specs.Terms.{Nominal, Read}
use Rattle.ab_term.specs.Names.{support, same_nominal, rename, permute, moved_by, IsPermutationTable}
use Rattle.ab_term.specs.Translation.{forget}
use Rattle.ab_term.proofs.Comparisons.{same_nominal-Decides}
use Rattle.ab_term.proofs.Lists.{Contains-none, Contains-here, Contains-there, Contains-cases, Contains-from_map, AllPairs-map, contains_or_not}
use Rattle.ab_term.proofs.PastHints.{support_past_hints}
use Rattle.ab_term.proofs.Permutations.{one_to_one, swapped}
use Rattle.ab_term.proofs.Permuting.{Each, OfOneType, moved, moved_each, moved_stays, moving_table, moving_permutes, moved_by-moving, rename_agrees}
use Rattle.ab_term.proofs.Renamings.{support-rename}
use Rattle.ab_term.proofs.Translations.{translate-rename}
use Rattle.ab_term.proofs.UpToNames.{rename-itself, rename-rename, rename-same, one_after_other, one_after_other_permutes, moved_by-one_after_other}

-- what one table sends to the same is the same
pub sent_once : (ps : List (Nominal × Nominal)) → IsPermutationTable ps → (a b : Nominal) → moved_by ps a ≡ moved_by ps b → a ≡ b
sent_once ps table a b e = let one = one_to_one ps table in sym (one.back a) ∙ ap (moved_by (swapped ps)) e ∙ one.back b

module _ (ps : List (Nominal × Nominal)) (table : IsPermutationTable ps) (t u : Read) (same : forget (permute ps t) ≡ forget u) where
  -- each constant of the second comes of one of the first
  pub comes_from : (c : Nominal) → Contains (support u) c → (a : Nominal) × Contains (support t) a × (moved_by ps a ≡ c)
  comes_from c m = Contains-from_map (moved_by ps) (support t) c (subst (λ l. Contains l c) (sym (support_past_hints (permute ps t) u same) ∙ support-rename (moved_by ps) t) m)

  -- the constant is sent there already, or neither stands in the terms
  abbrev pub Free : Nominal → Nominal → Type 0
  Free a b = (moved_by ps a ≡ b) ⊎ ((¬ Contains (support t) a) × (¬ Contains (support u) b))

  module _ (froms tos : List Nominal) (types : OfOneType froms tos) (different : AllPairs (λ a b. a ≢ b) froms) (different_tos : AllPairs (λ a b. a ≢ b) tos) (free : Each Free froms tos) where
    abbrev sent : List Nominal
    sent = map (moved_by ps) froms

    sent_types : (as_ bs : List Nominal) → OfOneType as_ bs → OfOneType (map (moved_by ps) as_) bs
    sent_types [] [] e = tt
    sent_types [] (b ∷ bs) e = absurd e
    sent_types (a ∷ as_) [] e = absurd e
    sent_types (a ∷ as_) (b ∷ bs) e = ((one_to_one ps table).keeps a ∙ e.0, sent_types as_ bs e.1)

    one_type : OfOneType sent tos
    one_type = sent_types froms tos types

    sent_different : AllPairs (λ a b. a ≢ b) sent
    sent_different = AllPairs-map (moved_by ps) (λ a b. a ≢ b) froms (λ i j d l m q. different i j d l m (sent_once ps table _ _ q))

    abbrev g : Nominal → Nominal
    g = moved sent tos

    there : Each (λ n c. g n ≡ c) sent tos
    there = moved_each sent tos one_type sent_different different_tos

    fixed : (as_ bs : List Nominal) → Each Free as_ bs → Each (λ n c. g n ≡ c) (map (moved_by ps) as_) bs → (c : Nominal) → Contains (support u) c → Contains (map (moved_by ps) as_) c → g c ≡ c
    fixed [] [] f e c s m = absurd (Contains-none c m)
    fixed [] (b ∷ bs) f e c s m = absurd f
    fixed (a ∷ as_) [] f e c s m = absurd f
    fixed (a ∷ as_) (b ∷ bs) f e c s m = elim (Contains-cases (moved_by ps a) (map (moved_by ps) as_) c m) [
      | inl q ↦ here f.0 q
      | inr n ↦ fixed as_ bs f.1 e.1 c s n
    ]
      where
        here : Free a b → moved_by ps a ≡ c → g c ≡ c
        here (inl p) q = ap g (sym q) ∙ e.0 ∙ sym p ∙ q
        here (inr n) q = let k = comes_from c s in absurd (n.0 (subst (Contains (support t)) (sent_once ps table k.0 a (k.2 ∙ sym q)) k.1))

    no_target : (as_ bs : List Nominal) → Each Free as_ bs → (c : Nominal) → Contains (support u) c → Contains bs c → ¬ Contains (map (moved_by ps) as_) c → ⊥
    no_target [] [] f c s m n = Contains-none c m
    no_target [] (b ∷ bs) f c s m n = absurd f
    no_target (a ∷ as_) [] f c s m n = absurd f
    no_target (a ∷ as_) (b ∷ bs) f c s m n = elim (Contains-cases b bs c m) [
      | inl q ↦ here f.0 q
      | inr k ↦ no_target as_ bs f.1 c s k (λ i. n (Contains-there (moved_by ps a) (map (moved_by ps) as_) c i))
    ]
      where
        here : Free a b → b ≡ c → ⊥
        here (inl p) q = n (subst (Contains (map (moved_by ps) (a ∷ as_))) (p ∙ q) (Contains-here (moved_by ps a) (map (moved_by ps) as_)))
        here (inr k) q = k.1 (subst (Contains (support u)) (sym q) s)

    stays : (c : Nominal) → Contains (support u) c → g c ≡ c
    stays c s = elim (contains_or_not same_nominal same_nominal-Decides sent c) [
      | inl m ↦ fixed froms tos free there c s m
      | inr n ↦ elim (contains_or_not same_nominal same_nominal-Decides tos c) [
        | inl m ↦ absurd (no_target froms tos free c s m n)
        | inr k ↦ moved_stays sent tos c n k
      ]
    ]

    second : List (Nominal × Nominal)
    second = moving_table sent tos one_type

    second_permutes : IsPermutationTable second
    unfolding second
    second_permutes = moving_permutes sent tos one_type

    second_moves : (a : Nominal) → moved_by second a ≡ g a
    unfolding second
    second_moves a = moved_by-moving sent tos one_type a

    pub changed : List (Nominal × Nominal)
    changed = one_after_other ps second table second_permutes

    pub changed_permutes : IsPermutationTable changed
    unfolding changed
    changed_permutes = one_after_other_permutes ps second table second_permutes

    changed_moves : (a : Nominal) → moved_by changed a ≡ g (moved_by ps a)
    unfolding changed
    changed_moves a = moved_by-one_after_other ps second table second_permutes a ∙ second_moves (moved_by ps a)

    pub changed_same : forget (permute changed t) ≡ forget u
    changed_same =
        ap forget (rename-same (moved_by changed) (λ a. g (moved_by ps a)) changed_moves t ∙ sym (rename-rename (moved_by ps) g t))
        ∙ translate-rename (λ v. v) (λ x. tt) g (permute ps t)
        ∙ ap (rename g) same
        ∙ sym (translate-rename (λ v. v) (λ x. tt) g u)
        ∙ ap forget (rename_agrees g (λ a. a) u stays ∙ rename-itself u)

    each_sent : (as_ bs : List Nominal) → Each (λ n c. g n ≡ c) (map (moved_by ps) as_) bs → Each (λ a b. moved_by changed a ≡ b) as_ bs
    each_sent [] [] e = tt
    each_sent [] (b ∷ bs) e = absurd e
    each_sent (a ∷ as_) [] e = absurd e
    each_sent (a ∷ as_) (b ∷ bs) e = (changed_moves a ∙ e.0, each_sent as_ bs e.1)

    pub changed_sends : Each (λ a b. moved_by changed a ≡ b) froms tos
    changed_sends = each_sent froms tos there
