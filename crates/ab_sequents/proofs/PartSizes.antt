-- The sizes of a conclusion's parts, which are gone through one after another.
use Rattle.std.specs.Prelude.{drop, slice_get, ◌&&◌, if◌then◌else◌, ◌⊎◌}
use Rattle.std.specs.Option.{option_map}
use Rattle.std.specs.List.{All}
use Rattle.std.proofs.lemmas.List.Elements.{All-cons, All-head, All-tail}
use Rattle.std.proofs.Common.{◌≡◌, ℕ, ◌+◌, ◌<◌, ◌≤◌, List, [], ◌∷◌, ◌++◌, map, length, get_or, Bool, true, false, Option, Some, None, inl, inr, refl, sym, ap, ◌∙◌, append_assoc, arith}
use Rattle.std.proofs.lemmas.List.{drop_more, drop_all, drop-map, map-append}
use Rattle.std.proofs.lemmas.Option.{slice_get_within, get_or_from_slice_get, slice_get_cases}
use Rattle.ab_term.specs.Terms.{Read}
use Rattle.ab_norm.specs.ab_types.specs.Entries.{Table}
use Rattle.ab_norm.specs.ab_store.specs.Trees.{Contents, Holds, tree_of}
use Rattle.ab_norm.specs.ab_store.specs.declared.node.TermId.{TermId}
use Rattle.ab_norm.specs.NodeGrowth.{AddsTerms}
use Rattle.ab_norm.proofs.Frame.{still_read}
use Rattle.ab_formulas.specs.Declarations.{Declarations}
use Rattle.ab_formulas.specs.Marks.{Sign, plain, star_of, at_of, plus_of, hash_of}
use Rattle.ab_theory.specs.Induction.{in_matrix, sign_and, inductive_signs, coinductive_signs, marked_antecedents, marked_consequent, marked_consequents}
use Rattle.ab_sequents.specs.declared.levels.Kind.{Kind}
use Rattle.ab_sequents.specs.declared.levels.Kind.TheVariants.{Induction, Coinduction}
use Rattle.ab_sequents.specs.declared.size_marks.Part.{Part}
use Rattle.ab_sequents.specs.declared.size_marks.Part.TheVariants.{Antecedent, Consequent}
use Rattle.ab_sequents.specs.Kinds.{signs_by, marked_by, is_plain, are_plain}
use Rattle.ab_sequents.specs.SizeViews.{sign_at, part_at, part_marked}

-- the next of the terms' readings
pub next_read : (f : TermId → Read) (ts : List TermId) (i : ℕ) (d : TermId) → i < length ts → drop i (map f ts) ≡ f (get_or ts i d) ∷ drop (i + 1) (map f ts)
next_read f ts i d l = drop-map f i ts ∙ ap (map f) (drop_more ts i d l) ∙ ap (λ Fs. f (get_or ts i d) ∷ Fs) (sym (drop-map f (i + 1) ts))

place_of : (o : Option ℕ) (p : Part) → option_map Antecedent o ≡ Some p → (n : ℕ) × (o ≡ Some n) × (Antecedent n ≡ p)
place_of (Some n) p e = (n, refl, cc)
place_of None p e = absurd (cc)

no_place : (o : Option ℕ) → option_map Antecedent o ≡ None → o ≡ None
no_place (Some n) e = absurd (cc)
no_place None e = refl

next_place : (ns : List ℕ) (i n : ℕ) → slice_get ns i ≡ Some n → drop i ns ≡ n ∷ drop (i + 1) ns
next_place ns i n e = drop_more ns i n (slice_get_within ns i n e) ∙ ap (λ m. m ∷ drop (i + 1) ns) (get_or_from_slice_get ns i n n e)

no_more : (ns : List ℕ) (i : ℕ) → slice_get ns i ≡ None → drop i ns ≡ []
no_more ns i e = go (slice_get_cases ns i).1
  where
    go : ((n : ℕ) × (i < length ns) × (slice_get ns i ≡ Some n) × (get_or ns i n ≡ n)) ⊎ ((length ns ≤ i) × (slice_get ns i ≡ None)) → drop i ns ≡ []
    go (inl q) = let both : None ≡ Some q.0 = sym e ∙ q.2 in absurd (cc)
    go (inr q) = drop_all i ns q.0

module _ (ns : List ℕ) (Fs : List Read) (i : ℕ) (F : Read) (next : drop i Fs ≡ F ∷ drop (i + 1) Fs) where
  module _ (D : Declarations) where
    -- one part more
    pub signs_more : (k : Kind) (p : Part) → part_at k ns i ≡ Some p
        → signs_by k D (drop i ns) (drop i Fs) ≡ sign_and (sign_at D p F) (signs_by k D (drop (i + 1) ns) (drop (i + 1) Fs))
    signs_more Induction p e =
        let q = place_of (slice_get ns i) p e in
        ap (λ ms. inductive_signs D ms (drop i Fs)) (next_place ns i q.0 q.1)
        ∙ ap (inductive_signs D (q.0 ∷ drop (i + 1) ns)) next
        ∙ ap (λ r. sign_and (sign_at D r F) (inductive_signs D (drop (i + 1) ns) (drop (i + 1) Fs))) q.2
    signs_more Coinduction p e =
        let q : Consequent ≡ p = cc in
        ap (coinductive_signs D) next ∙ ap (λ r. sign_and (sign_at D r F) (coinductive_signs D (drop (i + 1) Fs))) q

    -- it has no place
    pub signs_end : (k : Kind) → part_at k ns i ≡ None → signs_by k D (drop i ns) (drop i Fs) ≡ None
    signs_end Induction e =
        ap (λ ms. inductive_signs D ms (drop i Fs)) (no_more ns i (no_place (slice_get ns i) e)) ∙ ap (inductive_signs D []) next
    signs_end Coinduction e = absurd (cc)

  module _ (m : Sign) where
    pub marked_more : (k : Kind) (p : Part) → part_at k ns i ≡ Some p
        → marked_by k (drop i ns) m (drop i Fs) ≡ in_matrix (part_marked p m) F ∷ marked_by k (drop (i + 1) ns) m (drop (i + 1) Fs)
    marked_more Induction p e =
        let q = place_of (slice_get ns i) p e in
        ap (λ ms. marked_antecedents ms m (drop i Fs)) (next_place ns i q.0 q.1)
        ∙ ap (marked_antecedents (q.0 ∷ drop (i + 1) ns) m) next
        ∙ ap (λ r. in_matrix (part_marked r m) F ∷ marked_antecedents (drop (i + 1) ns) m (drop (i + 1) Fs)) q.2
    marked_more Coinduction p e =
        let q : Consequent ≡ p = cc in
        ap (marked_consequents m) next ∙ ap (λ r. in_matrix (part_marked r m) F ∷ marked_consequents m (drop (i + 1) Fs)) q

-- no part is left, or no place
pub marked_none : (k : Kind) (ns : List ℕ) (m : Sign) → marked_by k ns m [] ≡ []
marked_none Induction [] m = refl
marked_none Induction (n ∷ ns) m = refl
marked_none Coinduction ns m = refl

pub marked_end : (k : Kind) (ns : List ℕ) (i : ℕ) (m : Sign) (Fs : List Read) → part_at k ns i ≡ None → marked_by k (drop i ns) m Fs ≡ []
marked_end Induction ns i m Fs e = ap (λ ms. marked_antecedents ms m Fs) (no_more ns i (no_place (slice_get ns i) e))
marked_end Coinduction ns i m Fs e = absurd (cc)

-- whether those so far and those that are left have no marks

abbrev pub also : Bool → Option (List Sign) → Option Bool
also u ms = option_map (λ b. u && b) (option_map are_plain ms)

both_plain : (u p b : Bool) → ((p && u) && b) ≡ (u && (p && b))
both_plain u true b = refl
both_plain true false b = refl
both_plain false false b = refl

pub also_more : (u : Bool) (m : Sign) (ms : Option (List Sign)) → also (is_plain m && u) ms ≡ also u (sign_and (Some m) ms)
also_more u m None = refl
also_more u m (Some ms) = ap Some (both_plain u (is_plain m) (are_plain ms))

pub also_ended : (u b : Bool) → also u (if b then Some [] else None) ≡ (if b then Some u else None)
also_ended true true = refl
also_ended true false = refl
also_ended false true = refl
also_ended false false = refl

pub also_all : (ms : Option (List Sign)) → also true ms ≡ option_map are_plain ms
also_all None = refl
also_all (Some ms) = refl

-- what the answer tells of the marks

pub none_there : (ms : Option (List Sign)) → None ≡ option_map are_plain ms → ms ≡ None
none_there None e = refl
none_there (Some ms) e = absurd (cc)

pub some_there : (ms : Option (List Sign)) (b : Bool) → Some b ≡ option_map are_plain ms → (l : List Sign) × (ms ≡ Some l) × (are_plain l ≡ b)
some_there None b e = absurd (cc)
some_there (Some l) b e = (l, refl, cc)

pub all_plain : (ms : List Sign) → are_plain ms ≡ true → All (λ m. m ≡ plain) ms
all_plain [] e = λ k d l. absurd (omega arith)
all_plain (plain ∷ ms) e = All-cons (λ m. m ≡ plain) plain ms refl (all_plain ms e)
all_plain (star_of i ∷ ms) e = absurd (cc)
all_plain (at_of i ∷ ms) e = absurd (cc)
all_plain (plus_of i ∷ ms) e = absurd (cc)
all_plain (hash_of i ∷ ms) e = absurd (cc)

pub some_marked : (ms : List Sign) → are_plain ms ≡ false → All (λ m. m ≡ plain) ms → ⊥
some_marked [] e all = absurd (cc)
some_marked (plain ∷ ms) e all = some_marked ms e (All-tail (λ m. m ≡ plain) plain ms all)
some_marked (star_of i ∷ ms) e all = let h : star_of i ≡ plain = All-head (λ m. m ≡ plain) (star_of i) ms all in absurd (cc)
some_marked (at_of i ∷ ms) e all = let h : at_of i ≡ plain = All-head (λ m. m ≡ plain) (at_of i) ms all in absurd (cc)
some_marked (plus_of i ∷ ms) e all = let h : plus_of i ≡ plain = All-head (λ m. m ≡ plain) (plus_of i) ms all in absurd (cc)
some_marked (hash_of i ∷ ms) e all = let h : hash_of i ≡ plain = All-head (λ m. m ≡ plain) (hash_of i) ms all in absurd (cc)

-- one part more got its mark
pub marked_step : (types : Table) (s0 s1 s2 : Contents) (k : Kind) (ns : List ℕ) (m : Sign) (p : Part) (ts done more : List TermId) (i : ℕ) (d r : TermId)
    → AddsTerms s0 s1 → AddsTerms s1 s2 → All (Holds s0) ts → All (Holds s1) done → i < length ts → part_at k ns i ≡ Some p
    → tree_of types s2 r ≡ in_matrix (part_marked p m) (tree_of types s1 (get_or ts i d)) → more ≡ done ++ r ∷ []
    → map (tree_of types s2) more ++ marked_by k (drop (i + 1) ns) m (drop (i + 1) (map (tree_of types s0) ts))
    ≡ map (tree_of types s1) done ++ marked_by k (drop i ns) m (drop i (map (tree_of types s0) ts))
marked_step types s0 s1 s2 k ns m p ts done more i d r e f within held l is reads push =
    let f0 = tree_of types s0 in
    let f1 = tree_of types s1 in
    let f2 = tree_of types s2 in
    let rest = marked_by k (drop (i + 1) ns) m (drop (i + 1) (map f0 ts)) in
    ap (λ xs. map f2 xs ++ rest) push
    ∙ ap (λ xs. xs ++ rest) (map-append f2 done (r ∷ []))
    ∙ append_assoc (map f2 done) (f2 r ∷ []) rest
    ∙ ap (λ xs. xs ++ (f2 r ∷ rest)) (still_read types s1 s2 done f held)
    ∙ ap (λ x. map f1 done ++ (x ∷ rest)) (reads ∙ ap (in_matrix (part_marked p m)) (e.before.trees types (get_or ts i d) (within i d l)))
    ∙ ap (λ xs. map f1 done ++ xs) (sym (marked_more ns (map f0 ts) i (f0 (get_or ts i d)) (next_read f0 ts i d l) m k p is))
