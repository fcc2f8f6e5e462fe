-- A conjunction's parts, one half after the other.
use Rattle.std.specs.Prelude.{drop, slice_get, unwrap_or, ◌⊎◌}
use Rattle.std.specs.List.{All}
use Rattle.std.proofs.Common.{◌≡◌, ℕ, ◌+◌, ◌<◌, ◌≤◌, ◌≢◌, List, [], ◌∷◌, map, length, get_or, Some, None, inl, inr, refl, sym, ap, subst, ◌∙◌, length-append, arith}
use Rattle.std.proofs.lemmas.List.{drop_all, drop-map, drop-drop}
use Rattle.std.proofs.lemmas.Option.{slice_get_cases}
use Rattle.ab_term.specs.Logical as plain
use Rattle.ab_term.specs.Logical.{Logical, conjunction}
use Rattle.ab_term.specs.Terms.{constant, logical, nominal, variable, index, lam, spine, term, no_terms, terms_of, Read}
use Rattle.ab_norm.specs.ab_store.specs.declared.node.TermId.{TermId}
use Rattle.ab_formulas.specs.Forms.{form_alone, form_with, form_between, both_in, as_both}
use Rattle.ab_theory.specs.Conjuncts.{conjuncts, with_parts}
use Rattle.ab_sequents.proofs.PartSizes.{next_read}

abbrev pub joined : Read → Read → Read
joined A B = spine (logical conjunction) (term A (term B no_terms))

-- the constant is given another number of terms
pub not_both : (f : TermId → Read) (ts : List TermId) → length ts ≢ 2 → None ≡ as_both (spine (logical conjunction) (terms_of (map f ts)))
not_both f [] e = refl
not_both f (t ∷ []) e = refl
not_both f (t ∷ u ∷ []) e = absurd (e refl)
not_both f (t ∷ u ∷ v ∷ ts) e = refl

both_alone : (l : Logical) (p : Read × Read) → both_in (form_alone l) ≡ Some p → ⊥
both_alone plain.truth p e = absurd (cc)
both_alone plain.falsity p e = absurd (cc)
both_alone l p e = absurd (cc)

both_over : (l : Logical) (t : Read) (p : Read × Read) → both_in (form_with l t) ≡ Some p → ⊥
both_over (plain.universal A) t p e = absurd (cc)
both_over (plain.existential A) t p e = absurd (cc)
both_over (plain.nabla A) t p e = absurd (cc)
both_over (plain.star i) t p e = absurd (cc)
both_over (plain.at_sign i) t p e = absurd (cc)
both_over (plain.plus i) t p e = absurd (cc)
both_over (plain.hash i) t p e = absurd (cc)
both_over l t p e = absurd (cc)

both_between : (l : Logical) (t u A B : Read) → both_in (form_between l t u) ≡ Some (A, B) → spine (logical l) (term t (term u no_terms)) ≡ joined A B
both_between plain.conjunction t u A B e =
    let pairs : (t, u) ≡ (A, B) = cc in
    ap (λ (p : Read × Read). joined p.0 p.1) pairs
both_between plain.disjunction t u A B e = absurd (cc)
both_between plain.implication t u A B e = absurd (cc)
both_between (plain.equality X) t u A B e = absurd (cc)
both_between l t u A B e = absurd (cc)

-- what is seen as a conjunction is the one of its halves
pub both_is : (F A B : Read) → as_both F ≡ Some (A, B) → F ≡ joined A B
both_is (lam X x t) A B e = absurd (cc)
both_is (spine (constant c) ts) A B e = absurd (cc)
both_is (spine (nominal a) ts) A B e = absurd (cc)
both_is (spine (variable v) ts) A B e = absurd (cc)
both_is (spine (index i) ts) A B e = absurd (cc)
both_is (spine (logical l) no_terms) A B e = absurd (both_alone l (A, B) e)
both_is (spine (logical l) (term t no_terms)) A B e = absurd (both_over l t (A, B) e)
both_is (spine (logical l) (term t (term u no_terms))) A B e = both_between l t u A B e
both_is (spine (logical l) (term t (term u (term v ts)))) A B e = absurd (cc)

first_with : (F G : Read) (Gs : List Read) → as_both F ≡ None → with_parts (G ∷ Gs) F ≡ G
first_with (spine (logical conjunction) (term A (term B no_terms))) G Gs e = absurd (cc)
first_with F G Gs e = refl

none_with : (F : Read) → as_both F ≡ None → with_parts [] F ≡ F
none_with (spine (logical conjunction) (term A (term B no_terms))) e = absurd (cc)
none_with F e = refl

-- what is no conjunction gives way to the next of the parts
pub alone_with : (f : TermId → Read) (ts : List TermId) (i : ℕ) (t : TermId) → as_both (f t) ≡ None → f (unwrap_or (slice_get ts i) t) ≡ with_parts (drop i (map f ts)) (f t)
alone_with f ts i t e = go (slice_get_cases ts i).1
  where
    go : ((u : TermId) × (i < length ts) × (slice_get ts i ≡ Some u) × (get_or ts i u ≡ u)) ⊎ ((length ts ≤ i) × (slice_get ts i ≡ None)) → f (unwrap_or (slice_get ts i) t) ≡ with_parts (drop i (map f ts)) (f t)
    go (inl q) =
        ap (λ o. f (unwrap_or o t)) q.2
        ∙ ap f (sym q.3)
        ∙ sym (ap (λ Gs. with_parts Gs (f t)) (next_read f ts i q.0 q.1) ∙ first_with (f t) (f (get_or ts i q.0)) (drop (i + 1) (map f ts)) e)
    go (inr q) =
        ap (λ o. f (unwrap_or o t)) q.1
        ∙ sym (ap (λ Gs. with_parts Gs (f t)) (drop-map f i ts ∙ ap (map f) (drop_all i ts q.0)) ∙ none_with (f t) e)

-- what holds of the parts and of the term holds of what is taken
pub of_next : (P : TermId → Type 0) (ts : List TermId) (i : ℕ) (t u : TermId) → All P ts → P t → u ≡ unwrap_or (slice_get ts i) t → P u
of_next P ts i t u all one e = subst P (sym e) (go (slice_get_cases ts i).1)
  where
    go : ((v : TermId) × (i < length ts) × (slice_get ts i ≡ Some v) × (get_or ts i v ≡ v)) ⊎ ((length ts ≤ i) × (slice_get ts i ≡ None)) → P (unwrap_or (slice_get ts i) t)
    go (inl q) = subst (λ o. P (unwrap_or o t)) (sym q.2) (subst P q.3 (all i q.0 q.1))
    go (inr q) = subst (λ o. P (unwrap_or o t)) (sym q.1) one

-- the parts behind those of both halves
pub behind_both : {X : Type 0} (A B : Read) (xs : List X) → drop (length (conjuncts B)) (drop (length (conjuncts A)) xs) ≡ drop (length (conjuncts (joined A B))) xs
behind_both A B xs = drop-drop (length (conjuncts B)) (length (conjuncts A)) xs ∙ ap (λ n. drop n xs) (sym (length-append (conjuncts A) (conjuncts B)))

pub behind_read : (f : TermId → Read) (ts : List TermId) (i j n : ℕ) → drop j ts ≡ drop n (drop i ts) → drop j (map f ts) ≡ drop n (drop i (map f ts))
behind_read f ts i j n e = drop-map f j ts ∙ ap (map f) e ∙ sym (drop-map f n (drop i ts)) ∙ ap (drop n) (sym (drop-map f i ts))
