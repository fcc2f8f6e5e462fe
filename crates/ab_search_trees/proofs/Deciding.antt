-- Whether marks serve can be decided.
use Rattle.std.proofs.Common.{◌≡◌, ◌⊎◌, inl, inr, ℕ, zero, suc, List, [], ◌∷◌, refl, ap, arith}
use Rattle.std.specs.List.{All}
use Rattle.std.proofs.lemmas.List.Elements.{All-nil, All-cons, All-head, All-tail}
use Rattle.ab_term.specs.Terms.{Read}
use Rattle.ab_formulas.specs.Marks.{Sign, plain, star_of, at_of, plus_of, hash_of, Serves, Marks, at_atom, at_judgement, below, in_both, Agree, MarksServe, MarksServeIn, marks_of}

abbrev pub Decided : Type 0 → Type 0
Decided P = P ⊎ ¬ P

pub same_number_or : (i j : ℕ) → Decided (i ≡ j)
same_number_or zero zero = inl refl
same_number_or zero (suc j) = inr (λ e. absurd (omega (arith, e)))
same_number_or (suc i) zero = inr (λ e. absurd (omega (arith, e)))
same_number_or (suc i) (suc j) = elim (same_number_or i j) [ inl e ↦ inl (ap suc e) | inr n ↦ inr (λ e. n (omega (arith, e))) ]

abbrev level_of : Sign → ℕ
level_of plain = 0
level_of (star_of i) = i
level_of (at_of i) = i
level_of (plus_of i) = i
level_of (hash_of i) = i

by_level : (f : ℕ → Sign) → ((i : ℕ) → level_of (f i) ≡ i) → (i j : ℕ) → Decided (f i ≡ f j)
by_level f l i j = elim (same_number_or i j) [ inl e ↦ inl (ap f e) | inr n ↦ inr (λ e. n (let same : level_of (f i) ≡ level_of (f j) = ap level_of e in let a = l i in let b = l j in omega (arith, same, a, b))) ]

same_sign_or : (m n : Sign) → Decided (m ≡ n)
same_sign_or plain plain = inl refl
same_sign_or (star_of i) (star_of j) = by_level star_of (λ k. refl) i j
same_sign_or (at_of i) (at_of j) = by_level at_of (λ k. refl) i j
same_sign_or (plus_of i) (plus_of j) = by_level plus_of (λ k. refl) i j
same_sign_or (hash_of i) (hash_of j) = by_level hash_of (λ k. refl) i j
same_sign_or _ _ = inr (λ e. absurd (cc))

serves_or : (m n : Sign) → Decided (Serves m n)
serves_or plain plain = inl tt
serves_or plain (star_of j) = inl tt
serves_or plain (at_of j) = inl tt
serves_or (star_of i) (star_of j) = same_number_or i j
serves_or (at_of i) (at_of j) = same_number_or i j
serves_or (at_of i) (star_of j) = same_number_or i j
serves_or (plus_of i) (plus_of j) = same_number_or i j
serves_or (plus_of i) plain = inl tt
serves_or (hash_of i) (hash_of j) = same_number_or i j
serves_or (hash_of i) plain = inl tt
serves_or _ _ = inr (λ e. e)

pub both_or : {P Q : Type 0} → Decided P → Decided Q → Decided (P × Q)
both_or (inl p) (inl q) = inl (p, q)
both_or (inl p) (inr m) = inr (λ e. m e.1)
both_or (inr n) o = inr (λ e. n e.0)

agree_or : (a b : Marks) → Decided (Agree a b)
agree_or (at_atom m) (at_atom n) = same_sign_or m n
agree_or (at_atom m) (at_judgement n) = same_sign_or m n
agree_or (at_judgement m) (at_atom n) = same_sign_or m n
agree_or (at_judgement m) (at_judgement n) = same_sign_or m n
agree_or (below a) (below b) = agree_or a b
agree_or (in_both a b) (in_both c d) = both_or (agree_or a c) (agree_or b d)
agree_or _ _ = inl tt

serve_or : (a b : Marks) → Decided (MarksServe a b)
serve_or (at_atom m) (at_atom n) = serves_or m n
serve_or (at_judgement m) (at_judgement n) = serves_or m n
serve_or (at_atom m) (at_judgement n) = same_sign_or m n
serve_or (at_judgement m) (at_atom n) = same_sign_or m n
serve_or (below a) (below b) = agree_or a b
serve_or (in_both a b) (in_both c d) = both_or (agree_or a c) (agree_or b d)
serve_or _ _ = inl tt

pub all_serve_or : (ps : List (Read × Read)) → Decided (All (λ (p : Read × Read). MarksServeIn p.0 p.1) ps)
all_serve_or [] = inl (All-nil (λ (p : Read × Read). MarksServeIn p.0 p.1))
all_serve_or (p ∷ ps) = go (serve_or (marks_of p.0) (marks_of p.1)) (all_serve_or ps)
  where
    go : Decided (MarksServeIn p.0 p.1) → Decided (All (λ (p : Read × Read). MarksServeIn p.0 p.1) ps) → Decided (All (λ (p : Read × Read). MarksServeIn p.0 p.1) (p ∷ ps))
    go (inl a) (inl b) = inl (All-cons (λ (p : Read × Read). MarksServeIn p.0 p.1) p ps a b)
    go (inl a) (inr n) = inr (λ e. n (All-tail (λ (p : Read × Read). MarksServeIn p.0 p.1) p ps e))
    go (inr n) o = inr (λ e. n (All-head (λ (p : Read × Read). MarksServeIn p.0 p.1) p ps e))
