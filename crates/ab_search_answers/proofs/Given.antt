-- WHAT A PART LEAVES, with names that stand open in the search and are closed by `exists` in the end, and the other way round: what was shown gives it.
use Rattle.std.proofs.Common.{◌≡◌, ℕ, zero, suc, ◌+◌, ◌-◌, ◌≤◌, List, [], ◌∷◌, length, Bool, Option, Some, None, refl, sym, ◌∙◌, ap, subst, arith}
use Rattle.ab_term.specs.Types.{Ty, prop}
use Rattle.ab_term.specs.Terms as tree
use Rattle.ab_term.specs.Terms.{logical, lam, spine, no_terms, term, Read}
use Rattle.ab_term.specs.Typing.{Signature, HasType}
use Rattle.ab_term.specs.Substitution.{shift, substitute, instance}
use Rattle.ab_term.proofs.Closed.{closed_typed, closed_reach}
use Rattle.ab_term.proofs.Preservation.{here, substitute_typed}
use Rattle.ab_term.proofs.Reaching.{shift-short}
use Rattle.ab_term.proofs.Shifts.{substitute_by-shift, shift-substitute_low, shift-reduce}
use Rattle.ab_unifiers.specs.Replacements.{Cell}
use Rattle.ab_formulas.specs.Declarations.{Declarations, signature_in}
use Rattle.ab_formulas.specs.Formulas.{a_formula, StandsIn}
use Rattle.ab_formulas.specs.GoalTerms.{HoldsOnly}
use Rattle.ab_formulas.proofs.Scopes.{instance_stands}
use Rattle.ab_coverage.proofs.Clausal.{guess_typed}
use Rattle.ab_coverage.proofs.Filling.{AllTyped, closed_with, closed_with_typed}
use Rattle.ab_coverage.proofs.IndexedSpecClauses.{context_of}
use Rattle.ab_coverage.proofs.Taking.{Rows, no_rows, closed_in_both, closed_before, open_in_both, closed_after, merged, merged_guess, Gone, closed-substitute, inserted_in}
use Rattle.ab_search_layers.specs.Layered.{OpensTo, Gives, it_opens, of_a_term, of_each_term, of_any_term}
use Rattle.ab_search_layers.proofs.Opens.{opens_put}

-- the terms for what is closed in the end alone hold these variables alone
abbrev pub AreTakenOver : List (tree.Variable ℕ) → List (Option Read) → Type 0
AreTakenOver ys [] = Unit {0}
AreTakenOver ys (None ∷ ks) = AreTakenOver ys ks
AreTakenOver ys (Some k ∷ ks) = HoldsOnly ys k × AreTakenOver ys ks

module _ (sg : Signature) where
  pub kernel_typed : {ds es : List Bool} {bs : List (Cell (List ℕ))} {vs ks : List (Option Read)} → Rows sg ds es bs vs ks → AllTyped sg prop bs vs
  kernel_typed no_rows = tt
  kernel_typed (closed_in_both r) = (refl, kernel_typed r)
  kernel_typed (closed_before d r) = (d, kernel_typed r)
  kernel_typed (open_in_both d r) = (d, kernel_typed r)
  kernel_typed (closed_after d r) = (refl, kernel_typed r)

  search_typed : {ds es : List Bool} {bs : List (Cell (List ℕ))} {vs ks : List (Option Read)} → Rows sg ds es bs vs ks → AllTyped sg prop bs (merged sg ds vs ks)
  search_typed {ds = ds} {bs = bs} {vs = vs} {ks = ks} r = guess_typed sg ds bs (merged sg ds vs ks) (merged_guess sg r)

  module _ (A : Ty) (t : Read) (typed : HasType sg [] t A) where
    unmoved : (j : ℕ) → shift j t ≡ t
    unmoved j = let short = closed_reach sg typed in shift-short t j (omega (arith, short))

    -- what stands nowhere still doesn't
    gone_one : (j k : ℕ) (M w : Read) → suc j ≤ k → M ≡ shift j w → (v : Read) × (substitute A t k M ≡ shift j v)
    gone_one j k M w l e =
        let next : k ≡ suc (k - 1) = omega (arith, l) in (
          substitute A t (k - 1) w,
          ap (substitute A t k) e
              ∙ ap (λ n. substitute A t n (shift j w)) next
              ∙ ap (λ z. substitute A z (suc (k - 1)) (shift j w)) (sym (unmoved j))
              ∙ sym (shift-substitute_low w _ t j (k - 1) (shift-reduce A) (omega (arith, l))),
        )

    still_gone : {ds es : List Bool} {bs : List (Cell (List ℕ))} {vs ks : List (Option Read)} → Rows sg ds es bs vs ks → (M : Read) (k : ℕ) → length bs ≤ k → Gone sg ds es bs M → Gone sg ds es bs (substitute A t k M)
    still_gone no_rows M k l g = tt
    still_gone (closed_in_both r) M k l g = still_gone r M k (omega (arith, l)) g
    still_gone (closed_before {bs = bs} d r) M k l g = (gone_one (length bs) k M g.0.0 l g.0.1, still_gone r M k (omega (arith, l)) g.1)
    still_gone (open_in_both d r) M k l g = still_gone r M k (omega (arith, l)) g
    still_gone (closed_after d r) M k l g = still_gone r M k (omega (arith, l)) g

module _ (D : Declarations) (ys : List (tree.Variable ℕ)) where
  abbrev sg : Signature
  sg = signature_in D

  -- a term for the outermost name goes in
  inside : (b : Cell (List ℕ)) (bs : List (Cell (List ℕ))) (vs : List (Option Read)) (M t : Read) → AllTyped sg prop bs vs → HasType sg [] t b.type → HasType sg (context_of bs (b.type ∷ [])) M prop
      → substitute b.type t zero (closed_with bs vs M) ≡ closed_with bs vs (substitute b.type t (length bs + 0) M)
  inside b bs vs M t a d e = closed-substitute sg b.type t d [] [] bs vs M a e

  put_typed : (b : Cell (List ℕ)) (bs : List (Cell (List ℕ))) (M t : Read) → HasType sg [] t b.type → HasType sg (context_of bs (b.type ∷ [])) M prop → HasType sg (context_of bs []) (substitute b.type t (length bs + 0) M) prop
  put_typed b bs M t d e = substitute_typed sg (closed_typed sg (context_of bs []) d) (inserted_in sg b.type bs 0 [] (b.type ∷ []) here) e

  -- ROW BY ROW
  pub rows_give : {ds es : List Bool} {bs : List (Cell (List ℕ))} {vs ks : List (Option Read)} → Rows sg ds es bs vs ks → AreTakenOver ys ks → (M N : Read) → OpensTo M N → HasType sg (context_of bs []) M prop → HasType sg (context_of bs []) N prop
      → Gone sg ds es bs N → StandsIn a_formula (closed_with bs (merged sg ds vs ks) M) → Gives D ys (closed_with bs (merged sg ds vs ks) M) (closed_with bs vs N)
  rows_give no_rows known M N o d e h s = it_opens o
  rows_give (closed_in_both {ds = ds} {es = es} {b = b} {bs = bs} {vs = vs} {ks = ks} r) known M N o d e h s =
      let us = merged sg ds vs ks in
      let all = search_typed sg r in
      of_each_term (record { typed = closed_with_typed sg {G = []} (b ∷ bs) (None ∷ us) M (refl, all) d; stands = s }) refl refl (λ t td.
      subst (λ z. Gives D ys (instance (lam b.type b.hint (closed_with bs us M)) t) z) (sym (inside b bs vs N t (kernel_typed sg r) td e))
      (subst (λ z. Gives D ys z (closed_with bs vs (substitute b.type t (length bs + 0) N))) (sym (inside b bs us M t all td d))
      (rows_give r known (substitute b.type t (length bs + 0) M) (substitute b.type t (length bs + 0) N) (opens_put b.type t (length bs + 0) o) (put_typed b bs M t td d) (put_typed b bs N t td e)
      (still_gone sg b.type t td r N (length bs + 0) (omega arith) h)
      (subst (StandsIn a_formula) (inside b bs us M t all td d) (instance_stands (lam b.type b.hint (closed_with bs us M)) t s.1.0)))))
  rows_give (open_in_both {ds = ds} {es = es} {b = b} {bs = bs} {vs = vs} {ks = ks} {u = t} td r) known M N o d e h s =
      let us = merged sg ds vs ks in
      let all = search_typed sg r in
      subst (λ z. Gives D ys (substitute b.type t zero (closed_with bs us M)) z) (sym (inside b bs vs N t (kernel_typed sg r) td e))
      (subst (λ z. Gives D ys z (closed_with bs vs (substitute b.type t (length bs + 0) N))) (sym (inside b bs us M t all td d))
      (rows_give r known (substitute b.type t (length bs + 0) M) (substitute b.type t (length bs + 0) N) (opens_put b.type t (length bs + 0) o) (put_typed b bs M t td d) (put_typed b bs N t td e)
      (still_gone sg b.type t td r N (length bs + 0) (omega arith) h)
      (subst (StandsIn a_formula) (inside b bs us M t all td d) s)))
  rows_give (closed_after {ds = ds} {es = es} {b = b} {bs = bs} {vs = vs} {ks = ks} {k = t} td r) known M N o d e h s =
      let us = merged sg ds vs ks in
      let all = search_typed sg r in
      of_a_term t refl td known.0
      (subst (λ z. Gives D ys (substitute b.type t zero (closed_with bs us M)) z) (sym (inside b bs vs N t (kernel_typed sg r) td e))
      (subst (λ z. Gives D ys z (closed_with bs vs (substitute b.type t (length bs + 0) N))) (sym (inside b bs us M t all td d))
      (rows_give r known.1 (substitute b.type t (length bs + 0) M) (substitute b.type t (length bs + 0) N) (opens_put b.type t (length bs + 0) o) (put_typed b bs M t td d) (put_typed b bs N t td e)
      (still_gone sg b.type t td r N (length bs + 0) (omega arith) h)
      (subst (StandsIn a_formula) (inside b bs us M t all td d) s))))
  rows_give (closed_before {ds = ds} {es = es} {b = b} {bs = bs} {vs = vs} {ks = ks} {u = u} ud r) known M N o d e h s =
      let us = merged sg ds vs ks in
      let all = search_typed sg r in
      of_any_term (record { typed = closed_with_typed sg {G = []} (b ∷ bs) (None ∷ us) M (refl, all) d; stands = s }) refl (λ t td.
      -- whatever the term, it stands nowhere
      let long : length bs + 0 ≡ length bs = omega arith in
      let whatever : (v : Read) → substitute b.type v (length bs + 0) N ≡ h.0.0 = (λ v. ap (λ n. substitute b.type v n N) long ∙ ap (substitute b.type v (length bs)) h.0.1 ∙ substitute_by-shift h.0.0 _ v (length bs)) in
      subst (λ z. Gives D ys (instance (lam b.type b.hint (closed_with bs us M)) t) z) (ap (closed_with bs vs) (whatever t ∙ sym (whatever u)) ∙ sym (inside b bs vs N u (kernel_typed sg r) ud e))
      (subst (λ z. Gives D ys z (closed_with bs vs (substitute b.type t (length bs + 0) N))) (sym (inside b bs us M t all td d))
      (rows_give r known (substitute b.type t (length bs + 0) M) (substitute b.type t (length bs + 0) N) (opens_put b.type t (length bs + 0) o) (put_typed b bs M t td d) (put_typed b bs N t td e)
      (still_gone sg b.type t td r N (length bs + 0) (omega arith) h.1)
      (subst (StandsIn a_formula) (inside b bs us M t all td d) (instance_stands (lam b.type b.hint (closed_with bs us M)) t s.1.0)))))
