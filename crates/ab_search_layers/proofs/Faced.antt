-- WHERE A HYPOTHESIS SUITS WHAT MEETS THE CONCLUSION the sequent has a whole derivation.
use Rattle.std.specs.Prelude.{Contains}
use Rattle.std.proofs.Common.{◌≡◌, ℕ, zero, suc, ◌≤◌, List, [], refl, sym, ◌∙◌, ap, subst, arith}
use Rattle.ab_term.specs.Types.{Ty}
use Rattle.ab_term.specs.Logical as plain
use Rattle.ab_term.specs.Terms.{constant, logical, nominal, variable, index, lam, spine, no_terms, term, Read}
use Rattle.ab_term.specs.Names.{EqualUpToNames}
use Rattle.ab_term.specs.Translation.{forget, forget_all}
use Rattle.ab_term.proofs.UpToNames.{up_to_names-itself}
use Rattle.ab_unifiers.specs.Member.{HasMember}
use Rattle.ab_formulas.specs.BodyMarks.{mark_below}
use Rattle.ab_formulas.specs.Declarations.{Declarations, HaveSentences, HaveDefinitions, signature_in}
use Rattle.ab_formulas.specs.Marks.{erased}
use Rattle.ab_formulas.specs.Programs.{HavePrograms}
use Rattle.ab_theory.specs.Opening as opening
use Rattle.ab_theory.specs.Opening.{compound, kind_of, open_goal}
use Rattle.ab_theory.specs.Steps.{initial}
use Rattle.ab_search_trees.specs.Judgements.{judged}
use Rattle.ab_search_trees.proofs.Forms.{begins_logical}
use Rattle.ab_search_proofs.specs.Likeness.{StandIn, AreLike}
use Rattle.ab_search_proofs.proofs.Derived.{after, no_premise}
use Rattle.ab_search_proofs.proofs.Served.{hypothesis_step}
use Rattle.ab_search_layers.proofs.Meeting.{Meets, it_is, both_meet, under_nabla, under_exists, on_left, on_right, meets_put}
use Rattle.ab_search_layers.proofs.Suiting.{IsLeaf, leaf_both, leaf_nabla, leaf_exists, Suits, at_leaf, both_suit, suits_under, suits_put}
use Rattle.ab_search_layers.proofs.SuitingJudgements.{is_marked, analysed, goal_suits}
use Rattle.ab_search_layers.proofs.TakenOut.{taken_out}
use Rattle.ab_search_layers.proofs.Through.{Derived, both_through, nabla_through, exists_through, left_through, right_through}

-- PARTS of what suits
both_parts : {k : ℕ} {B X Y : Read} → Suits k B (opening.both X Y) → (E : Read) × (F : Read) × (B ≡ opening.both E F) × ((m : ℕ) × Suits m E X) × ((n : ℕ) × Suits n F Y)
both_parts {B = B} {X = X} {Y = Y} (at_leaf l) = let p = leaf_both B X Y l in (p.0, p.1, p.2, (0, at_leaf p.3), (0, at_leaf p.4))
both_parts (both_suit {m = m} {n = n} {A = E} {B = F} a b) = (E, F, refl, (m, a), (n, b))

nabla_parts : {k : ℕ} {C A : Ty} {x : List ℕ} {B X : Read} → Suits k B (spine (logical (plain.nabla C)) (term (lam A x X) no_terms)) → (y : List ℕ) × (F : Read) × (B ≡ spine (logical (plain.nabla C)) (term (lam A y F) no_terms)) × (n : ℕ) × Suits n F X
nabla_parts {C = C} {A = A} {x = x} {B = B} {X = X} (at_leaf l) = let p = leaf_nabla C A x B X l in (p.0, p.1, p.2, 0, at_leaf p.3)
nabla_parts (suits_under {n = n} {x = y} {F = F} s) = (y, F, refl, n, s)

exists_part : {k : ℕ} {C A : Ty} {x : List ℕ} {B X : Read} → Suits k B (spine (logical (plain.existential C)) (term (lam A x X) no_terms)) → (y : List ℕ) × (F : Read) × (B ≡ spine (logical (plain.existential C)) (term (lam A y F) no_terms)) × Suits zero F X
exists_part {C = C} {A = A} {x = x} {B = B} {X = X} (at_leaf l) = let p = leaf_exists C A x B X l in (p.0, p.1, p.2, at_leaf p.3)

judgement_leaf : {k : ℕ} {B L G : Read} → Suits k B (judged L G) → IsLeaf B (judged L G)
judgement_leaf (at_leaf l) = l

kind_same : (G H : Read) → forget G ≡ forget H → kind_of H ≡ compound → kind_of G ≡ compound
kind_same G (spine (logical l) ts) e k = ap kind_of (begins_logical l (forget_all ts) G (sym e)).1
kind_same G (lam A x t) e k = absurd (cc)
kind_same G (spine (constant c) ts) e k = absurd (cc)
kind_same G (spine (nominal a) ts) e k = absurd (cc)
kind_same G (spine (variable y) ts) e k = absurd (cc)
kind_same G (spine (index i) ts) e k = absurd (cc)

module _ (D : Declarations) (sentences : HaveSentences D) (definitions : HaveDefinitions D) (programs : HavePrograms D) (has : HasMember (signature_in D)) where
  abbrev Goal : List StandIn → List Read → Read → Type 0
  Goal vs Hs C = Derived D sentences definitions programs has vs Hs C

  closes : (vs : List StandIn) (Hs : List Read) (B X : Read) → Contains Hs B → IsLeaf B X → Goal vs Hs X
  closes vs Hs B X m l s is g =
      let k = up_to_names-itself (erased B) in
      let same : EqualUpToNames (erased B) (erased X) = (k.0, k.1, k.2 ∙ l.same) in
      let h = hypothesis_step D vs Hs X B s is g m same l.serve in
      after D sentences definitions programs has (AreLike D vs Hs []) (initial h.0) s is refl h.1 (λ ps q j. no_premise D sentences definitions programs has vs Hs ps q)

  -- what it suits is derived
  itself : (N : ℕ) {n : ℕ} {B X : Read} → n ≤ N → Suits n B X → (vs : List StandIn) (Hs : List Read) → Contains Hs B → Goal vs Hs X
  itself N {B = B} {X = X} le (at_leaf l) vs Hs m = closes vs Hs B X m l
  itself zero le (both_suit a b) vs Hs m = absurd (omega (arith, le))
  itself (suc N) le (both_suit {A = E} {B = F} {C = X} {E = Y} a b) vs Hs m =
      both_through D sentences definitions programs has vs Hs (opening.both E F) (opening.both X Y) E F X Y refl refl m (itself N (omega (arith, le)) a vs) (itself N (omega (arith, le)) b vs)
  itself zero le (suits_under q) vs Hs m = absurd (omega (arith, le))
  itself (suc N) le (suits_under {A = C} {B = A} {x = x} {y = y} {F = F} {G = X} q) vs Hs m =
      nabla_through D sentences definitions programs has vs Hs (spine (logical (plain.nabla C)) (term (lam A x F) no_terms)) (spine (logical (plain.nabla C)) (term (lam A y X) no_terms)) (lam A x F) (lam A y X) C refl refl m
      (λ t free. itself N (omega (arith, le)) (suits_put A t zero q) vs)

  -- WHAT MEETS WHAT IT SUITS is derived
  pub faced : (N : ℕ) {n k : ℕ} {B X Y : Read} → n ≤ N → Meets n X Y → Suits k B X → (vs : List StandIn) (Hs : List Read) → Contains Hs B → Goal vs Hs Y
  faced N {k = k} le it_is q vs Hs m = itself k (omega arith) q vs Hs m
  faced zero le (both_meet a b) q vs Hs m = absurd (omega (arith, le))
  faced (suc N) le (both_meet {C = Y} {E = Z} a b) q vs Hs m =
      let p = both_parts q in
      both_through D sentences definitions programs has vs Hs (opening.both p.0 p.1) (opening.both Y Z) p.0 p.1 Y Z refl refl (subst (Contains Hs) p.2 m) (faced N (omega (arith, le)) a (p.3).1 vs) (faced N (omega (arith, le)) b (p.4).1 vs)
  faced zero le (under_nabla a) q vs Hs m = absurd (omega (arith, le))
  faced (suc N) le (under_nabla {A = C} {B = A} {x = x} {G = Y} a) q vs Hs m =
      let p = nabla_parts q in
      nabla_through D sentences definitions programs has vs Hs (spine (logical (plain.nabla C)) (term (lam A p.0 p.1) no_terms)) (spine (logical (plain.nabla C)) (term (lam A x Y) no_terms)) (lam A p.0 p.1) (lam A x Y) C refl refl (subst (Contains Hs) p.2 m)
      (λ t free. faced N (omega (arith, le)) (meets_put A t free zero a) (suits_put A t zero p.4) vs)
  faced zero le (under_exists a) q vs Hs m = absurd (omega (arith, le))
  faced (suc N) le (under_exists {A = C} {B = A} {x = x} {G = Y} a) q vs Hs m =
      let p = exists_part q in
      exists_through D sentences definitions programs has vs Hs (spine (logical (plain.existential C)) (term (lam A p.0 p.1) no_terms)) (spine (logical (plain.existential C)) (term (lam A x Y) no_terms)) (lam A p.0 p.1) (lam A x Y) C refl refl (subst (Contains Hs) p.2 m)
      (λ t free ws. faced N (omega (arith, le)) (meets_put A t free zero a) (suits_put A t zero p.3) ws)
  faced zero le (on_left e f a) q vs Hs m = absurd (omega (arith, le))
  faced (suc N) {B = B} {Y = Y} le (on_left {L = L} {G = G} e f a) q vs Hs m = λ s is g.
      let l = judgement_leaf q in
      let t = taken_out D vs Hs Y B s is g m in
      let k = is_marked L G (signature_in D) B (t.like).formula.typed l in
      let may = analysed k.sign k.serves in
      let r = goal_suits (mark_below k.sign) may.1 k.context L k.goal G k.same_context k.same_goal in
      left_through D sentences definitions programs has vs Hs Y k.sign k.context k.goal may.0 (kind_same k.goal G k.same_goal e) (subst (Contains Hs) k.is m) (λ Rs c. faced N (omega (arith, le)) a r.1 vs Rs c) s is g
  faced zero le (on_right e f a) q vs Hs m = absurd (omega (arith, le))
  faced (suc N) le (on_right {L = L} {G = G} e f a) q vs Hs m = right_through D sentences definitions programs has vs Hs L G e (faced N (omega (arith, le)) a q vs Hs m)
