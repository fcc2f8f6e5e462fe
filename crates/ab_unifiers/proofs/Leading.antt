-- The premises of a list of alternatives: there are such, or the list is stuck, and only in one way; and each
-- alternative that is covered is covered by one of them.
use Rattle.std.proofs.Common.{◌≡◌, ◌⊎◌, inl, inr, ℕ, List, [], ◌∷◌, refl, subst}
use Rattle.std.specs.Prelude.{Contains}
use Rattle.ab_term.specs.Terms.{Term}
use Rattle.ab_term.specs.Typing.{Signature}
use Rattle.ab_term.specs.Variables.{Substitution}
use Rattle.ab_term.proofs.Lists.{Contains-none, Contains-here, Contains-there, Contains-cases}
use Rattle.ab_unifiers.specs.Replacements.{Cell}
use Rattle.ab_unifiers.specs.Unification.{Answer, unified, apart, stuck}
use Rattle.ab_unifiers.specs.Unifiers.{given}
use Rattle.ab_unifiers.proofs.Unique.{unique}
use Rattle.ab_unifiers.proofs.Ending.{answered}
use Rattle.ab_unifiers.specs.Clauses.{Clause}
use Rattle.ab_unifiers.specs.Alternatives.{Scope, Alternative, on_left, alternatives}
use Rattle.ab_unifiers.specs.InstanceCover.{IsCovered}
use Rattle.ab_unifiers.specs.Premises.{Premise, IsAnswered, LeadsTo, at_end, no_case, a_case, IsDecided, IsStuckAt, stuck_here, stuck_later, IsMet}
use Rattle.ab_unifiers.proofs.Constants.{either}

module _ {Hint : Type 0} (x : Hint) where
  one_answer : (alt : Alternative Hint) (a b : Answer Hint) → IsAnswered x alt a → IsAnswered x alt b → a ≡ b
  one_answer alt a b p q = unique x p q

  pub leads_or_stuck : (alts : List (Alternative Hint)) → ((ps : List (Premise Hint)) × LeadsTo x alts ps) ⊎ ((i : ℕ) × IsStuckAt x alts i)
  leads_or_stuck [] = inl ([], at_end)
  leads_or_stuck (alt ∷ alts) = let r = answered x (given alt.equations alt.cells alt.flexible) in by_answer r.0 r.1 (leads_or_stuck alts)
    where
      by_answer : (a : Answer Hint) → IsAnswered x alt a → ((ps : List (Premise Hint)) × LeadsTo x alts ps) ⊎ ((i : ℕ) × IsStuckAt x alts i) → ((ps : List (Premise Hint)) × LeadsTo x (alt ∷ alts) ps) ⊎ ((i : ℕ) × IsStuckAt x (alt ∷ alts) i)
      by_answer (stuck i) p rest = inr (i, stuck_here p)
      by_answer apart p (inl r) = inl (r.0, no_case p r.1)
      by_answer apart p (inr r) = inr (r.0, stuck_later p tt r.1)
      by_answer (unified cells q) p (inl r) = inl (record { alternative = alt; cells = cells; solution = q } ∷ r.0, a_case p r.1)
      by_answer (unified cells q) p (inr r) = inr (r.0, stuck_later p tt r.1)

  pub leads_one : {alts : List (Alternative Hint)} {ps qs : List (Premise Hint)} → LeadsTo x alts ps → LeadsTo x alts qs → ps ≡ qs
  leads_one at_end at_end = refl
  leads_one (no_case p r) (no_case q s) = leads_one r s
  leads_one (no_case {alt = alt} p r) (a_case {cells = cells} {q = v} q s) = absurd (let bad : apart ≡ unified cells v = one_answer alt apart (unified cells v) p q in cc)
  leads_one (a_case {alt = alt} {cells = cells} {q = u} p r) (no_case q s) = absurd (let bad : unified cells u ≡ apart = one_answer alt (unified cells u) apart p q in cc)
  leads_one (a_case {alt = alt} {cells = cells} {q = u} p r) (a_case {cells = more} {q = v} q s) =
      let same : unified cells u ≡ unified more v = one_answer alt (unified cells u) (unified more v) p q in
      let rest = leads_one r s in
      let one : cells ≡ more = cc in
      let two : u ≡ v = cc in
      λ i. record { alternative = alt; cells = one i; solution = two i } ∷ rest i

  decided_not_stuck : (alt : Alternative Hint) (a : Answer Hint) (i : ℕ) → IsAnswered x alt a → IsDecided x a → IsAnswered x alt (stuck i) → ⊥
  decided_not_stuck alt a i p d q = subst (IsDecided x) (one_answer alt a (stuck i) p q) d

  pub stuck_one : {alts : List (Alternative Hint)} {i j : ℕ} → IsStuckAt x alts i → IsStuckAt x alts j → i ≡ j
  stuck_one {i = i} {j = j} (stuck_here {alt = alt} p) (stuck_here q) = let same : stuck i ≡ stuck j = one_answer alt (stuck i) (stuck j) p q in cc
  stuck_one {i = i} (stuck_here {alt = alt} p) (stuck_later {a = a} q d s) = absurd (decided_not_stuck alt a i q d p)
  stuck_one {j = j} (stuck_later {alt = alt} {a = a} p d r) (stuck_here q) = absurd (decided_not_stuck alt a j p d q)
  stuck_one (stuck_later p d r) (stuck_later q e s) = stuck_one r s

  pub not_both : {alts : List (Alternative Hint)} {ps : List (Premise Hint)} {i : ℕ} → LeadsTo x alts ps → IsStuckAt x alts i → ⊥
  not_both at_end q = elim q [ ]
  not_both {i = i} (no_case {alt = alt} p r) (stuck_here q) = decided_not_stuck alt apart i p tt q
  not_both {i = i} (a_case {alt = alt} {cells = cells} {q = u} p r) (stuck_here q) = decided_not_stuck alt (unified cells u) i p tt q
  not_both (no_case p r) (stuck_later q d s) = not_both r s
  not_both (a_case p r) (stuck_later q d s) = not_both r s

  -- what comes of an alternative of the list
  abbrev Comes : Alternative Hint → List (Premise Hint) → Type 0
  Comes alt ps = IsAnswered x alt apart ⊎ ((cells : List (Cell Hint)) × (q : Substitution ℕ Hint) × IsAnswered x alt (unified cells q) × Contains ps (record { alternative = alt; cells = cells; solution = q }))

  later : (alt : Alternative Hint) (p : Premise Hint) (ps : List (Premise Hint)) → Comes alt ps → Comes alt (p ∷ ps)
  later alt p ps (inl a) = inl a
  later alt p ps (inr r) = inr (r.0, r.1, r.2, Contains-there p ps (record { alternative = alt; cells = r.0; solution = r.1 }) r.3)

  comes : {alts : List (Alternative Hint)} {ps : List (Premise Hint)} → LeadsTo x alts ps → (alt : Alternative Hint) → Contains alts alt → Comes alt ps
  comes at_end alt m = absurd (Contains-none alt m)
  comes (no_case {alt = first} {alts = alts} {ps = ps} p r) alt m =
      either (λ e. subst (λ a. Comes a ps) e (inl p)) (λ n. comes r alt n) (Contains-cases first alts alt m)
  comes (a_case {alt = first} {alts = alts} {ps = ps} {cells = cells} {q = q} p r) alt m =
      let here : Premise Hint = record { alternative = first; cells = cells; solution = q } in
      either (λ e. subst (λ a. Comes a (here ∷ ps)) e (inr (cells, q, p, Contains-here here ps))) (λ n. later alt here ps (comes r alt n)) (Contains-cases first alts alt m)

  -- what is covered is met
  pub met : (alike : Term ℕ Hint → Term ℕ Hint → Type 0) (sg : Signature) (sequent : Scope Hint) (clauses : List (Clause Hint)) (atom : Term ℕ Hint) (s : Substitution ℕ Hint) (B : Term ℕ Hint) (ps : List (Premise Hint))
      → LeadsTo x (alternatives x on_left sequent clauses atom) ps → IsCovered alike sg x sequent clauses atom s B → IsMet alike sg sequent ps s B
  met alike sg sequent clauses atom s B ps r c = by_case (comes r c.0 c.1)
    where
      by_case : Comes c.0 ps → IsMet alike sg sequent ps s B
      by_case (inl a) = absurd (c.2 apart a)
      by_case (inr k) = let g = c.2 (unified k.0 k.1) k.2 in (record { alternative = c.0; cells = k.0; solution = k.1 }, g.0, k.3, g.1, g.2, g.3)
