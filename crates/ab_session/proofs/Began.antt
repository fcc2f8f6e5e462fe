-- Whether the last kept command began the open proof.
use Rattle.std.specs.Prelude.{slice_get}
use Rattle.std.specs.Option.{IsSome}
use Rattle.std.proofs.Common.{◌≡◌, ℕ, suc, ◌-◌, true, false, List, [], ◌∷◌, ◌++◌, length, Option, Some, None, refl, sym, ◌∙◌, ap, subst, arith}
use Rattle.ab_store.specs.declared.node.TermId.{TermId}
use Rattle.ab_session.specs.declared.attempt.Attempt.{Attempt}
use Rattle.ab_session.specs.declared.command_history.Deed.TheVariants.{Went, Began, Completed, GaveUp}
use Rattle.ab_session.specs.declared.command_history.Kept.{Kept}
use Rattle.ab_session.specs.Contents.{Contents, Past, past_of}
use Rattle.ab_session.specs.Origins.{WentOn, CameBy, CameFrom, Remembers, begun, later}
use Rattle.ab_session.proofs.Origins.{pasts, latest}

-- a list by its last element
pub last_split : (ks : List Kept) (k : Kept) → slice_get ks (length ks - 1) ≡ Some k → (front : List Kept) × (ks ≡ front ++ k ∷ [])
last_split [] k e = absurd (cc)
last_split (j ∷ []) k e = let same : j ≡ k = cc in ([], ap (λ x. x ∷ []) same)
last_split (j ∷ i ∷ ks) k e =
    let rest = last_split (i ∷ ks) k (ap (λ n. slice_get (i ∷ ks) n) (let same : length (i ∷ ks) - 1 ≡ length ks = omega arith in same)
    ∙ ap (λ n. slice_get (j ∷ i ∷ ks) n) (let same : suc (length ks) ≡ length (j ∷ i ∷ ks) - 1 = omega arith in same) ∙ e) in
    (j ∷ rest.0, ap (λ xs. j ∷ xs) rest.1)

module _ (s e : Contents) (ks : List Kept) (past : s.past ≡ pasts ks) (from : CameFrom e s) where
  pub some_kept : ks ≡ [] → ⊥
  some_kept none = let bad : from.last ∷ e.past ≡ [] = sym from.past ∙ past ∙ ap pasts none in cc

  pub did : (k : Kept) → slice_get ks (length ks - 1) ≡ Some k → CameBy k.deed k.before.steps e.proofs e.attempt s.proofs s.attempt
  did k at =
      let split = last_split ks k at in
      let both : from.last ∷ e.past ≡ past_of k ∷ pasts split.0 = sym from.past ∙ past ∙ ap pasts split.1 ∙ latest split.0 k in
      let last : from.last ≡ past_of k = cc in
      subst (λ (p : Past). CameBy p.deed p.before.steps e.proofs e.attempt s.proofs s.attempt) last from.by

  pub had_begun : (k : Kept) → slice_get ks (length ks - 1) ≡ Some k → k.deed ≡ Began → e.attempt ≡ None
  had_begun k at is = (subst (λ d. CameBy d k.before.steps e.proofs e.attempt s.proofs s.attempt) is (did k at)).1

  still_open : (n : ℕ) (a b : Option Attempt) → WentOn n a b → IsSome b → IsSome a
  still_open n None None by there = there
  still_open n None (Some b) by there = absurd by
  still_open n (Some a) b by there = refl

  pub had_gone_on : (k : Kept) → slice_get ks (length ks - 1) ≡ Some k → k.deed ≡ Went → IsSome s.attempt → IsSome e.attempt
  had_gone_on k at is there = still_open k.before.steps e.attempt s.attempt (subst (λ d. CameBy d k.before.steps e.proofs e.attempt s.proofs s.attempt) is (did k at)).1 there

  none_there : s.attempt ≡ None → IsSome s.attempt → ⊥
  none_there none there = let bad : false ≡ true = subst IsSome none there in cc

  pub not_completed : (k : Kept) (x : List ℕ) (F : TermId) → slice_get ks (length ks - 1) ≡ Some k → k.deed ≡ Completed x F → IsSome s.attempt → ⊥
  not_completed k x F at is there = none_there (subst (λ d. CameBy d k.before.steps e.proofs e.attempt s.proofs s.attempt) is (did k at)).4 there

  pub not_given_up : (k : Kept) (a : Attempt) → slice_get ks (length ks - 1) ≡ Some k → k.deed ≡ GaveUp a → IsSome s.attempt → ⊥
  not_given_up k a at is there = none_there (subst (λ d. CameBy d k.before.steps e.proofs e.attempt s.proofs s.attempt) is (did k at)).2 there

-- the session before it
pub before_begun : (s : Contents) (ks : List Kept) (k : Kept) → s.past ≡ pasts ks → Remembers s → slice_get ks (length ks - 1) ≡ Some k → k.deed ≡ Began
    → (e : Contents) × CameFrom e s × (e.attempt ≡ None)
before_begun s ks k past (begun none closed) at is =
    let split = last_split ks k at in
    let bad : past_of k ∷ pasts split.0 ≡ [] = sym (latest split.0 k) ∙ sym (ap pasts split.1) ∙ sym past ∙ none in absurd (cc)
before_begun s ks k past (later e from kept) at is = (e, from, had_begun s e ks past from k at is)
