-- The number of steps that are left doesn't depend on what was put in so far.
use Rattle.std.proofs.Common.{◌≡◌, ℕ, suc, ◌<◌, ◌++◌, map, Option, Some, None, refl, sym, ap, subst, arith}
use Rattle.ab_term.specs.Variables.{Substitution, composition}
use Rattle.ab_term.specs.Sameness.{same_number}
use Rattle.ab_patterns.specs.ab_unifiers.specs.Unification.{State, Answer, apart, Result, clash, parts, replaced, rule, image_of, Found, first_found, finished, goes_on, carried, ending, next_by, next}
use Rattle.ab_patterns.specs.ab_unifiers.proofs.Unique.{not_both, one_step}
use Rattle.ab_patterns.specs.ab_unifiers.proofs.Ending.{answered, Takes, takes_none, takes_more, counted, steps_left, steps_fall}

module _ {Hint : Type 0} (x : Hint) where
  -- the same, where these pairs were put in
  abbrev pub with_pairs : Substitution ℕ Hint → State Hint → State Hint
  with_pairs p s = record { equations = s.equations; cells = s.cells; flexible = s.flexible; pairs = p }

  on_result : (s r : State Hint) (f : Found Hint) (g : Result Hint) (p : Substitution ℕ Hint) → carried s f g ≡ goes_on r → (q : Substitution ℕ Hint) × (carried (with_pairs p s) f g ≡ goes_on (with_pairs q r))
  on_result s r f clash p e = absurd (let both : finished apart ≡ goes_on r = e in cc)
  on_result s r f (parts es) p e =
      let q : State Hint = record { equations = f.before ++ es ++ f.behind; cells = s.cells; flexible = s.flexible; pairs = s.pairs } in
      let both : goes_on q ≡ goes_on r = e in
      let same : q ≡ r = cc in
      (p, ap (λ n. goes_on (with_pairs p n)) same)
  on_result s r f (replaced c) p e =
      let q : State Hint = record { equations = map (image_of c.pairs) (f.before ++ f.behind); cells = c.cells; flexible = c.flexible; pairs = composition same_number s.pairs c.pairs } in
      let both : goes_on q ≡ goes_on r = e in
      let same : q ≡ r = cc in
      let all = composition same_number p c.pairs in
      (all, ap (λ n. goes_on (with_pairs all n)) same)

  on_found : (s r : State Hint) (o : Option (Found Hint)) (p : Substitution ℕ Hint) → next_by s o ≡ goes_on r → (q : Substitution ℕ Hint) × (next_by (with_pairs p s) o ≡ goes_on (with_pairs q r))
  on_found s r None p e = absurd (let both : finished (ending s s.equations) ≡ goes_on r = e in cc)
  on_found s r (Some f) p e = on_result s r f f.result p e

  result_ends : (s : State Hint) (f : Found Hint) (g : Result Hint) (a : Answer Hint) (p : Substitution ℕ Hint) → carried s f g ≡ finished a → (b : Answer Hint) × (carried (with_pairs p s) f g ≡ finished b)
  result_ends s f clash a p e = (apart, refl)
  result_ends s f (parts es) a p e = absurd (cc)
  result_ends s f (replaced c) a p e = absurd (cc)

  found_ends : (s : State Hint) (o : Option (Found Hint)) (a : Answer Hint) (p : Substitution ℕ Hint) → next_by s o ≡ finished a → (b : Answer Hint) × (next_by (with_pairs p s) o ≡ finished b)
  found_ends s None a p e = (ending (with_pairs p s) s.equations, refl)
  found_ends s (Some f) a p e = result_ends s f f.result a p e

  takes_with : (p : Substitution ℕ Hint) (s : State Hint) (n : ℕ) → Takes x s n → Takes x (with_pairs p s) n
  takes_with p s n (takes_none {a = a} e) = takes_none (found_ends s (first_found (rule x s.cells s.flexible) s.equations) a p e).1
  takes_with p s n (takes_more {r = r} {n = m} e t) =
      let on = on_found s r (first_found (rule x s.cells s.flexible) s.equations) p e in
      takes_more on.1 (takes_with on.0 r m t)

  one_number : {s : State Hint} {n m : ℕ} → Takes x s n → Takes x s m → n ≡ m
  one_number (takes_none e) (takes_none f) = refl
  one_number (takes_none e) (takes_more f q) = absurd (not_both x e f)
  one_number (takes_more e p) (takes_none f) = absurd (not_both x f e)
  one_number (takes_more e p) (takes_more {n = m} f q) = ap suc (one_number p (subst (λ r. Takes x r m) (sym (one_step x e f)) q))

  steps_same : (p : Substitution ℕ Hint) (s : State Hint) → steps_left x (with_pairs p s) ≡ steps_left x s
  steps_same p s =
      let here = counted x ((answered x s).1) in
      let there = counted x ((answered x (with_pairs p s)).1) in
      one_number there.1 (takes_with p s here.0 here.1)

  -- a step leaves fewer, whatever was put in
  pub fewer_left : (p : Substitution ℕ Hint) (s r : State Hint) → next x s ≡ goes_on r → steps_left x (with_pairs p r) < steps_left x s
  fewer_left p s r e = omega (arith, steps_same p r, steps_fall x s r e)
