-- One step, seen: the equation at which a rule applies, what the rule gives, and what the step leads to.
use Rattle.std.proofs.Common.{◌≡◌, List, [], ◌∷◌, ◌++◌, map, Option, Some, None, refl, ap, subst}
use Rattle.ab_term.specs.Variables.{composition}
use Rattle.ab_term.specs.Sameness.{same_number}
use Rattle.ab_unifiers.specs.Replacements.{Change}
use Rattle.ab_unifiers.specs.Unification.{Equation, State, Answer, unified, apart, stuck, Result, clash, parts, replaced, rule, Found, found_at, first_found, finished, goes_on, image_of, ending, carried, next_by, next}
use Rattle.ab_pattern_matching.specs.Reading.{Every}

module _ {Hint : Type 0} (f : Equation Hint → Option (Result Hint)) where
  -- where something is found, and where nothing is
  abbrev Here : List (Equation Hint) → Option (Found Hint) → Type 0
  Here es None = Every (λ e. f e ≡ None) es
  Here es (Some k) = (e : Equation Hint) × (es ≡ k.before ++ e ∷ k.behind) × (f e ≡ Some k.result)

  found_here : (e : Equation Hint) (es : List (Equation Hint)) (r : Option (Result Hint)) (o : Option (Found Hint)) → f e ≡ r → Here es o → Here (e ∷ es) (found_at e es r o)
  found_here e es None None q h = (q, h)
  found_here e es None (Some k) q h = (h.0, ap (λ l. e ∷ l) h.1, h.2)
  found_here e es (Some r) o q h = (e, refl, q)

  first_here : (es : List (Equation Hint)) → Here es (first_found f es)
  first_here [] = tt
  first_here (e ∷ es) = found_here e es (f e) (first_found f es) refl (first_here es)

module _ {Hint : Type 0} (x : Hint) where
  pub data Stepped (s : State Hint) : State Hint → Type 0 where
    parted : (before : List (Equation Hint)) (e : Equation Hint) (es behind : List (Equation Hint)) → s.equations ≡ before ++ e ∷ behind → rule x s.cells s.flexible e ≡ Some (parts es)
        → Stepped s (record { equations = before ++ es ++ behind; cells = s.cells; flexible = s.flexible; pairs = s.pairs })
    changed : (before : List (Equation Hint)) (e : Equation Hint) (c : Change Hint) (behind : List (Equation Hint)) → s.equations ≡ before ++ e ∷ behind → rule x s.cells s.flexible e ≡ Some (replaced c)
        → Stepped s (record { equations = map (image_of c.pairs) (before ++ behind); cells = c.cells; flexible = c.flexible; pairs = composition same_number s.pairs c.pairs })

  carried_view : (s r : State Hint) (k : Found Hint) (g : Result Hint) (e : Equation Hint) → s.equations ≡ k.before ++ e ∷ k.behind → rule x s.cells s.flexible e ≡ Some g → carried s k g ≡ goes_on r → Stepped s r
  carried_view s r k clash e w q n = absurd (let both : finished apart ≡ goes_on r = n in cc)
  carried_view s r k (parts es) e w q n =
      let equal : record { equations = k.before ++ es ++ k.behind; cells = s.cells; flexible = s.flexible; pairs = s.pairs } ≡ r = cc in
      subst (Stepped s) equal (parted k.before e es k.behind w q)
  carried_view s r k (replaced c) e w q n =
      let equal : record { equations = map (image_of c.pairs) (k.before ++ k.behind); cells = c.cells; flexible = c.flexible; pairs = composition same_number s.pairs c.pairs } ≡ r = cc in
      subst (Stepped s) equal (changed k.before e c k.behind w q)

  next_view : (s r : State Hint) (o : Option (Found Hint)) → Here (rule x s.cells s.flexible) s.equations o → next_by s o ≡ goes_on r → Stepped s r
  next_view s r None h n = absurd (let both : finished (ending s s.equations) ≡ goes_on r = n in cc)
  next_view s r (Some k) h n = carried_view s r k k.result h.0 h.1 h.2 n

  -- A STEP, SEEN
  pub step_view : (s r : State Hint) → next x s ≡ goes_on r → Stepped s r
  step_view s r n = next_view s r (first_found (rule x s.cells s.flexible) s.equations) (first_here (rule x s.cells s.flexible) s.equations) n

  -- where the steps end
  pub data Ended (s : State Hint) : Answer Hint → Type 0 where
    all_solved : s.equations ≡ [] → Ended s (unified s.cells s.pairs)
    none_applies : (e : Equation Hint) (es : List (Equation Hint)) → s.equations ≡ e ∷ es → Every (λ d. rule x s.cells s.flexible d ≡ None) s.equations → Ended s (stuck e.place)
    are_apart : Ended s apart

  ending_view : (s : State Hint) (es : List (Equation Hint)) → s.equations ≡ es → Every (λ d. rule x s.cells s.flexible d ≡ None) s.equations → Ended s (ending s es)
  ending_view s [] q h = all_solved q
  ending_view s (e ∷ es) q h = none_applies e es q h

  end_view_by : (s : State Hint) (a : Answer Hint) (o : Option (Found Hint)) → Here (rule x s.cells s.flexible) s.equations o → next_by s o ≡ finished a → Ended s a
  end_view_by s a None h n = let equal : ending s s.equations ≡ a = cc in subst (Ended s) equal (ending_view s s.equations refl h)
  end_view_by s a (Some k) h n = go k.result n
    where
      go : (g : Result Hint) → carried s k g ≡ finished a → Ended s a
      go clash n = let equal : apart ≡ a = cc in subst (Ended s) equal are_apart
      go (parts es) n = absurd (cc)
      go (replaced c) n = absurd (cc)

  -- THE END, SEEN
  pub end_view : (s : State Hint) (a : Answer Hint) → next x s ≡ finished a → Ended s a
  end_view s a n = end_view_by s a (first_found (rule x s.cells s.flexible) s.equations) (first_here (rule x s.cells s.flexible) s.equations) n
