-- Each variable is replaced once, over a whole run.
use Rattle.std.proofs.Common.{◌≡◌, ◌≢◌, ◌⊎◌, inl, inr, ℕ, ◌+◌, ◌<◌, ◌≤◌, List, [], ◌∷◌, ◌++◌, map, length, Bool, true, false, cond, not, ◌&&◌, ◌||◌, Option, Some, None, refl, sym, ap, subst, arith, length-append}
use Rattle.std.specs.List.{list_all}
use Rattle.std.proofs.lemmas.Bool.{and_parts, false≢true, false_from_ne_true}
use Rattle.ab_term.specs.Terms.{Variable, Head, constant, logical, nominal, variable, index, Term, lam, spine}
use Rattle.ab_term.specs.Sameness.{same_numbered, same_head, same_number, same_term}
use Rattle.ab_term.specs.Abstraction.{among}
use Rattle.ab_term.specs.Variables.{Substitution, image, composition}
use Rattle.ab_unifiers.specs.Patterns.{pattern, applied, kept_type}
use Rattle.ab_unifiers.specs.Replacements.{Cell, Change, without, holds, is_flexible, has_patterns, occurs, no_foreign, pruned, made, next_variable, one}
use Rattle.ab_unifiers.specs.Unification.{Equation, State, Answer, Result, clash, parts, replaced, paired, equal_sides, bodies, rigid_heads, is_older, agreeing, begun, unchanged, put_in, pattern_of, pattern_and_rigid, same_variable_at, one_variable, joined_at, two_at, two_variables, either_way, rule, Found, finished, goes_on, first_found, found_at, carried, next_by, image_of, ending, unified, apart, stuck, Solves, at_end, by_step}
use Rattle.ab_unifiers.specs.Unifiers.{AreKnown, given}
use Rattle.ab_unifiers.proofs.Falling.{older_holds}
use Rattle.ab_unifiers.proofs.Steps.{OnResult, OnFound, on_or_else, on_cond}
use Rattle.ab_unifiers.proofs.Avoiding.{not_held, without_held}
use Rattle.ab_unifiers.proofs.Keys.{keys, AreDifferent, keys-composition, different_both, not_itself, only_one, Comes, KeysFine, narrowed_keys, pruned_keys}

module _ {Hint : Type 0} (x : Hint) (cells : List (Cell Hint)) (ys : List (Variable ℕ)) (known : AreKnown cells ys) where
  abbrev Once : Result Hint → Type 0
  Once clash = Unit {0}
  Once (parts es) = Unit {0}
  Once (replaced c) = KeysFine (length cells) ys c

  unchanged_keys : KeysFine (length cells) ys (unchanged x cells ys)
  unchanged_keys = record { longer = omega arith; replaced = λ y e. absurd (false≢true e); left = λ y e. inl e; gone = λ y e f. false≢true e; different = tt }

  begun_keys : (y : Variable ℕ) → KeysFine (length cells) (without y ys) (begun x cells ys y)
  begun_keys y = record { longer = omega arith; replaced = λ y e. absurd (false≢true e); left = λ y e. inl e; gone = λ y e f. false≢true e; different = tt }

  never : (y : Variable ℕ) (now : ℕ) → holds ys y ≡ true → Comes (length cells) (without y ys) now y → ⊥
  never y now h (inl a) = not_itself y ys a
  never y now h (inr a) = absurd (omega (arith, a.0, known y h))

  wider : (y v : Variable ℕ) (now : ℕ) → Comes (length cells) (without y ys) now v → Comes (length cells) ys now v
  wider y v now (inl a) = inl (without_held y ys v a)
  wider y v now (inr a) = inr a

  put_keys : (y : Variable ℕ) (names : List (Head ℕ)) (t : Term ℕ Hint) (c : Change Hint) → holds ys y ≡ true → KeysFine (length cells) (without y ys) c → KeysFine (length cells) ys (put_in x cells ys y names t c)
  put_keys y names t c h k =
      let more = one x y names (image same_number c.pairs t) in
      record {
        longer = k.longer;
        replaced = λ v e. elim (split v (subst (λ l. holds l v ≡ true) (keys-composition c.pairs more) e)) [ inl a ↦ wider y v (length c.cells) (k.replaced v a) | inr a ↦ inl (subst (λ u. holds ys u ≡ true) a h) ];
        left = λ v e. wider y v (length c.cells) (k.left v e);
        gone = λ v e f. elim (split v (subst (λ l. holds l v ≡ true) (keys-composition c.pairs more) e)) [ inl a ↦ k.gone v a f | inr a ↦ never y (length c.cells) h (k.left y (subst (λ u. holds c.flexible u ≡ true) (sym a) f)) ];
        different = subst AreDifferent (sym (keys-composition c.pairs more)) (different_both (keys c.pairs) (y ∷ []) k.different (refl, tt) (λ v e f. never y (length c.cells) h (k.replaced y (subst (λ u. holds (keys c.pairs) u ≡ true) (sym (only_one y v f)) e))));
      }
    where
      split : (v : Variable ℕ) → holds (keys c.pairs ++ y ∷ []) v ≡ true → (holds (keys c.pairs) v ≡ true) ⊎ (y ≡ v)
      split v e = elim (not_held (keys c.pairs) (y ∷ []) v e) [ inl a ↦ inl a | inr a ↦ inr (only_one y v a) ]

  joined_keys : (y : Variable ℕ) (names : List (Head ℕ)) (z : Variable ℕ) (others : List (Head ℕ)) → holds ys y ≡ true → holds ys z ≡ true → y ≢ z → KeysFine (length cells) ys (joined_at x cells ys y names z others)
  joined_keys y names z others hy hz d =
      let keep = map (among others) names in
      let cell = made x cells y (kept_type keep y.type) in
      let w = next_variable x cells (kept_type keep y.type) in
      let now = length (cells ++ cell ∷ []) in
      let longer : now ≡ length cells + 1 = length-append cells (cell ∷ []) in
      record {
        longer = omega (arith, longer);
        replaced = λ v e. inl (elim (one_of v e) [ inl a ↦ subst (λ u. holds ys u ≡ true) a hy | inr a ↦ subst (λ u. holds ys u ≡ true) a hz ]);
        left = λ v e. elim (not_held (without z (without y ys)) (w ∷ []) v e) [ inl a ↦ inl (without_held y ys v (without_held z (without y ys) v a)) | inr a ↦ inr (let name : length cells ≡ v.name = ap (λ v. v.name) (only_one w v a) in (omega (arith, name), omega (arith, name, longer))) ];
        gone = λ v e f. elim (not_held (without z (without y ys)) (w ∷ []) v f) [
          | inl a ↦ elim (one_of v e) [ inl b ↦ not_itself y ys (subst (λ u. holds (without y ys) u ≡ true) (sym b) (without_held z (without y ys) v a)) | inr b ↦ not_itself z (without y ys) (subst (λ u. holds (without z (without y ys)) u ≡ true) (sym b) a) ]
          | inr a ↦ (let name : length cells ≡ v.name = ap (λ v. v.name) (only_one w v a) in elim (one_of v e) [ inl b ↦ (let low = known y hy in let same_name : y.name ≡ v.name = ap (λ v. v.name) b in absurd (omega (arith, name, low, same_name))) | inr b ↦ (let low = known z hz in let same_name : z.name ≡ v.name = ap (λ v. v.name) b in absurd (omega (arith, name, low, same_name))) ])
        ];
        different = (false_from_ne_true (holds (z ∷ []) y) (λ e. d (sym (only_one z y e))), (refl, tt));
      }
    where
      one_of : (v : Variable ℕ) → holds (y ∷ z ∷ []) v ≡ true → (y ≡ v) ⊎ (z ≡ v)
      one_of v e = elim (not_held (y ∷ []) (z ∷ []) v e) [ inl a ↦ inl (only_one y v a) | inr a ↦ inr (only_one z v a) ]

  pattern_of_once : (y : Variable ℕ) (t : Term ℕ Hint) (o : Option (List (Head ℕ))) → holds ys y ≡ true → OnResult Once (pattern_of x cells ys y t o)
  pattern_of_once y t None h = tt
  pattern_of_once y t (Some names) h =
      on_cond Once (has_patterns ys t) (Some (cond (occurs y t || not (no_foreign ys names t)) clash (replaced (put_in x cells ys y names t (pruned x ys names t (begun x cells ys y)))))) None (λ e. go (occurs y t || not (no_foreign ys names t))) (λ e. tt)
    where
      go : (b : Bool) → Once (cond b clash (replaced (put_in x cells ys y names t (pruned x ys names t (begun x cells ys y)))))
      go true = tt
      go false = put_keys y names t (pruned x ys names t (begun x cells ys y)) h (pruned_keys x (length cells) (without y ys) (λ v e. known v (without_held y ys v e)) ys names t (begun x cells ys y) (begun_keys y))

  rigid_once : (t u : Term ℕ Hint) → OnResult Once (pattern_and_rigid x cells ys t u)
  rigid_once (spine (variable y) ts) (spine h us) =
      on_cond Once (holds ys y && not (is_flexible ys h)) (pattern_of x cells ys y (spine h us) (pattern y.type ts)) None
      (λ e. pattern_of_once y (spine h us) (pattern y.type ts) ((and_parts (holds ys y) (not (is_flexible ys h)) e).0)) (λ e. tt)
  rigid_once (spine (variable y) ts) (lam A z u) = tt
  rigid_once (spine (constant c) ts) u = tt
  rigid_once (spine (logical l) ts) u = tt
  rigid_once (spine (nominal a) ts) u = tt
  rigid_once (spine (index i) ts) u = tt
  rigid_once (lam A z t) u = tt

  one_at_once : (y : Variable ℕ) (o q : Option (List (Head ℕ))) → holds ys y ≡ true → OnResult Once (same_variable_at x cells ys y o q)
  one_at_once y None q h = tt
  one_at_once y (Some names) None h = tt
  one_at_once y (Some names) (Some others) h = narrowed_keys x (length cells) ys known y names (agreeing names others) (unchanged x cells ys) h unchanged_keys

  one_once : (t u : Term ℕ Hint) → OnResult Once (one_variable x cells ys t u)
  one_once (spine (variable y) ts) (spine (variable z) us) =
      on_cond Once (holds ys y && same_numbered y z) (same_variable_at x cells ys y (pattern y.type ts) (pattern z.type us)) None
      (λ e. one_at_once y (pattern y.type ts) (pattern z.type us) ((and_parts (holds ys y) (same_numbered y z) e).0)) (λ e. tt)
  one_once (spine (variable y) ts) (spine (constant c) us) = tt
  one_once (spine (variable y) ts) (spine (logical c) us) = tt
  one_once (spine (variable y) ts) (spine (nominal c) us) = tt
  one_once (spine (variable y) ts) (spine (index c) us) = tt
  one_once (spine (variable y) ts) (lam A z u) = tt
  one_once (spine (constant c) ts) u = tt
  one_once (spine (logical l) ts) u = tt
  one_once (spine (nominal a) ts) u = tt
  one_once (spine (index i) ts) u = tt
  one_once (lam A z t) u = tt

  two_at_once : (y z : Variable ℕ) (o q : Option (List (Head ℕ))) → holds ys z ≡ true → (holds ys y ≡ true) × (y ≢ z) → OnResult Once (two_at x cells ys y o z q)
  two_at_once y z None q h older = tt
  two_at_once y z (Some names) None h older = tt
  two_at_once y z (Some names) (Some others) h older = go (list_all (among others) names) (list_all (among names) others)
    where
      go : (b c : Bool) → KeysFine (length cells) ys (cond b (put_in x cells ys z others (applied x y names) (begun x cells ys z)) (cond c (put_in x cells ys y names (applied x z others) (begun x cells ys y)) (joined_at x cells ys y names z others)))
      go true c = put_keys z others (applied x y names) (begun x cells ys z) h (begun_keys z)
      go false true = put_keys y names (applied x z others) (begun x cells ys y) older.0 (begun_keys y)
      go false false = joined_keys y names z others older.0 h older.1

  two_once : (t u : Term ℕ Hint) → OnResult Once (two_variables x cells ys t u)
  two_once (spine (variable y) ts) (spine (variable z) us) =
      on_cond Once (holds ys z && is_older ys y z) (two_at x cells ys y (pattern y.type ts) z (pattern z.type us)) None
      (λ e.
      let parts = and_parts (holds ys z) (is_older ys y z) e in
      two_at_once y z (pattern y.type ts) (pattern z.type us) parts.0 (older_holds ys y z parts.1))
      (λ e. tt)
  two_once (spine (variable y) ts) (spine (constant c) us) = tt
  two_once (spine (variable y) ts) (spine (logical c) us) = tt
  two_once (spine (variable y) ts) (spine (nominal c) us) = tt
  two_once (spine (variable y) ts) (spine (index c) us) = tt
  two_once (spine (variable y) ts) (lam A z u) = tt
  two_once (spine (constant c) ts) u = tt
  two_once (spine (logical l) ts) u = tt
  two_once (spine (nominal a) ts) u = tt
  two_once (spine (index i) ts) u = tt
  two_once (lam A z t) u = tt

  bodies_once : (p : ℕ) (t u : Term ℕ Hint) → OnResult Once (bodies p t u)
  bodies_once p (lam A x t) (lam B y u) = tt
  bodies_once p (lam A x t) (spine h us) = tt
  bodies_once p (spine h ts) u = tt

  heads_once : (p : ℕ) (t u : Term ℕ Hint) → OnResult Once (rigid_heads ys p t u)
  heads_once p (lam A x t) u = tt
  heads_once p (spine g ts) (lam B y u) = tt
  heads_once p (spine g ts) (spine h us) =
      on_cond Once (is_flexible ys g || is_flexible ys h) None (Some (cond (same_head g h) (parts (paired p ts us)) clash)) (λ e. tt) (λ e. go (same_head g h))
    where
      go : (b : Bool) → Once (cond b (parts (paired p ts us)) clash)
      go true = tt
      go false = tt

  rule_once : (e : Equation Hint) → OnResult Once (rule x cells ys e)
  rule_once e =
      on_or_else Once (equal_sides e) _ (on_cond Once (same_term e.left e.right) (Some (parts [])) None (λ f. tt) (λ f. tt))
      (on_or_else Once (bodies e.place e.left e.right) _ (bodies_once e.place e.left e.right)
      (on_or_else Once (rigid_heads ys e.place e.left e.right) _ (heads_once e.place e.left e.right)
      (on_or_else Once (either_way x cells ys (pattern_and_rigid x cells ys) e) _
      (on_or_else Once (pattern_and_rigid x cells ys e.left e.right) (pattern_and_rigid x cells ys e.right e.left) (rigid_once e.left e.right) (rigid_once e.right e.left))
      (on_or_else Once (one_variable x cells ys e.left e.right) _ (one_once e.left e.right)
      (on_or_else Once (two_variables x cells ys e.left e.right) (two_variables x cells ys e.right e.left) (two_once e.left e.right) (two_once e.right e.left))))))

  found_once : (e : Equation Hint) (es : List (Equation Hint)) (r : Option (Result Hint)) (o : Option (Found Hint)) → OnResult Once r → OnFound x cells ys (λ f. Once f.result) o → OnFound x cells ys (λ f. Once f.result) (found_at e es r o)
  found_once e es None None a b = tt
  found_once e es None (Some f) a b = b
  found_once e es (Some r) o a b = a

  pub first_once : (es : List (Equation Hint)) → OnFound x cells ys (λ f. Once f.result) (first_found (rule x cells ys) es)
  first_once [] = tt
  first_once (e ∷ es) = found_once e es (rule x cells ys e) (first_found (rule x cells ys) es) (rule_once e) (first_once es)

module _ {Hint : Type 0} (x : Hint) (n : ℕ) (ys : List (Variable ℕ)) where
  -- over a run: what was flexible at first, or made since
  record StateKeys (s : State Hint) : Type 0 where
    pub longer : n ≤ length s.cells
    pub known : AreKnown s.cells s.flexible
    pub replaced : (y : Variable ℕ) → holds (keys s.pairs) y ≡ true → Comes n ys (length s.cells) y × (y.name < length s.cells)
    pub left : (y : Variable ℕ) → holds s.flexible y ≡ true → Comes n ys (length s.cells) y
    pub gone : (y : Variable ℕ) → holds (keys s.pairs) y ≡ true → holds s.flexible y ≡ true → ⊥
    pub different : AreDifferent (keys s.pairs)

  replaced_keys : (s : State Hint) (es : List (Equation Hint)) (c : Change Hint) → StateKeys s → KeysFine (length s.cells) s.flexible c → StateKeys (record { equations = es; cells = c.cells; flexible = c.flexible; pairs = composition same_number s.pairs c.pairs })
  replaced_keys s es c k f = record {
    longer = omega (arith, k.longer, f.longer);
    known = λ y e. below y (f.left y e);
    replaced = λ y e. elim (split y e) [ inl a ↦ (let r = k.replaced y a in (up y r.0, omega (arith, r.1, f.longer))) | inr a ↦ (come y (f.replaced y a), below y (f.replaced y a)) ];
    left = λ y e. come y (f.left y e);
    gone = λ y e g. elim (split y e) [ inl a ↦ apart_from y a (f.left y g) | inr a ↦ f.gone y a g ];
    different = subst AreDifferent (sym (keys-composition s.pairs c.pairs)) (different_both (keys s.pairs) (keys c.pairs) k.different f.different (λ y a b. apart_from y a (f.replaced y b)));
  }
    where
      split : (y : Variable ℕ) → holds (keys (composition same_number s.pairs c.pairs)) y ≡ true → (holds (keys s.pairs) y ≡ true) ⊎ (holds (keys c.pairs) y ≡ true)
      split y e = not_held (keys s.pairs) (keys c.pairs) y (subst (λ l. holds l y ≡ true) (keys-composition s.pairs c.pairs) e)

      up : (y : Variable ℕ) → Comes n ys (length s.cells) y → Comes n ys (length c.cells) y
      up y (inl a) = inl a
      up y (inr a) = inr (a.0, omega (arith, a.1, f.longer))

      come : (y : Variable ℕ) → Comes (length s.cells) s.flexible (length c.cells) y → Comes n ys (length c.cells) y
      come y (inl a) = up y (k.left y a)
      come y (inr a) = inr (omega (arith, a.0, k.longer), a.1)

      below : (y : Variable ℕ) → Comes (length s.cells) s.flexible (length c.cells) y → y.name < length c.cells
      below y (inl a) = omega (arith, k.known y a, f.longer)
      below y (inr a) = a.1

      apart_from : (y : Variable ℕ) → holds (keys s.pairs) y ≡ true → Comes (length s.cells) s.flexible (length c.cells) y → ⊥
      apart_from y a (inl b) = k.gone y a b
      apart_from y a (inr b) = absurd (omega (arith, b.0, (k.replaced y a).1))

  parts_keys : (s : State Hint) (es : List (Equation Hint)) → StateKeys s → StateKeys (record { equations = es; cells = s.cells; flexible = s.flexible; pairs = s.pairs })
  parts_keys s es k = record { longer = k.longer; known = k.known; replaced = k.replaced; left = k.left; gone = k.gone; different = k.different }

  carried_keys : (s q : State Hint) (k : StateKeys s) (f : Found Hint) (g : Result Hint) → Once x s.cells s.flexible k.known g → carried s f g ≡ goes_on q → StateKeys q
  carried_keys s q k f clash h e = absurd (let both : finished apart ≡ goes_on q = e in cc)
  carried_keys s q k f (parts es) h e = moved (record { equations = f.before ++ es ++ f.behind; cells = s.cells; flexible = s.flexible; pairs = s.pairs }) e (parts_keys s (f.before ++ es ++ f.behind) k)
    where
      moved : (m : State Hint) → goes_on m ≡ goes_on q → StateKeys m → StateKeys q
      moved m e l = let equal : m ≡ q = cc in subst StateKeys equal l
  carried_keys s q k f (replaced c) h e = moved (record { equations = map (image_of c.pairs) (f.before ++ f.behind); cells = c.cells; flexible = c.flexible; pairs = composition same_number s.pairs c.pairs }) e (replaced_keys s (map (image_of c.pairs) (f.before ++ f.behind)) c k h)
    where
      moved : (m : State Hint) → goes_on m ≡ goes_on q → StateKeys m → StateKeys q
      moved m e l = let equal : m ≡ q = cc in subst StateKeys equal l

  next_keys : (s q : State Hint) (k : StateKeys s) (o : Option (Found Hint)) → OnFound x s.cells s.flexible (λ f. Once x s.cells s.flexible k.known f.result) o → next_by s o ≡ goes_on q → StateKeys q
  next_keys s q k None h e = absurd (let both : finished (ending s s.equations) ≡ goes_on q = e in cc)
  next_keys s q k (Some f) h e = carried_keys s q k f f.result h e

  abbrev OnceOf : Answer Hint → Type 0
  OnceOf (unified more r) = AreDifferent (keys r) × ((y : Variable ℕ) → holds (keys r) y ≡ true → Comes n ys (length more) y)
  OnceOf apart = Unit {0}
  OnceOf (stuck i) = Unit {0}

  ending_once : (s : State Hint) → StateKeys s → (es : List (Equation Hint)) → OnceOf (ending s es)
  ending_once s k [] = (k.different, λ y e. (k.replaced y e).0)
  ending_once s k (e ∷ es) = tt

  end_once : (s : State Hint) (k : StateKeys s) (a : Answer Hint) (o : Option (Found Hint)) → next_by s o ≡ finished a → OnceOf a
  end_once s k a None e = let equal : ending s s.equations ≡ a = cc in subst OnceOf equal (ending_once s k s.equations)
  end_once s k a (Some f) e = go f.result e
    where
      go : (r : Result Hint) → carried s f r ≡ finished a → OnceOf a
      go clash e = let equal : apart ≡ a = cc in subst OnceOf equal tt
      go (parts es) e = absurd (cc)
      go (replaced c) e = absurd (cc)

  once : (s : State Hint) (a : Answer Hint) → StateKeys s → Solves x s a → OnceOf a
  once s a k (at_end e) = end_once s k a (first_found (rule x s.cells s.flexible) s.equations) e
  once s a k (by_step {r = r} e q) = once r a (next_keys s r k (first_found (rule x s.cells s.flexible) s.equations) (first_once x s.cells s.flexible k.known s.equations) e) q

module _ {Hint : Type 0} (x : Hint) (es : List (Equation Hint)) (cells : List (Cell Hint)) (ys : List (Variable ℕ)) (known : AreKnown cells ys) where
  start : StateKeys x (length cells) ys (given es cells ys)
  start = record { longer = omega arith; known = known; replaced = λ y e. absurd (false≢true e); left = λ y e. inl e; gone = λ y e f. false≢true e; different = tt }

  -- EACH VARIABLE ONCE, of those given or of those made
  pub answer_once : (more : List (Cell Hint)) (r : Substitution ℕ Hint) → Solves x (given es cells ys) (unified more r) → AreDifferent (keys r) × ((y : Variable ℕ) → holds (keys r) y ≡ true → Comes (length cells) ys (length more) y)
  answer_once more r p = once x (length cells) ys (given es cells ys) (unified more r) start p
