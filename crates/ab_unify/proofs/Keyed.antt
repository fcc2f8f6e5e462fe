-- Each variable that may be replaced is so still, or is replaced, and never both: of those given, and of those made.
use Rattle.std.proofs.Common.{◌≡◌, ◌⊎◌, inl, inr, ℕ, zero, suc, ◌<◌, ◌≤◌, List, [], ◌∷◌, ◌++◌, map, length, Bool, true, false, cond, not, ◌&&◌, ◌||◌, Option, Some, None, option_map, refl, sym, ◌∙◌, ap, subst, arith}
use Rattle.std.specs.Prelude.{slice_get}
use Rattle.std.specs.List.{list_all}
use Rattle.std.proofs.lemmas.Bool.{false≢true, cases_lt}
use Rattle.ab_term.specs.Types.{Ty}
use Rattle.ab_term.specs.Terms.{Variable, Head, constant, logical, nominal, variable, index, Term, lam, spine, Terms, no_terms, term}
use Rattle.ab_term.specs.Variables.{Substitution, image, composition}
use Rattle.ab_term.specs.Sameness.{same_numbered, same_head, same_number, same_term}
use Rattle.ab_term.specs.Abstraction.{among, under}
use Rattle.ab_term.proofs.Same.{same_numbered-Decides}
use Rattle.ab_patterns.specs.ab_unifiers.specs.Patterns.{pattern, applied, kept, kept_type}
use Rattle.ab_patterns.specs.ab_unifiers.specs.Replacements.{Cell, Change, without, holds, is_flexible, has_patterns, occurs, no_foreign, made, next_variable, one, narrowed, pruned_names, pruned_here, pruned, pruned_all}
use Rattle.ab_patterns.specs.ab_unifiers.specs.Unification.{Equation, State, Result, clash, parts, replaced, paired, equal_sides, bodies, rigid_heads, is_older, agreeing, begun, unchanged, put_in, pattern_of, pattern_and_rigid, same_variable_at, one_variable, joined_at, two_at, two_variables, either_way, rule, Found, finished, goes_on, first_found, found_at, carried, next_by, next, image_of, ending, apart, unified}
use Rattle.ab_patterns.specs.ab_unifiers.specs.Unifiers.{AreKnown, IsCell, keys, Comes}
use Rattle.ab_patterns.specs.ab_unifiers.proofs.Steps.{OnResult, OnFound, on_or_else, on_cond}
use Rattle.ab_patterns.specs.ab_unifiers.proofs.Avoiding.{not_held}
use Rattle.ab_patterns.specs.ab_unifiers.proofs.Agreeing.{holds_front, holds_behind, holds_itself}
use Rattle.ab_patterns.specs.ab_unifiers.proofs.Keys.{keys-composition, KeysFine}
use Rattle.ab_patterns.specs.ab_unifiers.proofs.Once.{first_once}
use Rattle.ab_patterns.specs.ab_unifiers.proofs.Cells.{Grows, grows_none, grows_then}

-- one of these, or a variable of the cells behind the first n
abbrev Is : {Hint : Type 0} → ℕ → List (Variable ℕ) → List (Cell Hint) → Variable ℕ → Type 0
Is n ys cells y = (holds ys y ≡ true) ⊎ ((n ≤ y.name) × IsCell cells y)

-- but for the one, all stay
without_or : (z : Variable ℕ) (ys : List (Variable ℕ)) (y : Variable ℕ) → holds ys y ≡ true → (holds (without z ys) y ≡ true) ⊎ (z ≡ y)
without_or z [] y e = inl e
without_or z (v ∷ vs) y e = go (same_numbered v z) refl (same_numbered v y) refl e (without_or z vs y)
  where
    go : (b : Bool) → same_numbered v z ≡ b → (c : Bool) → same_numbered v y ≡ c → (c || holds vs y) ≡ true → (holds vs y ≡ true → (holds (without z vs) y ≡ true) ⊎ (z ≡ y))
        → (holds (cond (not b) (v ∷ without z vs) (without z vs)) y ≡ true) ⊎ (z ≡ y)
    go true s true t e rest = inr (sym ((same_numbered-Decides v z).0 s) ∙ (same_numbered-Decides v y).0 t)
    go true s false t e rest = rest e
    go false s true t e rest = inl (ap (λ c. c || holds (without z vs) y) t)
    go false s false t e rest = elim (rest e) [ inl a ↦ inl (ap (λ c. c || holds (without z vs) y) t ∙ a) | inr a ↦ inr a ]

module _ {Hint : Type 0} where
  -- a cell of the longer list is one of the shorter, or the last
  cell_before : (cells : List (Cell Hint)) (c : Cell Hint) (n : ℕ) (A : Ty) → option_map (λ (d : Cell Hint). d.type) (slice_get (cells ++ c ∷ []) n) ≡ Some A
      → (option_map (λ (d : Cell Hint). d.type) (slice_get cells n) ≡ Some A) ⊎ ((n ≡ length cells) × (c.type ≡ A))
  cell_before [] c zero A e = inr (refl, let both : Some c.type ≡ Some A = e in cc)
  cell_before [] c (suc n) A e = absurd (cc)
  cell_before (d ∷ cells) c zero A e = inl e
  cell_before (d ∷ cells) c (suc n) A e = elim (cell_before cells c n A e) [ inl a ↦ inl a | inr a ↦ inr (omega (arith, a.0), a.1) ]

  is_before : (n : ℕ) (ys : List (Variable ℕ)) (cells : List (Cell Hint)) (c : Cell Hint) (y : Variable ℕ) → Is n ys (cells ++ c ∷ []) y → (Is n ys cells y) ⊎ (record { name = length cells; type = c.type } ≡ y)
  is_before n ys cells c y (inl a) = inl (inl a)
  is_before n ys cells c y (inr a) = elim (cell_before cells c y.name y.type a.1) [
    | inl b ↦ inl (inr (a.0, b))
    | inr b ↦ inr (ap (λ m. record { name = m; type = c.type }) (sym b.0) ∙ ap (λ A. record { name = y.name; type = A }) b.1)
  ]

  low_cell : (cells : List (Cell Hint)) (n : ℕ) (A : Ty) → option_map (λ (d : Cell Hint). d.type) (slice_get cells n) ≡ Some A → n < length cells
  low_cell [] n A e = absurd (cc)
  low_cell (d ∷ cells) zero A e = omega arith
  low_cell (d ∷ cells) (suc n) A e = omega (arith, low_cell cells n A e)

  -- each is flexible or replaced
  record Covers (cells : List (Cell Hint)) (ys : List (Variable ℕ)) (c : Change Hint) : Type 0 where
    pub front : Grows cells c.cells
    pub each : (y : Variable ℕ) → Is (length cells) ys c.cells y → (holds c.flexible y ≡ true) ⊎ (holds (keys c.pairs) y ≡ true)

  key_front : (s r : Substitution ℕ Hint) (y : Variable ℕ) → holds (keys s) y ≡ true → holds (keys (composition same_number s r)) y ≡ true
  key_front s r y e = subst (λ l. holds l y ≡ true) (sym (keys-composition s r)) (holds_front (keys s) (keys r) y e)

  key_behind : (s r : Substitution ℕ Hint) (y : Variable ℕ) → holds (keys r) y ≡ true → holds (keys (composition same_number s r)) y ≡ true
  key_behind s r y e = subst (λ l. holds l y ≡ true) (sym (keys-composition s r)) (holds_behind (keys s) (keys r) y e)

  front_cell : (cells more : List (Cell Hint)) (n : ℕ) (A : Ty) → option_map (λ (d : Cell Hint). d.type) (slice_get (cells ++ more) n) ≡ Some A → n < length cells → option_map (λ (d : Cell Hint). d.type) (slice_get cells n) ≡ Some A
  front_cell [] more n A e l = absurd (omega (arith, l))
  front_cell (d ∷ cells) more zero A e l = e
  front_cell (d ∷ cells) more (suc n) A e l = front_cell cells more n A e (omega (arith, l))

module _ {Hint : Type 0} (x : Hint) (cells : List (Cell Hint)) (ys : List (Variable ℕ)) where
  narrowed_covers : (vs : List (Variable ℕ)) (z : Variable ℕ) (gs : List (Head ℕ)) (keep : List Bool) (c : Change Hint) → Covers cells vs c → Covers cells vs (narrowed x z gs keep c)
  narrowed_covers vs z gs keep c k =
      let w = next_variable x c.cells (kept_type keep z.type) in
      let cell = made x c.cells z (kept_type keep z.type) in
      let more = one x z gs (applied x w (kept keep gs)) in
      record {
        front = grows_then cells c.cells (c.cells ++ cell ∷ []) k.front (cell ∷ [], refl);
        each = λ y is. elim (is_before (length cells) vs c.cells cell y is) [
          | inl old ↦ elim (k.each y old) [
            | inl f ↦ elim (without_or z c.flexible y f) [
              | inl a ↦ inl (holds_front (without z c.flexible) (w ∷ []) y a)
              | inr e ↦ inr (key_behind c.pairs more y (subst (λ u. holds (z ∷ []) u ≡ true) e (holds_itself z)))
            ]
            | inr key ↦ inr (key_front c.pairs more y key)
          ]
          | inr e ↦ inl (holds_behind (without z c.flexible) (w ∷ []) y (subst (λ u. holds (w ∷ []) u ≡ true) e (holds_itself w)))
        ];
      }

  names_covers : (vs : List (Variable ℕ)) (names : List (Head ℕ)) (y : Variable ℕ) (o : Option (List (Head ℕ))) (c : Change Hint) → Covers cells vs c → Covers cells vs (pruned_names x names y o c)
  names_covers vs names y None c k = k
  names_covers vs names y (Some bs) c k = go (list_all (among names) bs)
    where
      go : (b : Bool) → Covers cells vs (cond b c (narrowed x y bs (map (among names) bs) c))
      go true = k
      go false = narrowed_covers vs y bs (map (among names) bs) c k

  here_covers : (vs : List (Variable ℕ)) (names : List (Head ℕ)) (t : Term ℕ Hint) (c : Change Hint) → Covers cells vs c → Covers cells vs (pruned_here x names t c)
  here_covers vs names (spine (variable y) ts) c k = go (holds c.flexible y)
    where
      go : (b : Bool) → Covers cells vs (cond b (pruned_names x names y (pattern y.type ts) c) c)
      go true = names_covers vs names y (pattern y.type ts) c k
      go false = k
  here_covers vs names (spine (constant d) ts) c k = k
  here_covers vs names (spine (logical d) ts) c k = k
  here_covers vs names (spine (nominal d) ts) c k = k
  here_covers vs names (spine (index d) ts) c k = k
  here_covers vs names (lam A y t) c k = k

  mutual
    pruned_covers : (us vs : List (Variable ℕ)) (names : List (Head ℕ)) (t : Term ℕ Hint) (c : Change Hint) → Covers cells us c → Covers cells us (pruned x vs names t c)
    pruned_covers us vs names (lam A y t) c k = pruned_covers us vs (under names) t c k
    pruned_covers us vs names (spine h ts) c k = go (is_flexible vs h) (pruned_all_covers us vs names ts c k)
      where
        go : (b : Bool) → Covers cells us (pruned_all x vs names ts c) → Covers cells us (cond b (pruned_here x names (image same_number c.pairs (spine h ts)) c) (pruned_all x vs names ts c))
        go true rest = here_covers us names (image same_number c.pairs (spine h ts)) c k
        go false rest = rest

    pruned_all_covers : (us vs : List (Variable ℕ)) (names : List (Head ℕ)) (ts : Terms ℕ Hint) (c : Change Hint) → Covers cells us c → Covers cells us (pruned_all x vs names ts c)
    pruned_all_covers us vs names no_terms c k = k
    pruned_all_covers us vs names (term t ts) c k = pruned_all_covers us vs names ts (pruned x vs names t c) (pruned_covers us vs names t c k)

  none_behind : (v : Variable ℕ) → (length cells ≤ v.name) × IsCell cells v → ⊥
  none_behind v a = let low = low_cell cells v.name v.type a.1 in let high = a.0 in absurd (omega (arith, low, high))

  unchanged_covers : Covers cells ys (unchanged x cells ys)
  unchanged_covers = record { front = grows_none cells; each = λ v is. elim is [ inl h ↦ inl h | inr a ↦ absurd (none_behind v a) ] }

  begun_covers : (y : Variable ℕ) → Covers cells (without y ys) (begun x cells ys y)
  begun_covers y = record { front = grows_none cells; each = λ v is. elim is [ inl h ↦ inl h | inr a ↦ absurd (none_behind v a) ] }

  put_covers : (y : Variable ℕ) (names : List (Head ℕ)) (t : Term ℕ Hint) (c : Change Hint) → Covers cells (without y ys) c → Covers cells ys (put_in x cells ys y names t c)
  put_covers y names t c k =
      let more = one x y names (image same_number c.pairs t) in
      let on : (v : Variable ℕ) → (holds c.flexible v ≡ true) ⊎ (holds (keys c.pairs) v ≡ true) → (holds c.flexible v ≡ true) ⊎ (holds (keys (composition same_number c.pairs more)) v ≡ true) =
      λ v o. elim o [ inl f ↦ inl f | inr key ↦ inr (key_front c.pairs more v key) ] in
      record {
        front = k.front;
        each = λ v is. elim is [
          | inl h ↦ elim (without_or y ys v h) [
            | inl a ↦ on v (k.each v (inl a))
            | inr e ↦ inr (key_behind c.pairs more v (subst (λ u. holds (y ∷ []) u ≡ true) e (holds_itself y)))
          ]
          | inr a ↦ on v (k.each v (inr a))
        ];
      }

  joined_covers : (y : Variable ℕ) (names : List (Head ℕ)) (z : Variable ℕ) (others : List (Head ℕ)) → Covers cells ys (joined_at x cells ys y names z others)
  joined_covers y names z others =
      let keep = map (among others) names in
      let cell = made x cells y (kept_type keep y.type) in
      let w = next_variable x cells (kept_type keep y.type) in
      record {
        front = (cell ∷ [], refl);
        each = λ v is. elim (is_before (length cells) ys cells cell v is) [
          | inl old ↦ elim old [
            | inl h ↦ elim (without_or y ys v h) [
              | inl a ↦ elim (without_or z (without y ys) v a) [
                | inl b ↦ inl (holds_front (without z (without y ys)) (w ∷ []) v b)
                | inr e ↦ inr (holds_behind (y ∷ []) (z ∷ []) v (subst (λ u. holds (z ∷ []) u ≡ true) e (holds_itself z)))
              ]
              | inr e ↦ inr (holds_front (y ∷ []) (z ∷ []) v (subst (λ u. holds (y ∷ []) u ≡ true) e (holds_itself y)))
            ]
            | inr a ↦ absurd (none_behind v a)
          ]
          | inr e ↦ inl (holds_behind (without z (without y ys)) (w ∷ []) v (subst (λ u. holds (w ∷ []) u ≡ true) e (holds_itself w)))
        ];
      }

  abbrev Covered : Result Hint → Type 0
  Covered clash = Unit {0}
  Covered (parts es) = Unit {0}
  Covered (replaced c) = Covers cells ys c

  pattern_covered : (y : Variable ℕ) (t : Term ℕ Hint) (o : Option (List (Head ℕ))) → OnResult Covered (pattern_of x cells ys y t o)
  pattern_covered y t None = tt
  pattern_covered y t (Some names) =
      on_cond Covered (has_patterns ys t) (Some (cond (occurs y t || not (no_foreign ys names t)) clash (replaced (put_in x cells ys y names t (pruned x ys names t (begun x cells ys y)))))) None (λ e. go (occurs y t || not (no_foreign ys names t))) (λ e. tt)
    where
      go : (b : Bool) → Covered (cond b clash (replaced (put_in x cells ys y names t (pruned x ys names t (begun x cells ys y)))))
      go true = tt
      go false = put_covers y names t (pruned x ys names t (begun x cells ys y)) (pruned_covers (without y ys) ys names t (begun x cells ys y) (begun_covers y))

  rigid_covered : (t u : Term ℕ Hint) → OnResult Covered (pattern_and_rigid x cells ys t u)
  rigid_covered (spine (variable y) ts) (spine h us) =
      on_cond Covered (holds ys y && not (is_flexible ys h)) (pattern_of x cells ys y (spine h us) (pattern y.type ts)) None
      (λ e. pattern_covered y (spine h us) (pattern y.type ts)) (λ e. tt)
  rigid_covered (spine (variable y) ts) (lam A z u) = tt
  rigid_covered (spine (constant c) ts) u = tt
  rigid_covered (spine (logical l) ts) u = tt
  rigid_covered (spine (nominal a) ts) u = tt
  rigid_covered (spine (index i) ts) u = tt
  rigid_covered (lam A z t) u = tt

  one_at_covered : (y : Variable ℕ) (o q : Option (List (Head ℕ))) → OnResult Covered (same_variable_at x cells ys y o q)
  one_at_covered y None q = tt
  one_at_covered y (Some names) None = tt
  one_at_covered y (Some names) (Some others) = narrowed_covers ys y names (agreeing names others) (unchanged x cells ys) unchanged_covers

  one_covered : (t u : Term ℕ Hint) → OnResult Covered (one_variable x cells ys t u)
  one_covered (spine (variable y) ts) (spine (variable z) us) =
      on_cond Covered (holds ys y && same_numbered y z) (same_variable_at x cells ys y (pattern y.type ts) (pattern z.type us)) None
      (λ e. one_at_covered y (pattern y.type ts) (pattern z.type us)) (λ e. tt)
  one_covered (spine (variable y) ts) (spine (constant c) us) = tt
  one_covered (spine (variable y) ts) (spine (logical c) us) = tt
  one_covered (spine (variable y) ts) (spine (nominal c) us) = tt
  one_covered (spine (variable y) ts) (spine (index c) us) = tt
  one_covered (spine (variable y) ts) (lam A z u) = tt
  one_covered (spine (constant c) ts) u = tt
  one_covered (spine (logical l) ts) u = tt
  one_covered (spine (nominal a) ts) u = tt
  one_covered (spine (index i) ts) u = tt
  one_covered (lam A z t) u = tt

  two_at_covered : (y z : Variable ℕ) (o q : Option (List (Head ℕ))) → OnResult Covered (two_at x cells ys y o z q)
  two_at_covered y z None q = tt
  two_at_covered y z (Some names) None = tt
  two_at_covered y z (Some names) (Some others) = go (list_all (among others) names) (list_all (among names) others)
    where
      go : (b c : Bool) → Covers cells ys (cond b (put_in x cells ys z others (applied x y names) (begun x cells ys z)) (cond c (put_in x cells ys y names (applied x z others) (begun x cells ys y)) (joined_at x cells ys y names z others)))
      go true c = put_covers z others (applied x y names) (begun x cells ys z) (begun_covers z)
      go false true = put_covers y names (applied x z others) (begun x cells ys y) (begun_covers y)
      go false false = joined_covers y names z others

  two_covered : (t u : Term ℕ Hint) → OnResult Covered (two_variables x cells ys t u)
  two_covered (spine (variable y) ts) (spine (variable z) us) =
      on_cond Covered (holds ys z && is_older ys y z) (two_at x cells ys y (pattern y.type ts) z (pattern z.type us)) None
      (λ e. two_at_covered y z (pattern y.type ts) (pattern z.type us)) (λ e. tt)
  two_covered (spine (variable y) ts) (spine (constant c) us) = tt
  two_covered (spine (variable y) ts) (spine (logical c) us) = tt
  two_covered (spine (variable y) ts) (spine (nominal c) us) = tt
  two_covered (spine (variable y) ts) (spine (index c) us) = tt
  two_covered (spine (variable y) ts) (lam A z u) = tt
  two_covered (spine (constant c) ts) u = tt
  two_covered (spine (logical l) ts) u = tt
  two_covered (spine (nominal a) ts) u = tt
  two_covered (spine (index i) ts) u = tt
  two_covered (lam A z t) u = tt

  bodies_covered : (p : ℕ) (t u : Term ℕ Hint) → OnResult Covered (bodies p t u)
  bodies_covered p (lam A x t) (lam B y u) = tt
  bodies_covered p (lam A x t) (spine h us) = tt
  bodies_covered p (spine h ts) u = tt

  heads_covered : (p : ℕ) (t u : Term ℕ Hint) → OnResult Covered (rigid_heads ys p t u)
  heads_covered p (lam A x t) u = tt
  heads_covered p (spine g ts) (lam B y u) = tt
  heads_covered p (spine g ts) (spine h us) =
      on_cond Covered (is_flexible ys g || is_flexible ys h) None (Some (cond (same_head g h) (parts (paired p ts us)) clash)) (λ e. tt) (λ e. go (same_head g h))
    where
      go : (b : Bool) → Covered (cond b (parts (paired p ts us)) clash)
      go true = tt
      go false = tt

  rule_covered : (e : Equation Hint) → OnResult Covered (rule x cells ys e)
  rule_covered e =
      on_or_else Covered (equal_sides e) _ (on_cond Covered (same_term e.left e.right) (Some (parts [])) None (λ f. tt) (λ f. tt))
      (on_or_else Covered (bodies e.place e.left e.right) _ (bodies_covered e.place e.left e.right)
      (on_or_else Covered (rigid_heads ys e.place e.left e.right) _ (heads_covered e.place e.left e.right)
      (on_or_else Covered (either_way x cells ys (pattern_and_rigid x cells ys) e) _
      (on_or_else Covered (pattern_and_rigid x cells ys e.left e.right) (pattern_and_rigid x cells ys e.right e.left) (rigid_covered e.left e.right) (rigid_covered e.right e.left))
      (on_or_else Covered (one_variable x cells ys e.left e.right) _ (one_covered e.left e.right)
      (on_or_else Covered (two_variables x cells ys e.left e.right) (two_variables x cells ys e.right e.left) (two_covered e.left e.right) (two_covered e.right e.left))))))

  found_covered : (e : Equation Hint) (es : List (Equation Hint)) (r : Option (Result Hint)) (o : Option (Found Hint)) → OnResult Covered r → OnFound x cells ys (λ f. Covered f.result) o → OnFound x cells ys (λ f. Covered f.result) (found_at e es r o)
  found_covered e es None None a b = tt
  found_covered e es None (Some f) a b = b
  found_covered e es (Some r) o a b = a

  first_covered : (es : List (Equation Hint)) → OnFound x cells ys (λ f. Covered f.result) (first_found (rule x cells ys) es)
  first_covered [] = tt
  first_covered (e ∷ es) = found_covered e es (rule x cells ys e) (first_found (rule x cells ys) es) (rule_covered e) (first_covered es)

module _ {Hint : Type 0} (x : Hint) (cells : List (Cell Hint)) (ys : List (Variable ℕ)) (known : AreKnown cells ys) where
  abbrev Fine : Result Hint → Type 0
  Fine clash = Unit {0}
  Fine (parts es) = Unit {0}
  Fine (replaced c) = KeysFine (length cells) ys c

  first_fine : (es : List (Equation Hint)) → OnFound x cells ys (λ f. Fine f.result) (first_found (rule x cells ys) es)
  first_fine es = first_once x cells ys known es

-- WHERE A RUN STANDS: what was flexible at first, or was made since, is flexible or replaced, and not both
pub record Keyed {Hint : Type 0} (first : List (Cell Hint)) (ys : List (Variable ℕ)) (s : State Hint) : Type 0 where
  pub front : Grows first s.cells
  pub known : AreKnown s.cells s.flexible
  pub low : AreKnown s.cells (keys s.pairs)
  pub gone : (y : Variable ℕ) → holds (keys s.pairs) y ≡ true → holds s.flexible y ≡ true → ⊥
  pub each : (y : Variable ℕ) → (holds ys y ≡ true) ⊎ ((length first ≤ y.name) × IsCell s.cells y) → (holds s.flexible y ≡ true) ⊎ (holds (keys s.pairs) y ≡ true)

module _ {Hint : Type 0} (x : Hint) (first : List (Cell Hint)) (ys : List (Variable ℕ)) where
  pub keyed_first : (es : List (Equation Hint)) → AreKnown first ys → Keyed first ys (record { equations = es; cells = first; flexible = ys; pairs = [] })
  keyed_first es known = record {
    front = grows_none first;
    known = known;
    low = λ y e. absurd (false≢true e);
    gone = λ y e f. false≢true e;
    each = λ y is. elim is [ inl h ↦ inl h | inr a ↦ absurd (none_behind x first ys y a) ];
  }

  replaced_keyed : (s : State Hint) (es : List (Equation Hint)) (c : Change Hint) → Keyed first ys s → KeysFine (length s.cells) s.flexible c → Covers s.cells s.flexible c
      → Keyed first ys (record { equations = es; cells = c.cells; flexible = c.flexible; pairs = composition same_number s.pairs c.pairs })
  replaced_keyed s es c k f v = record {
    front = grows_then first s.cells c.cells k.front v.front;
    known = λ y e. below y (f.left y e);
    low = λ y e. elim (split y e) [ inl a ↦ (let low = k.low y a in omega (arith, low, f.longer)) | inr a ↦ below y (f.replaced y a) ];
    gone = λ y e g. elim (split y e) [ inl a ↦ apart_from y a (f.left y g) | inr a ↦ f.gone y a g ];
    each = λ y is. elim is [
      | inl h ↦ then y (k.each y (inl h))
      | inr a ↦ elim (cases_lt y.name (length s.cells)) [
        | inl l ↦ then y (k.each y (inr (a.0, front_cell s.cells v.front.0 y.name y.type (subst (λ cs. IsCell cs y) v.front.1 a.1) l)))
        | inr l ↦ on y (v.each y (inr (omega (arith, l), a.1)))
      ]
    ];
  }
    where
      split : (y : Variable ℕ) → holds (keys (composition same_number s.pairs c.pairs)) y ≡ true → (holds (keys s.pairs) y ≡ true) ⊎ (holds (keys c.pairs) y ≡ true)
      split y e = not_held (keys s.pairs) (keys c.pairs) y (subst (λ l. holds l y ≡ true) (keys-composition s.pairs c.pairs) e)

      below : (y : Variable ℕ) → Comes (length s.cells) s.flexible (length c.cells) y → y.name < length c.cells
      below y (inl a) = let low = k.known y a in omega (arith, low, f.longer)
      below y (inr a) = a.1

      apart_from : (y : Variable ℕ) → holds (keys s.pairs) y ≡ true → Comes (length s.cells) s.flexible (length c.cells) y → ⊥
      apart_from y a (inl b) = k.gone y a b
      apart_from y a (inr b) = let low = k.low y a in let high = b.0 in absurd (omega (arith, low, high))

      on : (y : Variable ℕ) → (holds c.flexible y ≡ true) ⊎ (holds (keys c.pairs) y ≡ true) → (holds c.flexible y ≡ true) ⊎ (holds (keys (composition same_number s.pairs c.pairs)) y ≡ true)
      on y (inl a) = inl a
      on y (inr a) = inr (key_behind s.pairs c.pairs y a)

      then : (y : Variable ℕ) → (holds s.flexible y ≡ true) ⊎ (holds (keys s.pairs) y ≡ true) → (holds c.flexible y ≡ true) ⊎ (holds (keys (composition same_number s.pairs c.pairs)) y ≡ true)
      then y (inl a) = on y (v.each y (inl a))
      then y (inr a) = inr (key_front s.pairs c.pairs y a)

  moved : (m q : State Hint) → goes_on m ≡ goes_on q → Keyed first ys m → Keyed first ys q
  moved m q e l = let equal : m ≡ q = cc in subst (Keyed first ys) equal l

  carried_keyed : (s q : State Hint) (k : Keyed first ys s) (f : Found Hint) (g : Result Hint) → Fine x s.cells s.flexible k.known g → Covered x s.cells s.flexible g → carried s f g ≡ goes_on q → Keyed first ys q
  carried_keyed s q k f clash h v e = absurd (let both : finished apart ≡ goes_on q = e in cc)
  carried_keyed s q k f (parts es) h v e =
      moved (record { equations = f.before ++ es ++ f.behind; cells = s.cells; flexible = s.flexible; pairs = s.pairs }) q e
      (record { front = k.front; known = k.known; low = k.low; gone = k.gone; each = k.each })
  carried_keyed s q k f (replaced c) h v e =
      moved (record { equations = map (image_of c.pairs) (f.before ++ f.behind); cells = c.cells; flexible = c.flexible; pairs = composition same_number s.pairs c.pairs }) q e
      (replaced_keyed s (map (image_of c.pairs) (f.before ++ f.behind)) c k h v)

  by_keyed : (s q : State Hint) (k : Keyed first ys s) (o : Option (Found Hint)) → OnFound x s.cells s.flexible (λ f. Fine x s.cells s.flexible k.known f.result) o → OnFound x s.cells s.flexible (λ f. Covered x s.cells s.flexible f.result) o
      → next_by s o ≡ goes_on q → Keyed first ys q
  by_keyed s q k None h v e = absurd (let both : finished (ending s s.equations) ≡ goes_on q = e in cc)
  by_keyed s q k (Some f) h v e = carried_keyed s q k f f.result h v e

  -- A STEP KEEPS IT
  pub next_keyed : (s q : State Hint) → Keyed first ys s → next x s ≡ goes_on q → Keyed first ys q
  next_keyed s q k e =
      by_keyed s q k (first_found (rule x s.cells s.flexible) s.equations) (first_fine x s.cells s.flexible k.known s.equations) (first_covered x s.cells s.flexible s.equations) e

  -- the last step changes nothing
  pub last_keyed : (s r : State Hint) → Keyed first ys s → next x s ≡ finished (unified r.cells r.pairs) → r.flexible ≡ s.flexible → Keyed first ys r
  last_keyed s r k e still = by (first_found (rule x s.cells s.flexible) s.equations) e
    where
      same : s.cells ≡ r.cells → s.pairs ≡ r.pairs → Keyed first ys r
      same cells pairs =
          let here : Keyed first ys (record { equations = r.equations; cells = s.cells; flexible = s.flexible; pairs = s.pairs }) =
          record { front = k.front; known = k.known; low = k.low; gone = k.gone; each = k.each } in
          let a : Keyed first ys (record { equations = r.equations; cells = r.cells; flexible = s.flexible; pairs = s.pairs }) =
          subst (λ l. Keyed first ys (record { equations = r.equations; cells = l; flexible = s.flexible; pairs = s.pairs })) cells here in
          let b : Keyed first ys (record { equations = r.equations; cells = r.cells; flexible = r.flexible; pairs = s.pairs }) =
          subst (λ l. Keyed first ys (record { equations = r.equations; cells = r.cells; flexible = l; pairs = s.pairs })) (sym still) a in
          subst (λ l. Keyed first ys (record { equations = r.equations; cells = r.cells; flexible = r.flexible; pairs = l })) pairs b

      at_end : (es : List (Equation Hint)) → finished (ending s es) ≡ finished (unified r.cells r.pairs) → Keyed first ys r
      at_end [] f = let cells : s.cells ≡ r.cells = cc in let pairs : s.pairs ≡ r.pairs = cc in same cells pairs
      at_end (e ∷ es) f = absurd (cc)

      by_result : (f : Found Hint) (g : Result Hint) → carried s f g ≡ finished (unified r.cells r.pairs) → Keyed first ys r
      by_result f clash e = absurd (cc)
      by_result f (parts es) e = absurd (cc)
      by_result f (replaced c) e = absurd (cc)

      by : (o : Option (Found Hint)) → next_by s o ≡ finished (unified r.cells r.pairs) → Keyed first ys r
      by None e = at_end s.equations e
      by (Some f) e = by_result f f.result e
