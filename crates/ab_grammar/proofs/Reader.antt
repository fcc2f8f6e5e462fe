-- What the run of a machine says of a reader that stands in a longer list of tokens.
use Rattle.std.proofs.Common.{◌≡◌, ℕ, ◌≤◌, List, [], ◌∷◌, ◌++◌, Option, Some, None, refl, ap, sym, ◌∙◌, subst, append_assoc, append-nil, ◌⊎◌, inl, inr, arith}
use Rattle.std.specs.Prelude.{All}
use Rattle.std.proofs.lemmas.List.Elements.{All-append, All-push}
use Rattle.ab_grammar.specs.Token.{Token}
use Rattle.ab_grammar.specs.Nesting.{Layer, nest, depth_of, outside, Spot, spots_from, spots, limit, IsShallow}
use Rattle.ab_grammar.specs.Language.{tokens_of, Nested, nested, Begins}
use Rattle.ab_grammar.proofs.Following.{first, led_by, Follower, Followed}
use Rattle.ab_grammar.proofs.Reading.{Read, Fails, ReadsOff, StopsAt, NestsAt}
use Rattle.ab_grammar.proofs.Lists.{first_led, led_by_first}
use Rattle.ab_grammar.proofs.Machine.{run, found}
use Rattle.ab_grammar.proofs.Runs.{run_append, run_none}

-- the layers behind tokens
abbrev pub nests : List Layer → List Token → List Layer
nests ls [] = ls
nests ls (k ∷ ks) = nests (nest ls k) ks

abbrev pub spot_behind : List Layer → Token → Spot
spot_behind ls k = record { token = k; depth = depth_of (nest ls k) }

pub tokens_of-spots : (ls : List Layer) (ks : List Token) → tokens_of (spots_from ls ks) ≡ ks
tokens_of-spots ls [] = refl
tokens_of-spots ls (k ∷ ks) = ap (λ (w : List Token). k ∷ w) (tokens_of-spots (nest ls k) ks)

pub spots-append : (ls : List Layer) (ks js : List Token) → spots_from ls (ks ++ js) ≡ spots_from ls ks ++ spots_from (nests ls ks) js
spots-append ls [] js = refl
spots-append ls (k ∷ ks) js = ap (λ (w : List Spot). spot_behind ls k ∷ w) (spots-append (nest ls k) ks js)

pub nests-append : (ls : List Layer) (ks js : List Token) → nests ls (ks ++ js) ≡ nests (nests ls ks) js
nests-append ls [] js = refl
nests-append ls (k ∷ ks) js = nests-append (nest ls k) ks js

only_one : (s : Spot) → IsShallow s → All IsShallow (s ∷ [])
only_one s h = All-push IsShallow [] s (λ k d q. absurd (omega arith)) h

-- of two ways to cut a list, one cuts later
pub data Cut (w r us vs : List Token) : Type 0 where
  later : (x : List Token) → w ≡ us ++ x → vs ≡ x ++ r → Cut w r us vs
  sooner : (j : Token) (x : List Token) → us ≡ w ++ j ∷ x → r ≡ j ∷ x ++ vs → Cut w r us vs

cut_more : (k : Token) (w r us vs : List Token) → Cut w r us vs → Cut (k ∷ w) r (k ∷ us) vs
cut_more k w r us vs (later x e f) = later x (ap (λ (q : List Token). k ∷ q) e) f
cut_more k w r us vs (sooner j x e f) = sooner j x (ap (λ (q : List Token). k ∷ q) e) f

cut : (w r us vs : List Token) → w ++ r ≡ us ++ vs → Cut w r us vs
cut w r [] vs e = later w refl (sym e)
cut [] r (k ∷ us) vs e = sooner k us refl e
cut (j ∷ w) r (k ∷ us) vs e =
    let same : j ≡ k = cc in
    let rest : w ++ r ≡ us ++ vs = cc in
    subst (λ (q : Token). Cut (j ∷ w) r (q ∷ us) vs) same (cut_more j w r us vs (cut w r us vs rest))

module _ {S A : Type 0} (step : S → Token → Option S) (finish : S → Option A) (start : S) (T : List Token → A → Type 0)
    (reads : (ts : List Token) (a : A) → T ts a → found finish (run step (Some start) ts) ≡ Some a)
    (accepts : (ts : List Token) (a : A) → found finish (run step (Some start) ts) ≡ Some a → T ts a)
    (goes_on : (s : S) → (ks : List Token) × (a : A) × (found finish (run step (Some s) ks) ≡ Some a))
    (stops : (k : Token) → Follower (Some k) → (s : S) (a : A) → finish s ≡ Some a → step s k ≡ None) where
  abbrev go : List Token → Option S
  go ts = run step (Some start) ts

  -- the machine takes no more: the next token is none that it takes, or there is none
  abbrev Stuck : S → Option Token → Type 0
  Stuck s None = Unit {0}
  Stuck s (Some k) = step s k ≡ None

  follower_stuck : (k : Option Token) → Follower k → (s : S) (a : A) → finish s ≡ Some a → Stuck s k
  follower_stuck None f s a e = tt
  follower_stuck (Some k) f s a e = stops k f s a e

  -- a text that ends before the reader's place, where something follows, is not there
  too_soon : (o : Option S) (j : Token) (x w : List Token) (b : A) (s : S) → go w ≡ o → found finish o ≡ Some b → Follower (Some j) → go (w ++ j ∷ x) ≡ Some s → ⊥
  too_soon None j x w b s e f k h = absurd (cc)
  too_soon (Some q) j x w b s e f k h =
      let stop : step q j ≡ None = stops j k q b f in
      let none : go (w ++ j ∷ x) ≡ None = run_append step (Some start) w (j ∷ x) ∙ ap (λ (p : Option S). run step p (j ∷ x)) e ∙ ap (λ (p : Option S). run step p x) stop ∙ run_none step x in
      let bad : None ≡ Some s = sym none ∙ h in
      absurd (cc)

  module _ (us : List Token) (s : S) (there : go us ≡ Some s) where
    begins_so : Begins (Nested T) (spots us)
    begins_so =
        let r = goes_on s in
        record {
          rest = spots_from (nests outside us) (r.0);
          value = r.1;
          text = subst (λ (w : List Spot). Nested T w (r.1)) (spots-append outside us (r.0)) (nested (accepts (us ++ r.0) (r.1) (ap (found finish) (run_append step (Some start) us (r.0) ∙ ap (λ (q : Option S). run step q (r.0)) there) ∙ r.2)));
        }

    -- a text with what may follow it, that agrees with the tokens as far as they are known, has all that was read
    reaches : (vs w : List Token) (b : A) (r : List Token) → T w b → Followed r → w ++ r ≡ us ++ vs → (x : List Token) × (w ≡ us ++ x) × (vs ≡ x ++ r)
    reaches vs w b r d f e = from_cut (cut w r us vs e)
      where
        from_cut : Cut w r us vs → (x : List Token) × (w ≡ us ++ x) × (vs ≡ x ++ r)
        from_cut (later x p q) = (x, p, q)
        from_cut (sooner j x p q) = absurd (too_soon (go w) j x w b s refl (reads _ _ d) (subst Follower (ap first q) f) (ap go (sym p) ∙ there))

    plainly : (vs w r : List Token) → tokens_of (spots w) ++ r ≡ tokens_of (spots us) ++ vs → w ++ r ≡ us ++ vs
    plainly vs w r e =
        ap (λ (q : List Token). q ++ r) (sym (tokens_of-spots outside w)) ∙ e ∙ ap (λ (q : List Token). q ++ vs) (tokens_of-spots outside us)

    too_far : (k : Token) → step s k ≡ None → (x : List Token) (b : A) → T (us ++ k ∷ x) b → ⊥
    too_far k stuck x b d =
        let none : go (us ++ k ∷ x) ≡ None = run_append step (Some start) us (k ∷ x) ∙ ap (λ (q : Option S). run step q (k ∷ x)) there ∙ ap (λ (q : Option S). run step q x) stuck ∙ run_none step x in
        let bad : None ≡ Some b = ap (found finish) (sym none) ∙ reads _ _ d in
        absurd (cc)

    -- a text with more than was read goes on by the next token
    no_more : (k : Option Token) → Stuck s k → (j : Token) (x r zs : List Token) (b : A) → T (us ++ j ∷ x) b → led_by k zs ≡ j ∷ x ++ r → ⊥
    no_more None stuck j x r zs b d e = absurd (cc)
    no_more (Some k) stuck j x r zs b d e =
        let same : j ≡ k = cc in
        too_far k stuck x b (subst (λ (i : Token). T (us ++ i ∷ x) b) same d)

    module _ (k : Option Token) (stuck : Stuck s k) where
      -- each such text ends at the reader's place
      ends_here : (w : List Token) (b : A) (r zs : List Token) → T w b → Followed r → w ++ r ≡ us ++ led_by k zs → (w ≡ us) × (r ≡ led_by k zs)
      ends_here w b r zs d f e = from_rest (reaches (led_by k zs) w b r d f e)
        where
          from_rest : (x : List Token) × (w ≡ us ++ x) × (led_by k zs ≡ x ++ r) → (w ≡ us) × (r ≡ led_by k zs)
          from_rest ([], p, q) = (p ∙ append-nil us, sym q)
          from_rest (j ∷ x, p, q) = absurd (no_more k stuck j x r zs b (subst (λ (v : List Token). T v b) p d) q)

      read_only : (a : A) → finish s ≡ Some a → (w : List Spot) (b : A) (r zs : List Token) → Nested T w b → Followed r → tokens_of w ++ r ≡ tokens_of (spots us) ++ led_by k zs → (w ≡ spots us) × (b ≡ a)
      read_only a e _ b r zs (nested {ts = w} d) f q =
          let h = ends_here w b r zs d f (plainly (led_by k zs) w r q) in
          let at : found finish (go w) ≡ Some a = ap (λ (v : List Token). found finish (go v)) (h.0) ∙ ap (found finish) there ∙ e in
          let one = reads w b d in
          (ap spots (h.0), (let both : Some b ≡ Some a = sym one ∙ at in cc))

      reads_here : (a : A) → finish s ≡ Some a → Read (Nested T) Followed (spots us) a k
      reads_here a e = record { is = nested (accepts us a (ap (found finish) there ∙ e)); only = read_only a e }

      none_here : (finish s ≡ None) ⊎ (Follower k → ⊥) → (w : List Spot) (b : A) (r zs : List Token) → Nested T w b → Followed r → tokens_of w ++ r ≡ tokens_of (spots us) ++ led_by k zs → ⊥
      none_here (inl n) _ b r zs (nested {ts = w} d) f e =
          let h = ends_here w b r zs d f (plainly (led_by k zs) w r e) in
          let bad : None ≡ Some b = sym n ∙ ap (found finish) (sym there) ∙ ap (λ (q : List Token). found finish (go q)) (sym (h.0)) ∙ reads _ _ d in
          absurd (cc)
      none_here (inr n) _ b r zs (nested {ts = w} d) f e =
          let h = ends_here w b r zs d f (plainly (led_by k zs) w r e) in
          n (subst Follower (ap first h.1 ∙ first_led k zs) f)

      fails_here : (finish s ≡ None) ⊎ (Follower k → ⊥) → Fails (Nested T) Followed (spots us) k
      fails_here n = record { begins = begins_so; none = none_here n }

  -- two texts, each with what may follow it, that agree as tokens are one, and have one value
  pub sure : (u v : List Spot) (a b : A) (r s : List Token) → Nested T u a → Nested T v b → Followed r → Followed s → tokens_of u ++ r ≡ tokens_of v ++ s → (u ≡ v) × (a ≡ b)
  sure u _ a b r s g (nested {ts = w} d) f k e = from_state (go w) refl
    where
      from_state : (o : Option S) → go w ≡ o → (u ≡ spots w) × (a ≡ b)
      from_state None q = let bad : None ≡ Some b = ap (found finish) (sym q) ∙ reads w b d in absurd (cc)
      from_state (Some t) q =
          let fin : finish t ≡ Some b = ap (found finish) (sym q) ∙ reads w b d in
          let here = reads_here w t q (first s) (follower_stuck (first s) k t b fin) b fin in
          let led = led_by_first s in
          here.only u a r led.0 g f (e ∙ ap (λ (x : List Token). tokens_of (spots w) ++ x) led.1)

  module _ (us : List Token) (k : Token) (s t : S) (there : go us ≡ Some s) (taken : step s k ≡ Some t) where
    taken_to : go (us ++ k ∷ []) ≡ Some t
    taken_to = run_append step (Some start) us (k ∷ []) ∙ ap (λ (q : Option S). run step q (k ∷ [])) there ∙ taken

    last_spot : spots (us ++ k ∷ []) ≡ spots us ++ spot_behind (nests outside us) k ∷ []
    last_spot = spots-append outside us (k ∷ [])

    begins_deep : Begins (Nested T) (spots us ++ spot_behind (nests outside us) k ∷ [])
    begins_deep = subst (λ (w : List Spot). Begins (Nested T) w) last_spot (begins_so (us ++ k ∷ []) t taken_to)

    only_deep : (w : List Spot) (b : A) (r zs : List Token) → Nested T w b → Followed r → tokens_of w ++ r ≡ tokens_of (spots us) ++ k ∷ zs → (x : List Spot) × (w ≡ spots us ++ spot_behind (nests outside us) k ∷ x)
    only_deep _ b r zs (nested {ts = w} d) f e = from_rest (reaches us s there (k ∷ zs) w b r d f (plainly us s there (k ∷ zs) w r e))
      where
        from_rest : (x : List Token) × (w ≡ us ++ x) × (k ∷ zs ≡ x ++ r) → (x : List Spot) × (spots w ≡ spots us ++ spot_behind (nests outside us) k ∷ x)
        from_rest ([], p, q) =
            let here : w ≡ us = p ∙ append-nil us in
            absurd (too_soon (go w) k [] w b t refl (reads _ _ d) (subst Follower (ap first (sym q)) f) (ap (λ (v : List Token). go (v ++ k ∷ [])) here ∙ taken_to))
        from_rest (j ∷ x, p, q) =
            let same : j ≡ k = cc in (
              spots_from (nest (nests outside us) k) x,
              ap spots p ∙ spots-append outside us (j ∷ x) ∙ ap (λ (i : Token). spots us ++ spots_from (nests outside us) (i ∷ x)) same,
            )

  -- the tokens read so far, with the state and the layers behind them
  pub record SoFar (ks rest : List Token) (s : S) (ls : List Layer) : Type 0 where
    pub read : List Token
    pub tokens : ks ≡ read ++ rest
    pub state : go read ≡ Some s
    pub layers : ls ≡ nests outside read
    pub shallow : All IsShallow (spots read)

  pub at_start : (ks : List Token) → SoFar ks ks start outside
  at_start ks = record { read = []; tokens = refl; state = refl; layers = refl; shallow = λ k d h. absurd (omega arith) }

  module _ (ks rest : List Token) (s : S) (ls : List Layer) (so_far : SoFar ks rest s ls) where
    cut_spots : ks ≡ tokens_of (spots so_far.read) ++ rest
    cut_spots = so_far.tokens ∙ ap (λ (w : List Token). w ++ rest) (sym (tokens_of-spots outside so_far.read))

    read_here : (a : A) → Stuck s (first rest) → finish s ≡ Some a → ReadsOff (Nested T) Followed ks a rest
    read_here a e f = record { read = spots so_far.read; shallow = so_far.shallow; tokens = cut_spots; reads = reads_here so_far.read s so_far.state (first rest) e a f }

    stopped_here : Stuck s (first rest) → (finish s ≡ None) ⊎ (Follower (first rest) → ⊥) → StopsAt (Nested T) Followed ks rest
    stopped_here e f = record { read = spots so_far.read; shallow = so_far.shallow; tokens = cut_spots; fails = fails_here so_far.read s so_far.state (first rest) e f }

  -- at a token
  module _ (ks : List Token) (k : Token) (rest : List Token) (s : S) (ls : List Layer) (so_far : SoFar ks (k ∷ rest) s ls) where
    abbrev us : List Token
    us = so_far.read

    same_depth : (spot_behind (nests outside us) k).depth ≡ depth_of (nest ls k)
    same_depth = ap (λ (q : List Layer). depth_of (nest q k)) (sym so_far.layers)

    pub goes : (t : S) → step s k ≡ Some t → depth_of (nest ls k) ≤ limit → SoFar ks rest t (nest ls k)
    goes t e h = record {
      read = us ++ k ∷ [];
      tokens = so_far.tokens ∙ sym (append_assoc us (k ∷ []) rest);
      state = taken_to us k s t so_far.state e;
      layers = ap (λ (q : List Layer). nest q k) so_far.layers ∙ sym (nests-append outside us (k ∷ []));
      shallow = subst (λ (w : List Spot). All IsShallow w) (sym (last_spot us k s t so_far.state e))
          (All-append IsShallow (spots us) (spot_behind (nests outside us) k ∷ []) so_far.shallow (only_one (spot_behind (nests outside us) k) (subst (λ (n : ℕ). n ≤ limit) (sym same_depth) h)));
    }

    pub done : (a : A) → step s k ≡ None → finish s ≡ Some a → ReadsOff (Nested T) Followed ks a (k ∷ rest)
    done a e f = read_here ks (k ∷ rest) s ls so_far a e f

    pub wrong : step s k ≡ None → (finish s ≡ None) ⊎ (Follower (Some k) → ⊥) → StopsAt (Nested T) Followed ks (k ∷ rest)
    wrong e f = stopped_here ks (k ∷ rest) s ls so_far e f

    pub too_deep : (t : S) → step s k ≡ Some t → (depth_of (nest ls k) ≤ limit → ⊥) → NestsAt (Nested T) Followed ks (k ∷ rest)
    too_deep t e h = record {
      read = spots us;
      last = spot_behind (nests outside us) k;
      behind = rest;
      shallow = so_far.shallow;
      deep = λ b. h (subst (λ (n : ℕ). n ≤ limit) same_depth b);
      tokens = cut_spots ks (k ∷ rest) s ls so_far;
      next = refl;
      begins = begins_deep us k s t so_far.state e;
      only = only_deep us k s t so_far.state e;
    }

  -- at the end
  module _ (ks : List Token) (s : S) (ls : List Layer) (so_far : SoFar ks [] s ls) where
    pub done_at_end : (a : A) → finish s ≡ Some a → ReadsOff (Nested T) Followed ks a []
    done_at_end a f = read_here ks [] s ls so_far a tt f

    pub wrong_at_end : finish s ≡ None → StopsAt (Nested T) Followed ks []
    wrong_at_end n = stopped_here ks [] s ls so_far tt (inl n)
