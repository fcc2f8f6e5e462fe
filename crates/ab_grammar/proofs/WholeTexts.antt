-- What a reader of a form finds at the front of all tokens says whether they are a text of the form.
use Rattle.std.proofs.Common.{◌≡◌, ℕ, zero, suc, ◌<◌, ◌≤◌, List, [], ◌∷◌, ◌++◌, Option, Some, length, take, drop, refl, ap, sym, ◌∙◌, subst, arith, append_assoc, append-nil, take-append-drop, inl, inr, ◌⊎◌}
use Rattle.std.proofs.lemmas.List.{append_cancel_left, append_cancel_right}
use Rattle.ab_grammar.specs.Token.{Token}
use Rattle.ab_grammar.specs.Nesting.{Spot}
use Rattle.ab_grammar.specs.Language.{tokens_of, Accepted, SyntaxAt, TooNestedAt}
use Rattle.ab_grammar.proofs.Following.{first, led_by}
use Rattle.ab_grammar.proofs.Reading.{ReadsOff, StopsAt, NestsAt}
use Rattle.ab_grammar.proofs.Lists.{tokens_of-append}

-- what stands before a place
before_place : (ts us : List Token) (i : ℕ) → ts ≡ us ++ drop i ts → us ≡ take i ts
before_place ts us i e = append_cancel_right us (take i ts) (drop i ts) (sym e ∙ sym (take-append-drop i ts))

-- one token more
one_more_token : (ts : List Token) (i : ℕ) → i < length ts → (k : Token) × (first (drop i ts) ≡ Some k) × (take (suc i) ts ≡ take i ts ++ k ∷ [])
one_more_token [] i h = absurd (omega arith)
one_more_token (t ∷ ts) zero h = (t, refl, refl)
one_more_token (t ∷ ts) (suc i) h = let m = one_more_token ts i (omega arith) in (m.0, m.1, ap (λ (w : List Token). t ∷ w) m.2)

none_left : (ts : List Token) → drop (length ts) ts ≡ []
none_left [] = refl
none_left (t ∷ ts) = none_left ts

below_or_at : (i n : ℕ) → i ≤ n → (i < n) ⊎ (i ≡ n)
below_or_at i n h = search arith

module _ {A : Type 0} (G : List Spot → A → Type 0) (F : List Token → Type 0) (ends : F []) (ts : List Token) where
  -- all was read
  pub accepted : (a : A) → ReadsOff G F ts a [] → Accepted G ts a
  accepted a p = record { read = p.read; tokens = sym (p.tokens ∙ append-nil (tokens_of p.read)); shallow = p.shallow; text = p.reads.is }

  -- a text that begins with the tokens up to a place and the one behind it
  goes_beyond : (read w : List Spot) (zs : List Token) (i : ℕ) → i < length ts → tokens_of read ≡ take i ts → tokens_of w ≡ take (suc i) ts ++ zs → tokens_of w ++ [] ≡ tokens_of read ++ led_by (first (drop i ts)) zs
  goes_beyond read w zs i h e f =
      let m = one_more_token ts i h in
      append-nil (tokens_of w) ∙ f ∙ ap (λ (v : List Token). v ++ zs) (m.2 ∙ ap (λ (v : List Token). v ++ m.0 ∷ []) (sym e)) ∙ append_assoc (tokens_of read) (m.0 ∷ []) zs
      ∙ ap (λ (o : Option Token). tokens_of read ++ led_by o zs) (sym m.1)

  no_longer : (us zs : List Token) (k : Token) → us ≡ us ++ k ∷ zs → ⊥
  no_longer us zs k e = let bad : [] ≡ k ∷ zs = append_cancel_left us [] (k ∷ zs) (append-nil us ∙ e) in absurd (cc)

  -- a text was read, and tokens are left
  pub refused : (a : A) (i : ℕ) → i < length ts → ReadsOff G F ts a (drop i ts) → SyntaxAt G ts i
  refused a i h p =
      let e : tokens_of p.read ≡ take i ts = before_place ts (tokens_of p.read) i p.tokens in
      record {
        read = p.read;
        tokens = e;
        shallow = p.shallow;
        begins = record { rest = []; value = a; text = subst (λ (w : List Spot). G w a) (sym (append-nil p.read)) p.reads.is };
        none = inl (
          h,
          λ w b zs g f.
              let q = p.reads.only w b [] zs g ends (goes_beyond p.read w zs i h e f) in
              let m = one_more_token ts i h in
              no_longer (tokens_of p.read) zs m.0 (sym (ap tokens_of q.0) ∙ f ∙ ap (λ (v : List Token). v ++ zs) (m.2 ∙ ap (λ (v : List Token). v ++ m.0 ∷ []) (sym e)) ∙ append_assoc (tokens_of p.read) (m.0 ∷ []) zs),
        );
      }

  pub stopped : (i : ℕ) → i ≤ length ts → StopsAt G F ts (drop i ts) → SyntaxAt G ts i
  stopped i h p =
      let e : tokens_of p.read ≡ take i ts = before_place ts (tokens_of p.read) i p.tokens in
      record { read = p.read; tokens = e; shallow = p.shallow; begins = p.fails.begins; none = by_place e (below_or_at i (length ts) h) }
    where
      by_place : tokens_of p.read ≡ take i ts → (i < length ts) ⊎ (i ≡ length ts)
          → ((i < length ts) × ((w : List Spot) (b : A) (zs : List Token) → G w b → tokens_of w ≡ take (suc i) ts ++ zs → ⊥)) ⊎ ((i ≡ length ts) × ((w : List Spot) (b : A) → G w b → tokens_of w ≡ ts → ⊥))
      by_place e (inl k) = inl (k, λ w b zs g f. p.fails.none w b [] zs g ends (goes_beyond p.read w zs i k e f))
      by_place e (inr k) = inr (
        k,
        λ w b g f.
            let d : drop i ts ≡ [] = ap (λ n. drop n ts) k ∙ none_left ts in
            p.fails.none w b [] [] g ends (append-nil (tokens_of w) ∙ f ∙ p.tokens ∙ ap (λ (v : List Token). tokens_of p.read ++ v) d ∙ ap (λ (v : List Token). tokens_of p.read ++ led_by (first v) []) (sym d)),
      )

  pub nested : (i : ℕ) → i < length ts → NestsAt G F ts (drop i ts) → TooNestedAt G ts i
  nested i h p =
      let e : tokens_of p.read ≡ take i ts = before_place ts (tokens_of p.read) i p.tokens in
      let m = one_more_token ts i h in
      let here : Some m.0 ≡ Some p.last.token = sym m.1 ∙ ap first p.next in
      let same : m.0 ≡ p.last.token = cc in
      record {
        read = p.read;
        last = p.last;
        within = h;
        tokens = tokens_of-append p.read (p.last ∷ []) ∙ ap (λ (v : List Token). v ++ p.last.token ∷ []) e ∙ ap (λ (t : Token). take i ts ++ t ∷ []) (sym same) ∙ sym m.2;
        shallow = p.shallow;
        deep = p.deep;
        begins = p.begins;
        only = λ w b zs g f. p.only w b [] zs g ends (goes_beyond p.read w zs i h e f ∙ ap (λ (o : Option Token). tokens_of p.read ++ led_by o zs) (ap first p.next));
      }
