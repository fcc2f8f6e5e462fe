-- What is read or refused of a form that is one of several, or the same texts with another value; and of one token.
use Rattle.std.proofs.Common.{◌≡◌, List, [], ◌∷◌, ◌++◌, Option, Some, All, refl, ap, sym, ◌∙◌, subst, lit≤}
use Rattle.std.proofs.lemmas.List.Elements.{All-nil, All-cons}
use Rattle.ab_grammar.specs.Token.{Token}
use Rattle.ab_grammar.specs.Nesting.{Spot, IsShallow, lone}
use Rattle.ab_grammar.specs.Language.{tokens_of, Begins, Key, the_key}
use Rattle.ab_grammar.proofs.Following.{first, led_by, Anything, Except, Showing, Without}
use Rattle.ab_grammar.proofs.Reading.{ReadsOff, StopsAt, Cause, ungrammatical, too_nested, RefusesAt}
use Rattle.ab_grammar.specs.CommandForms.{One, one}
use Rattle.ab_grammar.proofs.Lists.{first_led, begins_like}
use Rattle.ab_grammar.proofs.Joining.{Example}

-- fewer things may follow
module _ {A : Type 0} (G : List Spot → A → Type 0) (F E : List Token → Type 0) (less : (r : List Token) → E r → F r) (ks rest : List Token) where
  pub fewer_reads : (a : A) → ReadsOff G F ks a rest → ReadsOff G E ks a rest
  fewer_reads a p = record {
    read = p.read;
    shallow = p.shallow;
    tokens = p.tokens;
    reads = record { is = p.reads.is; only = λ w b r zs g k e. p.reads.only w b r zs g (less r k) e };
  }

  pub fewer_refuses : (c : Cause) → RefusesAt G F c ks rest → RefusesAt G E c ks rest
  fewer_refuses ungrammatical p = record {
    read = p.read;
    shallow = p.shallow;
    tokens = p.tokens;
    fails = record { begins = p.fails.begins; none = λ w b r zs g k e. p.fails.none w b r zs g (less r k) e };
  }
  fewer_refuses too_nested p = record {
    read = p.read;
    last = p.last;
    behind = p.behind;
    shallow = p.shallow;
    deep = p.deep;
    tokens = p.tokens;
    next = p.next;
    begins = p.begins;
    only = λ w b r zs g k e. p.only w b r zs g (less r k) e;
  }

-- G is the part of R whose texts, with what may follow them, begin with the next token; f makes R's value
module _ {A B : Type 0} (G : List Spot → A → Type 0) (R : List Spot → B → Type 0) (F : List Token → Type 0) (f : A → B) (ks : List Token)
    (to : (w : List Spot) (a : A) → G w a → R w (f a))
    (back : (w : List Spot) (b : B) (r : List Token) → R w b → F r → first (tokens_of w ++ r) ≡ first ks → (a : A) × G w a × (f a ≡ b)) where
  pub agree : (rest r zs : List Token) (w us : List Spot) → ks ≡ tokens_of us ++ rest → tokens_of w ++ r ≡ tokens_of us ++ led_by (first rest) zs → first (tokens_of w ++ r) ≡ first ks
  agree rest r zs w us t e = let like = begins_like ks rest zs us t in ap first (e ∙ like.1) ∙ first_led (first ks) like.0

  pub chosen_reads : (a : A) (rest : List Token) → ReadsOff G F ks a rest → ReadsOff R F ks (f a) rest
  chosen_reads a rest p = record {
    read = p.read;
    shallow = p.shallow;
    tokens = p.tokens;
    reads = record {
      is = to (p.read) a (p.reads.is);
      only = λ w b r zs g k e.
          let h = back w b r g k (agree rest r zs w (p.read) (p.tokens) e) in
          let one = p.reads.only w (h.0) r zs (h.1) k e in
          (one.0, sym (h.2) ∙ ap f (one.1));
    };
  }

  chosen_begins : (us : List Spot) → Begins G us → Begins R us
  chosen_begins us g = record { rest = g.rest; value = f (g.value); text = to (us ++ g.rest) (g.value) (g.text) }

  pub chosen_refuses : (c : Cause) (rest : List Token) → RefusesAt G F c ks rest → RefusesAt R F c ks rest
  chosen_refuses ungrammatical rest p = record {
    read = p.read;
    shallow = p.shallow;
    tokens = p.tokens;
    fails = record {
      begins = chosen_begins (p.read) (p.fails.begins);
      none = λ w b r zs g k e.
          let h = back w b r g k (agree rest r zs w (p.read) (p.tokens) e) in
          p.fails.none w (h.0) r zs (h.1) k e;
    };
  }
  chosen_refuses too_nested rest p = record {
    read = p.read;
    last = p.last;
    behind = p.behind;
    shallow = p.shallow;
    deep = p.deep;
    tokens = p.tokens;
    next = p.next;
    begins = chosen_begins (p.read ++ p.last ∷ []) (p.begins);
    only = λ w b r zs g k e.
        let here : Some p.last.token ≡ first rest = sym (ap first (p.next)) in
        let h = back w b r g k (agree rest r zs w (p.read) (p.tokens) (e ∙ ap (λ (t : Option Token). tokens_of (p.read) ++ led_by t zs) here)) in
        p.only w (h.0) r zs (h.1) k e;
  }

-- nothing is read where no text of G but the empty one begins so
module _ {A : Type 0} (G : List Spot → A → Type 0) (F : List Token → Type 0) (ks : List Token) (a : A) where
  pub nothing_reads : G [] a → ((w : List Spot) (b : A) (r : List Token) → G w b → F r → first (tokens_of w ++ r) ≡ first ks → (w ≡ []) × (b ≡ a)) → ReadsOff G F ks a ks
  nothing_reads g n = record {
    read = [];
    shallow = All-nil IsShallow;
    tokens = refl;
    reads = record { is = g; only = λ w b r zs h k e. n w b r h k (ap first e ∙ first_led (first ks) zs) };
  }

-- nothing of G begins with the next token
module _ {A : Type 0} (G : List Spot → A → Type 0) (F : List Token → Type 0) (ks : List Token) where
  pub nothing_begins : Example G → ((w : List Spot) (b : A) (r : List Token) → G w b → F r → first (tokens_of w ++ r) ≡ first ks → ⊥) → StopsAt G F ks ks
  nothing_begins x n = record {
    read = [];
    shallow = All-nil IsShallow;
    tokens = refl;
    fails = record {
      begins = record { rest = x.spots; value = x.value; text = x.text };
      none = λ w b r zs h k e. n w b r h k (ap first e ∙ first_led (first ks) zs);
    };
  }

lone_shallow : (k : Token) → All IsShallow (lone k ∷ [])
lone_shallow k = All-cons IsShallow (lone k) [] (lit≤ tt) (All-nil IsShallow)

-- one token
module _ {A : Type 0} (Shows : Token → A → Type 0) where
  pub one_shown : (w : List Spot) (b : A) (r : List Token) → One Shows w b → Showing Shows b (tokens_of w ++ r)
  one_shown _ _ r (one {k = k} s) = (k, refl, s)

  -- what is shown is shown by the token that comes next
  pub shown_by : (k : Token) (a : A) (r : List Token) → Showing Shows a r → first r ≡ Some k → Shows k a
  shown_by k a r s e =
      let q : Some s.0 ≡ Some k = sym s.1 ∙ e in
      let same : s.0 ≡ k = cc in
      subst (λ (t : Token). Shows t a) same s.2

  one_only : (k : Token) (a : A) → ((b : A) → Shows k b → b ≡ a) → (w : List Spot) (b : A) (r zs : List Token) → One Shows w b → tokens_of w ++ r ≡ k ∷ zs → (w ≡ lone k ∷ []) × (b ≡ a)
  one_only k a n _ _ r zs (one {k = j} {a = b} s) e =
      let same : j ≡ k = cc in
      (ap (λ (t : Token). lone t ∷ []) same, n b (subst (λ (t : Token). Shows t b) same s))

  pub one_reads : (k : Token) (a : A) (rest : List Token) → Shows k a → ((b : A) → Shows k b → b ≡ a) → ReadsOff (One Shows) Anything (k ∷ rest) a rest
  one_reads k a rest s n = record {
    read = lone k ∷ [];
    shallow = lone_shallow k;
    tokens = refl;
    reads = record { is = one s; only = λ w b r zs g f e. one_only k a n w b r (led_by (first rest) zs) g e };
  }

  pub one_stops : (ks : List Token) → Example (One Shows) → Without Shows ks → StopsAt (One Shows) Anything ks ks
  one_stops ks x n = nothing_begins (One Shows) Anything ks x (λ w b r g f e. let s = one_shown w b r g in n s.0 b (sym e ∙ s.1) s.2)

-- a token that is asked for
module _ (k : Token) where
  key_only : (w : List Spot) (b : Unit {0}) (r zs : List Token) → Key k w b → tokens_of w ++ r ≡ k ∷ zs → (w ≡ lone k ∷ []) × (b ≡ tt)
  key_only _ _ r zs the_key e = (refl, refl)

  pub key_reads : (rest : List Token) → ReadsOff (Key k) Anything (k ∷ rest) tt rest
  key_reads rest = record {
    read = lone k ∷ [];
    shallow = lone_shallow k;
    tokens = refl;
    reads = record { is = the_key; only = λ w b r zs g f e. key_only w b r (led_by (first rest) zs) g e };
  }

  pub key_begins : (w : List Spot) (b : Unit {0}) (r : List Token) → Key k w b → first (tokens_of w ++ r) ≡ Some k
  key_begins _ _ r the_key = refl

  pub key_example : Example (Key k)
  key_example = record { spots = lone k ∷ []; value = tt; text = the_key }

  pub key_stops : (ks : List Token) → Except k ks → StopsAt (Key k) Anything ks ks
  key_stops ks n = nothing_begins (Key k) Anything ks key_example (λ w b r g f e. n (sym e ∙ key_begins w b r g))
