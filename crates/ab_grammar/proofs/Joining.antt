-- What is read or refused of two forms, one behind the other.
use Rattle.std.proofs.Common.{◌≡◌, List, [], ◌∷◌, ◌++◌, Option, Some, ap, sym, ◌∙◌, subst, append_assoc}
use Rattle.std.proofs.lemmas.List.Elements.{All-append}
use Rattle.ab_grammar.specs.Token.{Token}
use Rattle.ab_grammar.specs.Nesting.{Spot, IsShallow}
use Rattle.ab_grammar.specs.Language.{tokens_of, Begins}
use Rattle.ab_grammar.proofs.Following.{first, led_by, Follow, follow}
use Rattle.ab_grammar.proofs.Reading.{Read, Fails, ReadsOff, NestsAt, Cause, ungrammatical, too_nested, RefusesAt}
use Rattle.ab_grammar.specs.CommandForms.{Joined, joined}
use Rattle.ab_grammar.proofs.Lists.{begins_like, cut_in_two, regroup, cancel}

-- some text of a form
pub record Example {A : Type 0} (G : List Spot → A → Type 0) : Type 0 where
  pub spots : List Spot
  pub value : A
  pub text : G spots value

module _ {A B C : Type 0} (f : A → B → C) (G : List Spot → A → Type 0) (H : List Spot → B → Type 0) (F : List Token → Type 0) where
  -- a text of both that agrees with what was read of G begins with just that
  first_part : (ks ms rest : List Token) (us vs : List Spot) (a : A) → ms ≡ tokens_of vs ++ rest → Read G (Follow H F) us a (first ms) → (u v : List Spot) (c : A) (d : B) (r zs : List Token) → G u c → H v d → F r
      → tokens_of (u ++ v) ++ r ≡ tokens_of us ++ (tokens_of vs ++ led_by (first rest) zs) → (u ≡ us) × (c ≡ a) × (tokens_of v ++ r ≡ tokens_of vs ++ led_by (first rest) zs)
  first_part ks ms rest us vs a m p u v c d r zs g h k e =
      let like = begins_like ms rest zs vs m in
      let moved : tokens_of u ++ (tokens_of v ++ r) ≡ tokens_of us ++ (tokens_of vs ++ led_by (first rest) zs) = sym (regroup u v r) ∙ e in
      let same = p.only u c (tokens_of v ++ r) (like.0) g (follow h k) (moved ∙ ap (λ (w : List Token). tokens_of us ++ w) (like.1)) in
      (same.0, same.1, cancel us v r _ (ap (λ (w : List Spot). tokens_of w ++ (tokens_of v ++ r)) (sym (same.0)) ∙ moved))

  joined_only : (ks ms rest : List Token) (us vs : List Spot) (a : A) (b : B) → ms ≡ tokens_of vs ++ rest → Read G (Follow H F) us a (first ms) → Read H F vs b (first rest)
      → (w : List Spot) (c : C) (r zs : List Token) → Joined f G H w c → F r → tokens_of w ++ r ≡ tokens_of (us ++ vs) ++ led_by (first rest) zs → (w ≡ us ++ vs) × (c ≡ f a b)
  joined_only ks ms rest us vs a b m p q _ _ r zs (joined {us = u} {vs = v} {a = c} {b = d} g h) k e =
      let one = first_part ks ms rest us vs a m p u v c d r zs g h k (e ∙ regroup us vs (led_by (first rest) zs)) in
      let two = q.only v d r zs h k (one.2) in
      (ap (λ (x : List Spot). x ++ v) (one.0) ∙ ap (λ (x : List Spot). us ++ x) (two.0), ap (λ (x : A). f x d) (one.1) ∙ ap (λ (y : B). f a y) (two.1))

  pub joined_reads : (ks ms rest : List Token) (a : A) (b : B) → ReadsOff G (Follow H F) ks a ms → ReadsOff H F ms b rest → ReadsOff (Joined f G H) F ks (f a b) rest
  joined_reads ks ms rest a b p q = record {
    read = p.read ++ q.read;
    shallow = All-append IsShallow (p.read) (q.read) (p.shallow) (q.shallow);
    tokens = cut_in_two ks ms rest (p.read) (q.read) (p.tokens) (q.tokens);
    reads = record { is = joined (p.reads.is) (q.reads.is); only = joined_only ks ms rest (p.read) (q.read) a b (q.tokens) (p.reads) (q.reads) };
  }

  -- the second form is refused, behind a text of the first
  second_begins : (us vs : List Spot) (a : A) → G us a → Begins H vs → Begins (Joined f G H) (us ++ vs)
  second_begins us vs a g h = record {
    rest = h.rest;
    value = f a (h.value);
    text = subst (λ (w : List Spot). Joined f G H w (f a (h.value))) (sym (append_assoc us vs (h.rest))) (joined g (h.text));
  }

  second_none : (ks ms rest : List Token) (us vs : List Spot) (a : A) → ms ≡ tokens_of vs ++ rest → Read G (Follow H F) us a (first ms) → Fails H F vs (first rest)
      → (w : List Spot) (c : C) (r zs : List Token) → Joined f G H w c → F r → tokens_of w ++ r ≡ tokens_of (us ++ vs) ++ led_by (first rest) zs → ⊥
  second_none ks ms rest us vs a m p q _ _ r zs (joined {us = u} {vs = v} {a = c} {b = d} g h) k e =
      let one = first_part ks ms rest us vs a m p u v c d r zs g h k (e ∙ regroup us vs (led_by (first rest) zs)) in
      q.none v d r zs h k (one.2)

  second_only : (ks ms rest : List Token) (us : List Spot) (a : A) → Read G (Follow H F) us a (first ms) → (q : NestsAt H F ms rest)
      → (w : List Spot) (c : C) (r zs : List Token) → Joined f G H w c → F r → tokens_of w ++ r ≡ tokens_of (us ++ q.read) ++ q.last.token ∷ zs → (x : List Spot) × (w ≡ (us ++ q.read) ++ q.last ∷ x)
  second_only ks ms rest us a p q _ _ r zs (joined {us = u} {vs = v} {a = c} {b = d} g h) k e =
      let here : Some q.last.token ≡ first rest = sym (ap first (q.next)) in
      let one = first_part ks ms rest us (q.read) a (q.tokens) p u v c d r zs g h k (e ∙ regroup us (q.read) (q.last.token ∷ zs) ∙ ap (λ (t : Option Token). tokens_of us ++ (tokens_of (q.read) ++ led_by t zs)) here) in
      let two = q.only v d r zs h k (one.2 ∙ ap (λ (t : Option Token). tokens_of (q.read) ++ led_by t zs) (sym here)) in
      (two.0, ap (λ (x : List Spot). x ++ v) (one.0) ∙ ap (λ (x : List Spot). us ++ x) (two.1) ∙ sym (append_assoc us (q.read) (q.last ∷ two.0)))

  pub second_refuses : (c : Cause) (ks ms rest : List Token) (a : A) → ReadsOff G (Follow H F) ks a ms → RefusesAt H F c ms rest → RefusesAt (Joined f G H) F c ks rest
  second_refuses ungrammatical ks ms rest a p q = record {
    read = p.read ++ q.read;
    shallow = All-append IsShallow (p.read) (q.read) (p.shallow) (q.shallow);
    tokens = cut_in_two ks ms rest (p.read) (q.read) (p.tokens) (q.tokens);
    fails = record { begins = second_begins (p.read) (q.read) a (p.reads.is) (q.fails.begins); none = second_none ks ms rest (p.read) (q.read) a (q.tokens) (p.reads) (q.fails) };
  }
  second_refuses too_nested ks ms rest a p q = record {
    read = p.read ++ q.read;
    last = q.last;
    behind = q.behind;
    shallow = All-append IsShallow (p.read) (q.read) (p.shallow) (q.shallow);
    deep = q.deep;
    tokens = cut_in_two ks ms rest (p.read) (q.read) (p.tokens) (q.tokens);
    next = q.next;
    begins = subst (λ (w : List Spot). Begins (Joined f G H) w) (sym (append_assoc (p.read) (q.read) (q.last ∷ []))) (second_begins (p.read) (q.read ++ q.last ∷ []) a (p.reads.is) (q.begins));
    only = second_only ks ms rest (p.read) a (p.reads) q;
  }

  -- the first form is refused
  first_begins : (us : List Spot) → Example H → Begins G us → Begins (Joined f G H) us
  first_begins us h g = record {
    rest = g.rest ++ h.spots;
    value = f (g.value) (h.value);
    text = subst (λ (w : List Spot). Joined f G H w (f (g.value) (h.value))) (append_assoc us (g.rest) (h.spots)) (joined (g.text) (h.text));
  }

  first_none : (us : List Spot) (t : Option Token) → Fails G (Follow H F) us t → (w : List Spot) (c : C) (r zs : List Token) → Joined f G H w c → F r → tokens_of w ++ r ≡ tokens_of us ++ led_by t zs → ⊥
  first_none us t p _ _ r zs (joined {us = u} {vs = v} {a = c} {b = d} g h) k e = p.none u c (tokens_of v ++ r) zs g (follow h k) (sym (regroup u v r) ∙ e)

  first_only : (ks rest : List Token) (q : NestsAt G (Follow H F) ks rest)
      → (w : List Spot) (c : C) (r zs : List Token) → Joined f G H w c → F r → tokens_of w ++ r ≡ tokens_of (q.read) ++ q.last.token ∷ zs → (x : List Spot) × (w ≡ q.read ++ q.last ∷ x)
  first_only ks rest q _ _ r zs (joined {us = u} {vs = v} {a = c} {b = d} g h) k e =
      let one = q.only u c (tokens_of v ++ r) zs g (follow h k) (sym (regroup u v r) ∙ e) in
      (one.0 ++ v, ap (λ (x : List Spot). x ++ v) (one.1) ∙ append_assoc (q.read) (q.last ∷ one.0) v)

  pub first_refuses : (c : Cause) (ks rest : List Token) → Example H → RefusesAt G (Follow H F) c ks rest → RefusesAt (Joined f G H) F c ks rest
  first_refuses ungrammatical ks rest h q = record {
    read = q.read;
    shallow = q.shallow;
    tokens = q.tokens;
    fails = record { begins = first_begins (q.read) h (q.fails.begins); none = first_none (q.read) (first rest) (q.fails) };
  }
  first_refuses too_nested ks rest h q = record {
    read = q.read;
    last = q.last;
    behind = q.behind;
    shallow = q.shallow;
    deep = q.deep;
    tokens = q.tokens;
    next = q.next;
    begins = first_begins (q.read ++ q.last ∷ []) h (q.begins);
    only = first_only ks rest q;
  }
