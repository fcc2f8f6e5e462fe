-- The token that is blamed where tokens are refused for their depth is the first that is nested too deeply by the marks.
use Rattle.std.proofs.Common.{◌≡◌, ℕ, zero, suc, ◌+◌, ◌-◌, ◌<◌, ◌≤◌, List, [], ◌∷◌, ◌++◌, map, length, get_or, take, drop, All, Bool, true, false, if◌then◌else◌, refl, ap, sym, ◌∙◌, subst, arith, append_assoc, take-append-drop, length-append, length-take, ◌⊎◌, inl, inr, lt_of_not-le, not-le_of_lt}
use Rattle.std.proofs.Math.Seq.{take-append_seam}
use Rattle.std.proofs.lemmas.Bool.{cases_lt}
use Rattle.std.proofs.lemmas.List.{length-map, map-append, take-append-le, get_or_append_left}
use Rattle.std.proofs.lemmas.List.Elements.{All-nil, All-cons, All-head, All-tail, All-append, All-get_or}
use Rattle.ab_grammar.specs.declared.Infix.TheVariants.{Arrow}
use Rattle.ab_grammar.specs.Token.{Token, word, sign, left_paren, right_paren, backslash}
use Rattle.ab_grammar.specs.Tree.{Ty}
use Rattle.ab_grammar.specs.Grammar.{ReadsType, named_type, grouped_type, arrow_type, looser_type}
use Rattle.ab_grammar.specs.Nesting.{Spot, spots, spots_from, outside, limit, IsShallow, begins_with_backslash, blamed}
use Rattle.ab_grammar.specs.Language.{tokens_of, Nested, nested, Accepted, SyntaxAt, TooNestedAt}
use Rattle.ab_grammar.proofs.Reader.{tokens_of-spots, spots-append, nests}
use Rattle.ab_language_laws.specs.NestingMarks.{Alike, none, same, abstraction}
use Rattle.ab_language_laws.specs.FirstDeepToken.{IsAllowed, IsFirstDeep}

-- the first of some nestings that is above the limit

here : (n : ℕ) (ns : List ℕ) → limit < n → IsFirstDeep (n ∷ ns) 0
here n ns h = record { within = omega arith; above = h; before = All-nil IsAllowed }

later : (n : ℕ) (ns : List ℕ) (j : ℕ) → n ≤ limit → IsFirstDeep ns j → IsFirstDeep (n ∷ ns) (suc j)
later n ns j h f = record { within = (let w = f.within in omega arith); above = f.above; before = All-cons IsAllowed n (take j ns) h (f.before) }

first_allowed : (n : ℕ) (ns : List ℕ) (j : ℕ) → IsFirstDeep (n ∷ ns) (suc j) → n ≤ limit
first_allowed n ns j f = All-head IsAllowed n (take j ns) (f.before)

rest_deep : (n : ℕ) (ns : List ℕ) (j : ℕ) → IsFirstDeep (n ∷ ns) (suc j) → IsFirstDeep ns j
rest_deep n ns j f = record { within = (let w = f.within in omega arith); above = f.above; before = All-tail IsAllowed n (take j ns) (f.before) }

first_or_none : (ns : List ℕ) → All IsAllowed ns ⊎ ((j : ℕ) × IsFirstDeep ns j)
first_or_none [] = inl (All-nil IsAllowed)
first_or_none (n ∷ ns) = by_order (cases_lt limit n) (first_or_none ns)
  where
    by_order : (limit < n) ⊎ (n ≤ limit) → All IsAllowed ns ⊎ ((j : ℕ) × IsFirstDeep ns j) → All IsAllowed (n ∷ ns) ⊎ ((j : ℕ) × IsFirstDeep (n ∷ ns) j)
    by_order (inl h) r = inr (0, here n ns h)
    by_order (inr h) (inl all) = inl (All-cons IsAllowed n ns h all)
    by_order (inr h) (inr (j, f)) = inr (suc j, later n ns j h f)

-- the token that is told

is_one : (k : Token) (ks : List Token) → begins_with_backslash (k ∷ ks) ≡ true → k ≡ backslash
is_one backslash ks e = refl
is_one k ks e = absurd (cc)

told_more : (k : Token) (ks : List Token) (i : ℕ) → (i ≡ 0 → begins_with_backslash ks ≡ true → ⊥) → blamed (k ∷ ks) (suc i) ≡ suc (blamed ks i)
told_more k ks zero n = by_flag (begins_with_backslash ks) (n refl)
  where
    by_flag : (b : Bool) → (b ≡ true → ⊥) → (if b then 1 - 1 else 1) ≡ suc (if b then 0 - 1 else 0)
    by_flag true n = absurd (n refl)
    by_flag false n = refl
told_more k ks (suc i) n = by_flag (begins_with_backslash (drop (suc i) ks))
  where
    by_flag : (b : Bool) → (if b then suc (suc i) - 1 else suc (suc i)) ≡ suc (if b then suc i - 1 else suc i)
    by_flag true = omega arith
    by_flag false = refl

told_first : (k : Token) (ks : List Token) → blamed (k ∷ ks) 0 ≡ 0
told_first k ks = by_flag (begins_with_backslash (k ∷ ks))
  where
    by_flag : (b : Bool) → (if b then 0 - 1 else 0) ≡ 0
    by_flag true = refl
    by_flag false = refl

-- only a name stands in front of a backslash
not_first : {ks : List Token} {ns ms : List ℕ} → Alike ks ns ms → begins_with_backslash ks ≡ true → ⊥
not_first none e = absurd (cc)
not_first (same {k = k} {ks = ks} n h a) e = h (is_one k ks e)
not_first (abstraction x p n a) e = absurd (cc)

pub told_deep : {ks : List Token} {ns ms : List ℕ} → Alike ks ns ms → (i : ℕ) → IsFirstDeep ms i → IsFirstDeep ns (blamed ks i)
told_deep none i f = absurd (let w = f.within in omega arith)
told_deep (same {k = k} {ks = ks} {ns = ns} {ms = ms} n h a) zero f = subst (IsFirstDeep (n ∷ ns)) (sym (told_first k ks)) (here n ns (f.above))
told_deep (same {k = k} {ks = ks} {ns = ns} {ms = ms} n h a) (suc i) f =
    subst (IsFirstDeep (n ∷ ns)) (sym (told_more k ks i (λ z. not_first a))) (later n ns (blamed ks i) (first_allowed n ms i f) (told_deep a i (rest_deep n ms i f)))
told_deep (abstraction {ks = ks} {ns = ns} {ms = ms} x p n a) zero f = here (suc n) (suc n ∷ ns) (let h : limit < n = f.above in omega arith)
told_deep (abstraction {ks = ks} {ns = ns} {ms = ms} x p n a) (suc zero) f = here (suc n) (suc n ∷ ns) (f.above)
told_deep (abstraction {ks = ks} {ns = ns} {ms = ms} x p n a) (suc (suc i)) f =
    let g : IsFirstDeep (suc n ∷ ms) (suc i) = rest_deep n (suc n ∷ ms) (suc i) f in
    let d : IsFirstDeep (suc n ∷ suc n ∷ ns) (suc (suc (blamed ks i))) =
    later (suc n) (suc n ∷ ns) (suc (blamed ks i)) (first_allowed (suc n) ms i g) (later (suc n) ns (blamed ks i) (first_allowed (suc n) ms i g) (told_deep a i (rest_deep (suc n) ms i g))) in
    let t : blamed (word x p ∷ backslash ∷ ks) (suc (suc i)) ≡ suc (suc (blamed ks i)) = told_more (word x p) (backslash ∷ ks) (suc i) (λ z. absurd (cc)) ∙ ap suc (told_more backslash ks i (λ z. not_first a)) in
    subst (IsFirstDeep (suc n ∷ suc n ∷ ns)) (sym t) d

pub marks_allowed : {ks : List Token} {ns ms : List ℕ} → Alike ks ns ms → All IsAllowed ms → All IsAllowed ns
marks_allowed none h = All-nil IsAllowed
marks_allowed (same {ns = ns} {ms = ms} n q a) h = All-cons IsAllowed n ns (All-head IsAllowed n ms h) (marks_allowed a (All-tail IsAllowed n ms h))
marks_allowed (abstraction {ns = ns} {ms = ms} x p n a) h =
    let t = All-tail IsAllowed n (suc n ∷ ms) h in
    let s : suc n ≤ limit = All-head IsAllowed (suc n) ms t in
    All-cons IsAllowed (suc n) (suc n ∷ ns) s (All-cons IsAllowed (suc n) ns s (marks_allowed a (All-tail IsAllowed (suc n) ms t)))

pub depths_allowed : {ks : List Token} {ns ms : List ℕ} → Alike ks ns ms → All IsAllowed ns → All IsAllowed ms
depths_allowed none h = All-nil IsAllowed
depths_allowed (same {ns = ns} {ms = ms} n q a) h = All-cons IsAllowed n ms (All-head IsAllowed n ns h) (depths_allowed a (All-tail IsAllowed n ns h))
depths_allowed (abstraction {ns = ns} {ms = ms} x p n a) h =
    let t = All-tail IsAllowed (suc n) (suc n ∷ ns) h in
    let s : suc n ≤ limit = All-head IsAllowed (suc n) ns t in
    All-cons IsAllowed n (suc n ∷ ms) (omega arith) (All-cons IsAllowed (suc n) ms s (depths_allowed a (All-tail IsAllowed (suc n) ns t)))

-- each nesting by the marks is that of the same or of the next token by the tokens alone
same_or_next : {ks : List Token} {ns ms : List ℕ} → Alike ks ns ms → (j : ℕ) → (get_or ns j 0 ≡ get_or ms j 0) ⊎ (get_or ns j 0 ≡ get_or ms (suc j) 0)
same_or_next none j = inl refl
same_or_next (same n q a) zero = inl refl
same_or_next (same n q a) (suc j) = same_or_next a j
same_or_next (abstraction x p n a) zero = inr refl
same_or_next (abstraction x p n a) (suc zero) = inl refl
same_or_next (abstraction x p n a) (suc (suc j)) = same_or_next a j

-- where no token is a backslash both are one
abbrev pub IsOther : Token → Type 0
IsOther k = k ≡ backslash → ⊥

pub alike_same : {ks : List Token} {ns ms : List ℕ} → Alike ks ns ms → All IsOther ks → ns ≡ ms
alike_same none h = refl
alike_same (same {k = k} {ks = ks} n q a) h = ap (λ (w : List ℕ). n ∷ w) (alike_same a (All-tail IsOther k ks h))
alike_same (abstraction {ks = ks} x p n a) h = absurd (All-head IsOther backslash ks (All-tail IsOther (word x p) (backslash ∷ ks) h) refl)

pub told_itself : (ks : List Token) (i : ℕ) → All IsOther ks → blamed ks i ≡ i
told_itself ks i h = ap (λ b. if b then i - 1 else i) (no_backslash ks i h)
  where
    by_flag : (b : Bool) → (b ≡ true → ⊥) → b ≡ false
    by_flag true n = absurd (n refl)
    by_flag false n = refl

    no_backslash : (ks : List Token) (i : ℕ) → All IsOther ks → begins_with_backslash (drop i ks) ≡ false
    no_backslash [] zero h = refl
    no_backslash [] (suc i) h = refl
    no_backslash (k ∷ ks) zero h = by_flag (begins_with_backslash (k ∷ ks)) (λ e. All-head IsOther k ks h (is_one k ks e))
    no_backslash (k ∷ ks) (suc i) h = no_backslash ks i (All-tail IsOther k ks h)

pub type_other : {n : ℕ} {ts : List Token} {A : Ty} → ReadsType n ts A → All IsOther ts
type_other (named_type x p) = All-cons IsOther (word x p) [] (λ e. cc) (All-nil IsOther)
type_other (grouped_type {ts = ts} d) = All-cons IsOther left_paren (ts ++ right_paren ∷ []) (λ e. cc) (All-append IsOther ts (right_paren ∷ []) (type_other d) (All-cons IsOther right_paren [] (λ e. cc) (All-nil IsOther)))
type_other (arrow_type {ts = ts} {us = us} d e) = All-append IsOther ts (sign Arrow ∷ us) (type_other d) (All-cons IsOther (sign Arrow) us (λ e. cc) (type_other e))
type_other (looser_type d) = type_other d

-- what is told depends on the tokens up to the one that is refused
begins_alike : (k : Token) (ks js : List Token) → begins_with_backslash (k ∷ ks) ≡ begins_with_backslash (k ∷ js)
begins_alike backslash ks js = refl
begins_alike k ks js = refl

begins_there : (i : ℕ) (ts zs : List Token) → i < length ts → begins_with_backslash (drop i (take (suc i) ts ++ zs)) ≡ begins_with_backslash (drop i ts)
begins_there zero [] zs h = absurd (omega arith)
begins_there zero (t ∷ ts) zs h = begins_alike t zs ts
begins_there (suc i) [] zs h = absurd (omega arith)
begins_there (suc i) (t ∷ ts) zs h = begins_there i ts zs (omega arith)

pub told_there : (i : ℕ) (ts zs : List Token) → i < length ts → blamed (take (suc i) ts ++ zs) i ≡ blamed ts i
told_there i ts zs h = ap (λ b. if b then i - 1 else i) (begins_there i ts zs h)

-- spots and their nestings

abbrev depths : List Spot → List ℕ
depths = map (λ s. s.depth)

depths_shallow : (ss : List Spot) → All IsShallow ss → All IsAllowed (depths ss)
depths_shallow [] h = All-nil IsAllowed
depths_shallow (s ∷ ss) h = All-cons IsAllowed (s.depth) (depths ss) (All-head IsShallow s ss h) (depths_shallow ss (All-tail IsShallow s ss h))

spots_shallow : (ss : List Spot) → All IsAllowed (depths ss) → All IsShallow ss
spots_shallow [] h = All-nil IsShallow
spots_shallow (s ∷ ss) h = All-cons IsShallow s ss (All-head IsAllowed (s.depth) (depths ss) h) (spots_shallow ss (All-tail IsAllowed (s.depth) (depths ss) h))

deep_there : (us vs : List Spot) (s : Spot) → All IsShallow us → (IsShallow s → ⊥) → IsFirstDeep (depths (us ++ s ∷ vs)) (length us)
deep_there [] vs s h n = here (s.depth) (depths vs) (lt_of_not-le n)
deep_there (u ∷ us) vs s h n = later (u.depth) (depths (us ++ s ∷ vs)) (length us) (All-head IsShallow u us h) (deep_there us vs s (All-tail IsShallow u us h) n)

-- spots cut at the first that is nested too deeply
record CutAt (ss : List Spot) (i : ℕ) : Type 0 where
  read : List Spot
  last : Spot
  rest : List Spot
  whole : ss ≡ read ++ last ∷ rest
  count : length read ≡ i
  shallow : All IsShallow read
  deep : IsShallow last → ⊥

cut_at : (ss : List Spot) (i : ℕ) → IsFirstDeep (depths ss) i → CutAt ss i
cut_at [] i f = absurd (let w = f.within in omega arith)
cut_at (s ∷ ss) zero f = record { read = []; last = s; rest = ss; whole = refl; count = refl; shallow = All-nil IsShallow; deep = not-le_of_lt (f.above) }
cut_at (s ∷ ss) (suc i) f =
    let c = cut_at ss i (rest_deep (s.depth) (depths ss) i f) in
    record {
      read = s ∷ c.read;
      last = c.last;
      rest = c.rest;
      whole = ap (λ (w : List Spot). s ∷ w) (c.whole);
      count = ap suc (c.count);
      shallow = All-cons IsShallow s (c.read) (first_allowed (s.depth) (depths ss) i f) (c.shallow);
      deep = c.deep;
    }

tokens_two : (us vs : List Spot) → tokens_of (us ++ vs) ≡ tokens_of us ++ tokens_of vs
tokens_two us vs = map-append (λ s. s.token) us vs

count_read : (read : List Spot) (last : Spot) (i : ℕ) (ts : List Token) → i < length ts → tokens_of (read ++ last ∷ []) ≡ take (suc i) ts → length read ≡ i
count_read read last i ts h e =
    let a : length (tokens_of (read ++ last ∷ [])) ≡ length (read ++ last ∷ []) = length-map (read ++ last ∷ []) (λ s. s.token) in
    let b : length (read ++ last ∷ []) ≡ length read + 1 = length-append read (last ∷ []) in
    let c : length (take (suc i) ts) ≡ suc i = omega (arith, length-take (suc i) ts) in
    let d : length (tokens_of (read ++ last ∷ [])) ≡ length (take (suc i) ts) = ap length e in
    omega arith

-- two lists that are one, cut behind as many
front_same : {X : Type 0} (xs ys us vs : List X) → xs ++ ys ≡ us ++ vs → length xs ≡ length us → xs ≡ us
front_same xs ys us vs e l = sym (take-append_seam xs ys) ∙ ap (λ n. take n (xs ++ ys)) l ∙ ap (take (length us)) e ∙ take-append_seam us vs

-- a refusal for depth depends on the tokens up to the one that is refused
pub whatever_follows : {A : Type 0} (G : List Spot → A → Type 0) (vs ws zs : List Token) (i : ℕ) → i < length vs → TooNestedAt G (vs ++ ws) i → TooNestedAt G (vs ++ zs) i
whatever_follows G vs ws zs i h q =
    let e : take (suc i) (vs ++ ws) ≡ take (suc i) (vs ++ zs) = take-append-le (suc i) vs ws h ∙ sym (take-append-le (suc i) vs zs h) in
    record {
      read = q.read;
      last = q.last;
      within = omega (arith, length-append vs zs);
      tokens = q.tokens ∙ e;
      shallow = q.shallow;
      deep = q.deep;
      begins = q.begins;
      only = λ w b xs g p. q.only w b xs g (p ∙ ap (λ (u : List Token). u ++ xs) (sym e));
    }

module _ {A : Type 0} (T : List Token → A → Type 0) where
  plain : (w : List Spot) (a : A) → Nested T w a → T (tokens_of w) a
  plain _ a (nested {ts = ts} d) = subst (λ (u : List Token). T u a) (sym (tokens_of-spots outside ts)) d

  spots_of : (w : List Spot) (a : A) → Nested T w a → w ≡ spots (tokens_of w)
  spots_of _ a (nested {ts = ts} d) = ap spots (sym (tokens_of-spots outside ts))

  pub accepted_text : (ts : List Token) (a : A) → Accepted (Nested T) ts a → T ts a
  accepted_text ts a q = subst (λ (u : List Token). T u a) (q.tokens) (plain (q.read) a (q.text))

  accepted_depths : (ts : List Token) (a : A) → Accepted (Nested T) ts a → All IsAllowed (depths (spots ts))
  accepted_depths ts a q =
      let e : q.read ≡ spots ts = spots_of (q.read) a (q.text) ∙ ap spots (q.tokens) in
      subst (λ (w : List Spot). All IsAllowed (depths w)) e (depths_shallow (q.read) (q.shallow))

  accepts : (ts : List Token) (a : A) → T ts a → All IsAllowed (depths (spots ts)) → Accepted (Nested T) ts a
  accepts ts a d h = record { read = spots ts; tokens = tokens_of-spots outside ts; shallow = spots_shallow (spots ts) h; text = nested d }

  pub begun : (ts : List Token) (i : ℕ) → TooNestedAt (Nested T) ts i → (zs : List Token) × (a : A) × T (take (suc i) ts ++ zs) a
  begun ts i q =
      let us = q.read ++ q.last ∷ [] in
      let e : tokens_of (us ++ q.begins.rest) ≡ take (suc i) ts ++ tokens_of (q.begins.rest) = tokens_two us (q.begins.rest) ∙ ap (λ (w : List Token). w ++ tokens_of (q.begins.rest)) (q.tokens) in
      (tokens_of (q.begins.rest), q.begins.value, subst (λ (w : List Token). T w (q.begins.value)) e (plain (us ++ q.begins.rest) (q.begins.value) (q.begins.text)))

  deep_in : (ts : List Token) (i : ℕ) → TooNestedAt (Nested T) ts i → (us zs : List Token) (a : A) → T us a → us ≡ take (suc i) ts ++ zs → IsFirstDeep (depths (spots us)) i
  deep_in ts i q us zs a d e =
      let o = q.only (spots us) a zs (nested d) (tokens_of-spots outside us ∙ e) in
      let f : IsFirstDeep (depths (q.read ++ q.last ∷ o.0)) (length (q.read)) = deep_there (q.read) (o.0) (q.last) (q.shallow) (q.deep) in
      let g : IsFirstDeep (depths (spots us)) (length (q.read)) = subst (λ (w : List Spot). IsFirstDeep (depths w) (length (q.read))) (sym (o.1)) f in
      subst (IsFirstDeep (depths (spots us))) (count_read (q.read) (q.last) i ts (q.within) (q.tokens)) g

  at_most : (ts : List Token) (i : ℕ) → SyntaxAt (Nested T) ts i → i ≤ length ts
  at_most ts i q = by_place (q.none)
    where
      by_place : ((i < length ts) × ((w : List Spot) (b : A) (zs : List Token) → Nested T w b → tokens_of w ≡ take (suc i) ts ++ zs → ⊥)) ⊎ ((i ≡ length ts) × ((w : List Spot) (b : A) → Nested T w b → tokens_of w ≡ ts → ⊥)) → i ≤ length ts
      by_place (inl (l, n)) = omega arith
      by_place (inr (l, n)) = omega arith

  -- what was read before a fault of the form is nowhere nested too deeply
  read_before : (ts : List Token) (i : ℕ) (q : SyntaxAt (Nested T) ts i) → q.read ≡ spots (take i ts)
  read_before ts i q =
      let ws = q.read ++ q.begins.rest in
      let e : tokens_of ws ≡ take i ts ++ tokens_of (q.begins.rest) = tokens_two (q.read) (q.begins.rest) ∙ ap (λ (w : List Token). w ++ tokens_of (q.begins.rest)) (q.tokens) in
      front_same (q.read) (q.begins.rest) (spots (take i ts)) (spots_from (nests outside (take i ts)) (tokens_of (q.begins.rest)))
      (spots_of ws (q.begins.value) (q.begins.text) ∙ ap spots e ∙ spots-append outside (take i ts) (tokens_of (q.begins.rest)))
      (sym (length-map (q.read) (λ s. s.token)) ∙ ap length (q.tokens ∙ sym (tokens_of-spots outside (take i ts))) ∙ length-map (spots (take i ts)) (λ s. s.token))

  pub depth_before : (ts : List Token) (i : ℕ) → SyntaxAt (Nested T) ts i → (us zs : List Token) → us ≡ take i ts ++ zs → (j : ℕ) → j < i → get_or (depths (spots us)) j 0 ≤ limit
  depth_before ts i q us zs e j h =
      let r = q.read in
      let s = spots_from (nests outside (take i ts)) zs in
      let f : spots us ≡ r ++ s = ap spots e ∙ spots-append outside (take i ts) zs ∙ ap (λ (w : List Spot). w ++ s) (sym (read_before ts i q)) in
      let g : depths (spots us) ≡ depths r ++ depths s = ap depths f ∙ map-append (λ s. s.depth) r s in
      let m = at_most ts i q in
      let l : j < length (depths r) = omega (arith, length-map r (λ s. s.depth), length-map r (λ s. s.token), ap length (q.tokens), length-take i ts) in
      let k : get_or (depths (spots us)) j 0 ≡ get_or (depths r) j 0 = ap (λ (w : List ℕ). get_or w j 0) g ∙ get_or_append_left (depths r) (depths s) 0 j l in
      let b : get_or (depths r) j 0 ≤ limit = All-get_or IsAllowed (depths r) j 0 l (depths_shallow r (q.shallow)) in
      omega arith

  -- a text is refused at the first token that is nested too deeply
  module _ (ts : List Token) (a : A) (d : T ts a) (i : ℕ) (f : IsFirstDeep (depths (spots ts)) i) where
    c : CutAt (spots ts) i
    c = cut_at (spots ts) i f

    front : List Spot
    front = c.read ++ c.last ∷ []

    count_front : length front ≡ suc i
    unfolding front
    count_front = omega (arith, length-append (c.read) (c.last ∷ []), c.count)

    whole : spots ts ≡ front ++ c.rest
    unfolding front
    whole = c.whole ∙ sym (append_assoc (c.read) (c.last ∷ []) (c.rest))

    short : i < length ts
    short = let w = f.within in omega (arith, length-map (spots ts) (λ s. s.depth), length-map (spots ts) (λ s. s.token), ap length (tokens_of-spots outside ts))

    count_take : length (take (suc i) ts) ≡ suc i
    count_take = let s = short in omega (arith, length-take (suc i) ts)

    tokens : tokens_of front ≡ take (suc i) ts
    tokens =
        front_same (tokens_of front) (tokens_of (c.rest)) (take (suc i) ts) (drop (suc i) ts)
        (sym (tokens_two front (c.rest)) ∙ ap tokens_of (sym whole) ∙ tokens_of-spots outside ts ∙ sym (take-append-drop (suc i) ts))
        (length-map front (λ s. s.token) ∙ count_front ∙ sym count_take)

    front_spots : spots (take (suc i) ts) ≡ front
    front_spots =
        front_same (spots (take (suc i) ts)) (spots_from (nests outside (take (suc i) ts)) (drop (suc i) ts)) front (c.rest)
        (sym (spots-append outside (take (suc i) ts) (drop (suc i) ts)) ∙ ap spots (take-append-drop (suc i) ts) ∙ whole)
        (sym (length-map (spots (take (suc i) ts)) (λ s. s.token)) ∙ ap length (tokens_of-spots outside (take (suc i) ts)) ∙ count_take ∙ sym count_front)

    only : (w : List Spot) (b : A) (zs : List Token) → Nested T w b → tokens_of w ≡ take (suc i) ts ++ zs → (x : List Spot) × (w ≡ c.read ++ c.last ∷ x)
    unfolding front
    only w b zs g e =
        let x = spots_from (nests outside (take (suc i) ts)) zs in
        (x, spots_of w b g ∙ ap spots e ∙ spots-append outside (take (suc i) ts) zs ∙ ap (λ (v : List Spot). v ++ x) front_spots ∙ append_assoc (c.read) (c.last ∷ []) x)

    pub refused_there : TooNestedAt (Nested T) ts i
    unfolding front
    refused_there = record {
      read = c.read;
      last = c.last;
      within = short;
      tokens = tokens;
      shallow = c.shallow;
      deep = c.deep;
      begins = record { rest = c.rest; value = a; text = subst (λ (w : List Spot). Nested T w a) whole (nested d) };
      only = only;
    }

  -- by the marks
  module _ (nestings_of : (ts : List Token) (a : A) → T ts a → List ℕ) (agree : (ts : List Token) (a : A) (d : T ts a) → Alike ts (nestings_of ts a d) (depths (spots ts))) where
    pub first_told : (ts : List Token) (i : ℕ) → TooNestedAt (Nested T) ts i → (us zs : List Token) (a : A) (d : T us a) → us ≡ take (suc i) ts ++ zs → IsFirstDeep (nestings_of us a d) (blamed ts i)
    first_told ts i q us zs a d e =
        let f : IsFirstDeep (nestings_of us a d) (blamed us i) = told_deep (agree us a d) i (deep_in ts i q us zs a d e) in
        subst (IsFirstDeep (nestings_of us a d)) (ap (λ (w : List Token). blamed w i) e ∙ told_there i ts zs (q.within)) f

    pub refused : (ts : List Token) (a : A) (d : T ts a) (k : ℕ) → limit < get_or (nestings_of ts a d) k 0 → (i : ℕ) × TooNestedAt (Nested T) ts i × IsFirstDeep (nestings_of ts a d) (blamed ts i)
    refused ts a d k h = by_search (first_or_none (depths (spots ts)))
      where
        by_search : All IsAllowed (depths (spots ts)) ⊎ ((i : ℕ) × IsFirstDeep (depths (spots ts)) i) → (i : ℕ) × TooNestedAt (Nested T) ts i × IsFirstDeep (nestings_of ts a d) (blamed ts i)
        by_search (inl all) = absurd (not_deep (nestings_of ts a d) k (marks_allowed (agree ts a d) all) h)
          where
            not_deep : (ns : List ℕ) (k : ℕ) → All IsAllowed ns → limit < get_or ns k 0 → ⊥
            not_deep [] k all h = omega arith
            not_deep (n ∷ ns) zero all h = let l : n ≤ limit = All-head IsAllowed n ns all in omega arith
            not_deep (n ∷ ns) (suc k) all h = not_deep ns k (All-tail IsAllowed n ns all) h
        by_search (inr (i, f)) = (i, refused_there ts a d i f, told_deep (agree ts a d) i f)

    pub accepted_allowed : (ts : List Token) (a : A) → Accepted (Nested T) ts a → (d : T ts a) → All IsAllowed (nestings_of ts a d)
    accepted_allowed ts a q d = marks_allowed (agree ts a d) (accepted_depths ts a q)

    pub allowed_accepted : (ts : List Token) (a : A) (d : T ts a) → All IsAllowed (nestings_of ts a d) → Accepted (Nested T) ts a
    allowed_accepted ts a d h = accepts ts a d (depths_allowed (agree ts a d) h)

    pub before_a_fault : (ts : List Token) (i : ℕ) → SyntaxAt (Nested T) ts i → (us zs : List Token) (a : A) (d : T us a) → us ≡ take i ts ++ zs → (j : ℕ) → suc j < i → get_or (nestings_of us a d) j 0 ≤ limit
    before_a_fault ts i q us zs a d e j h = by_place (same_or_next (agree us a d) j)
      where
        by_place : (get_or (nestings_of us a d) j 0 ≡ get_or (depths (spots us)) j 0) ⊎ (get_or (nestings_of us a d) j 0 ≡ get_or (depths (spots us)) (suc j) 0) → get_or (nestings_of us a d) j 0 ≤ limit
        by_place (inl p) = let l = depth_before ts i q us zs e j (omega arith) in omega arith
        by_place (inr p) = let l = depth_before ts i q us zs e (suc j) h in omega arith
