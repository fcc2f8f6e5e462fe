-- Reading a list item by item: what a loop finds from where it stands.
use Rattle.std.proofs.Common.{◌≡◌, List, [], ◌∷◌, ◌++◌, Some, refl, ap, sym, ◌∙◌, subst, append_assoc, append-nil, ◌⊎◌, inl, inr}
use Rattle.ab_grammar.specs.Token.{Token}
use Rattle.std.proofs.lemmas.List.Elements.{All-nil}
use Rattle.ab_grammar.specs.Nesting.{Spot, IsShallow}
use Rattle.ab_grammar.specs.Language.{tokens_of, Key}
use Rattle.ab_grammar.proofs.Following.{first, led_by, Follow, follow, Anything, Except, Without, Comes}
use Rattle.ab_grammar.proofs.Reading.{ReadsOff, StopsAt, Cause, RefusesAt}
use Rattle.ab_grammar.specs.CommandForms.{One, Joined, joined, Many, no_more, one_more, OneOrMore, ◌▸◌}
use Rattle.ab_grammar.proofs.Lists.{regroup}
use Rattle.ab_grammar.proofs.Joining.{Example, joined_reads, second_refuses}
use Rattle.ab_grammar.proofs.Choosing.{key_reads, key_begins, one_shown, fewer_reads, fewer_refuses}
use Rattle.ab_grammar.proofs.Continuing.{Continues, onwards, behind, before, Apart, Missing, one_read, item_refuses, none_read, none_example}

pub same_value : {A B : Type 0} {H : List Spot → A → Type 0} {R : List Spot → B → Type 0} {F : List Token → Type 0} {f : A → B} {ms ks : List Token} → (g : A → B) → ((a : A) → f a ≡ g a)
    → Continues H R F f ms ks → Continues H R F g ms ks
same_value {R = R} {F = F} {ks = ks} g e p = record {
  reads = λ a rest r. subst (λ b. ReadsOff R F ks b rest) (e a) (p.reads a rest r);
  refuses = p.refuses;
}

-- a loop has read the items v of R, and goes on
module _ {A : Type 0} (G : List Spot → A → Type 0) (R : List Spot → List A → Type 0) (F : List Token → Type 0) (ks : List Token) (v : List A) where
  abbrev pub SoFar : List Token → Type 0
  SoFar ms = Continues (Many G) R F (λ xs. v ++ xs) ms ks

-- R is one text of G or more, which begin with the tokens that F leaves out
module _ {A : Type 0} (G : List Spot → A → Type 0) (R : List Spot → List A → Type 0) (F : List Token → Type 0) (ks : List Token) where
  pub goes_on : (ms ns : List Token) (v : List A) (a : A) → Apart F ms → ReadsOff G (Follow (Many G) F) ms a ns → SoFar G R F ks v ms → SoFar G R F ks (v ++ a ∷ []) ns
  goes_on ms ns v a n p s = same_value (λ xs. (v ++ a ∷ []) ++ xs) (λ xs. sym (append_assoc v (a ∷ []) xs)) (onwards (one_read G F ms ns a n p) s)

  pub item_fails : (c : Cause) (ms rest : List Token) (v : List A) → Apart F ms → RefusesAt G (Follow (Many G) F) c ms rest → SoFar G R F ks v ms → RefusesAt R F c ks rest
  item_fails c ms rest v n p s = s.refuses c rest (item_refuses G F c ms rest n p)

  pub ends : (ms : List Token) (v : List A) → Missing G (Follow (Many G) F) ms → SoFar G R F ks v ms → ReadsOff R F ks v ms
  ends ms v n s = subst (λ (w : List A). ReadsOff R F ks w ms) (append-nil v) (s.reads [] ms (none_read G F ms n))

-- no item was read yet
pub nothing_yet : {A : Type 0} (G : List Spot → A → Type 0) (F : List Token → Type 0) (ks : List Token) → SoFar G (Many G) F ks [] ks
nothing_yet G F ks = record { reads = λ a rest r. r; refuses = λ c rest r. r }

-- the first item was read
module _ {A : Type 0} (G : List Spot → A → Type 0) (H : List Spot → A → Type 0) (E F : List Token → Type 0) (less : (r : List Token) → Follow (Many H) F r → E r) (ks : List Token) where
  abbrev FirstAndMore : List Spot → List A → Type 0
  FirstAndMore = Joined (λ a xs. a ∷ xs) G (Many H)

  pub first_read : (ms : List Token) (a : A) → ReadsOff G E ks a ms → SoFar H FirstAndMore F ks (a ∷ []) ms
  first_read ms a p = behind (λ (x : A) (xs : List A). x ∷ xs) G (Many H) E F less ks ms a p

  pub first_fails : (c : Cause) (rest : List Token) → RefusesAt G E c ks rest → RefusesAt FirstAndMore F c ks rest
  first_fails c rest p = before (λ (x : A) (xs : List A). x ∷ xs) G (Many H) E F less (none_example H F) c ks rest p

-- items that are one token
module _ {A : Type 0} (Shows : Token → A → Type 0) where
  pub token_apart : (k : Token) (ms : List Token) (a : A) → first ms ≡ Some k → Shows k a → Apart (Without Shows) ms
  token_apart k ms a e s r n f = n k a (f ∙ e) s

  pub token_missing : (F : List Token → Type 0) (ms : List Token) → Without Shows ms → Missing (One Shows) F ms
  token_missing F ms n w a r g f e = let s = one_shown Shows w a r g in n s.0 a (sym e ∙ s.1) s.2

-- items behind a key, which may not follow
module _ {A : Type 0} (k : Token) (G : List Spot → A → Type 0) (E F : List Token → Type 0) (out : (r : List Token) → F r → Except k r) (less : (r : List Token) → Follow (Many (Key k ▸ G)) F r → E r) where
  abbrev Behind : List Spot → A → Type 0
  Behind = Key k ▸ G

  pub key_apart : (ms : List Token) → first ms ≡ Some k → Apart F ms
  key_apart ms s r n e = out r n (e ∙ s)

  keyed_first : (w : List Spot) (a : A) (r : List Token) → Behind w a → first (tokens_of w ++ r) ≡ Some k
  keyed_first _ _ r (joined {us = us} {vs = vs} {a = u} g h) = ap first (regroup us vs r) ∙ key_begins k us u (tokens_of vs ++ r) g

  pub key_missing : (D : List Token → Type 0) (ms : List Token) → Except k ms → Missing Behind D ms
  key_missing D ms n w a r g f e = n (sym e ∙ keyed_first w a r g)

  pub keyed_reads : (ms ns : List Token) (a : A) → ReadsOff G E ms a ns → ReadsOff Behind (Follow (Many Behind) F) (k ∷ ms) a ns
  keyed_reads ms ns a p = joined_reads (λ (u : Unit {0}) (b : A). b) (Key k) G (Follow (Many Behind) F) (k ∷ ms) ms ns tt a
      (fewer_reads (Key k) Anything (Follow G (Follow (Many Behind) F)) (λ r f. tt) (k ∷ ms) ms tt (key_reads k ms))
      (fewer_reads G E (Follow (Many Behind) F) less ms ns a p)

  pub keyed_refuses : (c : Cause) (ms rest : List Token) → RefusesAt G E c ms rest → RefusesAt Behind (Follow (Many Behind) F) c (k ∷ ms) rest
  keyed_refuses c ms rest p = second_refuses (λ (u : Unit {0}) (b : A). b) (Key k) G (Follow (Many Behind) F) c (k ∷ ms) ms rest tt
      (fewer_reads (Key k) Anything (Follow G (Follow (Many Behind) F)) (λ r f. tt) (k ∷ ms) ms tt (key_reads k ms))
      (fewer_refuses G E (Follow (Many Behind) F) less ms rest c p)

  -- what follows an item is the key, or what follows the list
  pub follows_item : (r : List Token) → Follow (Many Behind) F r → (Comes k r) ⊎ F r
  follows_item _ (follow {vs = w} {r = r} m f) = from_items w r m f
    where
      from_items : {xs : List A} (w : List Spot) (r : List Token) → Many Behind w xs → F r → (Comes k (tokens_of w ++ r)) ⊎ F (tokens_of w ++ r)
      from_items _ r no_more f = inr f
      from_items _ r (one_more {us = us} {vs = vs} {a = a} g h) f = inl (ap first (regroup us vs r) ∙ keyed_first us a (tokens_of vs ++ r) g)

-- one or more, where any number was read
module _ {A : Type 0} (G : List Spot → A → Type 0) (F : List Token → Type 0) (ks : List Token) where
  some_many : (w : List Spot) (b : List A) → OneOrMore G w b → Many G w b
  some_many _ _ (joined g h) = one_more g h

  many_some : (w : List Spot) (a : A) (xs : List A) → Many G w (a ∷ xs) → OneOrMore G w (a ∷ xs)
  many_some _ a xs (one_more g h) = joined g h

  some_not_none : (w : List Spot) (b : List A) → OneOrMore G w b → b ≡ [] → ⊥
  some_not_none _ _ (joined g h) e = absurd (cc)

  pub some_read : (a : A) (xs : List A) (rest : List Token) → ReadsOff (Many G) F ks (a ∷ xs) rest → ReadsOff (OneOrMore G) F ks (a ∷ xs) rest
  some_read a xs rest p = record {
    read = p.read;
    shallow = p.shallow;
    tokens = p.tokens;
    reads = record { is = many_some (p.read) a xs (p.reads.is); only = λ w b r zs g k e. p.reads.only w b r zs (some_many w b g) k e };
  }

  none_there : (w : List Spot) (rest : List Token) → Many G w [] → ks ≡ tokens_of w ++ rest → ks ≡ rest
  none_there _ rest no_more e = e

  pub some_missing : (rest : List Token) → Example G → ReadsOff (Many G) F ks [] rest → StopsAt (OneOrMore G) F ks ks
  some_missing rest x p =
      let e : ks ≡ rest = none_there (p.read) rest (p.reads.is) (p.tokens) in
      record {
        read = [];
        shallow = All-nil IsShallow;
        tokens = refl;
        fails = record {
          begins = record { rest = x.spots ++ []; value = x.value ∷ []; text = joined (x.text) no_more };
          none = λ w b r zs g k f.
              let same : tokens_of w ++ r ≡ tokens_of (p.read) ++ led_by (first rest) zs = f ∙ ap (λ (v : List Token). led_by (first v) zs) e ∙ nothing_before (p.read) (led_by (first rest) zs) (p.reads.is) in
              some_not_none w b g (p.reads.only w b r zs (some_many w b g) k same).1;
        };
      }
    where
      nothing_before : (w : List Spot) (v : List Token) → Many G w [] → v ≡ tokens_of w ++ v
      nothing_before _ v no_more = refl
