-- Reading goes on behind a part: what is read or refused from there on is read or refused of the whole.
use Rattle.std.proofs.Common.{◌≡◌, List, [], ◌∷◌, ◌++◌, refl, ap, sym, ◌∙◌}
use Rattle.ab_grammar.specs.Token.{Token}
use Rattle.ab_grammar.specs.Nesting.{Spot}
use Rattle.ab_grammar.specs.Language.{tokens_of}
use Rattle.ab_grammar.proofs.Following.{first, Follow, follow}
use Rattle.ab_grammar.proofs.Reading.{ReadsOff, Cause, RefusesAt}
use Rattle.ab_grammar.specs.CommandForms.{Joined, joined, Valued, valued, Optional, left_out, present, Many, no_more, one_more}
use Rattle.ab_grammar.proofs.Lists.{regroup}
use Rattle.ab_grammar.proofs.Joining.{Example, joined_reads, second_refuses, first_refuses}
use Rattle.ab_grammar.proofs.Choosing.{fewer_reads, fewer_refuses, chosen_reads, chosen_refuses, nothing_reads}

-- H, read from ms on, finishes R, read from ks on, with the value that f makes
pub record Continues {A B : Type 0} (H : List Spot → A → Type 0) (R : List Spot → B → Type 0) (F : List Token → Type 0) (f : A → B) (ms ks : List Token) : Type 0 where
  pub reads : (a : A) (rest : List Token) → ReadsOff H F ms a rest → ReadsOff R F ks (f a) rest
  pub refuses : (c : Cause) (rest : List Token) → RefusesAt H F c ms rest → RefusesAt R F c ks rest

pub onwards : {A B C : Type 0} {G : List Spot → A → Type 0} {H : List Spot → B → Type 0} {R : List Spot → C → Type 0} {F : List Token → Type 0} {f : A → B} {g : B → C} {ns ms ks : List Token}
    → Continues G H F f ns ms → Continues H R F g ms ks → Continues G R F (λ a. g (f a)) ns ks
onwards {f = f} p q = record {
  reads = λ a rest r. q.reads (f a) rest (p.reads a rest r);
  refuses = λ c rest r. q.refuses c rest (p.refuses c rest r);
}

-- the second form, behind the first
module _ {A B C : Type 0} (f : A → B → C) (G : List Spot → A → Type 0) (H : List Spot → B → Type 0) (E F : List Token → Type 0) (less : (r : List Token) → Follow H F r → E r) where
  pub behind : (ks ms : List Token) (a : A) → ReadsOff G E ks a ms → Continues H (Joined f G H) F (f a) ms ks
  behind ks ms a p =
      let q = fewer_reads G E (Follow H F) less ks ms a p in
      record {
        reads = λ b rest r. joined_reads f G H F ks ms rest a b q r;
        refuses = λ c rest r. second_refuses f G H F c ks ms rest a q r;
      }

  pub before : Example H → (c : Cause) (ks rest : List Token) → RefusesAt G E c ks rest → RefusesAt (Joined f G H) F c ks rest
  before x c ks rest p = first_refuses f G H F c ks rest x (fewer_refuses G E (Follow H F) less ks rest c p)

-- G is the part of R whose texts begin with the next token
pub chosen : {A B : Type 0} (G : List Spot → A → Type 0) (R : List Spot → B → Type 0) (F : List Token → Type 0) (f : A → B) (ks : List Token)
    → ((w : List Spot) (a : A) → G w a → R w (f a))
    → ((w : List Spot) (b : B) (r : List Token) → R w b → F r → first (tokens_of w ++ r) ≡ first ks → (a : A) × G w a × (f a ≡ b))
    → Continues G R F f ks ks
chosen G R F f ks to back = record { reads = λ a rest. chosen_reads G R F f ks to back a rest; refuses = λ c rest. chosen_refuses G R F f ks to back c rest }

-- R has the texts of G, with the values that f makes
pub same_texts : {A B : Type 0} (G : List Spot → A → Type 0) (R : List Spot → B → Type 0) (F : List Token → Type 0) (f : A → B) (ks : List Token)
    → ((w : List Spot) (a : A) → G w a → R w (f a)) → ((w : List Spot) (b : B) → R w b → (a : A) × G w a × (f a ≡ b)) → Continues G R F f ks ks
same_texts G R F f ks to back = chosen G R F f ks to (λ w b r g k e. back w b g)

valued_back : {A B : Type 0} (f : A → B) (G : List Spot → A → Type 0) (w : List Spot) (b : B) → Valued f G w b → (a : A) × G w a × (f a ≡ b)
valued_back f G _ _ (valued {a = a} g) = (a, g, refl)

pub with_value : {A B : Type 0} (f : A → B) (G : List Spot → A → Type 0) (F : List Token → Type 0) (ks : List Token) → Continues G (Valued f G) F f ks ks
with_value f G F ks = same_texts G (Valued f G) F f ks (λ w a g. valued g) (valued_back f G)

-- what comes next is nothing that may follow
abbrev pub Apart : (List Token → Type 0) → List Token → Type 0
Apart F ks = (r : List Token) → F r → first r ≡ first ks → ⊥

-- no text of G, with what may follow it, begins with the next token
abbrev pub Missing : {A : Type 0} → (List Spot → A → Type 0) → (List Token → Type 0) → List Token → Type 0
Missing {A} G F ks = (w : List Spot) (a : A) (r : List Token) → G w a → F r → first (tokens_of w ++ r) ≡ first ks → ⊥

module _ {A : Type 0} (d : A) (G : List Spot → A → Type 0) (F : List Token → Type 0) (ks : List Token) where
  optional_back : Apart F ks → (w : List Spot) (b : A) (r : List Token) → Optional d G w b → F r → first (tokens_of w ++ r) ≡ first ks → (a : A) × G w a × (a ≡ b)
  optional_back n _ _ r left_out k e = absurd (n r k e)
  optional_back n _ b r (present g) k e = (b, g, refl)

  pub is_present : Apart F ks → Continues G (Optional d G) F (λ a. a) ks ks
  is_present n = chosen G (Optional d G) F (λ a. a) ks (λ w a g. present g) (optional_back n)

  absent_only : Missing G F ks → (w : List Spot) (b : A) (r : List Token) → Optional d G w b → F r → first (tokens_of w ++ r) ≡ first ks → (w ≡ []) × (b ≡ d)
  absent_only n _ _ r left_out k e = (refl, refl)
  absent_only n w b r (present g) k e = absurd (n w b r g k e)

  pub is_absent : Missing G F ks → ReadsOff (Optional d G) F ks d ks
  is_absent n = nothing_reads (Optional d G) F ks d left_out (absent_only n)

module _ {A : Type 0} (G : List Spot → A → Type 0) (F : List Token → Type 0) where
  abbrev More : List Spot → List A → Type 0
  More = Joined (λ a xs. a ∷ xs) G (Many G)

  more_to : (w : List Spot) (xs : List A) → More w xs → Many G w xs
  more_to _ _ (joined g h) = one_more g h

  more_back : (ks : List Token) → Apart F ks → (w : List Spot) (b : List A) (r : List Token) → Many G w b → F r → first (tokens_of w ++ r) ≡ first ks → (a : List A) × More w a × (a ≡ b)
  more_back ks n _ _ r no_more k e = absurd (n r k e)
  more_back ks n _ b r (one_more g h) k e = (b, joined g h, refl)

  is_more : (ks : List Token) → Apart F ks → Continues More (Many G) F (λ xs. xs) ks ks
  is_more ks n = chosen More (Many G) F (λ xs. xs) ks more_to (more_back ks n)

  -- one item was read, and more may come
  pub one_read : (ks ms : List Token) (a : A) → Apart F ks → ReadsOff G (Follow (Many G) F) ks a ms → Continues (Many G) (Many G) F (λ xs. a ∷ xs) ms ks
  one_read ks ms a n p = onwards (behind (λ (x : A) (xs : List A). x ∷ xs) G (Many G) (Follow (Many G) F) F (λ r k. k) ks ms a p) (is_more ks n)

  pub none_example : Example (Many G)
  none_example = record { spots = []; value = []; text = no_more }

  -- an item is refused
  pub item_refuses : (c : Cause) (ks rest : List Token) → Apart F ks → RefusesAt G (Follow (Many G) F) c ks rest → RefusesAt (Many G) F c ks rest
  item_refuses c ks rest n p = (is_more ks n).refuses c rest (before (λ (x : A) (xs : List A). x ∷ xs) G (Many G) (Follow (Many G) F) F (λ r k. k) none_example c ks rest p)

  none_only : (ks : List Token) → Missing G (Follow (Many G) F) ks → (w : List Spot) (b : List A) (r : List Token) → Many G w b → F r → first (tokens_of w ++ r) ≡ first ks → (w ≡ []) × (b ≡ [])
  none_only ks n _ _ r no_more k e = (refl, refl)
  none_only ks n _ _ r (one_more {us = u} {vs = v} {a = a} g h) k e = absurd (n u a (tokens_of v ++ r) g (follow h k) (ap first (sym (regroup u v r)) ∙ e))

  pub none_read : (ks : List Token) → Missing G (Follow (Many G) F) ks → ReadsOff (Many G) F ks [] ks
  none_read ks n = nothing_reads (Many G) F ks [] no_more (none_only ks n)
