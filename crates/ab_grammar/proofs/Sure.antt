-- Forms of which two texts, each with what may follow it, are one where they agree as tokens, and have one value.
use Rattle.std.proofs.Common.{◌≡◌, List, [], ◌∷◌, ◌++◌, refl, ap, sym, ◌∙◌, subst, ◌⊎◌, inl, inr}
use Rattle.ab_grammar.specs.Token.{Token}
use Rattle.ab_grammar.specs.Nesting.{Spot, lone}
use Rattle.ab_grammar.specs.Language.{tokens_of, Key, the_key}
use Rattle.ab_grammar.proofs.Following.{first, Follow, follow, Anything, Comes, Except}
use Rattle.ab_grammar.specs.CommandForms.{One, one, Nothing, nothing, Joined, joined, Valued, valued, Optional, left_out, present, Many, no_more, one_more, OneOrMore, Separated, ◌▸◌}
use Rattle.ab_grammar.proofs.Lists.{regroup, cancel}
use Rattle.ab_grammar.proofs.Shown.{ShowsOne}
use Rattle.ab_grammar.proofs.Choosing.{key_begins}

abbrev pub Sure : {A : Type 0} → (List Spot → A → Type 0) → (List Token → Type 0) → Type 0
Sure {A} G F = (u v : List Spot) (a b : A) (r s : List Token) → G u a → G v b → F r → F s → tokens_of u ++ r ≡ tokens_of v ++ s → (u ≡ v) × (a ≡ b)

-- no text of G stands where what may follow does
abbrev pub Never : {A : Type 0} → (List Spot → A → Type 0) → (List Token → Type 0) → Type 0
Never {A} G F = (v : List Spot) (b : A) (s r : List Token) → G v b → F r → r ≡ tokens_of v ++ s → ⊥

pub sure_one : {A : Type 0} (Shows : Token → A → Type 0) (F : List Token → Type 0) → ShowsOne Shows → Sure (One Shows) F
sure_one Shows F shows _ _ a b r s (one {k = k} p) (one {k = j} q) f g e =
    let same : k ≡ j = cc in
    (ap (λ i. lone i ∷ []) same, sym (shows j a b (subst (λ i. Shows i a) same p) q))

pub sure_key : (k : Token) (F : List Token → Type 0) → Sure (Key k) F
sure_key k F _ _ _ _ r s the_key the_key f g e = (refl, refl)

pub sure_nothing : (F : List Token → Type 0) → Sure Nothing F
sure_nothing F _ _ _ _ r s nothing nothing f g e = (refl, refl)

pub sure_valued : {A B : Type 0} (f : A → B) (G : List Spot → A → Type 0) (F : List Token → Type 0) → Sure G F → Sure (Valued f G) F
sure_valued f G F sure _ _ _ _ r s (valued {us = u} {a = a} g) (valued {us = v} {a = b} h) k l e = let p = sure u v a b r s g h k l e in (p.0, ap f (p.1))

pub sure_fewer : {A : Type 0} (G : List Spot → A → Type 0) (E F : List Token → Type 0) → ((r : List Token) → F r → E r) → Sure G E → Sure G F
sure_fewer G E F less sure u v a b r s g h k l e = sure u v a b r s g h (less r k) (less s l) e

-- two parts, of which the first begins two texts that agree
module _ {A B C : Type 0} (f : A → B → C) (G : List Spot → A → Type 0) (H : List Spot → B → Type 0) (E F : List Token → Type 0) (less : (r : List Token) → Follow H F r → E r) where
  pub sure_joined : Sure G E → Sure H F → Sure (Joined f G H) F
  sure_joined p q _ _ _ _ r s (joined {us = u} {vs = v} {a = a} {b = b} g h) (joined {us = x} {vs = y} {a = c} {b = d} i j) k l e =
      let moved : tokens_of u ++ (tokens_of v ++ r) ≡ tokens_of x ++ (tokens_of y ++ s) = sym (regroup u v r) ∙ e ∙ regroup x y s in
      let one = p u x a c (tokens_of v ++ r) (tokens_of y ++ s) g i (less _ (follow h k)) (less _ (follow j l)) moved in
      let two = q v y b d r s h j k l (cancel x v r (tokens_of y ++ s) (ap (λ (w : List Spot). tokens_of w ++ (tokens_of v ++ r)) (sym (one.0)) ∙ moved)) in
      (ap (λ (w : List Spot). w ++ v) (one.0) ∙ ap (λ (w : List Spot). x ++ w) (two.0), ap (λ (z : A). f z b) (one.1) ∙ ap (λ (z : B). f c z) (two.1))

any : {B : Type 0} (H : List Spot → B → Type 0) (F : List Token → Type 0) (r : List Token) → Follow H F r → Unit {0}
any H F r f = tt

-- a part that ends itself, and another
pub sure_then : {A B C : Type 0} (f : A → B → C) (G : List Spot → A → Type 0) (H : List Spot → B → Type 0) (F : List Token → Type 0) → Sure G Anything → Sure H F → Sure (Joined f G H) F
sure_then f G H F p q = sure_joined f G H Anything F (any H F) p q

pub sure_optional : {A : Type 0} (d : A) (G : List Spot → A → Type 0) (F : List Token → Type 0) → Sure G F → Never G F → Sure (Optional d G) F
sure_optional d G F sure never _ _ _ _ r s left_out left_out k l e = (refl, refl)
sure_optional d G F sure never _ v _ b r s left_out (present h) k l e = absurd (never v b s r h k e)
sure_optional d G F sure never u _ a _ r s (present g) left_out k l e = absurd (never u a r s g l (sym e))
sure_optional d G F sure never u v a b r s (present g) (present h) k l e = sure u v a b r s g h k l e

module _ {A : Type 0} (G : List Spot → A → Type 0) (F : List Token → Type 0) (sure : Sure G (Follow (Many G) F)) (never : Never G F) where
  pub sure_many : Sure (Many G) F
  sure_many _ _ _ _ r s no_more no_more k l e = (refl, refl)
  sure_many _ _ _ _ r s no_more (one_more {us = v} {vs = y} {a = b} h j) k l e = absurd (never v b (tokens_of y ++ s) r h k (e ∙ regroup v y s))
  sure_many _ _ _ _ r s (one_more {us = u} {vs = x} {a = a} g i) no_more k l e = absurd (never u a (tokens_of x ++ r) s g l (sym e ∙ regroup u x r))
  sure_many _ _ _ _ r s (one_more {us = u} {vs = x} {a = a} {xs = cs} g i) (one_more {us = v} {vs = y} {a = b} {xs = bs} h j) k l e =
      let moved : tokens_of u ++ (tokens_of x ++ r) ≡ tokens_of v ++ (tokens_of y ++ s) = sym (regroup u x r) ∙ e ∙ regroup v y s in
      let p = sure u v a b (tokens_of x ++ r) (tokens_of y ++ s) g h (follow i k) (follow j l) moved in
      let q = sure_many x y cs bs r s i j k l (cancel v x r (tokens_of y ++ s) (ap (λ (w : List Spot). tokens_of w ++ (tokens_of x ++ r)) (sym (p.0)) ∙ moved)) in
      (ap (λ (w : List Spot). w ++ x) (p.0) ∙ ap (λ (w : List Spot). v ++ w) (q.0), ap (λ (z : A). z ∷ cs) (p.1) ∙ ap (λ (z : List A). b ∷ z) (q.1))

  pub sure_some : Sure (OneOrMore G) F
  sure_some = sure_joined (λ a xs. a ∷ xs) G (Many G) (Follow (Many G) F) F (λ r f. f) sure sure_many

-- a key and a part
pub keyed_first : {A : Type 0} (k : Token) (G : List Spot → A → Type 0) (v : List Spot) (b : A) (s : List Token) → (Key k ▸ G) v b → Comes k (tokens_of v ++ s)
keyed_first k G _ _ s (joined {us = us} {vs = vs} {a = u} g h) = ap first (regroup us vs s) ∙ key_begins k us u (tokens_of vs ++ s) g

pub never_keyed : {A : Type 0} (k : Token) (G : List Spot → A → Type 0) (F : List Token → Type 0) → ((r : List Token) → F r → Except k r) → Never (Key k ▸ G) F
never_keyed k G F apart v b s r g f e = apart r f (ap first e ∙ keyed_first k G v b s g)

-- what follows an item of a list is its separator, or what follows the list
pub many_first : {A : Type 0} (k : Token) (G : List Spot → A → Type 0) (F : List Token → Type 0) (r : List Token) → Follow (Many (Key k ▸ G)) F r → (Comes k r) ⊎ F r
many_first k G F _ (follow {vs = vs} {r = r} {b = bs} h f) = from_many vs bs h
  where
    from_many : (v : List Spot) (xs : List _) → Many (Key k ▸ G) v xs → (Comes k (tokens_of v ++ r)) ⊎ F (tokens_of v ++ r)
    from_many _ _ no_more = inr f
    from_many _ _ (one_more {us = u} {vs = x} {a = a} g i) = inl (ap first (regroup u x r) ∙ keyed_first k G u a (tokens_of x ++ r) g)

module _ {A : Type 0} (k : Token) (G : List Spot → A → Type 0) (E F : List Token → Type 0) (less : (r : List Token) → (Comes k r) ⊎ F r → E r) (apart : (r : List Token) → F r → Except k r) (sure : Sure G E) where
  abbrev Rest : List Token → Type 0
  Rest = Follow (Many (Key k ▸ G)) F

  item : Sure G Rest
  item = sure_fewer G E Rest (λ r f. less r (many_first k G F r f)) sure

  pub sure_separated : Sure (Separated (Key k) G) F
  sure_separated = sure_joined (λ a xs. a ∷ xs) G (Many (Key k ▸ G)) Rest F (λ r f. f) item
      (sure_many (Key k ▸ G) F (sure_then (λ u b. b) (Key k) G Rest (sure_key k Anything) item) (never_keyed k G F apart))
