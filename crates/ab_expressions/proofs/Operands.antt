-- What a token does behind an operand, by its kind.
use Rattle.std.proofs.Common.{◌≡◌, ◌≢◌, ℕ, List, [], ◌∷◌, length, map, true, false, Option, Some, None, refl, ap, sym, subst, inr, arith}
use Rattle.ab_grammar.specs.declared.Infix.{Infix}
use Rattle.ab_grammar.specs.declared.Infix.TheVariants as signs_of
use Rattle.ab_grammar.specs.Token.{Token, Other, right_brace, colon, other, sign}
use Rattle.ab_grammar.specs.Tree.{Tree, judgement}
use Rattle.ab_grammar.proofs.Following.{Follower, by_right_paren, by_right_brace, by_right_bracket, by_turnstile, by_comma, by_colon, by_other}
use Rattle.ab_grammar.proofs.Machine.{Frame, State, Bare, compound, have, enclosed, step, finish, starts_operand, grow, step_have, step_enclosed, shut, Below, bottom, bracket, Bracket, paren, pi_paren, item_in, focus_in, goal_in, close, closing}
use Rattle.ab_expressions.specs.declared.kind.Kind.{Kind}
use Rattle.ab_expressions.specs.declared.kind.Kind.TheVariants as kind
use Rattle.ab_expressions.specs.declared.machine.Next.{Next}
use Rattle.ab_expressions.specs.declared.machine.State.{State as Read}
use Rattle.ab_expressions.specs.declared.tree.Parse.{Parse}
use Rattle.ab_expressions.specs.declared.machine.Next.TheVariants.{On, Done, Wrong}
use Rattle.ab_expressions.specs.Kinds.{meaning}
use Rattle.ab_expressions.specs.ReaderSteps.{follows, begins}
use Rattle.ab_expressions.specs.States.{Says, IsNext, IsClosed}

-- what goes on alike and has read alike
pub says_same : (o u : Option State) (x y : Option Tree) (k : Token) (fs : List Frame) (r : Next Read Parse) → o ≡ u → x ≡ y → Says u y k fs r → Says o x k fs r
says_same o u x y k fs r e f h = subst (λ (z : Option State). Says z x k fs r) (sym e) (subst (λ (z : Option Tree). Says u z k fs r) (sym f) h)

-- a token that can't follow an expression ends none
pub says_within : (o : Option State) (x : Option Tree) (k : Token) (fs : List Frame) (r : Next Read Parse) → (Follower (Some k) → ⊥) → Says o None k fs r → Says o x k fs r
says_within o x k fs (On t) n h = h
says_within o x k fs (Done t) n h = let bad = h.1 in absurd (cc)
says_within o x k fs Wrong n h = (h.0, inr n)

no_close_colon : (b : Bracket) (fs : List Frame) (t : Tree) → close b fs t colon ≡ None
no_close_colon paren fs t = refl
no_close_colon pi_paren fs t = refl
no_close_colon (item_in p []) fs t = refl
no_close_colon (item_in p (c ∷ cs)) fs t = refl
no_close_colon (focus_in p cs) fs t = refl
no_close_colon (goal_in p cs f) fs t = refl

no_closing_colon : (b : Below) (t : Tree) → closing b t colon ≡ None
no_closing_colon bottom t = refl
no_closing_colon (bracket b fs) t = no_close_colon b fs t

no_close_other : (o : Other) (b : Bracket) (fs : List Frame) (t : Tree) → close b fs t (other o) ≡ None
no_close_other o paren fs t = refl
no_close_other o pi_paren fs t = refl
no_close_other o (item_in p []) fs t = refl
no_close_other o (item_in p (c ∷ cs)) fs t = refl
no_close_other o (focus_in p cs) fs t = refl
no_close_other o (goal_in p cs f) fs t = refl

no_closing_other : (o : Other) (b : Below) (t : Tree) → closing b t (other o) ≡ None
no_closing_other o bottom t = refl
no_closing_other o (bracket b fs) t = no_close_other o b fs t

module _ (t : Tree) (fs gs : List Frame) where
  -- what can follow an expression closes a bracket, or nothing goes on
  closes : (k : Token) → Follower (Some k) → step_enclosed fs t k ≡ closing (shut t fs).below (shut t fs).inner k
  closes _ by_right_paren = refl
  closes _ by_right_brace = refl
  closes _ by_right_bracket = refl
  closes _ by_turnstile = refl
  closes _ by_comma = refl
  closes _ by_colon = sym (no_closing_colon (shut t fs).below (shut t fs).inner)
  closes _ (by_other o) = sym (no_closing_other o (shut t fs).below (shut t fs).inner)

  pub closed_next : (k : Token) → Follower (Some k) → (r : Next Read Parse) → IsClosed (shut t fs) k gs r → IsNext (enclosed fs t) k gs r
  closed_next k f r h = says_same (step_enclosed fs t k) _ (finish (enclosed fs t)) (finish (enclosed fs t)) k gs r (closes k f) refl h

  -- a judgement with no context ends
  pub closes_alone : {A : Type 0} (f : A → Tree) (xs : List A) (p : ℕ) (r : Tree) → length xs ≡ 0 → r ≡ judgement (map f xs) None t p → close (item_in p (map f xs)) fs t right_brace ≡ Some (have compound fs r)
  closes_alone f [] p r e h = ap (λ (u : Tree). Some (have compound fs u)) (sym h)
  closes_alone f (x ∷ xs) p r e h = absurd (omega (arith, e))

  -- neither a sign nor what can follow
  pub stuck_enclosed : (k : Kind) → follows k ≡ false → ((o : Infix) (w : List ℕ) (p : ℕ) → meaning k w p ≢ sign o) → (w : List ℕ) (p : ℕ) → step_enclosed fs t (meaning k w p) ≡ None
  stuck_enclosed kind.Word e n w p = refl
  stuck_enclosed kind.Truth e n w p = refl
  stuck_enclosed kind.Forall e n w p = refl
  stuck_enclosed kind.Exists e n w p = refl
  stuck_enclosed kind.Nabla e n w p = refl
  stuck_enclosed kind.Pi e n w p = refl
  stuck_enclosed kind.Arrow e n w p = absurd (n signs_of.Arrow w p refl)
  stuck_enclosed kind.Or e n w p = absurd (n signs_of.Or w p refl)
  stuck_enclosed kind.And e n w p = absurd (n signs_of.And w p refl)
  stuck_enclosed kind.Equal e n w p = absurd (n signs_of.Equal w p refl)
  stuck_enclosed kind.Imply e n w p = absurd (n signs_of.Imply w p refl)
  stuck_enclosed kind.Both e n w p = absurd (n signs_of.With w p refl)
  stuck_enclosed kind.Cons e n w p = absurd (n signs_of.Cons w p refl)
  stuck_enclosed kind.LeftParen e n w p = refl
  stuck_enclosed kind.LeftBrace e n w p = refl
  stuck_enclosed kind.RightParen e n w p = let bad : true ≡ false = e in absurd (cc)
  stuck_enclosed kind.RightBrace e n w p = let bad : true ≡ false = e in absurd (cc)
  stuck_enclosed kind.LeftBracket e n w p = refl
  stuck_enclosed kind.RightBracket e n w p = let bad : true ≡ false = e in absurd (cc)
  stuck_enclosed kind.Turnstile e n w p = let bad : true ≡ false = e in absurd (cc)
  stuck_enclosed kind.Backslash e n w p = refl
  stuck_enclosed kind.Comma e n w p = let bad : true ≡ false = e in absurd (cc)
  stuck_enclosed kind.Colon e n w p = let bad : true ≡ false = e in absurd (cc)
  stuck_enclosed kind.Stop e n w p = let bad : true ≡ false = e in absurd (cc)
  stuck_enclosed kind.Semicolon e n w p = let bad : true ≡ false = e in absurd (cc)
  stuck_enclosed kind.Becomes e n w p = let bad : true ≡ false = e in absurd (cc)
  stuck_enclosed kind.From e n w p = let bad : true ≡ false = e in absurd (cc)
  stuck_enclosed kind.Star e n w p = let bad : true ≡ false = e in absurd (cc)
  stuck_enclosed kind.Back e n w p = let bad : true ≡ false = e in absurd (cc)
  stuck_enclosed kind.Reset e n w p = let bad : true ≡ false = e in absurd (cc)
  stuck_enclosed kind.By e n w p = let bad : true ≡ false = e in absurd (cc)
  stuck_enclosed kind.To e n w p = let bad : true ≡ false = e in absurd (cc)
  stuck_enclosed kind.With e n w p = let bad : true ≡ false = e in absurd (cc)
  stuck_enclosed kind.On e n w p = let bad : true ≡ false = e in absurd (cc)
  stuck_enclosed kind.Type e n w p = let bad : true ≡ false = e in absurd (cc)
  stuck_enclosed kind.Number e n w p = let bad : true ≡ false = e in absurd (cc)
  stuck_enclosed kind.Text e n w p = let bad : true ≡ false = e in absurd (cc)
  stuck_enclosed kind.Unusable e n w p = let bad : true ≡ false = e in absurd (cc)

  -- where an argument begins
  begun : (k : Kind) → begins k ≡ true → (w : List ℕ) (p : ℕ) → (step_have compound fs t (meaning k w p) ≡ starts_operand (grow fs t) (meaning k w p)) × (Follower (Some (meaning k w p)) → ⊥)
  begun kind.Word e w p = (refl, λ f. elim f [ ])
  begun kind.Truth e w p = (refl, λ f. elim f [ ])
  begun kind.Forall e w p = (refl, λ f. elim f [ ])
  begun kind.Exists e w p = (refl, λ f. elim f [ ])
  begun kind.Nabla e w p = (refl, λ f. elim f [ ])
  begun kind.Pi e w p = let bad : false ≡ true = e in absurd (cc)
  begun kind.Arrow e w p = let bad : false ≡ true = e in absurd (cc)
  begun kind.Or e w p = let bad : false ≡ true = e in absurd (cc)
  begun kind.And e w p = let bad : false ≡ true = e in absurd (cc)
  begun kind.Equal e w p = let bad : false ≡ true = e in absurd (cc)
  begun kind.Imply e w p = let bad : false ≡ true = e in absurd (cc)
  begun kind.Both e w p = let bad : false ≡ true = e in absurd (cc)
  begun kind.Cons e w p = let bad : false ≡ true = e in absurd (cc)
  begun kind.LeftParen e w p = (refl, λ f. elim f [ ])
  begun kind.LeftBrace e w p = (refl, λ f. elim f [ ])
  begun kind.RightParen e w p = let bad : false ≡ true = e in absurd (cc)
  begun kind.RightBrace e w p = let bad : false ≡ true = e in absurd (cc)
  begun kind.LeftBracket e w p = let bad : false ≡ true = e in absurd (cc)
  begun kind.RightBracket e w p = let bad : false ≡ true = e in absurd (cc)
  begun kind.Turnstile e w p = let bad : false ≡ true = e in absurd (cc)
  begun kind.Backslash e w p = let bad : false ≡ true = e in absurd (cc)
  begun kind.Comma e w p = let bad : false ≡ true = e in absurd (cc)
  begun kind.Colon e w p = let bad : false ≡ true = e in absurd (cc)
  begun kind.Stop e w p = let bad : false ≡ true = e in absurd (cc)
  begun kind.Semicolon e w p = let bad : false ≡ true = e in absurd (cc)
  begun kind.Becomes e w p = let bad : false ≡ true = e in absurd (cc)
  begun kind.From e w p = let bad : false ≡ true = e in absurd (cc)
  begun kind.Star e w p = let bad : false ≡ true = e in absurd (cc)
  begun kind.Back e w p = let bad : false ≡ true = e in absurd (cc)
  begun kind.Reset e w p = let bad : false ≡ true = e in absurd (cc)
  begun kind.By e w p = let bad : false ≡ true = e in absurd (cc)
  begun kind.To e w p = let bad : false ≡ true = e in absurd (cc)
  begun kind.With e w p = let bad : false ≡ true = e in absurd (cc)
  begun kind.On e w p = let bad : false ≡ true = e in absurd (cc)
  begun kind.Type e w p = let bad : false ≡ true = e in absurd (cc)
  begun kind.Number e w p = let bad : false ≡ true = e in absurd (cc)
  begun kind.Text e w p = let bad : false ≡ true = e in absurd (cc)
  begun kind.Unusable e w p = let bad : false ≡ true = e in absurd (cc)

  pub have_begun : (k : Kind) → begins k ≡ true → (w : List ℕ) (p : ℕ) → (r : Next Read Parse) → Says (starts_operand (grow fs t) (meaning k w p)) None (meaning k w p) gs r → IsNext (have compound fs t) (meaning k w p) gs r
  have_begun k e w p r h =
      let b = begun k e w p in
      says_within (step_have compound fs t (meaning k w p)) (finish (have compound fs t)) (meaning k w p) gs r b.1 (says_same _ _ None None (meaning k w p) gs r b.0 refl h)

  -- where no argument begins
  same_have : (k : Kind) → begins k ≡ false → (w : List ℕ) (p : ℕ) → step_have compound fs t (meaning k w p) ≡ step_enclosed fs t (meaning k w p)
  same_have kind.Word e w p = let bad : true ≡ false = e in absurd (cc)
  same_have kind.Truth e w p = let bad : true ≡ false = e in absurd (cc)
  same_have kind.Forall e w p = let bad : true ≡ false = e in absurd (cc)
  same_have kind.Exists e w p = let bad : true ≡ false = e in absurd (cc)
  same_have kind.Nabla e w p = let bad : true ≡ false = e in absurd (cc)
  same_have kind.Pi e w p = refl
  same_have kind.Arrow e w p = refl
  same_have kind.Or e w p = refl
  same_have kind.And e w p = refl
  same_have kind.Equal e w p = refl
  same_have kind.Imply e w p = refl
  same_have kind.Both e w p = refl
  same_have kind.Cons e w p = refl
  same_have kind.LeftParen e w p = let bad : true ≡ false = e in absurd (cc)
  same_have kind.LeftBrace e w p = let bad : true ≡ false = e in absurd (cc)
  same_have kind.RightParen e w p = refl
  same_have kind.RightBrace e w p = refl
  same_have kind.LeftBracket e w p = refl
  same_have kind.RightBracket e w p = refl
  same_have kind.Turnstile e w p = refl
  same_have kind.Backslash e w p = refl
  same_have kind.Comma e w p = refl
  same_have kind.Colon e w p = refl
  same_have kind.Stop e w p = refl
  same_have kind.Semicolon e w p = refl
  same_have kind.Becomes e w p = refl
  same_have kind.From e w p = refl
  same_have kind.Star e w p = refl
  same_have kind.Back e w p = refl
  same_have kind.Reset e w p = refl
  same_have kind.By e w p = refl
  same_have kind.To e w p = refl
  same_have kind.With e w p = refl
  same_have kind.On e w p = refl
  same_have kind.Type e w p = refl
  same_have kind.Number e w p = refl
  same_have kind.Text e w p = refl
  same_have kind.Unusable e w p = refl

  pub have_enclosed : (k : Kind) → begins k ≡ false → (w : List ℕ) (p : ℕ) → (r : Next Read Parse) → IsNext (enclosed fs t) (meaning k w p) gs r → IsNext (have compound fs t) (meaning k w p) gs r
  have_enclosed k e w p r h = says_same (step_have compound fs t (meaning k w p)) _ (finish (have compound fs t)) (finish (enclosed fs t)) (meaning k w p) gs r (same_have k e w p) refl h

  -- where no backslash comes
  pub same_alone : (b : Bare) (k : Kind) → (k ≡ kind.Backslash → ⊥) → (w : List ℕ) (p : ℕ) → step (have b fs t) (meaning k w p) ≡ step (have compound fs t) (meaning k w p)
  same_alone b kind.Word n w p = refl
  same_alone b kind.Truth n w p = refl
  same_alone b kind.Forall n w p = refl
  same_alone b kind.Exists n w p = refl
  same_alone b kind.Nabla n w p = refl
  same_alone b kind.Pi n w p = refl
  same_alone b kind.Arrow n w p = refl
  same_alone b kind.Or n w p = refl
  same_alone b kind.And n w p = refl
  same_alone b kind.Equal n w p = refl
  same_alone b kind.Imply n w p = refl
  same_alone b kind.Both n w p = refl
  same_alone b kind.Cons n w p = refl
  same_alone b kind.LeftParen n w p = refl
  same_alone b kind.LeftBrace n w p = refl
  same_alone b kind.RightParen n w p = refl
  same_alone b kind.RightBrace n w p = refl
  same_alone b kind.LeftBracket n w p = refl
  same_alone b kind.RightBracket n w p = refl
  same_alone b kind.Turnstile n w p = refl
  same_alone b kind.Backslash n w p = absurd (n refl)
  same_alone b kind.Comma n w p = refl
  same_alone b kind.Colon n w p = refl
  same_alone b kind.Stop n w p = refl
  same_alone b kind.Semicolon n w p = refl
  same_alone b kind.Becomes n w p = refl
  same_alone b kind.From n w p = refl
  same_alone b kind.Star n w p = refl
  same_alone b kind.Back n w p = refl
  same_alone b kind.Reset n w p = refl
  same_alone b kind.By n w p = refl
  same_alone b kind.To n w p = refl
  same_alone b kind.With n w p = refl
  same_alone b kind.On n w p = refl
  same_alone b kind.Type n w p = refl
  same_alone b kind.Number n w p = refl
  same_alone b kind.Text n w p = refl
  same_alone b kind.Unusable n w p = refl
