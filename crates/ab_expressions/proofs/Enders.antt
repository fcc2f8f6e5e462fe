-- What can follow a type and an expression, by its kind.
use Rattle.std.proofs.Common.{◌≡◌, ℕ, List, true, false, Some, None, Result, Ok, Err, IfOk, refl, ap, sym, subst}
use Rattle.ab_grammar.specs.Token.{Token, right_paren}
use Rattle.ab_grammar.specs.Tree.{Ty}
use Rattle.ab_grammar.proofs.Following.{Follower, by_right_paren, by_right_brace, by_right_bracket, by_turnstile, by_comma, by_colon, by_other}
use Rattle.ab_grammar.proofs.Machine.{TypeFrame, TypeShut, type_have, type_shut, type_closed, type_whole, type_step, type_finish}
use Rattle.ab_expressions.specs.declared.kind.Kind.{Kind}
use Rattle.ab_expressions.specs.declared.kind.Kind.TheVariants as kind
use Rattle.ab_expressions.specs.Kinds.{meaning}
use Rattle.ab_expressions.specs.ReaderSteps.{follows}

pub if_ok : {X E : Type 0} {P Q : X → Type 0} (r : Result X E) → ((x : X) → P x → Q x) → IfOk r P → IfOk r Q
if_ok (Ok x) f h = f x h
if_ok (Err e) f h = tt

pub follower : (k : Kind) (w : List ℕ) (p : ℕ) → follows k ≡ true → Follower (Some (meaning k w p))
follower kind.RightParen w p e = by_right_paren
follower kind.RightBrace w p e = by_right_brace
follower kind.RightBracket w p e = by_right_bracket
follower kind.Turnstile w p e = by_turnstile
follower kind.Comma w p e = by_comma
follower kind.Colon w p e = by_colon
follower kind.Stop w p e = by_other _
follower kind.Semicolon w p e = by_other _
follower kind.Becomes w p e = by_other _
follower kind.From w p e = by_other _
follower kind.Star w p e = by_other _
follower kind.Back w p e = by_other _
follower kind.Reset w p e = by_other _
follower kind.By w p e = by_other _
follower kind.To w p e = by_other _
follower kind.With w p e = by_other _
follower kind.On w p e = by_other _
follower kind.Type w p e = by_other _
follower kind.Number w p e = by_other _
follower kind.Text w p e = by_other _
follower kind.Unusable w p e = by_other _
follower kind.Word w p e = absurd (cc)
follower kind.Truth w p e = absurd (cc)
follower kind.Forall w p e = absurd (cc)
follower kind.Exists w p e = absurd (cc)
follower kind.Nabla w p e = absurd (cc)
follower kind.Pi w p e = absurd (cc)
follower kind.Arrow w p e = absurd (cc)
follower kind.Or w p e = absurd (cc)
follower kind.And w p e = absurd (cc)
follower kind.Equal w p e = absurd (cc)
follower kind.Imply w p e = absurd (cc)
follower kind.Both w p e = absurd (cc)
follower kind.Cons w p e = absurd (cc)
follower kind.LeftParen w p e = absurd (cc)
follower kind.LeftBrace w p e = absurd (cc)
follower kind.LeftBracket w p e = absurd (cc)
follower kind.Backslash w p e = absurd (cc)

pub no_follower : (k : Kind) (w : List ℕ) (p : ℕ) → follows k ≡ false → Follower (Some (meaning k w p)) → ⊥
no_follower kind.RightParen w p e f = let bad : true ≡ false = e in absurd (cc)
no_follower kind.RightBrace w p e f = let bad : true ≡ false = e in absurd (cc)
no_follower kind.RightBracket w p e f = let bad : true ≡ false = e in absurd (cc)
no_follower kind.Turnstile w p e f = let bad : true ≡ false = e in absurd (cc)
no_follower kind.Comma w p e f = let bad : true ≡ false = e in absurd (cc)
no_follower kind.Colon w p e f = let bad : true ≡ false = e in absurd (cc)
no_follower kind.Stop w p e f = let bad : true ≡ false = e in absurd (cc)
no_follower kind.Semicolon w p e f = let bad : true ≡ false = e in absurd (cc)
no_follower kind.Becomes w p e f = let bad : true ≡ false = e in absurd (cc)
no_follower kind.From w p e f = let bad : true ≡ false = e in absurd (cc)
no_follower kind.Star w p e f = let bad : true ≡ false = e in absurd (cc)
no_follower kind.Back w p e f = let bad : true ≡ false = e in absurd (cc)
no_follower kind.Reset w p e f = let bad : true ≡ false = e in absurd (cc)
no_follower kind.By w p e f = let bad : true ≡ false = e in absurd (cc)
no_follower kind.To w p e f = let bad : true ≡ false = e in absurd (cc)
no_follower kind.With w p e f = let bad : true ≡ false = e in absurd (cc)
no_follower kind.On w p e f = let bad : true ≡ false = e in absurd (cc)
no_follower kind.Type w p e f = let bad : true ≡ false = e in absurd (cc)
no_follower kind.Number w p e f = let bad : true ≡ false = e in absurd (cc)
no_follower kind.Text w p e f = let bad : true ≡ false = e in absurd (cc)
no_follower kind.Unusable w p e f = let bad : true ≡ false = e in absurd (cc)
no_follower kind.Word w p e f = elim f [ ]
no_follower kind.Truth w p e f = elim f [ ]
no_follower kind.Forall w p e f = elim f [ ]
no_follower kind.Exists w p e f = elim f [ ]
no_follower kind.Nabla w p e f = elim f [ ]
no_follower kind.Pi w p e f = elim f [ ]
no_follower kind.Arrow w p e f = elim f [ ]
no_follower kind.Or w p e f = elim f [ ]
no_follower kind.And w p e f = elim f [ ]
no_follower kind.Equal w p e f = elim f [ ]
no_follower kind.Imply w p e f = elim f [ ]
no_follower kind.Both w p e f = elim f [ ]
no_follower kind.Cons w p e f = elim f [ ]
no_follower kind.LeftParen w p e f = elim f [ ]
no_follower kind.LeftBrace w p e f = elim f [ ]
no_follower kind.LeftBracket w p e f = elim f [ ]
no_follower kind.Backslash w p e f = elim f [ ]

-- what can follow a type, behind one that is shut
module _ (gs : List TypeFrame) (A B : Ty) where
  stopped : (k : Token) → Follower (Some k) → (k ≡ right_paren → type_step (type_have gs A) k ≡ None) → type_step (type_have gs A) k ≡ None
  stopped _ by_right_paren h = h refl
  stopped _ by_right_brace h = refl
  stopped _ by_right_bracket h = refl
  stopped _ by_turnstile h = refl
  stopped _ by_comma h = refl
  stopped _ by_colon h = refl
  stopped _ (by_other o) h = refl

  pub type_ended : (k : Token) → Follower (Some k) → type_shut A gs ≡ record { inner = B; below = None } → (type_step (type_have gs A) k ≡ None) × (type_finish (type_have gs A) ≡ Some B)
  type_ended k f e = (stopped k f (λ q. subst (λ (j : Token). type_step (type_have gs A) j ≡ None) (sym q) (ap (λ (s : TypeShut). type_closed s.below s.inner) e)), ap (λ (s : TypeShut). type_whole s.below s.inner) e)

  pub type_enclosed : (k : Token) (hs : List TypeFrame) → Follower (Some k) → (k ≡ right_paren → ⊥) → type_shut A gs ≡ record { inner = B; below = Some hs } → (type_step (type_have gs A) k ≡ None) × (type_finish (type_have gs A) ≡ None)
  type_enclosed k hs f n e = (stopped k f (λ q. absurd (n q)), ap (λ (s : TypeShut). type_whole s.below s.inner) e)

-- what neither goes on with a type nor can follow one
pub type_stuck : (gs : List TypeFrame) (A : Ty) (k : Kind) (w : List ℕ) (p : ℕ) → follows k ≡ false → (k ≡ kind.Arrow → ⊥) → type_step (type_have gs A) (meaning k w p) ≡ None
type_stuck gs A kind.Arrow w p e n = absurd (n refl)
type_stuck gs A kind.RightParen w p e n = let bad : true ≡ false = e in absurd (cc)
type_stuck gs A kind.Word w p e n = refl
type_stuck gs A kind.Truth w p e n = refl
type_stuck gs A kind.Forall w p e n = refl
type_stuck gs A kind.Exists w p e n = refl
type_stuck gs A kind.Nabla w p e n = refl
type_stuck gs A kind.Pi w p e n = refl
type_stuck gs A kind.Or w p e n = refl
type_stuck gs A kind.And w p e n = refl
type_stuck gs A kind.Equal w p e n = refl
type_stuck gs A kind.Imply w p e n = refl
type_stuck gs A kind.Both w p e n = refl
type_stuck gs A kind.Cons w p e n = refl
type_stuck gs A kind.LeftParen w p e n = refl
type_stuck gs A kind.LeftBrace w p e n = refl
type_stuck gs A kind.RightBrace w p e n = refl
type_stuck gs A kind.LeftBracket w p e n = refl
type_stuck gs A kind.RightBracket w p e n = refl
type_stuck gs A kind.Turnstile w p e n = refl
type_stuck gs A kind.Backslash w p e n = refl
type_stuck gs A kind.Comma w p e n = refl
type_stuck gs A kind.Colon w p e n = refl
type_stuck gs A kind.Stop w p e n = refl
type_stuck gs A kind.Semicolon w p e n = refl
type_stuck gs A kind.Becomes w p e n = refl
type_stuck gs A kind.From w p e n = refl
type_stuck gs A kind.Star w p e n = refl
type_stuck gs A kind.Back w p e n = refl
type_stuck gs A kind.Reset w p e n = refl
type_stuck gs A kind.By w p e n = refl
type_stuck gs A kind.To w p e n = refl
type_stuck gs A kind.With w p e n = refl
type_stuck gs A kind.On w p e n = refl
type_stuck gs A kind.Type w p e n = refl
type_stuck gs A kind.Number w p e n = refl
type_stuck gs A kind.Text w p e n = refl
type_stuck gs A kind.Unusable w p e n = refl
