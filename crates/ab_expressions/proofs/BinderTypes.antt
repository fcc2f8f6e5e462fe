-- The type of a binder, where no type goes on.
use Rattle.std.proofs.Common.{◌≡◌, ℕ, List, Option, Some, None, refl, ap, ◌∙◌, ◌⊎◌, inl, inr}
use Rattle.ab_grammar.specs.declared.Quant.{Quant}
use Rattle.ab_grammar.specs.Token.{Token, right_paren}
use Rattle.ab_grammar.specs.Tree.{Ty, Binder}
use Rattle.ab_grammar.proofs.Following.{Follower, by_right_paren}
use Rattle.ab_grammar.proofs.Machine.{Frame, TypeState, type_step, type_finish, binder_on, binder_done}

module _ (fs : List Frame) (q : Quant) (p : ℕ) (bs : List Binder) (x : List ℕ) (r : ℕ) where
  ended : (A : Option Ty) (k : Token) → (A ≡ None) ⊎ (Follower (Some k) → ⊥) → binder_done fs q p bs x r A k ≡ None
  ended None k h = refl
  ended (Some A) k (inl e) = absurd (cc)
  ended (Some A) right_paren (inr n) = absurd (n by_right_paren)
  ended (Some A) k (inr n) = refl

  module _ (s : TypeState) where
    pub never_closed : (k : Token) → type_step s k ≡ None → (type_finish s ≡ None) ⊎ (Follower (Some k) → ⊥) → binder_on fs q p bs x r (type_step s k) (type_finish s) k ≡ None
    never_closed k e h = ap (λ o. binder_on fs q p bs x r o (type_finish s) k) e ∙ ended (type_finish s) k h
