-- What can't show a name, a number or an argument behind them.
use Rattle.std.proofs.Common.{◌≡◌, ℕ, List, Some, refl, ap, sym, ◌∙◌, inl, inr}
use Rattle.ab_grammar.specs.Token.{Token, word, other, stop, with_word, number}
use Rattle.ab_grammar.proofs.Following.{first, Without, BeforeStop, ArgumentsEnd}
use Rattle.ab_grammar.specs.CommandTrees as tree
use Rattle.ab_grammar.specs.CommandTable.{ShowsName, shows_name, ShowsArgument, shows_named, shows_hole, ShowsNumber, shows_number}

-- a name isn't the full stop, and an argument neither that nor `with`
name_is_word : (k : Token) (x : List ℕ) → ShowsName k x → (y : List ℕ) × (p : ℕ) × (k ≡ word y p)
name_is_word _ _ (shows_name x p) = (x, p, refl)

argument_is_word : (k : Token) (a : tree.Argument) → ShowsArgument k a → (y : List ℕ) × (p : ℕ) × (k ≡ word y p)
argument_is_word _ _ (shows_named x p n) = (x, p, refl)
argument_is_word _ _ (shows_hole p) = (_, p, refl)

word_not : (r : List Token) (k j : Token) → first r ≡ Some k → first r ≡ Some j → ((y : List ℕ) × (p : ℕ) × (j ≡ word y p)) → ((y : List ℕ) (p : ℕ) → k ≡ word y p → ⊥) → ⊥
word_not r k j e f w n = let same : k ≡ j = (let both : Some k ≡ Some j = sym e ∙ f in cc) in n (w.0) (w.1) (same ∙ w.2)

-- so none shows a name or an argument
pub no_name_at_end : (r : List Token) → BeforeStop r → Without ShowsName r
no_name_at_end r f k x e s = word_not r (other stop) k f e (name_is_word k x s) (λ y p q. absurd (cc))

number_is_number : (k : Token) (n : ℕ) → ShowsNumber k n → k ≡ other (number n)
number_is_number _ _ (shows_number n) = refl

pub no_number_at_end : (r : List Token) → BeforeStop r → Without ShowsNumber r
no_number_at_end r f k n e s = let bad : Some (other stop) ≡ Some (other (number n)) = sym f ∙ e ∙ ap Some (number_is_number k n s) in absurd (cc)

pub no_argument_at_end : (r : List Token) → ArgumentsEnd r → Without ShowsArgument r
no_argument_at_end r (inl f) k a e s = word_not r (other with_word) k f e (argument_is_word k a s) (λ y p q. absurd (cc))
no_argument_at_end r (inr f) k a e s = word_not r (other stop) k f e (argument_is_word k a s) (λ y p q. absurd (cc))
