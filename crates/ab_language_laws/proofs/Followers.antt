-- What follows the items of lists.
use Rattle.std.proofs.Common.{◌≡◌, ℕ, List, Some, refl, ap, sym, ◌∙◌, ◌⊎◌, inl, inr}
use Rattle.ab_grammar.specs.Token.{Token, word, comma, other, stop, semicolon, by_word, with_word, number}
use Rattle.ab_grammar.specs.Language.{Key, Expression}
use Rattle.ab_grammar.proofs.Following.{first, Follow, Followed, Anything, by_comma, by_other, Comes, Except, BeforeStop, ClauseEnds, ArgumentsEnd}
use Rattle.ab_grammar.specs.CommandTrees as tree
use Rattle.ab_grammar.specs.CommandForms.{Many, ◌▸◌}
use Rattle.ab_grammar.specs.CommandTable.{Definiendum, InstanceForm, ClauseForm, ShowsName, shows_name, ShowsArgument, shows_named, shows_hole, ShowsNumber, shows_number}
use Rattle.ab_grammar.proofs.Looping.{follows_item}
use Rattle.ab_grammar.proofs.Continuing.{Apart}
use Rattle.ab_grammar.proofs.Beginnings.{followed_by, followed_by_stop}

-- a definiendum is followed by a comma, or by `by`
pub by_no_comma : (r : List Token) → Comes (other by_word) r → Except comma r
by_no_comma r e f = absurd (cc)

comma_or_by : (r : List Token) → (Comes comma r) ⊎ (Comes (other by_word) r) → Followed r
comma_or_by r (inl e) = followed_by r comma e by_comma
comma_or_by r (inr e) = followed_by r (other by_word) e (by_other by_word)

pub definiendum_ends : (r : List Token) → Follow (Many (Key comma ▸ Definiendum)) (Comes (other by_word)) r → Followed r
definiendum_ends r f = comma_or_by r (follows_item comma Definiendum Anything (Comes (other by_word)) by_no_comma (λ r f. tt) r f)

-- an instance and a goal by a comma, or by the full stop
pub stop_no_comma : (r : List Token) → BeforeStop r → Except comma r
stop_no_comma r e f = absurd (cc)

comma_or_stop : (r : List Token) → (Comes comma r) ⊎ BeforeStop r → Followed r
comma_or_stop r (inl e) = followed_by r comma e by_comma
comma_or_stop r (inr e) = followed_by_stop r e

pub instance_ends : (r : List Token) → Follow (Many (Key comma ▸ InstanceForm)) BeforeStop r → Followed r
instance_ends r f = comma_or_stop r (follows_item comma InstanceForm Anything BeforeStop stop_no_comma (λ r f. tt) r f)

pub goal_ends : (r : List Token) → Follow (Many (Key comma ▸ Expression)) BeforeStop r → Followed r
goal_ends r f = comma_or_stop r (follows_item comma Expression Anything BeforeStop stop_no_comma (λ r f. tt) r f)

-- a clause by a semicolon, or by the full stop
pub stop_no_semicolon : (r : List Token) → BeforeStop r → Except (other semicolon) r
stop_no_semicolon r e f = absurd (cc)

pub clause_ends : (r : List Token) → Follow (Many (Key (other semicolon) ▸ ClauseForm)) BeforeStop r → ClauseEnds r
clause_ends r f = follows_item (other semicolon) ClauseForm Anything BeforeStop stop_no_semicolon (λ r f. tt) r f

-- a name and a number aren't the full stop, and an argument neither that nor `with`
name_is_word : (k : Token) (x : List ℕ) → ShowsName k x → (y : List ℕ) × (p : ℕ) × (k ≡ word y p)
name_is_word _ _ (shows_name x p) = (x, p, refl)

pub names_end : (k : Token) (ms : List Token) (x : List ℕ) → first ms ≡ Some k → ShowsName k x → Apart BeforeStop ms
names_end k ms x q s r e f = let w = name_is_word k x s in let bad : Some (other stop) ≡ Some (word w.0 w.1) = sym e ∙ f ∙ q ∙ ap Some w.2 in absurd (cc)

number_is_number : (k : Token) (n : ℕ) → ShowsNumber k n → k ≡ other (number n)
number_is_number _ _ (shows_number n) = refl

pub numbers_end : (k : Token) (ms : List Token) (n : ℕ) → first ms ≡ Some k → ShowsNumber k n → Apart BeforeStop ms
numbers_end k ms n q s r e f = let bad : Some (other stop) ≡ Some (other (number n)) = sym e ∙ f ∙ q ∙ ap Some (number_is_number k n s) in absurd (cc)

argument_is_word : (k : Token) (a : tree.Argument) → ShowsArgument k a → (y : List ℕ) × (p : ℕ) × (k ≡ word y p)
argument_is_word _ _ (shows_named x p n) = (x, p, refl)
argument_is_word _ _ (shows_hole p) = (_, p, refl)

pub arguments_end : (k : Token) (ms : List Token) (a : tree.Argument) → first ms ≡ Some k → ShowsArgument k a → Apart ArgumentsEnd ms
arguments_end k ms a q s r (inl e) f = let w = argument_is_word k a s in let bad : Some (other with_word) ≡ Some (word w.0 w.1) = sym e ∙ f ∙ q ∙ ap Some w.2 in absurd (cc)
arguments_end k ms a q s r (inr e) f = let w = argument_is_word k a s in let bad : Some (other stop) ≡ Some (word w.0 w.1) = sym e ∙ f ∙ q ∙ ap Some w.2 in absurd (cc)
