-- Parts that are one token: taken where the token shows a value, and refused where it shows none.
use Rattle.std.proofs.Common.{◌≡◌, ℕ, ◌+◌, List, Option, Some, None, MatchOption, ok_or, refl, sym, ◌∙◌, ap, subst}
use Rattle.std.specs.Str.Parse.{digits_value}
use Rattle.ab_grammar.specs.Token.{Token, word, other, number, text}
use Rattle.ab_grammar.proofs.Following.{Anything, Showing, Without}
use Rattle.ab_grammar.proofs.Reading.{ReadsOff, StopsAt}
use Rattle.ab_grammar.specs.CommandForms.{One}
use Rattle.ab_grammar.proofs.Joining.{Example}
use Rattle.ab_grammar.proofs.Choosing.{one_reads, one_stops}
use Rattle.ab_grammar.proofs.Shown.{ShowsOne}
use Rattle.ab_grammar.specs.CommandTrees as tree
use Rattle.ab_grammar.specs.CommandTable.{IsDeclarable, IsNominal, ShowsName, shows_name, ShowsDeclared, shows_declared, ShowsNominal, shows_nominal, ShowsArgument, shows_named, shows_hole, ShowsNumber, shows_number, ShowsDepth, shows_depth, ShowsLimit, shows_limit, ShowsText, shows_text, StandsAnywhere, stands_at}
use Rattle.ab_expressions.specs.declared.located_tokens.Seen.{Seen}
use Rattle.ab_expressions.specs.declared.text.Text.{Text}
use Rattle.ab_expressions.specs.declared.kind.Kind.{Kind}
use Rattle.ab_expressions.specs.declared.kind.Kind.TheVariants as kind
use Rattle.ab_syntax.specs.declared.leaf.NumberForm.TheVariants.{Nominal}
use Rattle.ab_expressions.specs.declared.stop.Stop.TheVariants.{Syntax}
use Rattle.ab_expressions.specs.Tokens.{unquoted}
use Rattle.ab_expressions.specs.Kinds.{kind_of, meaning}
use Rattle.ab_expressions.specs.Reader.{seen, rest, Found}
use Rattle.ab_syntax.specs.Leaves.{Leaf, number_form, IsShown, IsTakenNext}
use Rattle.ab_expressions.proofs.Meanings.{kind_meant}
use Rattle.ab_expressions.proofs.Places.{rest_key}

module _ {A : Type 0} (Shows : Token → A → Type 0) (t : Text) (i : ℕ) where
  pub takes : ShowsOne Shows → (a : A) → Showing Shows a (rest t i) → ReadsOff (One Shows) Anything (rest t i) a (rest t (i + 1))
  takes shows a (k, e, s) = subst (λ (w : List Token). ReadsOff (One Shows) Anything w a (rest t (i + 1))) (sym (rest_key t i k e)) (one_reads Shows k a (rest t (i + 1)) s (λ b r. shows k a b s r))

  pub takes_none : Example (One Shows) → Without Shows (rest t i) → StopsAt (One Shows) Anything (rest t i) (rest t i)
  takes_none x n = one_stops Shows (rest t i) x n

-- what was taken of the next token
module _ {X : Type 0} (leaf : Leaf X) (t : Text) (i j : ℕ) where
  pub taken_or_not : (o : Option X) → IsTakenNext leaf t i j o → Found (One leaf.shows) Anything leaf.meant (rest t i) (rest t j) (ok_or o Syntax)
  taken_or_not (Some x) (s, h, e) = rw e (takes leaf.shows t i leaf.one (leaf.meant x) s)
  taken_or_not None (n, e) = rw e (takes_none leaf.shows t i leaf.example n)

-- the token that was seen, by its kind
module _ (s : Seen) where
  pub word_seen : s.kind ≡ kind.Word → seen s ≡ word s.written.now s.place
  word_seen e = ap (λ (k : Kind). meaning k s.written.now s.place) e

  pub number_seen : s.kind ≡ kind.Number → seen s ≡ other (number (digits_value 10 s.written.now))
  number_seen e = ap (λ (k : Kind). meaning k s.written.now s.place) e

  pub text_seen : s.kind ≡ kind.Text → seen s ≡ other (text (unquoted s.written.now))
  text_seen e = ap (λ (k : Kind). meaning k s.written.now s.place) e

  -- the kind that a token's own kind is
  pub of_kind : (k : Kind) → kind_of (seen s) ≡ k → s.kind ≡ k
  of_kind k e = sym (kind_meant s.kind s.written.now s.place) ∙ e

-- which kind of token shows a value
pub name_kind : (k : Token) (x : List ℕ) → ShowsName k x → kind_of k ≡ kind.Word
name_kind _ _ (shows_name x p) = refl

pub declared_kind : (k : Token) (x : List ℕ) → ShowsDeclared k x → kind_of k ≡ kind.Word
declared_kind _ _ (shows_declared x p d) = refl

pub nominal_kind : (k : Token) (n : ℕ) → ShowsNominal k n → kind_of k ≡ kind.Word
nominal_kind _ _ (shows_nominal x p n h) = refl

pub argument_kind : (k : Token) (a : tree.Argument) → ShowsArgument k a → kind_of k ≡ kind.Word
argument_kind _ _ (shows_named x p n) = refl
argument_kind _ _ (shows_hole p) = refl

pub number_kind : (k : Token) (n : ℕ) → ShowsNumber k n → kind_of k ≡ kind.Number
number_kind _ _ (shows_number n) = refl

pub depth_kind : (k : Token) (n : ℕ) → ShowsDepth k n → kind_of k ≡ kind.Number
depth_kind _ _ (shows_depth n h) = refl

pub limit_kind : (k : Token) (n : ℕ) → ShowsLimit k n → kind_of k ≡ kind.Number
limit_kind _ _ (shows_limit n l h) = refl

pub text_kind : (k : Token) (x : List ℕ) → ShowsText k x → kind_of k ≡ kind.Text
text_kind _ _ (shows_text x) = refl

pub placed_kind : (x : List ℕ) (k : Token) (u : Unit {0}) → StandsAnywhere (word x) k u → kind_of k ≡ kind.Word
placed_kind x _ _ (stands_at p) = refl

-- what the word shows that a token is
pub word_shown : {A : Type 0} (Shows : Token → A → Type 0) (a : A) (x w : List ℕ) (p : ℕ) (k : Token) → k ≡ word w p → x ≡ w → Shows (word x p) a → Shows k a
word_shown Shows a x w p k e s d = subst (λ (j : Token). Shows j a) (sym (e ∙ ap (λ (y : List ℕ). word y p) (sym s))) d

pub declared_in : (w : List ℕ) (p : ℕ) (k : Token) → k ≡ word w p → (x : List ℕ) → ShowsDeclared k x → IsDeclarable w
declared_in w p _ e _ (shows_declared x q d) = let same : x ≡ w = cc in subst IsDeclarable same d

nominal_in : (w : List ℕ) (p : ℕ) (k : Token) → k ≡ word w p → (n : ℕ) → ShowsNominal k n → IsNominal w n
nominal_in w p _ e _ (shows_nominal x q n d) = let same : x ≡ w = cc in subst (λ (y : List ℕ). IsNominal y n) same d

pub nominal_where : (w : List ℕ) (p : ℕ) (k : Token) (o : Option ℕ) → k ≡ word w p → MatchOption o ((n : ℕ) → IsNominal w n → ⊥) (IsNominal w) → IsShown (number_form Nominal) k o
nominal_where w p k (Some n) e d = subst (λ (j : Token). ShowsNominal j n) (sym e) (shows_nominal w p n d)
nominal_where w p k None e d = λ n s. d n (nominal_in w p k e n s)

pub placed_in : (x w : List ℕ) (p : ℕ) (k : Token) → k ≡ word w p → (u : Unit {0}) → StandsAnywhere (word x) k u → w ≡ x
placed_in x w p _ e _ (stands_at q) = cc
