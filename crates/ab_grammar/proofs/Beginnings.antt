-- With which tokens expressions and types begin, and what follows them in a command.
use Rattle.std.proofs.Common.{◌≡◌, ℕ, List, [], ◌∷◌, ◌++◌, Option, Some, refl, ap, sym, subst, append_assoc}
use Rattle.ab_grammar.specs.declared.Infix.TheVariants.{Arrow}
use Rattle.ab_grammar.specs.declared.Quant.{Quant}
use Rattle.ab_grammar.specs.Token.{Token, word, truth, quantifier, pi_word, sign, left_paren, left_brace, comma, other, Other, stop}
use Rattle.ab_grammar.specs.Tree.{Ty, Tree, name, base}
use Rattle.ab_grammar.specs.Nesting.{Spot, spots, spots_from, Layer, outside}
use Rattle.ab_grammar.specs.Grammar.{Ends, closed, Reads, looser, infixed, application, pi_applied, named, true_or_false, grouped, abstracted, quantified, judged, judged_from, ReadsType, named_type, grouped_type, arrow_type, looser_type}
use Rattle.ab_grammar.specs.Language.{tokens_of, nested, Expression, TypeExpression}
use Rattle.ab_grammar.proofs.Following.{first, Follower, by_other, Followed, Comes}
use Rattle.ab_grammar.proofs.Joining.{Example}

-- a token that comes next, with which an expression or a type can begin
pub data Begins : Option Token → Type 0 where
  with_word_token : (x : List ℕ) (p : ℕ) → Begins (Some (word x p))
  with_truth : (x : List ℕ) (p : ℕ) → Begins (Some (truth x p))
  with_quantifier : (q : Quant) (p : ℕ) → Begins (Some (quantifier q p))
  with_pi : (p : ℕ) → Begins (Some (pi_word p))
  with_paren : Begins (Some left_paren)
  with_brace : (p : ℕ) → Begins (Some (left_brace p))

pub begins_no_other : (k : Option Token) (o : Other) → Begins k → k ≡ Some (other o) → ⊥
begins_no_other _ o (with_word_token x p) e = absurd (cc)
begins_no_other _ o (with_truth x p) e = absurd (cc)
begins_no_other _ o (with_quantifier q p) e = absurd (cc)
begins_no_other _ o (with_pi p) e = absurd (cc)
begins_no_other _ o with_paren e = absurd (cc)
begins_no_other _ o (with_brace p) e = absurd (cc)

pub begins_no_comma : (k : Option Token) → Begins k → k ≡ Some comma → ⊥
begins_no_comma _ (with_word_token x p) e = absurd (cc)
begins_no_comma _ (with_truth x p) e = absurd (cc)
begins_no_comma _ (with_quantifier q p) e = absurd (cc)
begins_no_comma _ (with_pi p) e = absurd (cc)
begins_no_comma _ with_paren e = absurd (cc)
begins_no_comma _ (with_brace p) e = absurd (cc)

longer : (ts us r : List Token) → Begins (first (ts ++ (us ++ r))) → Begins (first ((ts ++ us) ++ r))
longer ts us r b = subst (λ (w : List Token). Begins (first w)) (sym (append_assoc ts us r)) b

reads_begin : {l : ℕ} {e : Ends} {ts : List Token} {t : Tree} → Reads l e ts t → (r : List Token) → Begins (first (ts ++ r))
reads_begin (looser d) r = reads_begin d r
reads_begin (infixed {ts = ts} {us = us} o d c) r = longer ts (sign o ∷ us) r (reads_begin d ((sign o ∷ us) ++ r))
reads_begin (application {ts = ts} {us = us} d c) r = longer ts us r (reads_begin d (us ++ r))
reads_begin (pi_applied p d) r = with_pi p
reads_begin (named x p) r = with_word_token x p
reads_begin (true_or_false x p) r = with_truth x p
reads_begin (grouped d) r = with_paren
reads_begin (abstracted x p d) r = with_word_token x p
reads_begin (quantified q p d c) r = with_quantifier q p
reads_begin (judged p d) r = with_brace p
reads_begin (judged_from p d c) r = with_brace p

types_begin : {l : ℕ} {ts : List Token} {A : Ty} → ReadsType l ts A → (r : List Token) → Begins (first (ts ++ r))
types_begin (named_type x p) r = with_word_token x p
types_begin (grouped_type d) r = with_paren
types_begin (arrow_type {ts = ts} {us = us} d c) r = longer ts (sign Arrow ∷ us) r (types_begin d ((sign Arrow ∷ us) ++ r))
types_begin (looser_type d) r = types_begin d r

tokens_of_spots : (ls : List Layer) (ts : List Token) → tokens_of (spots_from ls ts) ≡ ts
tokens_of_spots ls [] = refl
tokens_of_spots ls (k ∷ ks) = ap (λ (w : List Token). k ∷ w) (tokens_of_spots _ ks)

pub expression_begins : (w : List Spot) (t : Tree) (r : List Token) → Expression w t → Begins (first (tokens_of w ++ r))
expression_begins _ t r (nested {ts = ts} d) = subst (λ (w : List Token). Begins (first (w ++ r))) (sym (tokens_of_spots outside ts)) (reads_begin (d.1) r)

pub type_begins : (w : List Spot) (A : Ty) (r : List Token) → TypeExpression w A → Begins (first (tokens_of w ++ r))
type_begins _ A r (nested {ts = ts} d) = subst (λ (w : List Token). Begins (first (w ++ r))) (sym (tokens_of_spots outside ts)) (types_begin d r)

-- the shortest texts
a_name : Reads 1 closed (word [] 0 ∷ []) (name [] 0)
a_name = looser (looser (looser (looser (looser (looser (looser (looser (named [] 0))))))))

pub expression_example : Example Expression
expression_example = record { spots = spots (word [] 0 ∷ []); value = name [] 0; text = nested (closed, a_name) }

pub type_example : Example TypeExpression
type_example = record { spots = spots (word [] 0 ∷ []); value = base [] 0; text = nested (looser_type (named_type [] 0)) }

-- what may follow an expression or a type
pub followed_by : (r : List Token) (k : Token) → Comes k r → Follower (Some k) → Followed r
followed_by r k e f = subst Follower (sym e) f

pub followed_by_stop : (r : List Token) → Comes (other stop) r → Followed r
followed_by_stop r e = followed_by r (other stop) e (by_other stop)
