-- Kinds of tokens: what each says of its token.
use Rattle.std.proofs.Common.{◌≡◌, ℕ, Bool, true, false, List, map, length, Option, Some, None, unwrap_or, refl, ap}
use Rattle.std.specs.Prelude.{if◌then◌else◌}
use Rattle.std.specs.List.{list_all}
use Rattle.std.specs.Str.Parse.{digits_value}
use Rattle.std.proofs.Math.Dec.{leb}
use Rattle.ab_lex.specs.declared.token.TokenKind.{TokenKind}
use Rattle.ab_lex.specs.declared.token.TokenKind.TheVariants as lexed
use Rattle.ab_grammar.specs.Token.{Token, word, truth, quantifier, sign, other, Other, stop, semicolon, becomes, from, star, back, reset, by_word, to_word, with_word, on_word, type_word, number, text, unusable}
use Rattle.ab_grammar.specs.CommandTable.{listed}
use Rattle.ab_expressions.specs.declared.kind.Kind.{Kind}
use Rattle.ab_expressions.specs.declared.kind.Kind.TheVariants as kind
use Rattle.ab_grammar.specs.declared.Infix.{Infix}
use Rattle.ab_grammar.specs.declared.Infix.TheVariants as signs_of
use Rattle.ab_grammar.specs.declared.Quant.{Quant}
use Rattle.ab_grammar.specs.declared.Quant.TheVariants as quant
use Rattle.ab_expressions.specs.declared.kind.TheConstants.{RESERVED, SIGNS}
use Rattle.ab_expressions.specs.Tokens.{reserved, signs, otherwise, plainly, is_text_byte, unquoted, token_by}
use Rattle.ab_expressions.specs.Kinds.{kind_of, kind_of_other, kind_of_sign, kind_of_quantifier, meaning, IsWordKind}
use Rattle.ab_expressions.proofs.Tables.{EachRow, listed_each, Agree, same_kind, no_kind}

pub kind_meant : (k : Kind) (w : List ℕ) (p : ℕ) → kind_of (meaning k w p) ≡ k
kind_meant kind.Word w p = refl
kind_meant kind.Truth w p = refl
kind_meant kind.Forall w p = refl
kind_meant kind.Exists w p = refl
kind_meant kind.Nabla w p = refl
kind_meant kind.Pi w p = refl
kind_meant kind.Arrow w p = refl
kind_meant kind.Or w p = refl
kind_meant kind.And w p = refl
kind_meant kind.Equal w p = refl
kind_meant kind.Imply w p = refl
kind_meant kind.Both w p = refl
kind_meant kind.Cons w p = refl
kind_meant kind.LeftBrace w p = refl
kind_meant kind.LeftParen w p = refl
kind_meant kind.RightParen w p = refl
kind_meant kind.RightBrace w p = refl
kind_meant kind.LeftBracket w p = refl
kind_meant kind.RightBracket w p = refl
kind_meant kind.Turnstile w p = refl
kind_meant kind.Backslash w p = refl
kind_meant kind.Comma w p = refl
kind_meant kind.Colon w p = refl
kind_meant kind.Stop w p = refl
kind_meant kind.Semicolon w p = refl
kind_meant kind.Becomes w p = refl
kind_meant kind.From w p = refl
kind_meant kind.Star w p = refl
kind_meant kind.Back w p = refl
kind_meant kind.Reset w p = refl
kind_meant kind.By w p = refl
kind_meant kind.To w p = refl
kind_meant kind.With w p = refl
kind_meant kind.On w p = refl
kind_meant kind.Type w p = refl
kind_meant kind.Number w p = refl
kind_meant kind.Text w p = refl
kind_meant kind.Unusable w p = refl

-- the tables of the program are those of the definitions

abbrev pub known_words : List (List ℕ × Kind)
known_words = map (λ row. (row.0.now, row.1)) RESERVED

abbrev pub known_signs : List (List ℕ × Kind)
known_signs = map (λ row. (row.0.now, row.1)) SIGNS

words_agree : Agree reserved known_words
words_agree = (
  refl,
  (
    λ w p. refl,
    (
      refl,
      (
        λ w p. refl,
        (
          refl,
          (
            λ w p. refl,
            (
              refl,
              (
                λ w p. refl,
                (
                  refl,
                  (
                    λ w p. refl,
                    (
                      refl,
                      (
                        λ w p. refl,
                        (refl, (λ w p. refl, (refl, (λ w p. refl, (refl, (λ w p. refl, (refl, (λ w p. refl, (refl, (λ w p. refl, tt)))))))))),
                      ),
                    ),
                  ),
                ),
              ),
            ),
          ),
        ),
      ),
    ),
  ),
)

signs_agree : Agree signs known_signs
signs_agree = (
  refl,
  (
    λ w p. refl,
    (
      refl,
      (
        λ w p. refl,
        (
          refl,
          (
            λ w p. refl,
            (
              refl,
              (
                λ w p. refl,
                (
                  refl,
                  (
                    λ w p. refl,
                    (
                      refl,
                      (
                        λ w p. refl,
                        (
                          refl,
                          (
                            λ w p. refl,
                            (
                              refl,
                              (
                                λ w p. refl,
                                (
                                  refl,
                                  (
                                    λ w p. refl,
                                    (
                                      refl,
                                      (
                                        λ w p. refl,
                                        (
                                          refl,
                                          (
                                            λ w p. refl,
                                            (
                                              refl,
                                              (
                                                λ w p. refl,
                                                (
                                                  refl,
                                                  (
                                                    λ w p. refl,
                                                    (
                                                      refl,
                                                      (
                                                        λ w p. refl,
                                                        (
                                                          refl,
                                                          (
                                                            λ w p. refl,
                                                            (
                                                              refl,
                                                              (
                                                                λ w p. refl,
                                                                (
                                                                  refl,
                                                                  (
                                                                    λ w p. refl,
                                                                    (
                                                                      refl,
                                                                      (
                                                                        λ w p. refl,
                                                                        (refl, (λ w p. refl, (refl, (λ w p. refl, (refl, (λ w p. refl, (refl, (λ w p. refl, (refl, (λ w p. refl, (refl, (λ w p. refl, tt)))))))))))),
                                                                      ),
                                                                    ),
                                                                  ),
                                                                ),
                                                              ),
                                                            ),
                                                          ),
                                                        ),
                                                      ),
                                                    ),
                                                  ),
                                                ),
                                              ),
                                            ),
                                          ),
                                        ),
                                      ),
                                    ),
                                  ),
                                ),
                              ),
                            ),
                          ),
                        ),
                      ),
                    ),
                  ),
                ),
              ),
            ),
          ),
        ),
      ),
    ),
  ),
)

pub word_kind : (x : List ℕ) (o : Option Kind) → listed known_words x ≡ o → (p : ℕ) → token_by lexed.Word x p ≡ meaning (unwrap_or o kind.Word) x p
word_kind x (Some k) e p = same_kind reserved known_words words_agree x k e word x p
word_kind x None e p = ap (λ (o : Option (List ℕ → ℕ → Token)). otherwise o word x p) (no_kind reserved known_words words_agree x e)

pub sign_kind : (x : List ℕ) (o : Option Kind) → listed known_signs x ≡ o → (p : ℕ) → token_by lexed.Sign x p ≡ meaning (unwrap_or o kind.Unusable) x p
sign_kind x (Some k) e p = same_kind signs known_signs signs_agree x k e (plainly (other unusable)) x p
sign_kind x None e p = ap (λ (o : Option (List ℕ → ℕ → Token)). otherwise o (plainly (other unusable)) x p) (no_kind signs known_signs signs_agree x e)

-- a token that is no word
abbrev IsMark : Token → Type 0
IsMark (word x p) = ⊥
IsMark (truth x p) = ⊥
IsMark k = Unit {0}

abbrev AlwaysMark : (List ℕ → ℕ → Token) → Type 0
AlwaysMark f = (w : List ℕ) (p : ℕ) → IsMark (f w p)

signs_are_marks : EachRow AlwaysMark signs
signs_are_marks = (
  λ w p. tt,
  (
    λ w p. tt,
    (
      λ w p. tt,
      (
        λ w p. tt,
        (
          λ w p. tt,
          (
            λ w p. tt,
            (
              λ w p. tt,
              (
                λ w p. tt,
                (
                  λ w p. tt,
                  (
                    λ w p. tt,
                    (
                      λ w p. tt,
                      (
                        λ w p. tt,
                        (λ w p. tt, (λ w p. tt, (λ w p. tt, (λ w p. tt, (λ w p. tt, (λ w p. tt, (λ w p. tt, (λ w p. tt, (λ w p. tt, (λ w p. tt, (λ w p. tt, (λ w p. tt, tt)))))))))))),
                      ),
                    ),
                  ),
                ),
              ),
            ),
          ),
        ),
      ),
    ),
  ),
)

sign_is_mark : (x : List ℕ) (p : ℕ) → IsMark (token_by lexed.Sign x p)
sign_is_mark x p = by_row (listed signs x) refl
  where
    by_row : (o : Option (List ℕ → ℕ → Token)) → listed signs x ≡ o → IsMark (otherwise o (plainly (other unusable)) x p)
    by_row None e = tt
    by_row (Some f) e = listed_each AlwaysMark signs x f signs_are_marks e x p

number_is_mark : (x : List ℕ) (p : ℕ) → IsMark (token_by lexed.Number x p)
number_is_mark x p = by_length (leb (length x) 9)
  where
    by_length : (b : Bool) → IsMark (if b then other (number (digits_value 10 x)) else other unusable)
    by_length true = tt
    by_length false = tt

text_is_mark : (x : List ℕ) (p : ℕ) → IsMark (token_by lexed.Text x p)
text_is_mark x p = by_bytes (list_all is_text_byte (unquoted x))
  where
    by_bytes : (b : Bool) → IsMark (if b then other (text (unquoted x)) else other unusable)
    by_bytes true = tt
    by_bytes false = tt

no_other : (o : Other) → IsWordKind (kind_of_other o) → ⊥
no_other stop w = w
no_other semicolon w = w
no_other becomes w = w
no_other from w = w
no_other star w = w
no_other back w = w
no_other reset w = w
no_other by_word w = w
no_other to_word w = w
no_other with_word w = w
no_other on_word w = w
no_other type_word w = w
no_other (number n) w = w
no_other (text t) w = w
no_other unusable w = w

no_sign : (o : Infix) → IsWordKind (kind_of_sign o) → ⊥
no_sign signs_of.Arrow w = w
no_sign signs_of.Or w = w
no_sign signs_of.And w = w
no_sign signs_of.Equal w = w
no_sign signs_of.Imply w = w
no_sign signs_of.With w = w
no_sign signs_of.Cons w = w

no_quantifier : (q : Quant) → IsWordKind (kind_of_quantifier q) → ⊥
no_quantifier quant.Forall w = w
no_quantifier quant.Exists w = w
no_quantifier quant.Nabla w = w

no_word : (k : Token) → IsMark k → IsWordKind (kind_of k) → ⊥
no_word (word x p) h w = h
no_word (truth x p) h w = h
no_word (other o) h w = no_other o w
no_word (sign o) h w = no_sign o w
no_word (quantifier q p) h w = no_quantifier q w
no_word k h w = w

pub word_alone : (j : TokenKind) (x : List ℕ) (p : ℕ) → IsWordKind (kind_of (token_by j x p)) → j ≡ lexed.Word
word_alone lexed.Word x p h = refl
word_alone lexed.Number x p h = absurd (no_word (token_by lexed.Number x p) (number_is_mark x p) h)
word_alone lexed.Text x p h = absurd (no_word (token_by lexed.Text x p) (text_is_mark x p) h)
word_alone lexed.Sign x p h = absurd (no_word (token_by lexed.Sign x p) (sign_is_mark x p) h)
