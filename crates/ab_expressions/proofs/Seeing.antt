-- A token as it is seen: what its kind says of its bytes, and of the token that it is to the grammar.
use Rattle.std.proofs.Common.{◌≡◌, ◌<◌, ℕ, List, [], All, ap, sym, ◌∙◌, subst}
use Rattle.ab_lex.specs.declared.token.Token.{Token as Lexed}
use Rattle.ab_lex.specs.Spans.{bytes_at}
use Rattle.ab_expressions.specs.declared.kind.Kind.{Kind}
use Rattle.ab_expressions.specs.declared.kind.Kind.TheVariants.{Number, Text}
use Rattle.ab_expressions.specs.declared.located_tokens.Seen.{Seen}
use Rattle.ab_expressions.specs.Digits.{IsShort, IsQuoted}
use Rattle.ab_expressions.specs.Tokens.{IsTokenOf, token_by}
use Rattle.ab_expressions.specs.Kinds.{kind_of, meaning, key_of, IsKey, IsWordKind}
use Rattle.ab_expressions.specs.Reader.{seen}
use Rattle.ab_expressions.proofs.Meanings.{kind_meant, word_alone}
use Rattle.ab_expressions.proofs.NumberTokens.{number_alone, text_alone}

module _ (bytes : List ℕ) (origin : ℕ) (t : Lexed) (s : IsTokenOf bytes origin t) (k : Kind) (e : (p : ℕ) → token_by t.kind (bytes_at bytes t.span) p ≡ meaning k (bytes_at bytes t.span) p) where
  known : kind_of (token_by t.kind (bytes_at bytes t.span) 0) ≡ k
  known = ap kind_of (e 0) ∙ kind_meant k (bytes_at bytes t.span) 0

  pub spelled : IsWordKind k → All (λ b. b < 128) (bytes_at bytes t.span)
  spelled h = s.plain_word (word_alone t.kind (bytes_at bytes t.span) 0 (subst IsWordKind (sym known) h))

  pub short : k ≡ Number → IsShort (bytes_at bytes t.span)
  short h = let a = number_alone t.kind (bytes_at bytes t.span) 0 (known ∙ h) in (s.digits a.0, a.1)

  pub quoted : k ≡ Text → IsQuoted (bytes_at bytes t.span)
  quoted h = let a = text_alone t.kind (bytes_at bytes t.span) 0 (known ∙ h) in (s.quoted a.0, a.1)

-- a token is a key where its kind is the key's
module _ (s : Seen) (k : Kind) where
  pub of_kind : IsKey k → s.kind ≡ k → seen s ≡ key_of k
  of_kind q e = ap (λ (j : Kind). meaning j s.written.now s.place) e ∙ q s.written.now s.place

  pub kind_is : seen s ≡ key_of k → s.kind ≡ k
  kind_is e = sym (kind_meant s.kind s.written.now s.place) ∙ ap kind_of e ∙ kind_meant k [] 0
