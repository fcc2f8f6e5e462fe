-- The places that are told.
use Rattle.std.proofs.Common.{◌≡◌, ℕ, ◌-◌, true, false, List, [], ◌∷◌, Some, drop, refl, ap, sym, ◌∙◌, subst}
use Rattle.std.specs.Prelude.{if◌then◌else◌}
use Rattle.std.proofs.lemmas.List.{drop-map}
use Rattle.ab_grammar.specs.Token.{Token, backslash}
use Rattle.ab_grammar.specs.Nesting.{begins_with_backslash, blamed}
use Rattle.ab_grammar.proofs.Following.{first}
use Rattle.ab_grammar.specs.CommandTable.{ShowsLabel}
use Rattle.ab_grammar.proofs.Heads.{plain_no_label, proof_no_label}
use Rattle.ab_syntax.specs.declared.command_heads.Opening.{Opening}
use Rattle.ab_syntax.specs.declared.command_heads.Opening.TheVariants.{Plain, Proof, Label, Nothing}
use Rattle.ab_expressions.specs.declared.text.Text.{Text}
use Rattle.ab_syntax.specs.Faults.{IsWordAlone}
use Rattle.ab_syntax.specs.Openings.{IsOpeningAt}
use Rattle.ab_expressions.specs.Reader.{seen, rest}

in_front : (ks : List Token) → first ks ≡ Some backslash → begins_with_backslash ks ≡ true
in_front [] e = absurd (cc)
in_front (k ∷ ks) e = let same : k ≡ backslash = cc in ap (λ (j : Token). begins_with_backslash (j ∷ ks)) same

not_in_front : (ks : List Token) → (first ks ≡ Some backslash → ⊥) → begins_with_backslash ks ≡ false
not_in_front [] n = refl
not_in_front (k ∷ ks) n = by_token k (λ e. n (ap Some e))
  where
    by_token : (j : Token) → (j ≡ backslash → ⊥) → begins_with_backslash (j ∷ ks) ≡ false
    by_token backslash n = absurd (n refl)
    by_token j n = refl

module _ (t : Text) (i : ℕ) where
  tail_of : drop i (rest t 0) ≡ rest t i
  tail_of = drop-map seen i t.tokens.now

  pub name_blamed : first (rest t i) ≡ Some backslash → i - 1 ≡ blamed (rest t 0) i
  name_blamed e = sym (ap (λ b. if b then i - 1 else i) (in_front (drop i (rest t 0)) (ap first tail_of ∙ e)))

  pub token_blamed : (first (rest t i) ≡ Some backslash → ⊥) → i ≡ blamed (rest t 0) i
  token_blamed n = sym (ap (λ b. if b then i - 1 else i) (not_in_front (drop i (rest t 0)) (λ e. n (sym (ap first tail_of) ∙ e))))

-- a first word with which no command begins, where the tokens are refused behind it
pub stands_alone : (ks : List Token) → IsOpeningAt ks Label → IsWordAlone ks 1
stands_alone [] q = let e = q.2 in absurd (cc)
stands_alone (k ∷ ks) q = let e = q.2 in let same : q.0 ≡ k = cc in (refl, (q.1, subst (λ (j : Token). ShowsLabel j q.1) same q.3))

label_opens : (ks : List Token) (k : Token) (x : List ℕ) → first ks ≡ Some k → ShowsLabel k x → (r : Opening) → IsOpeningAt ks r → r ≡ Label
label_opens ks k x e s (Plain h) q = let f = q.1 in let same : k ≡ q.0 = cc in absurd (plain_no_label h q.0 x (subst (λ (j : Token). ShowsLabel j x) same s) q.2)
label_opens ks k x e s (Proof h) q = let f = q.1 in let same : k ≡ q.0 = cc in absurd (proof_no_label h q.0 x (subst (λ (j : Token). ShowsLabel j x) same s) q.2)
label_opens ks k x e s Label q = refl
label_opens ks k x e s Nothing q = absurd ((q k e).no_label x s)

pub alone_at : (ks : List Token) (i : ℕ) → IsWordAlone ks i → i ≡ 1
alone_at [] i a = absurd a
alone_at (k ∷ ks) i a = a.0

pub alone_opens : (ks : List Token) (i : ℕ) (r : Opening) → IsOpeningAt ks r → IsWordAlone ks i → r ≡ Label
alone_opens [] i r q a = absurd a
alone_opens (k ∷ ks) i r q (e, s) = label_opens (k ∷ ks) k s.0 refl s.1 r q
