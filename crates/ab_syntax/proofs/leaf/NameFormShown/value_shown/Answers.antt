use Rattle.std.proofs.Common.{◌≡◌, ◌≢◌, List, ℕ, ap, refl, sym, ◌∙◌, subst, rules}
use Rattle.ab_grammar.specs.Token.{Token, other, text}
use Rattle.ab_grammar.specs.CommandTable.{IsDeclarable, ShowsName, shows_name, ShowsDeclared, shows_declared, ShowsText, shows_text}
use Rattle.ab_expressions.specs.declared.kind.Kind.TheVariants as kind
use Rattle.ab_syntax.specs.declared.leaf.NameForm.{NameForm}
use Rattle.ab_syntax.specs.declared.leaf.NameForm.TheVariants as form
use Rattle.ab_expressions.specs.declared.located_tokens.Seen.{Seen}
use Rattle.ab_syntax.specs.Leaves.{name_form}
use Rattle.ab_expressions.specs.Tokens.{unquoted}
use Rattle.ab_expressions.specs.Reader.{seen}
use Rattle.ab_syntax.proofs.Leaves.{name_kind, declared_kind, declared_in, text_kind, word_shown, word_seen, text_seen, of_kind}
use Rattle.ab_syntax.proofs.leaf.NameFormShown.value_shown.Goals as goal
use Rattle.ab_syntax.proofs.leaf.NameFormShown.value_shown.Goals.{in-Word-Any, in-Word-Declared, in-Text-Quoted, in_default-via-in-Word-Declared+else-is_declarable, in_default-via-in-Word+in_default, in_default-via-in-Text+in_default, in_default-via-in_default}

-- a word shows no quoted text, a quoted text shows nothing else, and no other token shows a name
unshown : (f : NameForm) (s : Seen) → (s.kind ≡ kind.Word → f ≡ form.Quoted) → (s.kind ≡ kind.Text → f ≢ form.Quoted) → (x : (name_form f).Meant) → (name_form f).shows (seen s) x → ⊥
unshown form.Any s n m x d = let bad = n (of_kind s _ (name_kind _ x d)) in absurd (cc)
unshown form.Declared s n m x d = let bad = n (of_kind s _ (declared_kind _ x d)) in absurd (cc)
unshown form.Quoted s n m x d = m (of_kind s _ (text_kind _ x d)) refl

pub returns-in_default : goal.returns-in_default
returns-in_default c =
    let s = c.args.token in
    elim c.in_default.branch [
      | in_default-via-in-Word-Declared+else-is_declarable w ↦ rw w.in-Word-Declared.is-1 (λ x d.
          let yes = w.is_declarable.ensures.1 (declared_in s.written.now s.place (seen s) (word_seen s w.in-Word-Declared.is-0) x d) in
          let no = w.if-is_declarable.false in
          absurd (cc))
      | in_default-via-in-Word+in_default w ↦ unshown c.args.self s (λ e. w.in_default.is-1) (λ e. let bad = sym w.in_default.is-0 ∙ e in absurd (cc))
      | in_default-via-in-Text+in_default w ↦ unshown c.args.self s (λ e. let bad = sym w.in_default.is-0 ∙ e in absurd (cc)) (λ e. w.in_default.not-Quoted-1)
      | in_default-via-in_default w ↦
          let no_word : s.kind ≢ kind.Word = search rules in
          let no_text : s.kind ≢ kind.Text = search rules in
          unshown c.args.self s (λ e. absurd (no_word e)) (λ e. absurd (no_text e))
    ]

pub returns : goal.returns
returns c =
    let s = c.args.token in
    let x = c.in_ok-spell.field-0 in
    elim c.match-token.branch [
      | in-Word-Any w ↦
          let same : x ≡ s.written.now = rw w.name-is at c.in_ok-spell.ensures in
          rw w.in-Word-Any.is-1 (word_shown ShowsName x x s.written.now s.place (seen s) (word_seen s w.in-Word-Any.is-0) same (shows_name x s.place))
      | in-Word-Declared w ↦
          let same : x ≡ s.written.now = rw w.name-is at c.in_ok-spell.ensures in
          let d = subst IsDeclarable (sym same) (w.is_declarable.ensures.0 w.if-is_declarable.true) in
          rw w.in-Word-Declared.is-1 (word_shown ShowsDeclared x x s.written.now s.place (seen s) (word_seen s w.in-Word-Declared.is-0) same (shows_declared x s.place d))
      | in-Text-Quoted w ↦
          let same : x ≡ unquoted s.written.now = rw w.name-is at c.in_ok-spell.ensures in
          rw w.in-Text-Quoted.is-1 (subst (λ (k : Token). ShowsText k x) (ap (λ (w : List ℕ). other (text w)) same ∙ sym (text_seen s w.in-Text-Quoted.is-0)) (shows_text x))
    ]
