use Rattle.std.proofs.Common.{◌≡◌, length, min, refl, sym, ◌∙◌, subst, inl, inr, rules}
use Rattle.ab_syntax.specs.Faults.{IsWordAlone}
use Rattle.ab_expressions.specs.Reader.{rest}
use Rattle.ab_syntax.proofs.FaultPlaces.{stands_alone, alone_at, alone_opens}
use Rattle.ab_syntax.proofs.answer.token_told.Goals as goal

pub returns-then-refused-ne1 : goal.returns-then-refused-ne1
returns-then-refused-ne1 c =
    let t = c.args.text.now in
    inr (
      λ a.
          let one : c.min-refused.result ≡ 1 = c.min-refused.ensures ∙ alone_at (rest t 0) (min c.args.here (length t.tokens.now)) a in
          absurd (search rules),
      c.min-refused.ensures,
    )

pub returns-in-Label : goal.returns-in-Label
returns-in-Label c =
    let one : c.min-refused.result ≡ 1 = search rules in
    inl (subst (IsWordAlone (rest c.args.text.now 0)) (sym one ∙ c.min-refused.ensures) (stands_alone (rest c.args.text.now 0) c.in-Label.ensures), refl)

pub returns-in_default : goal.returns-in_default
returns-in_default c =
    let t = c.args.text.now in
    inr (λ a. c.in_default.not-Label (alone_opens (rest t 0) (min c.args.here (length t.tokens.now)) c.opening_at.result c.opening_at.ensures a), c.min-refused.ensures)
