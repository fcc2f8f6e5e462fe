use Rattle.std.proofs.Common.{◌≡◌, ◌≢◌, Some, None, refl, sym, ◌∙◌, subst, rules}
use Rattle.ab_grammar.specs.Token.{Token, word}
use Rattle.ab_grammar.specs.CommandTable.{StandsAnywhere, stands_at}
use Rattle.ab_grammar.proofs.Following.{Showing}
use Rattle.ab_grammar.proofs.Shown.{one_placed}
use Rattle.ab_expressions.specs.declared.kind.Kind.TheVariants as kind
use Rattle.ab_expressions.specs.declared.located_tokens.Seen.{Seen}
use Rattle.ab_expressions.specs.Reader.{seen, rest}
use Rattle.ab_syntax.proofs.Leaves.{takes, placed_in, placed_kind, word_shown, word_seen, of_kind}
use Rattle.ab_syntax.proofs.part.takes_word.Goals as goal
use Rattle.ab_syntax.proofs.part.takes_word.Goals.{then-ne-via-then-ne, then-ne-via-else-ne+then-ne-2}

pub returns-in_default : goal.returns-in_default
returns-in_default c = (λ k u e d. let bad : None ≡ Some k = c.in_default.ensures ∙ e in absurd (cc), refl)

pub returns-then-ne : goal.returns-then-ne
returns-then-ne c =
    let s : Seen = c.in-Some.token in
    let x = c.args.expected.now in (
      λ k u e d.
          let same : seen s ≡ k = (let both : Some (seen s) ≡ Some k = c.in-Some.ensures ∙ e in cc) in
          let there = subst (λ (j : Token). StandsAnywhere (word x) j u) (sym same) d in
          let is : s.kind ≡ kind.Word = of_kind s _ (placed_kind x (seen s) u there) in
          elim c.then-ne.branch [
            | then-ne-via-then-ne w ↦
                let not : s.kind ≢ kind.Word = search rules in
                absurd (not is)
            | then-ne-via-else-ne+then-ne-2 w ↦
                let same_bytes : s.written.now ≡ x = placed_in x s.written.now s.place (seen s) (word_seen s is) u there in
                search rules
          ],
      refl,
    )

pub returns : goal.returns
returns c =
    let s : Seen = c.in-Some.token in
    let x = c.args.expected.now in
    let a_word : s.kind ≡ kind.Word = search rules in
    let is : s.written.now ≡ x = search rules in
    let there : Showing (StandsAnywhere (word x)) tt (rest c.args.text.now c.args.here.now) = (seen s, sym c.in-Some.ensures, word_shown (StandsAnywhere (word x)) tt x s.written.now s.place (seen s) (word_seen s a_word) (sym is) (stands_at s.place)) in
    (there, takes (StandsAnywhere (word x)) c.args.text.now c.args.here.now (one_placed (word x)) tt there)
