use Rattle.std.proofs.Common.{sym, subst, ◌∙◌}
use Rattle.ab_grammar.specs.declared.head.Head.TheVariants.{Back, Reset}
use Rattle.ab_grammar.specs.declared.head.ProofHead.TheVariants.{Exists}
use Rattle.ab_grammar.specs.CommandTable.{Opens, opens_back, opens_reset, OpensProof, opens_exists}
use Rattle.ab_expressions.specs.declared.kind.Kind.{Kind}
use Rattle.ab_expressions.specs.Kinds.{meaning}
use Rattle.ab_syntax.specs.Openings.{IsOpening}
use Rattle.ab_expressions.specs.Reader.{seen}
use Rattle.ab_syntax.proofs.FirstToken.{begins_nothing}
use Rattle.ab_expressions.proofs.Meanings.{kind_meant}
use Rattle.ab_syntax.proofs.command_heads.opening_of.Goals as goal

pub returns-in-Word : goal.returns-in-Word
returns-in-Word c =
    let w = c.args.token.written.now in
    let p = c.args.token.place in
    subst (λ (k : Kind). IsOpening (meaning k w p) w c.word_opening.result) (sym c.in-Word.is) (c.word_opening.ensures p)

pub returns-in-Exists : goal.returns-in-Exists
returns-in-Exists c = subst (λ (k : Kind). OpensProof Exists (meaning k c.args.token.written.now c.args.token.place) tt) (sym c.in-Exists.is) (opens_exists c.args.token.place)

pub returns-in-Back : goal.returns-in-Back
returns-in-Back c = subst (λ (k : Kind). Opens Back (meaning k c.args.token.written.now c.args.token.place) tt) (sym c.in-Back.is) opens_back

pub returns-in-Reset : goal.returns-in-Reset
returns-in-Reset c = subst (λ (k : Kind). Opens Reset (meaning k c.args.token.written.now c.args.token.place) tt) (sym c.in-Reset.is) opens_reset

pub returns-in_default : goal.returns-in_default
returns-in_default c =
    let is = sym (kind_meant c.args.token.kind c.args.token.written.now c.args.token.place) in
    begins_nothing (seen c.args.token) (λ e. c.in_default.not-Word (is ∙ e)) (λ e. c.in_default.not-Back (is ∙ e)) (λ e. c.in_default.not-Reset (is ∙ e)) (λ e. c.in_default.not-Exists (is ∙ e))
