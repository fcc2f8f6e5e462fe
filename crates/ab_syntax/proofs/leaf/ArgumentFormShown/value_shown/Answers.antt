use Rattle.std.proofs.Common.{◌≡◌, ◌≢◌, codes, sym, ◌∙◌, rules}
use Rattle.ab_grammar.specs.CommandTable.{ShowsArgument, shows_hole, shows_named}
use Rattle.ab_grammar.specs.CommandTrees.{hole, named}
use Rattle.ab_expressions.specs.Reader.{seen}
use Rattle.ab_syntax.proofs.Leaves.{argument_kind, word_shown, word_seen, of_kind}
use Rattle.ab_syntax.proofs.leaf.ArgumentFormShown.value_shown.Goals as goal

pub returns-in-Word : goal.returns-in-Word
returns-in-Word c =
    let s = c.args.token in
    let is : s.written.now ≡ codes "_" = search rules in
    word_shown ShowsArgument hole (codes "_") s.written.now s.place (seen s) (word_seen s c.in-Word.is) (sym is) (shows_hole s.place)

pub returns-in_ok-name_of-in-Word-2 : goal.returns-in_ok-name_of-in-Word-2
returns-in_ok-name_of-in-Word-2 c =
    let s = c.args.token in
    let x = c.in_ok-name_of-in-Word-2.field-0 in
    let not : s.written.now ≢ codes "_" = search rules in
    word_shown ShowsArgument (named x) x s.written.now s.place (seen s) (word_seen s c.in-Word-2.is) c.in_ok-name_of-in-Word-2.ensures (shows_named x s.place (λ e. not (sym c.in_ok-name_of-in-Word-2.ensures ∙ e)))

pub returns-in_default : goal.returns-in_default
returns-in_default c = λ a d. c.in_default.not-Word (of_kind c.args.token _ (argument_kind _ a d))
