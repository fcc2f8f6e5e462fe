use Rattle.std.proofs.Common.{ap, sym, ◌∙◌}
use Rattle.ab_expressions.specs.declared.stop.Stop.{Stop}
use Rattle.ab_expressions.specs.declared.fault.ParseFault.TheVariants.{Syntax, TooNested}
use Rattle.ab_syntax.specs.Wholes.{place_in, fault_of}
use Rattle.ab_syntax.proofs.Wholes.{all_read, more_left, not_read}
use Rattle.ab_syntax.proofs.answer.answer.Goals as goal

pub returns-then-here-text : goal.returns-then-here-text
returns-then-here-text g c = more_left c.args.text.now c.args.here c.args.told c.args.part c.in-Ok.value _ c.in-Ok.is c.if-here-text.true (ap Syntax c.place_at.ensures)

pub returns-else-here-text : goal.returns-else-here-text
returns-else-here-text g c = all_read c.args.text.now c.args.here c.args.told c.args.part c.in-Ok.value c.in-Ok.is c.if-here-text.false

pub returns-in-Syntax : goal.returns-in-Syntax
returns-in-Syntax g c =
    let fault = λ (s : Stop). fault_of c.args.text.now c.args.here c.args.told s in
    not_read c.args.text.now c.args.here c.args.told c.args.part c.in-Err.stop _ c.in-Err.is (ap Syntax c.place_at-in-Syntax.ensures ∙ ap fault (sym c.in-Syntax.is))

pub returns-in-TooNested : goal.returns-in-TooNested
returns-in-TooNested g c =
    let fault = λ (s : Stop). fault_of c.args.text.now c.args.here c.args.told s in
    not_read c.args.text.now c.args.here c.args.told c.args.part c.in-Err.stop _ c.in-Err.is
    (ap TooNested (c.place_at-in-TooNested.ensures ∙ ap (place_in c.args.text.now) c.blamed_token.ensures) ∙ ap fault (sym c.in-TooNested.is))

pub returns-in-Memory : goal.returns-in-Memory
returns-in-Memory g c =
    let fault = λ (s : Stop). fault_of c.args.text.now c.args.here c.args.told s in
    not_read c.args.text.now c.args.here c.args.told c.args.part c.in-Err.stop _ c.in-Err.is (ap fault (sym c.in-Memory.is))
