use Rattle.std.proofs.Common.{◌≡◌, ◌+◌, Bool, length, sym, ap, ◌∙◌, subst, arith}
use Rattle.ab_lex.specs.Commands.{command}
use Rattle.ab_lex.specs.PendingText.{NextItem}
use Rattle.ab_edit.specs.State.{last_of, IsGoing}
use Rattle.ab_edit.proofs.Steps.{next_of, in_step, going_more, halted_there, halted_at_long, halted_at_end}
use Rattle.ab_edit.proofs.moves.accept_next.Goals as goal

pub returns-in-More-clause-in_step : goal.returns-in-More-clause-in_step
returns-in-More-clause-in_step g c = in_step (g.R.Replay.test c.args.replay.now) c.args.text.now c.args.ends.now.items (g.R.Replay.kept c.args.replay.now) c.args.splitter.now c.requires.going

pub returns-in-More-clause-halted : goal.returns-in-More-clause-halted
returns-in-More-clause-halted g c = halted_at_end (g.R.Replay.test c.args.replay.now) c.args.text.now c.args.ends.now.items (g.R.Replay.kept c.args.replay.now) c.args.splitter.now c.next_command.new.self c.requires.going c.in-More.ensures.items.0 c.in-More.ensures.items.1

pub returns-in-TooLong-clause-in_step : goal.returns-in-TooLong-clause-in_step
returns-in-TooLong-clause-in_step g c = in_step (g.R.Replay.test c.args.replay.now) c.args.text.now c.args.ends.now.items (g.R.Replay.kept c.args.replay.now) c.args.splitter.now c.requires.going

pub returns-in-TooLong-clause-halted : goal.returns-in-TooLong-clause-halted
returns-in-TooLong-clause-halted g c = halted_at_long (g.R.Replay.test c.args.replay.now) c.args.text.now c.args.ends.now.items (g.R.Replay.kept c.args.replay.now) c.args.splitter.now c.next_command.new.self c.requires.going c.in-TooLong.ensures.items

pub overflow_add-end : goal.overflow_add-end
overflow_add-end g c =
    let p = c.args.splitter.now in
    let q = c.next_command.new.self in
    let t = g.R.Replay.test c.args.replay.now in
    let ks = g.R.Replay.kept c.args.replay.now in
    let next = subst (λ b. NextItem p (command b) q) (sym c.bytes-command.ensures) c.in-Whole.ensures.items.1 in
    let n = next_of t c.args.text.now c.args.ends.now.items ks c.bytes-command.result.now p q c.requires.going next in
    let e : c.end_of_last.result ≡ last_of c.args.ends.now.items = c.end_of_last.ensures ∙ ap last_of c.deref.ensures.value in
    omega (arith, n.within, c.requires.room, e)

pub accept-requires : goal.accept-requires
accept-requires g c =
    let p = c.args.splitter.now in
    let q = c.next_command.new.self in
    let t = g.R.Replay.test c.args.replay.now in
    let ks = g.R.Replay.kept c.args.replay.now in
    let next = subst (λ b. NextItem p (command b) q) (sym c.bytes-command.ensures) c.in-Whole.ensures.items.1 in
    (next_of t c.args.text.now c.args.ends.now.items ks c.bytes-command.result.now p q c.requires.going next).is_command

pub returns-in-Ok-true-clause-going : goal.returns-in-Ok-true-clause-going
returns-in-Ok-true-clause-going g c =
    let p = c.args.splitter.now in
    let q = c.next_command.new.self in
    let t = g.R.Replay.test c.args.replay.now in
    let u = g.R.Replay.test c.accept.new.self in
    let ks = g.R.Replay.kept c.args.replay.now in
    let b = c.bytes-command.result.now in
    let next = subst (λ b. NextItem p (command b) q) (sym c.bytes-command.ensures) c.in-Whole.ensures.items.1 in
    let n = next_of t c.args.text.now c.args.ends.now.items ks b p q c.requires.going next in
    let e : c.end_of_last.result ≡ last_of c.args.ends.now.items = c.end_of_last.ensures ∙ ap last_of c.deref.ensures.value in
    let end = ap (λ k. k + length b) e in
    let told = λ (answer : Bool) (h : t ks b answer). sym (c.in-Ok-true.ensures.tested answer h) ∙ c.in-Ok-true.field-0-test in
    let kept = rw c.in-Ok-true.field-0-test at c.in-Ok-true.ensures.kept in
    rw (c.in_ok-push.ensures.items, kept) (going_more t u c.args.text.now c.args.ends.now.items ks b p q (c.end_of_last.result + length b) c.requires.going n c.in-Ok-true.ensures.test_stays end told)

pub returns-in-Ok-true-clause-fewer : goal.returns-in-Ok-true-clause-fewer
returns-in-Ok-true-clause-fewer g c =
    let p = c.args.splitter.now in
    let q = c.next_command.new.self in
    let t = g.R.Replay.test c.args.replay.now in
    let ks = g.R.Replay.kept c.args.replay.now in
    let next = subst (λ b. NextItem p (command b) q) (sym c.bytes-command.ensures) c.in-Whole.ensures.items.1 in
    (next_of t c.args.text.now c.args.ends.now.items ks c.bytes-command.result.now p q c.requires.going next).fewer

pub returns-in-Ok-false-clause-halted : goal.returns-in-Ok-false-clause-halted
returns-in-Ok-false-clause-halted g c =
    let p = c.args.splitter.now in
    let q = c.next_command.new.self in
    let t = g.R.Replay.test c.args.replay.now in
    let u = g.R.Replay.test c.accept.new.self in
    let ks = g.R.Replay.kept c.args.replay.now in
    let b = c.bytes-command.result.now in
    let next = subst (λ b. NextItem p (command b) q) (sym c.bytes-command.ensures) c.in-Whole.ensures.items.1 in
    let n = next_of t c.args.text.now c.args.ends.now.items ks b p q c.requires.going next in
    let told = λ (answer : Bool) (h : t ks b answer). sym (c.in-Ok-false.ensures.tested answer h) ∙ c.in-Ok-false.field-0-test in
    let kept = rw c.in-Ok-false.field-0-test at c.in-Ok-false.ensures.kept in
    rw kept (halted_there t u c.args.text.now c.args.ends.now.items ks b p q n c.in-Ok-false.ensures.test_stays told)

pub returns-in-Ok-true-clause-in_step : goal.returns-in-Ok-true-clause-in_step
returns-in-Ok-true-clause-in_step g c =
    let there : IsGoing (g.R.Replay.test c.accept.new.self) c.args.text.now c.push.new.self.items (g.R.Replay.kept c.accept.new.self) c.next_command.new.self = returns-in-Ok-true-clause-going g c in
    in_step (g.R.Replay.test c.accept.new.self) c.args.text.now c.push.new.self.items (g.R.Replay.kept c.accept.new.self) c.next_command.new.self there
