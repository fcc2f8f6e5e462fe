use Rattle.std.proofs.Common.{[], ◌∷◌, sym, refl, subst}
use Rattle.ab_lex.specs.Commands.{command, long}
use Rattle.ab_lex.specs.PendingText.{Awaits}
use Rattle.ab_sigmod.specs.FileLoads.{no_load}
use Rattle.ab_session.specs.ab_states.specs.Reply.{reply_of}
use Rattle.ab_session.specs.Contents.{state_of}
use Rattle.ab_run.specs.Progress.{moment}
use Rattle.ab_run.specs.Report.{to_command, to_long}
use Rattle.ab_run.proofs.Derived.{borne}
use Rattle.ab_run.proofs.output.next_reply.Goals as goal

pub returns-in_ok-reply-in-Whole-clause-replied : goal.returns-in_ok-reply-in-Whole-clause-replied
returns-in_ok-reply-in-Whole-clause-replied g c =
    let s = c.accept.new.self in
    let r = c.in_ok-reply-in-Whole.reply in
    let e = c.in_ok-reply-in-Whole.ensures.effect in
    record {
      item = command c.bytes.result.now;
      loads = e.loads;
      asked = e.asked;
      replies = to_command (moment (reply_of s.world r) (state_of s)) e.effect (borne s.world r (state_of s) c.in_ok-reply-in-Whole.ensures.completed c.in_ok-reply-in-Whole.ensures.admitted);
      items_are = λ more is h. subst (λ q. Awaits c.args.splitter.now more (command q ∷ is)) (sym c.bytes.ensures) (c.in-Whole.ensures.items.1 more is h);
    }

pub returns-in-TooLong-clause-replied : goal.returns-in-TooLong-clause-replied
returns-in-TooLong-clause-replied g c = record { item = long; loads = []; asked = no_load; replies = to_long _ refl refl; items_are = c.in-TooLong.ensures.items }
