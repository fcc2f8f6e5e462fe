use Rattle.std.proofs.Common.{◌≡◌, ◌||◌, if◌then◌else◌, sym, ap, ◌∙◌, subst}
use Rattle.ab_sigmod.specs.Outcomes.{seen}
use Rattle.ab_session.specs.ab_states.specs.Reply.{reply_of}
use Rattle.ab_session.specs.Contents.{state_of}
use Rattle.ab_run.specs.declared.output.Progress.{Progress}
use Rattle.ab_run.specs.Report.{is_end}
use Rattle.ab_run.specs.Progress.{RepliesItem, one_more, accepted_with, refused_with}
use Rattle.ab_run.proofs.output.next_text.Goals as goal
use Rattle.ab_run.proofs.output.next_text.Goals.{then-is_refusal, else-is_refusal, then-progress, else-progress}

pub returns-in_ok-shown_of-in-Some-clause-answered : goal.returns-in_ok-shown_of-in-Some-clause-answered
returns-in_ok-shown_of-in-Some-clause-answered g c =
    let s = c.if-is_refusal.progress.session in
    let reply = reply_of s.world c.in-Some.reply in
    let before = c.args.progress.now in
    let old = (seen (g.F.Files.files c.args.files.now) (g.F.Files.plan c.args.files.now) (g.F.Files.faults c.args.files.now) (g.F.Files.misses c.args.files.now) (g.F.Files.long_files c.args.files.now)) in
    let new = (seen (g.F.Files.files c.next_reply.new.files) (g.F.Files.plan c.next_reply.new.files) (g.F.Files.faults c.next_reply.new.files) (g.F.Files.misses c.next_reply.new.files) (g.F.Files.long_files c.next_reply.new.files)) in
    let first : RepliesItem (reply_of c.next_reply.new.session.world c.in-Some.reply) old new (state_of before.session) (state_of c.next_reply.new.session) c.args.splitter.now c.next_reply.new.splitter = rw c.in-Some.is at c.in_ok-next_reply.ensures.replied in
    let same : s ≡ c.next_reply.new.session =
    elim c.if-is_refusal.branch [
      | then-is_refusal w ↦ ap (λ (z : Progress). z.session) w.progress-is
      | else-is_refusal w ↦ ap (λ (z : Progress). z.session) w.progress-is
    ] in
    let h : RepliesItem reply old new (state_of before.session) (state_of s) c.args.splitter.now c.next_reply.new.splitter =
    subst (λ x. RepliesItem (reply_of x.world c.in-Some.reply) old new (state_of before.session) (state_of x) c.args.splitter.now c.next_reply.new.splitter) (sym same) first in
    let kept : c.if-is_refusal.progress.ended ≡ before.ended =
    elim c.if-is_refusal.branch [
      | then-is_refusal w ↦ ap (λ (z : Progress). z.ended) w.progress-is
      | else-is_refusal w ↦ ap (λ (z : Progress). z.ended) w.progress-is
    ] in
    let accepted : c.if-is_refusal.progress.accepted ≡ accepted_with before.accepted reply =
    elim c.if-is_refusal.branch [
      | then-is_refusal w ↦ ap (λ (z : Progress). z.accepted) w.progress-is ∙ sym (ap (λ t. if t then before.accepted else one_more before.accepted) (sym (c.is_refusal.ensures s.world) ∙ w.if-is_refusal.true))
      | else-is_refusal w ↦ ap (λ (z : Progress). z.accepted) w.progress-is ∙ (w.one_more-progress-else-is_refusal.ensures ∙ sym (ap (λ t. if t then before.accepted else one_more before.accepted) (sym (c.is_refusal.ensures s.world) ∙ w.if-is_refusal.false)))
    ] in
    let refused : c.if-is_refusal.progress.refused ≡ refused_with before.refused reply =
    elim c.if-is_refusal.branch [
      | then-is_refusal w ↦ ap (λ (z : Progress). z.refused) w.progress-is ∙ (w.one_more-progress.ensures ∙ sym (ap (λ t. if t then one_more before.refused else before.refused) (sym (c.is_refusal.ensures s.world) ∙ w.if-is_refusal.true)))
      | else-is_refusal w ↦ ap (λ (z : Progress). z.refused) w.progress-is ∙ sym (ap (λ t. if t then one_more before.refused else before.refused) (sym (c.is_refusal.ensures s.world) ∙ w.if-is_refusal.false))
    ] in
    let ended : c.if-progress.progress ≡ (before.ended || is_end c.args.way reply) =
    elim c.if-progress.branch [
      | then-progress w ↦ w.progress-is ∙ (w.if-progress.true ∙ sym (ap (λ b. b || is_end c.args.way reply) (sym kept ∙ w.if-progress.true)))
      | else-progress w ↦ w.progress-is ∙ (w.is_end-progress.ensures s.world ∙ sym (ap (λ b. b || is_end c.args.way reply) (sym kept ∙ w.if-progress.false)))
    ] in
    record {
      item = h.item;
      loads = h.loads;
      asked = h.asked;
      reply = reply;
      replies = h.replies;
      accepted_is = accepted;
      refused_is = refused;
      ended_is = ended;
      text_is = c.in_ok-shown_of-in-Some.ensures;
      items_are = h.items_are;
    }
