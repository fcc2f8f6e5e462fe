use Rattle.std.proofs.Common.{◌≡◌, ◌≢◌, ◌||◌, true, false, [], if◌then◌else◌, IfOk, refl, sym, ap, ◌∙◌, subst}
use Rattle.ab_session.specs.ab_states.specs.Reply.{reply_of, is_refusal}
use Rattle.ab_blocks.specs.Blocks.{block}
use Rattle.ab_session.specs.Contents.{state_of}
use Rattle.ab_run.specs.declared.way.Showing.{Showing}
use Rattle.ab_run.specs.declared.way.Showing.TheVariants.{Blocks, FirstLines, Summary}
use Rattle.ab_run.specs.FirstLine.{first_line}
use Rattle.ab_run.specs.Report.{Moment, is_completion, shown}
use Rattle.ab_run.specs.Progress.{moment}
use Rattle.ab_run.proofs.output.shown_of.Goals as goal
use Rattle.ab_run.proofs.output.shown_of.Goals.{then-is_completion, else-is_completion, in_default-via-in-FirstLines+else-is_refusal, in_default-via-in_default}

-- no answer is shown where one line stands for them all
nothing_shown : (showing : Showing) (m : Moment) → showing ≢ Blocks → showing ≢ FirstLines → shown showing m ≡ []
nothing_shown Blocks m a b = absurd (a refl)
nothing_shown FirstLines m a b = absurd (b refl)
nothing_shown (Summary size) m a b = refl

pub returns-in-FirstLines : goal.returns-in-FirstLines
returns-in-FirstLines c =
    let s = state_of c.args.session.now in
    let world = c.args.session.now.world in
    let reply = reply_of world c.args.reply.now in
    let tells : (is_completion reply || is_refusal reply) ≡ true =
    elim c.if-is_completion.branch [
      | then-is_completion w ↦ ap (λ b. b || is_refusal reply) (sym (c.is_completion.ensures world) ∙ w.if-is_completion.true)
      | else-is_completion w ↦ ap (λ b. b || is_refusal reply) (sym (c.is_completion.ensures world) ∙ w.if-is_completion.false) ∙ (sym (w.is_refusal.ensures world) ∙ (sym w.value-is ∙ c.if-is_refusal.true))
    ] in
    subst (λ showing. IfOk c.first_line_of.result (λ bytes. bytes.items ≡ shown showing (moment reply s))) (sym c.in-FirstLines.is)
    (subst (λ t. IfOk c.first_line_of.result (λ bytes. bytes.items ≡ (if t then first_line (block reply s) else []))) (sym tells) c.first_line_of.ensures)

pub returns-in_default : goal.returns-in_default
returns-in_default c =
    let s = state_of c.args.session.now in
    let world = c.args.session.now.world in
    let reply = reply_of world c.args.reply.now in
    let nothing : shown c.args.showing (moment reply s) ≡ [] =
    elim c.in_default.branch [
      | in_default-via-in-FirstLines+else-is_refusal w ↦
          let silent : (is_completion reply || is_refusal reply) ≡ false =
          elim w.if-is_completion.branch [
            | then-is_completion v ↦ let a = v.value-is in let b = w.if-is_refusal.false in absurd (cc)
            | else-is_completion v ↦ ap (λ b. b || is_refusal reply) (sym (w.is_completion.ensures world) ∙ v.if-is_completion.false) ∙ (sym (v.is_refusal.ensures world) ∙ (sym v.value-is ∙ w.if-is_refusal.false))
          ] in
          ap (λ showing. shown showing (moment reply s)) w.in-FirstLines.is ∙ ap (λ t. if t then first_line (block reply s) else []) silent
      | in_default-via-in_default w ↦ nothing_shown c.args.showing (moment reply s) w.in_default.not-Blocks w.in_default.not-FirstLines
    ] in
    c.new.ensures.items ∙ sym nothing
