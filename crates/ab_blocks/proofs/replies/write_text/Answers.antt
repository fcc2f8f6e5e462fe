use Rattle.std.proofs.Common.{◌≡◌, ◌++◌, codes, sym, ap, ◌∙◌, append_assoc}
use Rattle.ab_logic.specs.Worlds.{read}
use Rattle.ab_print.specs.GoalText as by_number
use Rattle.ab_print.specs.GoalText.{cell_name}
use Rattle.ab_states.specs.Reply.{SpeaksOfNoGoal, reply_of}
use Rattle.ab_blocks.specs.Blocks.{closed_formula, text}
use Rattle.ab_blocks.proofs.Lines.{on_ok, closed_so, shown_text}
use Rattle.ab_blocks.proofs.replies.write_text.Goals as goal

pub returns-in_ok-push-in-Completed : goal.returns-in_ok-push-in-Completed
returns-in_ok-push-in-Completed c =
    let a = c.in_ok-extend_from_slice-in-Completed.ensures.items in
    let b = c.in_ok-extend_from_slice-in-Completed-2.ensures.items in
    let d = c.in_ok-push-in-Completed.ensures.items in
    let v = c.as_bytes.ensures.value in
    let w = c.as_str.ensures in
    rw (c.in-Completed.is, d, b, a, v, w) (simp append_assoc)

pub returns-in_ok-extend_from_slice-in-Shown-2 : goal.returns-in_ok-extend_from_slice-in-Shown-2
returns-in_ok-extend_from_slice-in-Shown-2 c =
    let F = read c.args.world.now c.in-Shown.formula in
    let name = cell_name c.args.world.now.store in
    let held = rw c.in-Shown.is at c.requires.reply in
    let e = closed_so name F held.1 in
    let a = c.in_ok-extend_from_slice-in-Shown.ensures.items in
    let b = c.in_ok-extend_from_slice-in-Shown-2.ensures.items in
    let v = c.as_bytes-in-Shown.ensures.value in
    let w = c.as_str-in-Shown.ensures in
    rw c.in-Shown.is (on_ok c.show_term.result (λ h. shown_text c.args.out.now.items _ _ _ c.in-Shown.name (closed_formula F) (by_number.shown name F) (a ∙ ap (λ q. c.args.out.now.items ++ q) (v ∙ w)) b h e) c.show_term.ensures.shown)

pub returns-in_ok-push-in-Admitted : goal.returns-in_ok-push-in-Admitted
returns-in_ok-push-in-Admitted c =
    let a = c.in_ok-extend_from_slice-in-Admitted.ensures.items in
    let n = c.in_ok-write_names-in-Admitted.ensures in
    let b = c.in_ok-extend_from_slice-in-Admitted-2.ensures.items in
    let d = c.in_ok-extend_from_slice-in-Admitted-3.ensures.items in
    let e = c.in_ok-push-in-Admitted.ensures.items in
    let s = c.as_slice.ensures in
    let v = c.as_bytes-in-Admitted.ensures.value in
    let w = c.as_str-in-Admitted.ensures in
    rw (c.in-Admitted.is, e, d, b, n, a, s, v, w) (simp append_assoc)
