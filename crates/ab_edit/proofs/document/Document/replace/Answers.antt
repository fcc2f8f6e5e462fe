use Rattle.std.proofs.Common.{◌≡◌, ◌≤◌, length, ap, ◌∙◌, subst, arith}
use Rattle.ab_lex.specs.Commands.{Splits}
use Rattle.ab_edit.specs.Edits.{text_after_edit}
use Rattle.ab_edit.specs.State.{IsInStep}
use Rattle.ab_edit.proofs.Ends.{front_stays_kept}
use Rattle.ab_edit.proofs.Honest.{same_more}
use Rattle.ab_edit.proofs.AfterEdit.{step_edited, moves_told, moves_all}
use Rattle.ab_edit.proofs.document.Document.replace.Goals as goal

pub go_on-requires : goal.go_on-requires
go_on-requires g c =
    let d = c.self.inside in
    let t = g.R.Replay.test d.replay in
    let u = g.R.Replay.test c.take_back.new.replay in
    let b = c.take_back.ensures in
    let e : c.deref.result.now ≡ text_after_edit d.text.items c.args.start c.args.end c.args.bytes.now = c.deref.ensures.value ∙ c.in_default.ensures.ok in
    record {
      in_step = rw e (step_edited t u d.text.items d.ends.items c.take_back.new.ends.items c.args.start c.args.end c.args.bytes.now (g.R.Replay.kept d.replay) (g.R.Replay.kept c.take_back.new.replay) b.test_stays c.self.invariant b.taken b.ends);
      room = c.deref.type_inv.0;
    }

pub returns-clause-front_stays : goal.returns-clause-front_stays
returns-clause-front_stays g c =
    rw (← c.self.view_is) (front_stays_kept c.args.start (g.R.Replay.kept c.self.inside.replay) (g.R.Replay.kept c.take_back.new.replay) (g.R.Replay.kept c.go_on.new.replay) c.take_back.ensures.taken c.go_on.ensures.more)

pub returns-clause-moves : goal.returns-clause-moves
returns-clause-moves g c =
    let d = c.self.inside in
    let t = g.R.Replay.test d.replay in
    let v = g.R.Replay.test c.take_back.new.replay in
    let u = g.R.Replay.test c.go_on.new.replay in
    let kept = g.R.Replay.kept c.go_on.new.replay in
    let b = c.take_back.ensures in
    let o = c.go_on.ensures in
    let text = text_after_edit d.text.items c.args.start c.args.end c.args.bytes.now in
    let e : c.edit_text.new.text.items ≡ text = c.in_default.ensures.ok in
    let there : IsInStep u text c.go_on.new.ends.items kept = subst (λ q. IsInStep u q c.go_on.new.ends.items kept) (c.deref.ensures.value ∙ e) o.in_step in
    let size = ap (λ q. length q.text) c.self.view_is in
    let within : c.args.start ≤ length d.text.items = omega (arith, c.requires.in_order, c.requires.in_text, size) in
    rw (← c.self.view_is) (λ commands rest splits stopped. moves_told t u d.text.items c.args.start c.args.end c.args.bytes.now (g.R.Replay.kept d.replay) (g.R.Replay.kept c.take_back.new.replay) kept c.go_on.new.ends.items
    (g.R.Replay.moves d.replay) (g.R.Replay.moves c.take_back.new.replay) (g.R.Replay.moves c.go_on.new.replay) b.taken o.more there b.moves o.moves
    commands rest (subst (λ q. Splits q commands rest) e splits) (same_more t v u b.test_stays o.test_stays) within stopped)

pub returns-clause-all_moves : goal.returns-clause-all_moves
returns-clause-all_moves g c =
    let d = c.self.inside in
    let u = g.R.Replay.test c.go_on.new.replay in
    let kept = g.R.Replay.kept c.go_on.new.replay in
    let b = c.take_back.ensures in
    let o = c.go_on.ensures in
    let text = text_after_edit d.text.items c.args.start c.args.end c.args.bytes.now in
    let e : c.edit_text.new.text.items ≡ text = c.in_default.ensures.ok in
    let there : IsInStep u text c.go_on.new.ends.items kept = subst (λ q. IsInStep u q c.go_on.new.ends.items kept) (c.deref.ensures.value ∙ e) o.in_step in
    rw (← c.self.view_is) (λ commands rest splits. moves_all (g.R.Replay.test d.replay) u d.text.items c.args.start c.args.end c.args.bytes.now (g.R.Replay.kept d.replay) (g.R.Replay.kept c.take_back.new.replay) kept c.go_on.new.ends.items
    (g.R.Replay.moves d.replay) (g.R.Replay.moves c.take_back.new.replay) (g.R.Replay.moves c.go_on.new.replay) b.taken o.more there b.moves o.moves
    commands rest (subst (λ q. Splits q commands rest) e splits))
