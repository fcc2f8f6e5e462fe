use Rattle.std.proofs.Common.{◌++◌, ℕ, List, refl, ap, ◌∙◌, subst, arith}
use Rattle.ab_io.proofs.Streams.{rose_more}
use Rattle.ab_sigmod.specs.FileLoads.{FilesSeen}
use Rattle.ab_sigmod.specs.Outcomes.{seen}
use Rattle.ab_session.specs.Contents.{state_of}
use Rattle.ab_run.specs.Progress.{Standing, Answered, AnsweredSome, AnsweredUpTo, EndedWith, standing_of, to_come}
use Rattle.ab_run.proofs.Counts.{is_some_count}
use Rattle.ab_run.proofs.Texts.{text_at_once, text_ended, text_no_line, text_no_room, text_write_fault}
use Rattle.ab_run.proofs.scripts.answer_text.Goals as goal

pub returns-in-Err : goal.returns-in-Err
returns-in-Err g c = record {
  ran =
      text_at_once c.args.way c.args.text.now (g.O.Sink.written c.args.out.now) (g.O.Sink.faults c.args.out.now) (seen (g.F.Files.files c.args.files.now) (g.F.Files.plan c.args.files.now) (g.F.Files.faults c.args.files.now) (g.F.Files.misses c.args.files.now) (g.F.Files.long_files c.args.files.now));
}

pub returns-in-Err-Failed : goal.returns-in-Err-Failed
returns-in-Err-Failed g c = record {
  ran =
      let p = c.feed.new.self in
      let text_is = c.in_default.ensures.text ∙ ap (λ (t : List ℕ). t ++ c.args.text.now) c.new-splitter.ensures.text in
      let fresh = c.in_default.ensures.in_long ∙ c.new-splitter.ensures.in_long in
      let h = rw c.in-Err-Failed.field-0-is at c.in-Err-Failed.ensures.answered in
      let e = rw c.in-Err-Failed.field-0-is at c.in-Err-Failed.ensures.failed in
      text_write_fault c.args.way c.args.text.now p text_is fresh (state_of c.answer_ready.new.progress.session) (g.O.Sink.written c.args.out.now) (g.O.Sink.written c.answer_ready.new.out) (g.O.Sink.faults c.args.out.now) (g.O.Sink.faults c.answer_ready.new.out)
      (subst (λ (m : Standing). AnsweredUpTo c.args.way (g.O.Sink.written c.args.out.now) (g.O.Sink.written c.answer_ready.new.out) (seen (g.F.Files.files c.args.files.now) (g.F.Files.plan c.args.files.now) (g.F.Files.faults c.args.files.now) (g.F.Files.misses c.args.files.now) (g.F.Files.long_files c.args.files.now)) (seen (g.F.Files.files c.answer_ready.new.files) (g.F.Files.plan c.answer_ready.new.files) (g.F.Files.faults c.answer_ready.new.files) (g.F.Files.misses c.answer_ready.new.files) (g.F.Files.long_files c.answer_ready.new.files)) (to_come p) m.state (state_of c.answer_ready.new.progress.session)) c.requires.begins h) (e refl);
}

pub returns-in-Err-Memory : goal.returns-in-Err-Memory
returns-in-Err-Memory g c = record {
  ran =
      let p = c.feed.new.self in
      let text_is = c.in_default.ensures.text ∙ ap (λ (t : List ℕ). t ++ c.args.text.now) c.new-splitter.ensures.text in
      let fresh = c.in_default.ensures.in_long ∙ c.new-splitter.ensures.in_long in
      let h = rw c.in-Err-Memory.field-0-is at c.in-Err-Memory.ensures.answered in
      text_no_room c.args.way c.args.text.now p text_is fresh
      (seen (g.F.Files.files c.answer_ready.new.files) (g.F.Files.plan c.answer_ready.new.files) (g.F.Files.faults c.answer_ready.new.files) (g.F.Files.misses c.answer_ready.new.files) (g.F.Files.long_files c.answer_ready.new.files))
      (g.O.Sink.written c.args.out.now) (g.O.Sink.written c.answer_ready.new.out) (g.O.Sink.faults c.args.out.now) (g.O.Sink.faults c.answer_ready.new.out)
      (subst (λ (m : Standing). (f : FilesSeen) × AnsweredSome c.args.way (g.O.Sink.written c.args.out.now) (g.O.Sink.written c.answer_ready.new.out) (seen (g.F.Files.files c.args.files.now) (g.F.Files.plan c.args.files.now) (g.F.Files.faults c.args.files.now) (g.F.Files.misses c.args.files.now) (g.F.Files.long_files c.args.files.now)) f (to_come p) m.state) c.requires.begins h);
}

pub returns-in-Ok-closing_line : goal.returns-in-Ok-closing_line
returns-in-Ok-closing_line g c = record {
  ran =
      let p = c.feed.new.self in
      let k = standing_of c.answer_ready.new.progress in
      let text_is = c.in_default.ensures.text ∙ ap (λ (t : List ℕ). t ++ c.args.text.now) c.new-splitter.ensures.text in
      let fresh = c.in_default.ensures.in_long ∙ c.new-splitter.ensures.in_long in
      let x = subst (λ (m : Standing). Answered c.args.way (g.O.Sink.written c.args.out.now) (g.O.Sink.written c.answer_ready.new.out) (seen (g.F.Files.files c.args.files.now) (g.F.Files.plan c.args.files.now) (g.F.Files.faults c.args.files.now) (g.F.Files.misses c.args.files.now) (g.F.Files.long_files c.args.files.now)) (seen (g.F.Files.files c.answer_ready.new.files) (g.F.Files.plan c.answer_ready.new.files) (g.F.Files.faults c.answer_ready.new.files) (g.F.Files.misses c.answer_ready.new.files) (g.F.Files.long_files c.answer_ready.new.files)) (to_come p) (to_come c.answer_ready.new.splitter) m k) c.requires.begins c.in-Ok.ensures.answered.0 in
      let s = subst (λ status. EndedWith c.end_with.result status c.deref.result.now (g.O.Sink.written c.answer_ready.new.out) (g.O.Sink.written c.end_with.new.out) (g.O.Sink.faults c.answer_ready.new.out) (g.O.Sink.faults c.end_with.new.out)) c.end_status-status.ensures c.end_with.ensures.ended in
      text_ended c.args.way c.args.text.now p text_is fresh c.answer_ready.new.splitter k (g.O.Sink.written c.args.out.now) (g.O.Sink.written c.answer_ready.new.out) x c.in-Ok.ensures.answered.1 c.answer_ready.ensures.rest (omega arith)
      c.has_no_rest.result c.has_no_rest.ensures.ended c.has_no_rest.ensures.blank _ c.is_finished.result c.end_with.result c.deref.result.now (g.O.Sink.written c.end_with.new.out)
      (g.O.Sink.faults c.args.out.now) (g.O.Sink.faults c.answer_ready.new.out) (g.O.Sink.faults c.end_with.new.out) (is_some_count c.answer_ready.new.progress.refused) c.is_finished.ensures
      (c.deref.ensures.value ∙ c.in-Ok-closing_line.ensures) (rose_more _ _ _ c.answer_ready.ensures.faults_never_fall) s;
}

pub returns : goal.returns
returns g c = record {
  ran =
      let p = c.feed.new.self in
      let k = standing_of c.answer_ready.new.progress in
      let text_is = c.in_default.ensures.text ∙ ap (λ (t : List ℕ). t ++ c.args.text.now) c.new-splitter.ensures.text in
      let fresh = c.in_default.ensures.in_long ∙ c.new-splitter.ensures.in_long in
      let x = subst (λ (m : Standing). Answered c.args.way (g.O.Sink.written c.args.out.now) (g.O.Sink.written c.answer_ready.new.out) (seen (g.F.Files.files c.args.files.now) (g.F.Files.plan c.args.files.now) (g.F.Files.faults c.args.files.now) (g.F.Files.misses c.args.files.now) (g.F.Files.long_files c.args.files.now)) (seen (g.F.Files.files c.answer_ready.new.files) (g.F.Files.plan c.answer_ready.new.files) (g.F.Files.faults c.answer_ready.new.files) (g.F.Files.misses c.answer_ready.new.files) (g.F.Files.long_files c.answer_ready.new.files)) (to_come p) (to_come c.answer_ready.new.splitter) m k) c.requires.begins c.in-Ok.ensures.answered.0 in
      text_no_line c.args.way c.args.text.now p text_is fresh c.answer_ready.new.splitter k (g.O.Sink.written c.args.out.now) (g.O.Sink.written c.answer_ready.new.out) x c.in-Ok.ensures.answered.1 c.answer_ready.ensures.rest (omega arith)
      (g.O.Sink.faults c.args.out.now) (g.O.Sink.faults c.answer_ready.new.out);
}
