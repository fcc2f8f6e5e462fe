use Rattle.std.proofs.Common.{List, ℕ, arith, subst}
use Rattle.ab_io.specs.KnownBytes.{Appends, AppendsFront}
use Rattle.ab_lex.proofs.Awaiting.{rest_behind}
use Rattle.ab_sigmod.specs.Outcomes.{seen}
use Rattle.ab_run.specs.Progress.{AnswersItem, HasNone, to_come, standing_of}
use Rattle.ab_run.proofs.Progress.{answered_none, answered_more, answered_all, answered_item, cut_off, fewer, not_both, stopped}
use Rattle.ab_run.proofs.output.answer_ready.Goals as goal

pub items-init : goal.items-init
items-init g c = record {
  answered = answered_none c.args.way (g.O.Sink.written c.args.out.now) (to_come c.args.splitter.now) (standing_of c.args.progress.now);
  goes_on = c.requires;
  rest = λ more. (λ h. h, λ h. h);
  faults_never_fall = omega arith;
}

pub items-smaller : goal.items-smaller
items-smaller g c =
    let h : AnswersItem c.args.way c.in-Ok-Some.bytes.items (seen (g.F.Files.files c.items.files) (g.F.Files.plan c.items.files) (g.F.Files.faults c.items.files) (g.F.Files.misses c.items.files) (g.F.Files.long_files c.items.files)) (seen (g.F.Files.files c.next_text.new.files) (g.F.Files.plan c.next_text.new.files) (g.F.Files.faults c.next_text.new.files) (g.F.Files.misses c.next_text.new.files) (g.F.Files.long_files c.next_text.new.files)) (standing_of c.items.progress) (standing_of c.next_text.new.progress) c.items.splitter c.next_text.new.splitter = rw c.in-Ok-Some.field-0-is at c.in-Ok-Some.ensures.answered in
    fewer c.args.way c.in-Ok-Some.bytes.items (standing_of c.items.progress) (standing_of c.next_text.new.progress) c.items.splitter c.next_text.new.splitter h

pub returns-in-Ok-None-clause-answered : goal.returns-in-Ok-None-clause-answered
returns-in-Ok-None-clause-answered g c =
    let h : HasNone (seen (g.F.Files.files c.items.files) (g.F.Files.plan c.items.files) (g.F.Files.faults c.items.files) (g.F.Files.misses c.items.files) (g.F.Files.long_files c.items.files)) (seen (g.F.Files.files c.next_text.new.files) (g.F.Files.plan c.next_text.new.files) (g.F.Files.faults c.next_text.new.files) (g.F.Files.misses c.next_text.new.files) (g.F.Files.long_files c.next_text.new.files)) (standing_of c.items.progress) (standing_of c.next_text.new.progress) c.items.splitter c.next_text.new.splitter = rw c.in-Ok-None.field-0-is at c.in-Ok-None.ensures.answered in (
      answered_all c.args.way (g.O.Sink.written c.args.out.now) (g.O.Sink.written c.items.out) (to_come c.args.splitter.now) (standing_of c.args.progress.now) (standing_of c.items.progress) (standing_of c.next_text.new.progress)
          c.items.splitter c.next_text.new.splitter c.items.invariant.answered h,
      λ e. h.none,
    )

pub returns-in-Ok-None-clause-rest : goal.returns-in-Ok-None-clause-rest
returns-in-Ok-None-clause-rest g c = rest_behind c.args.splitter.now c.items.splitter c.next_text.new.splitter c.items.invariant.rest c.in-Ok-None.ensures.rest

pub returns-in-Err-clause-answered : goal.returns-in-Err-clause-answered
returns-in-Err-clause-answered g c = (
  (seen (g.F.Files.files c.items.files) (g.F.Files.plan c.items.files) (g.F.Files.faults c.items.files) (g.F.Files.misses c.items.files) (g.F.Files.long_files c.items.files)),
  stopped c.args.way (g.O.Sink.written c.args.out.now) (g.O.Sink.written c.items.out) (to_come c.args.splitter.now) (to_come c.items.splitter) (standing_of c.args.progress.now) (standing_of c.items.progress) c.items.invariant.answered,
)

pub returns-in-Err-write_all-clause-answered : goal.returns-in-Err-write_all-clause-answered
returns-in-Err-write_all-clause-answered g c =
    let h : AnswersItem c.args.way c.in-Ok-Some.bytes.items (seen (g.F.Files.files c.items.files) (g.F.Files.plan c.items.files) (g.F.Files.faults c.items.files) (g.F.Files.misses c.items.files) (g.F.Files.long_files c.items.files)) (seen (g.F.Files.files c.next_text.new.files) (g.F.Files.plan c.next_text.new.files) (g.F.Files.faults c.next_text.new.files) (g.F.Files.misses c.next_text.new.files) (g.F.Files.long_files c.next_text.new.files)) (standing_of c.items.progress) (standing_of c.next_text.new.progress) c.items.splitter c.next_text.new.splitter = rw c.in-Ok-Some.field-0-is at c.in-Ok-Some.ensures.answered in
    let w = subst (λ (q : List ℕ). AppendsFront (g.O.Sink.written c.items.out) q (g.O.Sink.written c.write_all.new.out)) c.deref.ensures.value c.in-Err-write_all.ensures.front in
    cut_off c.args.way c.in-Ok-Some.bytes.items (standing_of c.items.progress) (standing_of c.next_text.new.progress) c.items.splitter c.next_text.new.splitter h
    (g.O.Sink.written c.args.out.now) (g.O.Sink.written c.items.out) (g.O.Sink.written c.write_all.new.out) c.args.splitter.now (standing_of c.args.progress.now) c.items.invariant.goes_on c.items.invariant.answered w c.in-Err-write_all.fault

pub items-preserved : goal.items-preserved
items-preserved g c =
    let h : AnswersItem c.args.way c.in-Ok-Some.bytes.items (seen (g.F.Files.files c.items.files) (g.F.Files.plan c.items.files) (g.F.Files.faults c.items.files) (g.F.Files.misses c.items.files) (g.F.Files.long_files c.items.files)) (seen (g.F.Files.files c.next_text.new.files) (g.F.Files.plan c.next_text.new.files) (g.F.Files.faults c.next_text.new.files) (g.F.Files.misses c.next_text.new.files) (g.F.Files.long_files c.next_text.new.files)) (standing_of c.items.progress) (standing_of c.next_text.new.progress) c.items.splitter c.next_text.new.splitter = rw c.in-Ok-Some.field-0-is at c.in-Ok-Some.ensures.answered in
    let w = subst (λ (q : List ℕ). Appends (g.O.Sink.written c.items.out) q (g.O.Sink.written c.write_all.new.out)) c.deref.ensures.value c.in_default.ensures.wrote in
    record {
      answered = answered_more c.args.way (g.O.Sink.written c.args.out.now) (g.O.Sink.written c.items.out) (g.O.Sink.written c.write_all.new.out) (to_come c.args.splitter.now) (to_come c.items.splitter) (to_come c.next_text.new.splitter)
          (standing_of c.args.progress.now) (standing_of c.items.progress) (standing_of c.next_text.new.progress) c.items.invariant.goes_on c.items.invariant.answered
          (answered_item c.args.way c.in-Ok-Some.bytes.items (standing_of c.items.progress) (standing_of c.next_text.new.progress) c.items.splitter c.next_text.new.splitter h (g.O.Sink.written c.items.out) (g.O.Sink.written c.write_all.new.out) w);
      goes_on = c.if-progress.false;
      rest = rest_behind c.args.splitter.now c.items.splitter c.next_text.new.splitter c.items.invariant.rest c.in-Ok-Some.ensures.rest;
      faults_never_fall = omega (arith, c.items.invariant.faults_never_fall, c.in_default.ensures.faults_never_fall);
    }

pub returns-then-progress-clause-answered : goal.returns-then-progress-clause-answered
returns-then-progress-clause-answered g c =
    let h : AnswersItem c.args.way c.in-Ok-Some.bytes.items (seen (g.F.Files.files c.items.files) (g.F.Files.plan c.items.files) (g.F.Files.faults c.items.files) (g.F.Files.misses c.items.files) (g.F.Files.long_files c.items.files)) (seen (g.F.Files.files c.next_text.new.files) (g.F.Files.plan c.next_text.new.files) (g.F.Files.faults c.next_text.new.files) (g.F.Files.misses c.next_text.new.files) (g.F.Files.long_files c.next_text.new.files)) (standing_of c.items.progress) (standing_of c.next_text.new.progress) c.items.splitter c.next_text.new.splitter = rw c.in-Ok-Some.field-0-is at c.in-Ok-Some.ensures.answered in
    let w = subst (λ (q : List ℕ). Appends (g.O.Sink.written c.items.out) q (g.O.Sink.written c.write_all.new.out)) c.deref.ensures.value c.in_default.ensures.wrote in (
      answered_more c.args.way (g.O.Sink.written c.args.out.now) (g.O.Sink.written c.items.out) (g.O.Sink.written c.write_all.new.out) (to_come c.args.splitter.now) (to_come c.items.splitter) (to_come c.next_text.new.splitter)
          (standing_of c.args.progress.now) (standing_of c.items.progress) (standing_of c.next_text.new.progress) c.items.invariant.goes_on c.items.invariant.answered
          (answered_item c.args.way c.in-Ok-Some.bytes.items (standing_of c.items.progress) (standing_of c.next_text.new.progress) c.items.splitter c.next_text.new.splitter h (g.O.Sink.written c.items.out) (g.O.Sink.written c.write_all.new.out) w),
      λ e. not_both c.next_text.new.progress.ended c.if-progress.true e,
    )
