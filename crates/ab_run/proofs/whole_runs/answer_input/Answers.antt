use Rattle.std.proofs.Common.{◌≡◌, ◌≤◌, ◌+◌, ℕ, refl, sym, subst, arith}
use Rattle.std.proofs.lemmas.List.{length-take, length-drop, length-append}
use Rattle.ab_sigmod.specs.Outcomes.{seen}
use Rattle.ab_run.specs.declared.whole_runs.TheConstants.{MAX_INPUT}
use Rattle.ab_run.specs.Outside.{outside}
use Rattle.ab_run.specs.Progress.{RanTo, Running, standing_of}
use Rattle.ab_run.proofs.Counts.{is_some_count}
use Rattle.ab_run.proofs.Endings.{starts, ran_no_memory, ran_read_fault, ran_to_end, ran_to_quit, ran_too_long, ran_write_fault, ran_no_room, runs_on}
use Rattle.ab_run.proofs.whole_runs.answer_input.Goals as goal

pub pieces-init : goal.pieces-init
pieces-init g c = record {
  running =
      subst (λ m. Running c.args.way (g.S.Source.left c.args.input.now) (g.S.Source.left c.args.input.now) (g.O.Sink.written c.args.out.now) (g.O.Sink.written c.args.out.now) (seen (g.F.Files.files c.args.files.now) (g.F.Files.plan c.args.files.now) (g.F.Files.faults c.args.files.now) (g.F.Files.misses c.args.files.now) (g.F.Files.long_files c.args.files.now)) (seen (g.F.Files.files c.args.files.now) (g.F.Files.plan c.args.files.now) (g.F.Files.faults c.args.files.now) (g.F.Files.misses c.args.files.now) (g.F.Files.long_files c.args.files.now)) c.new-splitter.result m 0) (sym c.requires.begins)
      (starts c.args.way (g.S.Source.left c.args.input.now) (g.O.Sink.written c.args.out.now) c.new-splitter.result c.new-splitter.ensures.text c.new-splitter.ensures.in_long);
  room = c.requires.room;
  reads = omega arith;
  writes = omega arith;
}

pub returns-in-Err-Memory : goal.returns-in-Err-Memory
returns-in-Err-Memory g c = record {
  ran =
      let h = rw c.in-Err-Memory.field-0-is at c.in-Err-Memory.ensures.stopped in
      ran_no_memory c.args.way (g.S.Source.left c.args.input.now) (g.S.Source.left c.pieces.input) (g.O.Sink.written c.args.out.now) (g.O.Sink.written c.pieces.out) c.pieces.splitter (standing_of c.pieces.progress) c.pieces.taken c.pieces.invariant.running
      _ (g.S.Source.left c.read_piece.new.input) (g.S.Source.faults c.args.input.now) (g.S.Source.faults c.read_piece.new.input) (g.O.Sink.faults c.args.out.now) (g.O.Sink.faults c.pieces.out) h (omega (arith, c.bytes_wanted.ensures.within, length-take {A = ℕ}));
}

pub returns-in-Err-Failed : goal.returns-in-Err-Failed
returns-in-Err-Failed g c = record {
  ran =
      let h = rw c.in-Err-Failed.field-0-is at c.in-Err-Failed.ensures.stopped in
      ran_read_fault c.args.way (g.S.Source.left c.args.input.now) (g.S.Source.left c.pieces.input) (g.O.Sink.written c.args.out.now) (g.O.Sink.written c.pieces.out) c.pieces.splitter (standing_of c.pieces.progress) c.pieces.taken c.pieces.invariant.running
      c.end_with.result (g.S.Source.left c.read_piece.new.input) (g.O.Sink.written c.end_with.new.out) (g.S.Source.faults c.args.input.now) (g.S.Source.faults c.pieces.input) (g.S.Source.faults c.read_piece.new.input)
      (g.O.Sink.faults c.args.out.now) (g.O.Sink.faults c.pieces.out) (g.O.Sink.faults c.end_with.new.out) h.0 h.1 c.pieces.invariant.reads c.pieces.invariant.writes c.end_with.ensures.ended;
}

pub returns-in-Ok-eq0 : goal.returns-in-Ok-eq0
returns-in-Ok-eq0 g c = record {
  ran =
      let r = ran_to_end c.args.way (g.S.Source.left c.args.input.now) (g.S.Source.left c.pieces.input) (g.O.Sink.written c.args.out.now) (g.O.Sink.written c.pieces.out) c.pieces.splitter (standing_of c.pieces.progress) c.pieces.taken c.pieces.invariant.running
      c.in-Ok-eq0.field-0 (g.S.Source.left c.read_piece.new.input) c.read_piece.new.splitter c.in-Ok-eq0.ensures.fed c.in-Ok-eq0.field-0-test
      (g.S.Source.faults c.args.input.now) (g.S.Source.faults c.read_piece.new.input) (g.O.Sink.faults c.args.out.now) (g.O.Sink.faults c.pieces.out) c.requires.plain
      _ c.is_finished.result c.rest_is_blank.result (is_some_count c.pieces.progress.refused) c.is_finished.ensures c.rest_is_blank.ensures in
      subst (λ s. RanTo c.args.way s (standing_of c.pieces.progress).state (outside (g.S.Source.left c.args.input.now) (g.O.Sink.written c.args.out.now) (g.S.Source.faults c.args.input.now) (g.O.Sink.faults c.args.out.now) (seen (g.F.Files.files c.args.files.now) (g.F.Files.plan c.args.files.now) (g.F.Files.faults c.args.files.now) (g.F.Files.misses c.args.files.now) (g.F.Files.long_files c.args.files.now))) (outside (g.S.Source.left c.read_piece.new.input) (g.O.Sink.written c.pieces.out) (g.S.Source.faults c.read_piece.new.input) (g.O.Sink.faults c.pieces.out) (seen (g.F.Files.files c.pieces.files) (g.F.Files.plan c.pieces.files) (g.F.Files.faults c.pieces.files) (g.F.Files.misses c.pieces.files) (g.F.Files.long_files c.pieces.files)))) (sym c.end_status.ensures) r;
}

pub returns-in-Ok : goal.returns-in-Ok
returns-in-Ok g c = record {
  ran =
      let t = c.in-Ok.field-0-test.1 in
      let full : c.pieces.taken ≡ MAX_INPUT = c.if-taken-eq-MAX_INPUT.true in
      let one : c.in-Ok.field-0 ≡ 1 = omega (arith, t, c.in-Ok.ensures.fits, c.bytes_wanted.ensures.within, length-take {A = ℕ}) in
      ran_too_long c.args.way (g.S.Source.left c.args.input.now) (g.S.Source.left c.pieces.input) (g.O.Sink.written c.args.out.now) (g.O.Sink.written c.pieces.out) c.pieces.splitter (standing_of c.pieces.progress) c.pieces.taken c.pieces.invariant.running
      c.end_with-in-Ok.result c.in-Ok.field-0 (g.S.Source.left c.read_piece.new.input) (g.O.Sink.written c.end_with-in-Ok.new.out) c.read_piece.new.splitter
      (g.S.Source.faults c.args.input.now) (g.S.Source.faults c.read_piece.new.input) (g.O.Sink.faults c.args.out.now) (g.O.Sink.faults c.pieces.out) (g.O.Sink.faults c.end_with-in-Ok.new.out)
      c.in-Ok.ensures.fed one full c.pieces.invariant.writes c.end_with-in-Ok.ensures.ended;
}

pub returns-in-Err-Failed-answer_ready : goal.returns-in-Err-Failed-answer_ready
returns-in-Err-Failed-answer_ready g c = record {
  ran =
      let n = c.pieces.invariant.running.few in let a = c.if-taken-eq-MAX_INPUT.false in
      let fits : c.pieces.taken + c.in-Ok-2.count ≤ MAX_INPUT = omega (arith, c.in-Ok-2.ensures.fits, c.bytes_wanted.ensures.exact, length-take {A = ℕ}) in
      let e = rw c.in-Err-Failed-answer_ready.field-0-is at c.in-Err-Failed-answer_ready.ensures.failed in
      let h = rw c.in-Err-Failed-answer_ready.field-0-is at c.in-Err-Failed-answer_ready.ensures.answered in
      ran_write_fault c.args.way (g.S.Source.left c.args.input.now) (g.S.Source.left c.pieces.input) (g.O.Sink.written c.args.out.now) (g.O.Sink.written c.pieces.out) c.pieces.splitter (standing_of c.pieces.progress) c.pieces.taken c.pieces.invariant.running
      c.in-Ok-2.count (g.S.Source.left c.read_piece.new.input) c.read_piece.new.splitter c.in-Ok-2.ensures.fed fits (standing_of c.answer_ready.new.progress).state (g.O.Sink.written c.answer_ready.new.out)
      (g.S.Source.faults c.args.input.now) (g.S.Source.faults c.read_piece.new.input) (g.O.Sink.faults c.args.out.now) (g.O.Sink.faults c.pieces.out) (g.O.Sink.faults c.answer_ready.new.out)
      h (e refl) c.pieces.invariant.writes;
}

pub returns-in-Err-Memory-answer_ready : goal.returns-in-Err-Memory-answer_ready
returns-in-Err-Memory-answer_ready g c = record {
  ran =
      let n = c.pieces.invariant.running.few in let a = c.if-taken-eq-MAX_INPUT.false in
      let fits : c.pieces.taken + c.in-Ok-2.count ≤ MAX_INPUT = omega (arith, c.in-Ok-2.ensures.fits, c.bytes_wanted.ensures.exact, length-take {A = ℕ}) in
      let h = rw c.in-Err-Memory-answer_ready.field-0-is at c.in-Err-Memory-answer_ready.ensures.answered in
      ran_no_room c.args.way (g.S.Source.left c.args.input.now) (g.S.Source.left c.pieces.input) (g.O.Sink.written c.args.out.now) (g.O.Sink.written c.pieces.out) c.pieces.splitter (standing_of c.pieces.progress) c.pieces.taken c.pieces.invariant.running
      c.in-Ok-2.count (g.S.Source.left c.read_piece.new.input) c.read_piece.new.splitter c.in-Ok-2.ensures.fed fits (g.O.Sink.written c.answer_ready.new.out)
      (g.S.Source.faults c.args.input.now) (g.S.Source.faults c.read_piece.new.input) (g.O.Sink.faults c.args.out.now) (g.O.Sink.faults c.answer_ready.new.out) h;
}

pub pieces-preserved : goal.pieces-preserved
pieces-preserved g c =
    let n = c.pieces.invariant.running.few in let a = c.if-taken-eq-MAX_INPUT.false in
    let fits : c.pieces.taken + c.in-Ok-2.count ≤ MAX_INPUT = omega (arith, c.in-Ok-2.ensures.fits, c.bytes_wanted.ensures.exact, length-take {A = ℕ}) in
    let r = runs_on c.args.way (g.S.Source.left c.args.input.now) (g.S.Source.left c.pieces.input) (g.O.Sink.written c.args.out.now) (g.O.Sink.written c.pieces.out) c.pieces.splitter (standing_of c.pieces.progress) c.pieces.taken c.pieces.invariant.running
    c.in-Ok-2.count (g.S.Source.left c.read_piece.new.input) c.read_piece.new.splitter c.in-Ok-2.ensures.fed fits (g.O.Sink.written c.answer_ready.new.out) c.answer_ready.new.splitter (standing_of c.answer_ready.new.progress)
    c.in-Ok-answer_ready.ensures.answered.0 c.if-progress.false (c.in-Ok-answer_ready.ensures.answered.1 c.if-progress.false) c.answer_ready.ensures.rest in
    record {
      running = subst (λ n. Running c.args.way (g.S.Source.left c.args.input.now) (g.S.Source.left c.read_piece.new.input) (g.O.Sink.written c.args.out.now) (g.O.Sink.written c.answer_ready.new.out) (seen (g.F.Files.files c.args.files.now) (g.F.Files.plan c.args.files.now) (g.F.Files.faults c.args.files.now) (g.F.Files.misses c.args.files.now) (g.F.Files.long_files c.args.files.now)) (seen (g.F.Files.files c.answer_ready.new.files) (g.F.Files.plan c.answer_ready.new.files) (g.F.Files.faults c.answer_ready.new.files) (g.F.Files.misses c.answer_ready.new.files) (g.F.Files.long_files c.answer_ready.new.files)) c.answer_ready.new.splitter (standing_of c.answer_ready.new.progress) (c.pieces.taken + n)) (sym c.in-Ok-2.count-is) r;
      room = omega (arith, length-append {A = ℕ}, length-drop {A = ℕ}, length-take {A = ℕ}, c.read_piece.auto.piece, c.bytes_wanted.ensures.few, c.pieces.invariant.room);
      reads = omega (arith, c.pieces.invariant.reads, c.read_piece.ensures.faults_never_fall);
      writes = omega (arith, c.pieces.invariant.writes, c.answer_ready.ensures.faults_never_fall);
    }

pub returns-then-progress : goal.returns-then-progress
returns-then-progress g c = record {
  ran =
      let n = c.pieces.invariant.running.few in let a = c.if-taken-eq-MAX_INPUT.false in
      let fits : c.pieces.taken + c.in-Ok-2.count ≤ MAX_INPUT = omega (arith, c.in-Ok-2.ensures.fits, c.bytes_wanted.ensures.exact, length-take {A = ℕ}) in
      let r = ran_to_quit c.args.way (g.S.Source.left c.args.input.now) (g.S.Source.left c.pieces.input) (g.O.Sink.written c.args.out.now) (g.O.Sink.written c.pieces.out) c.pieces.splitter (standing_of c.pieces.progress) c.pieces.taken c.pieces.invariant.running
      c.in-Ok-2.count (g.S.Source.left c.read_piece.new.input) c.read_piece.new.splitter c.in-Ok-2.ensures.fed fits (g.O.Sink.written c.answer_ready.new.out) c.answer_ready.new.splitter (standing_of c.answer_ready.new.progress)
      c.in-Ok-answer_ready.ensures.answered.0 c.if-progress.true
      (g.S.Source.faults c.args.input.now) (g.S.Source.faults c.read_piece.new.input) (g.O.Sink.faults c.args.out.now) (g.O.Sink.faults c.answer_ready.new.out) c.requires.plain
      _ c.is_finished-then-progress.result (is_some_count c.answer_ready.new.progress.refused) c.is_finished-then-progress.ensures in
      subst (λ s. RanTo c.args.way s (standing_of c.answer_ready.new.progress).state (outside (g.S.Source.left c.args.input.now) (g.O.Sink.written c.args.out.now) (g.S.Source.faults c.args.input.now) (g.O.Sink.faults c.args.out.now) (seen (g.F.Files.files c.args.files.now) (g.F.Files.plan c.args.files.now) (g.F.Files.faults c.args.files.now) (g.F.Files.misses c.args.files.now) (g.F.Files.long_files c.args.files.now))) (outside (g.S.Source.left c.read_piece.new.input) (g.O.Sink.written c.answer_ready.new.out) (g.S.Source.faults c.read_piece.new.input) (g.O.Sink.faults c.answer_ready.new.out) (seen (g.F.Files.files c.answer_ready.new.files) (g.F.Files.plan c.answer_ready.new.files) (g.F.Files.faults c.answer_ready.new.files) (g.F.Files.misses c.answer_ready.new.files) (g.F.Files.long_files c.answer_ready.new.files)))) (sym c.end_status-then-progress.ensures) r;
}
