use Rattle.std.proofs.Common.{rules, ℕ, List, option_map, inl, refl, subst}
use Rattle.ab_io.specs.Loads.{loaded, missing, failed, too_long}
use Rattle.ab_sigmod.specs.FileLoads.{IsLoad}
use Rattle.ab_sigmod.specs.Outcomes.{seen}
use Rattle.ab_session.specs.Contents.{state_of}
use Rattle.ab_run.specs.Endings as ending
use Rattle.ab_run.specs.Outcome.{RanText}
use Rattle.ab_run.proofs.Whole.{wrote_line}
use Rattle.ab_run.proofs.scripts.run_file.Goals as goal

pub returns-in-Ok : goal.returns-in-Ok
returns-in-Ok g c =
    let files = c.args.files.now in
    let next = c.load.new.self in
    let text = c.load.new.into.items in
    let load : IsLoad (seen (g.F.Files.files files) (g.F.Files.plan files) (g.F.Files.faults files) (g.F.Files.misses files) (g.F.Files.long_files files)) (record { name = c.args.name.now; answer = loaded text })
    (seen (g.F.Files.files next) (g.F.Files.plan next) (g.F.Files.faults next) (g.F.Files.misses next) (g.F.Files.long_files next)) = search rules in
    let end = c.run_text.new.files in
    record {
      ran = inl (record {
        answer = loaded text;
        behind = seen (g.F.Files.files next) (g.F.Files.plan next) (g.F.Files.faults next) (g.F.Files.misses next) (g.F.Files.long_files next);
        load = load;
        ran = subst
            (λ (t : List ℕ). RanText c.args.way t c.run_text.result.0 (option_map state_of c.run_text.result.1) (g.O.Sink.written c.args.out.now) (g.O.Sink.written c.run_text.new.out) (g.O.Sink.faults c.args.out.now) (g.O.Sink.faults c.run_text.new.out)
            (seen (g.F.Files.files next) (g.F.Files.plan next) (g.F.Files.faults next) (g.F.Files.misses next) (g.F.Files.long_files next))
            (seen (g.F.Files.files end) (g.F.Files.plan end) (g.F.Files.faults end) (g.F.Files.misses end) (g.F.Files.long_files end))) c.deref.ensures.value c.run_text.ensures.ran;
      });
    }

pub returns-in-Err-Missing : goal.returns-in-Err-Missing
returns-in-Err-Missing g c = record {
  ran = inl (record {
    answer = missing;
    behind = (seen (g.F.Files.files c.load.new.self) (g.F.Files.plan c.load.new.self) (g.F.Files.faults c.load.new.self) (g.F.Files.misses c.load.new.self) (g.F.Files.long_files c.load.new.self));
    load = search rules;
    ran = (refl, c.tell_missing.ensures);
  });
}

pub returns-in-Err-Failed : goal.returns-in-Err-Failed
returns-in-Err-Failed g c = record {
  ran = inl (record {
    answer = failed;
    behind = (seen (g.F.Files.files c.load.new.self) (g.F.Files.plan c.load.new.self) (g.F.Files.faults c.load.new.self) (g.F.Files.misses c.load.new.self) (g.F.Files.long_files c.load.new.self));
    load = search rules;
    ran = (
      refl,
      wrote_line ending.read_fault c.end_with.result (g.O.Sink.written c.args.out.now) (g.O.Sink.written c.end_with.new.out) (g.O.Sink.faults c.args.out.now) (g.O.Sink.faults c.end_with.new.out) c.end_with.ensures.ended,
    );
  });
}

pub returns-in-Err-TooLong : goal.returns-in-Err-TooLong
returns-in-Err-TooLong g c = record {
  ran = inl (record {
    answer = too_long;
    behind = (seen (g.F.Files.files c.load.new.self) (g.F.Files.plan c.load.new.self) (g.F.Files.faults c.load.new.self) (g.F.Files.misses c.load.new.self) (g.F.Files.long_files c.load.new.self));
    load = search rules;
    ran = (
      refl,
      wrote_line ending.too_long c.end_with-in-Err-TooLong.result (g.O.Sink.written c.args.out.now) (g.O.Sink.written c.end_with-in-Err-TooLong.new.out) (g.O.Sink.faults c.args.out.now) (g.O.Sink.faults c.end_with-in-Err-TooLong.new.out)
          c.end_with-in-Err-TooLong.ensures.ended,
    );
  });
}
