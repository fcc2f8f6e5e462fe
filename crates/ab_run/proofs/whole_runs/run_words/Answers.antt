use Rattle.std.proofs.Common.{map, string_bytes}
use Rattle.ab_line.specs.Requests.{request_of_words}
use Rattle.ab_sigmod.specs.Outcomes.{seen}
use Rattle.ab_run.proofs.Asked.{asked_no_memory}
use Rattle.ab_run.proofs.whole_runs.run_words.Goals as goal

pub returns-in-Err-Memory-clause-ran : goal.returns-in-Err-Memory-clause-ran
returns-in-Err-Memory-clause-ran g c =
    let files = c.args.files.now in
    asked_no_memory (request_of_words (map string_bytes c.args.words.now)) (g.S.Source.left c.args.input.now) (g.O.Sink.written c.args.out.now) (g.S.Source.faults c.args.input.now) (g.O.Sink.faults c.args.out.now)
    (seen (g.F.Files.files files) (g.F.Files.plan files) (g.F.Files.faults files) (g.F.Files.misses files) (g.F.Files.long_files files))
