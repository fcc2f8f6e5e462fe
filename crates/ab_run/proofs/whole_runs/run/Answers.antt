use Rattle.std.proofs.Common.{option_map, subst}
use Rattle.ab_sigmod.specs.Outcomes.{seen}
use Rattle.ab_session.specs.ab_states.specs.Reply.{completed, admitted}
use Rattle.ab_session.specs.Contents.{state_of}
use Rattle.ab_run.specs.Outside.{outside}
use Rattle.ab_run.specs.Ways.{way_of}
use Rattle.ab_run.specs.Outcome.{RanAsAsked}
use Rattle.ab_run.proofs.Asked.{asked_derived, asked_reported}
use Rattle.ab_run.proofs.Derived.{all_borne_out}
use Rattle.ab_run.proofs.whole_runs.run.Goals as goal

pub returns-clause-reported : goal.returns-clause-reported
returns-clause-reported g c =
    let status = c.run_words-status.result.0 in
    let handed = option_map state_of c.run_words-status.result.1 in
    let left = g.S.Source.left c.args.input.now in
    let left' = g.S.Source.left c.run_words-status.new.input in
    let out = g.O.Sink.written c.args.out.now in
    let out' = g.O.Sink.written c.run_words-status.new.out in
    let reads = g.S.Source.faults c.args.input.now in
    let reads' = g.S.Source.faults c.run_words-status.new.input in
    let writes = g.O.Sink.faults c.args.out.now in
    let writes' = g.O.Sink.faults c.run_words-status.new.out in
    let files = c.args.files.now in
    let files' = c.run_words-status.new.files in
    let before = seen (g.F.Files.files files) (g.F.Files.plan files) (g.F.Files.faults files) (g.F.Files.misses files) (g.F.Files.long_files files) in
    let after = seen (g.F.Files.files files') (g.F.Files.plan files') (g.F.Files.faults files') (g.F.Files.misses files') (g.F.Files.long_files files') in
    λ q text front e s o r w f m.
    asked_reported status handed left left' out out' reads reads' writes writes' text front c.number.result c.number.ensures o r w m
    (way_of q) q.origin before after s f (subst (λ x. RanAsAsked x status handed (outside left out reads writes before) (outside left' out' reads' writes' after)) e c.run_words-status.ensures.ran)

pub returns-clause-proved : goal.returns-clause-proved
returns-clause-proved g c = λ way text name loads r x. all_borne_out (completed name) x.reports

pub returns-clause-admitted : goal.returns-clause-admitted
returns-clause-admitted g c = λ way text name names loads r x. all_borne_out (admitted name names) x.reports

pub returns-clause-theorems : goal.returns-clause-theorems
returns-clause-theorems g c =
    asked_derived c.run_words-status.result.0 (option_map state_of c.run_words-status.result.1) (g.S.Source.left c.args.input.now) (g.S.Source.left c.run_words-status.new.input)
    (g.O.Sink.written c.args.out.now) (g.O.Sink.written c.run_words-status.new.out) (g.S.Source.faults c.args.input.now) (g.S.Source.faults c.run_words-status.new.input)
    (g.O.Sink.faults c.args.out.now) (g.O.Sink.faults c.run_words-status.new.out) _ _ _ c.run_words-status.ensures.ran
