use Rattle.std.specs.Option.{option_and_then}
use Rattle.std.proofs.Common.{sym, ◌∙◌, ap}
use Rattle.ab_judgements.specs.SubjectReadings.{subject_read}
use Rattle.ab_analyses.proofs.subjects.alternatives.Goals as goal

pub subject_alternatives-requires-clause-of_formula : goal.subject_alternatives-requires-clause-of_formula
subject_alternatives-requires-clause-of_formula g c = sym (ap (option_and_then (subject_read c.args.world.now)) c.in-Some.is) ∙ c.in_ok-subject.ensures.reads

pub returns-in_default-clause-no_atom : goal.returns-in_default-clause-no_atom
returns-in_default-clause-no_atom g c = λ e. sym c.in_ok-subject.ensures.reads ∙ ap (option_and_then (subject_read c.args.world.now)) c.in_default.is
