use Rattle.std.proofs.Common.{sym, ap, ◌∙◌}
use Rattle.ab_cert.specs.Grammar.{words, lead_of as lead_of_part}
use Rattle.ab_cert.proofs.StepRows.{step_table_is}
use Rattle.ab_cert.proofs.part.lead_of.Goals as goal

pub returns-in-Step : goal.returns-in-Step
returns-in-Step c = ap words step_table_is ∙ ap lead_of_part (sym c.in-Step.is)
