use Rattle.ab_theory.proofs.SameRules.{same_rules, still_subject}
use Rattle.ab_theory.proofs.judgements.subjects_outlive_declarations.Goals as goal

pub returns-clause-rules : goal.returns-clause-rules
returns-clause-rules c D E grows = same_rules D E grows.program

pub returns-clause-subjects : goal.returns-clause-subjects
returns-clause-subjects c D E grows = still_subject D E grows
