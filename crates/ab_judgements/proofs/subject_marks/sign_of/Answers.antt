use Rattle.std.proofs.Common.{ap, ◌∙◌}
use Rattle.ab_formulas.specs.Programs.{program_in}
use Rattle.ab_logic.specs.Worlds.{declarations_of}
use Rattle.ab_theory.specs.SpecRules.{rules_of}
use Rattle.ab_alternatives.specs.AtomReadings.{defined_read}
use Rattle.ab_judgement_forms.specs.JudgementReadings.{judgement_read}
use Rattle.ab_judgements.specs.SubjectReadings.{subject_read}
use Rattle.ab_judgements.proofs.Signs.{atom_sign, judgement_sign}
use Rattle.ab_judgements.proofs.subject_marks.sign_of.Goals as goal

pub returns-in-Atom : goal.returns-in-Atom
returns-in-Atom c = λ w x e. atom_sign (defined_read w c.in-Atom.atom) x (rw c.in-Atom.is at e)

pub returns-in-Judgement : goal.returns-in-Judgement
returns-in-Judgement c = λ w x e.
    let j = judgement_read w c.in-Judgement.judgement in
    judgement_sign j (rules_of (program_in (declarations_of w)) j) x (rw c.in-Judgement.is at e)
