use Rattle.ab_formulas.specs.Sequents.{goal_names}
use Rattle.ab_theory.specs.Atoms.{choices_of}
use Rattle.ab_theory.specs.Subjects.{way_by_choice}
use Rattle.ab_theory.proofs.SubjectParts.{atom_subject, made_there, made_of}
use Rattle.ab_theory.proofs.judgements.an_atom_is_a_subject.Goals as goal

pub returns-clause-subject : goal.returns-clause-subject
returns-clause-subject c = atom_subject

pub returns-clause-way : goal.returns-clause-way
returns-clause-way c s d i h = made_there (way_by_choice s d) (choices_of (goal_names s) d) i h

pub returns-clause-choice : goal.returns-clause-choice
returns-clause-choice c s d i w = made_of (way_by_choice s d) (choices_of (goal_names s) d) i w
