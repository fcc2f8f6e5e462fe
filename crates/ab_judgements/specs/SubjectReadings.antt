-- What the program's subjects stand for.
use Rattle.std.specs.Prelude.{Option, Some, IsSome}
use Rattle.std.specs.Option.{option_map}
use Rattle.ab_formulas.specs.Programs.{program_in}
use Rattle.ab_logic.specs.Worlds.{declarations_of}
use Rattle.ab_logic.specs.declared.world.World.{World}
use Rattle.ab_theory.specs.SpecRules.{rules_of}
use Rattle.ab_theory.specs.Subjects as plain
use Rattle.ab_alternatives.specs.AtomReadings.{defined_read, HoldsDefined}
use Rattle.ab_judgement_forms.specs.JudgementReadings.{judgement_read, HoldsJudgement}
use Rattle.ab_judgements.specs.declared.subjects.Subject.{Subject}
use Rattle.ab_judgements.specs.declared.subjects.Subject.TheVariants.{Atom, Judgement}

-- THE READING of a subject: a judgement is one with the rules by which it may hold in this world
abbrev pub subject_read : World → Subject → Option plain.Subject
subject_read w (Atom d) = Some (plain.an_atom (defined_read w d))
subject_read w (Judgement j) = option_map (plain.a_judgement (judgement_read w j)) (rules_of (program_in (declarations_of w)) (judgement_read w j))

-- it reads as a subject
abbrev pub HasRules : World → Subject → Type 0
HasRules w s = IsSome (subject_read w s)

-- what it names is there
abbrev pub HoldsSubject : World → Subject → Type 0
HoldsSubject w (Atom d) = HoldsDefined w d
HoldsSubject w (Judgement j) = HoldsJudgement w j
