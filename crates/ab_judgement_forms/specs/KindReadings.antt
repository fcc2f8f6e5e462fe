-- What the program's kinds of formulas of the specification logic stand for.
use Rattle.ab_theory.specs.Opening as plain
use Rattle.ab_judgement_forms.specs.declared.kinds.Kind.{Kind}
use Rattle.ab_judgement_forms.specs.declared.kinds.Kind.TheVariants.{Compound, Atomic, Undetermined}

-- what a formula is by its head
abbrev pub kind_read : Kind → plain.Kind
kind_read Compound = plain.compound
kind_read Atomic = plain.atomic
kind_read Undetermined = plain.undetermined
