-- DECLARATIONS GROW without the program: what is added is kinds, constants, definitions and theorems, and no clause. A clause that
-- comes gives a judgement one rule more, so what is taken by its rules before isn't taken by them then; all else that a rule says
-- outlives whatever is added.
use Rattle.std.specs.Prelude.{◌≡◌}
use Rattle.ab_formulas.specs.Declarations.{Declarations, Extends}
use Rattle.ab_formulas.specs.Programs.{program_in}

-- the second list begins with the first, and no clause of the program stands behind it
pub record AddsNoClause (D E : Declarations) : Type 0 where
  pub longer : Extends D E
  pub program : program_in E ≡ program_in D
