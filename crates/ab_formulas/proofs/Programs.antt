-- The program of declarations, one behind another.
use Rattle.std.proofs.Common.{◌≡◌, [], ◌∷◌, ◌++◌, refl, ap}
use Rattle.ab_formulas.specs.Declarations.{Declarations, a_kind, a_constant, a_block, a_program_clause, a_theorem}
use Rattle.ab_formulas.specs.Programs.{program_in}

pub program_in-append : (D E : Declarations) → program_in (D ++ E) ≡ program_in D ++ program_in E
program_in-append [] E = refl
program_in-append (a_kind k ∷ D) E = program_in-append D E
program_in-append (a_constant c A ∷ D) E = program_in-append D E
program_in-append (a_block b ∷ D) E = program_in-append D E
program_in-append (a_program_clause c ∷ D) E = ap (λ cs. c ∷ cs) (program_in-append D E)
program_in-append (a_theorem n F js ∷ D) E = program_in-append D E
