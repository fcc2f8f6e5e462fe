use Rattle.ab_infer.specs.Heads.{IsOrdinary, IsFixed}
use Rattle.ab_infer.proofs.ReadHeads.{reading_heads, ordinary_binders, fixed_binders}
use Rattle.ab_infer.proofs.reading_laws.readings_keep_heads.Goals as goal

pub returns-clause-ordinary : goal.returns-clause-ordinary
returns-clause-ordinary c = λ made types good G e t A As k r.
    reading_heads IsOrdinary (Unit {0}) made types (λ i. tt) (λ B. tt) ordinary_binders (λ u x f. good x (types x) f) k r

pub returns-clause-fixed : goal.returns-clause-fixed
returns-clause-fixed c = λ made types G e t A As k r.
    reading_heads IsFixed ⊥ made types (λ i. tt) (λ B. tt) fixed_binders (λ n x f. absurd n) k r
