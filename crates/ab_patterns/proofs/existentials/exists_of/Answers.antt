use Rattle.ab_norm.proofs.Frame.{adds_more}
use Rattle.ab_patterns.proofs.Over.{adds_next}
use Rattle.ab_patterns.proofs.existentials.exists_of.Goals as goal

pub returns-in_err-args-clause-adds : goal.returns-in_err-args-clause-adds
returns-in_err-args-clause-adds c =
    adds_more c.args.store.now c.lam.new.self c.lam.ensures.before c.lam.ensures.cells (λ types typed. c.lam.ensures.typed types typed (c.cell_type-ty.ensures.typed types typed))

pub returns-clause-adds : goal.returns-clause-adds
returns-clause-adds c =
    let made = adds_more c.args.store.now c.lam.new.self c.lam.ensures.before c.lam.ensures.cells (λ types typed. c.lam.ensures.typed types typed (c.cell_type-ty.ensures.typed types typed)) in
    adds_next c.args.store.now c.lam.new.self c.spine.new.self made c.spine.ensures.before c.spine.ensures.cells (λ types first typed. c.spine.ensures.typed types typed (c.cell_type-ty.ensures.typed types first))
