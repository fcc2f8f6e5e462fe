use Rattle.ab_norm.proofs.Frame.{typed_more}
use Rattle.ab_judgement_forms.proofs.opened_goals.nabla.Goals as goal

pub returns-clause-adds : goal.returns-clause-adds
returns-clause-adds c =
    let T = c.args.types.now in
    let typed = c.lam.ensures.typed T c.requires.store c.requires.ty in
    typed_more T c.args.store.now c.lam.new.self c.spine.new.self c.lam.ensures.before c.lam.ensures.cells c.spine.ensures.before c.spine.ensures.cells (c.spine.ensures.typed T typed c.requires.ty)
