use Rattle.std.proofs.Common.{map, subst}
use Rattle.std.proofs.lemmas.Result.{IfOk-weaker}
use Rattle.ab_term.specs.Names.{IsSupport}
use Rattle.ab_norm.specs.ab_store.proofs.Growing.{unbound_reads}
use Rattle.ab_norm.specs.Nominals.{nominal_of}
use Rattle.ab_rules.proofs.questions.support_in.Goals as goal

pub returns-clause-support : goal.returns-clause-support
returns-clause-support c =
    let w = c.args.world.now in
    let none = c.requires.world.unbound in
    IfOk-weaker c.support.result _ _
    (λ list is. subst (λ t. IsSupport t (map (nominal_of w.types) list.items)) (unbound_reads w.store none w.types c.args.formula) is)
    c.support.ensures.reads
