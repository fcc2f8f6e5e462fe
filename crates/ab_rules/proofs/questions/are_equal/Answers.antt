use Rattle.std.specs.Prelude.{IsTrue, ◌↔◌}
use Rattle.std.proofs.Common.{subst}
use Rattle.std.proofs.lemmas.Result.{IfOk-weaker}
use Rattle.ab_term.specs.Translation.{EqualPastHints}
use Rattle.ab_norm.specs.ab_store.specs.Reading.{reading}
use Rattle.ab_norm.specs.ab_store.proofs.Growing.{unbound_reads}
use Rattle.ab_logic.specs.Worlds.{read}
use Rattle.ab_rules.proofs.questions.are_equal.Goals as goal

pub returns : goal.returns
returns c =
    let w = c.args.world.now in
    let none = c.requires.world.unbound in
    IfOk-weaker c.equal.result _ _
    (λ yes is.
    subst (λ t. IsTrue yes ↔ EqualPastHints (read w c.args.a) t) (unbound_reads w.store none w.types c.args.b)
    (subst (λ t. IsTrue yes ↔ EqualPastHints t (reading w.types w.store c.args.b)) (unbound_reads w.store none w.types c.args.a) is))
    c.equal.ensures
