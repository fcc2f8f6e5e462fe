use Rattle.std.specs.Prelude.{IsTrue, ◌↔◌}
use Rattle.std.proofs.Common.{subst}
use Rattle.ab_term.specs.Names.{EqualUpToNames}
use Rattle.ab_norm.specs.ab_store.specs.Reading.{reading}
use Rattle.ab_norm.specs.ab_store.proofs.Growing.{unbound_reads}
use Rattle.ab_logic.specs.Worlds.{read}
use Rattle.ab_rules.proofs.Finding.{found_is}
use Rattle.ab_rules.proofs.questions.are_equal_up_to_names.Goals as goal

pub returns : goal.returns
returns c =
    let w = c.args.world.now in
    let none = c.requires.world.unbound in
    let found = found_is w.types (reading w.types w.store c.args.a) (reading w.types w.store c.args.b) c.in_ok-found.found c.is_some.result c.is_some.ensures
    c.in_ok-found.ensures.permutes c.in_ok-found.ensures.sends c.in_ok-found.ensures.none in
    subst (λ t. IsTrue c.is_some.result ↔ EqualUpToNames (read w c.args.a) t) (unbound_reads w.store none w.types c.args.b)
    (subst (λ t. IsTrue c.is_some.result ↔ EqualUpToNames t (reading w.types w.store c.args.b)) (unbound_reads w.store none w.types c.args.a) found)
