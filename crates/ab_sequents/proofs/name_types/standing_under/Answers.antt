use Rattle.std.specs.Prelude.{All}
use Rattle.std.proofs.Common.{map, take, sym, ◌∙◌, ap, subst, arith}
use Rattle.std.proofs.lemmas.List.{take_all, map_more}
use Rattle.ab_term.specs.Names.{support, IsSupport}
use Rattle.ab_norm.specs.ab_store.proofs.Growing.{unbound_reads}
use Rattle.ab_norm.specs.Nominals.{nominal_of, HoldsNominal}
use Rattle.ab_logic.specs.Worlds.{read}
use Rattle.ab_sequents.specs.NameTypes.{IsStanding}
use Rattle.ab_sequents.proofs.Standings.{stands_alike}
use Rattle.ab_sequents.proofs.name_types.standing_under.Goals as goal

pub loop-constant-preserved : goal.loop-constant-preserved
loop-constant-preserved c =
    let types = c.args.world.now.types in
    let ns = c.args.numbers.now in
    let cs = c.deref-constant-items.result.now in
    let i = c.loop-constant.constant-index in
    let held = subst (All (HoldsNominal types)) (sym c.deref-constant-items.ensures.value) c.in_ok-constants.ensures.held in
    subst (λ l. IsStanding types ns l c.join_types-standing.result) (sym (map_more (nominal_of types) cs i _ c.loop-constant-test.true))
    (c.join_types-standing.ensures ns (map (nominal_of types) (take i cs)) _ c.loop-constant.invariant (c.standing_of-one.ensures types (held i _ c.loop-constant-test.true)))

pub returns : goal.returns
returns c =
    let w = c.args.world.now in
    let whole = take_all c.loop-constant.constant-index c.deref-constant-items.result.now (omega arith) ∙ c.deref-constant-items.ensures.value in
    let all = subst (λ l. IsStanding w.types c.args.numbers.now (map (nominal_of w.types) l) c.loop-constant.standing) whole c.loop-constant.invariant in
    let found = subst (λ t. IsSupport t (map (nominal_of w.types) c.in_ok-constants.constants.items)) (unbound_reads w.store c.requires.world.unbound w.types c.args.formula) c.in_ok-constants.ensures.reads in
    stands_alike w.types c.args.numbers.now (map (nominal_of w.types) c.in_ok-constants.constants.items) (support (read w c.args.formula)) c.loop-constant.standing
    (λ a. (found.same a).0) (λ a. (found.same a).1) all
