use Rattle.std.proofs.Common.{[], ◌∙◌, ap}
use Rattle.ab_term.specs.Types.{prop}
use Rattle.ab_term.specs.Names.{permute}
use Rattle.ab_norm.specs.ab_store.specs.Reading.{reading}
use Rattle.ab_norm.specs.Nominals.{pairs_of}
use Rattle.ab_norm.proofs.Frame.{typed_on}
use Rattle.ab_instances.specs.ListReadings.{names_read}
use Rattle.ab_formulas.specs.Marks.{erased}
use Rattle.ab_search_ways.proofs.Bare.{erased_over, kept_term}
use Rattle.ab_search_ways.proofs.hypothesis_sides.sides.Goals as goal

pub returns-in_err-left-clause-adds : goal.returns-in_err-left-clause-adds
returns-in_err-left-clause-adds g c = typed_on c.args.types.now c.args.store.now c.bare.new.store c.permute.new.store c.bare.ensures.adds c.permute.ensures.adds

pub bare-requires-2-clause-formula : goal.bare-requires-2-clause-formula
bare-requires-2-clause-formula g c =
    kept_term c.args.types.now c.args.store.now c.permute.new.store (typed_on c.args.types.now c.args.store.now c.bare.new.store c.permute.new.store c.bare.ensures.adds c.permute.ensures.adds)
    [] c.args.conclusion prop c.requires.conclusion

pub returns-in_err-right-clause-adds : goal.returns-in_err-right-clause-adds
returns-in_err-right-clause-adds g c =
    typed_on c.args.types.now c.args.store.now c.permute.new.store c.bare-2.new.store
    (typed_on c.args.types.now c.args.store.now c.bare.new.store c.permute.new.store c.bare.ensures.adds c.permute.ensures.adds) c.bare-2.ensures.adds

pub returns-clause-left : goal.returns-clause-left
returns-clause-left g c =
    let types = c.args.types.now in
    let pairs = pairs_of types c.in_ok-by.by.pairs in
    let B = reading types c.args.store.now c.args.hypothesis in
    c.bare-2.ensures.adds.before.readings types c.in_ok-left.left c.in_ok-left.ensures.held
    ∙ c.in_ok-left.ensures.reads
    ∙ ap (permute pairs) c.in_ok-given.ensures.reads
    ∙ c.in_ok-by.ensures.does (erased B) (erased_over (names_read types c.args.names.now) B c.requires.over)

pub returns-clause-right : goal.returns-clause-right
returns-clause-right g c =
    let types = c.args.types.now in
    let so_far = typed_on types c.args.store.now c.bare.new.store c.permute.new.store c.bare.ensures.adds c.permute.ensures.adds in
    c.in_ok-right.ensures.reads ∙ ap erased (so_far.before.readings types c.args.conclusion c.requires.conclusion.0)

pub returns-clause-typed : goal.returns-clause-typed
returns-clause-typed g c =
    let types = c.args.types.now in (
      [],
      prop,
      kept_term types c.permute.new.store c.bare-2.new.store c.bare-2.ensures.adds [] c.in_ok-left.left prop (c.in_ok-left.ensures.term [] prop c.in_ok-given.ensures.term),
      c.in_ok-right.ensures.term,
    )

pub returns-clause-adds : goal.returns-clause-adds
returns-clause-adds g c =
    typed_on c.args.types.now c.args.store.now c.permute.new.store c.bare-2.new.store
    (typed_on c.args.types.now c.args.store.now c.bare.new.store c.permute.new.store c.bare.ensures.adds c.permute.ensures.adds) c.bare-2.ensures.adds
