use Rattle.std.proofs.Common.{arith, option_map}
use Rattle.ab_norm.specs.ab_types.specs.Ids.{type_of}
use Rattle.ab_norm.specs.ab_store.specs.Trees.{head_reading}
use Rattle.ab_norm.proofs.Frame.{if_ok, typed_on}
use Rattle.ab_patterns.proofs.ArgumentNames.{rest_shorter, rest_held, pattern_reads}
use Rattle.ab_patterns.proofs.Resolved.{rest_resolved}
use Rattle.ab_patterns.proofs.names.+pattern.Goals as goal

pub pattern-requires : goal.pattern-requires
pattern-requires t c = (
  omega (arith, rest_shorter c.args.args.now c.in-len1-up.len_at_least, c.decreases),
  (c.in_ok-name-in-Arrow.ensures.adds.typed, (c.in-Arrow.ensures.held.1, (rest_held c.args.store.now c.name_of.new.store c.args.args.now c.in-len1-up.len_at_least c.in_ok-name-in-Arrow.ensures.adds.before c.requires.args, rest_resolved c.args.store.now c.name_of.new.store c.args.args.now c.in-len1-up.len_at_least c.in_ok-name-in-Arrow.ensures.adds.before c.requires.args c.requires.resolved))),
)

pub returns-in_err-others-in-Arrow-clause-adds : goal.returns-in_err-others-in-Arrow-clause-adds
returns-in_err-others-in-Arrow-clause-adds t c = typed_on c.args.types.now c.args.store.now c.name_of.new.store c.pattern.new.store c.in_ok-name-in-Arrow.ensures.adds c.in_err-others-in-Arrow.ensures.adds

pub returns-in_ok-others-in-Arrow-clause-adds : goal.returns-in_ok-others-in-Arrow-clause-adds
returns-in_ok-others-in-Arrow-clause-adds t c = typed_on c.args.types.now c.args.store.now c.name_of.new.store c.pattern.new.store c.in_ok-name-in-Arrow.ensures.adds c.in_ok-others-in-Arrow.ensures.adds

pub returns-in_ok-others-in-Arrow-clause-reads : goal.returns-in_ok-others-in-Arrow-clause-reads
returns-in_ok-others-in-Arrow-clause-reads t c =
    let types = c.args.types.now in
    let old = c.args.store.now in
    if_ok c.new_name.result (λ r made.
    pattern_reads types old c.name_of.new.store (type_of types c.in-Arrow.from) (type_of types c.in-Arrow.to) (type_of types c.args.ty) c.args.args.now _ c.in-len1-up.len_at_least
    c.in_ok-name-in-Arrow.ensures.adds.before c.in_ok-name-in-Arrow.ensures.adds.cells c.requires.args c.in-Arrow.ensures.reads
    (option_map (head_reading types old) c.in_ok-name-in-Arrow.name) c.in_ok-name-in-Arrow.ensures.reads
    c.in_ok-others-in-Arrow.others c.in_ok-others-in-Arrow.ensures.reads
    r (made types old c.len.ensures.table c.in_ok-name-in-Arrow.ensures.typed c.in_ok-others-in-Arrow.ensures.typed)) c.new_name.ensures.reads
