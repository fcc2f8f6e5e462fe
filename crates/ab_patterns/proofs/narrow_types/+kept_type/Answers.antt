use Rattle.ab_norm.specs.ab_types.proofs.Entries.{type_still_held}
use Rattle.ab_norm.proofs.Frame.{if_ok}
use Rattle.ab_term.specs.Types.{arrow}
use Rattle.ab_norm.specs.ab_types.specs.Ids.{type_of}
use Rattle.ab_patterns.proofs.Keeping.{kept_reads, found_kinds, found_constants}
use Rattle.ab_patterns.proofs.narrow_types.+kept_type.Goals as goal

pub arrow-requires-clause-from_held : goal.arrow-requires-clause-from_held
arrow-requires-clause-from_held t c = type_still_held c.args.types.now c.kept_type.new.types c.in_ok-left-in-Arrow.ensures.kept c.in-Arrow.from c.in-Arrow.ensures.held.0

pub returns-then-first-clause-reads : goal.returns-then-first-clause-reads
returns-then-first-clause-reads t c = if_ok c.arrow.result (λ r made.
    kept_reads c.args.types.now c.kept_type.new.types c.arrow.new.self c.args.ty c.in-Arrow.from c.in-Arrow.to c.in_ok-left-in-Arrow.left r c.args.keep.now _ c.in-len1-up.len_at_least c.if-first.true
    c.in_ok-left-in-Arrow.ensures.kept c.in-Arrow.ensures.held.0 c.in-Arrow.ensures.reads c.in_ok-left-in-Arrow.ensures.reads made) c.arrow.ensures.id

pub returns-then-first-clause-kinds : goal.returns-then-first-clause-kinds
returns-then-first-clause-kinds t c =
    let A = arrow (type_of c.kept_type.new.types c.in-Arrow.from) (type_of c.kept_type.new.types c.in_ok-left-in-Arrow.left) in
    found_kinds c.args.types.now c.kept_type.new.types c.arrow.new.self A c.arrow.result c.arrow.ensures.entries c.arrow.ensures.err c.in_ok-left-in-Arrow.ensures.kinds

pub returns-then-first-clause-constants : goal.returns-then-first-clause-constants
returns-then-first-clause-constants t c =
    let A = arrow (type_of c.kept_type.new.types c.in-Arrow.from) (type_of c.kept_type.new.types c.in_ok-left-in-Arrow.left) in
    found_constants c.args.types.now c.kept_type.new.types c.arrow.new.self A c.arrow.result c.arrow.ensures.entries c.arrow.ensures.err c.in_ok-left-in-Arrow.ensures.constants
