use Rattle.std.proofs.Common.{slice_index_or, arith}
use Rattle.ab_term.specs.Types.{arrow}
use Rattle.ab_norm.specs.ab_types.specs.Ids.{type_of}
use Rattle.ab_norm.specs.ab_types.proofs.Entries.{type_still_held}
use Rattle.ab_norm.proofs.Frame.{if_ok}
use Rattle.ab_instances.proofs.Made.{over_reads, found_kinds, found_constants}
use Rattle.ab_search_ways.proofs.raised_bodies.+type_over.Goals as goal

pub arrow-requires-clause-from_held : goal.arrow-requires-clause-from_held
arrow-requires-clause-from_held t c =
    type_still_held c.args.types.now c.type_over.new.types c.in_ok-left-in-len1-up.ensures.kept (slice_index_or c.args.names.now 0 (record { number = 0; ty = record { 0 = 0 } })).ty
    (c.requires.names 0 (record { number = 0; ty = record { 0 = 0 } }) (let l = c.in-len1-up.len_at_least in omega (arith, l)))

pub returns-in_ok-left-in-len1-up-clause-reads : goal.returns-in_ok-left-in-len1-up-clause-reads
returns-in_ok-left-in-len1-up-clause-reads t c = if_ok c.arrow.result (λ r made.
    over_reads c.args.types.now c.type_over.new.types c.arrow.new.self c.args.ty c.in_ok-left-in-len1-up.left r c.args.names.now (record { number = 0; ty = record { 0 = 0 } }) c.in-len1-up.len_at_least
    c.in_ok-left-in-len1-up.ensures.kept c.requires.names c.in_ok-left-in-len1-up.ensures.reads made) c.arrow.ensures.id

pub returns-in_ok-left-in-len1-up-clause-kinds : goal.returns-in_ok-left-in-len1-up-clause-kinds
returns-in_ok-left-in-len1-up-clause-kinds t c =
    let first = slice_index_or c.args.names.now 0 (record { number = 0; ty = record { 0 = 0 } }) in
    let A = arrow (type_of c.type_over.new.types first.ty) (type_of c.type_over.new.types c.in_ok-left-in-len1-up.left) in
    found_kinds c.args.types.now c.type_over.new.types c.arrow.new.self A c.arrow.result c.arrow.ensures.entries c.arrow.ensures.err c.in_ok-left-in-len1-up.ensures.kinds

pub returns-in_ok-left-in-len1-up-clause-constants : goal.returns-in_ok-left-in-len1-up-clause-constants
returns-in_ok-left-in-len1-up-clause-constants t c =
    let first = slice_index_or c.args.names.now 0 (record { number = 0; ty = record { 0 = 0 } }) in
    let A = arrow (type_of c.type_over.new.types first.ty) (type_of c.type_over.new.types c.in_ok-left-in-len1-up.left) in
    found_constants c.args.types.now c.type_over.new.types c.arrow.new.self A c.arrow.result c.arrow.ensures.entries c.arrow.ensures.err c.in_ok-left-in-len1-up.ensures.constants
