use Rattle.std.proofs.Common.{[], sym, ◌∙◌}
use Rattle.std.proofs.lemmas.Result.{err_from_is_err_and}
use Rattle.ab_term.specs.Constants.{names}
use Rattle.ab_norm.specs.ab_types.specs.Entries.{kinds, constants}
use Rattle.ab_norm.specs.ab_types.specs.Ids.{type_of}
use Rattle.ab_syntax.specs.Commands.{defined_of}
use Rattle.ab_declare.proofs.Putting.{in_use, not_in_use, taken, not_written, put_one, no_kind_more}
use Rattle.ab_declare.proofs.predicates.put_predicate.Goals as goal

pub returns-then-is_some-clause-put : goal.returns-then-is_some-clause-put
returns-then-is_some-clause-put c =
    let t = c.args.types.now in
    taken (kinds t) (names (constants t)) (defined_of c.args.predicate.now) [] c.in_ok-name.name
    (in_use c.look.result c.args.predicate.now.name (names (constants t)) (sym c.is_some.ensures ∙ c.if-is_some.true) c.look.ensures.absent) c.in_ok-name.ensures

pub returns-in_err-written-clause-put : goal.returns-in_err-written-clause-put
returns-in_err-written-clause-put c =
    let t = c.args.types.now in
    let p = err_from_is_err_and c.from_residual-in_err-written.result c.from_residual-in_err-written.ensures.1 in
    rw (p.1, p.2) (not_written t c.read_written.new.types (defined_of c.args.predicate.now) c.in_err-written.field-0.0
    (not_in_use c.look.result c.args.predicate.now.name (names (constants t)) (sym c.is_some.ensures ∙ c.if-is_some.false) c.look.ensures.absent) c.in_err-written.ensures.answer)

pub returns-in-Ok-clause-put : goal.returns-in-Ok-clause-put
returns-in-Ok-clause-put c =
    let t = c.args.types.now in
    let a = c.in_ok-written.ensures.answer in
    put_one t c.read_written.new.types c.declare_const.new.self (defined_of c.args.predicate.now) c.in-Ok.id c.in_ok-copy.field-0 a.0 (type_of c.read_written.new.types c.in_ok-written.written.ty)
    (not_in_use c.look.result c.args.predicate.now.name (names (constants t)) (sym c.is_some.ensures ∙ c.if-is_some.false) c.look.ensures.absent) a.1.reads a.1.is c.in_ok-copy.ensures
    c.in_ok-written.ensures.constants c.in-Ok.ensures.held c.in-Ok.ensures.id c.in-Ok.ensures.entries

pub returns-in-Ok-clause-kinds : goal.returns-in-Ok-clause-kinds
returns-in-Ok-clause-kinds c = no_kind_more c.read_written.new.types c.declare_const.new.self _ c.in-Ok.ensures.entries ∙ c.in_ok-written.ensures.kinds
