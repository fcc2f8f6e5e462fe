use Rattle.std.proofs.Common.{◌≡◌, not, sym, ap, subst}
use Rattle.ab_inference.specs.WrittenTypes.{KindAnswers}
use Rattle.std.specs.Prelude.{Err}
use Rattle.ab_store.specs.ab_types.specs.declared.fault.TableFault.TheVariants.{UnknownKind}
use Rattle.ab_inference.specs.declared.fault.InferFault.TheVariants.{Unknown}
use Rattle.ab_inference.proofs.WrittenTyping.{kind_answer, kind_none}
use Rattle.ab_inference.proofs.Tables.{same_kinds, same_constants}
use Rattle.ab_inference.proofs.written_types.read_kind.Goals as goal

pub returns-in-Ok-clause-answer : goal.returns-in-Ok-clause-answer
returns-in-Ok-clause-answer c =
    kind_answer c.args.types.now c.base.new.self c.args.name.now _ c.in-Ok.ty (λ n. let h = c.in-Ok.ensures.unknown.1 n in cc)
    c.in-Ok.ensures.held c.in-Ok.ensures.id (ap not c.is_prop-is_free.ensures)

pub returns-in-Ok-clause-kinds : goal.returns-in-Ok-clause-kinds
returns-in-Ok-clause-kinds c = same_kinds c.args.types.now c.base.new.self _ c.in-Ok.ensures.entries

pub returns-in_ok-copy-in-Err-UnknownKind-clause-answer : goal.returns-in_ok-copy-in-Err-UnknownKind-clause-answer
returns-in_ok-copy-in-Err-UnknownKind-clause-answer c =
    let e : c.base.result ≡ Err UnknownKind = cc in
    subst (λ x. KindAnswers c.args.types.now c.base.new.self c.args.name.now (Err (Unknown x))) (sym c.in_ok-copy-in-Err-UnknownKind.ensures)
    (kind_none c.args.types.now c.base.new.self c.args.name.now (c.base.ensures.unknown.0 e))

pub returns-in-Ok-clause-constants : goal.returns-in-Ok-clause-constants
returns-in-Ok-clause-constants c = same_constants c.args.types.now c.base.new.self _ c.in-Ok.ensures.entries
