use Rattle.std.proofs.Common.{◌∙◌, sym, ap, subst}
use Rattle.ab_term.specs.Typing as typing
use Rattle.ab_types.specs.Entries.{signature}
use Rattle.ab_types.specs.Ids.{HoldsKind, HoldsType, HoldsConstant, kind_of, type_of, constant_of}
use Rattle.ab_types.proofs.Entries.{holds_kind, holds_type, holds_constant, same_kind, same_type, same_constant, same_signature}
use Rattle.ab_types.proofs.laws.extension_keeps_readings.Goals as goal

pub returns-clause-kinds : goal.returns-clause-kinds
returns-clause-kinds c = λ old new more id h.
    (subst (λ t. HoldsKind t id) (sym more.1) (holds_kind old more.0 id h), ap (λ t. kind_of t id) more.1 ∙ same_kind old more.0 id h)

pub returns-clause-types : goal.returns-clause-types
returns-clause-types c = λ old new more id h.
    (subst (λ t. HoldsType t id) (sym more.1) (holds_type old more.0 id h), ap (λ t. type_of t id) more.1 ∙ same_type old more.0 id h)

pub returns-clause-constants : goal.returns-clause-constants
returns-clause-constants c = λ old new more id h.
    (subst (λ t. HoldsConstant t id) (sym more.1) (holds_constant old more.0 id h), ap (λ t. constant_of t id) more.1 ∙ same_constant old more.0 id h)

pub returns-clause-signature : goal.returns-clause-signature
returns-clause-signature c = λ old new more.
    subst (λ t. typing.IsExtendedBy (signature old) (signature t)) (sym more.1) (same_signature old more.0)
