use Rattle.std.proofs.Common.{◌∙◌, sym, ap, subst, refl}
use Rattle.ab_term.specs.Types.{kind}
use Rattle.ab_types.specs.Entries.{a_type, FindsOrAdds}
use Rattle.ab_types.proofs.Kept.{kind_found, kind_not_found}
use Rattle.ab_types.proofs.Refusals.{memory_no_unknown, ok_no_unknown}
use Rattle.ab_types.proofs.table.TypeTable.base.Goals as goal

pub intern-requires : goal.intern-requires
intern-requires c = (kind_found c.self.inside.order.items c.self.inside.kinds.keys c.self.inside.types.keys c.self.inside.constants.entries c.args.self.now c.self.view_is c.self.invariant c.args.kind.now c.in-Some.place (sym c.in-Some.ensures.index)).held

pub returns-in-None-clause-unknown : goal.returns-in-None-clause-unknown
returns-in-None-clause-unknown c = (λ _. kind_not_found c.self.inside.order.items c.self.inside.kinds.keys c.self.inside.types.keys c.self.inside.constants.entries c.args.self.now c.self.view_is c.self.invariant c.args.kind.now (sym c.in-None.ensures.found), λ _. refl)

pub returns-in_err-intern-in-Some-clause-unknown : goal.returns-in_err-intern-in-Some-clause-unknown
returns-in_err-intern-in-Some-clause-unknown c =
    (λ e. absurd (memory_no_unknown c.from_residual.result c.in_err-intern-in-Some.field-0.0 c.from_residual.ensures.1 e), λ none. absurd (none (kind_found c.self.inside.order.items c.self.inside.kinds.keys c.self.inside.types.keys c.self.inside.constants.entries c.args.self.now c.self.view_is c.self.invariant c.args.kind.now c.in-Some.place (sym c.in-Some.ensures.index)).among))

pub returns-in_ok-intern-in-Some-clause-id : goal.returns-in_ok-intern-in-Some-clause-id
returns-in_ok-intern-in-Some-clause-id c =
    c.in_ok-intern-in-Some.ensures.id ∙ ap kind (kind_found c.self.inside.order.items c.self.inside.kinds.keys c.self.inside.types.keys c.self.inside.constants.entries c.args.self.now c.self.view_is c.self.invariant c.args.kind.now c.in-Some.place (sym c.in-Some.ensures.index)).name

pub returns-in_ok-intern-in-Some-clause-entries : goal.returns-in_ok-intern-in-Some-clause-entries
returns-in_ok-intern-in-Some-clause-entries c =
    subst (λ k. FindsOrAdds c.args.self.now (a_type (kind k)) c.intern.new.self) (kind_found c.self.inside.order.items c.self.inside.kinds.keys c.self.inside.types.keys c.self.inside.constants.entries c.args.self.now c.self.view_is c.self.invariant c.args.kind.now c.in-Some.place (sym c.in-Some.ensures.index)).name c.in_ok-intern-in-Some.ensures.entries

pub returns-in_ok-intern-in-Some-clause-unknown : goal.returns-in_ok-intern-in-Some-clause-unknown
returns-in_ok-intern-in-Some-clause-unknown c =
    (λ e. absurd (ok_no_unknown c.in_ok-intern-in-Some.field-0 e), λ none. absurd (none (kind_found c.self.inside.order.items c.self.inside.kinds.keys c.self.inside.types.keys c.self.inside.constants.entries c.args.self.now c.self.view_is c.self.invariant c.args.kind.now c.in-Some.place (sym c.in-Some.ensures.index)).among))
