use Rattle.std.proofs.Common.{◌∙◌, sym, refl, true≢false}
use Rattle.std.proofs.lemmas.Map.Made.{is_some-lookup}
use Rattle.ab_types.proofs.Members.{name_test}
use Rattle.ab_types.proofs.Kept.{constant_found, constant_not_found}
use Rattle.ab_types.proofs.table.TypeTable.look.Goals as goal

pub returns-in-None-clause-absent : goal.returns-in-None-clause-absent
returns-in-None-clause-absent c =
    (λ _. constant_not_found c.self.inside.order.items c.self.inside.kinds.keys c.self.inside.types.keys c.self.inside.constants.entries c.args.self.now c.self.view_is c.self.invariant c.args.name.now (sym (is_some-lookup (name_test c.args.name.now) c.self.inside.constants.entries) ∙ sym c.in-None.ensures.found), λ _. refl)

pub returns-in-Some-clause-held : goal.returns-in-Some-clause-held
returns-in-Some-clause-held c = (constant_found c.self.inside.order.items c.self.inside.kinds.keys c.self.inside.types.keys c.self.inside.constants.entries c.args.self.now c.self.view_is c.self.invariant c.args.name.now c.in-Some.place (sym c.in-Some.ensures.index)).held

pub returns-in-Some-clause-name : goal.returns-in-Some-clause-name
returns-in-Some-clause-name c = (constant_found c.self.inside.order.items c.self.inside.kinds.keys c.self.inside.types.keys c.self.inside.constants.entries c.args.self.now c.self.view_is c.self.invariant c.args.name.now c.in-Some.place (sym c.in-Some.ensures.index)).name

pub returns-in-Some-clause-reads : goal.returns-in-Some-clause-reads
returns-in-Some-clause-reads c = (constant_found c.self.inside.order.items c.self.inside.kinds.keys c.self.inside.types.keys c.self.inside.constants.entries c.args.self.now c.self.view_is c.self.invariant c.args.name.now c.in-Some.place (sym c.in-Some.ensures.index)).type

pub returns-in-Some-clause-absent : goal.returns-in-Some-clause-absent
returns-in-Some-clause-absent c =
    (λ e. absurd (true≢false e), λ none. absurd (none (constant_found c.self.inside.order.items c.self.inside.kinds.keys c.self.inside.types.keys c.self.inside.constants.entries c.args.self.now c.self.view_is c.self.invariant c.args.name.now c.in-Some.place (sym c.in-Some.ensures.index)).among))
