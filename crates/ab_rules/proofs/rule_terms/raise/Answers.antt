use Rattle.std.proofs.Common.{◌≡◌, length, map, ap, ◌∙◌}
use Rattle.ab_term.specs.Substitution.{instance}
use Rattle.ab_norm.specs.Nominals.{nominal_of}
use Rattle.ab_logic.specs.Worlds.{read}
use Rattle.ab_theory.specs.Rules.{raised, applied}
use Rattle.ab_norm.specs.ab_types.specs.Ids.{type_of}
use Rattle.ab_logic.proofs.Growing.{grows_on}
use Rattle.ab_rules.proofs.Making.{names_stay, names_are_there}
use Rattle.ab_rules.proofs.rule_terms.raise.Goals as goal

pub variable_given-requires-clause-names : goal.variable_given-requires-clause-names
variable_given-requires-clause-names g c = names_are_there _ _ _ c.raised_variable.ensures.part c.requires.names

pub instance_of-requires-clause-lam : goal.instance_of-requires-clause-lam
instance_of-requires-clause-lam g c = c.variable_given.ensures.adds.grows.ids c.args.body (c.raised_variable.ensures.grows.ids c.args.body c.requires.body)

pub returns-in_err-variable-clause-grows : goal.returns-in_err-variable-clause-grows
returns-in_err-variable-clause-grows g c = grows_on _ _ _ c.raised_variable.ensures.grows c.variable_given.ensures.adds.grows

pub returns-in_err-formula-clause-grows : goal.returns-in_err-formula-clause-grows
returns-in_err-formula-clause-grows g c = grows_on _ _ _ (grows_on _ _ _ c.raised_variable.ensures.grows c.variable_given.ensures.adds.grows) c.instance_of.ensures.adds.grows

pub returns-clause-grows : goal.returns-clause-grows
returns-clause-grows g c = grows_on _ _ _ (grows_on _ _ _ c.raised_variable.ensures.grows c.variable_given.ensures.adds.grows) c.instance_of.ensures.adds.grows

pub returns-clause-cell : goal.returns-clause-cell
returns-clause-cell g c = c.instance_of.ensures.adds.grows.cell_ids _ (c.variable_given.ensures.adds.grows.cell_ids _ c.in_ok-cell.ensures.held)

pub returns-clause-variable : goal.returns-clause-variable
returns-clause-variable g c =
    c.instance_of.ensures.adds.grows.cells _ (c.variable_given.ensures.adds.grows.cell_ids _ c.in_ok-cell.ensures.held)
    ∙ c.variable_given.ensures.adds.grows.cells _ c.in_ok-cell.ensures.held
    ∙ c.in_ok-cell.ensures.reads

pub returns-clause-reads : goal.returns-clause-reads
returns-clause-reads g c =
    let u = c.args.world.now in
    let v = c.raised_variable.new.world in
    let w = c.variable_given.new.world in
    let names = c.args.names.now in
    let body : read w c.args.body ≡ read u c.args.body =
    c.variable_given.ensures.adds.grows.readings c.args.body (c.raised_variable.ensures.grows.ids c.args.body c.requires.body) ∙ c.raised_variable.ensures.grows.readings c.args.body c.requires.body in
    c.in_ok-formula.ensures.reads
    ∙ ap (λ t. instance t (read w c.in_ok-variable.variable)) body
    ∙ ap (instance (read u c.args.body)) (c.in_ok-variable.ensures.reads
    ∙ ap (λ x. applied x (map (nominal_of v.types) names)) c.in_ok-cell.ensures.reads
    ∙ ap (applied (raised (length u.store.cells) c.args.name (type_of u.types c.args.ty) (map (nominal_of u.types) names))) (names_stay _ _ names c.raised_variable.ensures.part c.requires.names))

pub returns-in_err-variable-clause-declared : goal.returns-in_err-variable-clause-declared
returns-in_err-variable-clause-declared g c = c.variable_given.ensures.adds.declared ∙ c.raised_variable.ensures.declared

pub returns-in_err-formula-clause-declared : goal.returns-in_err-formula-clause-declared
returns-in_err-formula-clause-declared g c = c.instance_of.ensures.adds.declared ∙ c.variable_given.ensures.adds.declared ∙ c.raised_variable.ensures.declared

pub returns-clause-declared : goal.returns-clause-declared
returns-clause-declared g c = c.instance_of.ensures.adds.declared ∙ c.variable_given.ensures.adds.declared ∙ c.raised_variable.ensures.declared
