use Rattle.std.proofs.Common.{◌≤◌, length, sym, ◌∙◌, ap, subst, arith}
use Rattle.ab_store.specs.ab_types.specs.Entries.{Table, types}
use Rattle.ab_store.specs.ab_types.specs.LastTypes.{LosesTypes}
use Rattle.ab_store.specs.Trees.{Contents}
use Rattle.ab_remains.proofs.Shorter.{left_twice, only_types_went, typed_still}
use Rattle.ab_remains.proofs.remains.drop_unnamed.Goals as goal

pub drop_terms-requires-clause-before : goal.drop_terms-requires-clause-before
drop_terms-requires-clause-before g c = let b = c.requires.before in (b.0, b.1, b.2, b.4)

pub drop_types-requires-clause-before : goal.drop_types-requires-clause-before
drop_types-requires-clause-before g c = let b = c.requires.before in (b.0, b.1, b.2.mark, b.3, c.drop_terms.ensures.before b.0 b.1 b.2 b.4)

pub drop_types-requires-clause-named_type : goal.drop_types-requires-clause-named_type
drop_types-requires-clause-named_type g c = omega (arith, c.requires.named_type, ap (λ (t : Table). length (types t)) c.drop_terms.ensures.types)

pub returns-clause-left : goal.returns-clause-left
returns-clause-left g c = left_twice c.args.world.now c.drop_terms.new.world c.drop_types.new.world c.drop_terms.ensures.left c.drop_types.ensures.left

pub returns-clause-reaches : goal.returns-clause-reaches
returns-clause-reaches g c =
    subst (λ (s : Contents). (c.args.named.nodes ≤ length s.nodes) × (c.args.named.cells ≤ length s.cells)) (sym c.drop_types.ensures.store) c.drop_terms.ensures.reaches

pub returns-clause-before : goal.returns-clause-before
returns-clause-before g c = λ e is counted many grows. c.drop_types.ensures.before e many (c.drop_terms.ensures.before e is counted grows)

pub returns-clause-least : goal.returns-clause-least
returns-clause-least g c = λ v is same grows reaches.
    subst (λ (s : Contents). (length s.nodes ≤ length v.store.nodes) × (length s.cells ≤ length v.store.cells)) (sym c.drop_types.ensures.store) (c.drop_terms.ensures.least v is same grows reaches)

pub returns-clause-least_types : goal.returns-clause-least_types
returns-clause-least_types g c = λ v is same grows reaches enough declared.
    let mid = c.drop_terms.new.world in
    let left = c.drop_terms.ensures.left in
    let few = c.drop_terms.ensures.least v is same grows reaches in
    let loses = only_types_went v c.args.world.now is grows same (declared ∙ c.drop_types.ensures.left.declared ∙ left.declared) in
    c.drop_types.ensures.least v.types (subst (λ (t : Table). LosesTypes t v.types) (sym c.drop_terms.ensures.types) loses) enough
    (typed_still mid v c.args.world.now c.args.first.now left.world is left.reads grows few.0 few.1)

pub returns-clause-steps : goal.returns-clause-steps
returns-clause-steps g c = omega (arith, c.drop_types.ensures.steps, c.drop_terms.ensures.steps, ap length c.drop_terms.ensures.types)
