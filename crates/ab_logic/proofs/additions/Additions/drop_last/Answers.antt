use Rattle.std.specs.HashMap.{get}
use Rattle.std.proofs.Common.{List, ◌∷◌, [], ◌++◌, ap, ◌∙◌, subst}
use Rattle.ab_logic.specs.Additions.{same_constant, noted, IsFiled}
use Rattle.ab_logic.specs.declared.additions.Added.{Added}
use Rattle.ab_logic.specs.declared.additions.Addition.{Addition}
use Rattle.ab_logic.proofs.Cutting.{theorem_off, definition_off, clause_off}
use Rattle.ab_logic.proofs.additions.Additions.drop_last.Goals as goal

pub invariant_of-self-in-Theorem : goal.invariant_of-self-in-Theorem
invariant_of-self-in-Theorem c =
    let xs = c.pop.new.self.items in
    let names = c.self.inside.by_name.entries in
    let places = get same_constant c.self.inside.by_predicate in
    let heads = noted c.self.inside.by_head in
    let n = c.in-Some.added.before in
    theorem_off xs n names places heads c.in-Theorem.field-0 c.pop-in-Theorem.new.self.entries c.pop-in-Theorem.result
    (subst (λ (ys : List Added). IsFiled ys names places heads)
    (c.in-Some.ensures.items ∙ ap (λ (x : Addition). xs ++ record { what = x; before = n } ∷ []) c.in-Theorem.is) c.self.invariant)
    c.pop-in-Theorem.ensures.entries c.pop-in-Theorem.ensures.found.1

pub invariant_of-self-in-Definition : goal.invariant_of-self-in-Definition
invariant_of-self-in-Definition c =
    let xs = c.pop.new.self.items in
    let names = c.self.inside.by_name.entries in
    let places = get same_constant c.self.inside.by_predicate in
    let heads = noted c.self.inside.by_head in
    let n = c.in-Some.added.before in
    definition_off xs n names places heads c.in-Definition.field-0
    (subst (λ (ys : List Added). IsFiled ys names places heads)
    (c.in-Some.ensures.items ∙ ap (λ (x : Addition). xs ++ record { what = x; before = n } ∷ []) c.in-Definition.is) c.self.invariant)

pub invariant_of-self-in-Clause : goal.invariant_of-self-in-Clause
invariant_of-self-in-Clause c =
    let xs = c.pop.new.self.items in
    let names = c.self.inside.by_name.entries in
    let places = get same_constant c.self.inside.by_predicate in
    let heads = noted c.self.inside.by_head in
    let n = c.in-Some.added.before in
    clause_off xs n names places heads c.in-Clause.field-0 c.in-Clause.head (noted c.drop_place.new.places)
    (subst (λ (ys : List Added). IsFiled ys names places heads)
    (c.in-Some.ensures.items ∙ ap (λ (x : Addition). xs ++ record { what = x; before = n } ∷ []) c.in-Clause.is) c.self.invariant)
    c.drop_place.ensures
