use Rattle.std.specs.HashMap.{get}
use Rattle.std.proofs.Common.{List, [], ◌∷◌, ◌++◌, sym, ap, ◌∙◌, subst}
use Rattle.ab_logic.specs.Additions.{same_constant, noted, IsFiled}
use Rattle.ab_logic.specs.declared.additions.Added.{Added}
use Rattle.ab_logic.specs.declared.additions.Addition.TheVariants.{Clause}
use Rattle.ab_logic.proofs.Lookups.{clause_filed}
use Rattle.ab_logic.proofs.additions.Additions.add_clause.Goals as goal

pub invariant_of-self-2 : goal.invariant_of-self-2
invariant_of-self-2 c =
    let xs = c.self.inside.list.items in
    let places = get same_constant c.self.inside.by_predicate in
    let heads = noted c.self.inside.by_head in
    let new = noted c.note_place.new.places in
    subst (λ (ys : List Added). IsFiled ys c.self.inside.by_name.entries places new)
    (sym (c.push_reserved.ensures.items ∙ ap (λ (ys : List Added). ys ++ record { what = Clause c.args.clause c.args.head; before = c.args.before } ∷ []) c.reserve.ensures.items))
    (clause_filed xs c.self.inside.by_name.entries places heads new c.args.clause c.args.head c.args.before c.len-place.result c.self.invariant (c.len-place.ensures ∙ c.self.inside.list.ok.0) c.in_ok-note_place.ensures.noted)
