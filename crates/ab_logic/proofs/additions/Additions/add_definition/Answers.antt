use Rattle.std.specs.HashMap.{get}
use Rattle.std.specs.List.{All}
use Rattle.std.proofs.Common.{◌≡◌, List, [], ◌∷◌, ◌++◌, None, sym, ap, ◌∙◌, subst}
use Rattle.ab_logic.specs.Additions.{same_constant, noted, block_kept, IsFiled}
use Rattle.ab_logic.specs.declared.additions.Added.{Added}
use Rattle.ab_logic.specs.declared.additions.Addition.TheVariants.{Definition}
use Rattle.ab_logic.proofs.Lookups.{definition_dropped, definition_filed}
use Rattle.ab_logic.proofs.additions.Additions.add_definition.Goals as goal

pub invariant_of-self-in_err-file_all : goal.invariant_of-self-in_err-file_all
invariant_of-self-in_err-file_all c =
    let xs = c.self.inside.list.items in
    let new = get same_constant c.file_all.new.places in
    let heads = noted c.self.inside.by_head in
    let none = subst (λ (ys : List Added). All (λ p. block_kept ys p ≡ None) c.args.block.predicates) (sym c.self.view_is) c.requires in
    subst (λ (ys : List Added). IsFiled ys c.self.inside.by_name.entries new heads) (sym c.reserve.ensures.items)
    (definition_dropped xs c.self.inside.by_name.entries (get same_constant c.self.inside.by_predicate) new heads c.self.invariant c.args.block none
    c.len-place.result (c.len-place.ensures ∙ c.self.inside.list.ok.0) (rw c.as_slice.ensures at c.file_all.ensures.part))

pub invariant_of-self-2 : goal.invariant_of-self-2
invariant_of-self-2 c =
    let xs = c.self.inside.list.items in
    let new = get same_constant c.file_all.new.places in
    let heads = noted c.self.inside.by_head in
    let none = subst (λ (ys : List Added). All (λ p. block_kept ys p ≡ None) c.args.block.predicates) (sym c.self.view_is) c.requires in
    subst (λ (ys : List Added). IsFiled ys c.self.inside.by_name.entries new heads)
    (sym (c.push_reserved.ensures.items ∙ ap (λ (ys : List Added). ys ++ record { what = Definition c.args.block; before = c.args.before } ∷ []) c.reserve.ensures.items))
    (definition_filed xs c.self.inside.by_name.entries (get same_constant c.self.inside.by_predicate) new heads c.self.invariant c.args.block none
    c.len-place.result c.args.before (c.len-place.ensures ∙ c.self.inside.list.ok.0) (rw c.as_slice.ensures at c.in_ok-file_all.ensures.filed))
