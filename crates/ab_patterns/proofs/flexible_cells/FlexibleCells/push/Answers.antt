use Rattle.std.proofs.Common.{sym, ◌∙◌, ap, subst, OnErr, Result, Ok, Err, [], ◌∷◌, ◌++◌}
use Rattle.std.specs.HashMap.{get}
use Rattle.std.specs.Map.{lookup}
use Rattle.ab_patterns.specs.Flexible.{InAge, same_cell, listed_from, HavePlaces}
use Rattle.ab_patterns.proofs.Placed.{none_if, places_more, places_still, listed_more, listed_again, listed_same}
use Rattle.ab_patterns.proofs.flexible_cells.FlexibleCells.push.Goals as goal

on_err : {A E : Type 0} (r : Result A E) (P : Type 0) → P → OnErr r P
on_err (Ok x) P p = tt
on_err (Err y) P p = p

pub invariant_of-self-in_ok-insert : goal.invariant_of-self-in_ok-insert
invariant_of-self-in_ok-insert c =
    subst (HavePlaces (get same_cell c.insert.new.self)) (sym c.in_ok-push.ensures.items)
    (places_more (get same_cell c.self.inside.places) c.self.inside.row.items c.args.cell (get same_cell c.insert.new.self) c.len-place.result (c.len-place.ensures ∙ c.self.inside.row.ok.0) c.in_ok-insert.ensures.updates.0 c.self.invariant)

pub invariant_of-self-in_err-insert : goal.invariant_of-self-in_err-insert
invariant_of-self-in_err-insert c =
    subst (HavePlaces (get same_cell c.insert.new.self)) (sym c.in_ok-push.ensures.items)
    (places_still (get same_cell c.insert.new.self) c.self.inside.row.items c.args.cell (λ q place e. c.self.invariant q place (ap (λ es. lookup (same_cell q) es) (sym c.in_err-insert.ensures.err) ∙ e)))

pub returns-in_err-insert-clause-err : goal.returns-in_err-insert-clause-err
returns-in_err-insert-clause-err c =
    let row = c.self.inside.row.items in
    let same = c.in_err-insert.ensures.err in
    on_err _ _ (ap (listed_from (get same_cell c.insert.new.self) 0) c.in_ok-push.ensures.items
    ∙ ap (λ es. listed_from (λ q. lookup (same_cell q) es) 0 (row ++ c.args.cell ∷ [])) same
    ∙ listed_same (get same_cell c.self.inside.places) row c.args.cell (none_if (get same_cell c.self.inside.places c.args.cell) (sym c.contains_key.ensures ∙ c.if-not-contains_key.true))
    ∙ ap (λ (l : InAge). l.items) c.self.view_is)

pub invariant_of-self-else-not-contains_key : goal.invariant_of-self-else-not-contains_key
invariant_of-self-else-not-contains_key c =
    subst (HavePlaces (get same_cell c.self.inside.places)) (sym c.in_ok-push.ensures.items) (places_still (get same_cell c.self.inside.places) c.self.inside.row.items c.args.cell c.self.invariant)

pub returns-in_ok-insert-clause-items : goal.returns-in_ok-insert-clause-items
returns-in_ok-insert-clause-items c =
    let old = get same_cell c.self.inside.places in
    let new = get same_cell c.insert.new.self in
    ap (listed_from new 0) c.in_ok-push.ensures.items
    ∙ listed_more old c.self.inside.row.items c.args.cell new c.len-place.result (c.len-place.ensures ∙ c.self.inside.row.ok.0) c.in_ok-insert.ensures.updates.0 (none_if (old c.args.cell) (sym c.contains_key.ensures ∙ c.if-not-contains_key.true))
    ∙ ap (λ (l : InAge). l.items ++ c.args.cell ∷ []) c.self.view_is

pub returns-else-not-contains_key-clause-items : goal.returns-else-not-contains_key-clause-items
returns-else-not-contains_key-clause-items c =
    let old = get same_cell c.self.inside.places in
    ap (listed_from old 0) c.in_ok-push.ensures.items
    ∙ listed_again old c.self.inside.row.items c.args.cell c.self.invariant (sym c.contains_key.ensures ∙ c.if-not-contains_key.false)
    ∙ ap (λ (l : InAge). l.items ++ c.args.cell ∷ []) c.self.view_is
