use Rattle.std.proofs.Common.{◌⊎◌, ◌↔◌, ◌+◌, ◌<◌, [], map, take, sym, subst, arith, take_all}
use Rattle.std.specs.Prelude.{AllPairs, Contains}
use Rattle.ab_norm.specs.ab_store.specs.declared.node.Binding.{Binding}
use Rattle.ab_norm.specs.ab_store.specs.declared.node.CellId.{CellId}
use Rattle.ab_norm.proofs.Frame.{if_ok}
use Rattle.ab_unify.proofs.Sets.{HasJust, put_in, taken_out, has_other, keys_are, keys_ascend, bound_more, left_none, left_more, given_none, given_more}
use Rattle.ab_unify.proofs.made_cells.made_cells.Goals as goal

pub bound-preserved : goal.bound-preserved
bound-preserved c =
    let bs = c.args.bound.now in
    let i = c.bound.binding-index in
    let d : Binding = record { cell = record { 0 = 0 }; term = record { 0 = 0 } } in
    has_other c.insert.new.self _ (λ e. Contains (map (λ (b : Binding). b.cell) (take (i + 1) bs)) e)
    (put_in c.bound.made c.insert.new.self _ _ c.bound.invariant c.in_ok-insert.ensures.updates)
    (bound_more bs i d (omega arith))

pub left-init : goal.left-init
left-init c =
    let bs = c.args.bound.now in
    let all = take_all c.bound.binding-index bs (omega arith) in
    has_other c.bound.made _ (λ e. Contains (map (λ (b : Binding). b.cell) bs) e ⊎ Contains [] e)
    (subst (λ l. HasJust c.bound.made (λ e. Contains (map (λ (b : Binding). b.cell) l) e)) all c.bound.invariant)
    (left_none (λ e. Contains (map (λ (b : Binding). b.cell) bs) e))

pub left-preserved : goal.left-preserved
left-preserved c =
    let bs = c.args.bound.now in
    let xs = c.args.left.now in
    let i = c.left.cell-index in
    let d : CellId = record { 0 = 0 } in
    has_other c.insert-in-left.new.self _ (λ e. Contains (map (λ (b : Binding). b.cell) bs) e ⊎ Contains (take (i + 1) xs) e)
    (put_in c.left.made c.insert-in-left.new.self _ _ c.left.invariant c.in_ok-insert-2.ensures.updates)
    (left_more (λ e. Contains (map (λ (b : Binding). b.cell) bs) e) xs i d (omega arith))

pub given-init : goal.given-init
given-init c =
    let bs = c.args.bound.now in
    let xs = c.args.left.now in
    let all = take_all c.left.cell-index xs (omega arith) in
    let A : CellId → Type 0 = λ e. Contains (map (λ (b : Binding). b.cell) bs) e ⊎ Contains xs e in
    has_other c.left.made _ (λ e. A e × (¬ Contains [] e))
    (subst (λ l. HasJust c.left.made (λ e. Contains (map (λ (b : Binding). b.cell) bs) e ⊎ Contains l e)) all c.left.invariant)
    (given_none A)

pub given-preserved : goal.given-preserved
given-preserved c =
    let bs = c.args.bound.now in
    let xs = c.args.left.now in
    let ys = c.args.given.now in
    let i = c.given.cell-index in
    let d : CellId = record { 0 = 0 } in
    let A : CellId → Type 0 = λ e. Contains (map (λ (b : Binding). b.cell) bs) e ⊎ Contains xs e in
    has_other c.remove.new.self _ (λ e. A e × (¬ Contains (take (i + 1) ys) e))
    (taken_out c.given.made c.remove.new.self _ _ c.given.invariant c.remove.ensures.updates)
    (given_more A ys i d (omega arith))

pub returns-clause-in_age : goal.returns-clause-in_age
returns-clause-in_age c =
    if_ok c.list_cells.result (λ list same. subst (AllPairs (λ (a b : CellId). a.0 < b.0)) (sym same) (keys_ascend c.given.made.keys c.len.ensures.ordered)) c.list_cells.ensures

pub returns-clause-which : goal.returns-clause-which
returns-clause-which c =
    let bs = c.args.bound.now in
    let xs = c.args.left.now in
    let ys = c.args.given.now in
    let A : CellId → Type 0 = λ e. Contains (map (λ (b : Binding). b.cell) bs) e ⊎ Contains xs e in
    let all = take_all c.given.cell-index ys (omega arith) in
    let has : HasJust c.given.made (λ e. A e × (¬ Contains ys e)) = subst (λ l. HasJust c.given.made (λ e. A e × (¬ Contains l e))) all c.given.invariant in
    if_ok c.list_cells.result (λ list same e. subst (λ l. Contains l e ↔ (A e × (¬ Contains ys e))) (sym same) (keys_are c.given.made (λ e. A e × (¬ Contains ys e)) has e)) c.list_cells.ensures
