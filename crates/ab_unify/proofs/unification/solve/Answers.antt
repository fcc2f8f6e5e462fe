use Rattle.std.proofs.Common.{◌↔◌, ◌⊎◌, ◌++◌, List, map, drop, length, sym, ap, ◌∙◌, subst, arith}
use Rattle.std.specs.Prelude.{All, Contains}
use Rattle.ab_norm.specs.ab_store.specs.declared.node.CellId.{CellId}
use Rattle.ab_norm.specs.ab_store.specs.declared.node.Binding.{Binding}
use Rattle.ab_unify.specs.StoreChanges.{IsFree}
use Rattle.ab_unify.specs.Outcome.{IsTypedEquation}
use Rattle.ab_unify.specs.UnifyAnswers.{AreInAge}
use Rattle.ab_unify.proofs.Numbered.{numbered_typed}
use Rattle.ab_unify.proofs.Made.{new_cells}
use Rattle.ab_unify.proofs.Cut.{bindings_stay}
use Rattle.ab_unify.proofs.Answered.{counts_so}
use Rattle.ab_unify.proofs.unification.solve.Goals as goal

pub run-requires-clause-equations : goal.run-requires-clause-equations
run-requires-clause-equations g c =
    let types = c.args.types.now in
    let store = c.args.store.now in
    subst (All (IsTypedEquation types store)) (sym (ap (λ w. w ++ c.in_ok-queue.queue.items) c.new-waiting.ensures.items ∙ c.in_ok-queue.ensures))
    (numbered_typed types store 0 c.args.equations.now c.requires.equations)

pub bindings_since-requires : goal.bindings_since-requires
bindings_since-requires g c =
    omega (arith, bindings_stay c.args.types.now c.run.new.types c.args.store.now c.run.new.store c.requires.store c.in_ok-run.ensures.grows, ap length c.bindings-bound.ensures.list)

pub returns-in-Unified-clause-counts : goal.returns-in-Unified-clause-counts
returns-in-Unified-clause-counts g c =
    let list = ap (λ w. w ++ c.in_ok-queue.queue.items) c.new-waiting.ensures.items ∙ c.in_ok-queue.ensures in
    counts_so c.args.types.now c.args.store.now c.args.flexible.now c.args.equations.now (c.new-waiting.result.items ++ c.in_ok-queue.queue.items) c.in_ok-left.left.items list (c.in_ok-left.ensures)
    c.args.steps.now c.run.new.steps c.in_ok-run.ensures.counts

pub returns-in-Apart-clause-counts : goal.returns-in-Apart-clause-counts
returns-in-Apart-clause-counts g c =
    let list = ap (λ w. w ++ c.in_ok-queue.queue.items) c.new-waiting.ensures.items ∙ c.in_ok-queue.ensures in
    counts_so c.args.types.now c.args.store.now c.args.flexible.now c.args.equations.now (c.new-waiting.result.items ++ c.in_ok-queue.queue.items) c.in_ok-left.left.items list (c.in_ok-left.ensures)
    c.args.steps.now c.run.new.steps c.in_ok-run.ensures.counts

pub returns-clause-counts : goal.returns-clause-counts
returns-clause-counts g c =
    let list = ap (λ w. w ++ c.in_ok-queue.queue.items) c.new-waiting.ensures.items ∙ c.in_ok-queue.ensures in
    counts_so c.args.types.now c.args.store.now c.args.flexible.now c.args.equations.now (c.new-waiting.result.items ++ c.in_ok-queue.queue.items) c.in_ok-left.left.items list (c.in_ok-left.ensures)
    c.args.steps.now c.run.new.steps c.in_ok-run.ensures.counts

pub returns-in-Unified-clause-made : goal.returns-in-Unified-clause-made
returns-in-Unified-clause-made g c =
    let types = c.args.types.now in
    let store = c.args.store.now in
    let F = c.args.flexible.now in
    let more = c.run.new.types in
    let now = c.run.new.store in
    let H = c.run.new.flexible.items in
    let cs = c.from_vec.result in
    let given = c.in_ok-left.left.items in
    let run = c.in_ok-run.ensures.runs in
    let order = c.bindings_since.ensures.order in
    let since = drop (length store.bindings) now.bindings in
    let bound = c.bindings_since.ensures.list ∙ ap (λ l. drop (length l) now.bindings) c.bindings-bound.ensures.list in
    let first = subst (λ (h : List CellId). (d : CellId) → Contains c.in_ok-made-in-Unified.made.items d ↔ ((Contains (map (λ (b : Binding). b.cell) c.bindings_since.result.now) d ⊎ Contains h d) × (¬ Contains F d))) (c.deref.ensures.value ∙ c.in_ok-unbound-in-Unified.ensures) c.in_ok-made-in-Unified.ensures.which in
    let second = subst (λ (bs : List Binding). (d : CellId) → Contains c.in_ok-made-in-Unified.made.items d ↔ ((Contains (map (λ (b : Binding). b.cell) bs) d ⊎ Contains H d) × (¬ Contains F d))) bound first in
    let third = subst (λ (f : List CellId). (d : CellId) → Contains c.in_ok-made-in-Unified.made.items d ↔ ((Contains (map (λ (b : Binding). b.cell) since) d ⊎ Contains H d) × (¬ Contains f d))) (sym (c.in_ok-left.ensures)) second in
    let which = subst (λ (l : List CellId). (d : CellId) → Contains l d ↔ ((Contains (map (λ (b : Binding). b.cell) since) d ⊎ Contains H d) × (¬ Contains given d))) (sym c.from_vec.ensures) third in
    new_cells types more store now given H _ run.reached order (subst (All (IsFree store)) (sym (c.in_ok-left.ensures)) c.requires.flexible) cs which

pub returns-in-Unified-clause-in_age : goal.returns-in-Unified-clause-in_age
returns-in-Unified-clause-in_age g c = subst AreInAge (sym c.from_vec.ensures) c.in_ok-made-in-Unified.ensures.in_age
