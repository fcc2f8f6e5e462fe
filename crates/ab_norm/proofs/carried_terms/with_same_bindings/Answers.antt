use Rattle.std.proofs.Common.{◌≡◌, ◌<◌, ◌++◌, [], ◌∷◌, arith, ap, sym, ◌∙◌, subst, length, get_or}
use Rattle.ab_store.specs.ab_types.specs.Ids.{type_of}
use Rattle.ab_store.specs.declared.node.Binding.{Binding}
use Rattle.ab_store.specs.Reading.{cell_of, tree_of}
use Rattle.ab_store.specs.Bindings.{IsUnbound, StandsIn}
use Rattle.ab_store.specs.Naming.{IsTerm}
use Rattle.ab_norm.proofs.Copied.{next_unbound, next_apart, next_resolved, next_typed, next_pairs, next_carries}
use Rattle.ab_norm.proofs.PutIn.{pairs_on}
use Rattle.ab_norm.proofs.carried_terms.with_same_bindings.Goals as goal

abbrev none : Binding
none = record { cell = record { 0 = 0 }; term = record { 0 = 0 } }

pub bind-requires-clause-unbound : goal.bind-requires-clause-unbound
bind-requires-clause-unbound c =
    let types = c.args.types.now in
    let store = c.args.store.now in
    let i = c.loop-binding.binding-index in
    let made = c.in_ok-term.ensures in
    let before = c.loop-binding.invariant in
    let within : i < length store.bindings = omega (arith, ap length c.bindings-bindings.ensures.list) in
    let is : get_or c.bindings-bindings.result.now i none ≡ get_or store.bindings i none = ap (λ l. get_or l i none) c.bindings-bindings.ensures.list in
    let done = pairs_on types c.loop-binding.apart c.carry.new.apart before.typed made.adds.before ∙ before.pairs in
    subst (λ (b : Binding). IsUnbound c.carry.new.apart b.cell) (sym is)
    (next_unbound types store c.carry.new.apart i none within c.bindings-bindings.ensures.order (made.adds.cells ∙ before.cells) done)

pub bind-requires-clause-apart : goal.bind-requires-clause-apart
bind-requires-clause-apart c =
    let types = c.args.types.now in
    let store = c.args.store.now in
    let i = c.loop-binding.binding-index in
    let made = c.in_ok-term.ensures in
    let before = c.loop-binding.invariant in
    let within : i < length store.bindings = omega (arith, ap length c.bindings-bindings.ensures.list) in
    let is : get_or c.bindings-bindings.result.now i none ≡ get_or store.bindings i none = ap (λ l. get_or l i none) c.bindings-bindings.ensures.list in
    let done = pairs_on types c.loop-binding.apart c.carry.new.apart before.typed made.adds.before ∙ before.pairs in
    subst (λ (b : Binding). StandsIn c.carry.new.apart b.cell c.in_ok-term.term → ⊥) (sym is)
    (next_apart types store c.carry.new.apart i none within c.bindings-bindings.ensures.order (made.adds.cells ∙ before.cells) done c.in_ok-term.term made.held (made.tree ∙ ap (λ (b : Binding). tree_of types store b.term) is))

pub bind-requires-clause-resolved : goal.bind-requires-clause-resolved
bind-requires-clause-resolved c =
    let types = c.args.types.now in
    let store = c.args.store.now in
    let i = c.loop-binding.binding-index in
    let made = c.in_ok-term.ensures in
    let before = c.loop-binding.invariant in
    let within : i < length store.bindings = omega (arith, ap length c.bindings-bindings.ensures.list) in
    let is : get_or c.bindings-bindings.result.now i none ≡ get_or store.bindings i none = ap (λ l. get_or l i none) c.bindings-bindings.ensures.list in
    let done = pairs_on types c.loop-binding.apart c.carry.new.apart before.typed made.adds.before ∙ before.pairs in
    next_resolved types store c.carry.new.apart i none within c.bindings-bindings.ensures.order (made.adds.cells ∙ before.cells) done c.in_ok-term.term made.held (made.tree ∙ ap (λ (b : Binding). tree_of types store b.term) is)

pub loop-binding-preserved : goal.loop-binding-preserved
loop-binding-preserved c =
    let types = c.args.types.now in
    let store = c.args.store.now in
    let a = c.carry.new.apart in
    let i = c.loop-binding.binding-index in
    let term = c.in_ok-term.term in
    let made = c.in_ok-term.ensures in
    let before = c.loop-binding.invariant in
    let within : i < length store.bindings = omega (arith, ap length c.bindings-bindings.ensures.list) in
    let is : get_or c.bindings-bindings.result.now i none ≡ get_or store.bindings i none = ap (λ l. get_or l i none) c.bindings-bindings.ensures.list in
    let done = pairs_on types c.loop-binding.apart a before.typed made.adds.before ∙ before.pairs in
    let order = c.bindings-bindings.ensures.order in
    let cells = made.adds.cells ∙ before.cells in
    let same = made.tree ∙ ap (λ (b : Binding). tree_of types store b.term) is in
    let bound = c.bind.ensures.bound ∙ ap (λ (b : Binding). a.bindings ++ record { cell = b.cell; term = term } ∷ []) is in
    record {
      cells = c.bind.ensures.cells ∙ cells;
      pairs = next_pairs types store a i none within order cells done term made.held same c.bind.new.self c.bind.ensures.nodes c.bind.ensures.cells bound;
      typed = c.bind.ensures.typed types made.adds.typed
          (subst (λ (b : Binding). IsTerm types a [] term (type_of types (cell_of a b.cell).ty)) (sym is) (next_typed types store a i none within order cells done term made.held same c.requires.store));
      memo = next_carries types store a i none within order cells done term made.held same c.bind.new.self c.bind.ensures.nodes c.bind.ensures.cells bound c.carry.new.memo made.memo;
      room = omega (arith, before.room, made.adds.before.room, c.bind.ensures.room);
    }
