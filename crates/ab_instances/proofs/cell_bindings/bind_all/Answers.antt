use Rattle.std.proofs.Common.{◌∷◌, [], ◌++◌, take, get_or, arith, ◌∙◌, ap, take_all}
use Rattle.ab_norm.specs.ab_store.proofs.Marking.{kept_on}
use Rattle.ab_instances.specs.CellBindings.{IsFor, bound_to}
use Rattle.ab_instances.proofs.Bound.{each_length, next_held, next_unbound, next_typed, next_apart, next_resolved, bound_more}
use Rattle.ab_instances.proofs.cell_bindings.bind_all.Goals as goal

pub bounds-terms-i : goal.bounds-terms-i
bounds-terms-i g c =
    let e = each_length (IsFor c.args.types.now c.args.store.now c.args.cells.now) c.args.cells.now c.args.terms.now c.requires.fit.each in
    omega (arith, e, c.loop-i-test.true)

pub bind-requires-clause-held : goal.bind-requires-clause-held
bind-requires-clause-held g c =
    next_held c.args.types.now c.args.store.now c.loop-i.store c.loop-i.invariant.nodes c.loop-i.invariant.cells c.args.cells.now c.args.terms.now c.requires.fit c.loop-i.i (record { 0 = 0 }) (record { 0 = 0 }) (omega arith) c.loop-i.invariant.bindings

pub bind-requires-clause-unbound : goal.bind-requires-clause-unbound
bind-requires-clause-unbound g c =
    next_unbound c.args.types.now c.args.store.now c.loop-i.store c.loop-i.invariant.nodes c.loop-i.invariant.cells c.args.cells.now c.args.terms.now c.requires.fit c.loop-i.i (record { 0 = 0 }) (record { 0 = 0 }) (omega arith) c.loop-i.invariant.bindings

pub bind-requires-clause-typed : goal.bind-requires-clause-typed
bind-requires-clause-typed g c = (
  c.args.types.now,
  next_typed c.args.types.now c.args.store.now c.loop-i.store c.loop-i.invariant.nodes c.loop-i.invariant.cells c.args.cells.now c.args.terms.now c.requires.fit c.loop-i.i (record { 0 = 0 }) (record { 0 = 0 }) (omega arith) c.loop-i.invariant.bindings,
)

pub bind-requires-clause-apart : goal.bind-requires-clause-apart
bind-requires-clause-apart g c =
    next_apart c.args.types.now c.args.store.now c.loop-i.store c.loop-i.invariant.nodes c.loop-i.invariant.cells c.args.cells.now c.args.terms.now c.requires.fit c.loop-i.i (record { 0 = 0 }) (record { 0 = 0 }) (omega arith) c.loop-i.invariant.bindings

pub bind-requires-clause-resolved : goal.bind-requires-clause-resolved
bind-requires-clause-resolved g c =
    next_resolved c.args.types.now c.args.store.now c.loop-i.store c.loop-i.invariant.nodes c.loop-i.invariant.cells c.args.cells.now c.args.terms.now c.requires.fit c.loop-i.i (record { 0 = 0 }) (record { 0 = 0 }) (omega arith) c.loop-i.invariant.bindings

pub loop-i-preserved : goal.loop-i-preserved
loop-i-preserved g c =
    let types = c.args.types.now in
    let inv = c.loop-i.invariant in
    let is = next_typed types c.args.store.now c.loop-i.store inv.nodes inv.cells c.args.cells.now c.args.terms.now c.requires.fit c.loop-i.i (record { 0 = 0 }) (record { 0 = 0 }) (omega arith) inv.bindings in
    record {
      bindings = c.bind.ensures.bound ∙ ap (λ bs. bs ++ record { cell = get_or c.args.cells.now c.loop-i.i (record { 0 = 0 }); term = get_or c.args.terms.now c.loop-i.i (record { 0 = 0 }) } ∷ []) inv.bindings
          ∙ bound_more c.args.cells.now c.args.terms.now c.loop-i.i (record { 0 = 0 }) (record { 0 = 0 }) (omega arith) (each_length (IsFor types c.args.store.now c.args.cells.now) c.args.cells.now c.args.terms.now c.requires.fit.each);
      nodes = c.bind.ensures.nodes ∙ inv.nodes;
      cells = c.bind.ensures.cells ∙ inv.cells;
      typed = c.bind.ensures.typed types inv.typed is;
      marks = λ m h. let k = inv.marks m h in kept_on c.args.store.now c.loop-i.store c.bind.new.self m k (c.bind.ensures.marks m k.has);
      room = omega (arith, inv.room, c.bind.ensures.room);
      steps = c.bind.ensures.steps ∙ inv.steps;
    }

pub returns-clause-bindings : goal.returns-clause-bindings
returns-clause-bindings g c =
    let e = each_length (IsFor c.args.types.now c.args.store.now c.args.cells.now) c.args.cells.now c.args.terms.now c.requires.fit.each in
    c.loop-i.invariant.bindings
    ∙ ap (λ l. bound_to l (take c.loop-i.i c.args.terms.now)) (take_all c.loop-i.i c.args.cells.now (omega arith))
    ∙ ap (bound_to c.args.cells.now) (take_all c.loop-i.i c.args.terms.now (omega (arith, e)))
