use Rattle.std.proofs.Common.{◌<◌, length, ap, arith}
use Rattle.ab_logic.specs.declared.world.World.{World}
use Rattle.ab_norm.proofs.Frame.{if_both}
use Rattle.ab_equations.specs.Meanwhile.{GoesOn}
use Rattle.ab_equations.proofs.Going.{goes_extended, goes_put, goes_on, still_goal}
use Rattle.ab_equations.proofs.StandingOne.{not_in_itself, new_resolved, stands_for, bound_typed}
use Rattle.ab_equations.proofs.stand_ins.stand_in.Goals as goal

pub returns-in_err-made-clause-goes : goal.returns-in_err-made-clause-goes
returns-in_err-made-clause-goes g c =
    let e = c.new_for.ensures in
    goes_extended c.args.world.now c.new_for.new.world e.types e.additions e.before e.typed

pub bind-requires-clause-apart : goal.bind-requires-clause-apart
bind-requires-clause-apart g c =
    let e = c.in_ok-made.ensures in
    let number = e.number in
    let low = c.requires.cell in
    not_in_itself c.new_for.new.world c.in_ok-made.made.term c.in_ok-made.made.cell e.tree c.args.cell (omega (arith, number, low))

pub bind-requires-clause-resolved : goal.bind-requires-clause-resolved
bind-requires-clause-resolved g c =
    let e = c.in_ok-made.ensures in
    new_resolved c.new_for.new.world c.in_ok-made.made.term c.in_ok-made.made.cell e.tree e.unbound

pub returns-clause-goes : goal.returns-clause-goes
returns-clause-goes g c =
    let w = c.args.world.now in
    let v = c.new_for.new.world in
    let e = c.in_ok-made.ensures in
    let b = c.bind.ensures in
    let u : World = record { types = v.types; store = c.bind.new.self; additions = v.additions } in
    goes_on w v u (goes_extended w v e.types e.additions e.before e.typed)
    (goes_put v.types v.store c.bind.new.self v.additions (b.typed v.types e.typed (bound_typed w v c.args.cell c.in_ok-made.made.term e.types e.before c.requires.cell e.term)) b.nodes b.cells b.marks)

pub returns-clause-stands : goal.returns-clause-stands
returns-clause-stands g c =
    let w = c.args.world.now in
    let v = c.new_for.new.world in
    let e = c.in_ok-made.ensures in
    let b = c.bind.ensures in
    let u : World = record { types = v.types; store = c.bind.new.self; additions = v.additions } in
    let goes : GoesOn w u =
    goes_on w v u (goes_extended w v e.types e.additions e.before e.typed)
    (goes_put v.types v.store c.bind.new.self v.additions (b.typed v.types e.typed (bound_typed w v c.args.cell c.in_ok-made.made.term e.types e.before c.requires.cell e.term)) b.nodes b.cells b.marks) in
    let new = c.in_ok-made.made.cell in
    let size = ap length b.cells in
    let there : new.0 < length c.bind.new.self.cells = (let h = e.held in omega (arith, h, size)) in
    if_both c.over.result
    (λ k reads held.
    stands_for w v c.bind.new.self c.args.cell new c.in_ok-made.made.term c.args.goal c.requires.world.typed e.types e.before e.tree c.requires.cell b.nodes b.cells b.bound
    k goes c.requires.goal e.number e.one e.named e.ty b.room (held u (still_goal w u goes c.args.goal c.requires.goal) there) (reads u))
    c.over.ensures.reads c.over.ensures.held
