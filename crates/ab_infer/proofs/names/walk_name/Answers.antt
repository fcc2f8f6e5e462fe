use Rattle.std.proofs.Common.{sym, subst}
use Rattle.ab_meaning.specs.ResolvedNames.{free}
use Rattle.ab_infer.specs.NameScopes.{scope_of}
use Rattle.ab_infer.specs.Rows.{Grew}
use Rattle.ab_infer.proofs.Naming.{grew_bound_name, grew_known_name, name_found}
use Rattle.ab_infer.proofs.names.walk_name.Goals as goal

pub returns-in_ok-put-in-Some-Bound : goal.returns-in_ok-put-in-Some-Bound
returns-in_ok-put-in-Some-Bound c =
    let h = rw c.in-Some-Bound.field-0-is at (c.in-Some-Bound.ensures c.args.place) in
    grew_bound_name c.args.types.now c.args.store.now c.args.row.now c.put.new.self (scope_of c.args.types.now c.args.store.now c.args.scope.now) c.args.name.now c.args.place c.deref.result.now c.deref.ensures.value
    c.in-Some-Bound.index c.in-Some-Bound.node h.0 h.1 c.in_ok-put-in-Some-Bound.ensures

pub returns-in_ok-put-in-Some-Known : goal.returns-in_ok-put-in-Some-Known
returns-in_ok-put-in-Some-Known c =
    let h = rw c.in-Some-Known.field-0-is at (c.in-Some-Known.ensures c.args.place) in
    grew_known_name c.args.types.now c.args.store.now c.args.row.now c.put-in-Some-Known.new.self (scope_of c.args.types.now c.args.store.now c.args.scope.now) c.args.name.now c.args.place c.deref.result.now c.deref.ensures.value
    c.in-Some-Known.head c.in-Some-Known.ty c.requires.typed h.0 h.1 c.in_ok-put-in-Some-Known.ensures

pub returns-in_ok-put_free-in-Some-Free : goal.returns-in_ok-put_free-in-Some-Free
returns-in_ok-put_free-in-Some-Free c =
    let h = rw c.in-Some-Free.field-0-is at (c.in-Some-Free.ensures c.args.place) in
    subst (Grew c.args.types.now c.args.store.now c.args.row.now c.put_free.new.row)
    (sym (name_found c.args.types.now c.args.store.now c.args.row.now c.put_free.new.row (scope_of c.args.types.now c.args.store.now c.args.scope.now) c.args.name.now c.args.place c.deref.result.now c.deref.ensures.value (free c.args.name.now c.args.place) h))
    (c.in_ok-put_free-in-Some-Free.ensures c.args.types.now c.args.store.now)
