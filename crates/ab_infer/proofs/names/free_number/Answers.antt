use Rattle.std.proofs.Common.{◌≡◌, ◌<◌, length, get_or, [], sym, ◌∙◌, subst}
use Rattle.ab_infer.specs.WalkMoves.{was_there}
use Rattle.ab_infer.proofs.Single.{new_number}
use Rattle.ab_infer.proofs.names.free_number.Goals as goal

pub returns-in-Some : goal.returns-in-Some
returns-in-Some c =
    let e = c.deref.ensures.value in
    was_there (subst (λ xs. c.in-Some.number < length xs) e c.in-Some.ensures.0) (subst (λ xs. get_or xs c.in-Some.number [] ≡ c.args.name.now) e c.in-Some.ensures.1)

pub returns : goal.returns
returns c =
    let e = c.deref.ensures.value in
    let never = rw c.in_default.is at c.number_in.ensures in
    new_number c.args.names.now.items c.push.new.self.items c.args.name.now c.in_ok-copy.field-0 c.len-number.result
    (λ k l is. never k (subst (λ xs. k < length xs) (sym e) l) (subst (λ xs. get_or xs k [] ≡ c.args.name.now) (sym e) is)) c.in_ok-push.ensures.items c.in_ok-copy.ensures (c.len-number.ensures ∙ c.args.names.now.ok.0)
