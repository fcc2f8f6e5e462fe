use Rattle.std.proofs.Common.{◌∷◌, ◌++◌, [], take, get_or, sym, ◌∙◌, ap, arith, length-take-le}
use Rattle.ab_norm.specs.ab_store.specs.declared.node.Equation.{Equation}
use Rattle.ab_unify.proofs.Under.{take_one_more}
use Rattle.ab_unify.specs.States.{numbered_from}
use Rattle.ab_unify.proofs.Numbered.{one_more_numbered}
use Rattle.ab_unify.proofs.queues.number_equations.Goals as goal

pub loop-place-preserved : goal.loop-place-preserved
loop-place-preserved c =
    let es = c.args.equations.now in
    let i = c.loop-place.place in
    let d : Equation = record { left = record { 0 = 0 }; right = record { 0 = 0 } } in
    c.in_ok-push_back.ensures.items
    ∙ ap (λ l. l ++ record { place = i; left = (get_or es i d).left; right = (get_or es i d).right } ∷ []) c.loop-place.invariant
    ∙ sym (one_more_numbered 0 (take i es) (get_or es i d) i (omega (arith, length-take-le i es (omega arith))))
    ∙ sym (ap (numbered_from 0) (take_one_more es i d (omega arith)))
