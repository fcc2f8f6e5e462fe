use Rattle.std.proofs.Common.{◌++◌, ◌∷◌, [], ap, ◌∙◌, arith}
use Rattle.ab_meaning.specs.Scopes.{after, pi_over}
use Rattle.ab_infer.proofs.Over.{not_over, nothing_over, grew_over, not_abs_item, empty_of}
use Rattle.ab_infer.proofs.expression_walk.turn_to_pi.Goals as goal

pub returns-in_default : goal.returns-in_default
returns-in_default c = λ types store first found g.
    let h = rw c.in_default.is at c.pop.ensures.cases in
    c.unknown_word.ensures (after pi_over found) (nothing_over types store first c.args.row.now found g (empty_of c.args.row.now.steps.items (omega (arith, h.0, c.args.row.now.steps.ok.0))))

pub returns-in-Abs : goal.returns-in-Abs
returns-in-Abs c = λ types store first found g.
    let popped = rw c.in-Some.is at c.pop.ensures.items in
    let p = c.in_ok-put-in-Abs.ensures in
    let init = c.pop.new.self.items in
    grew_over types store first c.args.row.now found g c.put.new.self init c.in-Abs.name c.in-Abs.node c.in-Abs.place (popped ∙ ap (λ o. init ++ o ∷ []) c.in-Abs.is) p.steps p.marks p.names p.variables p.bound

pub returns : goal.returns
returns c = λ types store first found g.
    let popped = rw c.in-Some.is at c.pop.ensures.items in
    c.unknown_word-in_default-last.ensures (after pi_over found)
    (not_over types store first c.args.row.now found g c.pop.new.self.items c.in-Some.last popped (not_abs_item types store.cells c.args.row.now.names.items c.in-Some.last c.in_default-last.not-Abs))
