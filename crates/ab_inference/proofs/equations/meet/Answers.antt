use Rattle.ab_inference.proofs.equations.meet.Goals as goal
use Rattle.std.proofs.Common.{◌∙◌, [], ◌∷◌, sym, subst}
use Rattle.ab_inference.specs.Work.{Moves, Fails}
use Rattle.ab_inference.proofs.Answering.{if_ok}
use Rattle.ab_inference.proofs.Turning.{ends_move, ends_move_swapped, ends_fail, ends_fail_swapped, one_end, end_moves, end_fails}

pub returns-then-one-other-clause-met : goal.returns-then-one-other-clause-met
returns-then-one-other-clause-met c = λ _.
    let t = c.args.types.now in
    let f = c.find-one in
    let g = c.find-other in
    rw c.in-Equal.is (one_end t c.args.shapes.now f.new.shapes g.new.shapes (f.ensures.same t) (g.ensures.same t) c.in-Equal.a c.in-Equal.b f.result g.result (f.ensures.leads t) (g.ensures.leads t)
    (g.ensures.as_many ∙ f.ensures.as_many) g.ensures.formed (g.ensures.held t (f.ensures.held t c.requires.held)) c.if-one-other.true c.args.work.now.items)

pub returns-then-one-other-2-clause-met : goal.returns-then-one-other-2-clause-met
returns-then-one-other-2-clause-met c = if_ok c.unite.result (λ b e yes.
    let t = c.args.types.now in
    let f = c.find-one in
    let g = c.find-other in
    rw c.in-Equal.is (ends_move t c.args.shapes.now f.new.shapes g.new.shapes (f.ensures.same t) (g.ensures.same t) c.in-Equal.a c.in-Equal.b f.result g.result (f.ensures.leads t) (g.ensures.leads t)
    (g.ensures.as_many ∙ f.ensures.as_many) _ _ _ (e yes))) c.unite.ensures.met

pub returns-then-one-other-2-clause-apart : goal.returns-then-one-other-2-clause-apart
returns-then-one-other-2-clause-apart c = if_ok c.unite.result (λ b e no.
    let t = c.args.types.now in
    let f = c.find-one in
    let g = c.find-other in
    subst (λ w. Fails t c.args.shapes.now (w ∷ [])) (sym c.in-Equal.is) (ends_fail t c.args.shapes.now f.new.shapes g.new.shapes (f.ensures.same t) (g.ensures.same t) c.in-Equal.a c.in-Equal.b f.result g.result (f.ensures.leads t) (g.ensures.leads t)
    (g.ensures.as_many ∙ f.ensures.as_many) (e no))) c.unite.ensures.apart

pub returns-else-one-other-2-clause-met : goal.returns-else-one-other-2-clause-met
returns-else-one-other-2-clause-met c = if_ok c.unite-else-one-other-2.result (λ b e yes.
    let t = c.args.types.now in
    let f = c.find-one in
    let g = c.find-other in
    rw c.in-Equal.is (ends_move_swapped t c.args.shapes.now f.new.shapes g.new.shapes (f.ensures.same t) (g.ensures.same t) c.in-Equal.a c.in-Equal.b f.result g.result (f.ensures.leads t) (g.ensures.leads t)
    (g.ensures.as_many ∙ f.ensures.as_many) _ _ _ (e yes))) c.unite-else-one-other-2.ensures.met

pub returns-else-one-other-2-clause-apart : goal.returns-else-one-other-2-clause-apart
returns-else-one-other-2-clause-apart c = if_ok c.unite-else-one-other-2.result (λ b e no.
    let t = c.args.types.now in
    let f = c.find-one in
    let g = c.find-other in
    subst (λ w. Fails t c.args.shapes.now (w ∷ [])) (sym c.in-Equal.is) (ends_fail_swapped t c.args.shapes.now f.new.shapes g.new.shapes (f.ensures.same t) (g.ensures.same t) c.in-Equal.a c.in-Equal.b f.result g.result (f.ensures.leads t) (g.ensures.leads t)
    (g.ensures.as_many ∙ f.ensures.as_many) (e no))) c.unite-else-one-other-2.ensures.apart

pub returns-in-Is-clause-met : goal.returns-in-Is-clause-met
returns-in-Is-clause-met c = if_ok c.settle_root.result (λ b e yes.
    let t = c.args.types.now in
    let f = c.find-root in
    rw c.in-Is.is (end_moves t c.args.shapes.now f.new.shapes (f.ensures.same t) c.in-Is.a f.result c.in-Is.ty (f.ensures.leads t) f.ensures.as_many _ _ _ (e yes))) c.settle_root.ensures.met

pub returns-in-Is-clause-apart : goal.returns-in-Is-clause-apart
returns-in-Is-clause-apart c = if_ok c.settle_root.result (λ b e no.
    let t = c.args.types.now in
    let f = c.find-root in
    subst (λ w. Fails t c.args.shapes.now (w ∷ [])) (sym c.in-Is.is) (end_fails t c.args.shapes.now f.new.shapes (f.ensures.same t) c.in-Is.a f.result c.in-Is.ty (f.ensures.leads t) f.ensures.as_many (e no))) c.settle_root.ensures.apart
