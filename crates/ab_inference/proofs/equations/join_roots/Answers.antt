use Rattle.std.proofs.Common.{◌≡◌, ◌++◌, [], ◌∷◌, ap, sym, ◌∙◌, subst, append_assoc}
use Rattle.ab_inference.specs.declared.work.Wanted.TheVariants.{Equal}
use Rattle.ab_inference.proofs.Turning.{arrows_join, open_joins, taken, loose_names}
use Rattle.ab_inference.proofs.equations.join_roots.Goals as goal

pub returns-in-Open : goal.returns-in-Open
returns-in-Open c = λ types held. let r = c.requires in
    taken types c.args.shapes.now r.formed held c.args.low c.args.high r.order r.high_in c.in-Open.is
    (loose_names types c.args.shapes.now r.formed c.args.low c.args.high r.high_in r.high_root) r.high_root c.args.work.now.items

pub returns-in-Open-shape : goal.returns-in-Open-shape
returns-in-Open-shape c = λ types held. let r = c.requires in
    open_joins types c.args.shapes.now r.formed held c.args.low c.args.high r.order r.high_in c.in-Open-shape.is c.args.work.now.items

pub returns-in_ok-push-in-Arrow-shape-2 : goal.returns-in_ok-push-in-Arrow-shape-2
returns-in_ok-push-in-Arrow-shape-2 c = λ types held. let r = c.requires in
    let a = c.in-Arrow in
    let b = c.in-Arrow-shape in
    let one = c.in_ok-push-in-Arrow-shape.ensures.items in
    let two = c.in_ok-push-in-Arrow-shape-2.ensures.items in
    let w = c.args.work.now.items in
    arrows_join types c.args.shapes.now r.formed held c.args.low c.args.high r.order r.high_in a.from a.to b.other_from b.other_to a.is b.is r.high_root
    w c.push-in-Arrow-shape.new.self.items (two ∙ ap (λ xs. xs ++ Equal a.to b.other_to ∷ []) one)
    (append_assoc w (Equal a.from b.other_from ∷ []) (Equal a.to b.other_to ∷ []))
