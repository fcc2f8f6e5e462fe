use Rattle.std.proofs.Common.{◌≡◌, ◌++◌, [], ◌∷◌, true, false, eqb, eq-eqb, ap, sym, ◌∙◌, subst, append_assoc}
use Rattle.ab_store.specs.ab_types.proofs.Kept.{one_type}
use Rattle.ab_inference.specs.declared.work.Wanted.TheVariants.{Is}
use Rattle.ab_inference.proofs.Joining.{known_held}
use Rattle.ab_inference.proofs.Turning.{known_turns, other_known, parts_turn}
use Rattle.ab_inference.proofs.equations.settle_root.Goals as goal

pub returns-in-Open-clause-met : goal.returns-in-Open-clause-met
returns-in-Open-clause-met c = λ _. let r = c.requires in
    known_turns c.args.types.now c.args.shapes.now r.formed r.held c.args.root r.root_in c.args.ty r.ty c.in-Open.is c.args.work.now.items

pub returns-in-Known-clause-apart : goal.returns-in-Known-clause-apart
returns-in-Known-clause-apart c = λ no. let r = c.requires in
    let k = c.in-Known.known in
    other_known c.args.types.now c.args.shapes.now r.formed r.held c.args.root r.root_in c.args.ty r.ty k c.in-Known.is
    (one_type c.args.types.now r.table k c.args.ty (known_held c.args.types.now c.args.shapes.now c.args.root _ r.held c.in-Known.is) r.ty)
    (λ e. let yes : eqb k.0 c.args.ty.0 ≡ true = eq-eqb k.0 c.args.ty.0 (ap (λ i. i.0) e) in let f = sym c.eq.ensures ∙ no in cc)

pub returns-in_ok-push-in-Arrow-view-2-clause-met : goal.returns-in_ok-push-in-Arrow-view-2-clause-met
returns-in_ok-push-in-Arrow-view-2-clause-met c = λ _. let r = c.requires in
    let v = c.in-Arrow-view in
    let one = c.in_ok-push-in-Arrow-view.ensures.items in
    let two = c.in_ok-push-in-Arrow-view-2.ensures.items in
    let w = c.args.work.now.items in
    parts_turn c.args.types.now c.args.shapes.now r.formed r.held c.args.root r.root_in c.args.ty r.ty c.in-Arrow.from c.in-Arrow.to c.in-Arrow.is
    v.known_from v.known_to v.ensures.reads v.ensures.held.0 v.ensures.held.1 w c.push-in-Arrow-view.new.self.items
    (two ∙ ap (λ xs. xs ++ Is c.in-Arrow.to v.known_to ∷ []) one) (append_assoc w (Is c.in-Arrow.from v.known_from ∷ []) (Is c.in-Arrow.to v.known_to ∷ []))
