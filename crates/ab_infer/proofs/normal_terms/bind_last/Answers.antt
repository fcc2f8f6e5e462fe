use Rattle.std.proofs.Common.{◌≡◌, [], ◌∷◌, sym, subst}
use Rattle.ab_norm.specs.ab_types.specs.Ids.{type_of}
use Rattle.ab_term.specs.Terms.{lam}
use Rattle.ab_norm.specs.ab_store.specs.declared.node.Head.TheVariants.{Logic}
use Rattle.ab_inference.specs.Programs.{binding_of}
use Rattle.ab_infer.specs.declared.value.Value.TheVariants.{Given}
use Rattle.ab_infer.specs.Values.{HoldsValue, turned, Popped, Going}
use Rattle.ab_infer.proofs.Turned.{all_turned}
use Rattle.ab_infer.proofs.Stepping.{run_binder, none_bind}
use Rattle.ab_infer.proofs.normal_terms.bind_last.Goals as goal

pub returns-in_default-clause-advances : goal.returns-in_default-clause-advances
returns-in_default-clause-advances c = λ base v n p w at x rest there here.
    let none : turned c.args.stack.now.items ≡ [] = rw c.in_default.is at c.in_ok-made.ensures.popped in
    none_bind c.args.types.now base v x rest c.args.store.now (binding_of c.args.binds) c.args.name.now n p w (turned c.args.stack.now.items) none here

pub returns-clause-advances : goal.returns-clause-advances
returns-clause-advances c = λ base v n p w at x rest there here.
    let t = c.args.types.now in
    let s0 = c.args.store.now in
    let s1 = c.abstraction.new.store in
    let after = turned c.abstraction.new.stack.items in
    let popped : Popped t s0 s1 c.args.stack.now.items c.abstraction.new.stack.items (lam (type_of t c.args.ty) c.args.name.now) c.in-Some.made = rw c.in-Some.is at c.in_ok-made.ensures.popped in
    subst (λ l. Going t s1 base v x rest (Given (Logic c.binder.result) c.formula_type-left.result l ∷ after)) (sym c.in_ok-body.ensures)
    (run_binder t base v x rest s0 s1 c.in_ok-made.ensures.adds c.args.name.now n p (turned c.args.stack.now.items) after popped.value (type_of t c.args.ty) c.in-Some.made at popped.was
    (all_turned (HoldsValue t s0) c.args.stack.now.items c.requires.stack) popped.tree
    (binding_of c.args.binds) w c.binder.result c.formula_type-left.result (c.binder.ensures.is t) (c.formula_type-left.ensures.is t c.requires.formulas) here)
