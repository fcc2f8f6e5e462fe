use Rattle.std.proofs.Common.{◌<◌, ◌∷◌, sym, ◌∙◌, subst, refl, arith}
use Rattle.ab_store.specs.Trees.{head_in}
use Rattle.ab_store.specs.ab_types.specs.Ids.{type_of}
use Rattle.ab_inference.specs.Programs.{item_of, binding_of, OpTyped}
use Rattle.ab_inference.specs.Inferences.{Running, turned, written_type}
use Rattle.ab_inference.proofs.Stepping.{kept_of, same_rest, rest_one, rest_two, run_var, run_free_var, run_head, run_abstraction, run_application, run_application_behind, run_equation, run_binder, few_apply, few_behind, few_equal, few_abs, few_bind}
use Rattle.ab_inference.proofs.constraints.infer_step.Goals as goal

pub returns-in_default-clause-inferred : goal.returns-in_default-clause-inferred
returns-in_default-clause-inferred c = λ first cells names rest out len here.
    let t = c.args.types.now in
    let s = c.args.shapes.now.items in
    few_apply t c.args.base first s rest out (turned c.args.stack.now.items) c.in_default.ensures
    (subst (λ o. Running t c.args.base first s (item_of t cells names o ∷ rest) out (turned c.args.stack.now.items)) c.in-Apply.is here)

pub returns-in_default-pop_one-clause-inferred : goal.returns-in_default-pop_one-clause-inferred
returns-in_default-pop_one-clause-inferred c = λ first cells names rest out len here.
    let t = c.args.types.now in
    let s = c.args.shapes.now.items in
    few_abs t c.args.base first s rest out c.in-Abs.field-0 c.in-Abs.node c.in-Abs.field-2 (turned c.args.stack.now.items) c.in_default-pop_one.ensures
    (subst (λ o. Running t c.args.base first s (item_of t cells names o ∷ rest) out (turned c.args.stack.now.items)) c.in-Abs.is here)

pub returns-in_default-pop_two-clause-inferred : goal.returns-in_default-pop_two-clause-inferred
returns-in_default-pop_two-clause-inferred c = λ first cells names rest out len here.
    let t = c.args.types.now in
    let s = c.args.shapes.now.items in
    few_equal t c.args.base first s rest out c.in-Equal.node (turned c.args.stack.now.items) c.in_default-pop_two.ensures
    (subst (λ o. Running t c.args.base first s (item_of t cells names o ∷ rest) out (turned c.args.stack.now.items)) c.in-Equal.is here)

pub returns-in_default-pop_one-2-clause-inferred : goal.returns-in_default-pop_one-2-clause-inferred
returns-in_default-pop_one-2-clause-inferred c = λ first cells names rest out len here.
    let t = c.args.types.now in
    let s = c.args.shapes.now.items in
    let b = c.in-Bind in
    few_bind t c.args.base first s rest out (binding_of b.binds) b.field-1 b.node b.field-3 (written_type t b.written) (turned c.args.stack.now.items) c.in_default-pop_one-2.ensures
    (subst (λ o. Running t c.args.base first s (item_of t cells names o ∷ rest) out (turned c.args.stack.now.items)) b.is here)

pub returns-in-Bound-clause-inferred : goal.returns-in-Bound-clause-inferred
returns-in-Bound-clause-inferred c = λ first cells names rest out len here.
    let t = c.args.types.now in
    let s = c.args.shapes.now.items in
    let o : c.in-Bound.node < c.args.base = subst (OpTyped t c.args.base c.args.frees) c.in-Bound.is c.requires.op in
    run_var t c.args.base first s rest out c.in-Bound.field-0 c.in-Bound.node (turned c.args.stack.now.items) (omega arith)
    (subst (λ o. Running t c.args.base first s (item_of t cells names o ∷ rest) out (turned c.args.stack.now.items)) c.in-Bound.is here)

pub returns-in-Free-clause-inferred : goal.returns-in-Free-clause-inferred
returns-in-Free-clause-inferred c = λ first cells names rest out len here.
    let t = c.args.types.now in
    let s = c.args.shapes.now.items in
    let o : c.in-Free.number < c.args.frees = subst (OpTyped t c.args.base c.args.frees) c.in-Free.is c.requires.op in
    run_free_var t c.args.base first s rest out _ c.in-Free.number c.in-Free.field-1 (turned c.args.stack.now.items) (omega arith)
    (subst (λ o. Running t c.args.base first s (item_of t cells names o ∷ rest) out (turned c.args.stack.now.items)) c.in-Free.is here)

pub returns-in_ok-found-in-Known-clause-kept : goal.returns-in_ok-found-in-Known-clause-kept
returns-in_ok-found-in-Known-clause-kept c =
    kept_of c.args.types.now c.args.shapes.now.items c.step.new.shapes.items _ c.in_ok-found-in-Known.found (turned c.args.stack.now.items) (turned c.args.stack.now.items) c.in_ok-found-in-Known.ensures c.requires.stack (same_rest _)

pub returns-in_ok-found-in-Known-clause-inferred : goal.returns-in_ok-found-in-Known-clause-inferred
returns-in_ok-found-in-Known-clause-inferred c = λ first cells names rest out len here.
    let t = c.args.types.now in
    let s = c.args.shapes.now.items in
    let k = c.in-Known in
    run_head t c.args.base first s rest out c.in_ok-found-in-Known.found c.step.new.shapes.items _ c.in_ok-found-in-Known.ensures (head_in t cells k.field-0) (type_of t k.ty) (turned c.args.stack.now.items)
    (λ w. (refl, tt)) (λ v B q. q.0)
    (subst (λ o. Running t c.args.base first s (item_of t cells names o ∷ rest) out (turned c.args.stack.now.items)) k.is here)

pub returns-in_ok-found-in-Apply-clause-kept : goal.returns-in_ok-found-in-Apply-clause-kept
returns-in_ok-found-in-Apply-clause-kept c =
    kept_of c.args.types.now c.args.shapes.now.items c.application_type.new.shapes.items _ c.in_ok-found-in-Apply.found (turned c.args.stack.now.items) (turned c.pop_two.new.stack.items) c.in_ok-found-in-Apply.ensures c.requires.stack
    (rest_two _ _ c.in-Some.argument c.in-Some.function c.in-Some.ensures)

pub returns-in_ok-found-in-Apply-clause-inferred : goal.returns-in_ok-found-in-Apply-clause-inferred
returns-in_ok-found-in-Apply-clause-inferred c = λ first cells names rest out len here.
    let t = c.args.types.now in
    let s = c.args.shapes.now.items in
    let vs = turned c.pop_two.new.stack.items in
    run_application t c.args.base first s rest out c.in_ok-found-in-Apply.found c.application_type.new.shapes.items _ c.in_ok-found-in-Apply.ensures c.in-Some.function c.in-Some.argument vs
    (λ v A q. q) (λ v A q. q)
    (subst (Running t c.args.base first s _ out) c.in-Some.ensures
    (subst (λ o. Running t c.args.base first s (item_of t cells names o ∷ rest) out (turned c.args.stack.now.items)) c.in-Apply.is here))

pub returns-in_ok-found-in-Abs-clause-kept : goal.returns-in_ok-found-in-Abs-clause-kept
returns-in_ok-found-in-Abs-clause-kept c =
    kept_of c.args.types.now c.args.shapes.now.items c.step-in-Abs.new.shapes.items _ c.in_ok-found-in-Abs.found (turned c.args.stack.now.items) (turned c.pop_one.new.stack.items) c.in_ok-found-in-Abs.ensures c.requires.stack
    (rest_one _ _ c.in-Some-pop_one.body c.in-Some-pop_one.ensures)

pub returns-in_ok-found-in-Abs-clause-inferred : goal.returns-in_ok-found-in-Abs-clause-inferred
returns-in_ok-found-in-Abs-clause-inferred c = λ first cells names rest out len here.
    let t = c.args.types.now in
    let s = c.args.shapes.now.items in
    let vs = turned c.pop_one.new.stack.items in
    let a = c.in-Abs in
    let o : a.node < c.args.base = subst (OpTyped t c.args.base c.args.frees) a.is c.requires.op in
    run_abstraction t c.args.base first s rest out c.in_ok-found-in-Abs.found c.step-in-Abs.new.shapes.items _ c.in_ok-found-in-Abs.ensures a.field-0 a.node a.field-2 c.in-Some-pop_one.body vs (omega arith)
    (λ v A q. (q, tt)) (λ v A q. q.0)
    (subst (Running t c.args.base first s _ out) c.in-Some-pop_one.ensures
    (subst (λ o. Running t c.args.base first s (item_of t cells names o ∷ rest) out (turned c.args.stack.now.items)) a.is here))

pub returns-in_ok-found-in-Equal-clause-kept : goal.returns-in_ok-found-in-Equal-clause-kept
returns-in_ok-found-in-Equal-clause-kept c =
    kept_of c.args.types.now c.args.shapes.now.items c.step-in-Equal.new.shapes.items _ c.in_ok-found-in-Equal.found (turned c.args.stack.now.items) (turned c.pop_two-in-Equal.new.stack.items) c.in_ok-found-in-Equal.ensures c.requires.stack
    (rest_two _ _ c.in-Some-pop_two.right c.in-Some-pop_two.left c.in-Some-pop_two.ensures)

pub returns-in_ok-found-in-Equal-clause-inferred : goal.returns-in_ok-found-in-Equal-clause-inferred
returns-in_ok-found-in-Equal-clause-inferred c = λ first cells names rest out len here.
    let t = c.args.types.now in
    let s = c.args.shapes.now.items in
    let vs = turned c.pop_two-in-Equal.new.stack.items in
    let e = c.in-Equal in
    let p = c.requires.prop in
    let o : e.node < c.args.base = subst (OpTyped t c.args.base c.args.frees) e.is c.requires.op in
    run_equation t c.args.base first s rest out c.in_ok-found-in-Equal.found c.step-in-Equal.new.shapes.items _ c.in_ok-found-in-Equal.ensures e.node c.in-Some-pop_two.left c.in-Some-pop_two.right vs (omega arith)
    (λ v A a l r. (a ∙ sym p.prop_is, (l, (r, tt)))) (λ v A q. (q.0 ∙ p.prop_is, q.1.0, q.1.1.0))
    (subst (Running t c.args.base first s _ out) c.in-Some-pop_two.ensures
    (subst (λ o. Running t c.args.base first s (item_of t cells names o ∷ rest) out (turned c.args.stack.now.items)) e.is here))

pub returns-in_ok-found-in-Bind-clause-kept : goal.returns-in_ok-found-in-Bind-clause-kept
returns-in_ok-found-in-Bind-clause-kept c =
    kept_of c.args.types.now c.args.shapes.now.items c.infer_binder.new.shapes.items _ c.in_ok-found-in-Bind.found (turned c.args.stack.now.items) (turned c.pop_one-in-Bind.new.stack.items) c.in_ok-found-in-Bind.ensures c.requires.stack
    (rest_one _ _ c.in-Some-pop_one-2.body c.in-Some-pop_one-2.ensures)

pub returns-in_ok-found-in-Bind-clause-inferred : goal.returns-in_ok-found-in-Bind-clause-inferred
returns-in_ok-found-in-Bind-clause-inferred c = λ first cells names rest out len here.
    let t = c.args.types.now in
    let s = c.args.shapes.now.items in
    let vs = turned c.pop_one-in-Bind.new.stack.items in
    let b = c.in-Bind in
    let o : b.node < c.args.base = (subst (OpTyped t c.args.base c.args.frees) b.is c.requires.op).0 in
    run_binder t c.args.base first s rest out c.in_ok-found-in-Bind.found c.infer_binder.new.shapes.items _ c.in_ok-found-in-Bind.ensures (binding_of b.binds) b.field-1 b.node b.field-3 (written_type t b.written) c.in-Some-pop_one-2.body vs (omega arith)
    (λ v A k e a. (k, e, a)) (λ v A q. q)
    (subst (Running t c.args.base first s _ out) c.in-Some-pop_one-2.ensures
    (subst (λ o. Running t c.args.base first s (item_of t cells names o ∷ rest) out (turned c.args.stack.now.items)) b.is here))

pub returns-in_default-pop_two-2-clause-inferred : goal.returns-in_default-pop_two-2-clause-inferred
returns-in_default-pop_two-2-clause-inferred c = λ first cells names rest out len here.
    let t = c.args.types.now in
    let s = c.args.shapes.now.items in
    few_behind t c.args.base first s rest out (turned c.args.stack.now.items) c.in_default-pop_two-2.ensures
    (subst (λ o. Running t c.args.base first s (item_of t cells names o ∷ rest) out (turned c.args.stack.now.items)) c.in-Behind.is here)

pub returns-in_ok-found-in-Behind-clause-kept : goal.returns-in_ok-found-in-Behind-clause-kept
returns-in_ok-found-in-Behind-clause-kept c =
    kept_of c.args.types.now c.args.shapes.now.items c.application_type-in-Behind.new.shapes.items _ c.in_ok-found-in-Behind.found (turned c.args.stack.now.items) (turned c.pop_two-in-Behind.new.stack.items) c.in_ok-found-in-Behind.ensures c.requires.stack
    (rest_two _ _ c.in-Some-pop_two-2.function c.in-Some-pop_two-2.argument c.in-Some-pop_two-2.ensures)

pub returns-in_ok-found-in-Behind-clause-inferred : goal.returns-in_ok-found-in-Behind-clause-inferred
returns-in_ok-found-in-Behind-clause-inferred c = λ first cells names rest out len here.
    let t = c.args.types.now in
    let s = c.args.shapes.now.items in
    let vs = turned c.pop_two-in-Behind.new.stack.items in
    run_application_behind t c.args.base first s rest out c.in_ok-found-in-Behind.found c.application_type-in-Behind.new.shapes.items _ c.in_ok-found-in-Behind.ensures c.in-Some-pop_two-2.argument c.in-Some-pop_two-2.function vs
    (λ v A q. q) (λ v A q. q)
    (subst (Running t c.args.base first s _ out) c.in-Some-pop_two-2.ensures
    (subst (λ o. Running t c.args.base first s (item_of t cells names o ∷ rest) out (turned c.args.stack.now.items)) c.in-Behind.is here))
