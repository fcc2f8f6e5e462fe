use Rattle.std.proofs.Common.{◌+◌, ◌<◌, ◌∷◌, length, refl, sym, subst, arith}
use Rattle.std.proofs.lemmas.List.Elements.{All-nil}
use Rattle.ab_norm.specs.ab_store.specs.Trees.{Holds}
use Rattle.ab_norm.proofs.Frame.{if_ok}
use Rattle.ab_norm.specs.ab_types.specs.Ids.{type_of}
use Rattle.ab_inference.specs.Assignments.{settled_at}
use Rattle.ab_inference.specs.Programs.{item_of, OpTyped}
use Rattle.ab_inference.specs.Inferences.{written_type}
use Rattle.ab_inference.specs.Verdicts.{types_found}
use Rattle.ab_infer.specs.NormalTerms.{HasHeadType, OpFits, head_at}
use Rattle.ab_infer.specs.Values.{HoldsValue, Going, turned}
use Rattle.ab_infer.proofs.Stepping.{run_name, run_head, run_free_name}
use Rattle.ab_infer.proofs.normal_terms.build_step.Goals as goal

pub returns-in-Bound-clause-advances : goal.returns-in-Bound-clause-advances
returns-in-Bound-clause-advances g c = λ x rest becomes here.
    let t = c.args.types.now in
    let s = c.args.store.now in
    let v = types_found t c.args.found.now in
    let b = c.in-Bound in
    subst (λ w. Going t s c.args.base v x rest (w ∷ turned c.args.stack.now.items)) (sym c.bare_name.ensures)
    (run_name t c.args.base v x rest s b.index b.node (settled_at c.args.found.now b.node).ty (turned c.args.stack.now.items) refl
    (subst (λ o. Going t s c.args.base v x (item_of t s.cells x.names o ∷ rest) (turned c.args.stack.now.items)) b.is here))

pub returns-in-Known-clause-advances : goal.returns-in-Known-clause-advances
returns-in-Known-clause-advances g c = λ x rest becomes here.
    let t = c.args.types.now in
    let s = c.args.store.now in
    let v = types_found t c.args.found.now in
    let b = c.in-Known in
    let fits : HasHeadType t s.cells b.head (type_of t b.ty) = subst (OpFits t s.cells) b.is c.requires.fits in
    subst (λ w. Going t s c.args.base v x rest (w ∷ turned c.args.stack.now.items)) (sym c.bare.ensures)
    (run_head t c.args.base v x rest s b.head b.ty (turned c.args.stack.now.items) fits.is
    (subst (λ o. Going t s c.args.base v x (item_of t s.cells x.names o ∷ rest) (turned c.args.stack.now.items)) b.is here))

pub returns-in-Free-clause-advances : goal.returns-in-Free-clause-advances
returns-in-Free-clause-advances g c = λ x rest becomes here.
    let t = c.args.types.now in
    let s = c.args.store.now in
    let v = types_found t c.args.found.now in
    let b = c.in-Free in
    let within : b.number < length c.args.frees.now = subst (OpTyped t c.args.base (length c.args.frees.now)) b.is c.requires.typed in
    let fits = c.requires.frees b.number within in
    subst (λ w. Going t s c.args.base v x rest (w ∷ turned c.args.stack.now.items)) (sym c.bare_free.ensures)
    (run_free_name t c.args.base v x rest s b.number b.field-1 (head_at c.args.frees.now b.number) (settled_at c.args.found.now (c.args.base + b.number)).ty (turned c.args.stack.now.items) refl fits.is
    (λ l. (becomes b.number l).1)
    (subst (λ o. Going t s c.args.base v x (item_of t s.cells x.names o ∷ rest) (turned c.args.stack.now.items)) b.is here))

pub returns-in-Free-clause-held : goal.returns-in-Free-clause-held
returns-in-Free-clause-held g c =
    let t = c.args.types.now in
    let s = c.args.store.now in
    let b = c.in-Free in
    let within : b.number < length c.args.frees.now = subst (OpTyped t c.args.base (length c.args.frees.now)) b.is c.requires.typed in
    let fits = c.requires.frees b.number within in
    subst (HoldsValue t s) (sym c.bare_free.ensures)
    (fits.held, fits.typed, c.requires.found (c.args.base + b.number) (omega (arith, within, c.requires.within)), All-nil (Holds s))

pub returns-in-Abs-clause-advances : goal.returns-in-Abs-clause-advances
returns-in-Abs-clause-advances g c =
    let t = c.args.types.now in
    let s = c.args.store.now in
    let v = types_found t c.args.found.now in
    let b = c.in-Abs in
    if_ok c.abstract_last.result (λ found h x rest becomes here.
    h c.args.base v b.node b.field-2 refl x rest tt
    (subst (λ o. Going t s c.args.base v x (item_of t s.cells x.names o ∷ rest) (turned c.args.stack.now.items)) b.is here)) c.abstract_last.ensures.advances

pub returns-in-Equal-clause-advances : goal.returns-in-Equal-clause-advances
returns-in-Equal-clause-advances g c =
    let t = c.args.types.now in
    let s = c.args.store.now in
    let v = types_found t c.args.found.now in
    let b = c.in-Equal in
    if_ok c.equate_last.result (λ found h x rest becomes here.
    h c.args.base v b.node refl x rest tt
    (subst (λ o. Going t s c.args.base v x (item_of t s.cells x.names o ∷ rest) (turned c.args.stack.now.items)) b.is here)) c.equate_last.ensures.advances

pub returns-in-Bind-clause-advances : goal.returns-in-Bind-clause-advances
returns-in-Bind-clause-advances g c =
    let t = c.args.types.now in
    let s = c.args.store.now in
    let v = types_found t c.args.found.now in
    let b = c.in-Bind in
    if_ok c.bind_last.result (λ found h x rest becomes here.
    h c.args.base v b.node b.field-3 (written_type t b.field-4) refl x rest tt
    (subst (λ o. Going t s c.args.base v x (item_of t s.cells x.names o ∷ rest) (turned c.args.stack.now.items)) b.is here)) c.bind_last.ensures.advances
