use Rattle.std.proofs.Common.{◌≤◌, length, arith, ap, ◌∙◌, subst, Option, Some, None}
use Rattle.std.specs.Prelude.{IfSome}
use Rattle.ab_norm.specs.ab_store.specs.declared.node.Head.TheVariants.{Logic}
use Rattle.ab_norm.specs.ab_store.specs.Naming.{NodeIsTyped, HeadIsTyped}
use Rattle.ab_alternatives.proofs.Walks.{an_atom_here, a_nabla_here, no_head}
use Rattle.ab_alternatives.proofs.heads.+predicate_under.Goals as goal

if_some : {T : Type 0} {P Q : T → Type 0} (o : Option T) → ((v : T) → P v → Q v) → IfSome o P → IfSome o Q
if_some (Some v) f p = f v p
if_some None f p = p

pub returns-in-Const-clause-some : goal.returns-in-Const-clause-some
returns-in-Const-clause-some t c =
    an_atom_here c.args.types.now c.args.store.now c.args.id c.view.result.now (c.view.ensures.tree c.args.types.now) c.in-Spine.head c.in-Spine.args c.in-Spine.is c.in-Const.constant c.in-Const.is

pub returns-in-Const-clause-held : goal.returns-in-Const-clause-held
returns-in-Const-clause-held t c =
    subst (HeadIsTyped c.args.types.now) c.in-Const.is (subst (NodeIsTyped c.args.types.now) c.in-Spine.is (c.view.ensures.typed c.args.types.now c.requires.store))

pub returns-in-Lam-view-clause-some : goal.returns-in-Lam-view-clause-some
returns-in-Lam-view-clause-some t c =
    let types = c.args.types.now in
    if_some c.predicate_under.result (λ p under.
    a_nabla_here types c.args.store.now c.args.id c.view.result.now (c.view.ensures.tree types) c.in-Spine.head c.in-Spine.args c.in-Spine.is
    c.in-Nabla.field-0 c.as_slice.result.now (c.in-Logic.is ∙ ap Logic c.in-Nabla.is) c.as_slice.ensures
    _ c.in-len1.len_at_least c.in-len1.len_below c.view-in-len1.result.now (c.view-in-len1.ensures.tree types) c.in-Lam-view.field-0 c.in-Lam-view.field-1 c.in-Lam-view.body c.in-Lam-view.is _ under)
    c.predicate_under.ensures.some

pub returns-in_default-as_slice-2-clause-none : goal.returns-in_default-as_slice-2-clause-none
returns-in_default-as_slice-2-clause-none t c e i =
    let types = c.args.types.now in
    let given = c.as_slice.result.now in
    no_head types c.args.store.now c.args.id c.view.result.now (c.view.ensures.tree types) c.in-Spine.head c.in-Spine.args c.in-Spine.is
    c.in-Nabla.field-0 given (c.in-Logic.is ∙ ap Logic c.in-Nabla.is) c.as_slice.ensures (λ one. let many : 2 ≤ length given = c.in_default-as_slice.len_at_least in omega (arith, one, many)) i
