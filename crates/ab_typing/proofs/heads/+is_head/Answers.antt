use Rattle.std.proofs.Common.{◌≡◌, ◌≤◌, length, arith, ap, ◌∙◌, map, subst}
use Rattle.ab_store.specs.declared.node.Head.TheVariants.{Logic}
use Rattle.ab_store.specs.declared.node.Logical.TheVariants.{Nabla}
use Rattle.ab_store.specs.Naming.{NodeIsTyped, HeadIsTyped}
use Rattle.ab_typing.specs.DefinitionReadings.{name_of}
use Rattle.ab_typing.proofs.Headed.{no_predicate, a_predicate, no_scope}
use Rattle.ab_formulas.proofs.ClausesWalks.{if_ok, never}
use Rattle.ab_typing.proofs.heads.+is_head.Goals as goal

pub is_predicate-requires-clause-constant : goal.is_predicate-requires-clause-constant
is_predicate-requires-clause-constant t c =
    subst (HeadIsTyped c.args.types.now) c.in-Const.is (subst (NodeIsTyped c.args.types.now) c.in-Spine.is (c.view.ensures.typed c.args.types.now c.requires.store))

pub returns-then-not-is_predicate-clause-head : goal.returns-then-not-is_predicate-clause-head
returns-then-not-is_predicate-clause-head t c =
    let types = c.args.types.now in
    never _ (no_predicate (map (name_of types) c.args.predicates.now) types c.args.store.now c.args.id c.view.result.now (c.view.ensures.tree types) c.in-Spine.head c.in-Spine.args c.in-Spine.is
    c.in-Const.constant c.is_predicate.result c.in-Const.is c.is_predicate.ensures c.if-not-is_predicate.true)

pub returns-else-not-is_predicate-clause-head : goal.returns-else-not-is_predicate-clause-head
returns-else-not-is_predicate-clause-head t c =
    let types = c.args.types.now in
    if_ok c.all_keep.result (λ yes below.
    a_predicate (map (name_of types) c.args.predicates.now) types c.args.store.now c.args.id c.view.result.now (c.view.ensures.tree types) c.in-Spine.head c.in-Spine.args c.in-Spine.is
    c.in-Const.constant c.as_slice.result.now c.is_predicate.result yes c.in-Const.is c.as_slice.ensures c.is_predicate.ensures c.if-not-is_predicate.false (below types)) c.all_keep.ensures.keep

pub returns-in_default-as_slice-2-clause-head : goal.returns-in_default-as_slice-2-clause-head
returns-in_default-as_slice-2-clause-head t c =
    let types = c.args.types.now in
    let given = c.as_slice-in-Nabla.result.now in
    let head : c.in-Spine.head ≡ Logic (Nabla c.in-Nabla.field-0) = c.in-Logic.is ∙ ap Logic c.in-Nabla.is in
    never _ (no_scope (map (name_of types) c.args.predicates.now) types c.args.store.now c.args.id c.view.result.now (c.view.ensures.tree types) c.in-Spine.head c.in-Spine.args c.in-Spine.is
    c.in-Nabla.field-0 given head c.as_slice-in-Nabla.ensures (λ one. let many : 2 ≤ length given = c.in_default-as_slice.len_at_least in omega (arith, one, many)))
