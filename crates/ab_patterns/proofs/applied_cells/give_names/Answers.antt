use Rattle.std.proofs.Common.{◌∙◌, ◌++◌, refl, sym, ap, subst, arith, length, get_or, map, codes}
use Rattle.std.proofs.lemmas.List.{at_drop_all, append-nil}
use Rattle.std.proofs.lemmas.List.Elements.{All-push, All-weaker}
use Rattle.ab_term.specs.Expansion.{expansion}
use Rattle.ab_norm.specs.ab_types.specs.Ids.{type_of}
use Rattle.ab_norm.specs.ab_store.specs.declared.node.Head.{Head}
use Rattle.ab_norm.specs.ab_store.specs.declared.node.Head.TheVariants.{Const}
use Rattle.ab_norm.specs.ab_store.specs.Trees.{Holds, tree_of, head_in, head_reading}
use Rattle.ab_norm.specs.ab_store.specs.Naming.{HeadNames}
use Rattle.ab_norm.proofs.Frame.{typed_on, typed_none}
use Rattle.ab_patterns.specs.ArgumentNames.{name_list}
use Rattle.ab_patterns.proofs.GivenNames.{one_given, no_names}
use Rattle.ab_patterns.proofs.applied_cells.give_names.Goals as goal

abbrev none : Head
none = Const (record { 0 = 0 })

pub loop-name-init : goal.loop-name-init
loop-name-init c = record { adds = typed_none c.args.types.now c.args.store.now c.requires.store; held = c.requires.into; left = c.requires.ty; reads = refl }

pub returns-in-Base-clause-reads : goal.returns-in-Base-clause-reads
returns-in-Base-clause-reads c =
    no_names (codes "x") (type_of c.args.types.now c.loop-name.left) _ _ (map (tree_of c.args.types.now c.loop-name.store) c.loop-name.into.items) _ c.in-Base.ensures.reads c.loop-name.invariant.reads

pub eta-requires-clause-store : goal.eta-requires-clause-store
eta-requires-clause-store c = c.loop-name.invariant.adds.typed

pub eta-requires-clause-head : goal.eta-requires-clause-head
eta-requires-clause-head c =
    subst (λ cells. HeadNames (length cells) (get_or c.args.names.now c.loop-name.name-index none)) (sym c.loop-name.invariant.adds.cells) (c.requires.names c.loop-name.name-index none (omega arith))

pub returns-in_err-eta-in-Arrow-clause-adds : goal.returns-in_err-eta-in-Arrow-clause-adds
returns-in_err-eta-in-Arrow-clause-adds c = typed_on c.args.types.now c.args.store.now c.loop-name.store c.eta.new.store c.loop-name.invariant.adds c.in_err-eta-in-Arrow.ensures.adds

pub returns-in_err-push-in-Arrow-clause-adds : goal.returns-in_err-push-in-Arrow-clause-adds
returns-in_err-push-in-Arrow-clause-adds c = typed_on c.args.types.now c.args.store.now c.loop-name.store c.eta.new.store c.loop-name.invariant.adds c.in_ok-eta-in-Arrow.ensures.adds

pub loop-name-preserved : goal.loop-name-preserved
loop-name-preserved c =
    let types = c.args.types.now in
    let s0 = c.args.store.now in
    let here = c.loop-name in
    let form = c.in_ok-eta-in-Arrow.ensures in
    let i = here.name-index in
    record {
      adds = typed_on types s0 here.store c.eta.new.store here.invariant.adds form.adds;
      held = rw c.in_ok-push-in-Arrow.ensures.items (All-push (Holds c.eta.new.store) here.into.items c.in_ok-eta-in-Arrow.field-0 (All-weaker (Holds here.store) (Holds c.eta.new.store) form.adds.before.ids here.into.items here.invariant.held) form.held);
      left = c.in-Arrow.ensures.held.1;
      reads = one_given types s0 here.store c.eta.new.store (codes "x") (type_of types c.in-Arrow.from) (type_of types c.in-Arrow.to) (type_of types here.left) c.args.names.now i none here.into.items c.push.new.self.items c.in_ok-eta-in-Arrow.field-0 _
          (omega arith) c.in-Arrow.ensures.reads form.adds.before here.invariant.held
          (form.tree ∙ ap (λ cells. expansion (codes "x") (type_of types c.in-Arrow.from) (head_in types cells (get_or c.args.names.now i none))) here.invariant.adds.cells)
          c.in_ok-push-in-Arrow.ensures.items here.invariant.reads;
    }

pub returns-clause-reads : goal.returns-clause-reads
returns-clause-reads c =
    let types = c.args.types.now in
    let made = map (tree_of types c.loop-name.store) c.loop-name.into.items in
    sym (ap (λ l. made ++ l) (at_drop_all (λ names. name_list (codes "x") (type_of types c.loop-name.left) (map (head_reading types c.args.store.now) names)) c.args.names.now c.loop-name.name-index (omega arith)) ∙ append-nil made)
    ∙ c.loop-name.invariant.reads
