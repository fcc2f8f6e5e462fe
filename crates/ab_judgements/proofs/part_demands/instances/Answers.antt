use Rattle.std.proofs.Common.{◌<◌, ◌≤◌, map, length, get_or, take_all, arith, sym, ap, ◌∙◌}
use Rattle.ab_term.specs.Terms.{Read}
use Rattle.ab_term.specs.Substitution.{instance_by_all}
use Rattle.ab_norm.specs.ab_store.specs.declared.node.TermId.{TermId}
use Rattle.ab_norm.specs.ab_store.specs.Trees.{Holds, tree_of}
use Rattle.ab_norm.proofs.Frame.{typed_on, typed_from, adds_but_types}
use Rattle.ab_judgement_forms.proofs.ClosedInTurn.{map_then}
use Rattle.ab_judgement_forms.proofs.OneMore.{one_more, one_more_held}
use Rattle.ab_judgements.proofs.part_demands.instances.Goals as goal

pub returns-in_err-instantiate-clause-adds : goal.returns-in_err-instantiate-clause-adds
returns-in_err-instantiate-clause-adds g c =
    let inv = c.loop-scope.invariant in
    typed_on c.args.types.now c.args.store.now c.loop-scope.store c.instantiate.new.store inv.adds (typed_from c.args.types.now c.loop-scope.store c.instantiate.new.store c.instantiate.ensures.adds inv.adds.typed)

pub returns-in_err-push-clause-adds : goal.returns-in_err-push-clause-adds
returns-in_err-push-clause-adds g c =
    let inv = c.loop-scope.invariant in
    typed_on c.args.types.now c.args.store.now c.loop-scope.store c.instantiate.new.store inv.adds (typed_from c.args.types.now c.loop-scope.store c.instantiate.new.store c.instantiate.ensures.adds inv.adds.typed)

pub loop-scope-preserved : goal.loop-scope-preserved
loop-scope-preserved g c =
    let T = c.args.types.now in
    let S = c.args.store.now in
    let l = c.loop-scope in
    let U = c.instantiate.new.store in
    let adds = typed_from T l.store U c.instantiate.ensures.adds l.invariant.adds.typed in
    let d : TermId = record { 0 = 0 } in
    let s = get_or c.args.scopes.now l.scope-index d in
    let within : l.scope-index < length c.args.scopes.now = omega (arith, c.loop-scope-test.true) in
    let there : Holds S s = c.requires.scopes l.scope-index d within in
    record {
      held = one_more_held T l.store U adds.before l.list.items c.push.new.self.items c.in_ok-instantiate.field-0 c.in_ok-push.ensures.items l.invariant.held c.in_ok-instantiate.ensures.held;
      trees = one_more T l.store U adds.before l.list.items c.push.new.self.items c.in_ok-instantiate.field-0 c.in_ok-push.ensures.items l.invariant.held
          (λ t. instance_by_all (tree_of T S t) (map (tree_of T S) c.args.terms.now)) c.args.scopes.now l.scope-index d within l.invariant.trees
          (c.in_ok-instantiate.ensures.tree
          ∙ ap (λ u. instance_by_all u (map (tree_of T l.store) c.args.terms.now)) (l.invariant.adds.before.trees T s there)
          ∙ ap (instance_by_all (tree_of T S s)) (adds_but_types T S l.store l.invariant.adds c.args.terms.now c.requires.terms).1);
      adds = typed_on T S l.store U l.invariant.adds adds;
      steps = omega (arith, l.invariant.steps, c.instantiate.ensures.steps);
    }

pub returns-clause-trees : goal.returns-clause-trees
returns-clause-trees g c =
    let T = c.args.types.now in
    let S = c.args.store.now in
    let f : TermId → Read = (λ t. instance_by_all (tree_of T S t) (map (tree_of T S) c.args.terms.now)) in
    c.loop-scope.invariant.trees
    ∙ ap (map f) (take_all c.loop-scope.scope-index c.args.scopes.now (omega (arith, c.loop-scope-test.false)))
    ∙ sym (map_then (tree_of T S) (λ u. instance_by_all u (map (tree_of T S) c.args.terms.now)) c.args.scopes.now)
