use Rattle.std.proofs.Common.{Some, codes}
use Rattle.std.proofs.lemmas.List.Elements.{All-pop}
use Rattle.ab_store.specs.ab_types.specs.Ids.{HoldsType, type_of}
use Rattle.ab_store.specs.Trees.{tree_of}
use Rattle.ab_norm.proofs.Frame.{typed_more}
use Rattle.ab_norm.proofs.Expanded.{one_under}
use Rattle.ab_norm.proofs.eta_forms.put_under.Goals as goal

pub returns-in_err-here-clause-adds : goal.returns-in_err-here-clause-adds
returns-in_err-here-clause-adds c = λ types typed all.
    let popped = rw c.in-Some.is at c.pop.ensures.items in
    let before = c.loop-ty.invariant.adds types typed all in
    let here = All-pop (HoldsType types) c.loop-ty.binders.items c.pop.new.self.items (Some c.in-Some.ty) popped (c.loop-ty.invariant.types types all) in
    typed_more types c.args.store.now c.loop-ty.store c.lam.new.self before.before before.cells c.lam.ensures.before c.lam.ensures.cells (c.lam.ensures.typed types before.typed here.1)

pub loop-ty-preserved : goal.loop-ty-preserved
loop-ty-preserved c =
    let popped = rw c.in-Some.is at c.pop.ensures.items in
    let before = c.loop-ty.invariant in
    record {
      held = c.in_ok-here.ensures.held;
      reads = λ types.
          one_under (codes "x") (type_of types) c.loop-ty.binders.items c.pop.new.self.items c.in-Some.ty (tree_of types c.loop-ty.store c.loop-ty.here) (tree_of types c.lam.new.self c.in_ok-here.here) _
          popped (cc (c.in_ok-here.ensures.tree types, c.in_ok-from_text.ensures)) (before.reads types);
      types = λ types all. (All-pop (HoldsType types) c.loop-ty.binders.items c.pop.new.self.items (Some c.in-Some.ty) popped (before.types types all)).0;
      adds = λ types typed all.
          let adds = before.adds types typed all in
          let here = All-pop (HoldsType types) c.loop-ty.binders.items c.pop.new.self.items (Some c.in-Some.ty) popped (before.types types all) in
          typed_more types c.args.store.now c.loop-ty.store c.lam.new.self adds.before adds.cells c.lam.ensures.before c.lam.ensures.cells (c.lam.ensures.typed types adds.typed here.1);
    }
