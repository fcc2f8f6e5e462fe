use Rattle.std.proofs.Common.{[], arith}
use Rattle.std.proofs.lemmas.Grind.{common_steps}
use Rattle.std.proofs.lemmas.List.Elements.{All-push, All-weaker}
use Rattle.ab_term.specs.Types.{Ty}
use Rattle.ab_norm.specs.ab_store.specs.declared.node.TermId.{TermId}
use Rattle.ab_norm.specs.ab_store.specs.Naming.{IsTerm}
use Rattle.ab_norm.specs.ab_store.specs.Trees.{Contents}
use Rattle.ab_norm.proofs.Frame.{typed_on}
use Rattle.ab_search_paths.proofs.CellTerms.{still_closed}
use Rattle.ab_search_paths.proofs.cell_terms.cells_given.Goals as goal

pub returns-in_err-push-clause-adds : goal.returns-in_err-push-clause-adds
returns-in_err-push-clause-adds c = typed_on c.args.types.now c.args.store.now c.loop-cell.store c.cell_given.new.store c.loop-cell.invariant.adds c.in_ok-cell_given.ensures.adds

pub loop-cell-preserved : goal.loop-cell-preserved
loop-cell-preserved c =
    let T = c.args.types.now in
    let l = c.loop-cell in
    let new = c.cell_given.new.store in
    let adds = c.in_ok-cell_given.ensures.adds in
    let closed : Contents → TermId → Type 0 = λ s r. (A : Ty) × IsTerm T s [] r A in
    record {
      typed =
          rw c.in_ok-push.ensures.items
          (All-push (closed new) l.list.items c.in_ok-cell_given.field-0 (All-weaker (closed l.store) (closed new) (still_closed T l.store new adds) l.list.items l.invariant.typed) c.in_ok-cell_given.ensures.typed);
      count = grind (arith, common_steps);
      adds = typed_on T c.args.store.now l.store new l.invariant.adds adds;
    }
