use Rattle.std.proofs.Common.{[], ◌+◌, ◌∙◌, arith}
use Rattle.ab_norm.specs.ab_store.proofs.Growing.{extended_on}
use Rattle.ab_inference.specs.Assignments.{settled_at}
use Rattle.ab_declare.proofs.Numbering.{next_cell, other_default}
use Rattle.ab_declare.proofs.cells.cells_for.Goals as goal

pub returns-in_err-push-clause-adds : goal.returns-in_err-push-clause-adds
returns-in_err-push-clause-adds c =
    let inv = c.loop-j.invariant in
    record {
      before = extended_on c.args.store.now c.loop-j.store c.cell.new.self inv.0.before c.in_ok-cell.ensures.before;
      typed = c.in_ok-cell.ensures.typed c.args.types.now inv.0.typed (c.requires.found.1 (c.args.base + c.loop-j.j) (omega (arith, c.requires.found.0, c.loop-j-test.true)));
    }

pub loop-j-preserved : goal.loop-j-preserved
loop-j-preserved c =
    let inv = c.loop-j.invariant in
    let k = c.in_ok-cell.ensures in (
      record {
        before = extended_on c.args.store.now c.loop-j.store c.cell.new.self inv.0.before k.before;
        typed = k.typed c.args.types.now inv.0.typed (c.requires.found.1 (c.args.base + c.loop-j.j) (omega (arith, c.requires.found.0, c.loop-j-test.true)));
      },
      next_cell c.args.store.now c.loop-j.store c.cell.new.self c.args.names.now (λ j. (settled_at c.args.found.now (c.args.base + j)).ty) c.loop-j.j c.loop-j.cells.items c.push.new.self.items c.in_ok-cell.cell inv.1 inv.2
          k.before k.held k.fresh k.one (k.hint ∙ (c.in_ok-copy.ensures ∙ (c.index-names-j.is ∙ other_default c.args.names.now c.loop-j.j c.index-names-j.result [] c.loop-j-test.true))) k.ty c.in_ok-push.ensures.items,
      omega (arith, k.one, inv.2),
    )
