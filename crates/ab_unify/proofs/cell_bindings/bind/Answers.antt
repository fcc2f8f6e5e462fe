use Rattle.std.proofs.Common.{map}
use Rattle.ab_norm.specs.ab_store.specs.Trees.{tree_of, head_reading}
use Rattle.ab_unify.proofs.Put.{on_ok_both, put_grows, put_changed}
use Rattle.ab_unify.proofs.cell_bindings.bind.Goals as goal

pub returns-clause-changed : goal.returns-clause-changed
returns-clause-changed g c =
    let types = c.args.types.now in
    let store = c.args.store.now in
    let e = c.put.ensures in
    on_ok_both c.put.result (λ reads bound T S F flexible change was listed out.
    put_changed types store c.put.new.store c.requires.store c.args.cell (map (head_reading types store) c.args.names.now) (tree_of types store c.args.term) (record {
      grows = put_grows types store c.put.new.store e.typed e.trees e.cells e.marks;
      cells = e.cells;
      fits = c.requires.fits;
      bound = bound;
      free = e.free;
      reads = reads;
    }) T S F flexible change was listed out) e.reads e.bound
