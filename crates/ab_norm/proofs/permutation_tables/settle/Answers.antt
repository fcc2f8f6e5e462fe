use Rattle.std.proofs.Common.{sym, ◌∙◌, ap, subst, map}
use Rattle.ab_term.specs.Names.{moved_by}
use Rattle.ab_norm.specs.Nominals.{nominal_of, pairs_of, HoldsPairs}
use Rattle.ab_norm.specs.PermutationTables.{retargeted}
use Rattle.ab_norm.proofs.Completed.{settled}
use Rattle.ab_norm.proofs.permutation_tables.settle.Goals as goal

pub returns : goal.returns
returns c = λ types ok hf ht permutes.
    let one = c.in_ok-include.ensures types ok hf permutes in
    let two = c.in_ok-include-2.ensures types ok ht one.permutes in
    let held = two.permutes.0 in
    let now = c.moved_constant-now.ensures types ok (subst (HoldsPairs types) (sym c.deref.ensures.value) held) hf in
    let made = c.in_ok-table.ensures types ok now.0 ht (subst (HoldsPairs types) (sym c.deref-2.ensures.value) held) in
    settled types ok c.args.pair c.moved_constant-now.result c.args.table.now.items c.include.new.table.items c.include-2.new.table.items c.in_ok-table.field-0.items c.requires one two
    (now.1 ∙ ap (λ l. moved_by (pairs_of types l) (nominal_of types c.args.pair.from)) c.deref.ensures.value)
    (made.0, made.1 ∙ ap (λ l. map (retargeted (nominal_of types c.moved_constant-now.result) (nominal_of types c.args.pair.to)) (pairs_of types l)) c.deref-2.ensures.value)
