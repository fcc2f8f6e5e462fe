use Rattle.std.proofs.Common.{List}
use Rattle.ab_norm.specs.ab_store.specs.declared.node.CellId.{CellId}
use Rattle.ab_norm.proofs.Frame.{if_ok}
use Rattle.ab_unify.specs.States.{numbered_from, verdict_of, Runs}
use Rattle.ab_unify.proofs.Answered.{exactly_apart, exactly_stuck, exactly_unified, no_unifier, is_general, same_cells, reads_so, left_so, sides_equal, each_unifier}
use Rattle.ab_unify.proofs.Cut.{unified_case, cut_grows}
use Rattle.ab_unify.proofs.unification.unify.Goals as goal

pub returns-then-is_unified-clause-unified : goal.returns-then-is_unified-clause-unified
returns-then-is_unified-clause-unified g c =
    if_ok c.solve-answer.result (λ s run. exactly_unified c.args.types.now c.args.store.now c.args.flexible.now c.args.equations.now c.solve-answer.new.types c.solve-answer.new.store run.0 s run.1) c.solve-answer.ensures.runs

pub returns-then-is_unified-clause-apart : goal.returns-then-is_unified-clause-apart
returns-then-is_unified-clause-apart g c =
    if_ok c.solve-answer.result (λ s run. exactly_apart c.args.types.now c.args.store.now c.args.flexible.now c.args.equations.now c.solve-answer.new.types c.solve-answer.new.store run.0 s run.1) c.solve-answer.ensures.runs

pub returns-then-is_unified-clause-stuck : goal.returns-then-is_unified-clause-stuck
returns-then-is_unified-clause-stuck g c =
    if_ok c.solve-answer.result (λ s run. exactly_stuck c.args.types.now c.args.store.now c.args.flexible.now c.args.equations.now c.solve-answer.new.types c.solve-answer.new.store run.0 s run.1) c.solve-answer.ensures.runs

pub returns-then-is_unified-clause-reads : goal.returns-then-is_unified-clause-reads
returns-then-is_unified-clause-reads g c =
    let types = c.args.types.now in
    let store = c.args.store.now in
    let F = c.args.flexible.now in
    let es = c.args.equations.now in
    let more = c.solve-answer.new.types in
    let now = c.solve-answer.new.store in
    unified_case (λ s. (left : List CellId) × Runs types store F (numbered_from 0 es) more now left (verdict_of s)) _ c.solve-answer.result c.solve-answer.ensures.runs
    (λ made run. reads_so types store F es more now run.0 c.requires.store c.requires.flexible c.requires.equations made run.1)

pub returns-then-is_unified-clause-cells : goal.returns-then-is_unified-clause-cells
returns-then-is_unified-clause-cells g c =
    let types = c.args.types.now in
    let store = c.args.store.now in
    let F = c.args.flexible.now in
    let es = c.args.equations.now in
    let more = c.solve-answer.new.types in
    let now = c.solve-answer.new.store in
    unified_case (λ s. (left : List CellId) × Runs types store F (numbered_from 0 es) more now left (verdict_of s)) _ c.solve-answer.result c.solve-answer.ensures.runs
    (λ made run. same_cells types store F es more now run.0 c.requires.store c.requires.flexible c.requires.equations made run.1)

pub returns-then-is_unified-clause-left : goal.returns-then-is_unified-clause-left
returns-then-is_unified-clause-left g c =
    let types = c.args.types.now in
    let store = c.args.store.now in
    let F = c.args.flexible.now in
    let es = c.args.equations.now in
    let more = c.solve-answer.new.types in
    let now = c.solve-answer.new.store in
    unified_case (λ s. (left : List CellId) × Runs types store F (numbered_from 0 es) more now left (verdict_of s)) _ c.solve-answer.result c.solve-answer.ensures.runs
    (λ made run. left_so types store F es more now run.0 c.requires.store c.requires.flexible c.requires.equations made run.1)

pub returns-then-is_unified-clause-equal : goal.returns-then-is_unified-clause-equal
returns-then-is_unified-clause-equal g c =
    let types = c.args.types.now in
    let store = c.args.store.now in
    let F = c.args.flexible.now in
    let es = c.args.equations.now in
    let more = c.solve-answer.new.types in
    let now = c.solve-answer.new.store in
    unified_case (λ s. (left : List CellId) × Runs types store F (numbered_from 0 es) more now left (verdict_of s)) _ c.solve-answer.result c.solve-answer.ensures.runs
    (λ made run. sides_equal types store F es more now run.0 c.requires.store c.requires.flexible c.requires.equations made run.1)

pub returns-then-is_unified-clause-most_general : goal.returns-then-is_unified-clause-most_general
returns-then-is_unified-clause-most_general g c =
    let types = c.args.types.now in
    let store = c.args.store.now in
    let F = c.args.flexible.now in
    let es = c.args.equations.now in
    let more = c.solve-answer.new.types in
    let now = c.solve-answer.new.store in
    unified_case (λ s. (left : List CellId) × Runs types store F (numbered_from 0 es) more now left (verdict_of s)) _ c.solve-answer.result c.solve-answer.ensures.runs
    (λ made run. is_general types store F es more now run.0 c.requires.store c.requires.flexible c.requires.equations)

pub returns-then-is_unified-clause-general : goal.returns-then-is_unified-clause-general
returns-then-is_unified-clause-general g c =
    let types = c.args.types.now in
    let store = c.args.store.now in
    let F = c.args.flexible.now in
    let es = c.args.equations.now in
    let more = c.solve-answer.new.types in
    let now = c.solve-answer.new.store in
    unified_case (λ s. (left : List CellId) × Runs types store F (numbered_from 0 es) more now left (verdict_of s)) _ c.solve-answer.result c.solve-answer.ensures.runs
    (λ made run. each_unifier types store F es more now run.0 c.requires.store c.requires.flexible c.requires.equations made run.1)

pub returns-clause-unified : goal.returns-clause-unified
returns-clause-unified g c =
    if_ok c.solve-answer.result (λ s run. exactly_unified c.args.types.now c.args.store.now c.args.flexible.now c.args.equations.now c.solve-answer.new.types c.solve-answer.new.store run.0 s run.1) c.solve-answer.ensures.runs

pub returns-clause-apart : goal.returns-clause-apart
returns-clause-apart g c =
    if_ok c.solve-answer.result (λ s run. exactly_apart c.args.types.now c.args.store.now c.args.flexible.now c.args.equations.now c.solve-answer.new.types c.solve-answer.new.store run.0 s run.1) c.solve-answer.ensures.runs

pub returns-clause-stuck : goal.returns-clause-stuck
returns-clause-stuck g c =
    if_ok c.solve-answer.result (λ s run. exactly_stuck c.args.types.now c.args.store.now c.args.flexible.now c.args.equations.now c.solve-answer.new.types c.solve-answer.new.store run.0 s run.1) c.solve-answer.ensures.runs

pub returns-clause-no_unifier : goal.returns-clause-no_unifier
returns-clause-no_unifier g c =
    let types = c.args.types.now in
    let store = c.args.store.now in
    let F = c.args.flexible.now in
    let es = c.args.equations.now in
    let more = c.solve-answer.new.types in
    let now = c.solve-answer.new.store in
    if_ok c.solve-answer.result (λ s run is u unifier.
    no_unifier types store F es more now run.0 c.requires.store c.requires.flexible c.requires.equations ((exactly_apart types store F es more now run.0 s run.1).0 is) u unifier) c.solve-answer.ensures.runs

pub returns-clause-grows : goal.returns-clause-grows
returns-clause-grows g c =
    let m = c.mark-mark.result in
    cut_grows c.args.types.now c.solve-answer.new.types c.args.store.now c.solve-answer.new.store c.cut_to.new.self m c.requires.store c.solve-answer.ensures.grows
    c.mark-mark.ensures.has c.mark-mark.ensures.bindings c.mark-mark.ensures.nodes c.mark-mark.ensures.cells
    c.cut_to.ensures.bindings c.cut_to.ensures.nodes c.cut_to.ensures.cells c.mark-mark.ensures.typed c.cut_to.ensures.typed c.cut_to.ensures.marks
