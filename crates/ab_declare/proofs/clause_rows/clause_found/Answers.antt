use Rattle.std.specs.List.{All}
use Rattle.std.proofs.Common.{◌+◌, [], map, length, refl, sym, ap, ◌∙◌, subst}
use Rattle.ab_norm.specs.ab_types.specs.Entries.{signature}
use Rattle.ab_norm.specs.ab_types.specs.Ids.{type_of}
use Rattle.ab_norm.specs.ab_store.specs.Trees.{tree_of}
use Rattle.ab_norm.specs.ab_store.specs.declared.node.Head.TheVariants.{Cell}
use Rattle.ab_norm.specs.ab_store.proofs.Growing.{extended_on}
use Rattle.ab_norm.proofs.Frame.{if_ok}
use Rattle.ab_meaning.specs.Normal.{normal_form}
use Rattle.ab_inference.specs.Assignments.{settled_at}
use Rattle.ab_inference.specs.Verdicts.{types_found}
use Rattle.ab_infer.specs.NormalTerms.{OpFits, IsBuilt}
use Rattle.ab_typing.specs.DefinitionReadings.{clause_of}
use Rattle.ab_declare.specs.ClauseMeanings.{variable_from}
use Rattle.ab_declare.specs.JoinedRows.{joiner, IsPair}
use Rattle.ab_declare.proofs.Numbering.{fits_later, heads_have, cells_held}
use Rattle.ab_declare.proofs.Kept.{built_here, are_here, pair_tree, kept_so, both_one}
use Rattle.ab_declare.proofs.clause_rows.clause_found.Goals as goal

pub build-requires-clause-frees : goal.build-requires-clause-frees
build-requires-clause-frees g c =
    heads_have c.args.types.now c.args.store.now c.cells_for.new.store c.deref.result.now c.len-base.result c.args.found.now c.in_ok-cells.cells.items c.in_ok-cells.ensures.cells c.deref-3.result.now
    (c.deref-3.ensures.value ∙ (c.in_ok-heads.ensures ∙ ap (map Cell) c.deref-2.ensures.value))

pub build-requires-clause-fit : goal.build-requires-clause-fit
build-requires-clause-fit g c =
    let t = c.args.types.now in
    let s1 = c.cells_for.new.store in
    subst (All (OpFits t s1.cells)) (sym c.deref-4.ensures.value) (fits_later t c.args.store.now s1 c.in_ok-cells.ensures.adds.before c.args.row.now.steps.items c.requires.row.2.fits)

pub returns-in_err-whole-clause-adds : goal.returns-in_err-whole-clause-adds
returns-in_err-whole-clause-adds g c = record {
  before = extended_on c.args.store.now c.cells_for.new.store c.build.new.store c.in_ok-cells.ensures.adds.before c.in_err-whole.ensures.adds.before;
  typed = c.in_err-whole.ensures.adds.typed;
}

pub unreachable-requires : goal.unreachable-requires
unreachable-requires g c =
    let q = c.requires.row in
    let t = c.args.types.now in
    let A = type_of t c.args.expected in
    let S = c.args.store.now in
    let s1 = c.cells_for.new.store in
    let s2 = c.build.new.store in
    let row = c.args.row.now in
    let found = c.args.found.now in
    let built = built_here t S s1 s2 row found c.len-base.result q.0 A q.1 q.2 c.deref.result.now c.in_ok-cells.cells.items c.deref-3.result.now c.deref-4.result.now c.in_ok-whole.whole
    (c.len-base.ensures ∙ row.variables.ok.0) c.deref.ensures.value (c.deref-3.ensures.value ∙ (c.in_ok-heads.ensures ∙ ap (map Cell) c.deref-2.ensures.value)) c.deref-4.ensures.value
    c.in_ok-cells.ensures.adds.before c.in_ok-cells.ensures.cells c.in_ok-whole.ensures.built in
    rw c.in_default.is at built

pub two_of-requires : goal.two_of-requires
two_of-requires g c =
    let q = c.requires.row in
    let t = c.args.types.now in
    let A = type_of t c.args.expected in
    let S = c.args.store.now in
    let s1 = c.cells_for.new.store in
    let s2 = c.build.new.store in
    let row = c.args.row.now in
    let found = c.args.found.now in
    let built = built_here t S s1 s2 row found c.len-base.result q.0 A q.1 q.2 c.deref.result.now c.in_ok-cells.cells.items c.deref-3.result.now c.deref-4.result.now c.in_ok-whole.whole
    (c.len-base.ensures ∙ row.variables.ok.0) c.deref.ensures.value (c.deref-3.ensures.value ∙ (c.in_ok-heads.ensures ∙ ap (map Cell) c.deref-2.ensures.value)) c.deref-4.ensures.value
    c.in_ok-cells.ensures.adds.before c.in_ok-cells.ensures.cells c.in_ok-whole.ensures.built in
    let whole : IsBuilt t s2 (length row.variables.items) (types_found t found) (variable_from (length S.cells) row.names.items) q.2.sketch c.in-Some.whole = rw c.in-Some.is at built in
    whole.held

pub unreachable-requires-in_default-two_of : goal.unreachable-requires-in_default-two_of
unreachable-requires-in_default-two_of g c =
    let q = c.requires.row in
    let t = c.args.types.now in
    let A = type_of t c.args.expected in
    let S = c.args.store.now in
    let s1 = c.cells_for.new.store in
    let s2 = c.build.new.store in
    let row = c.args.row.now in
    let found = c.args.found.now in
    let built = built_here t S s1 s2 row found c.len-base.result q.0 A q.1 q.2 c.deref.result.now c.in_ok-cells.cells.items c.deref-3.result.now c.deref-4.result.now c.in_ok-whole.whole
    (c.len-base.ensures ∙ row.variables.ok.0) c.deref.ensures.value (c.deref-3.ensures.value ∙ (c.in_ok-heads.ensures ∙ ap (map Cell) c.deref-2.ensures.value)) c.deref-4.ensures.value
    c.in_ok-cells.ensures.adds.before c.in_ok-cells.ensures.cells c.in_ok-whole.ensures.built in
    let whole : IsBuilt t s2 (length row.variables.items) (types_found t found) (variable_from (length S.cells) row.names.items) q.2.sketch c.in-Some.whole = rw c.in-Some.is at built in
    let one = both_one t S row found (length row.variables.items) q.0 A q.1 q.2 (length S.cells) q.3 in
    let head = normal_form (signature t) [] one.reading.head in
    let body = normal_form (signature t) [] one.reading.body in
    let tree = pair_tree t S row found (length row.variables.items) q.0 A q.1 q.2 (length S.cells) q.3 s2 c.in-Some.whole whole in
    let two = c.two_of.ensures t (joiner A q.1) head body tree in
    rw c.in_default-two_of.is at two

pub closes_body-closes-requires : goal.closes_body-closes-requires
closes_body-closes-requires g c =
    let q = c.requires.row in
    let t = c.args.types.now in
    let A = type_of t c.args.expected in
    let S = c.args.store.now in
    let s1 = c.cells_for.new.store in
    let s2 = c.build.new.store in
    let row = c.args.row.now in
    let found = c.args.found.now in
    let built = built_here t S s1 s2 row found c.len-base.result q.0 A q.1 q.2 c.deref.result.now c.in_ok-cells.cells.items c.deref-3.result.now c.deref-4.result.now c.in_ok-whole.whole
    (c.len-base.ensures ∙ row.variables.ok.0) c.deref.ensures.value (c.deref-3.ensures.value ∙ (c.in_ok-heads.ensures ∙ ap (map Cell) c.deref-2.ensures.value)) c.deref-4.ensures.value
    c.in_ok-cells.ensures.adds.before c.in_ok-cells.ensures.cells c.in_ok-whole.ensures.built in
    let whole : IsBuilt t s2 (length row.variables.items) (types_found t found) (variable_from (length S.cells) row.names.items) q.2.sketch c.in-Some.whole = rw c.in-Some.is at built in
    let one = both_one t S row found (length row.variables.items) q.0 A q.1 q.2 (length S.cells) q.3 in
    let head = normal_form (signature t) [] one.reading.head in
    let body = normal_form (signature t) [] one.reading.body in
    let tree = pair_tree t S row found (length row.variables.items) q.0 A q.1 q.2 (length S.cells) q.3 s2 c.in-Some.whole whole in
    let two = c.two_of.ensures t (joiner A q.1) head body tree in
    let both : IsPair t s2 head body (c.in-Some-two_of.head, c.in-Some-two_of.body) = rw c.in-Some-two_of.is at two in
    both.0

pub close_clause-requires-clause-cells : goal.close_clause-requires-clause-cells
close_clause-requires-clause-cells g c =
    cells_held c.args.store.now c.cells_for.new.store c.build.new.store c.deref.result.now (λ j. (settled_at c.args.found.now (c.len-base.result + j)).ty) (length c.deref.result.now) c.in_ok-cells.cells.items c.in_ok-cells.ensures.cells c.in_ok-whole.ensures.adds.before

pub close_clause-requires-clause-head : goal.close_clause-requires-clause-head
close_clause-requires-clause-head g c =
    let q = c.requires.row in
    let t = c.args.types.now in
    let A = type_of t c.args.expected in
    let S = c.args.store.now in
    let s1 = c.cells_for.new.store in
    let s2 = c.build.new.store in
    let row = c.args.row.now in
    let found = c.args.found.now in
    let built = built_here t S s1 s2 row found c.len-base.result q.0 A q.1 q.2 c.deref.result.now c.in_ok-cells.cells.items c.deref-3.result.now c.deref-4.result.now c.in_ok-whole.whole
    (c.len-base.ensures ∙ row.variables.ok.0) c.deref.ensures.value (c.deref-3.ensures.value ∙ (c.in_ok-heads.ensures ∙ ap (map Cell) c.deref-2.ensures.value)) c.deref-4.ensures.value
    c.in_ok-cells.ensures.adds.before c.in_ok-cells.ensures.cells c.in_ok-whole.ensures.built in
    let whole : IsBuilt t s2 (length row.variables.items) (types_found t found) (variable_from (length S.cells) row.names.items) q.2.sketch c.in-Some.whole = rw c.in-Some.is at built in
    let one = both_one t S row found (length row.variables.items) q.0 A q.1 q.2 (length S.cells) q.3 in
    let head = normal_form (signature t) [] one.reading.head in
    let body = normal_form (signature t) [] one.reading.body in
    let tree = pair_tree t S row found (length row.variables.items) q.0 A q.1 q.2 (length S.cells) q.3 s2 c.in-Some.whole whole in
    let two = c.two_of.ensures t (joiner A q.1) head body tree in
    let both : IsPair t s2 head body (c.in-Some-two_of.head, c.in-Some-two_of.body) = rw c.in-Some-two_of.is at two in
    both.0

pub close_clause-requires-clause-body : goal.close_clause-requires-clause-body
close_clause-requires-clause-body g c =
    let q = c.requires.row in
    let t = c.args.types.now in
    let A = type_of t c.args.expected in
    let S = c.args.store.now in
    let s1 = c.cells_for.new.store in
    let s2 = c.build.new.store in
    let row = c.args.row.now in
    let found = c.args.found.now in
    let built = built_here t S s1 s2 row found c.len-base.result q.0 A q.1 q.2 c.deref.result.now c.in_ok-cells.cells.items c.deref-3.result.now c.deref-4.result.now c.in_ok-whole.whole
    (c.len-base.ensures ∙ row.variables.ok.0) c.deref.ensures.value (c.deref-3.ensures.value ∙ (c.in_ok-heads.ensures ∙ ap (map Cell) c.deref-2.ensures.value)) c.deref-4.ensures.value
    c.in_ok-cells.ensures.adds.before c.in_ok-cells.ensures.cells c.in_ok-whole.ensures.built in
    let whole : IsBuilt t s2 (length row.variables.items) (types_found t found) (variable_from (length S.cells) row.names.items) q.2.sketch c.in-Some.whole = rw c.in-Some.is at built in
    let one = both_one t S row found (length row.variables.items) q.0 A q.1 q.2 (length S.cells) q.3 in
    let head = normal_form (signature t) [] one.reading.head in
    let body = normal_form (signature t) [] one.reading.body in
    let tree = pair_tree t S row found (length row.variables.items) q.0 A q.1 q.2 (length S.cells) q.3 s2 c.in-Some.whole whole in
    let two = c.two_of.ensures t (joiner A q.1) head body tree in
    let both : IsPair t s2 head body (c.in-Some-two_of.head, c.in-Some-two_of.body) = rw c.in-Some-two_of.is at two in
    both.1

pub returns-clause-held : goal.returns-clause-held
returns-clause-held g c = if_ok c.close_clause.result (λ k h. h c.args.types.now) c.close_clause.ensures.held

pub returns-clause-adds : goal.returns-clause-adds
returns-clause-adds g c =
    let S = c.args.store.now in
    let s1 = c.cells_for.new.store in
    let s2 = c.build.new.store in
    let s3 = c.close_clause.new.store in
    record {
      before = extended_on S s2 s3 (extended_on S s1 s2 c.in_ok-cells.ensures.adds.before c.in_ok-whole.ensures.adds.before) c.close_clause.ensures.adds.before;
      typed = c.close_clause.ensures.adds.typed c.args.types.now c.in_ok-whole.ensures.adds.typed;
    }

pub returns-clause-clause : goal.returns-clause-clause
returns-clause-clause g c =
    if_ok c.close_clause.result (λ k h e B m reading.
    let t = c.args.types.now in
    let A = type_of t c.args.expected in
    let S = c.args.store.now in
    let s1 = c.cells_for.new.store in
    let s2 = c.build.new.store in
    let row = c.args.row.now in
    let found = c.args.found.now in
    let built = built_here t S s1 s2 row found c.len-base.result e A B m c.deref.result.now c.in_ok-cells.cells.items c.deref-3.result.now c.deref-4.result.now c.in_ok-whole.whole
    (c.len-base.ensures ∙ row.variables.ok.0) c.deref.ensures.value (c.deref-3.ensures.value ∙ (c.in_ok-heads.ensures ∙ ap (map Cell) c.deref-2.ensures.value)) c.deref-4.ensures.value
    c.in_ok-cells.ensures.adds.before c.in_ok-cells.ensures.cells c.in_ok-whole.ensures.built in
    let whole : IsBuilt t s2 (length row.variables.items) (types_found t found) (variable_from (length S.cells) row.names.items) m.sketch c.in-Some.whole = rw c.in-Some.is at built in
    let one = both_one t S row found (length row.variables.items) e A B m (length S.cells) reading in
    let head = normal_form (signature t) [] one.reading.head in
    let body = normal_form (signature t) [] one.reading.body in
    let tree = pair_tree t S row found (length row.variables.items) e A B m (length S.cells) reading s2 c.in-Some.whole whole in
    let two = c.two_of.ensures t (joiner A B) head body tree in
    let both : IsPair t s2 head body (c.in-Some-two_of.head, c.in-Some-two_of.body) = rw c.in-Some-two_of.is at two in
    let are = are_here t S s1 s2 row found c.len-base.result e A B m c.deref.result.now c.in_ok-cells.cells.items c.deref-3.result.now c.deref-4.result.now c.in_ok-whole.whole
    (c.len-base.ensures ∙ row.variables.ok.0) c.deref.ensures.value (c.deref-3.ensures.value ∙ (c.in_ok-heads.ensures ∙ ap (map Cell) c.deref-2.ensures.value)) c.deref-4.ensures.value
    c.in_ok-cells.ensures.adds.before c.in_ok-cells.ensures.cells c.in_ok-whole.ensures.built in
    kept_so t S row found (length row.variables.items) e A B m S s1 s2 c.in_ok-cells.cells.items (length S.cells) refl reading are c.in_ok-whole.ensures.adds.cells (clause_of t c.close_clause.new.store k) c.closes_body-closes.result
    (tree_of t s2 c.in-Some-two_of.head) (tree_of t s2 c.in-Some-two_of.body) (h t) (c.closes_body-closes.ensures t c.requires.table c.requires.formulas c.requires.expected) both.2 both.3)
    c.close_clause.ensures.clause
