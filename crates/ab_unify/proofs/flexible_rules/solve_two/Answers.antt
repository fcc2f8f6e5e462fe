use Rattle.std.proofs.Common.{◌≡◌, ℕ, List, map, Some, None, IfSome, codes, sym, ◌∙◌, ap, subst}
use Rattle.ab_term.specs.Types.{kind}
use Rattle.ab_term.specs.Terms.{Variable, Head, terms_of}
use Rattle.ab_term.specs.Abstraction.{Named}
use Rattle.ab_norm.specs.ab_types.specs.Entries.{signature}
use Rattle.ab_norm.specs.ab_types.specs.Ids.{type_of}
use Rattle.ab_norm.specs.ab_store.specs.Trees.{cell_of, tree_of, head_reading}
use Rattle.ab_norm.specs.ab_store.specs.Reading.{cell_variable}
use Rattle.ab_norm.proofs.Frame.{typed_on}
use Rattle.ab_patterns.specs.EquationReadings.{names_of}
use Rattle.ab_patterns.specs.ab_unifiers.specs.Patterns.{pattern}
use Rattle.ab_patterns.proofs.Bound.{same_cell}
use Rattle.ab_unify.specs.Problem.{cell_read, cells_read, variables_read}
use Rattle.ab_unify.specs.StoreChanges.{AreNames}
use Rattle.ab_unify.proofs.Growth.{grows_on, grows_terms}
use Rattle.ab_unify.proofs.Put.{same_variables}
use Rattle.ab_unify.proofs.Pruned.{same_heads}
use Rattle.ab_patterns.specs.ab_unifiers.specs.Replacements.{Cell}
use Rattle.ab_patterns.specs.ab_unifiers.specs.Unification.{replaced, two_at}
use Rattle.ab_unify.specs.JoinedPatterns.{two_joined}
use Rattle.ab_unify.proofs.Ruled.{tells_none, tells_replaced, given_later, found_named}
use Rattle.ab_unify.proofs.flexible_rules.solve_two.Goals as goal

pub returns-in-None-clause-tells : goal.returns-in-None-clause-tells
returns-in-None-clause-tells g c =
    let types = c.args.types.now in
    let store = c.args.store.now in
    let F = c.args.flexible.now.items in
    let older = c.args.older in
    let younger = c.args.younger in
    let A = type_of types (cell_of store older).ty in
    let B = type_of types (cell_of store younger).ty in
    let ts = terms_of (map (tree_of types store) c.args.args.now) in
    let us = terms_of (map (tree_of types store) c.args.more.now) in
    let read = head_reading types store in
    let middle = c.given_names.new.store in
    let adds1 = c.in_ok-given_names.ensures.adds in
    let y = cell_variable types store older in
    let z = cell_variable types store younger in
    let cells = cells_read types store in
    let ys = variables_read types store F in
    let none : None ≡ pattern A ts = ap (names_of types store) (sym c.in-None.is) ∙ c.in_ok-given_names.ensures.reads in
    tells_none types store middle F c.requires.store c.requires.free adds1 (two_at (codes "x") cells ys y (pattern A ts) z (pattern B us)) (sym (ap (λ o. two_at (codes "x") cells ys y o z (pattern B us)) none))

pub returns-in_err-given_names-in-Some-clause-grows : goal.returns-in_err-given_names-in-Some-clause-grows
returns-in_err-given_names-in-Some-clause-grows g c =
    let types = c.args.types.now in
    let store = c.args.store.now in
    let F = c.args.flexible.now.items in
    let older = c.args.older in
    let younger = c.args.younger in
    let A = type_of types (cell_of store older).ty in
    let B = type_of types (cell_of store younger).ty in
    let ts = terms_of (map (tree_of types store) c.args.args.now) in
    let us = terms_of (map (tree_of types store) c.args.more.now) in
    let read = head_reading types store in
    let middle = c.given_names.new.store in
    let adds1 = c.in_ok-given_names.ensures.adds in
    let y = cell_variable types store older in
    let z = cell_variable types store younger in
    let cells = cells_read types store in
    let ys = variables_read types store F in
    grows_terms types store c.given_names-in-Some.new.store (typed_on types store middle c.given_names-in-Some.new.store adds1 c.in_err-given_names-in-Some.ensures.adds)

pub returns-in-None-2-clause-grows : goal.returns-in-None-2-clause-grows
returns-in-None-2-clause-grows g c =
    let types = c.args.types.now in
    let store = c.args.store.now in
    let F = c.args.flexible.now.items in
    let older = c.args.older in
    let younger = c.args.younger in
    let A = type_of types (cell_of store older).ty in
    let B = type_of types (cell_of store younger).ty in
    let ts = terms_of (map (tree_of types store) c.args.args.now) in
    let us = terms_of (map (tree_of types store) c.args.more.now) in
    let read = head_reading types store in
    let middle = c.given_names.new.store in
    let adds1 = c.in_ok-given_names.ensures.adds in
    let y = cell_variable types store older in
    let z = cell_variable types store younger in
    let cells = cells_read types store in
    let ys = variables_read types store F in
    let names = c.in-Some.names.items in
    let hs = map read names in
    let found1 : Some hs ≡ pattern A ts = ap (names_of types store) (sym c.in-Some.is) ∙ c.in_ok-given_names.ensures.reads in
    let next = c.given_names-in-Some.new.store in
    let adds2 = c.in_ok-given_names-in-Some.ensures.adds in
    let adds = typed_on types store middle next adds1 adds2 in
    let reads2 = given_later types store middle adds1 younger c.args.more.now c.requires.more_held c.in_ok-given_names-in-Some.field-0 c.in_ok-given_names-in-Some.ensures.reads in
    grows_terms types store next adds

pub returns-in-None-2-clause-tells : goal.returns-in-None-2-clause-tells
returns-in-None-2-clause-tells g c =
    let types = c.args.types.now in
    let store = c.args.store.now in
    let F = c.args.flexible.now.items in
    let older = c.args.older in
    let younger = c.args.younger in
    let A = type_of types (cell_of store older).ty in
    let B = type_of types (cell_of store younger).ty in
    let ts = terms_of (map (tree_of types store) c.args.args.now) in
    let us = terms_of (map (tree_of types store) c.args.more.now) in
    let read = head_reading types store in
    let middle = c.given_names.new.store in
    let adds1 = c.in_ok-given_names.ensures.adds in
    let y = cell_variable types store older in
    let z = cell_variable types store younger in
    let cells = cells_read types store in
    let ys = variables_read types store F in
    let names = c.in-Some.names.items in
    let hs = map read names in
    let found1 : Some hs ≡ pattern A ts = ap (names_of types store) (sym c.in-Some.is) ∙ c.in_ok-given_names.ensures.reads in
    let next = c.given_names-in-Some.new.store in
    let adds2 = c.in_ok-given_names-in-Some.ensures.adds in
    let adds = typed_on types store middle next adds1 adds2 in
    let reads2 = given_later types store middle adds1 younger c.args.more.now c.requires.more_held c.in_ok-given_names-in-Some.field-0 c.in_ok-given_names-in-Some.ensures.reads in
    let none : None ≡ pattern B us = ap (names_of types store) (sym c.in-None-2.is) ∙ reads2 in
    tells_none types store next F c.requires.store c.requires.free adds (two_at (codes "x") cells ys y (pattern A ts) z (pattern B us)) (sym (ap (λ o. two_at (codes "x") cells ys y (Some hs) z o) none ∙ ap (λ o. two_at (codes "x") cells ys y o z (pattern B us)) found1))

pub join-requires-clause-fits : goal.join-requires-clause-fits
join-requires-clause-fits g c =
    let types = c.args.types.now in
    let store = c.args.store.now in
    let F = c.args.flexible.now.items in
    let older = c.args.older in
    let younger = c.args.younger in
    let A = type_of types (cell_of store older).ty in
    let B = type_of types (cell_of store younger).ty in
    let ts = terms_of (map (tree_of types store) c.args.args.now) in
    let us = terms_of (map (tree_of types store) c.args.more.now) in
    let read = head_reading types store in
    let middle = c.given_names.new.store in
    let adds1 = c.in_ok-given_names.ensures.adds in
    let y = cell_variable types store older in
    let z = cell_variable types store younger in
    let cells = cells_read types store in
    let ys = variables_read types store F in
    let names = c.in-Some.names.items in
    let hs = map read names in
    let found1 : Some hs ≡ pattern A ts = ap (names_of types store) (sym c.in-Some.is) ∙ c.in_ok-given_names.ensures.reads in
    let next = c.given_names-in-Some.new.store in
    let adds2 = c.in_ok-given_names-in-Some.ensures.adds in
    let adds = typed_on types store middle next adds1 adds2 in
    let reads2 = given_later types store middle adds1 younger c.args.more.now c.requires.more_held c.in_ok-given_names-in-Some.field-0 c.in_ok-given_names-in-Some.ensures.reads in
    let others = c.in-Some-2.others.items in
    let gs = map read others in
    let found2 : Some gs ≡ pattern B us = ap (names_of types store) (sym c.in-Some-2.is) ∙ reads2 in
    let are1 : AreNames types names = subst (λ o. IfSome o (λ l. AreNames types l.items)) c.in-Some.is c.in_ok-given_names.ensures.names in
    let are2 : AreNames types others = subst (λ o. IfSome o (λ l. AreNames types l.items)) c.in-Some-2.is c.in_ok-given_names-in-Some.ensures.names in
    let typed = c.requires.typed in (
      typed.0,
      typed.1,
      subst (λ l. Named (signature types) typed.0 (map (head_reading types next) l) (type_of types (cell_of next older).ty) (kind typed.1)) (sym c.deref.ensures.value) (found_named types store next adds.cells older ts names typed.0 typed.1 found1 typed.2),
      subst (λ l. Named (signature types) typed.0 (map (head_reading types next) l) (type_of types (cell_of next younger).ty) (kind typed.1)) (sym c.deref-in-Some-2.ensures.value) (found_named types store next adds.cells younger us others typed.0 typed.1 found2 typed.3),
    )

pub returns-in_err-join-in-Some-2-clause-grows : goal.returns-in_err-join-in-Some-2-clause-grows
returns-in_err-join-in-Some-2-clause-grows g c =
    let types = c.args.types.now in
    let store = c.args.store.now in
    let F = c.args.flexible.now.items in
    let older = c.args.older in
    let younger = c.args.younger in
    let A = type_of types (cell_of store older).ty in
    let B = type_of types (cell_of store younger).ty in
    let ts = terms_of (map (tree_of types store) c.args.args.now) in
    let us = terms_of (map (tree_of types store) c.args.more.now) in
    let read = head_reading types store in
    let middle = c.given_names.new.store in
    let adds1 = c.in_ok-given_names.ensures.adds in
    let y = cell_variable types store older in
    let z = cell_variable types store younger in
    let cells = cells_read types store in
    let ys = variables_read types store F in
    let names = c.in-Some.names.items in
    let hs = map read names in
    let found1 : Some hs ≡ pattern A ts = ap (names_of types store) (sym c.in-Some.is) ∙ c.in_ok-given_names.ensures.reads in
    let next = c.given_names-in-Some.new.store in
    let adds2 = c.in_ok-given_names-in-Some.ensures.adds in
    let adds = typed_on types store middle next adds1 adds2 in
    let reads2 = given_later types store middle adds1 younger c.args.more.now c.requires.more_held c.in_ok-given_names-in-Some.field-0 c.in_ok-given_names-in-Some.ensures.reads in
    grows_on types types c.join.new.types store next c.join.new.store (grows_terms types store next adds) c.in_err-join-in-Some-2.ensures.grows

pub returns-clause-grows : goal.returns-clause-grows
returns-clause-grows g c =
    let types = c.args.types.now in
    let store = c.args.store.now in
    let F = c.args.flexible.now.items in
    let older = c.args.older in
    let younger = c.args.younger in
    let A = type_of types (cell_of store older).ty in
    let B = type_of types (cell_of store younger).ty in
    let ts = terms_of (map (tree_of types store) c.args.args.now) in
    let us = terms_of (map (tree_of types store) c.args.more.now) in
    let read = head_reading types store in
    let middle = c.given_names.new.store in
    let adds1 = c.in_ok-given_names.ensures.adds in
    let y = cell_variable types store older in
    let z = cell_variable types store younger in
    let cells = cells_read types store in
    let ys = variables_read types store F in
    let names = c.in-Some.names.items in
    let hs = map read names in
    let found1 : Some hs ≡ pattern A ts = ap (names_of types store) (sym c.in-Some.is) ∙ c.in_ok-given_names.ensures.reads in
    let next = c.given_names-in-Some.new.store in
    let adds2 = c.in_ok-given_names-in-Some.ensures.adds in
    let adds = typed_on types store middle next adds1 adds2 in
    let reads2 = given_later types store middle adds1 younger c.args.more.now c.requires.more_held c.in_ok-given_names-in-Some.field-0 c.in_ok-given_names-in-Some.ensures.reads in
    grows_on types types c.join.new.types store next c.join.new.store (grows_terms types store next adds) c.in_ok-join-in-Some-2.ensures.grows

pub returns-clause-tells : goal.returns-clause-tells
returns-clause-tells g c =
    let types = c.args.types.now in
    let store = c.args.store.now in
    let F = c.args.flexible.now.items in
    let older = c.args.older in
    let younger = c.args.younger in
    let A = type_of types (cell_of store older).ty in
    let B = type_of types (cell_of store younger).ty in
    let ts = terms_of (map (tree_of types store) c.args.args.now) in
    let us = terms_of (map (tree_of types store) c.args.more.now) in
    let read = head_reading types store in
    let middle = c.given_names.new.store in
    let adds1 = c.in_ok-given_names.ensures.adds in
    let y = cell_variable types store older in
    let z = cell_variable types store younger in
    let cells = cells_read types store in
    let ys = variables_read types store F in
    let names = c.in-Some.names.items in
    let hs = map read names in
    let found1 : Some hs ≡ pattern A ts = ap (names_of types store) (sym c.in-Some.is) ∙ c.in_ok-given_names.ensures.reads in
    let next = c.given_names-in-Some.new.store in
    let adds2 = c.in_ok-given_names-in-Some.ensures.adds in
    let adds = typed_on types store middle next adds1 adds2 in
    let reads2 = given_later types store middle adds1 younger c.args.more.now c.requires.more_held c.in_ok-given_names-in-Some.field-0 c.in_ok-given_names-in-Some.ensures.reads in
    let others = c.in-Some-2.others.items in
    let gs = map read others in
    let found2 : Some gs ≡ pattern B us = ap (names_of types store) (sym c.in-Some-2.is) ∙ reads2 in
    let are1 : AreNames types names = subst (λ o. IfSome o (λ l. AreNames types l.items)) c.in-Some.is c.in_ok-given_names.ensures.names in
    let are2 : AreNames types others = subst (λ o. IfSome o (λ l. AreNames types l.items)) c.in-Some-2.is c.in_ok-given_names-in-Some.ensures.names in
    let first = map (head_reading types next) c.deref.result.now in
    let second = map (head_reading types next) c.deref-in-Some-2.result.now in
    let joined = λ (l : List (Cell (List ℕ))) (vs : List (Variable ℕ)) (u v : Variable ℕ) (ms ns : List (Head ℕ)). Some (replaced (two_joined (codes "x") l vs u ms v ns)) in
    tells_replaced types store next F c.requires.store c.requires.free adds (two_at (codes "x") cells ys y (pattern A ts) z (pattern B us)) c.join.new.types c.join.new.store c.join.new.flexible.items
    (two_joined (codes "x") (cells_read types next) (variables_read types next F) (cell_variable types next older) first (cell_variable types next younger) second) c.in_ok-join-in-Some-2.ensures.changed
    (sym (ap (λ o. two_at (codes "x") cells ys y (Some hs) z o) found2 ∙ ap (λ o. two_at (codes "x") cells ys y o z (pattern B us)) found1)
    ∙ sym (ap (λ l. joined l (variables_read types next F) (cell_variable types next older) (cell_variable types next younger) first second) (ap (map (cell_read types)) adds.cells)
    ∙ ap (λ l. joined cells l (cell_variable types next older) (cell_variable types next younger) first second) (same_variables types store next adds.cells F)
    ∙ ap (λ v. joined cells ys v (cell_variable types next younger) first second) (same_cell types store next older adds.cells)
    ∙ ap (λ v. joined cells ys y v first second) (same_cell types store next younger adds.cells)
    ∙ ap (λ l. joined cells ys y z l second) (ap (map (head_reading types next)) c.deref.ensures.value ∙ same_heads types store next adds.cells names)
    ∙ ap (λ l. joined cells ys y z hs l) (ap (map (head_reading types next)) c.deref-in-Some-2.ensures.value ∙ same_heads types store next adds.cells others)))
