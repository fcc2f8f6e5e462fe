use Rattle.std.proofs.Common.{◌≡◌, ◌≢◌, ℕ, map, true, false, not, sym, ◌∙◌, ap, subst}
use Rattle.std.proofs.lemmas.Bool.{false≢true}
use Rattle.ab_term.specs.Types.{kind}
use Rattle.ab_term.specs.Terms.{Variable, variable, spine, terms_of}
use Rattle.ab_term.specs.Typing.{TakeType}
use Rattle.ab_term.proofs.Lists.{Contains-map}
use Rattle.ab_norm.specs.ab_types.specs.Entries.{signature}
use Rattle.ab_norm.specs.ab_types.specs.Ids.{type_of}
use Rattle.ab_norm.specs.ab_store.specs.Trees.{cell_of, tree_of}
use Rattle.ab_norm.specs.ab_store.specs.Reading.{cell_variable}
use Rattle.ab_norm.proofs.Frame.{if_ok}
use Rattle.ab_patterns.specs.ab_unifiers.specs.Unification.{is_older}
use Rattle.ab_patterns.specs.ab_unifiers.proofs.Agreeing.{contains_holds}
use Rattle.ab_unify.specs.Problem.{cells_read, variables_read}
use Rattle.ab_unify.specs.Outcome.{Tells, last_rules}
use Rattle.ab_unify.proofs.Listed.{same_cell}
use Rattle.ab_unify.proofs.Chosen.{one_on_both, older_on_left, older_on_right, one_is_older}
use Rattle.ab_unify.proofs.rule_choices.solve_cells.Goals as goal

pub solve_one-requires-clause-typed : goal.solve_one-requires-clause-typed
solve_one-requires-clause-typed g c =
    let types = c.args.types.now in
    let store = c.args.store.now in
    let F = c.args.flexible.now.items in
    let first = c.args.first in
    let second = c.args.second in
    let cells = cells_read types store in
    let ys = variables_read types store F in
    let y = cell_variable types store first in
    let z = cell_variable types store second in
    let ts = terms_of (map (tree_of types store) c.args.args.now) in
    let us = terms_of (map (tree_of types store) c.args.more.now) in
    let held_y = contains_holds ys y (Contains-map (cell_variable types store) F first c.requires.first_listed) in
    let held_z = contains_holds ys z (Contains-map (cell_variable types store) F second c.requires.second_listed) in
    let same : first ≡ second = c.is_same_cell.ensures.0 c.if-is_same_cell.true in
    let typed = c.requires.typed in
    (typed.0, typed.1, typed.2, subst (λ d. TakeType (signature types) typed.0 us (type_of types (cell_of store d).ty) (kind typed.1)) (sym same) typed.3)

pub returns-then-is_same_cell-clause-tells : goal.returns-then-is_same_cell-clause-tells
returns-then-is_same_cell-clause-tells g c =
    let types = c.args.types.now in
    let store = c.args.store.now in
    let F = c.args.flexible.now.items in
    let first = c.args.first in
    let second = c.args.second in
    let cells = cells_read types store in
    let ys = variables_read types store F in
    let y = cell_variable types store first in
    let z = cell_variable types store second in
    let ts = terms_of (map (tree_of types store) c.args.args.now) in
    let us = terms_of (map (tree_of types store) c.args.more.now) in
    let held_y = contains_holds ys y (Contains-map (cell_variable types store) F first c.requires.first_listed) in
    let held_z = contains_holds ys z (Contains-map (cell_variable types store) F second c.requires.second_listed) in
    let same : first ≡ second = c.is_same_cell.ensures.0 c.if-is_same_cell.true in
    if_ok c.solve_one.result (λ r done.
    subst (λ d. Tells types store F c.solve_one.new.types c.solve_one.new.store c.solve_one.new.flexible.items r (last_rules cells ys (spine (variable y) ts) (spine (variable (cell_variable types store d)) us))) same
    (subst (λ o. Tells types store F c.solve_one.new.types c.solve_one.new.store c.solve_one.new.flexible.items r o) (sym (one_on_both cells ys y ts us held_y)) done)) c.solve_one.ensures.tells

pub returns-then-is_older-clause-tells : goal.returns-then-is_older-clause-tells
returns-then-is_older-clause-tells g c =
    let types = c.args.types.now in
    let store = c.args.store.now in
    let F = c.args.flexible.now.items in
    let first = c.args.first in
    let second = c.args.second in
    let cells = cells_read types store in
    let ys = variables_read types store F in
    let y = cell_variable types store first in
    let z = cell_variable types store second in
    let ts = terms_of (map (tree_of types store) c.args.args.now) in
    let us = terms_of (map (tree_of types store) c.args.more.now) in
    let held_y = contains_holds ys y (Contains-map (cell_variable types store) F first c.requires.first_listed) in
    let held_z = contains_holds ys z (Contains-map (cell_variable types store) F second c.requires.second_listed) in
    let apart : first ≢ second = λ e. false≢true (sym c.if-is_same_cell.false ∙ c.is_same_cell.ensures.1 e) in
    let differ : y ≢ z = λ e. apart (same_cell first second (ap (λ (v : Variable ℕ). v.name) e)) in
    let older : is_older ys y z ≡ true = sym (c.is_older.ensures types store) ∙ c.if-is_older.true in
    let younger : is_older ys z y ≡ not true = one_is_older ys y z held_y held_z differ ∙ ap not older in
    if_ok c.solve_two.result (λ r done.
    subst (λ o. Tells types store F c.solve_two.new.types c.solve_two.new.store c.solve_two.new.flexible.items r o) (sym (older_on_left cells ys y z ts us differ held_y held_z older younger)) done) c.solve_two.ensures.tells

pub returns-clause-tells : goal.returns-clause-tells
returns-clause-tells g c =
    let types = c.args.types.now in
    let store = c.args.store.now in
    let F = c.args.flexible.now.items in
    let first = c.args.first in
    let second = c.args.second in
    let cells = cells_read types store in
    let ys = variables_read types store F in
    let y = cell_variable types store first in
    let z = cell_variable types store second in
    let ts = terms_of (map (tree_of types store) c.args.args.now) in
    let us = terms_of (map (tree_of types store) c.args.more.now) in
    let held_y = contains_holds ys y (Contains-map (cell_variable types store) F first c.requires.first_listed) in
    let held_z = contains_holds ys z (Contains-map (cell_variable types store) F second c.requires.second_listed) in
    let apart : first ≢ second = λ e. false≢true (sym c.if-is_same_cell.false ∙ c.is_same_cell.ensures.1 e) in
    let differ : y ≢ z = λ e. apart (same_cell first second (ap (λ (v : Variable ℕ). v.name) e)) in
    let older : is_older ys y z ≡ false = sym (c.is_older.ensures types store) ∙ c.if-is_older.false in
    let younger : is_older ys z y ≡ not false = one_is_older ys y z held_y held_z differ ∙ ap not older in
    if_ok c.solve_two-2.result (λ r done.
    subst (λ o. Tells types store F c.solve_two-2.new.types c.solve_two-2.new.store c.solve_two-2.new.flexible.items r o) (sym (older_on_right cells ys y z ts us differ held_y held_z older younger)) done) c.solve_two-2.ensures.tells
