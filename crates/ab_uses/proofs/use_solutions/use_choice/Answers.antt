use Rattle.std.specs.Prelude.{is_some, ◌≤◌}
use Rattle.std.specs.List.{All}
use Rattle.std.proofs.Common.{◌≡◌, true, List, map, length, Ok, arith, ◌∙◌, ap, sym, subst}
use Rattle.std.proofs.lemmas.List.Elements.{All-append}
use Rattle.ab_norm.specs.Nominals.{HoldsNominal}
use Rattle.ab_norm.proofs.Frame.{if_ok}
use Rattle.ab_unify.specs.Problem.{cells_read}
use Rattle.ab_unify.proofs.Growth.{grows_on, grows_terms}
use Rattle.ab_alternatives.specs.ab_instances.proofs.Made.{names_held}
use Rattle.ab_term.specs.Terms.{Nominal}
use Rattle.ab_norm.specs.ab_store.specs.declared.node.TermId.{TermId}
use Rattle.ab_norm.specs.ab_store.specs.declared.node.Equation.{Equation}
use Rattle.ab_norm.specs.ab_store.specs.Trees.{tree_of}
use Rattle.ab_unify.specs.UnifyAnswers.{IsTypedPair}
use Rattle.ab_alternatives.specs.ab_instances.specs.ListReadings.{names_read}
use Rattle.ab_uses.specs.UseCells.{parts_read, IsMade}
use Rattle.ab_uses.specs.UseSolutions.{missing, all_equations, aim_in}
use Rattle.ab_uses.specs.ChoiceAnswers.{IsSolvedSo}
use Rattle.ab_theory.specs.Uses.{used, Aim}
use Rattle.ab_consequences.specs.UsesFollow.{AreNone}
use Rattle.ab_uses.proofs.Equations.{trees_count}
use Rattle.ab_uses.proofs.UseMade.{comes_out, enough_made, one_at_most, own_from, same_aim, one_grown, formulas_grown}
use Rattle.ab_uses.proofs.Moved.{stages_on}
use Rattle.ab_uses.proofs.Known.{all_within}
use Rattle.ab_theory.specs.Uses.{given_constants}
use Rattle.ab_formulas.specs.Sequents.{goal_names}
use Rattle.ab_consequences.specs.UseStages.{stages_of}
use Rattle.ab_uses.specs.UseCells.{stages_read}
use Rattle.ab_uses.proofs.use_solutions.use_choice.Goals as goal

pub equate-requires-clause-formula : goal.equate-requires-clause-formula
equate-requires-clause-formula g c = (c.make_use.ensures.made c.in-Some.made (c.in_ok-made.was ∙ ap Ok c.in-Some.is)).formula

pub returns-in_err-equations-clause-grows : goal.returns-in_err-equations-clause-grows
returns-in_err-equations-clause-grows g c =
    grows_on c.args.types.now c.make_use.new.types c.make_use.new.types c.args.store.now c.make_use.new.store c.equate.new.store c.make_use.ensures.grows (grows_terms c.make_use.new.types c.make_use.new.store c.equate.new.store c.equate.ensures.adds)

pub equate-requires-clause-many : goal.equate-requires-clause-many
equate-requires-clause-many g c =
    let T = c.args.types.now in
    let S = c.args.store.now in
    let names = names_read T c.args.names.now in
    let ps = parts_read T S c.args.parts.now in
    let m = c.in-Some.made in
    let made = c.make_use.ensures.made m (c.in_ok-made.was ∙ ap Ok c.in-Some.is) in
    let count = enough_made c.make_use.new.types c.make_use.new.store (cells_read T S) (names_read T c.args.held.now) (length (cells_read T S)) ps names (tree_of T S c.args.formula) m c.requires.fit made in
    let given = c.requires.enough in
    let listed = ap length c.deref.ensures.value in
    omega (arith, count, given, listed)

pub solve_made-requires-clause-many : goal.solve_made-requires-clause-many
solve_made-requires-clause-many g c =
    let T = c.args.types.now in
    let S = c.args.store.now in
    let names = names_read T c.args.names.now in
    let ps = parts_read T S c.args.parts.now in
    let m = c.in-Some.made in
    let made = c.make_use.ensures.made m (c.in_ok-made.was ∙ ap Ok c.in-Some.is) in
    let count = enough_made c.make_use.new.types c.make_use.new.store (cells_read T S) (names_read T c.args.held.now) (length (cells_read T S)) ps names (tree_of T S c.args.formula) m c.requires.fit made in
    let given = c.requires.enough in
    omega (arith, count, given)

pub returns-in_err-all-clause-grows : goal.returns-in_err-all-clause-grows
returns-in_err-all-clause-grows g c =
    grows_on c.args.types.now c.make_use.new.types c.make_use.new.types c.args.store.now c.make_use.new.store c.equate.new.store c.make_use.ensures.grows (grows_terms c.make_use.new.types c.make_use.new.store c.equate.new.store c.equate.ensures.adds)

pub solve_made-requires-clause-equations : goal.solve_made-requires-clause-equations
solve_made-requires-clause-equations g c =
    subst (All (IsTypedPair c.make_use.new.types c.equate.new.store)) (sym c.deref-2.ensures.value) c.in_ok-equations.ensures.typed

pub solve_made-requires-clause-own : goal.solve_made-requires-clause-own
solve_made-requires-clause-own g c =
    own_from c.make_use.new.types c.make_use.new.store c.equate.new.store (cells_read c.args.types.now c.args.store.now) _ c.in-Some.made
    (c.make_use.ensures.made c.in-Some.made (c.in_ok-made.was ∙ ap Ok c.in-Some.is)) c.equate.ensures.adds

pub solve_made-requires-clause-antecedents : goal.solve_made-requires-clause-antecedents
solve_made-requires-clause-antecedents g c =
    let made = c.make_use.ensures.made c.in-Some.made (c.in_ok-made.was ∙ ap Ok c.in-Some.is) in
    formulas_grown c.make_use.new.types c.make_use.new.types c.make_use.new.store c.equate.new.store (grows_terms c.make_use.new.types c.make_use.new.store c.equate.new.store c.equate.ensures.adds) c.in-Some.made.antecedents.items made.formulas

pub solve_made-requires-clause-formula : goal.solve_made-requires-clause-formula
solve_made-requires-clause-formula g c =
    let made = c.make_use.ensures.made c.in-Some.made (c.in_ok-made.was ∙ ap Ok c.in-Some.is) in
    one_grown c.make_use.new.types c.make_use.new.types c.make_use.new.store c.equate.new.store (grows_terms c.make_use.new.types c.make_use.new.store c.equate.new.store c.equate.ensures.adds) c.in-Some.made.result made.formula

pub solve_made-requires-clause-stages : goal.solve_made-requires-clause-stages
solve_made-requires-clause-stages g c =
    let made = c.make_use.ensures.made c.in-Some.made (c.in_ok-made.was ∙ ap Ok c.in-Some.is) in
    stages_on c.make_use.new.types c.make_use.new.types c.make_use.new.store c.equate.new.store (grows_terms c.make_use.new.types c.make_use.new.store c.equate.new.store c.equate.ensures.adds) c.in-Some.made.stages.items made.stages

pub solve_made-requires-clause-known : goal.solve_made-requires-clause-known
solve_made-requires-clause-known g c =
    let T = c.args.types.now in
    let U = c.make_use.new.types in
    subst (All (HoldsNominal U)) (sym c.in_ok-all.ensures)
    (names_held T U c.make_use.ensures.grows.table _ (All-append (HoldsNominal T) c.args.known.now c.args.names.now c.requires.known c.requires.names))

pub returns-clause-grows : goal.returns-clause-grows
returns-clause-grows g c =
    grows_on c.args.types.now c.make_use.new.types c.solve_made.new.types c.args.store.now c.equate.new.store c.solve_made.new.store
    (grows_on c.args.types.now c.make_use.new.types c.make_use.new.types c.args.store.now c.make_use.new.store c.equate.new.store c.make_use.ensures.grows (grows_terms c.make_use.new.types c.make_use.new.store c.equate.new.store c.equate.ensures.adds))
    c.solve_made.ensures.grows

pub returns-clause-comes_out : goal.returns-clause-comes_out
returns-clause-comes_out g c =
    let T = c.args.types.now in
    let S = c.args.store.now in
    let U = c.make_use.new.types in
    let V = c.make_use.new.store in
    let W = c.equate.new.store in
    let aim = c.args.aim.now in
    let m = c.in-Some.made in
    let ps = parts_read T S c.args.parts.now in
    let F = tree_of T S c.args.formula in
    let names = names_read T c.args.names.now in
    let es = c.in_ok-equations.equations.items in
    let made = c.make_use.ensures.made m (c.in_ok-made.was ∙ ap Ok c.in-Some.is) in
    let staged = c.make_use.ensures.stages m (c.in_ok-made.was ∙ ap Ok c.in-Some.is) in
    let known = names_read U c.in_ok-all.all.items in
    let count = enough_made U V (cells_read T S) (names_read T c.args.held.now) (length (cells_read T S)) ps names F m c.requires.fit made in
    let given = c.requires.enough in
    let aimed = same_aim T U S V c.make_use.ensures.grows aim c.requires.hypotheses c.requires.conclusion in
    let few : is_some aim.conclusion ≡ true → length es ≤ 1 =
    λ e.
    let one = one_at_most (aim_in U V aim) (map (tree_of U V) c.deref.result.now) (tree_of U V m.result) (subst (λ (x : Aim). AreNone x.hypotheses) (sym aimed) (c.requires.alone e)) in
    let read = ap length c.in_ok-equations.ensures.reads in
    let kept = trees_count U W 0 es in
    omega (arith, one, read, kept) in
    if_ok c.solve_made.result
    (λ o t s e.
    comes_out T U S V W (record { goal = s; parts = ps; aim = aim_in T S aim; formula = F }) names aim m es
    (subst (λ (l : List Nominal). IsMade U V (cells_read T S) (used l (length (cells_read T S)) ps names F) m) e made)
    c.equate.ensures.adds
    (c.equate.ensures.adds.before.bindings ∙ c.make_use.ensures.bindings ∙ c.requires.unbound)
    (c.in_ok-equations.ensures.reads ∙ ap (λ (l : List TermId). all_equations (aim_in U V aim) (map (tree_of U V) l) (tree_of U V m.result)) c.deref.ensures.value)
    (same_aim T U S V c.make_use.ensures.grows aim c.requires.hypotheses c.requires.conclusion)
    few
    (omega (arith, count, given))
    (subst (λ (l : List Nominal). stages_read U V m.stages.items ≡ stages_of l (length (cells_read T S)) ps names) e staged)
    known
    (all_within T U c.make_use.ensures.grows.table c.args.known.now c.args.names.now c.in_ok-all.all.items c.in_ok-all.ensures c.requires.known c.requires.names (goal_names s) (given_constants ps) (names_read T c.args.held.now) e c.requires.all_known)
    c.solve_made.new.types c.solve_made.new.store o
    (subst (λ (l : List Equation). IsSolvedSo U W l m.cells.items (missing aim.hypotheses.items m.antecedents.items) m.result m.stages.items known c.solve_made.new.types c.solve_made.new.store o) c.deref-2.ensures.value t))
    c.solve_made.ensures.solved
