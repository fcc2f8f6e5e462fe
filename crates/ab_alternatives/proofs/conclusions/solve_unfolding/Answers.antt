use Rattle.std.specs.List.{All}
use Rattle.std.proofs.Common.{◌≡◌, ◌++◌, ◌-◌, map, length, Ok, sym, ◌∙◌, ap, subst}
use Rattle.std.proofs.lemmas.List.Elements.{All-weaker}
use Rattle.ab_norm.specs.ab_store.specs.Trees.{HoldsCell}
use Rattle.ab_norm.specs.ab_store.specs.Reading.{bound_in, reading}
use Rattle.ab_unify.specs.StoreChanges.{IsFree}
use Rattle.ab_unify.specs.Problem.{problem}
use Rattle.ab_unify.proofs.Growth.{grows_on, grows_terms}
use Rattle.ab_unify.specs.declared.answers.Solved.TheVariants.{Unified}
use Rattle.ab_unify.specs.UnifyAnswers.{HasSolution, AreNewCells, AreInAge}
use Rattle.ab_instances.specs.ListReadings.{names_read}
use Rattle.ab_instances.proofs.Made.{names_held}
use Rattle.ab_equations.specs.Meanwhile.{unbound_of}
use Rattle.ab_equations.proofs.Outcomes.{at_ok, at_unified}
use Rattle.ab_alternatives.specs.RightAlternatives.{closed_by, Becomes}
use Rattle.ab_logic.specs.Worlds.{variable_at}
use Rattle.ab_alternatives.proofs.LeftOpen.{from_held, all_there}
use Rattle.ab_alternatives.proofs.Concluded.{becomes}
use Rattle.ab_alternatives.proofs.conclusions.solve_unfolding.Goals as goal

pub unify-requires-clause-flexible : goal.unify-requires-clause-flexible
unify-requires-clause-flexible g c =
    let S = c.args.store.now in
    let own = c.args.made.now.own.items in
    subst (All (IsFree S)) (sym c.deref-2.ensures.value)
    (All-weaker (HoldsCell S) (IsFree S) (λ d h. (h, ap (λ bs. bound_in bs d) c.requires.unbound)) own (from_held S (length S.cells - length own) own c.requires.own))

pub conclude-requires-clause-cells : goal.conclude-requires-clause-cells
conclude-requires-clause-cells g c =
    let S = c.args.store.now in
    let V = c.unify.new.store in
    let own = c.args.made.now.own.items in
    let more = c.in-Unified.more in
    let answered = c.in_ok-more.was ∙ ap Ok c.in-Unified.is in
    let new : AreNewCells S V more = at_unified c.unify.result more (AreNewCells S V) answered c.unify.ensures.made in
    let in_age : AreInAge more = at_unified c.unify.result more AreInAge answered c.unify.ensures.in_age in
    subst (All (HoldsCell V)) (sym (c.deref-in-Unified-2.ensures.value ∙ c.in_ok-cells-in-Unified.ensures ∙ ap (λ l. l ++ c.as_slice.result.now) c.deref-in-Unified.ensures.value ∙ ap (λ l. own ++ l) c.as_slice.ensures))
    (all_there S V (λ d h. (c.unify.ensures.grows.cells d h).0) (length S.cells - length own) own more c.requires.own new in_age)

pub conclude-requires-clause-names : goal.conclude-requires-clause-names
conclude-requires-clause-names g c = names_held c.args.types.now c.unify.new.types c.unify.ensures.grows.table c.args.names.now c.requires.names

pub returns-in_err-formula-in-Unified-clause-grows :
    goal.returns-in_err-formula-in-Unified-clause-grows
returns-in_err-formula-in-Unified-clause-grows g c =
    let U = c.unify.new.types in
    grows_on c.args.types.now U U c.args.store.now c.unify.new.store c.conclude.new.store c.unify.ensures.grows (grows_terms U c.unify.new.store c.conclude.new.store c.conclude.ensures.adds)

pub returns-in_ok-formula-in-Unified-clause-grows :
    goal.returns-in_ok-formula-in-Unified-clause-grows
returns-in_ok-formula-in-Unified-clause-grows g c =
    let U = c.unify.new.types in
    grows_on c.args.types.now U U c.args.store.now c.unify.new.store c.conclude.new.store c.unify.ensures.grows (grows_terms U c.unify.new.store c.conclude.new.store c.conclude.ensures.adds)

pub returns-in_ok-formula-in-Unified-clause-formula :
    goal.returns-in_ok-formula-in-Unified-clause-formula
returns-in_ok-formula-in-Unified-clause-formula g c = λ r is.
    let T = c.args.types.now in
    let U = c.unify.new.types in
    let S = c.args.store.now in
    let V = c.unify.new.store in
    let X = c.conclude.new.store in
    let made = c.args.made.now in
    let own = made.own.items in
    let xs = c.args.hints.now in
    let names = c.args.names.now in
    let es = c.deref.result.now in
    let ys = c.deref-2.result.now in
    let more = c.in-Unified.more in
    let answered = c.in_ok-more.was ∙ ap Ok c.in-Unified.is in
    let solution : HasSolution (problem T S es ys) = (at_ok c.unify.result (Unified more) _ answered c.unify.ensures.unified).0 tt in
    let cells = solution.0 in
    let answer = solution.1 in
    let solves = solution.2 in
    let reads = at_unified c.unify.result more _ answered c.unify.ensures.reads cells answer solves in
    let same_cells = at_unified c.unify.result more _ answered c.unify.ensures.cells cells answer solves in
    let left = at_unified c.unify.result more _ answered c.unify.ensures.left cells answer solves in
    let new : AreNewCells S V more = at_unified c.unify.result more (AreNewCells S V) answered c.unify.ensures.made in
    let in_age : AreInAge more = at_unified c.unify.result more AreInAge answered c.unify.ensures.in_age in
    let formula = c.in_ok-formula-in-Unified.formula in
    let one : formula ≡ r = cc in
    subst (λ q. Becomes T S made xs (names_read T names) U X q) one
    (becomes T U S V X c.unify.ensures.grows c.requires.unbound made xs names c.requires.names es ys c.deref.ensures.value c.deref-2.ensures.value cells answer solves reads same_cells left c.requires.own c.requires.body
    more new in_age formula
    (c.in_ok-formula-in-Unified.ensures.tree
    ∙ ap (λ l. closed_by (map (variable_at U V) (unbound_of V l)) xs (names_read U names) (reading U V made.body))
    (c.deref-in-Unified-2.ensures.value ∙ c.in_ok-cells-in-Unified.ensures ∙ ap (λ l. l ++ c.as_slice.result.now) c.deref-in-Unified.ensures.value ∙ ap (λ l. own ++ l) c.as_slice.ensures)))
