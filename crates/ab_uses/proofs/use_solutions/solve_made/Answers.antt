use Rattle.std.specs.List.{All}
use Rattle.std.proofs.Common.{◌++◌, ◌-◌, List, [], length, codes, Ok, sym, ◌∙◌, ap, subst}
use Rattle.std.proofs.lemmas.List.Elements.{All-weaker}
use Rattle.ab_term.specs.Types.{prop}
use Rattle.ab_norm.proofs.Frame.{if_ok}
use Rattle.ab_norm.specs.ab_store.specs.declared.node.TermId.{TermId}
use Rattle.ab_norm.specs.ab_store.specs.declared.node.CellId.{CellId}
use Rattle.ab_norm.specs.ab_store.specs.Trees.{HoldsCell}
use Rattle.ab_norm.specs.ab_store.specs.Reading.{bound_in}
use Rattle.ab_unifiers.specs.Unification.{Solves, unified}
use Rattle.ab_unify.specs.StoreChanges.{IsFree}
use Rattle.ab_unify.specs.Problem.{problem}
use Rattle.ab_unify.proofs.Growth.{grows_on, grown_term}
use Rattle.ab_unify.specs.declared.answers.Solved.TheVariants.{Unified}
use Rattle.ab_unify.specs.UnifyAnswers.{HasSolution, AreNewCells, AreInAge, AreLeft}
use Rattle.ab_alternatives.specs.ab_equations.proofs.Outcomes.{at_ok, at_unified}
use Rattle.ab_alternatives.specs.ab_instances.proofs.Made.{names_held, names_stay}
use Rattle.ab_alternatives.proofs.LeftOpen.{from_held, all_there}
use Rattle.ab_uses.specs.UseSolutions.{missing, IsFormulaTerm}
use Rattle.ab_uses.specs.ChoiceAnswers.{IsLeft}
use Rattle.ab_uses.proofs.Concluding.{all_missing}
use Rattle.ab_alternatives.specs.ab_equations.proofs.Answering.{behind_age}
use Rattle.ab_alternatives.specs.ab_instances.specs.ListReadings.{names_read}
use Rattle.ab_term.specs.Terms.{Nominal}
use Rattle.ab_uses.proofs.Moved.{stages_on}
use Rattle.ab_uses.proofs.Solved.{solved_so}
use Rattle.ab_uses.proofs.use_solutions.solve_made.Goals as goal

pub unify-requires-clause-flexible : goal.unify-requires-clause-flexible
unify-requires-clause-flexible g c =
    let S = c.args.store.now in
    let own = c.args.made.now.cells.items in
    subst (All (IsFree S)) (sym c.deref.ensures.value)
    (All-weaker (HoldsCell S) (IsFree S) (λ d h. (h, ap (λ bs. bound_in bs d) c.requires.unbound)) own (from_held S (length S.cells - length own) own c.requires.own))

pub conclude-requires-clause-stages : goal.conclude-requires-clause-stages
conclude-requires-clause-stages g c = stages_on c.args.types.now c.unify.new.types c.args.store.now c.unify.new.store c.unify.ensures.grows c.args.made.now.stages.items c.requires.stages

pub conclude-requires-clause-known : goal.conclude-requires-clause-known
conclude-requires-clause-known g c = names_held c.args.types.now c.unify.new.types c.unify.ensures.grows.table c.args.known.now.items c.requires.known

pub conclude-requires-clause-awaited : goal.conclude-requires-clause-awaited
conclude-requires-clause-awaited g c =
    let T = c.args.types.now in
    let U = c.unify.new.types in
    let S = c.args.store.now in
    let V = c.unify.new.store in
    let hs = c.args.aim.now.hypotheses.items in
    let As = c.args.made.now.antecedents.items in
    let awaited_are =
    c.deref-in-Unified-4.ensures.value
    ∙ c.in_ok-awaited-in-Unified.ensures
    ∙ ap (λ l. missing l c.deref-in-Unified-3.result.now) c.deref-in-Unified-2.ensures.value
    ∙ ap (missing hs) c.deref-in-Unified-3.ensures.value in
    subst (All (IsFormulaTerm U V)) (sym awaited_are)
    (all_missing (IsFormulaTerm U V) hs As (All-weaker (IsFormulaTerm T S) (IsFormulaTerm U V) (λ t is. grown_term T U S V c.unify.ensures.grows [] t prop is) As c.requires.antecedents))

pub conclude-requires-clause-cells : goal.conclude-requires-clause-cells
conclude-requires-clause-cells g c =
    let S = c.args.store.now in
    let V = c.unify.new.store in
    let own = c.args.made.now.cells.items in
    let more = c.in-Unified.more in
    let answered = c.in_ok-more.was ∙ ap Ok c.in-Unified.is in
    let new : AreNewCells S V more = at_unified c.unify.result more (AreNewCells S V) answered c.unify.ensures.made in
    let in_age : AreInAge more = at_unified c.unify.result more AreInAge answered c.unify.ensures.in_age in
    let cells_are =
    c.deref-in-Unified-5.ensures.value
    ∙ c.in_ok-cells-in-Unified.ensures
    ∙ ap (λ l. l ++ c.as_slice.result.now) c.deref-in-Unified.ensures.value
    ∙ ap (λ l. own ++ l) c.as_slice.ensures in
    subst (All (HoldsCell V)) (sym cells_are) (all_there S V (λ d h. (c.unify.ensures.grows.cells d h).0) (length S.cells - length own) own more c.requires.own new in_age)

pub conclude-requires-clause-in_age : goal.conclude-requires-clause-in_age
conclude-requires-clause-in_age g c =
    let S = c.args.store.now in
    let V = c.unify.new.store in
    let own = c.args.made.now.cells.items in
    let more = c.in-Unified.more in
    let answered = c.in_ok-more.was ∙ ap Ok c.in-Unified.is in
    let new : AreNewCells S V more = at_unified c.unify.result more (AreNewCells S V) answered c.unify.ensures.made in
    let in_age : AreInAge more = at_unified c.unify.result more AreInAge answered c.unify.ensures.in_age in
    let cells_are =
    c.deref-in-Unified-5.ensures.value
    ∙ c.in_ok-cells-in-Unified.ensures
    ∙ ap (λ l. l ++ c.as_slice.result.now) c.deref-in-Unified.ensures.value
    ∙ ap (λ l. own ++ l) c.as_slice.ensures in
    subst AreInAge (sym cells_are) (behind_age S V (λ d h. (c.unify.ensures.grows.cells d h).0) (length S.cells - length own) own more c.requires.own new in_age)

pub returns-in_ok-awaited-in-Unified-clause-solved : goal.returns-in_ok-awaited-in-Unified-clause-solved
returns-in_ok-awaited-in-Unified-clause-solved g c =
    let T = c.args.types.now in
    let U = c.unify.new.types in
    let S = c.args.store.now in
    let V = c.unify.new.store in
    let W = c.conclude.new.store in
    let made = c.args.made.now in
    let own = made.cells.items in
    let es = c.args.equations.now in
    let ys = c.deref.result.now in
    let more = c.in-Unified.more in
    let hs = c.args.aim.now.hypotheses.items in
    let As = made.antecedents.items in
    let stages = made.stages.items in
    let known = names_read T c.args.known.now.items in
    let answered = c.in_ok-more.was ∙ ap Ok c.in-Unified.is in
    let solution : HasSolution (problem T S es ys) = (at_ok c.unify.result (Unified more) _ answered c.unify.ensures.unified).0 tt in
    let cells = solution.0 in
    let answer = solution.1 in
    let solves : Solves (codes "x") (problem T S es own) (unified cells answer) =
    subst (λ (l : List CellId). Solves (codes "x") (problem T S es l) (unified cells answer)) c.deref.ensures.value solution.2 in
    let reads = at_unified c.unify.result more _ answered c.unify.ensures.reads cells answer solution.2 in
    let same_cells = at_unified c.unify.result more _ answered c.unify.ensures.cells cells answer solution.2 in
    let left = at_unified c.unify.result more _ answered c.unify.ensures.left cells answer solution.2 in
    let new : AreNewCells S V more = at_unified c.unify.result more (AreNewCells S V) answered c.unify.ensures.made in
    let in_age : AreInAge more = at_unified c.unify.result more AreInAge answered c.unify.ensures.in_age in
    let cells_are =
    c.deref-in-Unified-5.ensures.value
    ∙ c.in_ok-cells-in-Unified.ensures
    ∙ ap (λ l. l ++ c.as_slice.result.now) c.deref-in-Unified.ensures.value
    ∙ ap (λ l. own ++ l) c.as_slice.ensures in
    let awaited_are =
    c.deref-in-Unified-4.ensures.value
    ∙ c.in_ok-awaited-in-Unified.ensures
    ∙ ap (λ l. missing l c.deref-in-Unified-3.result.now) c.deref-in-Unified-2.ensures.value
    ∙ ap (missing hs) c.deref-in-Unified-3.ensures.value in
    if_ok c.conclude.result
    (λ o l.
    solved_so T U S V c.unify.ensures.grows c.requires.unbound es own (missing hs As) made.result cells answer solves reads same_cells
    (subst (λ (k : List CellId). AreLeft S k U V answer) c.deref.ensures.value left) c.requires.own
    (all_missing (IsFormulaTerm T S) hs As c.requires.antecedents) c.requires.formula more new in_age stages c.requires.stages known W o
    (subst (λ (k : List CellId). IsLeft U V (missing hs As) made.result stages known k W o) cells_are
    (subst (λ (k : List TermId). IsLeft U V k made.result stages known c.deref-in-Unified-5.result.now W o) awaited_are
    (subst (λ (k : List Nominal). IsLeft U V c.deref-in-Unified-4.result.now made.result stages k c.deref-in-Unified-5.result.now W o) (names_stay T U c.unify.ensures.grows.table c.args.known.now.items c.requires.known) l))))
    c.conclude.ensures.left

pub returns-in_ok-awaited-in-Unified-clause-grows : goal.returns-in_ok-awaited-in-Unified-clause-grows
returns-in_ok-awaited-in-Unified-clause-grows g c =
    grows_on c.args.types.now c.unify.new.types c.unify.new.types c.args.store.now c.unify.new.store c.conclude.new.store c.unify.ensures.grows c.conclude.ensures.grows
