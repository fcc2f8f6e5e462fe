use Rattle.std.specs.List.{All}
use Rattle.std.proofs.Common.{◌++◌, ◌-◌, List, length, codes, Ok, sym, ◌∙◌, ap, subst}
use Rattle.std.proofs.lemmas.List.Elements.{All-weaker}
use Rattle.ab_norm.proofs.Frame.{if_ok}
use Rattle.ab_norm.specs.ab_store.specs.declared.node.CellId.{CellId}
use Rattle.ab_norm.specs.ab_store.specs.declared.node.Equation.{Equation}
use Rattle.ab_norm.specs.ab_store.specs.Trees.{HoldsCell}
use Rattle.ab_norm.specs.ab_store.specs.Reading.{bound_in}
use Rattle.ab_unifiers.specs.Unification.{Solves, unified}
use Rattle.ab_unify.specs.StoreChanges.{IsFree}
use Rattle.ab_unify.specs.Problem.{problem}
use Rattle.ab_unify.specs.declared.answers.Solved.TheVariants.{Unified}
use Rattle.ab_unify.specs.UnifyAnswers.{HasSolution, AreNewCells, AreInAge, AreLeft}
use Rattle.ab_equations.specs.Meanwhile.{unbound_of}
use Rattle.ab_equations.proofs.Outcomes.{at_ok, at_unified}
use Rattle.ab_alternatives.specs.ChoiceMatches.{TellsOpen}
use Rattle.ab_alternatives.proofs.LeftOpen.{from_held, all_there}
use Rattle.ab_alternatives.proofs.Matched.{told}
use Rattle.ab_alternatives.proofs.choice_matches.solve_match.Goals as goal

pub unify-requires-clause-flexible : goal.unify-requires-clause-flexible
unify-requires-clause-flexible g c =
    let S = c.args.store.now in
    let own = c.args.made.now.own.items in
    subst (All (IsFree S)) (sym c.deref-2.ensures.value)
    (All-weaker (HoldsCell S) (IsFree S) (λ d h. (h, ap (λ bs. bound_in bs d) c.requires.unbound)) own (from_held S (length S.cells - length own) own c.requires.own))

pub tell_open-requires : goal.tell_open-requires
tell_open-requires g c =
    let S = c.args.store.now in
    let V = c.unify.new.store in
    let own = c.args.made.now.own.items in
    let more = c.in-Unified.more in
    let answered = c.in_ok-more.was ∙ ap Ok c.in-Unified.is in
    let new : AreNewCells S V more = at_unified c.unify.result more (AreNewCells S V) answered c.unify.ensures.made in
    let in_age : AreInAge more = at_unified c.unify.result more AreInAge answered c.unify.ensures.in_age in
    subst (All (HoldsCell V)) (sym (ap (λ l. l ++ c.as_slice.result.now) c.deref-in-Unified.ensures.value ∙ ap (λ l. own ++ l) c.as_slice.ensures))
    (all_there S V (λ d h. (c.unify.ensures.grows.cells d h).0) (length S.cells - length own) own more c.requires.own new in_age)

pub returns-in-Unified-clause-matched : goal.returns-in-Unified-clause-matched
returns-in-Unified-clause-matched g c =
    let T = c.args.types.now in
    let U = c.unify.new.types in
    let S = c.args.store.now in
    let V = c.unify.new.store in
    let made = c.args.made.now in
    let own = made.own.items in
    let es = c.deref.result.now in
    let ys = c.deref-2.result.now in
    let more = c.in-Unified.more in
    let answered = c.in_ok-more.was ∙ ap Ok c.in-Unified.is in
    let solution : HasSolution (problem T S es ys) = (at_ok c.unify.result (Unified more) _ answered c.unify.ensures.unified).0 tt in
    let cells = solution.0 in
    let answer = solution.1 in
    let solves : Solves (codes "x") (problem T S made.equations.items own) (unified cells answer) =
    subst (λ (l : List Equation). Solves (codes "x") (problem T S l own) (unified cells answer)) c.deref.ensures.value
    (subst (λ (l : List CellId). Solves (codes "x") (problem T S es l) (unified cells answer)) c.deref-2.ensures.value solution.2) in
    let same_cells = at_unified c.unify.result more _ answered c.unify.ensures.cells cells answer solution.2 in
    let left = at_unified c.unify.result more _ answered c.unify.ensures.left cells answer solution.2 in
    let new : AreNewCells S V more = at_unified c.unify.result more (AreNewCells S V) answered c.unify.ensures.made in
    let in_age : AreInAge more = at_unified c.unify.result more AreInAge answered c.unify.ensures.in_age in
    if_ok c.tell_open.result
    (λ m t.
    told T U S V c.unify.ensures.grows own (problem T S made.equations.items own) cells answer solves same_cells
    (subst (λ (l : List CellId). AreLeft S l U V answer) c.deref-2.ensures.value left) c.requires.own more new in_age m
    (subst (λ (l : List CellId). TellsOpen V (unbound_of V l) m) (ap (λ l. l ++ c.as_slice.result.now) c.deref-in-Unified.ensures.value ∙ ap (λ l. own ++ l) c.as_slice.ensures) t))
    c.tell_open.ensures
