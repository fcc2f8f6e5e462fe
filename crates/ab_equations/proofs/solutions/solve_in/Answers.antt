use Rattle.std.proofs.Common.{◌≡◌, List, [], ◌∷◌, Ok, ap, subst, ◌∙◌}
use Rattle.ab_norm.specs.ab_store.specs.declared.node.CellId.{CellId}
use Rattle.ab_norm.specs.ab_store.specs.declared.node.Equation.{Equation}
use Rattle.ab_unify.specs.Problem.{cells_read}
use Rattle.ab_formulas.specs.NewNames.{IsNamedFor}
use Rattle.ab_logic.specs.Worlds.{read, declarations_of}
use Rattle.ab_logic.specs.SequentReadings.{sequent_of}
use Rattle.ab_theory.specs.Equations.{Becomes}
use Rattle.ab_theory.specs.Splits.{Case, Arises, NeverArises, IsOpen}
use Rattle.ab_equations.specs.Meanwhile.{case_read}
use Rattle.ab_theory.proofs.Carried.{arises_becomes, never_apart, open_stuck}
use Rattle.ab_equations.proofs.Restored.{came_back}
use Rattle.ab_equations.proofs.Answering.{same_case}
use Rattle.ab_equations.proofs.solutions.solve_in.Goals as goal

pub returns-in_err-carried-clause-grows : goal.returns-in_err-carried-clause-grows
returns-in_err-carried-clause-grows g c = came_back c.args.world.now c.solve_case.new.world c.requires.world c.solve_case.ensures.back

pub returns-in-Unified-clause-grows : goal.returns-in-Unified-clause-grows
returns-in-Unified-clause-grows g c = came_back c.args.world.now c.solve_case.new.world c.requires.world c.solve_case.ensures.back

pub returns-in-Apart-clause-grows : goal.returns-in-Apart-clause-grows
returns-in-Apart-clause-grows g c = came_back c.args.world.now c.solve_case.new.world c.requires.world c.solve_case.ensures.back

pub returns-clause-grows : goal.returns-clause-grows
returns-clause-grows g c = came_back c.args.world.now c.solve_case.new.world c.requires.world c.solve_case.ensures.back

pub returns-in-Unified-clause-unified : goal.returns-in-Unified-clause-unified
returns-in-Unified-clause-unified g c = λ k is.
    let w = c.args.world.now in
    let v = c.solve_case.new.world in
    let s = c.args.goal in
    let cells = cells_read w.types w.store in
    let es : List Equation = record { left = c.args.left; right = c.args.right } ∷ [] in
    let IsName = IsNamedFor (declarations_of w) in
    let result = c.in-Unified.carried in
    let arises = c.solve_case.ensures.unified result (c.in_ok-carried.was ∙ ap Ok c.in-Unified.is) in
    let listed = subst (λ (ys : List CellId). Arises IsName (case_read w es ys [] s) (cells_read v.types v.store) (sequent_of v result)) (c.as_slice-2.ensures.value ∙ c.in_ok-flexible.ensures.items ∙ c.as_slice.ensures) arises in
    let becomes = arises_becomes IsName cells (sequent_of w s) (sequent_of v result) (read w c.args.left) (read w c.args.right) (cells_read v.types v.store)
    (subst (λ (q : Case). Arises IsName q (cells_read v.types v.store) (sequent_of v result)) (same_case w c.requires.world c.args.left c.args.right s) listed) in
    let one : result ≡ k = cc in
    subst (λ r. Becomes IsName cells (sequent_of w s) (read w c.args.left) (read w c.args.right) (sequent_of v r)) one becomes

pub returns-in-Apart-clause-apart : goal.returns-in-Apart-clause-apart
returns-in-Apart-clause-apart g c = λ e.
    let w = c.args.world.now in
    let s = c.args.goal in
    let es : List Equation = record { left = c.args.left; right = c.args.right } ∷ [] in
    let never = c.solve_case.ensures.apart (c.in_ok-carried.was ∙ ap Ok c.in-Apart.is) in
    let listed = subst (λ (ys : List CellId). NeverArises (case_read w es ys [] s)) (c.as_slice-2.ensures.value ∙ c.in_ok-flexible.ensures.items ∙ c.as_slice.ensures) never in
    never_apart (cells_read w.types w.store) (sequent_of w s) (read w c.args.left) (read w c.args.right) (subst NeverArises (same_case w c.requires.world c.args.left c.args.right s) listed)

pub returns-clause-stuck : goal.returns-clause-stuck
returns-clause-stuck g c = λ e.
    let w = c.args.world.now in
    let s = c.args.goal in
    let es : List Equation = record { left = c.args.left; right = c.args.right } ∷ [] in
    let place = c.in-Stuck.field-0 in
    let stuck = c.solve_case.ensures.stuck place (c.in_ok-carried.was ∙ ap Ok c.in-Stuck.is) in
    let listed = subst (λ (ys : List CellId). IsOpen (case_read w es ys [] s) place) (c.as_slice-2.ensures.value ∙ c.in_ok-flexible.ensures.items ∙ c.as_slice.ensures) stuck in
    open_stuck (cells_read w.types w.store) (sequent_of w s) (read w c.args.left) (read w c.args.right) place (subst (λ (q : Case). IsOpen q place) (same_case w c.requires.world c.args.left c.args.right s) listed)
