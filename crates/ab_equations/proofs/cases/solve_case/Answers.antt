use Rattle.std.specs.List.{All}
use Rattle.std.specs.Prelude.{AllPairs}
use Rattle.std.proofs.Common.{◌≡◌, ◌<◌, List, ◌++◌, map, Ok, refl, sym, ap, subst, ◌∙◌, arith}
use Rattle.std.proofs.lemmas.List.Elements.{All-weaker}
use Rattle.ab_term.proofs.Lists.{All-from_contains}
use Rattle.ab_norm.specs.ab_store.specs.declared.node.CellId.{CellId}
use Rattle.ab_norm.specs.ab_store.specs.Trees.{HoldsCell}
use Rattle.ab_unify.specs.Problem.{cells_read, cell_read, problem}
use Rattle.ab_unify.specs.StoreChanges.{Grows}
use Rattle.ab_unify.proofs.Growth.{grows_on}
use Rattle.ab_unify.specs.declared.answers.Solved.TheVariants.{Unified}
use Rattle.ab_unify.specs.UnifyAnswers.{HasSolution, AreNewCells, AreInAge}
use Rattle.ab_unify.proofs.Cut.{cut_as_before, cut_grows}
use Rattle.ab_formulas.specs.NewNames.{IsNamedFor}
use Rattle.ab_logic.specs.Worlds.{declarations_of}
use Rattle.ab_logic.specs.SequentReadings.{sequent_of}
use Rattle.ab_logic.specs.declared.world.World.{World}
use Rattle.ab_theory.specs.Splits.{Arises}
use Rattle.ab_equations.specs.Meanwhile.{count_before, case_read, IsCarried}
use Rattle.ab_equations.proofs.Outcomes.{at_ok, at_unified, at_apart, at_stuck}
use Rattle.ab_equations.proofs.Restored.{same_alike, declarations_same, then_meanwhile, goal_same, undone_grows, undone_bindings, same_cells_read}
use Rattle.ab_equations.proofs.Answering.{arises_so, behind_which, behind_age}
use Rattle.ab_equations.proofs.cases.solve_case.Goals as goal

-- WHERE UNIFICATION ENDS WITHOUT AN ANSWER
pub returns-in_err-made-clause-no_cell : goal.returns-in_err-made-clause-no_cell
returns-in_err-made-clause-no_cell g c = λ none.
    let w = c.args.world.now in
    same_cells_read w.types c.unify.new.types w.store c.unify.new.store c.requires.world.typed c.unify.ensures.grows.table c.in_err-made.ensures.as_before.1

pub returns-in_err-made-clause-declared : goal.returns-in_err-made-clause-declared
returns-in_err-made-clause-declared g c =
    let w = c.args.world.now in
    let u : World = record { types = c.unify.new.types; store = c.unify.new.store; additions = w.additions } in
    declarations_same w u c.requires.world c.unify.ensures.grows refl

pub returns-in-Apart-clause-no_cell : goal.returns-in-Apart-clause-no_cell
returns-in-Apart-clause-no_cell g c = λ none.
    let w = c.args.world.now in
    let before = at_apart c.unify.result _ (c.in_ok-made.was ∙ ap Ok c.in-Apart.is) c.unify.ensures.as_before in
    same_cells_read w.types c.unify.new.types w.store c.unify.new.store c.requires.world.typed c.unify.ensures.grows.table before.1

pub returns-in-Apart-clause-declared : goal.returns-in-Apart-clause-declared
returns-in-Apart-clause-declared g c =
    let w = c.args.world.now in
    let u : World = record { types = c.unify.new.types; store = c.unify.new.store; additions = w.additions } in
    declarations_same w u c.requires.world c.unify.ensures.grows refl

pub returns-clause-no_cell : goal.returns-clause-no_cell
returns-clause-no_cell g c = λ none.
    let w = c.args.world.now in
    let before = at_stuck c.unify.result c.in-Stuck.place _ (c.in_ok-made.was ∙ ap Ok c.in-Stuck.is) c.unify.ensures.as_before in
    same_cells_read w.types c.unify.new.types w.store c.unify.new.store c.requires.world.typed c.unify.ensures.grows.table before.1

pub returns-clause-declared : goal.returns-clause-declared
returns-clause-declared g c =
    let w = c.args.world.now in
    let u : World = record { types = c.unify.new.types; store = c.unify.new.store; additions = w.additions } in
    declarations_same w u c.requires.world c.unify.ensures.grows refl

-- WHERE IT HAS ONE
pub carry_behind-requires-clause-world : goal.carry_behind-requires-clause-world
carry_behind-requires-clause-world g c =
    let w = c.args.world.now in
    let u : World = record { types = c.unify.new.types; store = c.unify.new.store; additions = w.additions } in
    then_meanwhile w u c.requires.world c.unify.ensures.grows refl

pub carry_behind-requires-clause-behind : goal.carry_behind-requires-clause-behind
carry_behind-requires-clause-behind g c =
    let w = c.args.world.now in
    let now = c.unify.new.store in
    let own = c.args.own.now in
    let made = c.in-Unified.made in
    let answered = c.in_ok-made.was ∙ ap Ok c.in-Unified.is in
    let new : AreNewCells w.store now made = at_unified c.unify.result made (AreNewCells w.store now) answered c.unify.ensures.made in
    let in_age : AreInAge made = at_unified c.unify.result made AreInAge answered c.unify.ensures.in_age in
    let which = behind_which w.store now (λ d h. (c.unify.ensures.grows.cells d h).0) (count_before w own) own made c.requires.own new in_age in
    subst (λ (l : List CellId). All (HoldsCell now) (own ++ l)) (sym c.as_slice.ensures) (All-from_contains (HoldsCell now) (own ++ made) (λ d m. ((which d).0 m).0))

pub carry_behind-requires-clause-in_age : goal.carry_behind-requires-clause-in_age
carry_behind-requires-clause-in_age g c =
    let w = c.args.world.now in
    let now = c.unify.new.store in
    let own = c.args.own.now in
    let made = c.in-Unified.made in
    let answered = c.in_ok-made.was ∙ ap Ok c.in-Unified.is in
    let new : AreNewCells w.store now made = at_unified c.unify.result made (AreNewCells w.store now) answered c.unify.ensures.made in
    let in_age : AreInAge made = at_unified c.unify.result made AreInAge answered c.unify.ensures.in_age in
    subst (λ (l : List CellId). AllPairs (λ (a b : CellId). a.0 < b.0) (own ++ l)) (sym c.as_slice.ensures)
    (behind_age w.store now (λ d h. (c.unify.ensures.grows.cells d h).0) (count_before w own) own made c.requires.own new in_age)

pub carry_behind-requires-clause-apart : goal.carry_behind-requires-clause-apart
carry_behind-requires-clause-apart g c =
    let w = c.args.world.now in
    let now = c.unify.new.store in
    let own = c.args.own.now in
    let made = c.in-Unified.made in
    let answered = c.in_ok-made.was ∙ ap Ok c.in-Unified.is in
    let new : AreNewCells w.store now made = at_unified c.unify.result made (AreNewCells w.store now) answered c.unify.ensures.made in
    let in_age : AreInAge made = at_unified c.unify.result made AreInAge answered c.unify.ensures.in_age in
    let n = count_before w own in
    let which = behind_which w.store now (λ d h. (c.unify.ensures.grows.cells d h).0) n own made c.requires.own new in_age in
    subst (λ (l : List CellId). All (λ (e : CellId). All (λ (d : CellId). d.0 < e.0) c.args.goal.variables) (own ++ l)) (sym c.as_slice.ensures)
    (All-from_contains (λ (e : CellId). All (λ (d : CellId). d.0 < e.0) c.args.goal.variables) (own ++ made)
    (λ e m. let from = ((which e).0 m).1 in All-weaker (λ (d : CellId). d.0 < n) (λ (d : CellId). d.0 < e.0) (λ d low. omega (arith, low, from)) c.args.goal.variables c.requires.before))

-- THE GOAL IS CARRIED OVER, and what was bound is undone
pub returns-in-Ok-clause-back : goal.returns-in-Ok-clause-back
returns-in-Ok-clause-back g c =
    let w = c.args.world.now in
    let x = c.carry_behind.new.world in
    let goes = c.carry_behind.ensures.goes in
    let e = c.rewind.ensures in
    let m = c.mark-mark.ensures in
    let g1 : Grows w.types w.store x.types x.store = grows_on w.types c.unify.new.types x.types w.store c.unify.new.store x.store c.unify.ensures.grows goes.grows in
    record {
      grows = undone_grows w.types x.types w.store x.store c.rewind.new.self g1 c.mark-mark.result m.has m.bindings e.nodes e.cells e.bindings (e.typed x.types goes.grows.typed) e.marks;
      bindings = undone_bindings w.types x.types w.store x.store c.rewind.new.self g1 c.mark-mark.result m.has m.bindings e.nodes e.cells e.bindings (e.typed x.types goes.grows.typed) e.marks;
      additions = goes.additions;
    }

pub returns-in-Ok-clause-declared : goal.returns-in-Ok-clause-declared
returns-in-Ok-clause-declared g c =
    let w = c.args.world.now in
    let x = c.carry_behind.new.world in
    let v : World = record { types = x.types; store = c.rewind.new.self; additions = x.additions } in
    let goes = c.carry_behind.ensures.goes in
    let e = c.rewind.ensures in
    let m = c.mark-mark.ensures in
    let g1 : Grows w.types w.store x.types x.store = grows_on w.types c.unify.new.types x.types w.store c.unify.new.store x.store c.unify.ensures.grows goes.grows in
    declarations_same w v c.requires.world
    (undone_grows w.types x.types w.store x.store c.rewind.new.self g1 c.mark-mark.result m.has m.bindings e.nodes e.cells e.bindings (e.typed x.types goes.grows.typed) e.marks) goes.additions

pub returns-in-Ok-clause-no_cell : goal.returns-in-Ok-clause-no_cell
returns-in-Ok-clause-no_cell g c = λ none. absurd (none c.in-Ok.carried refl)

pub returns-in-Ok-clause-unified : goal.returns-in-Ok-clause-unified
returns-in-Ok-clause-unified g c = λ k is.
    let w = c.args.world.now in
    let more = c.unify.new.types in
    let now = c.unify.new.store in
    let u : World = record { types = more; store = now; additions = w.additions } in
    let x = c.carry_behind.new.world in
    let v : World = record { types = x.types; store = c.rewind.new.self; additions = x.additions } in
    let s = c.args.goal in
    let own = c.args.own.now in
    let made = c.in-Unified.made in
    let ys = c.args.flexible.now in
    let es = c.args.equations.now in
    let answered = c.in_ok-made.was ∙ ap Ok c.in-Unified.is in
    let solution : HasSolution (problem w.types w.store es ys) = (at_ok c.unify.result (Unified made) _ answered c.unify.ensures.unified).0 tt in
    let cells = solution.0 in
    let answer = solution.1 in
    let solves = solution.2 in
    let reads = at_unified c.unify.result made _ answered c.unify.ensures.reads cells answer solves in
    let same_cells = at_unified c.unify.result made _ answered c.unify.ensures.cells cells answer solves in
    let left = at_unified c.unify.result made _ answered c.unify.ensures.left cells answer solves in
    let new : AreNewCells w.store now made = at_unified c.unify.result made (AreNewCells w.store now) answered c.unify.ensures.made in
    let in_age : AreInAge made = at_unified c.unify.result made AreInAge answered c.unify.ensures.in_age in
    let grows = c.unify.ensures.grows in
    let result = c.in-Ok.carried in
    let carried = subst (λ l. IsCarried u (own ++ l) s x result) c.as_slice.ensures c.in-Ok.ensures.carried in
    let done : Arises (IsNamedFor (declarations_of w)) (case_read w es ys own s) (cells_read x.types x.store) (sequent_of x result) =
    arises_so w u c.requires.world grows cells answer reads same_cells es ys own c.requires.flexible c.requires.own c.requires.own_flexible solves left c.unify.ensures.others
    s result x made c.requires.held c.requires.formulas c.requires.variables new in_age (declarations_same w u c.requires.world grows refl) (goal_same w u c.requires.world grows refl s c.requires.held) carried in
    let unwound : sequent_of v result ≡ sequent_of x result = same_alike x v refl c.rewind.ensures.nodes c.rewind.ensures.cells result in
    let one : result ≡ k = cc in
    subst (λ r. Arises (IsNamedFor (declarations_of w)) (case_read w es ys own s) (cells_read v.types v.store) (sequent_of v r)) one
    (subst (Arises (IsNamedFor (declarations_of w)) (case_read w es ys own s) (cells_read v.types v.store)) (sym unwound)
    (subst (λ cs. Arises (IsNamedFor (declarations_of w)) (case_read w es ys own s) (map (cell_read x.types) cs) (sequent_of x result)) (sym c.rewind.ensures.cells) done))

-- or memory runs out, and the store is as before
pub returns-in-Unified-clause-back : goal.returns-in-Unified-clause-back
returns-in-Unified-clause-back g c =
    let w = c.args.world.now in
    let x = c.carry_behind.new.world in
    let goes = c.carry_behind.ensures.goes in
    let e = c.cut_to.ensures in
    let m = c.mark-mark.ensures in
    let g1 : Grows w.types w.store x.types x.store = grows_on w.types c.unify.new.types x.types w.store c.unify.new.store x.store c.unify.ensures.grows goes.grows in
    record {
      grows = cut_grows w.types x.types w.store x.store c.cut_to.new.self c.mark-mark.result c.requires.world.typed g1 m.has m.bindings m.nodes m.cells e.bindings e.nodes e.cells m.typed e.typed e.marks;
      bindings = (cut_as_before w.types x.types w.store x.store c.cut_to.new.self c.mark-mark.result c.requires.world.typed g1 m.has m.bindings m.nodes m.cells e.bindings e.nodes e.cells).2;
      additions = goes.additions;
    }

pub returns-in-Unified-clause-declared : goal.returns-in-Unified-clause-declared
returns-in-Unified-clause-declared g c =
    let w = c.args.world.now in
    let x = c.carry_behind.new.world in
    let v : World = record { types = x.types; store = c.cut_to.new.self; additions = x.additions } in
    let goes = c.carry_behind.ensures.goes in
    let e = c.cut_to.ensures in
    let m = c.mark-mark.ensures in
    let g1 : Grows w.types w.store x.types x.store = grows_on w.types c.unify.new.types x.types w.store c.unify.new.store x.store c.unify.ensures.grows goes.grows in
    declarations_same w v c.requires.world
    (cut_grows w.types x.types w.store x.store c.cut_to.new.self c.mark-mark.result c.requires.world.typed g1 m.has m.bindings m.nodes m.cells e.bindings e.nodes e.cells m.typed e.typed e.marks) goes.additions

pub returns-in-Unified-clause-no_cell : goal.returns-in-Unified-clause-no_cell
returns-in-Unified-clause-no_cell g c = λ none.
    let w = c.args.world.now in
    let x = c.carry_behind.new.world in
    let goes = c.carry_behind.ensures.goes in
    let e = c.cut_to.ensures in
    let m = c.mark-mark.ensures in
    let g1 : Grows w.types w.store x.types x.store = grows_on w.types c.unify.new.types x.types w.store c.unify.new.store x.store c.unify.ensures.grows goes.grows in
    same_cells_read w.types x.types w.store c.cut_to.new.self c.requires.world.typed g1.table
    (cut_as_before w.types x.types w.store x.store c.cut_to.new.self c.mark-mark.result c.requires.world.typed g1 m.has m.bindings m.nodes m.cells e.bindings e.nodes e.cells).1
