use Rattle.std.specs.List.{All}
use Rattle.std.specs.Prelude.{AllPairs, Contains}
use Rattle.std.proofs.Common.{◌≢◌, ◌≤◌, ◌<◌, List, ◌++◌, Ok, map, length, take, refl, sym, ◌∙◌, ap, subst}
use Rattle.ab_norm.specs.ab_store.specs.declared.node.CellId.{CellId}
use Rattle.ab_unify.proofs.Growth.{grows_on}
use Rattle.ab_logic.specs.Worlds.{declarations_of}
use Rattle.ab_logic.specs.declared.world.World.{World}
use Rattle.ab_logic.specs.declared.sequent.Sequent.{Sequent as Kept}
use Rattle.ab_equations.proofs.Restored as restored
use Rattle.ab_unify.proofs.Cut.{cut_as_before, cut_grows}
use Rattle.ab_formulas.specs.Formulas.{IsFormula}
use Rattle.ab_formulas.specs.Declarations.{signature_in}
use Rattle.ab_formulas.specs.Sequents.{formulas_of}
use Rattle.ab_logic.specs.SequentReadings.{sequent_of, HoldsSequent}
use Rattle.ab_norm.specs.ab_store.specs.Trees.{HoldsCell}
use Rattle.ab_instances.specs.CellBindings.{CanBeBound}
use Rattle.ab_equations.specs.Meanwhile.{count_before}
use Rattle.ab_formulas.specs.NewNames.{IsNamedFor}
use Rattle.ab_theory.specs.Splits.{Arises, NeverArises, IsOpen}
use Rattle.ab_unify.specs.Problem.{cell_read, cells_read}
use Rattle.ab_theory.specs.Analysis.{case_of}
use Rattle.ab_alternatives.specs.AtomReadings.{defined_read, choice_read}
use Rattle.ab_alternatives.specs.LeftAlternatives.{IsMade, case_put, goal_for, fresh_in}
use Rattle.ab_alternatives.proofs.Raised.{fit_of}
use Rattle.ab_alternatives.proofs.CasePut as put
use Rattle.ab_alternatives.proofs.Tried.{different_cells, later, grown, declared, grown_to, declared_to}
use Rattle.ab_alternatives.proofs.one_alternative.try_case.Goals as goal

pub make_alternative-requires-clause-different : goal.make_alternative-requires-clause-different
make_alternative-requires-clause-different g c =
    subst (λ (l : List CellId). AllPairs (λ c d. c ≢ d) l) (sym c.as_slice-variables.ensures) (different_cells c.args.world.now c.args.goal.now.variables c.requires.sequent.numbers_differ)

pub returns-in_err-made-clause-grows : goal.returns-in_err-made-clause-grows
returns-in_err-made-clause-grows g c = grown c.args.world.now c.make_alternative.new.types c.make_alternative.new.store c.requires.world c.make_alternative.ensures.grows c.make_alternative.ensures.unbound

pub returns-in_err-made-clause-declared : goal.returns-in_err-made-clause-declared
returns-in_err-made-clause-declared g c = declared c.args.world.now c.make_alternative.new.types c.make_alternative.new.store c.requires.world c.make_alternative.ensures.grows

pub returns-in_err-over-clause-grows : goal.returns-in_err-over-clause-grows
returns-in_err-over-clause-grows g c = grown c.args.world.now c.make_alternative.new.types c.make_alternative.new.store c.requires.world c.make_alternative.ensures.grows c.make_alternative.ensures.unbound

pub returns-in_err-over-clause-declared : goal.returns-in_err-over-clause-declared
returns-in_err-over-clause-declared g c = declared c.args.world.now c.make_alternative.new.types c.make_alternative.new.store c.requires.world c.make_alternative.ensures.grows

pub solve_alternative-requires-clause-world : goal.solve_alternative-requires-clause-world
solve_alternative-requires-clause-world g c = (grown c.args.world.now c.make_alternative.new.types c.make_alternative.new.store c.requires.world c.make_alternative.ensures.grows c.make_alternative.ensures.unbound).world

pub solve_alternative-requires-clause-held : goal.solve_alternative-requires-clause-held
solve_alternative-requires-clause-held g c =
    let w = c.args.world.now in
    let U = c.make_alternative.new.types in
    let V = c.make_alternative.new.store in
    let alt = c.in_ok-made.made in
    let made = subst (λ (l : List CellId). IsMade w.types w.store l (defined_read w c.args.atom.now).block.predicates (defined_read w c.args.atom.now).sign (defined_read w c.args.atom.now).arguments (choice_read w c.args.clause.now c.args.names.now) U V alt)
    c.as_slice-variables.ensures c.in_ok-made.ensures.made in
    let same_over = c.in_ok-over.ensures ∙ ap (λ (l : List CellId). goal_for c.args.rest.now l c.args.name.now alt.body) c.deref.ensures.value in
    subst (HoldsSequent (later w U V c.requires.world c.make_alternative.ensures.grows)) (sym same_over) (put.over_held w (later w U V c.requires.world c.make_alternative.ensures.grows) c.requires.world c.make_alternative.ensures.grows refl c.args.goal.now c.args.rest.now c.requires.same c.requires.goal c.requires.rest c.args.atom.now c.args.clause.now c.args.names.now alt c.args.name.now c.requires.defining c.requires.fit made)

pub solve_alternative-requires-clause-formulas : goal.solve_alternative-requires-clause-formulas
solve_alternative-requires-clause-formulas g c =
    let w = c.args.world.now in
    let U = c.make_alternative.new.types in
    let V = c.make_alternative.new.store in
    let alt = c.in_ok-made.made in
    let made = subst (λ (l : List CellId). IsMade w.types w.store l (defined_read w c.args.atom.now).block.predicates (defined_read w c.args.atom.now).sign (defined_read w c.args.atom.now).arguments (choice_read w c.args.clause.now c.args.names.now) U V alt)
    c.as_slice-variables.ensures c.in_ok-made.ensures.made in
    let same_over = c.in_ok-over.ensures ∙ ap (λ (l : List CellId). goal_for c.args.rest.now l c.args.name.now alt.body) c.deref.ensures.value in
    subst (λ q. All (IsFormula (signature_in (declarations_of (later w U V c.requires.world c.make_alternative.ensures.grows)))) (formulas_of (sequent_of (later w U V c.requires.world c.make_alternative.ensures.grows) q))) (sym same_over) (put.over_formulas w (later w U V c.requires.world c.make_alternative.ensures.grows) c.requires.world c.make_alternative.ensures.grows refl c.args.goal.now c.args.rest.now c.requires.same c.requires.goal c.requires.rest c.args.atom.now c.args.clause.now c.args.names.now alt c.args.name.now c.requires.defining c.requires.fit made c.requires.formulas)

pub solve_alternative-requires-clause-few : goal.solve_alternative-requires-clause-few
solve_alternative-requires-clause-few g c =
    let w = c.args.world.now in
    let U = c.make_alternative.new.types in
    let V = c.make_alternative.new.store in
    let alt = c.in_ok-made.made in
    let made = subst (λ (l : List CellId). IsMade w.types w.store l (defined_read w c.args.atom.now).block.predicates (defined_read w c.args.atom.now).sign (defined_read w c.args.atom.now).arguments (choice_read w c.args.clause.now c.args.names.now) U V alt)
    c.as_slice-variables.ensures c.in_ok-made.ensures.made in
    subst (λ (l : List CellId). length alt.raised.terms.items ≤ length l) (sym c.as_slice-variables.ensures) (fit_of w.types U w.store V c.requires.world.typed c.make_alternative.ensures.grows c.args.goal.now.variables c.requires.goal.variables (different_cells w c.args.goal.now.variables c.requires.sequent.numbers_differ) (fresh_in (defined_read w c.args.atom.now).arguments (choice_read w c.args.clause.now c.args.names.now)) alt.raised made.raised).0

pub solve_alternative-requires-clause-fit : goal.solve_alternative-requires-clause-fit
solve_alternative-requires-clause-fit g c =
    let w = c.args.world.now in
    let U = c.make_alternative.new.types in
    let V = c.make_alternative.new.store in
    let alt = c.in_ok-made.made in
    let made = subst (λ (l : List CellId). IsMade w.types w.store l (defined_read w c.args.atom.now).block.predicates (defined_read w c.args.atom.now).sign (defined_read w c.args.atom.now).arguments (choice_read w c.args.clause.now c.args.names.now) U V alt)
    c.as_slice-variables.ensures c.in_ok-made.ensures.made in
    subst (λ (l : List CellId). CanBeBound U V (take (length alt.raised.terms.items) l) alt.raised.terms.items) (sym c.as_slice-variables.ensures) (fit_of w.types U w.store V c.requires.world.typed c.make_alternative.ensures.grows c.args.goal.now.variables c.requires.goal.variables (different_cells w c.args.goal.now.variables c.requires.sequent.numbers_differ) (fresh_in (defined_read w c.args.atom.now).arguments (choice_read w c.args.clause.now c.args.names.now)) alt.raised made.raised).1

pub solve_alternative-requires-clause-free : goal.solve_alternative-requires-clause-free
solve_alternative-requires-clause-free g c =
    let w = c.args.world.now in
    let U = c.make_alternative.new.types in
    let V = c.make_alternative.new.store in
    let alt = c.in_ok-made.made in
    let made = subst (λ (l : List CellId). IsMade w.types w.store l (defined_read w c.args.atom.now).block.predicates (defined_read w c.args.atom.now).sign (defined_read w c.args.atom.now).arguments (choice_read w c.args.clause.now c.args.names.now) U V alt)
    c.as_slice-variables.ensures c.in_ok-made.ensures.made in
    subst (λ (l : List CellId). All (λ (d : CellId). HoldsCell V d × ¬ Contains (take (length alt.raised.terms.items) l) d) (alt.raised.cells.items ++ alt.own.items)) (sym c.as_slice-variables.ensures) (put.all_free w (later w U V c.requires.world c.make_alternative.ensures.grows) c.requires.world c.make_alternative.ensures.grows refl c.args.goal.now c.args.rest.now c.requires.same c.requires.goal c.requires.rest c.args.atom.now c.args.clause.now c.args.names.now alt c.args.name.now c.requires.defining c.requires.fit made)

pub solve_alternative-requires-clause-before : goal.solve_alternative-requires-clause-before
solve_alternative-requires-clause-before g c =
    let w = c.args.world.now in
    let U = c.make_alternative.new.types in
    let V = c.make_alternative.new.store in
    let alt = c.in_ok-made.made in
    let made = subst (λ (l : List CellId). IsMade w.types w.store l (defined_read w c.args.atom.now).block.predicates (defined_read w c.args.atom.now).sign (defined_read w c.args.atom.now).arguments (choice_read w c.args.clause.now c.args.names.now) U V alt)
    c.as_slice-variables.ensures c.in_ok-made.ensures.made in
    let same_over = c.in_ok-over.ensures ∙ ap (λ (l : List CellId). goal_for c.args.rest.now l c.args.name.now alt.body) c.deref.ensures.value in
    subst (λ (q : Kept). All (λ (d : CellId). d.0 < count_before (later w U V c.requires.world c.make_alternative.ensures.grows) alt.own.items) q.variables) (sym same_over) (put.all_before w (later w U V c.requires.world c.make_alternative.ensures.grows) c.requires.world c.make_alternative.ensures.grows refl c.args.goal.now c.args.rest.now c.requires.same c.requires.goal c.requires.rest c.args.atom.now c.args.clause.now c.args.names.now alt c.args.name.now c.requires.defining c.requires.fit made)

pub solve_alternative-requires-clause-own : goal.solve_alternative-requires-clause-own
solve_alternative-requires-clause-own g c =
    let w = c.args.world.now in
    let U = c.make_alternative.new.types in
    let V = c.make_alternative.new.store in
    let alt = c.in_ok-made.made in
    let made = subst (λ (l : List CellId). IsMade w.types w.store l (defined_read w c.args.atom.now).block.predicates (defined_read w c.args.atom.now).sign (defined_read w c.args.atom.now).arguments (choice_read w c.args.clause.now c.args.names.now) U V alt)
    c.as_slice-variables.ensures c.in_ok-made.ensures.made in
    put.own_last w (later w U V c.requires.world c.make_alternative.ensures.grows) c.requires.world c.make_alternative.ensures.grows refl c.args.goal.now c.args.rest.now c.requires.same c.requires.goal c.requires.rest c.args.atom.now c.args.clause.now c.args.names.now alt c.args.name.now c.requires.defining c.requires.fit made

pub returns-in-Ok-Unified-clause-unified : goal.returns-in-Ok-Unified-clause-unified
returns-in-Ok-Unified-clause-unified g c g' e =
    let w = c.args.world.now in
    let U = c.make_alternative.new.types in
    let V = c.make_alternative.new.store in
    let alt = c.in_ok-made.made in
    let v = later w U V c.requires.world c.make_alternative.ensures.grows in
    let made = subst (λ (l : List CellId). IsMade w.types w.store l (defined_read w c.args.atom.now).block.predicates (defined_read w c.args.atom.now).sign (defined_read w c.args.atom.now).arguments (choice_read w c.args.clause.now c.args.names.now) U V alt)
    c.as_slice-variables.ensures c.in_ok-made.ensures.made in
    let same_over = c.in_ok-over.ensures ∙ ap (λ (l : List CellId). goal_for c.args.rest.now l c.args.name.now alt.body) c.deref.ensures.value in
    let the_case = ap (λ (l : List CellId). case_put v l alt c.in_ok-over.over) c.as_slice-variables.ensures ∙ ap (case_put v c.args.goal.now.variables alt) same_over
    ∙ put.put_case w v c.requires.world c.make_alternative.ensures.grows refl c.args.goal.now c.args.rest.now c.requires.same c.requires.goal c.requires.rest c.args.atom.now c.args.clause.now c.args.names.now alt c.args.name.now c.requires.defining c.requires.fit made in
    let W = c.solve_alternative.new.world in
    let X = c.rewind.new.self in
    let end : World = record { types = W.types; store = X; additions = W.additions } in
    let a0 = c.in-Ok-Unified.ensures.unified g' (ap (λ q. Ok q) c.in-Ok-Unified.field-0-is ∙ e) in
    let names = ap IsNamedFor (declared w U V c.requires.world c.make_alternative.ensures.grows) in
    subst (λ N. Arises N (case_of (sequent_of w c.args.goal.now) (sequent_of w c.args.rest.now) c.args.name.now (defined_read w c.args.atom.now) (choice_read w c.args.clause.now c.args.names.now) (cells_read w.types w.store)) (cells_read W.types X) (sequent_of end g')) names
    (subst (λ k. Arises (IsNamedFor (declarations_of v)) k (cells_read W.types X) (sequent_of end g')) the_case
    (subst (Arises (IsNamedFor (declarations_of v)) (case_put v c.as_slice-variables.result.now alt c.in_ok-over.over) (cells_read W.types X)) (sym (restored.same_alike W end refl c.rewind.ensures.nodes c.rewind.ensures.cells g'))
    (subst (λ l. Arises (IsNamedFor (declarations_of v)) (case_put v c.as_slice-variables.result.now alt c.in_ok-over.over) l (sequent_of W g')) (sym (ap (map (cell_read W.types)) c.rewind.ensures.cells)) a0)))

pub returns-in-Ok-Unified-clause-grown : goal.returns-in-Ok-Unified-clause-grown
returns-in-Ok-Unified-clause-grown g c =
    let w = c.args.world.now in
    let W = c.solve_alternative.new.world in
    let X = c.rewind.new.self in
    let g2 = grows_on w.types c.make_alternative.new.types W.types w.store c.make_alternative.new.store W.store c.make_alternative.ensures.grows c.solve_alternative.ensures.grows in
    let m = c.mark-mark.result in
    let back = c.rewind.ensures in
    let g3 = restored.undone_grows w.types W.types w.store W.store X g2 m c.mark-mark.ensures.has c.mark-mark.ensures.bindings back.nodes back.cells back.bindings (back.typed W.types g2.typed) back.marks in
    g3

pub returns-in-Ok-Unified-clause-grows : goal.returns-in-Ok-Unified-clause-grows
returns-in-Ok-Unified-clause-grows g c =
    let w = c.args.world.now in
    let W = c.solve_alternative.new.world in
    let X = c.rewind.new.self in
    let end : World = record { types = W.types; store = X; additions = W.additions } in
    let g2 = grows_on w.types c.make_alternative.new.types W.types w.store c.make_alternative.new.store W.store c.make_alternative.ensures.grows c.solve_alternative.ensures.grows in
    let m = c.mark-mark.result in
    let back = c.rewind.ensures in
    let g3 = restored.undone_grows w.types W.types w.store W.store X g2 m c.mark-mark.ensures.has c.mark-mark.ensures.bindings back.nodes back.cells back.bindings (back.typed W.types g2.typed) back.marks in
    let none = restored.undone_bindings w.types W.types w.store W.store X g2 m c.mark-mark.ensures.has c.mark-mark.ensures.bindings back.nodes back.cells back.bindings (back.typed W.types g2.typed) back.marks ∙ c.requires.world.unbound in
    grown_to w end c.requires.world c.solve_alternative.ensures.additions g3 none

pub returns-in-Ok-Unified-clause-declared : goal.returns-in-Ok-Unified-clause-declared
returns-in-Ok-Unified-clause-declared g c =
    let w = c.args.world.now in
    let W = c.solve_alternative.new.world in
    let X = c.rewind.new.self in
    let end : World = record { types = W.types; store = X; additions = W.additions } in
    let g2 = grows_on w.types c.make_alternative.new.types W.types w.store c.make_alternative.new.store W.store c.make_alternative.ensures.grows c.solve_alternative.ensures.grows in
    let m = c.mark-mark.result in
    let back = c.rewind.ensures in
    let g3 = restored.undone_grows w.types W.types w.store W.store X g2 m c.mark-mark.ensures.has c.mark-mark.ensures.bindings back.nodes back.cells back.bindings (back.typed W.types g2.typed) back.marks in
    let none = restored.undone_bindings w.types W.types w.store W.store X g2 m c.mark-mark.ensures.has c.mark-mark.ensures.bindings back.nodes back.cells back.bindings (back.typed W.types g2.typed) back.marks ∙ c.requires.world.unbound in
    declared_to w end c.requires.world c.solve_alternative.ensures.additions g3

pub returns-in-Ok-Apart-clause-apart : goal.returns-in-Ok-Apart-clause-apart
returns-in-Ok-Apart-clause-apart g c e =
    let w = c.args.world.now in
    let U = c.make_alternative.new.types in
    let V = c.make_alternative.new.store in
    let alt = c.in_ok-made.made in
    let v = later w U V c.requires.world c.make_alternative.ensures.grows in
    let made = subst (λ (l : List CellId). IsMade w.types w.store l (defined_read w c.args.atom.now).block.predicates (defined_read w c.args.atom.now).sign (defined_read w c.args.atom.now).arguments (choice_read w c.args.clause.now c.args.names.now) U V alt)
    c.as_slice-variables.ensures c.in_ok-made.ensures.made in
    let same_over = c.in_ok-over.ensures ∙ ap (λ (l : List CellId). goal_for c.args.rest.now l c.args.name.now alt.body) c.deref.ensures.value in
    let the_case = ap (λ (l : List CellId). case_put v l alt c.in_ok-over.over) c.as_slice-variables.ensures ∙ ap (case_put v c.args.goal.now.variables alt) same_over
    ∙ put.put_case w v c.requires.world c.make_alternative.ensures.grows refl c.args.goal.now c.args.rest.now c.requires.same c.requires.goal c.requires.rest c.args.atom.now c.args.clause.now c.args.names.now alt c.args.name.now c.requires.defining c.requires.fit made in
    subst NeverArises the_case (c.in-Ok-Apart.ensures.apart (ap (λ q. Ok q) c.in-Ok-Apart.field-0-is))

pub returns-in-Ok-Apart-clause-no_cell : goal.returns-in-Ok-Apart-clause-no_cell
returns-in-Ok-Apart-clause-no_cell g c e =
    let w = c.args.world.now in
    let W = c.solve_alternative.new.world in
    let X = c.cut_to.new.self in
    let end : World = record { types = W.types; store = X; additions = W.additions } in
    let g2 = grows_on w.types c.make_alternative.new.types W.types w.store c.make_alternative.new.store W.store c.make_alternative.ensures.grows c.solve_alternative.ensures.grows in
    let m = c.mark-mark.result in
    let back = c.cut_to.ensures in
    let g3 = cut_grows w.types W.types w.store W.store X m c.requires.world.typed g2 c.mark-mark.ensures.has c.mark-mark.ensures.bindings c.mark-mark.ensures.nodes c.mark-mark.ensures.cells back.bindings back.nodes back.cells c.mark-mark.ensures.typed back.typed back.marks in
    let before = cut_as_before w.types W.types w.store W.store X m c.requires.world.typed g2 c.mark-mark.ensures.has c.mark-mark.ensures.bindings c.mark-mark.ensures.nodes c.mark-mark.ensures.cells back.bindings back.nodes back.cells in
    let none = before.2 ∙ c.requires.world.unbound in
    restored.same_cells_read w.types W.types w.store X c.requires.world.typed g2.table before.1

pub returns-in-Ok-Stuck-clause-stuck : goal.returns-in-Ok-Stuck-clause-stuck
returns-in-Ok-Stuck-clause-stuck g c i e =
    let w = c.args.world.now in
    let U = c.make_alternative.new.types in
    let V = c.make_alternative.new.store in
    let alt = c.in_ok-made.made in
    let v = later w U V c.requires.world c.make_alternative.ensures.grows in
    let made = subst (λ (l : List CellId). IsMade w.types w.store l (defined_read w c.args.atom.now).block.predicates (defined_read w c.args.atom.now).sign (defined_read w c.args.atom.now).arguments (choice_read w c.args.clause.now c.args.names.now) U V alt)
    c.as_slice-variables.ensures c.in_ok-made.ensures.made in
    let same_over = c.in_ok-over.ensures ∙ ap (λ (l : List CellId). goal_for c.args.rest.now l c.args.name.now alt.body) c.deref.ensures.value in
    let the_case = ap (λ (l : List CellId). case_put v l alt c.in_ok-over.over) c.as_slice-variables.ensures ∙ ap (case_put v c.args.goal.now.variables alt) same_over
    ∙ put.put_case w v c.requires.world c.make_alternative.ensures.grows refl c.args.goal.now c.args.rest.now c.requires.same c.requires.goal c.requires.rest c.args.atom.now c.args.clause.now c.args.names.now alt c.args.name.now c.requires.defining c.requires.fit made in
    subst (λ k. IsOpen k i) the_case (c.in-Ok-Stuck.ensures.stuck i (ap (λ q. Ok q) c.in-Ok-Stuck.field-0-is ∙ e))

pub returns-in-Ok-Apart-clause-grown : goal.returns-in-Ok-Apart-clause-grown
returns-in-Ok-Apart-clause-grown g c =
    let w = c.args.world.now in
    let W = c.solve_alternative.new.world in
    let X = c.cut_to.new.self in
    let g2 = grows_on w.types c.make_alternative.new.types W.types w.store c.make_alternative.new.store W.store c.make_alternative.ensures.grows c.solve_alternative.ensures.grows in
    let m = c.mark-mark.result in
    let back = c.cut_to.ensures in
    let g3 = cut_grows w.types W.types w.store W.store X m c.requires.world.typed g2 c.mark-mark.ensures.has c.mark-mark.ensures.bindings c.mark-mark.ensures.nodes c.mark-mark.ensures.cells back.bindings back.nodes back.cells c.mark-mark.ensures.typed back.typed back.marks in
    g3

pub returns-in-Ok-Apart-clause-grows : goal.returns-in-Ok-Apart-clause-grows
returns-in-Ok-Apart-clause-grows g c =
    let w = c.args.world.now in
    let W = c.solve_alternative.new.world in
    let X = c.cut_to.new.self in
    let end : World = record { types = W.types; store = X; additions = W.additions } in
    let g2 = grows_on w.types c.make_alternative.new.types W.types w.store c.make_alternative.new.store W.store c.make_alternative.ensures.grows c.solve_alternative.ensures.grows in
    let m = c.mark-mark.result in
    let back = c.cut_to.ensures in
    let g3 = cut_grows w.types W.types w.store W.store X m c.requires.world.typed g2 c.mark-mark.ensures.has c.mark-mark.ensures.bindings c.mark-mark.ensures.nodes c.mark-mark.ensures.cells back.bindings back.nodes back.cells c.mark-mark.ensures.typed back.typed back.marks in
    let before = cut_as_before w.types W.types w.store W.store X m c.requires.world.typed g2 c.mark-mark.ensures.has c.mark-mark.ensures.bindings c.mark-mark.ensures.nodes c.mark-mark.ensures.cells back.bindings back.nodes back.cells in
    let none = before.2 ∙ c.requires.world.unbound in
    grown_to w end c.requires.world c.solve_alternative.ensures.additions g3 none

pub returns-in-Ok-Apart-clause-declared : goal.returns-in-Ok-Apart-clause-declared
returns-in-Ok-Apart-clause-declared g c =
    let w = c.args.world.now in
    let W = c.solve_alternative.new.world in
    let X = c.cut_to.new.self in
    let end : World = record { types = W.types; store = X; additions = W.additions } in
    let g2 = grows_on w.types c.make_alternative.new.types W.types w.store c.make_alternative.new.store W.store c.make_alternative.ensures.grows c.solve_alternative.ensures.grows in
    let m = c.mark-mark.result in
    let back = c.cut_to.ensures in
    let g3 = cut_grows w.types W.types w.store W.store X m c.requires.world.typed g2 c.mark-mark.ensures.has c.mark-mark.ensures.bindings c.mark-mark.ensures.nodes c.mark-mark.ensures.cells back.bindings back.nodes back.cells c.mark-mark.ensures.typed back.typed back.marks in
    let before = cut_as_before w.types W.types w.store W.store X m c.requires.world.typed g2 c.mark-mark.ensures.has c.mark-mark.ensures.bindings c.mark-mark.ensures.nodes c.mark-mark.ensures.cells back.bindings back.nodes back.cells in
    let none = before.2 ∙ c.requires.world.unbound in
    declared_to w end c.requires.world c.solve_alternative.ensures.additions g3

pub returns-in-Ok-Stuck-clause-grown : goal.returns-in-Ok-Stuck-clause-grown
returns-in-Ok-Stuck-clause-grown g c =
    let w = c.args.world.now in
    let W = c.solve_alternative.new.world in
    let X = c.cut_to-in-Ok-Stuck.new.self in
    let g2 = grows_on w.types c.make_alternative.new.types W.types w.store c.make_alternative.new.store W.store c.make_alternative.ensures.grows c.solve_alternative.ensures.grows in
    let m = c.mark-mark.result in
    let back = c.cut_to-in-Ok-Stuck.ensures in
    let g3 = cut_grows w.types W.types w.store W.store X m c.requires.world.typed g2 c.mark-mark.ensures.has c.mark-mark.ensures.bindings c.mark-mark.ensures.nodes c.mark-mark.ensures.cells back.bindings back.nodes back.cells c.mark-mark.ensures.typed back.typed back.marks in
    g3

pub returns-in-Ok-Stuck-clause-grows : goal.returns-in-Ok-Stuck-clause-grows
returns-in-Ok-Stuck-clause-grows g c =
    let w = c.args.world.now in
    let W = c.solve_alternative.new.world in
    let X = c.cut_to-in-Ok-Stuck.new.self in
    let end : World = record { types = W.types; store = X; additions = W.additions } in
    let g2 = grows_on w.types c.make_alternative.new.types W.types w.store c.make_alternative.new.store W.store c.make_alternative.ensures.grows c.solve_alternative.ensures.grows in
    let m = c.mark-mark.result in
    let back = c.cut_to-in-Ok-Stuck.ensures in
    let g3 = cut_grows w.types W.types w.store W.store X m c.requires.world.typed g2 c.mark-mark.ensures.has c.mark-mark.ensures.bindings c.mark-mark.ensures.nodes c.mark-mark.ensures.cells back.bindings back.nodes back.cells c.mark-mark.ensures.typed back.typed back.marks in
    let before = cut_as_before w.types W.types w.store W.store X m c.requires.world.typed g2 c.mark-mark.ensures.has c.mark-mark.ensures.bindings c.mark-mark.ensures.nodes c.mark-mark.ensures.cells back.bindings back.nodes back.cells in
    let none = before.2 ∙ c.requires.world.unbound in
    grown_to w end c.requires.world c.solve_alternative.ensures.additions g3 none

pub returns-in-Ok-Stuck-clause-declared : goal.returns-in-Ok-Stuck-clause-declared
returns-in-Ok-Stuck-clause-declared g c =
    let w = c.args.world.now in
    let W = c.solve_alternative.new.world in
    let X = c.cut_to-in-Ok-Stuck.new.self in
    let end : World = record { types = W.types; store = X; additions = W.additions } in
    let g2 = grows_on w.types c.make_alternative.new.types W.types w.store c.make_alternative.new.store W.store c.make_alternative.ensures.grows c.solve_alternative.ensures.grows in
    let m = c.mark-mark.result in
    let back = c.cut_to-in-Ok-Stuck.ensures in
    let g3 = cut_grows w.types W.types w.store W.store X m c.requires.world.typed g2 c.mark-mark.ensures.has c.mark-mark.ensures.bindings c.mark-mark.ensures.nodes c.mark-mark.ensures.cells back.bindings back.nodes back.cells c.mark-mark.ensures.typed back.typed back.marks in
    let before = cut_as_before w.types W.types w.store W.store X m c.requires.world.typed g2 c.mark-mark.ensures.has c.mark-mark.ensures.bindings c.mark-mark.ensures.nodes c.mark-mark.ensures.cells back.bindings back.nodes back.cells in
    let none = before.2 ∙ c.requires.world.unbound in
    declared_to w end c.requires.world c.solve_alternative.ensures.additions g3

pub returns-clause-grown : goal.returns-clause-grown
returns-clause-grown g c =
    let w = c.args.world.now in
    let W = c.solve_alternative.new.world in
    let X = c.rewind-in-Err.new.self in
    let g2 = grows_on w.types c.make_alternative.new.types W.types w.store c.make_alternative.new.store W.store c.make_alternative.ensures.grows c.solve_alternative.ensures.grows in
    let m = c.mark-mark.result in
    let back = c.rewind-in-Err.ensures in
    let g3 = restored.undone_grows w.types W.types w.store W.store X g2 m c.mark-mark.ensures.has c.mark-mark.ensures.bindings back.nodes back.cells back.bindings (back.typed W.types g2.typed) back.marks in
    g3

pub returns-clause-grows : goal.returns-clause-grows
returns-clause-grows g c =
    let w = c.args.world.now in
    let W = c.solve_alternative.new.world in
    let X = c.rewind-in-Err.new.self in
    let end : World = record { types = W.types; store = X; additions = W.additions } in
    let g2 = grows_on w.types c.make_alternative.new.types W.types w.store c.make_alternative.new.store W.store c.make_alternative.ensures.grows c.solve_alternative.ensures.grows in
    let m = c.mark-mark.result in
    let back = c.rewind-in-Err.ensures in
    let g3 = restored.undone_grows w.types W.types w.store W.store X g2 m c.mark-mark.ensures.has c.mark-mark.ensures.bindings back.nodes back.cells back.bindings (back.typed W.types g2.typed) back.marks in
    let none = restored.undone_bindings w.types W.types w.store W.store X g2 m c.mark-mark.ensures.has c.mark-mark.ensures.bindings back.nodes back.cells back.bindings (back.typed W.types g2.typed) back.marks ∙ c.requires.world.unbound in
    grown_to w end c.requires.world c.solve_alternative.ensures.additions g3 none

pub returns-clause-declared : goal.returns-clause-declared
returns-clause-declared g c =
    let w = c.args.world.now in
    let W = c.solve_alternative.new.world in
    let X = c.rewind-in-Err.new.self in
    let end : World = record { types = W.types; store = X; additions = W.additions } in
    let g2 = grows_on w.types c.make_alternative.new.types W.types w.store c.make_alternative.new.store W.store c.make_alternative.ensures.grows c.solve_alternative.ensures.grows in
    let m = c.mark-mark.result in
    let back = c.rewind-in-Err.ensures in
    let g3 = restored.undone_grows w.types W.types w.store W.store X g2 m c.mark-mark.ensures.has c.mark-mark.ensures.bindings back.nodes back.cells back.bindings (back.typed W.types g2.typed) back.marks in
    let none = restored.undone_bindings w.types W.types w.store W.store X g2 m c.mark-mark.ensures.has c.mark-mark.ensures.bindings back.nodes back.cells back.bindings (back.typed W.types g2.typed) back.marks ∙ c.requires.world.unbound in
    declared_to w end c.requires.world c.solve_alternative.ensures.additions g3
