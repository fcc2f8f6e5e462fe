use Rattle.std.specs.Prelude.{Contains}
use Rattle.std.specs.List.{All}
use Rattle.std.proofs.Common.{◌≡◌, ◌++◌, length, take, refl, sym, ◌∙◌, ap, subst}
use Rattle.std.proofs.lemmas.List.Elements.{All-weaker, All-contains, Contains-append_left, Contains-append_right}
use Rattle.ab_term.proofs.Lists.{All-from_contains}
use Rattle.ab_norm.specs.ab_store.specs.declared.node.CellId.{CellId}
use Rattle.ab_unify.specs.StoreChanges.{IsFree}
use Rattle.ab_unify.specs.Problem.{cells_read}
use Rattle.ab_unify.proofs.Growth.{grows_on}
use Rattle.ab_unify.specs.UnifyAnswers.{IsTypedPair}
use Rattle.ab_formulas.specs.NewNames.{IsNamedFor}
use Rattle.ab_logic.specs.Worlds.{HoldsCell, declarations_of}
use Rattle.ab_logic.specs.SequentReadings.{sequent_of}
use Rattle.ab_theory.specs.Splits.{Case, Arises, NeverArises, IsOpen}
use Rattle.ab_equations.specs.Meanwhile.{case_read}
use Rattle.ab_alternatives.specs.LeftAlternatives.{case_put}
use Rattle.ab_alternatives.proofs.one_alternative.solve_alternative.Given.{Over}
use Rattle.ab_alternatives.proofs.Solved.{u, meanwhile, declared, goal_formulas, same_pair, is_free, case_so}
use Rattle.ab_alternatives.proofs.one_alternative.solve_alternative.Goals as goal

pub solve_case-requires-clause-world : goal.solve_case-requires-clause-world
solve_case-requires-clause-world g c =
    meanwhile c.args.world.now c.bind_raised.new.store c.requires.world c.bind_raised.ensures.grows c.bind_raised.ensures.nodes c.bind_raised.ensures.cells

-- the case that stands there is that with what is put in
same : (g : Over) (c : goal.After-drop-flexible-2 g) → case_read (u c.args.world.now c.bind_raised.new.store c.requires.world c.bind_raised.ensures.grows c.bind_raised.ensures.nodes c.bind_raised.ensures.cells) c.args.made.now.equations.items (c.args.made.now.raised.cells.items ++ c.args.made.now.own.items) c.args.made.now.own.items c.args.goal
    ≡ case_put c.args.world.now c.args.variables.now c.args.made.now c.args.goal
same g c =
    case_so c.args.world.now c.bind_raised.new.store c.requires.world c.bind_raised.ensures.grows c.bind_raised.ensures.nodes c.bind_raised.ensures.cells c.args.variables.now c.args.made.now c.args.goal
    (c.args.made.now.raised.cells.items ++ c.args.made.now.own.items) c.in_ok-bind_raised.ensures.reads refl c.requires.equations c.requires.held c.requires.formulas

pub returns-clause-unified : goal.returns-clause-unified
returns-clause-unified g c r e =
    let w = c.args.world.now in
    let S = c.bind_raised.new.store in
    let d = declared w S c.requires.world c.bind_raised.ensures.grows c.bind_raised.ensures.nodes c.bind_raised.ensures.cells in
    let x = c.solve_case.new.world in
    let U = u w S c.requires.world c.bind_raised.ensures.grows c.bind_raised.ensures.nodes c.bind_raised.ensures.cells in
    let made = c.args.made.now in
    let flexible = made.raised.cells.items ++ made.own.items in
    subst (λ D. Arises (IsNamedFor D) (case_put w c.args.variables.now made c.args.goal) (cells_read x.types x.store) (sequent_of x r)) d
    (subst (λ k. Arises (IsNamedFor (declarations_of U)) k (cells_read x.types x.store) (sequent_of x r)) (same g c)
    (subst (λ l. Arises (IsNamedFor (declarations_of U)) (case_read U made.equations.items flexible l c.args.goal) (cells_read x.types x.store) (sequent_of x r)) c.deref-5.ensures.value
    (subst (λ l. Arises (IsNamedFor (declarations_of U)) (case_read U made.equations.items l c.deref-5.result.now c.args.goal) (cells_read x.types x.store) (sequent_of x r)) (c.deref-4.ensures.value ∙ c.in_ok-flexible.ensures ∙ ap (λ l. l ++ c.deref-2.result.now) c.deref.ensures.value ∙ ap (λ l. made.raised.cells.items ++ l) c.deref-2.ensures.value)
    (subst (λ l. Arises (IsNamedFor (declarations_of U)) (case_read U l c.deref-4.result.now c.deref-5.result.now c.args.goal) (cells_read x.types x.store) (sequent_of x r)) c.deref-3.ensures.value
    (c.solve_case.ensures.unified r e)))))

-- the same of what isn't unified
told : (g : Over) (c : goal.After-drop-flexible-2 g) (P : Case → Type 0)
    → P (case_read (u c.args.world.now c.bind_raised.new.store c.requires.world c.bind_raised.ensures.grows c.bind_raised.ensures.nodes c.bind_raised.ensures.cells) c.deref-3.result.now c.deref-4.result.now c.deref-5.result.now c.args.goal)
    → P (case_put c.args.world.now c.args.variables.now c.args.made.now c.args.goal)
told g c P h =
    let w = c.args.world.now in
    let U = u w c.bind_raised.new.store c.requires.world c.bind_raised.ensures.grows c.bind_raised.ensures.nodes c.bind_raised.ensures.cells in
    let made = c.args.made.now in
    subst P (same g c)
    (subst (λ l. P (case_read U made.equations.items (made.raised.cells.items ++ made.own.items) l c.args.goal)) c.deref-5.ensures.value
    (subst (λ l. P (case_read U made.equations.items l c.deref-5.result.now c.args.goal)) (c.deref-4.ensures.value ∙ c.in_ok-flexible.ensures ∙ ap (λ l. l ++ c.deref-2.result.now) c.deref.ensures.value ∙ ap (λ l. made.raised.cells.items ++ l) c.deref-2.ensures.value)
    (subst (λ l. P (case_read U l c.deref-4.result.now c.deref-5.result.now c.args.goal)) c.deref-3.ensures.value h)))

pub returns-clause-apart : goal.returns-clause-apart
returns-clause-apart g c e = told g c NeverArises (c.solve_case.ensures.apart e)

pub returns-clause-stuck : goal.returns-clause-stuck
returns-clause-stuck g c i e = told g c (λ k. IsOpen k i) (c.solve_case.ensures.stuck i e)

pub returns-clause-grows : goal.returns-clause-grows
returns-clause-grows g c =
    grows_on c.args.world.now.types c.args.world.now.types c.solve_case.new.world.types c.args.world.now.store c.bind_raised.new.store c.solve_case.new.world.store c.bind_raised.ensures.grows c.solve_case.ensures.back.grows

pub solve_case-requires-clause-formulas : goal.solve_case-requires-clause-formulas
solve_case-requires-clause-formulas g c =
    goal_formulas c.args.world.now c.bind_raised.new.store c.requires.world c.bind_raised.ensures.grows c.bind_raised.ensures.nodes c.bind_raised.ensures.cells c.args.goal c.requires.formulas

pub solve_case-requires-clause-equations : goal.solve_case-requires-clause-equations
solve_case-requires-clause-equations g c =
    let w = c.args.world.now in
    subst (All (IsTypedPair w.types c.bind_raised.new.store)) (sym c.deref-3.ensures.value)
    (All-weaker (IsTypedPair w.types w.store) (IsTypedPair w.types c.bind_raised.new.store) (same_pair w c.bind_raised.new.store c.requires.world c.bind_raised.ensures.grows c.bind_raised.ensures.nodes c.bind_raised.ensures.cells)
    c.args.made.now.equations.items c.requires.equations)

pub solve_case-requires-clause-variables : goal.solve_case-requires-clause-variables
solve_case-requires-clause-variables g c =
    let w = c.args.world.now in
    let made = c.args.made.now in
    let bound = take (length made.raised.terms.items) c.args.variables.now in
    subst (All (IsFree c.bind_raised.new.store)) (sym c.requires.over)
    (All-from_contains (IsFree c.bind_raised.new.store) made.raised.cells.items
    (λ d m.
    let h = All-contains (λ (k : CellId). HoldsCell w k × ¬ Contains bound k) (made.raised.cells.items ++ made.own.items) d c.requires.free (Contains-append_left made.raised.cells.items made.own.items d m) in
    is_free w c.bind_raised.new.store c.requires.world c.bind_raised.ensures.grows c.bind_raised.ensures.nodes c.bind_raised.ensures.cells bound made.raised.terms.items c.in_ok-bind_raised.ensures.bound d h.0 h.1))

pub solve_case-requires-clause-flexible : goal.solve_case-requires-clause-flexible
solve_case-requires-clause-flexible g c =
    let w = c.args.world.now in
    let made = c.args.made.now in
    let bound = take (length made.raised.terms.items) c.args.variables.now in
    subst (All (IsFree c.bind_raised.new.store)) (sym (c.deref-4.ensures.value ∙ c.in_ok-flexible.ensures ∙ ap (λ l. l ++ c.deref-2.result.now) c.deref.ensures.value ∙ ap (λ l. made.raised.cells.items ++ l) c.deref-2.ensures.value))
    (All-weaker (λ (k : CellId). HoldsCell w k × ¬ Contains bound k) (IsFree c.bind_raised.new.store)
    (λ d h. is_free w c.bind_raised.new.store c.requires.world c.bind_raised.ensures.grows c.bind_raised.ensures.nodes c.bind_raised.ensures.cells bound made.raised.terms.items c.in_ok-bind_raised.ensures.bound d h.0 h.1)
    (made.raised.cells.items ++ made.own.items) c.requires.free)

pub solve_case-requires-clause-own_flexible : goal.solve_case-requires-clause-own_flexible
solve_case-requires-clause-own_flexible g c =
    let made = c.args.made.now in
    let whole : c.deref-4.result.now ≡ made.raised.cells.items ++ made.own.items =
    c.deref-4.ensures.value ∙ c.in_ok-flexible.ensures ∙ ap (λ l. l ++ c.deref-2.result.now) c.deref.ensures.value ∙ ap (λ l. made.raised.cells.items ++ l) c.deref-2.ensures.value in
    subst (λ l. All (Contains c.deref-4.result.now) l) (sym c.deref-5.ensures.value)
    (All-from_contains (Contains c.deref-4.result.now) made.own.items (λ d m. subst (λ l. Contains l d) (sym whole) (Contains-append_right made.raised.cells.items made.own.items d m)))
