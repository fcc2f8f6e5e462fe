use Rattle.std.proofs.Common.{◌++◌, ◌∙◌, ap, subst}
use Rattle.ab_unify.specs.Problem.{cells_read}
use Rattle.ab_formulas.specs.NewNames.{IsNamedFor}
use Rattle.ab_logic.specs.Worlds.{declarations_of}
use Rattle.ab_logic.specs.SequentReadings.{sequent_of}
use Rattle.ab_theory.specs.Splits.{Arises, NeverArises, IsOpen}
use Rattle.ab_theory.specs.JudgementCases.{judgement_case}
use Rattle.ab_alternatives.specs.LeftAlternatives.{goal_for}
use Rattle.ab_alternatives.specs.ab_equations.proofs.Going.{world_meanwhile}
use Rattle.ab_alternatives.specs.ab_equations.proofs.Restored as restored
use Rattle.ab_alternatives.proofs.Passed.{later_on}
use Rattle.ab_judgements.proofs.LaterJudgements.{made_later}
use Rattle.ab_judgements.proofs.CaseTries as tries
use Rattle.ab_judgements.proofs.CaseTries.{IsTried}
use Rattle.ab_judgements.proofs.rule_cases.solve_rule.Goals as goal

pub solve_case-requires-clause-world : goal.solve_case-requires-clause-world
solve_case-requires-clause-world g c = world_meanwhile c.make_demand.new.world c.make_demand.ensures.grows.world

pub solve_case-requires-clause-held : goal.solve_case-requires-clause-held
solve_case-requires-clause-held g c =
    let w = c.args.world.now in
    let v = c.make_demand.new.world in
    let vs = c.as_slice-variables.result.now in
    let t : IsTried w v c.args.ruled.now c.args.rule.now c.args.goal.now c.args.rest.now c.args.name.now c.deref-3.result.now c.deref-4.result.now c.deref-5.result.now c.in_ok-over.over =
    record {
      ready = c.requires.ready;
      rule = c.requires.rule;
      mark = _;
      below = c.mark_below-mark.ensures;
      made = c.in_ok-made.made;
      demanded = c.in_ok-made.ensures.made;
      grows = c.make_demand.ensures.grown;
      additions = c.make_demand.ensures.additions;
      unbound = c.make_demand.ensures.grows.world.unbound;
      equations = c.deref-3.ensures.value;
      flexible = c.deref-4.ensures.value ∙ c.in_ok-flexible.ensures ∙ ap (λ l. l ++ c.deref-2.result.now) c.as_slice-variables.ensures ∙ ap (λ l. c.args.goal.now.variables ++ l) c.deref-2.ensures.value;
      own_is = c.deref-5.ensures.value;
      over = c.in_ok-over.ensures ∙ ap (λ l. goal_for c.args.rest.now l c.args.name.now c.in_ok-made.made.body) c.as_slice-variables.ensures;
    } in
    tries.goal_held w v c.args.ruled.now c.args.rule.now c.args.goal.now c.args.rest.now c.args.name.now c.deref-3.result.now c.deref-4.result.now c.deref-5.result.now c.in_ok-over.over t

pub solve_case-requires-clause-formulas : goal.solve_case-requires-clause-formulas
solve_case-requires-clause-formulas g c =
    let w = c.args.world.now in
    let v = c.make_demand.new.world in
    let vs = c.as_slice-variables.result.now in
    let t : IsTried w v c.args.ruled.now c.args.rule.now c.args.goal.now c.args.rest.now c.args.name.now c.deref-3.result.now c.deref-4.result.now c.deref-5.result.now c.in_ok-over.over =
    record {
      ready = c.requires.ready;
      rule = c.requires.rule;
      mark = _;
      below = c.mark_below-mark.ensures;
      made = c.in_ok-made.made;
      demanded = c.in_ok-made.ensures.made;
      grows = c.make_demand.ensures.grown;
      additions = c.make_demand.ensures.additions;
      unbound = c.make_demand.ensures.grows.world.unbound;
      equations = c.deref-3.ensures.value;
      flexible = c.deref-4.ensures.value ∙ c.in_ok-flexible.ensures ∙ ap (λ l. l ++ c.deref-2.result.now) c.as_slice-variables.ensures ∙ ap (λ l. c.args.goal.now.variables ++ l) c.deref-2.ensures.value;
      own_is = c.deref-5.ensures.value;
      over = c.in_ok-over.ensures ∙ ap (λ l. goal_for c.args.rest.now l c.args.name.now c.in_ok-made.made.body) c.as_slice-variables.ensures;
    } in
    tries.goal_formulas w v c.args.ruled.now c.args.rule.now c.args.goal.now c.args.rest.now c.args.name.now c.deref-3.result.now c.deref-4.result.now c.deref-5.result.now c.in_ok-over.over t

pub solve_case-requires-clause-variables : goal.solve_case-requires-clause-variables
solve_case-requires-clause-variables g c =
    let w = c.args.world.now in
    let v = c.make_demand.new.world in
    let vs = c.as_slice-variables.result.now in
    let t : IsTried w v c.args.ruled.now c.args.rule.now c.args.goal.now c.args.rest.now c.args.name.now c.deref-3.result.now c.deref-4.result.now c.deref-5.result.now c.in_ok-over.over =
    record {
      ready = c.requires.ready;
      rule = c.requires.rule;
      mark = _;
      below = c.mark_below-mark.ensures;
      made = c.in_ok-made.made;
      demanded = c.in_ok-made.ensures.made;
      grows = c.make_demand.ensures.grown;
      additions = c.make_demand.ensures.additions;
      unbound = c.make_demand.ensures.grows.world.unbound;
      equations = c.deref-3.ensures.value;
      flexible = c.deref-4.ensures.value ∙ c.in_ok-flexible.ensures ∙ ap (λ l. l ++ c.deref-2.result.now) c.as_slice-variables.ensures ∙ ap (λ l. c.args.goal.now.variables ++ l) c.deref-2.ensures.value;
      own_is = c.deref-5.ensures.value;
      over = c.in_ok-over.ensures ∙ ap (λ l. goal_for c.args.rest.now l c.args.name.now c.in_ok-made.made.body) c.as_slice-variables.ensures;
    } in
    tries.goal_free w v c.args.ruled.now c.args.rule.now c.args.goal.now c.args.rest.now c.args.name.now c.deref-3.result.now c.deref-4.result.now c.deref-5.result.now c.in_ok-over.over t

pub solve_case-requires-clause-before : goal.solve_case-requires-clause-before
solve_case-requires-clause-before g c =
    let w = c.args.world.now in
    let v = c.make_demand.new.world in
    let vs = c.as_slice-variables.result.now in
    let t : IsTried w v c.args.ruled.now c.args.rule.now c.args.goal.now c.args.rest.now c.args.name.now c.deref-3.result.now c.deref-4.result.now c.deref-5.result.now c.in_ok-over.over =
    record {
      ready = c.requires.ready;
      rule = c.requires.rule;
      mark = _;
      below = c.mark_below-mark.ensures;
      made = c.in_ok-made.made;
      demanded = c.in_ok-made.ensures.made;
      grows = c.make_demand.ensures.grown;
      additions = c.make_demand.ensures.additions;
      unbound = c.make_demand.ensures.grows.world.unbound;
      equations = c.deref-3.ensures.value;
      flexible = c.deref-4.ensures.value ∙ c.in_ok-flexible.ensures ∙ ap (λ l. l ++ c.deref-2.result.now) c.as_slice-variables.ensures ∙ ap (λ l. c.args.goal.now.variables ++ l) c.deref-2.ensures.value;
      own_is = c.deref-5.ensures.value;
      over = c.in_ok-over.ensures ∙ ap (λ l. goal_for c.args.rest.now l c.args.name.now c.in_ok-made.made.body) c.as_slice-variables.ensures;
    } in
    tries.goal_before w v c.args.ruled.now c.args.rule.now c.args.goal.now c.args.rest.now c.args.name.now c.deref-3.result.now c.deref-4.result.now c.deref-5.result.now c.in_ok-over.over t

pub solve_case-requires-clause-equations : goal.solve_case-requires-clause-equations
solve_case-requires-clause-equations g c =
    let w = c.args.world.now in
    let v = c.make_demand.new.world in
    let vs = c.as_slice-variables.result.now in
    let t : IsTried w v c.args.ruled.now c.args.rule.now c.args.goal.now c.args.rest.now c.args.name.now c.deref-3.result.now c.deref-4.result.now c.deref-5.result.now c.in_ok-over.over =
    record {
      ready = c.requires.ready;
      rule = c.requires.rule;
      mark = _;
      below = c.mark_below-mark.ensures;
      made = c.in_ok-made.made;
      demanded = c.in_ok-made.ensures.made;
      grows = c.make_demand.ensures.grown;
      additions = c.make_demand.ensures.additions;
      unbound = c.make_demand.ensures.grows.world.unbound;
      equations = c.deref-3.ensures.value;
      flexible = c.deref-4.ensures.value ∙ c.in_ok-flexible.ensures ∙ ap (λ l. l ++ c.deref-2.result.now) c.as_slice-variables.ensures ∙ ap (λ l. c.args.goal.now.variables ++ l) c.deref-2.ensures.value;
      own_is = c.deref-5.ensures.value;
      over = c.in_ok-over.ensures ∙ ap (λ l. goal_for c.args.rest.now l c.args.name.now c.in_ok-made.made.body) c.as_slice-variables.ensures;
    } in
    tries.equations_typed w v c.args.ruled.now c.args.rule.now c.args.goal.now c.args.rest.now c.args.name.now c.deref-3.result.now c.deref-4.result.now c.deref-5.result.now c.in_ok-over.over t

pub solve_case-requires-clause-flexible : goal.solve_case-requires-clause-flexible
solve_case-requires-clause-flexible g c =
    let w = c.args.world.now in
    let v = c.make_demand.new.world in
    let vs = c.as_slice-variables.result.now in
    let t : IsTried w v c.args.ruled.now c.args.rule.now c.args.goal.now c.args.rest.now c.args.name.now c.deref-3.result.now c.deref-4.result.now c.deref-5.result.now c.in_ok-over.over =
    record {
      ready = c.requires.ready;
      rule = c.requires.rule;
      mark = _;
      below = c.mark_below-mark.ensures;
      made = c.in_ok-made.made;
      demanded = c.in_ok-made.ensures.made;
      grows = c.make_demand.ensures.grown;
      additions = c.make_demand.ensures.additions;
      unbound = c.make_demand.ensures.grows.world.unbound;
      equations = c.deref-3.ensures.value;
      flexible = c.deref-4.ensures.value ∙ c.in_ok-flexible.ensures ∙ ap (λ l. l ++ c.deref-2.result.now) c.as_slice-variables.ensures ∙ ap (λ l. c.args.goal.now.variables ++ l) c.deref-2.ensures.value;
      own_is = c.deref-5.ensures.value;
      over = c.in_ok-over.ensures ∙ ap (λ l. goal_for c.args.rest.now l c.args.name.now c.in_ok-made.made.body) c.as_slice-variables.ensures;
    } in
    tries.all_free w v c.args.ruled.now c.args.rule.now c.args.goal.now c.args.rest.now c.args.name.now c.deref-3.result.now c.deref-4.result.now c.deref-5.result.now c.in_ok-over.over t

pub solve_case-requires-clause-own : goal.solve_case-requires-clause-own
solve_case-requires-clause-own g c =
    let w = c.args.world.now in
    let v = c.make_demand.new.world in
    let vs = c.as_slice-variables.result.now in
    let t : IsTried w v c.args.ruled.now c.args.rule.now c.args.goal.now c.args.rest.now c.args.name.now c.deref-3.result.now c.deref-4.result.now c.deref-5.result.now c.in_ok-over.over =
    record {
      ready = c.requires.ready;
      rule = c.requires.rule;
      mark = _;
      below = c.mark_below-mark.ensures;
      made = c.in_ok-made.made;
      demanded = c.in_ok-made.ensures.made;
      grows = c.make_demand.ensures.grown;
      additions = c.make_demand.ensures.additions;
      unbound = c.make_demand.ensures.grows.world.unbound;
      equations = c.deref-3.ensures.value;
      flexible = c.deref-4.ensures.value ∙ c.in_ok-flexible.ensures ∙ ap (λ l. l ++ c.deref-2.result.now) c.as_slice-variables.ensures ∙ ap (λ l. c.args.goal.now.variables ++ l) c.deref-2.ensures.value;
      own_is = c.deref-5.ensures.value;
      over = c.in_ok-over.ensures ∙ ap (λ l. goal_for c.args.rest.now l c.args.name.now c.in_ok-made.made.body) c.as_slice-variables.ensures;
    } in
    tries.own_last w v c.args.ruled.now c.args.rule.now c.args.goal.now c.args.rest.now c.args.name.now c.deref-3.result.now c.deref-4.result.now c.deref-5.result.now c.in_ok-over.over t

pub solve_case-requires-clause-own_flexible : goal.solve_case-requires-clause-own_flexible
solve_case-requires-clause-own_flexible g c =
    let w = c.args.world.now in
    let v = c.make_demand.new.world in
    let vs = c.as_slice-variables.result.now in
    let t : IsTried w v c.args.ruled.now c.args.rule.now c.args.goal.now c.args.rest.now c.args.name.now c.deref-3.result.now c.deref-4.result.now c.deref-5.result.now c.in_ok-over.over =
    record {
      ready = c.requires.ready;
      rule = c.requires.rule;
      mark = _;
      below = c.mark_below-mark.ensures;
      made = c.in_ok-made.made;
      demanded = c.in_ok-made.ensures.made;
      grows = c.make_demand.ensures.grown;
      additions = c.make_demand.ensures.additions;
      unbound = c.make_demand.ensures.grows.world.unbound;
      equations = c.deref-3.ensures.value;
      flexible = c.deref-4.ensures.value ∙ c.in_ok-flexible.ensures ∙ ap (λ l. l ++ c.deref-2.result.now) c.as_slice-variables.ensures ∙ ap (λ l. c.args.goal.now.variables ++ l) c.deref-2.ensures.value;
      own_is = c.deref-5.ensures.value;
      over = c.in_ok-over.ensures ∙ ap (λ l. goal_for c.args.rest.now l c.args.name.now c.in_ok-made.made.body) c.as_slice-variables.ensures;
    } in
    tries.own_flexible w v c.args.ruled.now c.args.rule.now c.args.goal.now c.args.rest.now c.args.name.now c.deref-3.result.now c.deref-4.result.now c.deref-5.result.now c.in_ok-over.over t

pub returns-clause-unified : goal.returns-clause-unified
returns-clause-unified g c = λ r e.
    let w = c.args.world.now in
    let v = c.make_demand.new.world in
    let vs = c.as_slice-variables.result.now in
    let t : IsTried w v c.args.ruled.now c.args.rule.now c.args.goal.now c.args.rest.now c.args.name.now c.deref-3.result.now c.deref-4.result.now c.deref-5.result.now c.in_ok-over.over =
    record {
      ready = c.requires.ready;
      rule = c.requires.rule;
      mark = _;
      below = c.mark_below-mark.ensures;
      made = c.in_ok-made.made;
      demanded = c.in_ok-made.ensures.made;
      grows = c.make_demand.ensures.grown;
      additions = c.make_demand.ensures.additions;
      unbound = c.make_demand.ensures.grows.world.unbound;
      equations = c.deref-3.ensures.value;
      flexible = c.deref-4.ensures.value ∙ c.in_ok-flexible.ensures ∙ ap (λ l. l ++ c.deref-2.result.now) c.as_slice-variables.ensures ∙ ap (λ l. c.args.goal.now.variables ++ l) c.deref-2.ensures.value;
      own_is = c.deref-5.ensures.value;
      over = c.in_ok-over.ensures ∙ ap (λ l. goal_for c.args.rest.now l c.args.name.now c.in_ok-made.made.body) c.as_slice-variables.ensures;
    } in
    let y = c.solve_case.new.world in
    let k = judgement_case (sequent_of w c.args.goal.now) (sequent_of w c.args.rest.now) c.args.name.now (tries.J w v c.args.ruled.now c.args.rule.now c.args.goal.now c.args.rest.now c.args.name.now c.deref-3.result.now c.deref-4.result.now c.deref-5.result.now c.in_ok-over.over t) (tries.R w v c.args.ruled.now c.args.rule.now c.args.goal.now c.args.rest.now c.args.name.now c.deref-3.result.now c.deref-4.result.now c.deref-5.result.now c.in_ok-over.over t) (cells_read w.types w.store) in
    subst (λ D. Arises (IsNamedFor D) k (cells_read y.types y.store) (sequent_of y r)) (restored.declarations_same w v (world_meanwhile w c.requires.ready.ruled.world) c.make_demand.ensures.grown c.make_demand.ensures.additions)
    (subst (λ q. Arises (IsNamedFor (declarations_of v)) q (cells_read y.types y.store) (sequent_of y r)) (tries.the_case w v c.args.ruled.now c.args.rule.now c.args.goal.now c.args.rest.now c.args.name.now c.deref-3.result.now c.deref-4.result.now c.deref-5.result.now c.in_ok-over.over t) (c.solve_case.ensures.unified r e))

pub returns-clause-apart : goal.returns-clause-apart
returns-clause-apart g c = λ e.
    let w = c.args.world.now in
    let v = c.make_demand.new.world in
    let vs = c.as_slice-variables.result.now in
    let t : IsTried w v c.args.ruled.now c.args.rule.now c.args.goal.now c.args.rest.now c.args.name.now c.deref-3.result.now c.deref-4.result.now c.deref-5.result.now c.in_ok-over.over =
    record {
      ready = c.requires.ready;
      rule = c.requires.rule;
      mark = _;
      below = c.mark_below-mark.ensures;
      made = c.in_ok-made.made;
      demanded = c.in_ok-made.ensures.made;
      grows = c.make_demand.ensures.grown;
      additions = c.make_demand.ensures.additions;
      unbound = c.make_demand.ensures.grows.world.unbound;
      equations = c.deref-3.ensures.value;
      flexible = c.deref-4.ensures.value ∙ c.in_ok-flexible.ensures ∙ ap (λ l. l ++ c.deref-2.result.now) c.as_slice-variables.ensures ∙ ap (λ l. c.args.goal.now.variables ++ l) c.deref-2.ensures.value;
      own_is = c.deref-5.ensures.value;
      over = c.in_ok-over.ensures ∙ ap (λ l. goal_for c.args.rest.now l c.args.name.now c.in_ok-made.made.body) c.as_slice-variables.ensures;
    } in
    subst NeverArises (tries.the_case w v c.args.ruled.now c.args.rule.now c.args.goal.now c.args.rest.now c.args.name.now c.deref-3.result.now c.deref-4.result.now c.deref-5.result.now c.in_ok-over.over t) (c.solve_case.ensures.apart e)

pub returns-clause-stuck : goal.returns-clause-stuck
returns-clause-stuck g c = λ i e.
    let w = c.args.world.now in
    let v = c.make_demand.new.world in
    let vs = c.as_slice-variables.result.now in
    let t : IsTried w v c.args.ruled.now c.args.rule.now c.args.goal.now c.args.rest.now c.args.name.now c.deref-3.result.now c.deref-4.result.now c.deref-5.result.now c.in_ok-over.over =
    record {
      ready = c.requires.ready;
      rule = c.requires.rule;
      mark = _;
      below = c.mark_below-mark.ensures;
      made = c.in_ok-made.made;
      demanded = c.in_ok-made.ensures.made;
      grows = c.make_demand.ensures.grown;
      additions = c.make_demand.ensures.additions;
      unbound = c.make_demand.ensures.grows.world.unbound;
      equations = c.deref-3.ensures.value;
      flexible = c.deref-4.ensures.value ∙ c.in_ok-flexible.ensures ∙ ap (λ l. l ++ c.deref-2.result.now) c.as_slice-variables.ensures ∙ ap (λ l. c.args.goal.now.variables ++ l) c.deref-2.ensures.value;
      own_is = c.deref-5.ensures.value;
      over = c.in_ok-over.ensures ∙ ap (λ l. goal_for c.args.rest.now l c.args.name.now c.in_ok-made.made.body) c.as_slice-variables.ensures;
    } in
    subst (λ q. IsOpen q i) (tries.the_case w v c.args.ruled.now c.args.rule.now c.args.goal.now c.args.rest.now c.args.name.now c.deref-3.result.now c.deref-4.result.now c.deref-5.result.now c.in_ok-over.over t) (c.solve_case.ensures.stuck i e)

pub returns-in_err-made-clause-later : goal.returns-in_err-made-clause-later
returns-in_err-made-clause-later g c = made_later c.args.world.now c.make_demand.new.world c.make_demand.ensures.grown c.make_demand.ensures.additions c.make_demand.ensures.grows c.requires.ready.ruled.world

pub returns-in_err-flexible-clause-later : goal.returns-in_err-flexible-clause-later
returns-in_err-flexible-clause-later g c = made_later c.args.world.now c.make_demand.new.world c.make_demand.ensures.grown c.make_demand.ensures.additions c.make_demand.ensures.grows c.requires.ready.ruled.world

pub returns-in_err-over-clause-later : goal.returns-in_err-over-clause-later
returns-in_err-over-clause-later g c = made_later c.args.world.now c.make_demand.new.world c.make_demand.ensures.grown c.make_demand.ensures.additions c.make_demand.ensures.grows c.requires.ready.ruled.world

pub returns-clause-later : goal.returns-clause-later
returns-clause-later g c =
    let w = c.args.world.now in
    let v = c.make_demand.new.world in
    let y = c.solve_case.new.world in
    let back = c.solve_case.ensures.back in
    later_on w v y (made_later w v c.make_demand.ensures.grown c.make_demand.ensures.additions c.make_demand.ensures.grows c.requires.ready.ruled.world)
    (record { grown = back.grows; additions = back.additions; grows = restored.came_back v y c.make_demand.ensures.grows.world back; declared = c.solve_case.ensures.declared })
