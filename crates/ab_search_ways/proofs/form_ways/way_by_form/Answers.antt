use Rattle.std.proofs.Common.{[], ◌∷◌, sym, ap, subst}
use Rattle.std.specs.Prelude.{slice_get, Some}
use Rattle.std.specs.Prelude.{IfOk}
use Rattle.ab_formulas.specs.Forms.{Form}
use Rattle.ab_logic.specs.Worlds.{read, declarations_of}
use Rattle.ab_search_trees.specs.Goals as tree
use Rattle.ab_search_trees.specs.Ways.{leading_to, equating, in_turn, by_form}
use Rattle.ab_search_ways.specs.GoalReadings.{goal_read}
use Rattle.ab_search_ways.specs.MadeWays.{MakesWayAt}
use Rattle.ab_search_ways.proofs.TypedScopes.{scope_of_nabla, scope_of_exists, scope_of_for_all}
use Rattle.ab_search_ways.proofs.form_ways.way_by_form.Goals as goal

pub by_nabla-requires-clause-body : goal.by_nabla-requires-clause-body
by_nabla-requires-clause-body g c = scope_of_nabla c.args.world.now c.args.goal.now.conclusion c.in-Nabla.body c.in-Nabla.ty c.requires.conclusion c.in-Nabla.ensures.held c.in-Nabla.ensures.reads

pub by_exists-requires-clause-body : goal.by_exists-requires-clause-body
by_exists-requires-clause-body g c = scope_of_exists c.args.world.now c.args.goal.now.conclusion c.in-Exists.body c.in-Exists.ty c.requires.conclusion c.in-Exists.ensures.held c.in-Exists.ensures.reads

pub by_for_all-requires-clause-body : goal.by_for_all-requires-clause-body
by_for_all-requires-clause-body g c = scope_of_for_all c.args.world.now c.args.goal.now.conclusion c.in-Forall.body c.in-Forall.ty c.requires.conclusion c.in-Forall.ensures.held c.in-Forall.ensures.reads

pub returns-in_ok-way_by_equation-in-Equal-clause-made : goal.returns-in_ok-way_by_equation-in-Equal-clause-made
returns-in_ok-way_by_equation-in-Equal-clause-made g c = λ base now aside stands.
    let w = c.args.world.now in
    let k = goal_read w base c.args.goal.now in
    let D = declarations_of w in (
      equating D now k (read w c.in-Equal.left) (read w c.in-Equal.right) [],
      ap (λ f. slice_get (by_form D now k f) 0) (sym c.in-Equal.ensures.reads),
      c.in_ok-way_by_equation-in-Equal.ensures base now aside stands,
    )

pub returns-in_ok-by_both-in-And-clause-made : goal.returns-in_ok-by_both-in-And-clause-made
returns-in_ok-by_both-in-And-clause-made g c = λ base now aside stands.
    let w = c.args.world.now in
    let k = goal_read w base c.args.goal.now in
    let D = declarations_of w in (
      leading_to D now k (in_turn k.member_first (tree.asking (read w c.in-And.left) k) (tree.asking (read w c.in-And.right) k)),
      ap (λ f. slice_get (by_form D now k f) 0) (sym c.in-And.ensures.reads),
      c.in_ok-by_both-in-And.ensures base now aside stands,
    )

pub returns-in_ok-way_to_conclusion-in-Or-clause-made : goal.returns-in_ok-way_to_conclusion-in-Or-clause-made
returns-in_ok-way_to_conclusion-in-Or-clause-made g c = λ base now aside stands.
    let w = c.args.world.now in
    let k = goal_read w base c.args.goal.now in
    let D = declarations_of w in (
      leading_to D now k (tree.asking (read w c.in-Or.left) k ∷ []),
      ap (λ f. slice_get (by_form D now k f) 0) (sym c.in-Or.ensures.reads),
      c.in_ok-way_to_conclusion-in-Or.ensures base now aside stands,
    )

pub returns-in_ok-by_implication-in-Arrow-clause-made : goal.returns-in_ok-by_implication-in-Arrow-clause-made
returns-in_ok-by_implication-in-Arrow-clause-made g c = λ base now aside stands.
    let w = c.args.world.now in
    let k = goal_read w base c.args.goal.now in
    let D = declarations_of w in (
      leading_to D now k (tree.asking (read w c.in-Arrow.asked) (tree.assuming (read w c.in-Arrow.given) k) ∷ []),
      ap (λ f. slice_get (by_form D now k f) 0) (sym c.in-Arrow.ensures.reads),
      c.in_ok-by_implication-in-Arrow.ensures base now aside stands,
    )

pub returns-in_ok-by_nabla-in-Nabla-clause-made : goal.returns-in_ok-by_nabla-in-Nabla-clause-made
returns-in_ok-by_nabla-in-Nabla-clause-made g c =
    let w = c.args.world.now in
    subst (λ (f : Form). MakesWayAt w c.args.flexible.now c.args.goal.now (λ now k. by_form (declarations_of w) now k f) 0 c.by_nabla.new.world (Some c.in_ok-by_nabla-in-Nabla.field-0)) c.in-Nabla.ensures.reads c.in_ok-by_nabla-in-Nabla.ensures.made

pub returns-in_ok-by_exists-in-Exists-clause-made : goal.returns-in_ok-by_exists-in-Exists-clause-made
returns-in_ok-by_exists-in-Exists-clause-made g c =
    let w = c.args.world.now in
    subst (λ (f : Form). MakesWayAt w c.args.flexible.now c.args.goal.now (λ now k. by_form (declarations_of w) now k f) 0 c.by_exists.new.world (Some c.in_ok-by_exists-in-Exists.field-0)) c.in-Exists.ensures.reads c.in_ok-by_exists-in-Exists.ensures.made

pub returns-in-Forall-clause-made : goal.returns-in-Forall-clause-made
returns-in-Forall-clause-made g c =
    let w = c.args.world.now in
    subst (λ (f : Form). IfOk c.by_for_all.result (MakesWayAt w c.args.flexible.now c.args.goal.now (λ now k. by_form (declarations_of w) now k f) 0 c.by_for_all.new.world)) c.in-Forall.ensures.reads c.by_for_all.ensures.made

pub returns-in-Other-clause-made : goal.returns-in-Other-clause-made
returns-in-Other-clause-made g c =
    let w = c.args.world.now in
    subst (λ (f : Form). IfOk c.by_layer.result (MakesWayAt w c.args.flexible.now c.args.goal.now (λ now k. by_form (declarations_of w) now k f) 0 c.by_layer.new.world)) c.in-Other.ensures.reads c.by_layer.ensures.made
