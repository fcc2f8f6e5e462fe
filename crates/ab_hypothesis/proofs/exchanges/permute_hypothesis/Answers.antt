use Rattle.std.proofs.Common.{◌≡◌, Some, [], ◌∷◌, sym, ◌∙◌, ap, subst}
use Rattle.ab_term.specs.Names as tree
use Rattle.ab_norm.specs.ab_types.specs.Ids.{type_of}
use Rattle.ab_formulas.specs.Sequents.{Sequent, formula_of, goal_names, assuming, without}
use Rattle.ab_logic.specs.Worlds.{declarations_of, read}
use Rattle.ab_formulas.specs.Cycles.{cycle}
use Rattle.ab_logic.specs.SequentReadings.{sequent_of}
use Rattle.ab_sequents.specs.NameTypes.{IsCommon}
use Rattle.ab_sequents.specs.declared.name_types.Standing.TheVariants.{At}
use Rattle.ab_steps.specs.ab_kernel.specs.Layout.{goals_of}
use Rattle.ab_steps.proofs.Following.{first_at, one_at_least}
use Rattle.ab_hypothesis.proofs.ExchangeRows.{hypothesis_leads}
use Rattle.ab_hypothesis.proofs.exchanges.permute_hypothesis.Goals as goal

pub turn_hypothesis-requires-clause-there : goal.turn_hypothesis-requires-clause-there
turn_hypothesis-requires-clause-there g c =
    let w = c.args.world.now in
    let p = c.args.proof.now in
    let one = one_at_least (goals_of w p) c.requires.open in
    record {
      before = [];
      behind = one.1;
      goal = one.0;
      at = first_at w p one.0 one.1 one.2;
      has = ap (λ s. formula_of s c.args.name.now) (sym (c.first_goal-goal.ensures.reads one.0 one.1 one.2)) ∙ sym (c.in-Some-look.ensures.reads w);
    }

pub turn_hypothesis-requires-clause-cycles : goal.turn_hypothesis-requires-clause-cycles
turn_hypothesis-requires-clause-cycles g c s rest goals =
    let w = c.args.world.now in
    let common = subst (IsCommon w.types c.args.numbers.now (goal_names (sequent_of w c.first_goal-goal.result.now))) c.in-At.is c.in_ok-standing.ensures in
    let here = subst (λ k. IsCommon w.types c.args.numbers.now (goal_names k) (At c.in-At.ty)) (c.first_goal-goal.ensures.reads s rest goals) common in
    (here.0, here.2)

pub returns-in_ok-turn_hypothesis-in-Some-look-clause-applied : goal.returns-in_ok-turn_hypothesis-in-Some-look-clause-applied
returns-in_ok-turn_hypothesis-in-Some-look-clause-applied g c l s rest goals =
    let w = c.args.world.now in
    let ns = c.args.numbers.now in
    let x = c.args.name.now in
    let F = read w c.in-Some-look.hypothesis in
    let here = c.first_goal-goal.ensures.reads s rest goals in
    let has : formula_of s x ≡ Some F = ap (λ k. formula_of k x) (sym here) ∙ sym (c.in-Some-look.ensures.reads w) in
    let common = subst (λ k. IsCommon w.types ns (goal_names k) c.in_ok-standing.standing) here c.in_ok-standing.ensures in (
      assuming x (tree.permute (cycle (type_of w.types c.in-At.ty) ns) F) (without x s) ∷ [],
      hypothesis_leads w.types (declarations_of w) l ns s c.in_ok-standing.standing common c.in-At.ty c.in-At.is x F has,
      c.in_ok-turn_hypothesis-in-Some-look.ensures.turned s rest goals,
    )
