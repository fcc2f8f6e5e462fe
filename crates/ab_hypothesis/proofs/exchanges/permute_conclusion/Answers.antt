use Rattle.std.proofs.Common.{◌≡◌, None, [], ◌∷◌, sym, ◌∙◌, ap, subst}
use Rattle.ab_term.specs.Names as tree
use Rattle.ab_norm.specs.ab_types.specs.Ids.{type_of}
use Rattle.ab_grammar.specs.CommandTrees as told
use Rattle.ab_logic.specs.SequentReadings.{sequent_of}
use Rattle.ab_formulas.specs.Sequents.{Sequent, goal_names, proving}
use Rattle.ab_logic.specs.Worlds.{declarations_of}
use Rattle.ab_formulas.specs.Cycles.{cycle}
use Rattle.ab_sequents.specs.NameTypes.{IsCommon}
use Rattle.ab_sequents.specs.declared.name_types.Standing.TheVariants.{At}
use Rattle.ab_effects.specs.ProofCommands.{effect}
use Rattle.ab_steps.specs.ProofEffects.{RefusedBy}
use Rattle.ab_steps.specs.declared.fault.ProofCommandFault.TheVariants.{TypeClash, WrongShape}
use Rattle.ab_hypothesis.proofs.ExchangeRows.{mixed_refused, nowhere_refused, conclusion_leads}
use Rattle.ab_hypothesis.proofs.exchanges.permute_conclusion.Goals as goal

pub returns-in-Mixed-clause-refused : goal.returns-in-Mixed-clause-refused
returns-in-Mixed-clause-refused g c fault e l s rest goals =
    let w = c.args.world.now in
    let ns = c.args.numbers.now in
    let is : TypeClash 0 ≡ fault = cc in
    let common = subst (λ x. IsCommon w.types ns (goal_names x) c.in_ok-standing.standing) (c.first_goal-goal.ensures.reads s rest goals) c.in_ok-standing.ensures in
    subst (RefusedBy (effect (declarations_of w) l (told.permute ns None) s)) is (mixed_refused w.types (declarations_of w) l ns s c.in_ok-standing.standing common c.in-Mixed.is None)

pub returns-in-Nowhere-clause-refused : goal.returns-in-Nowhere-clause-refused
returns-in-Nowhere-clause-refused g c fault e l s rest goals =
    let w = c.args.world.now in
    let ns = c.args.numbers.now in
    let is : WrongShape ≡ fault = cc in
    let common = subst (λ x. IsCommon w.types ns (goal_names x) c.in_ok-standing.standing) (c.first_goal-goal.ensures.reads s rest goals) c.in_ok-standing.ensures in
    subst (RefusedBy (effect (declarations_of w) l (told.permute ns None) s)) is (nowhere_refused w.types (declarations_of w) l ns s c.in_ok-standing.standing common c.in-Nowhere.is)

pub turn_conclusion-requires-clause-ty : goal.turn_conclusion-requires-clause-ty
turn_conclusion-requires-clause-ty g c =
    let w = c.args.world.now in
    (subst (IsCommon w.types c.args.numbers.now (goal_names (sequent_of w c.first_goal-goal.result.now))) c.in-At.is c.in_ok-standing.ensures).1

pub turn_conclusion-requires-clause-there : goal.turn_conclusion-requires-clause-there
turn_conclusion-requires-clause-there g c s rest goals = ap (λ (k : Sequent). k.conclusion) (sym (c.first_goal-goal.ensures.reads s rest goals))

pub turn_conclusion-requires-clause-cycles : goal.turn_conclusion-requires-clause-cycles
turn_conclusion-requires-clause-cycles g c s rest goals =
    let w = c.args.world.now in
    let common = subst (IsCommon w.types c.args.numbers.now (goal_names (sequent_of w c.first_goal-goal.result.now))) c.in-At.is c.in_ok-standing.ensures in
    let here = subst (λ k. IsCommon w.types c.args.numbers.now (goal_names k) (At c.in-At.ty)) (c.first_goal-goal.ensures.reads s rest goals) common in
    (here.0, here.2)

pub returns-in_ok-turn_conclusion-in-At-clause-applied : goal.returns-in_ok-turn_conclusion-in-At-clause-applied
returns-in_ok-turn_conclusion-in-At-clause-applied g c l s rest goals =
    let w = c.args.world.now in
    let ns = c.args.numbers.now in
    let here = c.first_goal-goal.ensures.reads s rest goals in
    let common = subst (λ x. IsCommon w.types ns (goal_names x) c.in_ok-standing.standing) here c.in_ok-standing.ensures in
    let A = type_of w.types c.in-At.ty in (
      proving (tree.permute (cycle A ns) s.conclusion) s ∷ [],
      conclusion_leads w.types (declarations_of w) l ns s c.in_ok-standing.standing common c.in-At.ty c.in-At.is,
      c.in_ok-turn_conclusion-in-At.ensures.turned s rest goals ∙ ap (λ (k : Sequent). proving (tree.permute (cycle A ns) k.conclusion) s ∷ rest) here,
    )
