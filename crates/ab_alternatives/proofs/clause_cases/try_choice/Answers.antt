use Rattle.std.proofs.Common.{◌≡◌, Ok, ◌∙◌, ap}
use Rattle.ab_theory.specs.Splits.{CaseOver}
use Rattle.ab_equations.specs.declared.cases.CaseSolution.TheVariants.{Stuck}
use Rattle.ab_logic.specs.SequentReadings.{sequent_of}
use Rattle.ab_theory.specs.Analysis.{case_of}
use Rattle.ab_alternatives.specs.AtomReadings.{defined_read, choice_read}
use Rattle.ab_alternatives.specs.CaseSteps.{IsLater}
use Rattle.ab_alternatives.proofs.Later.{taken_by, defines}
use Rattle.ab_alternatives.proofs.Passed.{passed_never, passed_goal, stopped_here}
use Rattle.ab_alternatives.proofs.clause_cases.try_choice.Goals as goal

pub try_case-requires-clause-taken : goal.try_case-requires-clause-taken
try_case-requires-clause-taken g c = taken_by c.args.world.now c.requires.ready.world c.args.atom.now c.requires.ready.typed

pub try_case-requires-clause-defining : goal.try_case-requires-clause-defining
try_case-requires-clause-defining g c = defines c.args.world.now c.requires.ready.world c.args.clause.now c.requires.clause

pub returns-in_ok-push-in-Unified-clause-passed : goal.returns-in_ok-push-in-Unified-clause-passed
returns-in_ok-push-in-Unified-clause-passed g c = λ e.
    let w = c.args.world.now in
    let v = c.try_case.new.world in
    let later : IsLater w v = record { grown = c.try_case.ensures.grown; additions = c.try_case.ensures.additions; grows = c.try_case.ensures.grows; declared = c.try_case.ensures.declared } in
    let the_case : CaseOver = case_of (sequent_of w c.args.goal.now) (sequent_of w c.args.rest.now) c.args.name.now (defined_read w c.args.atom.now) (choice_read w c.args.clause.now c.args.names.now) in
    passed_goal w v later c.args.goals.now.items c.push.new.self.items c.in-Unified.premise c.in_ok-push-in-Unified.ensures.items c.requires.goals
    (c.try_case.ensures.held c.in-Unified.premise (c.in_ok-premise.was ∙ ap (λ q. Ok q) c.in-Unified.is)) the_case
    (c.try_case.ensures.unified c.in-Unified.premise (c.in_ok-premise.was ∙ ap (λ q. Ok q) c.in-Unified.is))

pub returns-in-Apart-clause-passed : goal.returns-in-Apart-clause-passed
returns-in-Apart-clause-passed g c = λ e.
    let w = c.args.world.now in
    let v = c.try_case.new.world in
    let later : IsLater w v = record { grown = c.try_case.ensures.grown; additions = c.try_case.ensures.additions; grows = c.try_case.ensures.grows; declared = c.try_case.ensures.declared } in
    let the_case : CaseOver = case_of (sequent_of w c.args.goal.now) (sequent_of w c.args.rest.now) c.args.name.now (defined_read w c.args.atom.now) (choice_read w c.args.clause.now c.args.names.now) in
    passed_never w v later c.args.goals.now.items c.requires.goals the_case
    (c.try_case.ensures.apart (c.in_ok-premise.was ∙ ap (λ q. Ok q) c.in-Apart.is)) (c.try_case.ensures.no_cell (c.in_ok-premise.was ∙ ap (λ q. Ok q) c.in-Apart.is))

pub returns-in-Stuck-clause-stopped : goal.returns-in-Stuck-clause-stopped
returns-in-Stuck-clause-stopped g c = λ i e.
    let w = c.args.world.now in
    let the_case : CaseOver = case_of (sequent_of w c.args.goal.now) (sequent_of w c.args.rest.now) c.args.name.now (defined_read w c.args.atom.now) (choice_read w c.args.clause.now c.args.names.now) in
    let place : c.in-Stuck.place ≡ i = cc in
    stopped_here w the_case i (c.try_case.ensures.stuck i (c.in_ok-premise.was ∙ ap (λ q. Ok q) c.in-Stuck.is ∙ ap (λ n. Ok (Stuck n)) place))
