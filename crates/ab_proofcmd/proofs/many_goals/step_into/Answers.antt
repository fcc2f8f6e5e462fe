use Rattle.std.specs.Prelude.{Ok}
use Rattle.std.proofs.Common.{◌≡◌, refl, rules}
use Rattle.ab_logic.proofs.Growing.{grows_not}
use Rattle.ab_theory.specs.Derivations.{debts_of}
use Rattle.ab_hypothesis.specs.ab_steps.specs.declared.goal_steps.Attempted.TheVariants.{Taken}
use Rattle.ab_hypothesis.specs.ab_steps.specs.ab_kernel.specs.ab_rules.specs.RuleAnswers.{step_of}
use Rattle.ab_hypothesis.specs.ab_steps.proofs.Following.{by_same}
use Rattle.ab_proofcmd.proofs.Places.{gives_so}
use Rattle.ab_proofcmd.proofs.many_goals.step_into.Goals as goal

pub returns-then-premises-count-clause-gives : goal.returns-then-premises-count-clause-gives
returns-then-premises-count-clause-gives g c =
    let taken : c.attempt_solving.result ≡ Ok (Taken c.args.count) = search rules in
    gives_so c.args.world.now c.attempt_solving.new.world c.args.proof.now c.attempt_solving.new.proof c.args.place c.args.count (step_of c.args.world.now c.args.step) (c.attempt_solving.ensures.took c.args.count taken)

pub returns-then-premises-count-clause-owes : goal.returns-then-premises-count-clause-owes
returns-then-premises-count-clause-owes g c =
    let taken : c.attempt_solving.result ≡ Ok (Taken c.args.count) = search rules in
    c.attempt_solving.ensures.owes c.args.count taken

pub returns-then-place-open_goals-clause-follows : goal.returns-then-place-open_goals-clause-follows
returns-then-place-open_goals-clause-follows g c =
    let w = c.args.world.now in
    by_same (debts_of (step_of w c.args.step)) w w c.args.proof.now c.args.proof.now (grows_not w c.requires.world) refl c.requires.proof c.requires.proof refl
