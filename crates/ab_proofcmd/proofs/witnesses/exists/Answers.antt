use Rattle.std.specs.Prelude.{◌≡◌, Err}
use Rattle.std.proofs.Common.{sym, ◌∙◌, ap, subst}
use Rattle.ab_grammar.specs.CommandTrees as told
use Rattle.ab_syntax.specs.ab_expressions.specs.SyntaxTrees.{tree_of}
use Rattle.ab_norm.specs.ab_types.specs.Ids.{type_of}
use Rattle.ab_formulas.specs.Forms.{as_exists}
use Rattle.ab_formulas.specs.Sequents.{Sequent, IsSequent, Fits}
use Rattle.ab_logic.specs.Worlds.{read, declarations_of}
use Rattle.ab_hypothesis.specs.ab_steps.specs.ab_kernel.proofs.Later.{same_history, still_proof}
use Rattle.ab_meaning.specs.Terms.{Means}
use Rattle.ab_effects.specs.ProofCommands.{effect}
use Rattle.ab_hypothesis.specs.ab_steps.specs.ProofEffects.{RefusedBy}
use Rattle.ab_hypothesis.specs.ab_steps.specs.ab_kernel.specs.Layout.{goals_of}
use Rattle.ab_hypothesis.specs.ab_steps.proofs.Following.{some_goal, one_at_least, follows_on}
use Rattle.ab_proofcmd.specs.GoalExpressions.{IsReadAs}
use Rattle.ab_hypothesis.specs.ab_steps.specs.ab_kernel.proofs.GoalSequents.{first_is_sequent}
use Rattle.ab_proofcmd.proofs.Rows.{same_goals, follows_world, on_err, exists_sure, exists_applied, exists_refused}
use Rattle.ab_proofcmd.proofs.witnesses.exists.Goals as goal

pub read_term-requires-clause-sequent : goal.read_term-requires-clause-sequent
read_term-requires-clause-sequent g c =
    let w = c.args.world.now in
    let p = c.args.proof.now in
    let one = one_at_least (goals_of w p) c.requires.open in
    subst (IsSequent (declarations_of w)) (sym (c.first_goal-goal.ensures.reads one.0 one.1 one.2)) (first_is_sequent w p c.requires.world c.requires.proof one.0 one.1 one.2)

pub surely-requires-clause-proof : goal.surely-requires-clause-proof
surely-requires-clause-proof g c = still_proof c.args.world.now c.read_term.new.world c.read_term.ensures.grows c.read_term.ensures.declared c.args.proof.now c.requires.proof

pub surely-requires-clause-place : goal.surely-requires-clause-place
surely-requires-clause-place g c =
    let same = same_goals c.args.world.now c.read_term.new.world c.args.proof.now c.read_term.ensures.grows c.requires.proof in
    some_goal _ (λ none. c.requires.open (sym same ∙ none))

pub surely-requires-clause-sure : goal.surely-requires-clause-sure
surely-requires-clause-sure g c =
    let w = c.args.world.now in
    let m = c.read_term.new.world in
    let e = tree_of c.args.term.now in
    let A = type_of w.types c.in-Some.ty in
    let t = read m c.in-Ok.given in
    exists_sure w m c.args.proof.now c.read_term.ensures.declared (same_goals w m c.args.proof.now c.read_term.ensures.grows c.requires.proof) e A t
    (λ s rest first.
    let here = c.first_goal-goal.ensures.reads s rest first in (
      read w c.in-Some.field-0-1,
      ap (λ (k : Sequent). as_exists k.conclusion) (sym here) ∙ sym c.in-Some.ensures.reads,
      subst (λ k. Means (declarations_of w) k e A t) here c.in-Ok.ensures.reads.0,
      subst (λ k. Fits (declarations_of w) k t A) here c.in-Ok.ensures.reads.1,
    ))

pub returns-in_err-surely-in-Ok-clause-follows : goal.returns-in_err-surely-in-Ok-clause-follows
returns-in_err-surely-in-Ok-clause-follows g c =
    follows_on c.args.world.now c.read_term.new.world c.surely.new.world c.args.proof.now c.args.proof.now c.surely.new.proof
    (follows_world c.args.world.now c.read_term.new.world c.args.proof.now c.read_term.ensures.grows c.read_term.ensures.declared c.requires.proof) c.surely.ensures.follows

pub returns-in_err-surely-in-Ok-clause-unchanged : goal.returns-in_err-surely-in-Ok-clause-unchanged
returns-in_err-surely-in-Ok-clause-unchanged g c =
    on_err _ c.from_residual.result (c.in_err-surely-in-Ok.ensures.unchanged ∙ same_history c.args.world.now c.read_term.new.world c.read_term.ensures.grows c.args.proof.now c.requires.proof)

pub returns-in_ok-surely-in-Ok-clause-follows : goal.returns-in_ok-surely-in-Ok-clause-follows
returns-in_ok-surely-in-Ok-clause-follows g c =
    follows_on c.args.world.now c.read_term.new.world c.surely.new.world c.args.proof.now c.args.proof.now c.surely.new.proof
    (follows_world c.args.world.now c.read_term.new.world c.args.proof.now c.read_term.ensures.grows c.read_term.ensures.declared c.requires.proof) c.surely.ensures.follows

pub returns-in_ok-surely-in-Ok-clause-applied : goal.returns-in_ok-surely-in-Ok-clause-applied
returns-in_ok-surely-in-Ok-clause-applied g c l s rest first =
    let w = c.args.world.now in
    let m = c.read_term.new.world in
    let e = tree_of c.args.term.now in
    let A = type_of w.types c.in-Some.ty in
    let t = read m c.in-Ok.given in
    exists_applied w m c.args.proof.now c.read_term.ensures.declared (same_goals w m c.args.proof.now c.read_term.ensures.grows c.requires.proof) e A t
    (λ s rest first.
    let here = c.first_goal-goal.ensures.reads s rest first in (
      read w c.in-Some.field-0-1,
      ap (λ (k : Sequent). as_exists k.conclusion) (sym here) ∙ sym c.in-Some.ensures.reads,
      subst (λ k. Means (declarations_of w) k e A t) here c.in-Ok.ensures.reads.0,
      subst (λ k. Fits (declarations_of w) k t A) here c.in-Ok.ensures.reads.1,
    ))
    c.surely.new.world c.surely.new.proof c.in_ok-surely-in-Ok.ensures.took l s rest first

pub returns-in-Err-clause-follows : goal.returns-in-Err-clause-follows
returns-in-Err-clause-follows g c =
    follows_world c.args.world.now c.read_term.new.world c.args.proof.now c.read_term.ensures.grows c.read_term.ensures.declared c.requires.proof

pub returns-in-Err-clause-unchanged : goal.returns-in-Err-clause-unchanged
returns-in-Err-clause-unchanged g c = same_history c.args.world.now c.read_term.new.world c.read_term.ensures.grows c.args.proof.now c.requires.proof

pub returns-in-Err-clause-refused : goal.returns-in-Err-clause-refused
returns-in-Err-clause-refused g c fault same l s rest first =
    let w = c.args.world.now in
    let m = c.read_term.new.world in
    let D = declarations_of w in
    let e = tree_of c.args.term.now in
    let A = type_of w.types c.in-Some.ty in
    let here = c.first_goal-goal.ensures.reads s rest first in
    let is : c.fault_for.result ≡ fault = cc in
    subst (RefusedBy (effect D l (told.exists e) s)) (sym c.fault_for.ensures ∙ is)
    (exists_refused D m l s e A (read w c.in-Some.field-0-1) c.in-Err.fault (ap (λ (k : Sequent). as_exists k.conclusion) (sym here) ∙ sym c.in-Some.ensures.reads)
    (subst (λ k. IsReadAs D k e A m (Err c.in-Err.fault)) here c.in-Err.ensures.reads))
