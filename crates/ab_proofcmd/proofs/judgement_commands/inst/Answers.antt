use Rattle.std.specs.Prelude.{◌≡◌, None, map}
use Rattle.std.specs.Option.{option_map}
use Rattle.std.proofs.Common.{refl, sym, ◌∙◌, ap, subst}
use Rattle.ab_grammar.specs.CommandTrees as told
use Rattle.ab_syntax.specs.Commands.{instance_of}
use Rattle.ab_logic.specs.SequentReadings.{sequent_of}
use Rattle.ab_logic.specs.Worlds.{declarations_of}
use Rattle.ab_equations.specs.Labels.{label_of}
use Rattle.ab_theory.specs.Steps.{spec_instance}
use Rattle.ab_hypothesis.specs.ab_steps.specs.ab_kernel.specs.Layout.{history_of}
use Rattle.ab_hypothesis.specs.ab_steps.specs.ab_kernel.specs.ab_rules.specs.RuleAnswers.{replacements}
use Rattle.ab_hypothesis.specs.ab_steps.specs.ab_kernel.proofs.Later.{same_history, still_proof}
use Rattle.ab_effects.specs.ProofCommands.{clashing}
use Rattle.ab_meaning.specs.Refusals.{clash}
use Rattle.ab_hypothesis.specs.ab_steps.specs.ProofEffects.{IsApplied, IsRefused}
use Rattle.ab_hypothesis.specs.ab_steps.specs.Progress.{Took}
use Rattle.ab_hypothesis.specs.ab_steps.proofs.Following.{follows_on}
use Rattle.ab_proofcmd.specs.ReplacedConstants.{MayReplace}
use Rattle.ab_proofcmd.proofs.Given.{same_fault}
use Rattle.ab_proofcmd.proofs.Carried.{first_sequent, refused_at}
use Rattle.ab_proofcmd.proofs.JudgementRows.{MayInst, inst_applied, inst_refused}
use Rattle.ab_proofcmd.proofs.Rows.{same_goals, follows_world, on_ok, on_err, on_err_so}
use Rattle.ab_proofcmd.proofs.judgement_commands.inst.Goals as goal

pub read_replaces-requires-clause-sequent : goal.read_replaces-requires-clause-sequent
read_replaces-requires-clause-sequent g c =
    let w = c.args.world.now in
    first_sequent w c.requires.world c.args.proof.now c.requires.proof c.requires.open (sequent_of w c.first_goal-goal.result.now) c.first_goal-goal.ensures.reads

pub returns-in_err-replaces-clause-follows : goal.returns-in_err-replaces-clause-follows
returns-in_err-replaces-clause-follows g c = follows_world c.args.world.now c.read_replaces.new.world c.args.proof.now c.read_replaces.ensures.grows c.read_replaces.ensures.declared c.requires.proof

pub returns-in_err-replaces-clause-refused : goal.returns-in_err-replaces-clause-refused
returns-in_err-replaces-clause-refused g c fault same =
    let w = c.args.world.now in
    let l = label_of c.args.label.now in
    let cause = c.in_err-replaces.field-0.0 in
    let command = told.inst c.args.name.now (map instance_of c.args.instances.now) in
    let free : clashing l (sequent_of w c.first_goal-goal.result.now) ≡ None = sym (c.in_ok-clash.ensures w) ∙ ap (option_map clash) c.in_default.is in
    subst (IsRefused l command w c.args.proof.now) (same_fault c.from_residual-in_err-replaces.result cause fault c.from_residual-in_err-replaces.ensures.1 same)
    (refused_at w c.args.proof.now (sequent_of w c.first_goal-goal.result.now) c.first_goal-goal.ensures.reads l command cause (c.in_err-replaces.ensures.refused cause refl l free))

pub returns-in_err-replaces-clause-unchanged : goal.returns-in_err-replaces-clause-unchanged
returns-in_err-replaces-clause-unchanged g c =
    on_err _ c.from_residual-in_err-replaces.result (same_history c.args.world.now c.read_replaces.new.world c.read_replaces.ensures.grows c.args.proof.now c.requires.proof)

pub put_terms-requires-clause-proof : goal.put_terms-requires-clause-proof
put_terms-requires-clause-proof g c = still_proof c.args.world.now c.read_replaces.new.world c.read_replaces.ensures.grows c.read_replaces.ensures.declared c.args.proof.now c.requires.proof

pub put_terms-requires-clause-open : goal.put_terms-requires-clause-open
put_terms-requires-clause-open g c none =
    c.requires.open (sym (same_goals c.args.world.now c.read_replaces.new.world c.args.proof.now c.read_replaces.ensures.grows c.requires.proof) ∙ none)

pub returns-clause-follows : goal.returns-clause-follows
returns-clause-follows g c =
    follows_on c.args.world.now c.read_replaces.new.world c.put_terms.new.world c.args.proof.now c.args.proof.now c.put_terms.new.proof
    (follows_world c.args.world.now c.read_replaces.new.world c.args.proof.now c.read_replaces.ensures.grows c.read_replaces.ensures.declared c.requires.proof) c.put_terms.ensures.follows

pub returns-clause-applied : goal.returns-clause-applied
returns-clause-applied g c =
    let w = c.args.world.now in
    let m = c.read_replaces.new.world in
    let p = c.args.proof.now in
    let l = label_of c.args.label.now in
    let H = c.args.name.now in
    let is = map instance_of c.args.instances.now in
    let rs = replacements m c.in_ok-replaces.replaces in
    let may : MayInst w p l H is rs = λ s rest first.
    let here = c.first_goal-goal.ensures.reads s rest first in
    (ap (clashing l) (sym here) ∙ sym (c.in_ok-clash.ensures w) ∙ ap (option_map clash) c.in_default.is, subst (λ k. MayReplace (declarations_of w) H is k rs) here c.in_ok-replaces.ensures.may) in
    on_ok (Took m p c.put_terms.new.world c.put_terms.new.proof 0 (spec_instance H rs l)) (IsApplied l (told.inst H is) w p c.put_terms.new.world c.put_terms.new.proof) c.put_terms.result
    (inst_applied w m p c.read_replaces.ensures.declared (same_goals w m p c.read_replaces.ensures.grows c.requires.proof) l H is rs may c.put_terms.new.world c.put_terms.new.proof)
    c.put_terms.ensures.took

pub returns-clause-refused : goal.returns-clause-refused
returns-clause-refused g c fault e =
    let w = c.args.world.now in
    let m = c.read_replaces.new.world in
    let p = c.args.proof.now in
    let l = label_of c.args.label.now in
    let H = c.args.name.now in
    let is = map instance_of c.args.instances.now in
    let rs = replacements m c.in_ok-replaces.replaces in
    let may : MayInst w p l H is rs = λ s rest first.
    let here = c.first_goal-goal.ensures.reads s rest first in
    (ap (clashing l) (sym here) ∙ sym (c.in_ok-clash.ensures w) ∙ ap (option_map clash) c.in_default.is, subst (λ k. MayReplace (declarations_of w) H is k rs) here c.in_ok-replaces.ensures.may) in
    inst_refused w m p c.read_replaces.ensures.declared (same_goals w m p c.read_replaces.ensures.grows c.requires.proof) l H is rs may fault (c.put_terms.ensures.refused fault e)

pub returns-clause-unchanged : goal.returns-clause-unchanged
returns-clause-unchanged g c =
    let w = c.args.world.now in
    let m = c.read_replaces.new.world in
    let p = c.args.proof.now in
    on_err_so (history_of c.put_terms.new.world c.put_terms.new.proof ≡ history_of m p) (history_of c.put_terms.new.world c.put_terms.new.proof ≡ history_of w p) c.put_terms.result
    (λ same. same ∙ same_history w m c.read_replaces.ensures.grows p c.requires.proof) c.put_terms.ensures.unchanged
