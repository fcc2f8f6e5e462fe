use Rattle.std.proofs.Common.{refl, sym, ◌∙◌, subst}
use Rattle.ab_grammar.specs.CommandTrees as told
use Rattle.ab_steps.specs.ab_kernel.proofs.Later.{same_history, still_proof}
use Rattle.ab_steps.specs.ProofEffects.{IsRefused}
use Rattle.ab_steps.proofs.Following.{follows_on}
use Rattle.ab_conclusion.proofs.Sizes.{same_fault}
use Rattle.ab_conclusion.proofs.UnfoldingGoals.{same_goals, follows_world, applied_there, on_err}
use Rattle.ab_conclusion.proofs.unfoldings.unfold.Goals as goal

pub returns-in_err-place-clause-follows : goal.returns-in_err-place-clause-follows
returns-in_err-place-clause-follows g c =
    follows_world c.args.world.now c.find_way.new.world c.args.proof.now c.find_way.ensures.grows c.find_way.ensures.declared c.requires.proof

pub returns-in_err-place-clause-refused : goal.returns-in_err-place-clause-refused
returns-in_err-place-clause-refused g c fault e l =
    subst (IsRefused l told.unfold_goal c.args.world.now c.args.proof.now) (same_fault c.from_residual.result c.in_err-place.field-0.0 fault c.from_residual.ensures.1 e)
    (c.in_err-place.ensures.refused c.in_err-place.field-0.0 refl l)

pub returns-in_err-place-clause-unchanged : goal.returns-in_err-place-clause-unchanged
returns-in_err-place-clause-unchanged g c =
    on_err _ c.from_residual.result (same_history c.args.world.now c.find_way.new.world c.find_way.ensures.grows c.args.proof.now c.requires.proof)

pub unfold_by-requires-clause-proof : goal.unfold_by-requires-clause-proof
unfold_by-requires-clause-proof g c = still_proof c.args.world.now c.find_way.new.world c.find_way.ensures.grows c.find_way.ensures.declared c.args.proof.now c.requires.proof

pub unfold_by-requires-clause-open : goal.unfold_by-requires-clause-open
unfold_by-requires-clause-open g c =
    let same = same_goals c.args.world.now c.find_way.new.world c.args.proof.now c.find_way.ensures.grows c.find_way.ensures.declared c.requires.proof in
    λ none. c.requires.open (sym same ∙ none)

pub returns-in_err-unfold_by-clause-follows : goal.returns-in_err-unfold_by-clause-follows
returns-in_err-unfold_by-clause-follows g c =
    follows_on c.args.world.now c.find_way.new.world c.unfold_by.new.world c.args.proof.now c.args.proof.now c.unfold_by.new.proof
    (follows_world c.args.world.now c.find_way.new.world c.args.proof.now c.find_way.ensures.grows c.find_way.ensures.declared c.requires.proof) c.unfold_by.ensures.follows

pub returns-in_err-unfold_by-clause-unchanged : goal.returns-in_err-unfold_by-clause-unchanged
returns-in_err-unfold_by-clause-unchanged g c =
    on_err _ c.from_residual-in_err-unfold_by.result
    (c.in_err-unfold_by.ensures.unchanged ∙ same_history c.args.world.now c.find_way.new.world c.find_way.ensures.grows c.args.proof.now c.requires.proof)

pub returns-clause-follows : goal.returns-clause-follows
returns-clause-follows g c =
    follows_on c.args.world.now c.find_way.new.world c.unfold_by.new.world c.args.proof.now c.args.proof.now c.unfold_by.new.proof
    (follows_world c.args.world.now c.find_way.new.world c.args.proof.now c.find_way.ensures.grows c.find_way.ensures.declared c.requires.proof) c.unfold_by.ensures.follows

pub returns-clause-applied : goal.returns-clause-applied
returns-clause-applied g c l =
    applied_there c.args.world.now c.find_way.new.world c.args.proof.now c.find_way.ensures.grows c.find_way.ensures.declared c.requires.proof c.unfold_by.new.world c.unfold_by.new.proof l
    (c.in_ok-unfold_by.ensures.applied l)
