use Rattle.std.proofs.Common.{◌≡◌, is_some, refl, sym, ap, subst}
use Rattle.std.specs.Option.{option_copied}
use Rattle.ab_syntax.specs.Commands.{proof_command_of}
use Rattle.ab_effects.specs.ProofCommands.{given_label}
use Rattle.ab_proofcmd.specs.ab_hypothesis.specs.ab_steps.specs.ab_kernel.specs.Layout.{history_of}
use Rattle.ab_proofcmd.specs.ab_hypothesis.specs.ab_steps.proofs.Following.{nothing_left}
use Rattle.ab_proofcmd.specs.ab_hypothesis.specs.ab_steps.specs.Progress.{Advances}
use Rattle.ab_session.specs.ProofAttempts.{IsDenied}
use Rattle.ab_session.proofs.Carried.{has_more, at_some, on_error, stayed, went_on, still_open, completed, refused_so}
use Rattle.ab_session.proofs.attempt_steps.advance.Goals as goal

pub cut_back-requires : goal.cut_back-requires
cut_back-requires g c =
    (c.args.world.now, c.requires.world, c.of-moment.ensures, has_more c.args.world.now c.carry_out.new.world c.args.attempt.now.proof c.carry_out.new.proof c.carry_out.ensures.advances)

pub returns-in-Some-clause-advanced : goal.returns-in-Some-clause-advanced
returns-in-Some-clause-advanced g c =
    let w = c.args.world.now in
    let v = c.carry_out.new.world in
    let p = c.args.attempt.now.proof in
    let q = c.carry_out.new.proof in
    let l = given_label (option_copied c.args.label) in
    let told = proof_command_of c.args.command.now in
    refused_so l told w c.cut_back.new.world c.args.attempt.now q c.in-Some.refusal c.requires.world
    (at_some (IsDenied l told w p) c.in_ok-refused.refused c.in-Some.refusal c.in-Some.is c.in_ok-refused.ensures.denied)
    (c.cut_back.ensures.restored w c.requires.world c.of-moment.ensures (has_more w v p q c.carry_out.ensures.advances))
    (nothing_left w v p q c.carry_out.ensures.advances (at_some (λ r. history_of v q ≡ history_of w p) c.in_ok-refused.refused c.in-Some.refusal c.in-Some.is c.in_ok-refused.ensures.same))

pub returns-then-not-is_closed-clause-advanced : goal.returns-then-not-is_closed-clause-advanced
returns-then-not-is_closed-clause-advanced g c =
    let w = c.args.world.now in
    let v = c.carry_out.new.world in
    went_on w v c.args.attempt.now c.carry_out.new.proof c.requires.attempt c.carry_out.ensures.advances
    (given_label (option_copied c.args.label)) (proof_command_of c.args.command.now) (c.in_ok-refused.ensures.made (ap is_some c.in_default.is)) (c.in_ok-refused.ensures.owes (ap is_some c.in_default.is))
    (λ none. still_open c.is_closed.result ((c.is_closed.ensures.closed v).1 none) c.if-not-is_closed.true)

pub returns-in-Ok-clause-advanced : goal.returns-in-Ok-clause-advanced
returns-in-Ok-clause-advanced g c =
    let w = c.args.world.now in
    let v = c.carry_out.new.world in
    completed w v c.args.attempt.now c.carry_out.new.proof c.requires.attempt c.carry_out.ensures.advances c.conclude.new.world
    (given_label (option_copied c.args.label)) (proof_command_of c.args.command.now) c.in-Ok.reply (c.in_ok-refused.ensures.made (ap is_some c.in_default.is)) (c.in_ok-refused.ensures.owes (ap is_some c.in_default.is))
    ((c.is_closed.ensures.closed v).0 c.if-not-is_closed.false) c.in-Ok.ensures.grows c.in-Ok.ensures.added c.in-Ok.ensures.replied

pub returns-in_err-refused-clause-err : goal.returns-in_err-refused-clause-err
returns-in_err-refused-clause-err g c =
    on_error _
    (stayed c.args.world.now c.carry_out.new.world c.args.attempt.now c.carry_out.new.proof c.requires.attempt c.carry_out.ensures.advances c.in_err-refused.ensures.err)

pub returns-in-Err-clause-err : goal.returns-in-Err-clause-err
returns-in-Err-clause-err g c =
    let w = c.args.world.now in
    let p = c.args.attempt.now.proof in
    let follows = subst (λ v. Advances w p v c.carry_out.new.proof) (sym c.in-Err.ensures.err) c.carry_out.ensures.advances in
    let q = c.take_back.ensures in
    record {
      grows = (q.follows w p follows (c.steps-standing.ensures w)).grows;
      declared = (q.follows w p follows (c.steps-standing.ensures w)).declared;
      name = refl;
      formula = refl;
      proof = q.kept w p follows (c.steps-standing.ensures w);
    }
