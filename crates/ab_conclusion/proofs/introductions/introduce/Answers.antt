use Rattle.std.proofs.Common.{◌≡◌, ◌<◌, ◌≤◌, length, drop, arith, subst}
use Rattle.ab_logic.specs.Worlds.{declarations_of}
use Rattle.ab_effects.specs.ProofCommands.{introducing}
use Rattle.ab_steps.specs.ProofEffects.{RefusedBy}
use Rattle.ab_steps.specs.declared.fault.ProofCommandFault.TheVariants.{WrongShape, NamesSpent}
use Rattle.ab_steps.proofs.Following.{follows_on}
use Rattle.ab_conclusion.proofs.Introduces.{starts, goes_on, nearer, introduced, one_too_many, spent}
use Rattle.ab_conclusion.proofs.introductions.introduce.Goals as goal

pub taking-init : goal.taking-init
taking-init g c = record { way = starts c.args.names.now c.args.world.now c.args.proof.now c.requires.world c.requires.proof c.requires.open; steps = omega arith }

pub returns-in_err-next-clause-follows : goal.returns-in_err-next-clause-follows
returns-in_err-next-clause-follows g c = follows_on _ _ _ _ _ _ c.taking.invariant.way.follows c.introduce_one.ensures.follows

pub taking-preserved : goal.taking-preserved
taking-preserved g c =
    let t = rw c.in-Next.is at c.in_ok-next.ensures.taken in
    record {
      way = goes_on c.args.names.now c.args.world.now c.taking.world c.introduce_one.new.world c.args.proof.now c.taking.proof c.introduce_one.new.proof
          c.taking.given c.in-Next.next c.taking.invariant.way c.introduce_one.ensures.follows t.0 t.1;
      steps = omega (arith, c.taking.invariant.steps, c.introduce_one.ensures.steps);
    }

pub taking-smaller : goal.taking-smaller
taking-smaller g c =
    let t = rw c.in-Next.is at c.in_ok-next.ensures.taken in
    nearer (drop c.taking.given c.args.names.now) (drop c.in-Next.next c.args.names.now) c.taking.world c.introduce_one.new.world c.taking.proof c.introduce_one.new.proof c.taking.invariant.way.some t.1

pub returns-in-Nameless-clause-follows : goal.returns-in-Nameless-clause-follows
returns-in-Nameless-clause-follows g c = follows_on _ _ _ _ _ _ c.taking.invariant.way.follows c.introduce_one.ensures.follows

pub returns-in-Nameless-clause-refused : goal.returns-in-Nameless-clause-refused
returns-in-Nameless-clause-refused g c fault same s rest e =
    let t = rw c.in-Nameless.is at c.in_ok-next.ensures.taken in
    let is : NamesSpent ≡ fault = cc in
    subst (RefusedBy (introducing (declarations_of c.args.world.now) c.args.names.now s)) is
    (spent c.args.names.now c.args.world.now c.taking.world c.args.proof.now c.taking.proof c.taking.given c.taking.invariant.way t s rest e)

pub returns-then-given-names-clause-follows : goal.returns-then-given-names-clause-follows
returns-then-given-names-clause-follows g c = follows_on _ _ _ _ _ _ c.taking.invariant.way.follows c.introduce_one.ensures.follows

pub returns-then-given-names-clause-refused : goal.returns-then-given-names-clause-refused
returns-then-given-names-clause-refused g c fault same s rest e =
    let t = rw c.in-Nothing.is at c.in_ok-next.ensures.taken in
    let is : WrongShape ≡ fault = cc in
    let l : c.taking.given < length c.args.names.now = omega arith in
    subst (RefusedBy (introducing (declarations_of c.args.world.now) c.args.names.now s)) is
    (one_too_many c.args.names.now c.args.world.now c.taking.world c.args.proof.now c.taking.proof c.taking.given c.taking.invariant.way t.0 l s rest e)

pub returns-clause-follows : goal.returns-clause-follows
returns-clause-follows g c = follows_on _ _ _ _ _ _ c.taking.invariant.way.follows c.introduce_one.ensures.follows

pub returns-clause-applied : goal.returns-clause-applied
returns-clause-applied g c s rest e =
    let t = rw c.in-Nothing.is at c.in_ok-next.ensures.taken in
    let l : length c.args.names.now ≤ c.taking.given = omega arith in
    introduced c.args.names.now c.args.world.now c.taking.world c.introduce_one.new.world c.args.proof.now c.taking.proof c.introduce_one.new.proof
    c.taking.given c.taking.invariant.way t.0 t.1 l s rest e
