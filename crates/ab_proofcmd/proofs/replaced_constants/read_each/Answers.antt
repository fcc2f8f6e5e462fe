use Rattle.std.proofs.Common.{◌+◌, [], ◌∷◌, ◌++◌, map, take, drop, refl, sym, subst, arith}
use Rattle.std.proofs.lemmas.List.{take_all}
use Rattle.ab_syntax.specs.Commands.{instance_of}
use Rattle.ab_formulas.specs.Formulas.{HasOneTypeEach}
use Rattle.ab_logic.specs.SequentReadings.{sequent_of}
use Rattle.ab_formulas.specs.Sequents.{goal_names, names_of}
use Rattle.ab_logic.specs.Worlds.{declarations_of}
use Rattle.ab_logic.proofs.Growing.{grows_on, still_held}
use Rattle.ab_norm.specs.Nominals.{nominal_of}
use Rattle.ab_uses.specs.GivenReadings.{given_of}
use Rattle.ab_effects.specs.ProofCommands.{reading_for}
use Rattle.ab_effects.specs.Row.{leads}
use Rattle.ab_hypothesis.specs.ab_steps.specs.ProofEffects.{RefusedBy}
use Rattle.ab_proofcmd.specs.GivenTerms.{values_in, beside}
use Rattle.ab_proofcmd.specs.ReplacedConstants.{IsNextFor, AreReadFor}
use Rattle.ab_proofcmd.proofs.Given.{same_fault}
use Rattle.ab_proofcmd.proofs.TermSets.{parted, one_longer}
use Rattle.ab_proofcmd.proofs.ReplacedSets.{ReadForSoFar, names_still, one_now, read_one_more, unread_next}
use Rattle.ab_proofcmd.proofs.replaced_constants.read_each.Goals as goal

pub read_next-requires-clause-held : goal.read_next-requires-clause-held
read_next-requires-clause-held g c = still_held c.args.world.now c.loop-instance.world c.loop-instance.invariant.far.grows c.args.goal.now c.requires.held

pub read_next-requires-clause-names : goal.read_next-requires-clause-names
read_next-requires-clause-names g c = names_still c.args.world.now c.loop-instance.world c.loop-instance.invariant.far.grows c.args.names.now c.requires.names

pub read_next-requires-clause-one_type : goal.read_next-requires-clause-one_type
read_next-requires-clause-one_type g c =
    let w = c.loop-instance.world in
    subst (λ gs. HasOneTypeEach (goal_names (beside (sequent_of w c.args.goal.now) (values_in w gs)))) (sym c.deref.ensures.value)
    (one_now c.args.world.now w c.args.goal.now c.args.names.now (map instance_of (take c.loop-instance.instance-index c.args.instances.now)) c.loop-instance.given.items c.requires.held c.requires.names c.loop-instance.invariant.far)

pub returns-in_err-next-clause-refused : goal.returns-in_err-next-clause-refused
returns-in_err-next-clause-refused g c fault same =
    let old = c.args.world.now in
    let w = c.loop-instance.world in
    let xs = c.args.instances.now in
    let k = c.loop-instance.instance-index in
    let i = c.instance-item.result in
    let D = declarations_of old in
    let s = sequent_of old c.args.goal.now in
    let names = map (nominal_of old.types) c.args.names.now in
    let cause = c.in_err-next.field-0.0 in
    subst (RefusedBy (reading_for D s [] names (map instance_of xs) (λ rs. leads []))) (same_fault c.from_residual.result cause fault c.from_residual.ensures.1 same)
    (subst (λ is. RefusedBy (reading_for D s [] names is (λ rs. leads [])) cause) (parted instance_of xs k i c.loop-instance-test.true c.instance-item.is)
    (unread_next old w c.args.goal.now c.args.names.now (map instance_of (take k xs)) c.loop-instance.given.items c.requires.held c.requires.names c.loop-instance.invariant.far
    (instance_of i) (map instance_of (drop (k + 1) xs)) cause
    (subst (λ gs. RefusedBy (reading_for (declarations_of w) (sequent_of w c.args.goal.now) (names_of (values_in w gs)) (map (nominal_of w.types) c.args.names.now) (instance_of i ∷ []) (λ rs. leads [])) cause)
    c.deref.ensures.value (c.in_err-next.ensures.refused cause refl))))

pub returns-in_err-next-clause-grows : goal.returns-in_err-next-clause-grows
returns-in_err-next-clause-grows g c = grows_on c.args.world.now c.loop-instance.world c.read_next.new.world c.loop-instance.invariant.far.grows c.read_next.ensures.grows

pub returns-in_err-put-clause-grows : goal.returns-in_err-put-clause-grows
returns-in_err-put-clause-grows g c = grows_on c.args.world.now c.loop-instance.world c.read_next.new.world c.loop-instance.invariant.far.grows c.read_next.ensures.grows

pub loop-instance-preserved : goal.loop-instance-preserved
loop-instance-preserved g c =
    let old = c.args.world.now in
    let w = c.loop-instance.world in
    let v = c.read_next.new.world in
    let xs = c.args.instances.now in
    let k = c.loop-instance.instance-index in
    let i = c.instance-item.result in
    let gs = c.loop-instance.given.items in
    let is = map instance_of (take k xs) in
    record {
      far = subst (λ is. ReadForSoFar old v c.args.goal.now c.args.names.now is c.put.new.given.items) (sym (one_longer instance_of xs k i c.loop-instance-test.true c.instance-item.is))
          (subst (ReadForSoFar old v c.args.goal.now c.args.names.now (is ++ instance_of i ∷ [])) (sym c.in_ok-put.ensures)
          (read_one_more old w c.args.goal.now c.args.names.now is gs c.requires.held c.requires.names c.loop-instance.invariant.far v (instance_of i) c.in_ok-next.next
          c.read_next.ensures.grows c.read_next.ensures.declared c.in_ok-next.ensures.held
          (subst (λ hs. IsNextFor (declarations_of w) (sequent_of w c.args.goal.now) (values_in w hs) (map (nominal_of w.types) c.args.names.now) (instance_of i) (given_of v c.in_ok-next.next))
          c.deref.ensures.value c.in_ok-next.ensures.next)));
      steps = omega (arith, c.loop-instance.invariant.steps, c.read_next.ensures.steps);
    }

pub returns-clause-read : goal.returns-clause-read
returns-clause-read g c =
    let old = c.args.world.now in
    let done = c.loop-instance-test.false in
    subst (λ xs. AreReadFor (declarations_of old) (sequent_of old c.args.goal.now) [] (map (nominal_of old.types) c.args.names.now) (map instance_of xs) (map (given_of c.loop-instance.world) c.loop-instance.given.items))
    (take_all c.loop-instance.instance-index c.args.instances.now (omega arith)) c.loop-instance.invariant.far.read_in
