use Rattle.std.specs.Prelude.{[], map, All}
use Rattle.std.proofs.Common.{refl, sym, ◌∙◌, ap, subst}
use Rattle.ab_grammar.specs.CommandTrees as told
use Rattle.ab_norm.specs.Nominals.{nominal_of}
use Rattle.ab_syntax.specs.Commands.{instance_of}
use Rattle.ab_formulas.specs.Formulas.{HasOneTypeEach}
use Rattle.ab_formulas.specs.Sequents.{goal_names}
use Rattle.ab_logic.specs.SequentReadings.{sequent_of}
use Rattle.ab_logic.specs.Worlds.{declarations_of}
use Rattle.ab_logic.proofs.Growing.{grows_on, still_held, same_sequent}
use Rattle.ab_theory.specs.Contexts.{AllFit}
use Rattle.ab_uses.specs.GivenReadings.{given_of}
use Rattle.ab_effects.specs.ProofCommands.{effect, reading_for}
use Rattle.ab_effects.specs.Row.{leads}
use Rattle.ab_hypothesis.specs.ab_steps.specs.ProofEffects.{RefusedBy}
use Rattle.ab_proofcmd.specs.GivenTerms.{HoldsGiven}
use Rattle.ab_proofcmd.specs.ReplacedConstants.{replace_of, AreReadFor}
use Rattle.ab_proofcmd.proofs.Given.{same_fault}
use Rattle.ab_proofcmd.proofs.JudgementRows.{inst_unread}
use Rattle.ab_proofcmd.proofs.replaced_constants.read_replaces.Goals as goal

pub returns-in_err-names-clause-refused : goal.returns-in_err-names-clause-refused
returns-in_err-names-clause-refused g c fault same l free =
    let w = c.args.world.now in
    let cause = c.in_err-names.field-0.0 in
    subst (RefusedBy (effect (declarations_of w) l (told.inst c.args.name.now (map instance_of c.args.instances.now)) (sequent_of w c.args.goal.now)))
    (same_fault c.from_residual.result cause fault c.from_residual.ensures.1 same) (c.in_err-names.ensures.refused cause refl l free)

pub read_each-requires-clause-held : goal.read_each-requires-clause-held
read_each-requires-clause-held g c = still_held c.args.world.now c.constants_of.new.world c.constants_of.ensures.grows c.args.goal.now c.requires.held

pub read_each-requires-clause-one_type : goal.read_each-requires-clause-one_type
read_each-requires-clause-one_type g c =
    subst (λ s. HasOneTypeEach (goal_names s)) (sym (same_sequent c.args.world.now c.constants_of.new.world c.constants_of.ensures.grows c.args.goal.now c.requires.held)) c.requires.sequent.one_type

pub returns-in_err-given-clause-refused : goal.returns-in_err-given-clause-refused
returns-in_err-given-clause-refused g c fault same l free =
    let w = c.args.world.now in
    let m = c.constants_of.new.world in
    let D = declarations_of w in
    let s = sequent_of w c.args.goal.now in
    let is = map instance_of c.args.instances.now in
    let N = map (nominal_of m.types) c.in_ok-names.names.items in
    let cause = c.in_err-given.field-0.0 in
    let same_goal = same_sequent w m c.constants_of.ensures.grows c.args.goal.now c.requires.held in
    subst (RefusedBy (effect D l (told.inst c.args.name.now is) s)) (same_fault c.from_residual-in_err-given.result cause fault c.from_residual-in_err-given.ensures.1 same)
    (inst_unread D l c.args.name.now is s free N c.in_ok-names.ensures.knows cause
    (subst (λ t. RefusedBy (reading_for D t [] N is (λ rs. leads [])) cause) same_goal
    (subst (λ E. RefusedBy (reading_for E (sequent_of m c.args.goal.now) [] N is (λ rs. leads [])) cause) c.constants_of.ensures.declared
    (subst (λ xs. RefusedBy (reading_for (declarations_of m) (sequent_of m c.args.goal.now) [] (map (nominal_of m.types) xs) is (λ rs. leads [])) cause) c.deref.ensures.value (c.in_err-given.ensures.refused cause refl)))))

pub returns-in_err-given-clause-grows : goal.returns-in_err-given-clause-grows
returns-in_err-given-clause-grows g c = grows_on c.args.world.now c.constants_of.new.world c.read_each.new.world c.constants_of.ensures.grows c.read_each.ensures.grows

pub returns-in_err-given-clause-declared : goal.returns-in_err-given-clause-declared
returns-in_err-given-clause-declared g c = c.read_each.ensures.declared ∙ c.constants_of.ensures.declared

pub returns-in_err-replaces_of-clause-grows : goal.returns-in_err-replaces_of-clause-grows
returns-in_err-replaces_of-clause-grows g c = grows_on c.args.world.now c.constants_of.new.world c.read_each.new.world c.constants_of.ensures.grows c.read_each.ensures.grows

pub returns-clause-may : goal.returns-clause-may
returns-clause-may g c =
    let w = c.args.world.now in
    let m = c.constants_of.new.world in
    let v = c.read_each.new.world in
    let D = declarations_of w in
    let is = map instance_of c.args.instances.now in
    let N = map (nominal_of m.types) c.in_ok-names.names.items in
    let G = map (given_of v) c.in_ok-given.given.items in
    let same_goal = same_sequent w m c.constants_of.ensures.grows c.args.goal.now c.requires.held in
    let fit : AllFit D (sequent_of w c.args.goal.now) [] (map replace_of G) =
    subst (λ t. AllFit D t [] (map replace_of G)) same_goal (subst (λ E. AllFit E (sequent_of m c.args.goal.now) [] (map replace_of G)) c.constants_of.ensures.declared c.in_ok-given.ensures.fit) in
    let put = c.in_ok-replaces_of.ensures.reads v ∙ ap (λ xs. map replace_of (map (given_of v) xs)) c.deref-2.ensures.value in
    record {
      names = N;
      knows = c.in_ok-names.ensures.knows;
      given = G;
      read_in = subst (λ t. AreReadFor D t [] N is G) same_goal (subst (λ E. AreReadFor E (sequent_of m c.args.goal.now) [] N is G) c.constants_of.ensures.declared
          (subst (λ xs. AreReadFor (declarations_of m) (sequent_of m c.args.goal.now) [] (map (nominal_of m.types) xs) is G) c.deref.ensures.value c.in_ok-given.ensures.read));
      are = put;
      fit = subst (AllFit D (sequent_of w c.args.goal.now) []) (sym put) fit;
    }

pub returns-clause-held : goal.returns-clause-held
returns-clause-held g c =
    let v = c.read_each.new.world in
    c.in_ok-replaces_of.ensures.held v (subst (All (HoldsGiven v)) (sym c.deref-2.ensures.value) c.in_ok-given.ensures.held)

pub returns-clause-grows : goal.returns-clause-grows
returns-clause-grows g c = grows_on c.args.world.now c.constants_of.new.world c.read_each.new.world c.constants_of.ensures.grows c.read_each.ensures.grows

pub returns-clause-declared : goal.returns-clause-declared
returns-clause-declared g c = c.read_each.ensures.declared ∙ c.constants_of.ensures.declared
