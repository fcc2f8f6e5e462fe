use Rattle.std.specs.Prelude.{◌≡◌, ◌∷◌, [], map}
use Rattle.std.specs.Option.{option_map}
use Rattle.std.proofs.Common.{inl, refl, sym, ◌∙◌, ap, subst}
use Rattle.ab_norm.specs.Nominals.{nominal_of}
use Rattle.ab_syntax.specs.Commands.{instance_of}
use Rattle.ab_logic.specs.SequentReadings.{sequent_of}
use Rattle.ab_formulas.specs.Sequents.{names_of}
use Rattle.ab_logic.specs.Worlds.{declarations_of}
use Rattle.ab_effects.specs.ProofCommands.{reading_for}
use Rattle.ab_effects.specs.Row.{leads}
use Rattle.ab_meaning.specs.Refusals.{unknown}
use Rattle.ab_hypothesis.specs.ab_steps.specs.ProofEffects.{RefusedBy}
use Rattle.ab_hypothesis.specs.ab_steps.specs.declared.fault.ProofCommandFault.TheVariants.{Unknown}
use Rattle.ab_proofcmd.specs.GivenTerms.{values_in}
use Rattle.ab_proofcmd.proofs.TermSets.{type_later, holds_later}
use Rattle.ab_proofcmd.proofs.ReplacedSets.{next_given, next_unread}
use Rattle.ab_proofcmd.proofs.replaced_constants.read_next.Goals as goal

pub returns-in_default-clause-refused : goal.returns-in_default-clause-refused
returns-in_default-clause-refused g c fault same =
    let w = c.args.world.now in
    let D = declarations_of w in
    let s = sequent_of w c.args.goal.now in
    let ts = values_in w c.args.given.now in
    let names = map (nominal_of w.types) c.args.names.now in
    let i = instance_of c.args.instance.now in
    let is : Unknown c.in_ok-name.name ≡ fault = cc in
    subst (RefusedBy (reading_for D s (names_of ts) names (i ∷ []) (λ rs. leads []))) is
    (inl (sym (c.constant_in.ensures.reads w.types) ∙ ap (option_map (nominal_of w.types)) c.in_default.is, ap unknown c.in_ok-name.ensures))

pub returns-in-Ok-clause-next : goal.returns-in-Ok-clause-next
returns-in-Ok-clause-next g c =
    let w = c.args.world.now in
    let v = c.read_beside.new.world in
    let a = c.in-Some.constant in
    next_given w v (sequent_of w c.args.goal.now) (values_in w c.args.given.now) (map (nominal_of w.types) c.args.names.now) (instance_of c.args.instance.now)
    c.in_ok-name.name a.ty (nominal_of w.types a) c.in-Ok.value (type_later w.types v.types a.ty c.read_beside.ensures.grows.types (c.in-Some.ensures.held w.types c.requires.names)) c.in_ok-name.ensures
    (sym (c.in-Some.ensures.reads w.types)) refl c.in-Ok.ensures.reads.0 c.in-Ok.ensures.reads.1

pub returns-in-Ok-clause-held : goal.returns-in-Ok-clause-held
returns-in-Ok-clause-held g c =
    let w = c.args.world.now in
    (c.in-Ok.ensures.reads.2, holds_later w.types c.read_beside.new.world.types c.in-Some.constant.ty c.read_beside.ensures.grows.types (c.in-Some.ensures.held w.types c.requires.names))

pub returns-in-Err-clause-refused : goal.returns-in-Err-clause-refused
returns-in-Err-clause-refused g c fault same =
    let w = c.args.world.now in
    let D = declarations_of w in
    let s = sequent_of w c.args.goal.now in
    let ts = values_in w c.args.given.now in
    let names = map (nominal_of w.types) c.args.names.now in
    let i = instance_of c.args.instance.now in
    let is : c.fault_for.result ≡ fault = cc in
    subst (RefusedBy (reading_for D s (names_of ts) names (i ∷ []) (λ rs. leads []))) (sym c.fault_for.ensures ∙ is)
    (next_unread D s ts names i (nominal_of w.types c.in-Some.constant) c.read_beside.new.world c.in-Err.fault (sym (c.in-Some.ensures.reads w.types)) c.in-Err.ensures.reads)
