use Rattle.std.proofs.Common.{refl, sym, ◌∙◌, subst}
use Rattle.std.specs.Prelude.{◌≡◌, Err, ◌∷◌, []}
use Rattle.ab_norm.specs.ab_types.specs.Ids.{type_of}
use Rattle.ab_syntax.specs.Commands.{instance_of}
use Rattle.ab_logic.specs.SequentReadings.{sequent_of}
use Rattle.ab_formulas.specs.Sequents.{names_of}
use Rattle.ab_logic.specs.Worlds.{read, declarations_of}
use Rattle.ab_theory.specs.Pieces.{pieces}
use Rattle.ab_effects.specs.ProofCommands.{reading_each}
use Rattle.ab_effects.specs.Row.{leads}
use Rattle.ab_hypothesis.specs.ab_steps.specs.ProofEffects.{RefusedBy}
use Rattle.ab_proofcmd.specs.GivenTerms.{values_in}
use Rattle.ab_proofcmd.specs.GoalExpressions.{fault_for}
use Rattle.ab_proofcmd.proofs.TermSets.{holds_later, next_given, next_unread}
use Rattle.ab_proofcmd.proofs.given_terms.read_next.Goals as goal

pub returns-in-Ok-clause-next : goal.returns-in-Ok-clause-next
returns-in-Ok-clause-next g c =
    let w = c.args.world.now in
    next_given w c.read_beside.new.world (sequent_of w c.args.goal.now) (values_in w c.args.given.now) (pieces c.args.count (read w c.args.formula)) (instance_of c.args.instance.now)
    c.in_ok-name.name c.in-Some.ty c.in-Ok.value c.read_beside.ensures.grows (c.in-Some.ensures.held c.in-Some.ty refl) c.in_ok-name.ensures
    c.in-Some.ensures.ty c.in-Ok.ensures.reads.0 c.in-Ok.ensures.reads.1

pub returns-in-Ok-clause-held : goal.returns-in-Ok-clause-held
returns-in-Ok-clause-held g c =
    (c.in-Ok.ensures.reads.2, holds_later c.args.world.now.types c.read_beside.new.world.types c.in-Some.ty c.read_beside.ensures.grows.types (c.in-Some.ensures.held c.in-Some.ty refl))

pub returns-in-Err-clause-refused : goal.returns-in-Err-clause-refused
returns-in-Err-clause-refused g c fault same =
    let w = c.args.world.now in
    let D = declarations_of w in
    let s = sequent_of w c.args.goal.now in
    let ts = values_in w c.args.given.now in
    let ps = pieces c.args.count (read w c.args.formula) in
    let i = instance_of c.args.instance.now in
    let is : c.fault_for.result ≡ fault = cc in
    subst (RefusedBy (reading_each D s (names_of ts) ps (i ∷ []) (λ gs. leads []))) (sym c.fault_for.ensures ∙ is)
    (next_unread D s ts ps i (type_of w.types c.in-Some.ty) c.read_beside.new.world c.in-Err.fault c.in-Some.ensures.ty c.in-Err.ensures.reads)
