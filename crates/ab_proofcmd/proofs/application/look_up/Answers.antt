use Rattle.std.specs.Prelude.{Some, None, map}
use Rattle.std.specs.Option.{option_map, option_copied}
use Rattle.std.proofs.Common.{◌≡◌, sym, ◌∙◌, ap, subst}
use Rattle.ab_grammar.specs.CommandTrees as told
use Rattle.ab_syntax.specs.Commands.{argument_of}
use Rattle.ab_logic.specs.SequentReadings.{sequent_of}
use Rattle.ab_logic.specs.Worlds.{read, declarations_of}
use Rattle.ab_equations.specs.Labels.{label_of}
use Rattle.ab_effects.specs.ProofCommands.{effect}
use Rattle.ab_meaning.specs.Refusals.{clash, no_hypothesis}
use Rattle.ab_hypothesis.specs.ab_steps.specs.ProofEffects.{RefusedBy}
use Rattle.ab_hypothesis.specs.ab_steps.specs.declared.fault.ProofCommandFault.TheVariants.{Clash}
use Rattle.ab_proofcmd.proofs.ApplyRows.{apply_clash, apply_unnamed, apply_missing}
use Rattle.ab_proofcmd.proofs.application.look_up.Goals as goal

pub returns-in-Some-clause-refused : goal.returns-in-Some-clause-refused
returns-in-Some-clause-refused c fault e is =
    let w = c.args.world.now in
    let s = sequent_of w c.args.goal.now in
    let l = label_of c.args.label.now in
    let vs = map argument_of c.args.arguments.now in
    let one : Clash c.in-Some.taken ≡ fault = cc in
    subst (RefusedBy (effect (declarations_of w) l (told.apply c.args.name.now vs is) s)) one
    (apply_clash (declarations_of w) l c.args.name.now vs is s c.in-Some.taken (sym (c.in_ok-clash.ensures w) ∙ ap (option_map clash) c.in-Some.is))
