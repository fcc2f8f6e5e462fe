use Rattle.std.proofs.Common.{◌≡◌, Bool, true, false, [], map, refl, sym, ◌∙◌, ap, subst}
use Rattle.std.specs.Prelude.{◌||◌, Err}
use Rattle.ab_syntax.specs.Commands.{instance_of}
use Rattle.ab_logic.specs.SequentReadings.{sequent_of}
use Rattle.ab_logic.specs.Worlds.{read, declarations_of}
use Rattle.ab_theory.specs.Pieces.{pieces}
use Rattle.ab_uses.specs.GivenReadings.{given_of}
use Rattle.ab_effects.specs.ProofCommands.{reading_each, giving}
use Rattle.ab_effects.specs.Row.{leads}
use Rattle.ab_effects.specs.FormulaUses.{given_twice}
use Rattle.ab_hypothesis.specs.ab_steps.specs.declared.fault.ProofCommandFault.TheVariants.{WrongShape}
use Rattle.ab_proofcmd.specs.GivenTerms.{AreNotGiven}
use Rattle.ab_proofcmd.proofs.Given.{refused_by, same_fault, read_named, unread_refuses, misshapen_refuses}
use Rattle.ab_proofcmd.proofs.given_terms.read_given.Goals.{then-is_given_twice-via-then-is_given_twice, then-is_given_twice-via-else-is_given_twice+then-too_many}
use Rattle.ab_proofcmd.proofs.given_terms.read_given.Goals as goal

or_true : (b : Bool) → (b || true) ≡ true
or_true true = refl
or_true false = refl

pub returns-in_err-given-clause-refused : goal.returns-in_err-given-clause-refused
returns-in_err-given-clause-refused g c fault same =
    let w = c.args.world.now in
    let D = declarations_of w in
    let s = sequent_of w c.args.goal.now in
    let ps = pieces c.args.count (read w c.args.formula) in
    let is = map instance_of c.args.instances.now in
    let cause = c.in_err-given.field-0.0 in
    subst (AreNotGiven D s ps is c.args.too_many) (same_fault c.from_residual-in_err-given.result cause fault c.from_residual-in_err-given.ensures.1 same)
    (refused_by (reading_each D s [] ps is (λ gs. leads [])) (giving D s ps is c.args.too_many (λ gs. leads []))
    (λ f. unread_refuses D s ps is c.args.too_many f c.in_ok-look_up.ensures.named) cause (c.in_err-given.ensures.refused cause refl))

pub returns-then-is_given_twice-clause-refused : goal.returns-then-is_given_twice-clause-refused
returns-then-is_given_twice-clause-refused g c fault same =
    let w = c.args.world.now in
    let D = declarations_of w in
    let s = sequent_of w c.args.goal.now in
    let ps = pieces c.args.count (read w c.args.formula) in
    let is = map instance_of c.args.instances.now in
    let cause : WrongShape ≡ fault = cc in
    let wrong : (given_twice is || c.args.too_many) ≡ true =
    elim c.then-is_given_twice.branch [
      | then-is_given_twice-via-then-is_given_twice b ↦ ap (λ t. t || c.args.too_many) (sym c.is_given_twice.ensures ∙ b.if-is_given_twice.true)
      | then-is_given_twice-via-else-is_given_twice+then-too_many b ↦ ap (λ t. given_twice is || t) b.if-too_many.true ∙ or_true (given_twice is)
    ] in
    subst (AreNotGiven D s ps is c.args.too_many) cause
    (misshapen_refuses D s ps is c.args.too_many (map (given_of c.read_each.new.world) c.in_ok-given.given.items) c.in_ok-look_up.ensures.named c.in_ok-given.ensures.read wrong)

pub returns-clause-names : goal.returns-clause-names
returns-clause-names g c =
    let w = c.args.world.now in
    read_named (declarations_of w) (sequent_of w c.args.goal.now) (pieces c.args.count (read w c.args.formula)) [] (map instance_of c.args.instances.now)
    (map (given_of c.read_each.new.world) c.in_ok-given.given.items) c.in_ok-given.ensures.read
