use Rattle.std.specs.Prelude.{[], Err}
use Rattle.std.proofs.Common.{◌≡◌, suc, ◌+◌, inl, inr, sym, ◌∙◌, ap, subst, arith}
use Rattle.ab_theory.specs.UseAnswers.{NothingMatches, IsOutsideAt, IsLeftOpen}
use Rattle.ab_uses.specs.UseReadings.{using_of, Finds}
use Rattle.ab_effects.specs.ProofCommands.{left_to_show}
use Rattle.ab_meaning.specs.Refusals.{not_pattern}
use Rattle.ab_effects.specs.Row.{leads, Refuses}
use Rattle.ab_effects.specs.FormulaUses.{apart, outside, left_open}
use Rattle.ab_hypothesis.specs.ab_steps.specs.ProofEffects.{RefusedBy}
use Rattle.ab_hypothesis.specs.ab_steps.specs.declared.fault.ProofCommandFault.TheVariants.{NoMatch, NotPattern, Unresolved, Memory}
use Rattle.ab_proofcmd.proofs.questions.use_of.Goals as goal

pub returns-in-NoMatch-clause-refused : goal.returns-in-NoMatch-clause-refused
returns-in-NoMatch-clause-refused g c fault e =
    let u = using_of c.args.world.now c.args.goal.now c.args.formula c.args.count c.args.given.now c.args.aim.now in
    let none : NothingMatches u = subst (Finds u c.find_use.new.world) c.in-NoMatch.is c.in_ok-found.ensures.found in
    let one : NoMatch ≡ fault = cc in
    subst (RefusedBy (left_to_show u (λ K. leads []))) one (inl (apart none))

pub returns-in-NotPattern-clause-refused : goal.returns-in-NotPattern-clause-refused
returns-in-NotPattern-clause-refused g c fault e =
    let u = using_of c.args.world.now c.args.goal.now c.args.formula c.args.count c.args.given.now c.args.aim.now in
    let i = c.in-NotPattern.place in
    let stuck : IsOutsideAt u i = subst (Finds u c.find_use.new.world) c.in-NotPattern.is c.in_ok-found.ensures.found in
    elim c.not_pattern.ensures [
      | inl t ↦
          let one : NotPattern (i + 1) ≡ fault = cc in
          let more : suc i ≡ i + 1 = omega arith in
          subst (RefusedBy (left_to_show u (λ K. leads []))) one (subst (λ n. Refuses (left_to_show u (λ K. leads [])) (not_pattern n)) more (inl (outside i stuck)))
      | inr t ↦ let one : Memory t.0 ≡ fault = cc in subst (RefusedBy (left_to_show u (λ K. leads []))) one tt
    ]

pub returns-in-Unresolved-clause-refused : goal.returns-in-Unresolved-clause-refused
returns-in-Unresolved-clause-refused g c fault e =
    let u = using_of c.args.world.now c.args.goal.now c.args.formula c.args.count c.args.given.now c.args.aim.now in
    let left : IsLeftOpen u c.in-Unresolved.name = subst (Finds u c.find_use.new.world) c.in-Unresolved.is c.in_ok-found.ensures.found in
    let one : Unresolved c.in-Unresolved.name ≡ fault = cc in
    subst (RefusedBy (left_to_show u (λ K. leads []))) one (inl (left_open c.in-Unresolved.name left))
