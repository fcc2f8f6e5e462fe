use Rattle.std.specs.Prelude.{◌≡◌, true, false, map, None, []}
use Rattle.std.proofs.Common.{refl, sym, ◌∙◌, subst}
use Rattle.ab_term.specs.Names.{IsSupport}
use Rattle.ab_term.specs.Terms.{Read}
use Rattle.ab_grammar.specs.CommandTrees as told
use Rattle.ab_norm.specs.ab_store.proofs.Growing.{unbound_reads}
use Rattle.ab_norm.specs.Nominals.{nominal_of}
use Rattle.ab_syntax.specs.Commands.{instance_of}
use Rattle.ab_formulas.specs.Marks.{plain}
use Rattle.ab_logic.specs.SequentReadings.{sequent_of}
use Rattle.ab_logic.specs.Worlds.{read, declarations_of}
use Rattle.ab_theory.specs.Judgements.{marked_judgement}
use Rattle.ab_effects.specs.ProofCommands.{effect, no_constant}
use Rattle.ab_effects.specs.Row.{leads, unless}
use Rattle.ab_hypothesis.specs.ab_steps.specs.ProofEffects.{RefusedBy}
use Rattle.ab_hypothesis.specs.ab_steps.specs.declared.fault.ProofCommandFault.TheVariants.{WrongShape}
use Rattle.ab_logic.proofs.Declared.{declared_same}
use Rattle.ab_proofcmd.proofs.Given.{same_fault}
use Rattle.ab_proofcmd.proofs.JudgementRows.{found_as, inst_twice, inst_strange}
use Rattle.ab_proofcmd.proofs.replaced_constants.constants_of.Goals as goal

pub returns-then-is_given_twice-clause-refused : goal.returns-then-is_given_twice-clause-refused
returns-then-is_given_twice-clause-refused c fault same l free =
    let w = c.args.world.now in
    let D = declarations_of w in
    let s = sequent_of w c.args.goal.now in
    let is = map instance_of c.args.instances.now in
    let one : WrongShape ≡ fault = cc in
    subst (RefusedBy (effect D l (told.inst c.args.name.now is) s)) one
    (inst_twice D l c.args.name.now is s free (read w c.in-Some.formula) (sym (c.in-Some.ensures.reads w)) (read w c.in-Some-as_unfocused.list, read w c.in-Some-as_unfocused.judged) (sym c.in-Some-as_unfocused.ensures.reads)
    (sym c.is_given_twice.ensures ∙ c.if-is_given_twice.true))

pub returns-in_err-look_up-clause-refused : goal.returns-in_err-look_up-clause-refused
returns-in_err-look_up-clause-refused c fault same l free =
    let w = c.args.world.now in
    let m = c.judgement_of.new.world in
    let D = declarations_of w in
    let s = sequent_of w c.args.goal.now in
    let is = map instance_of c.args.instances.now in
    let F = read w c.in-Some.formula in
    let p : Read × Read = (read w c.in-Some-as_unfocused.list, read w c.in-Some-as_unfocused.judged) in
    let J = marked_judgement plain p.0 p.1 in
    let N = map (nominal_of m.types) c.in_ok-names.names.items in
    let order : IsSupport J N =
    subst (λ t. IsSupport t N) (unbound_reads m.store c.judgement_of.ensures.grows.world.unbound m.types c.in_ok-judgement.judgement ∙ c.in_ok-judgement.ensures.reads) c.in_ok-names.ensures.reads in
    let cause = c.in_err-look_up.field-0.0 in
    subst (RefusedBy (effect D l (told.inst c.args.name.now is) s)) (same_fault c.from_residual-in_err-look_up.result cause fault c.from_residual-in_err-look_up.ensures.1 same)
    (inst_strange D l c.args.name.now is s free F (sym (c.in-Some.ensures.reads w)) p (sym c.in-Some-as_unfocused.ensures.reads) (sym c.is_given_twice.ensures ∙ c.if-is_given_twice.false) N
    (found_as D s c.requires.sequent c.args.name.now F p (sym (c.in-Some.ensures.reads w)) (sym c.in-Some-as_unfocused.ensures.reads) N order) cause
    (subst (λ xs. RefusedBy (unless (no_constant (map (nominal_of m.types) xs) is) (leads [])) cause) c.deref.ensures.value (c.in_err-look_up.ensures.refused cause refl)))

pub returns-clause-knows : goal.returns-clause-knows
returns-clause-knows c =
    let w = c.args.world.now in
    let m = c.judgement_of.new.world in
    let D = declarations_of w in
    let s = sequent_of w c.args.goal.now in
    let F = read w c.in-Some.formula in
    let p : Read × Read = (read w c.in-Some-as_unfocused.list, read w c.in-Some-as_unfocused.judged) in
    let J = marked_judgement plain p.0 p.1 in
    let N = map (nominal_of m.types) c.in_ok-names.names.items in
    let order : IsSupport J N =
    subst (λ t. IsSupport t N) (unbound_reads m.store c.judgement_of.ensures.grows.world.unbound m.types c.in_ok-judgement.judgement ∙ c.in_ok-judgement.ensures.reads) c.in_ok-names.ensures.reads in
    record {
      formula = F;
      named = sym (c.in-Some.ensures.reads w);
      parts = p;
      unfocused = sym c.in-Some-as_unfocused.ensures.reads;
      once = sym c.is_given_twice.ensures ∙ c.if-is_given_twice.false;
      known = subst (λ xs. no_constant (map (nominal_of m.types) xs) (map instance_of c.args.instances.now) ≡ None) c.deref.ensures.value c.in_ok-look_up.ensures.known;
      found = found_as D s c.requires.sequent c.args.name.now F p (sym (c.in-Some.ensures.reads w)) (sym c.in-Some-as_unfocused.ensures.reads) N order;
    }

pub returns-in_err-judgement-clause-declared : goal.returns-in_err-judgement-clause-declared
returns-in_err-judgement-clause-declared c =
    declared_same c.args.world.now c.judgement_of.new.world c.requires.world c.judgement_of.ensures.grows c.judgement_of.ensures.additions c.judgement_of.ensures.types

pub returns-in_err-names-clause-declared : goal.returns-in_err-names-clause-declared
returns-in_err-names-clause-declared c =
    declared_same c.args.world.now c.judgement_of.new.world c.requires.world c.judgement_of.ensures.grows c.judgement_of.ensures.additions c.judgement_of.ensures.types

pub returns-in_err-look_up-clause-declared : goal.returns-in_err-look_up-clause-declared
returns-in_err-look_up-clause-declared c =
    declared_same c.args.world.now c.judgement_of.new.world c.requires.world c.judgement_of.ensures.grows c.judgement_of.ensures.additions c.judgement_of.ensures.types

pub returns-clause-declared : goal.returns-clause-declared
returns-clause-declared c =
    declared_same c.args.world.now c.judgement_of.new.world c.requires.world c.judgement_of.ensures.grows c.judgement_of.ensures.additions c.judgement_of.ensures.types
