use Rattle.std.proofs.Common.{◌≡◌, Some, [], ◌∷◌, sym, ◌∙◌, ap, refl, subst}
use Rattle.ab_term.specs.Names as tree
use Rattle.ab_term.proofs.Lists.{Contains-here, Contains-there}
use Rattle.ab_norm.specs.ab_types.specs.Ids.{type_of}
use Rattle.ab_formulas.specs.Cycles.{cycle}
use Rattle.ab_logic.specs.Worlds.{declarations_of, read}
use Rattle.ab_theory.proofs.Sequents.{found_there}
use Rattle.ab_consequences.specs.Standing.{StandsFor}
use Rattle.ab_consequences.proofs.Permuted.{permuted_stands}
use Rattle.ab_steps.specs.ab_kernel.proofs.GoalSequents.{first_is_sequent}
use Rattle.ab_formulas.specs.Sequents.{formulas, proving, assuming, without}
use Rattle.ab_steps.specs.ab_kernel.specs.Layout.{goals_of}
use Rattle.ab_steps.proofs.Following.{advances, follows_on, as_before, one_at_least}
use Rattle.ab_steps.specs.ab_kernel.proofs.Later.{still_proof}
use Rattle.ab_hypothesis.proofs.Changed.{begins, on_err, same_goals, has_later, has_first}
use Rattle.ab_hypothesis.proofs.exchange_steps.turn_hypothesis.Goals as goal

pub change_hypothesis-requires-clause-world : goal.change_hypothesis-requires-clause-world
change_hypothesis-requires-clause-world g c = c.permuted_formula.ensures.adds.grows.world

pub change_hypothesis-requires-clause-proof : goal.change_hypothesis-requires-clause-proof
change_hypothesis-requires-clause-proof g c = still_proof c.args.world.now c.permuted_formula.new.world c.permuted_formula.ensures.adds.grows c.permuted_formula.ensures.adds.declared c.args.proof.now c.requires.proof

pub change_hypothesis-requires-clause-open : goal.change_hypothesis-requires-clause-open
change_hypothesis-requires-clause-open g c none = c.requires.open (sym (same_goals c.args.world.now c.permuted_formula.new.world c.args.proof.now c.requires.proof c.permuted_formula.ensures.adds) ∙ none)

pub returns-in_err-formula-clause-follows : goal.returns-in_err-formula-clause-follows
returns-in_err-formula-clause-follows g c = begins c.args.world.now c.permuted_formula.new.world c.args.proof.now c.requires.proof c.permuted_formula.ensures.adds

pub returns-in-Ok-clause-follows : goal.returns-in-Ok-clause-follows
returns-in-Ok-clause-follows g c = follows_on _ _ _ _ _ _ (begins c.args.world.now c.permuted_formula.new.world c.args.proof.now c.requires.proof c.permuted_formula.ensures.adds) c.change_hypothesis.ensures.follows

pub returns-in-Err-clause-follows : goal.returns-in-Err-clause-follows
returns-in-Err-clause-follows g c =
    c.take_back.ensures.follows c.args.world.now c.args.proof.now
    (advances (follows_on _ _ _ _ _ _ (begins c.args.world.now c.permuted_formula.new.world c.args.proof.now c.requires.proof c.permuted_formula.ensures.adds) c.change_hypothesis.ensures.follows))
    (c.steps-count.ensures c.args.world.now)

pub returns-in-Err-clause-unchanged : goal.returns-in-Err-clause-unchanged
returns-in-Err-clause-unchanged g c =
    c.take_back.ensures.unchanged c.args.world.now c.args.proof.now
    (advances (follows_on _ _ _ _ _ _ (begins c.args.world.now c.permuted_formula.new.world c.args.proof.now c.requires.proof c.permuted_formula.ensures.adds) c.change_hypothesis.ensures.follows))
    (c.steps-count.ensures c.args.world.now)

pub change_hypothesis-requires-clause-there : goal.change_hypothesis-requires-clause-there
change_hypothesis-requires-clause-there g c =
    has_later c.args.world.now c.permuted_formula.new.world c.args.proof.now c.requires.proof c.permuted_formula.ensures.adds c.args.name.now _ c.requires.there

pub permuted_formula-requires-clause-different : goal.permuted_formula-requires-clause-different
permuted_formula-requires-clause-different g c =
    let one = one_at_least (goals_of c.args.world.now c.args.proof.now) c.requires.open in
    (c.requires.cycles one.0 one.1 one.2).0.different

pub change_hypothesis-requires-clause-stands : goal.change_hypothesis-requires-clause-stands
change_hypothesis-requires-clause-stands g c s rest F goals has =
    let w = c.args.world.now in
    let v = c.permuted_formula.new.world in
    let A = type_of w.types c.args.ty in
    let ns = c.args.numbers.now in
    let adds = c.permuted_formula.ensures.adds in
    let here = sym (same_goals w v c.args.proof.now c.requires.proof adds) ∙ goals in
    let cycles = c.requires.cycles s rest here in
    let is = first_is_sequent w c.args.proof.now c.requires.world c.requires.proof s rest here in
    let old = has_first w c.args.proof.now c.args.name.now (read w c.args.hypothesis) c.requires.there s rest here in
    let both : Some F ≡ Some (read w c.args.hypothesis) = sym has ∙ old in
    let same : F ≡ read w c.args.hypothesis = cc in
    let reads : tree.permute (cycle A ns) F ≡ read v c.in_ok-formula.formula = ap (tree.permute (cycle A ns)) same ∙ sym c.in_ok-formula.ensures.reads in
    subst (λ D. StandsFor D s (read v c.in_ok-formula.formula) F) (sym adds.declared)
    (subst (λ G. StandsFor (declarations_of w) s G F) reads
    (permuted_stands (declarations_of w) s ns A is cycles.0 cycles.1 F (Contains-there s.conclusion (formulas s.hypotheses) F (found_there s.hypotheses c.args.name.now F has))))

pub returns-in-Ok-clause-turned : goal.returns-in-Ok-clause-turned
returns-in-Ok-clause-turned g c s rest e =
    c.in-Ok.ensures.changed s rest
    (same_goals c.args.world.now c.permuted_formula.new.world c.args.proof.now c.requires.proof c.permuted_formula.ensures.adds ∙ e)
    ∙ ap (λ F. assuming c.args.name.now F (without c.args.name.now s) ∷ rest) c.in_ok-formula.ensures.reads

pub returns-in_err-formula-clause-unchanged : goal.returns-in_err-formula-clause-unchanged
returns-in_err-formula-clause-unchanged g c =
    on_err c.from_residual.result (as_before c.args.world.now c.permuted_formula.new.world c.args.proof.now c.args.proof.now c.permuted_formula.ensures.adds.grows c.requires.proof refl)
