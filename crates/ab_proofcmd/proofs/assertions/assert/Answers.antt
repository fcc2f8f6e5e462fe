use Rattle.std.specs.Option.{option_map}
use Rattle.std.proofs.Common.{◌≡◌, sym, ◌∙◌, ap, subst}
use Rattle.ab_term.specs.Types.{prop}
use Rattle.ab_grammar.specs.CommandTrees as told
use Rattle.ab_grammar.specs.Tree as tree
use Rattle.ab_syntax.specs.ab_expressions.specs.SyntaxTrees.{tree_of}
use Rattle.ab_formulas.specs.Sequents.{IsSequent, Fits}
use Rattle.ab_logic.specs.Worlds.{read, declarations_of}
use Rattle.ab_equations.specs.Labels.{label_of}
use Rattle.ab_theory.specs.Steps.{cut_formula}
use Rattle.ab_hypothesis.specs.ab_steps.specs.ab_kernel.specs.Layout.{history_of, goals_of}
use Rattle.ab_hypothesis.specs.ab_steps.specs.ab_kernel.proofs.Later.{same_history, still_proof}
use Rattle.ab_effects.specs.ProofCommands.{clashing}
use Rattle.ab_meaning.specs.Refusals.{clash}
use Rattle.ab_meaning.specs.Terms.{Means}
use Rattle.ab_hypothesis.specs.ab_steps.specs.ProofEffects.{IsApplied}
use Rattle.ab_hypothesis.specs.ab_steps.specs.Progress.{Took}
use Rattle.ab_hypothesis.specs.ab_steps.proofs.Following.{one_at_least, follows_on}
use Rattle.ab_proofcmd.specs.CutRefusals.{CutFails}
use Rattle.ab_hypothesis.specs.ab_steps.specs.ab_kernel.proofs.GoalSequents.{first_is_sequent}
use Rattle.ab_proofcmd.proofs.Rows.{same_goals, follows_world, on_ok, on_err_so, States, assert_applied, cut_refused}
use Rattle.ab_proofcmd.proofs.assertions.assert.Goals as goal

pub read_formula-requires-clause-sequent : goal.read_formula-requires-clause-sequent
read_formula-requires-clause-sequent g c =
    let w = c.args.world.now in
    let p = c.args.proof.now in
    let one = one_at_least (goals_of w p) c.requires.open in
    subst (IsSequent (declarations_of w)) (sym (c.first_goal-goal.ensures.reads one.0 one.1 one.2)) (first_is_sequent w p c.requires.world c.requires.proof one.0 one.1 one.2)

pub cut-requires-clause-proof : goal.cut-requires-clause-proof
cut-requires-clause-proof g c = still_proof c.args.world.now c.read_formula.new.world c.read_formula.ensures.grows c.read_formula.ensures.declared c.args.proof.now c.requires.proof

pub cut-requires-clause-open : goal.cut-requires-clause-open
cut-requires-clause-open g c none =
    c.requires.open (sym (same_goals c.args.world.now c.read_formula.new.world c.args.proof.now c.read_formula.ensures.grows c.requires.proof) ∙ none)

pub returns-in-Ok-clause-follows : goal.returns-in-Ok-clause-follows
returns-in-Ok-clause-follows g c =
    follows_on c.args.world.now c.read_formula.new.world c.cut.new.world c.args.proof.now c.args.proof.now c.cut.new.proof
    (follows_world c.args.world.now c.read_formula.new.world c.args.proof.now c.read_formula.ensures.grows c.read_formula.ensures.declared c.requires.proof) c.cut.ensures.follows

pub returns-in-Ok-clause-applied : goal.returns-in-Ok-clause-applied
returns-in-Ok-clause-applied g c =
    let w = c.args.world.now in
    let m = c.read_formula.new.world in
    let p = c.args.proof.now in
    let l = label_of c.args.label.now in
    let e = tree_of c.args.formula.now in
    let F = read m c.in-Ok.stated in
    let states : States w p l e F = λ s rest first.
    let here = c.first_goal-goal.ensures.reads s rest first in (
      ap (clashing l) (sym here) ∙ sym (c.in_ok-clash.ensures w) ∙ ap (option_map clash) c.in_default.is,
      subst (λ k. Means (declarations_of w) k e prop F) here c.in-Ok.ensures.reads.0,
      subst (λ k. Fits (declarations_of w) k F prop) here c.in-Ok.ensures.reads.1,
    ) in
    on_ok (Took m p c.cut.new.world c.cut.new.proof 0 (cut_formula F (label_of c.in_ok-given.given))) (IsApplied l (told.assert e) w p c.cut.new.world c.cut.new.proof) c.cut.result
    (λ took.
    assert_applied w m p c.read_formula.ensures.declared (same_goals w m p c.read_formula.ensures.grows c.requires.proof) l e F states c.cut.new.world c.cut.new.proof
    (subst (λ k. Took m p c.cut.new.world c.cut.new.proof 0 (cut_formula F k)) c.in_ok-given.ensures took))
    c.cut.ensures.took

pub returns-in-Ok-clause-refused : goal.returns-in-Ok-clause-refused
returns-in-Ok-clause-refused g c fault same s rest first =
    let w = c.args.world.now in
    let m = c.read_formula.new.world in
    let p = c.args.proof.now in
    let l = label_of c.args.label.now in
    let e = tree_of c.args.formula.now in
    let F = read m c.in-Ok.stated in
    let goals = same_goals w m p c.read_formula.ensures.grows c.requires.proof in
    let states : States w p l e F = λ s rest first.
    let here = c.first_goal-goal.ensures.reads s rest first in (
      ap (clashing l) (sym here) ∙ sym (c.in_ok-clash.ensures w) ∙ ap (option_map clash) c.in_default.is,
      subst (λ k. Means (declarations_of w) k e prop F) here c.in-Ok.ensures.reads.0,
      subst (λ k. Fits (declarations_of w) k F prop) here c.in-Ok.ensures.reads.1,
    ) in
    cut_refused w m p c.read_formula.ensures.declared goals l e F states s rest first fault
    (subst (λ k. CutFails (declarations_of m) F k (tree.place_of e) s fault) c.in_ok-given.ensures
    (subst (λ n. CutFails (declarations_of m) F (label_of c.in_ok-given.given) n s fault) c.place_of.ensures (c.cut.ensures.refused fault same s rest (goals ∙ first))))

pub returns-in-Ok-clause-unchanged : goal.returns-in-Ok-clause-unchanged
returns-in-Ok-clause-unchanged g c =
    let w = c.args.world.now in
    let m = c.read_formula.new.world in
    let p = c.args.proof.now in
    on_err_so (history_of c.cut.new.world c.cut.new.proof ≡ history_of m p) (history_of c.cut.new.world c.cut.new.proof ≡ history_of w p) c.cut.result
    (λ same. same ∙ same_history w m c.read_formula.ensures.grows p c.requires.proof) c.cut.ensures.unchanged

pub returns-in-Err-clause-follows : goal.returns-in-Err-clause-follows
returns-in-Err-clause-follows g c =
    follows_world c.args.world.now c.read_formula.new.world c.args.proof.now c.read_formula.ensures.grows c.read_formula.ensures.declared c.requires.proof

pub returns-in-Err-clause-unchanged : goal.returns-in-Err-clause-unchanged
returns-in-Err-clause-unchanged g c = same_history c.args.world.now c.read_formula.new.world c.read_formula.ensures.grows c.args.proof.now c.requires.proof
