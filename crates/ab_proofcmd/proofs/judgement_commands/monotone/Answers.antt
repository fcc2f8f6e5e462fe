use Rattle.std.specs.Prelude.{◌≡◌, None, Err}
use Rattle.std.specs.Option.{option_map}
use Rattle.std.proofs.Common.{sym, ◌∙◌, ap, subst}
use Rattle.ab_term.specs.Types.{olist}
use Rattle.ab_grammar.specs.CommandTrees as told
use Rattle.ab_syntax.specs.ab_expressions.specs.SyntaxTrees.{tree_of}
use Rattle.ab_formulas.specs.Sequents.{Fits, IsUsed, formula_of}
use Rattle.ab_logic.specs.SequentReadings.{sequent_of}
use Rattle.ab_logic.specs.Worlds.{read, declarations_of}
use Rattle.ab_equations.specs.Labels.{label_of}
use Rattle.ab_theory.specs.Steps.{spec_monotone}
use Rattle.ab_hypothesis.proofs.Rows.{some_formula, no_formula}
use Rattle.ab_hypothesis.specs.ab_steps.specs.ab_kernel.specs.Layout.{history_of}
use Rattle.ab_hypothesis.specs.ab_steps.specs.ab_kernel.proofs.Later.{same_history, still_proof}
use Rattle.ab_effects.specs.ProofCommands.{effect, clashing}
use Rattle.ab_meaning.specs.Refusals.{clash}
use Rattle.ab_meaning.specs.Terms.{Means}
use Rattle.ab_hypothesis.specs.ab_steps.specs.ProofEffects.{IsApplied, RefusedBy}
use Rattle.ab_hypothesis.specs.ab_steps.specs.Progress.{Took}
use Rattle.ab_hypothesis.specs.ab_steps.specs.declared.fault.ProofCommandFault.TheVariants.{NoHypothesis}
use Rattle.ab_hypothesis.specs.ab_steps.proofs.Following.{follows_on}
use Rattle.ab_proofcmd.specs.GoalExpressions.{IsReadAs}
use Rattle.ab_proofcmd.proofs.Carried.{first_sequent}
use Rattle.ab_proofcmd.proofs.JudgementRows.{MayWiden, list_refused, monotone_missing, monotone_applied, monotone_refused}
use Rattle.ab_proofcmd.proofs.Rows.{same_goals, follows_world, on_ok, on_err, on_err_so}
use Rattle.ab_proofcmd.proofs.judgement_commands.monotone.Goals as goal

pub read_list-requires-clause-sequent : goal.read_list-requires-clause-sequent
read_list-requires-clause-sequent g c =
    let w = c.args.world.now in
    first_sequent w c.requires.world c.args.proof.now c.requires.proof c.requires.open (sequent_of w c.first_goal-goal.result.now) c.first_goal-goal.ensures.reads

pub widen-requires-clause-proof : goal.widen-requires-clause-proof
widen-requires-clause-proof g c = still_proof c.args.world.now c.read_list.new.world c.read_list.ensures.grows c.read_list.ensures.declared c.args.proof.now c.requires.proof

pub widen-requires-clause-open : goal.widen-requires-clause-open
widen-requires-clause-open g c none =
    c.requires.open (sym (same_goals c.args.world.now c.read_list.new.world c.args.proof.now c.read_list.ensures.grows c.requires.proof) ∙ none)

pub returns-in_err-copy-in-Ok-clause-follows : goal.returns-in_err-copy-in-Ok-clause-follows
returns-in_err-copy-in-Ok-clause-follows g c = follows_world c.args.world.now c.read_list.new.world c.args.proof.now c.read_list.ensures.grows c.read_list.ensures.declared c.requires.proof

pub returns-in_err-copy-in-Ok-clause-unchanged : goal.returns-in_err-copy-in-Ok-clause-unchanged
returns-in_err-copy-in-Ok-clause-unchanged g c = on_err _ _ (same_history c.args.world.now c.read_list.new.world c.read_list.ensures.grows c.args.proof.now c.requires.proof)

pub returns-then-not-there-clause-follows : goal.returns-then-not-there-clause-follows
returns-then-not-there-clause-follows g c = follows_world c.args.world.now c.read_list.new.world c.args.proof.now c.read_list.ensures.grows c.read_list.ensures.declared c.requires.proof

pub returns-then-not-there-clause-unchanged : goal.returns-then-not-there-clause-unchanged
returns-then-not-there-clause-unchanged g c = same_history c.args.world.now c.read_list.new.world c.read_list.ensures.grows c.args.proof.now c.requires.proof

pub returns-then-not-there-clause-refused : goal.returns-then-not-there-clause-refused
returns-then-not-there-clause-refused g c fault same s rest first =
    let w = c.args.world.now in
    let m = c.read_list.new.world in
    let D = declarations_of w in
    let l = label_of c.args.label.now in
    let H = c.args.name.now in
    let e = tree_of c.args.list.now in
    let K = read m c.in-Ok.wider in
    let here = c.first_goal-goal.ensures.reads s rest first in
    let free : clashing l s ≡ None = ap (clashing l) (sym here) ∙ sym (c.in_ok-clash.ensures w) ∙ ap (option_map clash) c.in_default.is in
    let means : Means D s e olist K = subst (λ k. Means D k e olist K) here c.in-Ok.ensures.reads.0 in
    let none : formula_of s H ≡ None =
    no_formula s H (λ used. let yes = (c.uses-there.ensures w).1 (subst (λ k. IsUsed k H) (sym here) used) in let no = c.if-not-there.true in cc) in
    let copied : NoHypothesis c.in_ok-copy-in-Ok.field-0 ≡ fault = cc in
    let is : NoHypothesis H ≡ fault = sym (ap (λ x. NoHypothesis x) c.in_ok-copy-in-Ok.ensures) ∙ copied in
    subst (RefusedBy (effect D l (told.monotone H e) s)) is (monotone_missing D l H e s free K means none)

pub returns-else-not-there-clause-follows : goal.returns-else-not-there-clause-follows
returns-else-not-there-clause-follows g c =
    follows_on c.args.world.now c.read_list.new.world c.widen.new.world c.args.proof.now c.args.proof.now c.widen.new.proof
    (follows_world c.args.world.now c.read_list.new.world c.args.proof.now c.read_list.ensures.grows c.read_list.ensures.declared c.requires.proof) c.widen.ensures.follows

pub returns-else-not-there-clause-applied : goal.returns-else-not-there-clause-applied
returns-else-not-there-clause-applied g c =
    let w = c.args.world.now in
    let m = c.read_list.new.world in
    let p = c.args.proof.now in
    let l = label_of c.args.label.now in
    let H = c.args.name.now in
    let e = tree_of c.args.list.now in
    let K = read m c.in-Ok.wider in
    let may : MayWiden w p l H e K = λ s rest first.
    let here = c.first_goal-goal.ensures.reads s rest first in
    let used : IsUsed s H = subst (λ k. IsUsed k H) here ((c.uses-there.ensures w).0 c.if-not-there.false) in (
      ap (clashing l) (sym here) ∙ sym (c.in_ok-clash.ensures w) ∙ ap (option_map clash) c.in_default.is,
      subst (λ k. Means (declarations_of w) k e olist K) here c.in-Ok.ensures.reads.0,
      subst (λ k. Fits (declarations_of w) k K olist) here c.in-Ok.ensures.reads.1,
      some_formula s H used,
    ) in
    on_ok (Took m p c.widen.new.world c.widen.new.proof 0 (spec_monotone H K l)) (IsApplied l (told.monotone H e) w p c.widen.new.world c.widen.new.proof) c.widen.result
    (monotone_applied w m p c.read_list.ensures.declared (same_goals w m p c.read_list.ensures.grows c.requires.proof) l H e K may c.widen.new.world c.widen.new.proof)
    c.widen.ensures.took

pub returns-else-not-there-clause-refused : goal.returns-else-not-there-clause-refused
returns-else-not-there-clause-refused g c fault same =
    let w = c.args.world.now in
    let m = c.read_list.new.world in
    let p = c.args.proof.now in
    let l = label_of c.args.label.now in
    let H = c.args.name.now in
    let e = tree_of c.args.list.now in
    let K = read m c.in-Ok.wider in
    let may : MayWiden w p l H e K = λ s rest first.
    let here = c.first_goal-goal.ensures.reads s rest first in
    let used : IsUsed s H = subst (λ k. IsUsed k H) here ((c.uses-there.ensures w).0 c.if-not-there.false) in (
      ap (clashing l) (sym here) ∙ sym (c.in_ok-clash.ensures w) ∙ ap (option_map clash) c.in_default.is,
      subst (λ k. Means (declarations_of w) k e olist K) here c.in-Ok.ensures.reads.0,
      subst (λ k. Fits (declarations_of w) k K olist) here c.in-Ok.ensures.reads.1,
      some_formula s H used,
    ) in
    monotone_refused w m p c.read_list.ensures.declared (same_goals w m p c.read_list.ensures.grows c.requires.proof) l H e K may fault (c.widen.ensures.refused fault same)

pub returns-else-not-there-clause-unchanged : goal.returns-else-not-there-clause-unchanged
returns-else-not-there-clause-unchanged g c =
    let w = c.args.world.now in
    let m = c.read_list.new.world in
    let p = c.args.proof.now in
    on_err_so (history_of c.widen.new.world c.widen.new.proof ≡ history_of m p) (history_of c.widen.new.world c.widen.new.proof ≡ history_of w p) c.widen.result
    (λ same. same ∙ same_history w m c.read_list.ensures.grows p c.requires.proof) c.widen.ensures.unchanged

pub returns-in-Err-clause-follows : goal.returns-in-Err-clause-follows
returns-in-Err-clause-follows g c = follows_world c.args.world.now c.read_list.new.world c.args.proof.now c.read_list.ensures.grows c.read_list.ensures.declared c.requires.proof

pub returns-in-Err-clause-unchanged : goal.returns-in-Err-clause-unchanged
returns-in-Err-clause-unchanged g c = same_history c.args.world.now c.read_list.new.world c.read_list.ensures.grows c.args.proof.now c.requires.proof

pub returns-in-Err-clause-refused : goal.returns-in-Err-clause-refused
returns-in-Err-clause-refused g c fault same s rest first =
    let w = c.args.world.now in
    let m = c.read_list.new.world in
    let D = declarations_of w in
    let l = label_of c.args.label.now in
    let H = c.args.name.now in
    let e = tree_of c.args.list.now in
    let here = c.first_goal-goal.ensures.reads s rest first in
    let free : clashing l s ≡ None = ap (clashing l) (sym here) ∙ sym (c.in_ok-clash.ensures w) ∙ ap (option_map clash) c.in_default.is in
    let is : c.fault_for.result ≡ fault = cc in
    subst (RefusedBy (effect D l (told.monotone H e) s)) (sym c.fault_for.ensures ∙ is)
    (list_refused D l H e s free m c.in-Err.fault (subst (λ k. IsReadAs D k e olist m (Err c.in-Err.fault)) here c.in-Err.ensures.reads))
