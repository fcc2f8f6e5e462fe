use Rattle.std.proofs.Common.{◌≡◌, Ok, ◌∙◌, ap, subst}
use Rattle.ab_unify.specs.Problem.{cells_read}
use Rattle.ab_formulas.specs.Sequents.{proving}
use Rattle.ab_logic.specs.Worlds.{read}
use Rattle.ab_logic.specs.SequentReadings.{sequent_of}
use Rattle.ab_logic.specs.declared.world.World.{World}
use Rattle.ab_theory.specs.Splits.{IsOpen}
use Rattle.ab_theory.specs.Subjects.{way_by_rule}
use Rattle.ab_judgements.specs.DemandReadings.{rule_read}
use Rattle.ab_judgement_forms.specs.JudgementReadings.{judgement_read}
use Rattle.ab_judgements.specs.SubjectAnswers.{IsUnfoldedBy}
use Rattle.ab_judgements.proofs.CutWorlds.{undone_later}
use Rattle.ab_judgements.proofs.NumberedRules.{unfolded_by}
use Rattle.ab_judgements.proofs.rule_unfoldings.unfold_rule.Goals as goal

pub returns-in_err-formula-clause-later : goal.returns-in_err-formula-clause-later
returns-in_err-formula-clause-later g c = undone_later c.args.world.now c.conclusion_by-solved.new.world c.requires.ruled.world c.conclusion_by-solved.ensures.added.additions c.conclusion_by-solved.ensures.added.grown c.mark-mark.result c.mark-mark.ensures.has c.rewind.new.self c.mark-mark.ensures.bindings c.rewind.ensures.nodes c.rewind.ensures.cells c.rewind.ensures.bindings (c.rewind.ensures.typed c.conclusion_by-solved.new.world.types c.conclusion_by-solved.ensures.added.grown.typed) c.rewind.ensures.marks

pub returns-in_err-premise-in-Formula-clause-later : goal.returns-in_err-premise-in-Formula-clause-later
returns-in_err-premise-in-Formula-clause-later g c = undone_later c.args.world.now c.conclusion_by-solved.new.world c.requires.ruled.world c.conclusion_by-solved.ensures.added.additions c.conclusion_by-solved.ensures.added.grown c.mark-mark.result c.mark-mark.ensures.has c.rewind.new.self c.mark-mark.ensures.bindings c.rewind.ensures.nodes c.rewind.ensures.cells c.rewind.ensures.bindings (c.rewind.ensures.typed c.conclusion_by-solved.new.world.types c.conclusion_by-solved.ensures.added.grown.typed) c.rewind.ensures.marks

pub returns-in_ok-premise-in-Formula-clause-later : goal.returns-in_ok-premise-in-Formula-clause-later
returns-in_ok-premise-in-Formula-clause-later g c = undone_later c.args.world.now c.conclusion_by-solved.new.world c.requires.ruled.world c.conclusion_by-solved.ensures.added.additions c.conclusion_by-solved.ensures.added.grown c.mark-mark.result c.mark-mark.ensures.has c.rewind.new.self c.mark-mark.ensures.bindings c.rewind.ensures.nodes c.rewind.ensures.cells c.rewind.ensures.bindings (c.rewind.ensures.typed c.conclusion_by-solved.new.world.types c.conclusion_by-solved.ensures.added.grown.typed) c.rewind.ensures.marks

pub returns-in-Apart-clause-later : goal.returns-in-Apart-clause-later
returns-in-Apart-clause-later g c = undone_later c.args.world.now c.conclusion_by-solved.new.world c.requires.ruled.world c.conclusion_by-solved.ensures.added.additions c.conclusion_by-solved.ensures.added.grown c.mark-mark.result c.mark-mark.ensures.has c.rewind.new.self c.mark-mark.ensures.bindings c.rewind.ensures.nodes c.rewind.ensures.cells c.rewind.ensures.bindings (c.rewind.ensures.typed c.conclusion_by-solved.new.world.types c.conclusion_by-solved.ensures.added.grown.typed) c.rewind.ensures.marks

pub returns-in-Stuck-clause-later : goal.returns-in-Stuck-clause-later
returns-in-Stuck-clause-later g c = undone_later c.args.world.now c.conclusion_by-solved.new.world c.requires.ruled.world c.conclusion_by-solved.ensures.added.additions c.conclusion_by-solved.ensures.added.grown c.mark-mark.result c.mark-mark.ensures.has c.rewind.new.self c.mark-mark.ensures.bindings c.rewind.ensures.nodes c.rewind.ensures.cells c.rewind.ensures.bindings (c.rewind.ensures.typed c.conclusion_by-solved.new.world.types c.conclusion_by-solved.ensures.added.grown.typed) c.rewind.ensures.marks

pub returns-in_ok-premise-in-Formula-clause-unified : goal.returns-in_ok-premise-in-Formula-clause-unified
returns-in_ok-premise-in-Formula-clause-unified g c = λ p is.
    let w = c.args.world.now in
    let x = c.conclusion_by-solved.new.world in
    let s = c.args.goal.now in
    let v : World = record { types = x.types; store = c.rewind.new.self; additions = x.additions } in
    let y = way_by_rule (sequent_of w s) (judgement_read w c.args.ruled.now.judgement) (rule_read w c.args.rule.now) in
    let formula = c.in-Formula.formula in
    let reads = c.with_conclusion.ensures.reads v ∙ ap (λ q. proving (read v formula) (sequent_of v q)) c.in_ok-premise-in-Formula.ensures in
    let one : c.with_conclusion.result ≡ p = cc in
    subst (λ q. IsUnfoldedBy (cells_read w.types w.store) (sequent_of w s) y (sequent_of v q)) one
    (unfolded_by w x c.rewind.new.self (undone_later c.args.world.now c.conclusion_by-solved.new.world c.requires.ruled.world c.conclusion_by-solved.ensures.added.additions c.conclusion_by-solved.ensures.added.grown c.mark-mark.result c.mark-mark.ensures.has c.rewind.new.self c.mark-mark.ensures.bindings c.rewind.ensures.nodes c.rewind.ensures.cells c.rewind.ensures.bindings (c.rewind.ensures.typed c.conclusion_by-solved.new.world.types c.conclusion_by-solved.ensures.added.grown.typed) c.rewind.ensures.marks) c.rewind.ensures.nodes c.rewind.ensures.cells s c.with_conclusion.result c.requires.goal (cells_read w.types w.store) y formula reads
    (c.conclusion_by-solved.ensures.formula (sequent_of w s) formula (c.in_ok-formula.was ∙ ap Ok c.in-Formula.is)))

pub returns-in-Apart-clause-apart : goal.returns-in-Apart-clause-apart
returns-in-Apart-clause-apart g c = λ is.
    c.conclusion_by-solved.ensures.apart (sequent_of c.args.world.now c.args.goal.now) (c.in_ok-formula.was ∙ ap Ok c.in-Apart.is)

pub returns-in-Stuck-clause-stuck : goal.returns-in-Stuck-clause-stuck
returns-in-Stuck-clause-stuck g c = λ i is.
    let w = c.args.world.now in
    let one : c.in-Stuck.place ≡ i = cc in
    subst (IsOpen ((way_by_rule (sequent_of w c.args.goal.now) (judgement_read w c.args.ruled.now.judgement) (rule_read w c.args.rule.now)).case (cells_read w.types w.store))) one
    (c.conclusion_by-solved.ensures.stuck (sequent_of w c.args.goal.now) c.in-Stuck.place (c.in_ok-formula.was ∙ ap Ok c.in-Stuck.is))
