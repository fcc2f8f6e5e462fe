use Rattle.std.proofs.Common.{◌≡◌, Ok, ◌∙◌, ap, subst}
use Rattle.ab_unify.specs.Problem.{cells_read}
use Rattle.ab_formulas.specs.Sequents.{proving}
use Rattle.ab_logic.specs.Worlds.{read}
use Rattle.ab_logic.specs.SequentReadings.{sequent_of}
use Rattle.ab_theory.specs.Splits.{IsOpen}
use Rattle.ab_theory.specs.Unfolding.{unfolding_case}
use Rattle.ab_alternatives.specs.AtomReadings.{defined_read, choice_read}
use Rattle.ab_alternatives.specs.RightAlternatives.{IsUnfolded}
use Rattle.ab_alternatives.proofs.Undone.{undone, grown, told, goal_is}
use Rattle.ab_alternatives.proofs.one_choice.unfold.Goals as goal

pub returns-in_err-formula-clause-grows : goal.returns-in_err-formula-clause-grows
returns-in_err-formula-clause-grows g c =
    grown c.args.world.now c.conclusion_by-solved.new.world c.requires.world c.conclusion_by-solved.ensures.additions c.conclusion_by-solved.ensures.grows c.mark-mark.result c.mark-mark.ensures.has c.mark-mark.ensures.bindings c.rewind.new.self c.rewind.ensures.nodes c.rewind.ensures.cells c.rewind.ensures.bindings (c.rewind.ensures.typed c.conclusion_by-solved.new.world.types c.conclusion_by-solved.ensures.grows.typed) c.rewind.ensures.marks

pub returns-in_err-formula-clause-declared : goal.returns-in_err-formula-clause-declared
returns-in_err-formula-clause-declared g c =
    told c.args.world.now c.conclusion_by-solved.new.world c.requires.world c.conclusion_by-solved.ensures.additions c.conclusion_by-solved.ensures.grows c.mark-mark.result c.mark-mark.ensures.has c.mark-mark.ensures.bindings c.rewind.new.self c.rewind.ensures.nodes c.rewind.ensures.cells c.rewind.ensures.bindings (c.rewind.ensures.typed c.conclusion_by-solved.new.world.types c.conclusion_by-solved.ensures.grows.typed) c.rewind.ensures.marks

pub returns-in_err-premise-in-Formula-clause-grows : goal.returns-in_err-premise-in-Formula-clause-grows
returns-in_err-premise-in-Formula-clause-grows g c =
    grown c.args.world.now c.conclusion_by-solved.new.world c.requires.world c.conclusion_by-solved.ensures.additions c.conclusion_by-solved.ensures.grows c.mark-mark.result c.mark-mark.ensures.has c.mark-mark.ensures.bindings c.rewind.new.self c.rewind.ensures.nodes c.rewind.ensures.cells c.rewind.ensures.bindings (c.rewind.ensures.typed c.conclusion_by-solved.new.world.types c.conclusion_by-solved.ensures.grows.typed) c.rewind.ensures.marks

pub returns-in_err-premise-in-Formula-clause-declared : goal.returns-in_err-premise-in-Formula-clause-declared
returns-in_err-premise-in-Formula-clause-declared g c =
    told c.args.world.now c.conclusion_by-solved.new.world c.requires.world c.conclusion_by-solved.ensures.additions c.conclusion_by-solved.ensures.grows c.mark-mark.result c.mark-mark.ensures.has c.mark-mark.ensures.bindings c.rewind.new.self c.rewind.ensures.nodes c.rewind.ensures.cells c.rewind.ensures.bindings (c.rewind.ensures.typed c.conclusion_by-solved.new.world.types c.conclusion_by-solved.ensures.grows.typed) c.rewind.ensures.marks

pub returns-in_ok-premise-in-Formula-clause-grows : goal.returns-in_ok-premise-in-Formula-clause-grows
returns-in_ok-premise-in-Formula-clause-grows g c =
    grown c.args.world.now c.conclusion_by-solved.new.world c.requires.world c.conclusion_by-solved.ensures.additions c.conclusion_by-solved.ensures.grows c.mark-mark.result c.mark-mark.ensures.has c.mark-mark.ensures.bindings c.rewind.new.self c.rewind.ensures.nodes c.rewind.ensures.cells c.rewind.ensures.bindings (c.rewind.ensures.typed c.conclusion_by-solved.new.world.types c.conclusion_by-solved.ensures.grows.typed) c.rewind.ensures.marks

pub returns-in_ok-premise-in-Formula-clause-declared : goal.returns-in_ok-premise-in-Formula-clause-declared
returns-in_ok-premise-in-Formula-clause-declared g c =
    told c.args.world.now c.conclusion_by-solved.new.world c.requires.world c.conclusion_by-solved.ensures.additions c.conclusion_by-solved.ensures.grows c.mark-mark.result c.mark-mark.ensures.has c.mark-mark.ensures.bindings c.rewind.new.self c.rewind.ensures.nodes c.rewind.ensures.cells c.rewind.ensures.bindings (c.rewind.ensures.typed c.conclusion_by-solved.new.world.types c.conclusion_by-solved.ensures.grows.typed) c.rewind.ensures.marks

pub returns-in-Apart-clause-grows : goal.returns-in-Apart-clause-grows
returns-in-Apart-clause-grows g c =
    grown c.args.world.now c.conclusion_by-solved.new.world c.requires.world c.conclusion_by-solved.ensures.additions c.conclusion_by-solved.ensures.grows c.mark-mark.result c.mark-mark.ensures.has c.mark-mark.ensures.bindings c.rewind.new.self c.rewind.ensures.nodes c.rewind.ensures.cells c.rewind.ensures.bindings (c.rewind.ensures.typed c.conclusion_by-solved.new.world.types c.conclusion_by-solved.ensures.grows.typed) c.rewind.ensures.marks

pub returns-in-Apart-clause-declared : goal.returns-in-Apart-clause-declared
returns-in-Apart-clause-declared g c =
    told c.args.world.now c.conclusion_by-solved.new.world c.requires.world c.conclusion_by-solved.ensures.additions c.conclusion_by-solved.ensures.grows c.mark-mark.result c.mark-mark.ensures.has c.mark-mark.ensures.bindings c.rewind.new.self c.rewind.ensures.nodes c.rewind.ensures.cells c.rewind.ensures.bindings (c.rewind.ensures.typed c.conclusion_by-solved.new.world.types c.conclusion_by-solved.ensures.grows.typed) c.rewind.ensures.marks

pub returns-in-Stuck-clause-grows : goal.returns-in-Stuck-clause-grows
returns-in-Stuck-clause-grows g c =
    grown c.args.world.now c.conclusion_by-solved.new.world c.requires.world c.conclusion_by-solved.ensures.additions c.conclusion_by-solved.ensures.grows c.mark-mark.result c.mark-mark.ensures.has c.mark-mark.ensures.bindings c.rewind.new.self c.rewind.ensures.nodes c.rewind.ensures.cells c.rewind.ensures.bindings (c.rewind.ensures.typed c.conclusion_by-solved.new.world.types c.conclusion_by-solved.ensures.grows.typed) c.rewind.ensures.marks

pub returns-in-Stuck-clause-declared : goal.returns-in-Stuck-clause-declared
returns-in-Stuck-clause-declared g c =
    told c.args.world.now c.conclusion_by-solved.new.world c.requires.world c.conclusion_by-solved.ensures.additions c.conclusion_by-solved.ensures.grows c.mark-mark.result c.mark-mark.ensures.has c.mark-mark.ensures.bindings c.rewind.new.self c.rewind.ensures.nodes c.rewind.ensures.cells c.rewind.ensures.bindings (c.rewind.ensures.typed c.conclusion_by-solved.new.world.types c.conclusion_by-solved.ensures.grows.typed) c.rewind.ensures.marks

pub returns-in_ok-premise-in-Formula-clause-unified : goal.returns-in_ok-premise-in-Formula-clause-unified
returns-in_ok-premise-in-Formula-clause-unified g c = λ p is.
    let w = c.args.world.now in
    let s = c.args.goal.now in
    let v = undone c.args.world.now c.conclusion_by-solved.new.world c.requires.world c.conclusion_by-solved.ensures.additions c.conclusion_by-solved.ensures.grows c.mark-mark.result c.mark-mark.ensures.has c.mark-mark.ensures.bindings c.rewind.new.self c.rewind.ensures.nodes c.rewind.ensures.cells c.rewind.ensures.bindings (c.rewind.ensures.typed c.conclusion_by-solved.new.world.types c.conclusion_by-solved.ensures.grows.typed) c.rewind.ensures.marks in
    let d = defined_read w c.args.atom.now in
    let ch = choice_read w c.args.clause.now c.args.names.now in
    let formula = c.in-Formula.formula in
    let reads = c.with_conclusion.ensures.reads v ∙ ap (λ q. proving (read v formula) (sequent_of v q)) c.in_ok-premise-in-Formula.ensures in
    let one : c.with_conclusion.result ≡ p = cc in
    subst (λ q. IsUnfolded (cells_read w.types w.store) (sequent_of w s) d ch (sequent_of v q)) one
    (goal_is c.args.world.now c.conclusion_by-solved.new.world c.requires.world c.conclusion_by-solved.ensures.additions c.conclusion_by-solved.ensures.grows c.mark-mark.result c.mark-mark.ensures.has c.mark-mark.ensures.bindings c.rewind.new.self c.rewind.ensures.nodes c.rewind.ensures.cells c.rewind.ensures.bindings (c.rewind.ensures.typed c.conclusion_by-solved.new.world.types c.conclusion_by-solved.ensures.grows.typed) c.rewind.ensures.marks s c.with_conclusion.result c.requires.goal d ch formula reads
    (c.conclusion_by-solved.ensures.formula (sequent_of w s) formula (c.in_ok-formula.was ∙ ap Ok c.in-Formula.is)))

pub returns-in-Apart-clause-apart : goal.returns-in-Apart-clause-apart
returns-in-Apart-clause-apart g c = λ is.
    c.conclusion_by-solved.ensures.apart (sequent_of c.args.world.now c.args.goal.now) (c.in_ok-formula.was ∙ ap Ok c.in-Apart.is)

pub returns-in-Stuck-clause-stuck : goal.returns-in-Stuck-clause-stuck
returns-in-Stuck-clause-stuck g c = λ i is.
    let w = c.args.world.now in
    let one : c.in-Stuck.place ≡ i = cc in
    subst (IsOpen (unfolding_case (cells_read w.types w.store) (sequent_of w c.args.goal.now) (defined_read w c.args.atom.now) (choice_read w c.args.clause.now c.args.names.now))) one
    (c.conclusion_by-solved.ensures.stuck (sequent_of w c.args.goal.now) c.in-Stuck.place (c.in_ok-formula.was ∙ ap Ok c.in-Stuck.is))
