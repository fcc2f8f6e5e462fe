use Rattle.std.specs.Prelude.{IfSome, slice_get}
use Rattle.std.specs.Option.{option_map}
use Rattle.std.proofs.Common.{◌≡◌, List, Ok, sym, ◌∙◌, ap, subst}
use Rattle.std.proofs.lemmas.List.Elements.{All-head}
use Rattle.ab_norm.specs.declared.nominal.Nominal.{Nominal}
use Rattle.ab_unify.specs.Problem.{cells_read}
use Rattle.ab_instances.specs.ListReadings.{names_read}
use Rattle.ab_formulas.specs.Declarations.{signature_in}
use Rattle.ab_formulas.specs.Formulas.{IsFormula}
use Rattle.ab_logic.specs.SequentReadings.{sequent_of}
use Rattle.ab_formulas.specs.Sequents.{formulas}
use Rattle.ab_logic.specs.Worlds.{declarations_of}
use Rattle.ab_theory.specs.Splits.{NeverArises, IsOpen}
use Rattle.ab_equations.specs.declared.cases.CaseSolution.TheVariants.{Unified, Apart, Stuck}
use Rattle.ab_theory.specs.Atoms.{choices_of}
use Rattle.ab_theory.specs.Unfolding.{unfolding_case}
use Rattle.ab_alternatives.specs.AtomReadings.{defined_read, choice_read}
use Rattle.ab_alternatives.specs.RightAlternatives.{IsUnfolded}
use Rattle.ab_alternatives.specs.Choices.{read_choice, IsHeldFor}
use Rattle.ab_alternatives.proofs.Unfoldable.{taken_by, clause_defines}
use Rattle.ab_alternatives.proofs.choice_places.unfold_at.Goals as goal

pub unfold-requires-clause-taken : goal.unfold-requires-clause-taken
unfold-requires-clause-taken g c =
    let w = c.args.world.now in
    let s = sequent_of w c.args.goal.now in
    taken_by w c.requires.world s.conclusion (All-head (IsFormula (signature_in (declarations_of w))) s.conclusion (formulas s.hypotheses) c.requires.sequent.formulas) c.args.atom.now c.requires.conclusion

pub unfold-requires-clause-formula : goal.unfold-requires-clause-formula
unfold-requires-clause-formula g c =
    let w = c.args.world.now in
    let a = c.args.atom.now in
    let held = subst (λ o. IfSome o (IsHeldFor w a)) c.in-Some.is c.in_ok-choice.ensures.held in
    (clause_defines w a c.requires.atom c.in-Some.choice.clause.now held.clause).body

pub returns-in_default-clause-none : goal.returns-in_default-clause-none
returns-in_default-clause-none g c = λ e.
    let w = c.args.world.now in
    let d = defined_read w c.args.atom.now in
    let p = c.args.place in
    ap (λ cs. slice_get cs p) (sym (c.in_ok-held.ensures.choices d))
    ∙ ap (λ (l : List Nominal). slice_get (choices_of (names_read w.types l) d) p) (sym c.deref-3.ensures.value)
    ∙ sym c.in_ok-choice.ensures.choice
    ∙ ap (option_map (read_choice w)) c.in_default.is

pub returns-clause-unified : goal.returns-clause-unified
returns-clause-unified g c = λ q e.
    let w = c.args.world.now in
    let s = sequent_of w c.args.goal.now in
    let d = defined_read w c.args.atom.now in
    let p = c.args.place in
    let choice = c.in-Some.choice in
    let same : c.in_ok-solved.solved ≡ Unified q = cc in (
      read_choice w choice,
      ap (λ cs. slice_get cs p) (sym (c.in_ok-held.ensures.choices d))
          ∙ ap (λ (l : List Nominal). slice_get (choices_of (names_read w.types l) d) p) (sym c.deref-3.ensures.value)
          ∙ sym c.in_ok-choice.ensures.choice
          ∙ ap (option_map (read_choice w)) c.in-Some.is,
      subst (λ (ns : List Nominal). IsUnfolded (cells_read w.types w.store) s d (choice_read w choice.clause.now ns) (sequent_of c.unfold.new.world q)) c.deref-5.ensures.value
          (c.in_ok-solved.ensures.unified q (ap Ok same)),
    )

pub returns-clause-apart : goal.returns-clause-apart
returns-clause-apart g c = λ e.
    let w = c.args.world.now in
    let s = sequent_of w c.args.goal.now in
    let d = defined_read w c.args.atom.now in
    let p = c.args.place in
    let choice = c.in-Some.choice in
    let same : c.in_ok-solved.solved ≡ Apart = cc in (
      read_choice w choice,
      ap (λ cs. slice_get cs p) (sym (c.in_ok-held.ensures.choices d))
          ∙ ap (λ (l : List Nominal). slice_get (choices_of (names_read w.types l) d) p) (sym c.deref-3.ensures.value)
          ∙ sym c.in_ok-choice.ensures.choice
          ∙ ap (option_map (read_choice w)) c.in-Some.is,
      subst (λ (ns : List Nominal). NeverArises (unfolding_case (cells_read w.types w.store) s d (choice_read w choice.clause.now ns))) c.deref-5.ensures.value
          (c.in_ok-solved.ensures.apart (ap Ok same)),
    )

pub returns-clause-stuck : goal.returns-clause-stuck
returns-clause-stuck g c = λ i e.
    let w = c.args.world.now in
    let s = sequent_of w c.args.goal.now in
    let d = defined_read w c.args.atom.now in
    let p = c.args.place in
    let choice = c.in-Some.choice in
    let same : c.in_ok-solved.solved ≡ Stuck i = cc in (
      read_choice w choice,
      ap (λ cs. slice_get cs p) (sym (c.in_ok-held.ensures.choices d))
          ∙ ap (λ (l : List Nominal). slice_get (choices_of (names_read w.types l) d) p) (sym c.deref-3.ensures.value)
          ∙ sym c.in_ok-choice.ensures.choice
          ∙ ap (option_map (read_choice w)) c.in-Some.is,
      subst (λ (ns : List Nominal). IsOpen (unfolding_case (cells_read w.types w.store) s d (choice_read w choice.clause.now ns)) i) c.deref-5.ensures.value
          (c.in_ok-solved.ensures.stuck i (ap Ok same)),
    )
