use Rattle.std.proofs.Common.{◌≡◌, ◌++◌, List, refl, sym, ◌∙◌, ap, subst}
use Rattle.std.specs.Prelude.{IfOk, Contains}
use Rattle.ab_theory.specs.Uses.{given_constants}
use Rattle.ab_norm.specs.declared.nominal.Nominal.{Nominal}
use Rattle.ab_alternatives.specs.ab_equations.proofs.Restored as restored
use Rattle.ab_norm.proofs.Frame.{if_ok}
use Rattle.ab_unifiers.specs.Choices.{in_order}
use Rattle.ab_formulas.specs.Sequents.{Sequent, goal_names}
use Rattle.ab_logic.specs.SequentReadings.{sequent_of}
use Rattle.ab_logic.specs.declared.world.World.{World}
use Rattle.ab_alternatives.specs.ab_instances.specs.ListReadings.{names_read}
use Rattle.ab_unify.specs.Problem.{cells_read}
use Rattle.ab_unify.proofs.Cut.{cut_as_before, cut_grows}
use Rattle.ab_alternatives.proofs.Tried.{grown_to, declared_to}
use Rattle.ab_alternatives.proofs.Undone as undoing
use Rattle.ab_norm.specs.ab_store.specs.Trees.{tree_of}
use Rattle.ab_uses.specs.UseCells.{parts_read}
use Rattle.ab_uses.specs.declared.part.Part.{Part}
use Rattle.ab_uses.specs.UseSolutions.{aim_in}
use Rattle.ab_uses.specs.ChoiceAnswers.{ComesOut}
use Rattle.ab_uses.specs.Questions.{using_at}
use Rattle.ab_uses.specs.declared.outcome.Outcome.{Outcome}
use Rattle.ab_uses.specs.declared.outcome.Outcome.TheVariants.{PassedOver, Apart}
use Rattle.ab_uses.proofs.Undone.{comes_out_still}
use Rattle.ab_uses.proofs.one_choice.try_choice.Goals as goal
use Rattle.ab_uses.proofs.one_choice.try_choice.Goals.{in_default-via-in-Ok+in-Stuck-1, in_default-via-in-Err-1}

pub use_choice-requires-clause-all_known : goal.use_choice-requires-clause-all_known
use_choice-requires-clause-all_known g c a m =
    let w = c.args.world.now in
    let q = c.args.question.now in
    subst (λ (l : List Nominal). Contains (names_read w.types l) a) (sym c.deref-2.ensures.value)
    (c.requires.posed.all_known a
    (subst (λ (l : List Nominal). Contains (names_read w.types l ++ given_constants (parts_read w.types w.store q.parts.items)) a) c.deref.ensures.value
    (subst (λ (l : List Part). Contains (names_read w.types c.deref.result.now ++ given_constants (parts_read w.types w.store l)) a) c.deref-3.ensures.value m)))

pub returns-in-Ok-PassedOver-clause-comes_out : goal.returns-in-Ok-PassedOver-clause-comes_out
returns-in-Ok-PassedOver-clause-comes_out g c =
    let w = c.args.world.now in
    let q = c.args.question.now in
    let s = sequent_of w c.args.goal.now in
    let ns = names_read w.types c.args.names.now in
    let U = c.use_choice.new.types in
    let V = c.use_choice.new.store in
    let told : Outcome → Type 0 = λ o. (t : Sequent) → names_read w.types c.deref.result.now ≡ in_order (goal_names t)
    → ComesOut (cells_read w.types w.store) (record { goal = t; parts = parts_read w.types w.store c.deref-3.result.now; aim = aim_in w.types w.store c.args.aim.now; formula = tree_of w.types w.store q.formula }) ns U V o in
    subst (λ (l : List Part). ComesOut (cells_read w.types w.store) (record { goal = s; parts = parts_read w.types w.store l; aim = aim_in w.types w.store c.args.aim.now; formula = tree_of w.types w.store q.formula }) ns U V PassedOver) c.deref-3.ensures.value
    (subst told c.in-Ok-PassedOver.field-0-is c.in-Ok-PassedOver.ensures.comes_out s (ap (names_read w.types) c.deref.ensures.value ∙ c.requires.posed.names))

pub returns-in-Ok-PassedOver-clause-passed_over : goal.returns-in-Ok-PassedOver-clause-passed_over
returns-in-Ok-PassedOver-clause-passed_over g c = λ e.
    let w = c.args.world.now in
    let U = c.use_choice.new.types in
    let V = c.use_choice.new.store in
    let X = c.cut_to.new.self in
    let m = c.mark-mark.result in
    let back = c.cut_to.ensures in
    let before = cut_as_before w.types U w.store V X m c.requires.posed.world.typed c.use_choice.ensures.grows c.mark-mark.ensures.has c.mark-mark.ensures.bindings c.mark-mark.ensures.nodes c.mark-mark.ensures.cells back.bindings back.nodes back.cells in
    restored.same_cells_read w.types U w.store X c.requires.posed.world.typed c.use_choice.ensures.grows.table before.1

pub returns-in-Ok-PassedOver-clause-grows : goal.returns-in-Ok-PassedOver-clause-grows
returns-in-Ok-PassedOver-clause-grows g c =
    let w = c.args.world.now in
    let U = c.use_choice.new.types in
    let V = c.use_choice.new.store in
    let X = c.cut_to.new.self in
    let m = c.mark-mark.result in
    let back = c.cut_to.ensures in
    let before = cut_as_before w.types U w.store V X m c.requires.posed.world.typed c.use_choice.ensures.grows c.mark-mark.ensures.has c.mark-mark.ensures.bindings c.mark-mark.ensures.nodes c.mark-mark.ensures.cells back.bindings back.nodes back.cells in
    let end : World = record { types = U; store = X; additions = w.additions } in
    let g3 = cut_grows w.types U w.store V X m c.requires.posed.world.typed c.use_choice.ensures.grows c.mark-mark.ensures.has c.mark-mark.ensures.bindings c.mark-mark.ensures.nodes c.mark-mark.ensures.cells back.bindings back.nodes back.cells c.mark-mark.ensures.typed back.typed back.marks in
    grown_to w end c.requires.posed.world refl g3 (before.2 ∙ c.requires.posed.world.unbound)

pub returns-in-Ok-PassedOver-clause-declared : goal.returns-in-Ok-PassedOver-clause-declared
returns-in-Ok-PassedOver-clause-declared g c =
    let w = c.args.world.now in
    let U = c.use_choice.new.types in
    let V = c.use_choice.new.store in
    let X = c.cut_to.new.self in
    let m = c.mark-mark.result in
    let back = c.cut_to.ensures in
    let before = cut_as_before w.types U w.store V X m c.requires.posed.world.typed c.use_choice.ensures.grows c.mark-mark.ensures.has c.mark-mark.ensures.bindings c.mark-mark.ensures.nodes c.mark-mark.ensures.cells back.bindings back.nodes back.cells in
    let end : World = record { types = U; store = X; additions = w.additions } in
    let g3 = cut_grows w.types U w.store V X m c.requires.posed.world.typed c.use_choice.ensures.grows c.mark-mark.ensures.has c.mark-mark.ensures.bindings c.mark-mark.ensures.nodes c.mark-mark.ensures.cells back.bindings back.nodes back.cells c.mark-mark.ensures.typed back.typed back.marks in
    declared_to w end c.requires.posed.world refl g3

pub returns-in-Ok-Apart-clause-comes_out : goal.returns-in-Ok-Apart-clause-comes_out
returns-in-Ok-Apart-clause-comes_out g c =
    let w = c.args.world.now in
    let q = c.args.question.now in
    let s = sequent_of w c.args.goal.now in
    let ns = names_read w.types c.args.names.now in
    let U = c.use_choice.new.types in
    let V = c.use_choice.new.store in
    let told : Outcome → Type 0 = λ o. (t : Sequent) → names_read w.types c.deref.result.now ≡ in_order (goal_names t)
    → ComesOut (cells_read w.types w.store) (record { goal = t; parts = parts_read w.types w.store c.deref-3.result.now; aim = aim_in w.types w.store c.args.aim.now; formula = tree_of w.types w.store q.formula }) ns U V o in
    subst (λ (l : List Part). ComesOut (cells_read w.types w.store) (record { goal = s; parts = parts_read w.types w.store l; aim = aim_in w.types w.store c.args.aim.now; formula = tree_of w.types w.store q.formula }) ns U V Apart) c.deref-3.ensures.value
    (subst told c.in-Ok-Apart.field-0-is c.in-Ok-Apart.ensures.comes_out s (ap (names_read w.types) c.deref.ensures.value ∙ c.requires.posed.names))

pub returns-in-Ok-Apart-clause-apart : goal.returns-in-Ok-Apart-clause-apart
returns-in-Ok-Apart-clause-apart g c = λ e.
    let w = c.args.world.now in
    let U = c.use_choice.new.types in
    let V = c.use_choice.new.store in
    let X = c.cut_to-in-Ok-Apart.new.self in
    let m = c.mark-mark.result in
    let back = c.cut_to-in-Ok-Apart.ensures in
    let before = cut_as_before w.types U w.store V X m c.requires.posed.world.typed c.use_choice.ensures.grows c.mark-mark.ensures.has c.mark-mark.ensures.bindings c.mark-mark.ensures.nodes c.mark-mark.ensures.cells back.bindings back.nodes back.cells in
    restored.same_cells_read w.types U w.store X c.requires.posed.world.typed c.use_choice.ensures.grows.table before.1

pub returns-in-Ok-Apart-clause-grows : goal.returns-in-Ok-Apart-clause-grows
returns-in-Ok-Apart-clause-grows g c =
    let w = c.args.world.now in
    let U = c.use_choice.new.types in
    let V = c.use_choice.new.store in
    let X = c.cut_to-in-Ok-Apart.new.self in
    let m = c.mark-mark.result in
    let back = c.cut_to-in-Ok-Apart.ensures in
    let before = cut_as_before w.types U w.store V X m c.requires.posed.world.typed c.use_choice.ensures.grows c.mark-mark.ensures.has c.mark-mark.ensures.bindings c.mark-mark.ensures.nodes c.mark-mark.ensures.cells back.bindings back.nodes back.cells in
    let end : World = record { types = U; store = X; additions = w.additions } in
    let g3 = cut_grows w.types U w.store V X m c.requires.posed.world.typed c.use_choice.ensures.grows c.mark-mark.ensures.has c.mark-mark.ensures.bindings c.mark-mark.ensures.nodes c.mark-mark.ensures.cells back.bindings back.nodes back.cells c.mark-mark.ensures.typed back.typed back.marks in
    grown_to w end c.requires.posed.world refl g3 (before.2 ∙ c.requires.posed.world.unbound)

pub returns-in-Ok-Apart-clause-declared : goal.returns-in-Ok-Apart-clause-declared
returns-in-Ok-Apart-clause-declared g c =
    let w = c.args.world.now in
    let U = c.use_choice.new.types in
    let V = c.use_choice.new.store in
    let X = c.cut_to-in-Ok-Apart.new.self in
    let m = c.mark-mark.result in
    let back = c.cut_to-in-Ok-Apart.ensures in
    let before = cut_as_before w.types U w.store V X m c.requires.posed.world.typed c.use_choice.ensures.grows c.mark-mark.ensures.has c.mark-mark.ensures.bindings c.mark-mark.ensures.nodes c.mark-mark.ensures.cells back.bindings back.nodes back.cells in
    let end : World = record { types = U; store = X; additions = w.additions } in
    let g3 = cut_grows w.types U w.store V X m c.requires.posed.world.typed c.use_choice.ensures.grows c.mark-mark.ensures.has c.mark-mark.ensures.bindings c.mark-mark.ensures.nodes c.mark-mark.ensures.cells back.bindings back.nodes back.cells c.mark-mark.ensures.typed back.typed back.marks in
    declared_to w end c.requires.posed.world refl g3

pub returns-in_default-clause-comes_out : goal.returns-in_default-clause-comes_out
returns-in_default-clause-comes_out g c =
    let w = c.args.world.now in
    let q = c.args.question.now in
    let s = sequent_of w c.args.goal.now in
    let ns = names_read w.types c.args.names.now in
    let U = c.use_choice.new.types in
    let V = c.use_choice.new.store in
    let X = c.rewind.new.self in
    let kept : Outcome → Type 0 = λ o. ComesOut (cells_read w.types w.store) (using_at w s q c.args.aim.now) ns U X o in
    let told : IfOk c.use_choice.result kept = if_ok c.use_choice.result
    (λ o t. comes_out_still U V X c.rewind.ensures.nodes c.rewind.ensures.cells (cells_read w.types w.store) (using_at w s q c.args.aim.now) ns o
    (subst (λ (l : List Part). ComesOut (cells_read w.types w.store) (record { goal = s; parts = parts_read w.types w.store l; aim = aim_in w.types w.store c.args.aim.now; formula = tree_of w.types w.store q.formula }) ns U V o) c.deref-3.ensures.value
    (t s (ap (names_read w.types) c.deref.ensures.value ∙ c.requires.posed.names))))
    c.use_choice.ensures.comes_out in
    elim c.in_default-1.branch [
      | in_default-via-in-Ok+in-Stuck-1 v ↦ let k = v.other-is in let same : c.use_choice.result ≡ c.in_default-1.other = cc in subst (λ r. IfOk r kept) same told
      | in_default-via-in-Err-1 v ↦ let k = v.other-is in let same : c.use_choice.result ≡ c.in_default-1.other = cc in subst (λ r. IfOk r kept) same told
    ]

pub returns-in_default-clause-grows : goal.returns-in_default-clause-grows
returns-in_default-clause-grows g c =
    let w = c.args.world.now in
    let later : World = record { types = c.use_choice.new.types; store = c.use_choice.new.store; additions = w.additions } in
    undoing.grown w later c.requires.posed.world refl c.use_choice.ensures.grows c.mark-mark.result c.mark-mark.ensures.has c.mark-mark.ensures.bindings c.rewind.new.self c.rewind.ensures.nodes c.rewind.ensures.cells c.rewind.ensures.bindings
    (c.rewind.ensures.typed c.use_choice.new.types c.use_choice.ensures.grows.typed) c.rewind.ensures.marks

pub returns-in_default-clause-declared : goal.returns-in_default-clause-declared
returns-in_default-clause-declared g c =
    let w = c.args.world.now in
    let later : World = record { types = c.use_choice.new.types; store = c.use_choice.new.store; additions = w.additions } in
    undoing.told w later c.requires.posed.world refl c.use_choice.ensures.grows c.mark-mark.result c.mark-mark.ensures.has c.mark-mark.ensures.bindings c.rewind.new.self c.rewind.ensures.nodes c.rewind.ensures.cells c.rewind.ensures.bindings
    (c.rewind.ensures.typed c.use_choice.new.types c.use_choice.ensures.grows.typed) c.rewind.ensures.marks
