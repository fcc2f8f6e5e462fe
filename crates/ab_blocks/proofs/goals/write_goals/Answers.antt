use Rattle.std.proofs.Common.{◌≡◌, ◌++◌, List, [], ◌∷◌, map, drop, Some, None, slice_get, option_map, true, false, sym, ap, ◌∙◌, append_assoc}
use Rattle.std.proofs.lemmas.List.{append-nil}
use Rattle.std.specs.Option.{option_copied}
use Rattle.ab_logic.specs.SequentReadings.{sequent_of}
use Rattle.ab_print.specs.GoalText as by_number
use Rattle.ab_print.specs.GoalText.{cell_name}
use Rattle.ab_states.specs.ab_kernel.specs.Layout.{goals_of}
use Rattle.ab_formulas.specs.NamedGoals.{named}
use Rattle.ab_blocks.specs.Blocks.{others_if, goals_shown}
use Rattle.ab_blocks.proofs.Lines.{on_ok, first_shown, none_left}
use Rattle.ab_blocks.proofs.goals.write_goals.Goals as goal

pub returns-in-None : goal.returns-in-None
returns-in-None c =
    let w = c.args.world.now in
    let gs = goals_of w c.args.proof.now in
    let at : slice_get gs 0 ≡ None = sym (c.in-None.ensures.reads w) in
    sym (append-nil c.args.out.now.items) ∙ ap (λ q. c.args.out.now.items ++ q) (ap (goals_shown c.args.all) (sym (none_left named gs at)))

pub returns-then-all : goal.returns-then-all
returns-then-all c =
    let w = c.args.world.now in
    let p = c.args.proof.now in
    let gs = goals_of w p in
    let g = c.in-Some.current.now in
    let at : slice_get gs 0 ≡ Some (sequent_of w g) = sym (c.in-Some.ensures.reads w) in
    let e = first_shown w p c.requires.world c.requires.proof g at c.args.all in
    let k = by_number.goal_lines (cell_name w.store) (sequent_of w g) in
    let first = c.in_ok-show_goal-in-Some.ensures.shown in
    on_ok c.write_others.result
    (λ h. h ∙ (ap (λ q. q ++ others_if true (drop 1 (map named gs))) first
    ∙ (append_assoc c.args.out.now.items k (others_if true (drop 1 (map named gs)))
    ∙ ap (λ q. c.args.out.now.items ++ q) (ap (λ b. k ++ others_if b (drop 1 (map named gs))) (sym c.if-all.true) ∙ sym e)))) c.write_others.ensures

pub returns-else-all : goal.returns-else-all
returns-else-all c =
    let w = c.args.world.now in
    let p = c.args.proof.now in
    let gs = goals_of w p in
    let g = c.in-Some.current.now in
    let at : slice_get gs 0 ≡ Some (sequent_of w g) = sym (c.in-Some.ensures.reads w) in
    let e = first_shown w p c.requires.world c.requires.proof g at c.args.all in
    let k = by_number.goal_lines (cell_name w.store) (sequent_of w g) in
    c.in_ok-show_goal-in-Some.ensures.shown
    ∙ ap (λ q. c.args.out.now.items ++ q) (sym (append-nil k) ∙ (ap (λ b. k ++ others_if b (drop 1 (map named gs))) (sym c.if-all.false) ∙ sym e))
