use Rattle.std.proofs.Common.{◌≡◌, ◌≢◌, ◌∷◌, [], map, sym, ◌∙◌, ap, subst}
use Rattle.std.specs.Prelude.{AllPairs, Contains}
use Rattle.std.proofs.lemmas.List.Elements.{All-nil, All-cons, All-head}
use Rattle.ab_term.specs.Names.{permute, support}
use Rattle.ab_unifiers.specs.Choices.{in_order}
use Rattle.ab_unifiers.proofs.Choosing.{ordered_contains, ordered_pairs}
use Rattle.ab_norm.specs.ab_store.specs.Reading.{reading}
use Rattle.ab_norm.specs.ab_store.specs.declared.node.Equation.{Equation}
use Rattle.ab_formulas.specs.Marks.{erased, MarksServeIn}
use Rattle.ab_instances.specs.ListReadings.{names_read}
use Rattle.ab_term.specs.Terms.{Read}
use Rattle.ab_unify.specs.Problem.{cell_read, equations_read}
use Rattle.ab_logic.specs.Worlds.{Holds, read}
use Rattle.ab_search_trees.specs.Maps.{mapping}
use Rattle.ab_search_ways.specs.GoalReadings.{goal_read, HoldsGoal}
use Rattle.ab_search_ways.proofs.LaterWorlds.{unbound_reads, with_terms, terms_grown, terms_told, all_free, all_aside, later_variables}
use Rattle.ab_search_ways.proofs.hypothesis_ways.way_by_hypothesis.Goals as goal

pub sides-requires-clause-once : goal.sides-requires-clause-once
sides-requires-clause-once g c = subst (AllPairs (λ a b. a ≢ b)) (sym c.requires.all) (ordered_pairs (support (read c.args.world.now c.args.hypothesis)))

pub sides-requires-clause-over : goal.sides-requires-clause-over
sides-requires-clause-over g c = λ a m.
    let w = c.args.world.now in
    let B = read w c.args.hypothesis in
    subst (λ ns. Contains ns a) (sym c.requires.all) (ordered_contains (support B) a (subst (λ r. Contains (support r) a) (unbound_reads w c.requires.world c.args.hypothesis) m))

pub returns-in_err-equation-clause-grows : goal.returns-in_err-equation-clause-grows
returns-in_err-equation-clause-grows g c = terms_grown c.args.world.now c.requires.world c.sides.new.store c.sides.ensures.adds

pub returns-in_err-equation-clause-declared : goal.returns-in_err-equation-clause-declared
returns-in_err-equation-clause-declared g c = terms_told c.args.world.now c.requires.world c.sides.new.store c.sides.ensures.adds

pub returns-in_err-from_slice-clause-grows : goal.returns-in_err-from_slice-clause-grows
returns-in_err-from_slice-clause-grows g c = terms_grown c.args.world.now c.requires.world c.sides.new.store c.sides.ensures.adds

pub returns-in_err-from_slice-clause-declared : goal.returns-in_err-from_slice-clause-declared
returns-in_err-from_slice-clause-declared g c = terms_told c.args.world.now c.requires.world c.sides.new.store c.sides.ensures.adds

pub returns-in_err-from_array-clause-grows : goal.returns-in_err-from_array-clause-grows
returns-in_err-from_array-clause-grows g c = terms_grown c.args.world.now c.requires.world c.sides.new.store c.sides.ensures.adds

pub returns-in_err-from_array-clause-declared : goal.returns-in_err-from_array-clause-declared
returns-in_err-from_array-clause-declared g c = terms_told c.args.world.now c.requires.world c.sides.new.store c.sides.ensures.adds

pub returns-clause-grows : goal.returns-clause-grows
returns-clause-grows g c = terms_grown c.args.world.now c.requires.world c.sides.new.store c.sides.ensures.adds

pub returns-clause-declared : goal.returns-clause-declared
returns-clause-declared g c = terms_told c.args.world.now c.requires.world c.sides.new.store c.sides.ensures.adds

pub returns-clause-made : goal.returns-clause-made
returns-clause-made g c = λ base now aside stands.
    let w = c.args.world.now in
    let is = c.requires.world in
    let T = w.types in
    let new = c.sides.new.store in
    let adds = c.sides.ensures.adds in
    let v = with_terms w is new adds in
    let more = terms_grown w is new adds in
    let cs = c.args.flexible.now in
    let B = read w c.args.hypothesis in
    let C = read w c.args.goal.now.conclusion in
    let ts = names_read T c.args.targets.now in
    let e = c.in_ok-equation.equation in
    let typed = c.in_ok-equation.ensures.typed in
    let flexible_is = c.in_ok-from_slice.ensures.items in
    let left : reading T new e.left ≡ permute (mapping (in_order (support B)) ts) (erased B) =
    c.in_ok-equation.ensures.left
    ∙ ap (λ ns. permute (mapping ns ts) (erased (reading T w.store c.args.hypothesis))) c.requires.all
    ∙ ap (λ r. permute (mapping (in_order (support B)) ts) (erased r)) (unbound_reads w is c.args.hypothesis) in
    let right : reading T new e.right ≡ erased C = c.in_ok-equation.ensures.right ∙ ap erased (unbound_reads w is c.args.goal.now.conclusion) in
    record {
      held = record {
        free = rw flexible_is (all_free w v more cs stands.free);
        sides = rw c.in_ok-from_array.ensures.items (All-cons (λ (e : Equation). Holds v e.left × Holds v e.right) e [] (typed.2.0, typed.3.0) (All-nil (λ (e : Equation). Holds v e.left × Holds v e.right)));
        goals = rw c.new.ensures.items (All-nil (HoldsGoal v));
      };
      aside = rw flexible_is (all_aside w v more cs base aside);
      cells = ap (map (cell_read T)) adds.cells ∙ stands.cells;
      replaced = rw flexible_is (later_variables w v more cs stands.free ∙ stands.replaced);
      equations =
          ap (equations_read T new) c.in_ok-from_array.ensures.items
          ∙ ap (λ l. record { place = 0; left = l; right = reading T new e.right } ∷ []) left
          ∙ ap (λ r. record { place = 0; left = permute (mapping (in_order (support B)) ts) (erased B); right = r } ∷ []) right;
      serves = (
        λ yes. All-cons (λ (p : Read × Read). MarksServeIn p.0 p.1) (C, B) [] (c.marks_serve_in-serves.ensures.0 yes) (All-nil (λ (p : Read × Read). MarksServeIn p.0 p.1)),
        λ all. c.marks_serve_in-serves.ensures.1 (All-head (λ (p : Read × Read). MarksServeIn p.0 p.1) (C, B) [] all),
      );
      goals = ap (map (goal_read v base)) c.new.ensures.items;
    }
