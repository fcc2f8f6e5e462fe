use Rattle.std.proofs.Common.{◌≡◌, ℕ, List, ◌++◌, map, length, not, codes, ap, ◌∙◌}
use Rattle.ab_term.specs.Substitution.{instance_by_all}
use Rattle.ab_norm.specs.ab_store.specs.Trees.{Holds, tree_of}
use Rattle.ab_unifiers.specs.Prefixes.{own_terms}
use Rattle.ab_unifiers.specs.Replacements.{Cell}
use Rattle.ab_unify.specs.Problem.{cells_read, variables_read, cells_at}
use Rattle.ab_unify.proofs.Growth.{grows_terms}
use Rattle.ab_logic.specs.Forms.{sign_of}
use Rattle.ab_theory.specs.Equations.{variables_from}
use Rattle.ab_theory.specs.Opening.{open_goal, conjunction_of}
use Rattle.ab_theory.specs.Parts.{under_all, put_under}
use Rattle.ab_theory.specs.SpecRules.{stands_in_goals_alone}
use Rattle.ab_logic.specs.Worlds.{variable_at}
use Rattle.ab_alternatives.specs.ab_instances.specs.ListReadings.{names_read}
use Rattle.ab_judgement_forms.specs.DemandWalks.{exists_names, chosen, stand_ins}
use Rattle.ab_judgement_forms.specs.PartReadings.{name_read}
use Rattle.ab_judgements.proofs.PartMade as made
use Rattle.ab_judgements.proofs.PartSteps as steps
use Rattle.ab_judgements.proofs.part_demands.part_demand.Goals as goal

pub returns-in_err-forms-clause-grows : goal.returns-in_err-forms-clause-grows
returns-in_err-forms-clause-grows g c =
    steps.g2 c.args.types.now c.args.store.now c.cells_for.new.store c.cells_for.ensures.before c.cells_for.ensures.typed c.own_forms.new.store c.own_forms.ensures.adds

pub scopes_under-requires-clause-goals : goal.scopes_under-requires-clause-goals
scopes_under-requires-clause-goals g c =
    steps.held_later c.args.types.now c.args.types.now c.args.store.now c.own_forms.new.store (steps.g2 c.args.types.now c.args.store.now c.cells_for.new.store c.cells_for.ensures.before c.cells_for.ensures.typed c.own_forms.new.store c.own_forms.ensures.adds) c.args.part.now.goals.items c.deref-4.result.now c.deref-4.ensures.value c.requires.part.goals

pub returns-in_err-scopes-clause-grows : goal.returns-in_err-scopes-clause-grows
returns-in_err-scopes-clause-grows g c =
    steps.g3 c.args.types.now c.args.store.now c.cells_for.new.store c.cells_for.ensures.before c.cells_for.ensures.typed c.own_forms.new.store c.own_forms.ensures.adds c.scopes_under.new.store c.scopes_under.ensures.adds

pub instances-requires-clause-terms : goal.instances-requires-clause-terms
instances-requires-clause-terms g c =
    steps.held_later c.args.types.now c.args.types.now c.own_forms.new.store c.scopes_under.new.store (grows_terms c.args.types.now c.own_forms.new.store c.scopes_under.new.store c.scopes_under.ensures.adds) c.in_ok-forms.forms.items c.deref-6.result.now c.deref-6.ensures.value c.in_ok-forms.ensures.held

pub returns-in_err-goals-clause-grows : goal.returns-in_err-goals-clause-grows
returns-in_err-goals-clause-grows g c =
    steps.g4 c.args.types.now c.args.store.now c.cells_for.new.store c.cells_for.ensures.before c.cells_for.ensures.typed c.own_forms.new.store c.own_forms.ensures.adds c.scopes_under.new.store c.scopes_under.ensures.adds c.instances.new.store c.instances.ensures.adds

pub put_under-requires-clause-terms : goal.put_under-requires-clause-terms
put_under-requires-clause-terms g c =
    steps.held_later c.args.types.now c.args.types.now c.own_forms.new.store c.instances.new.store (steps.more_terms c.args.types.now c.args.types.now c.own_forms.new.store c.scopes_under.new.store c.instances.new.store (grows_terms c.args.types.now c.own_forms.new.store c.scopes_under.new.store c.scopes_under.ensures.adds) c.instances.ensures.adds) c.in_ok-forms.forms.items c.deref-8.result.now c.deref-8.ensures.value c.in_ok-forms.ensures.held

pub put_under-requires-clause-term : goal.put_under-requires-clause-term
put_under-requires-clause-term g c =
    ((steps.g4 c.args.types.now c.args.store.now c.cells_for.new.store c.cells_for.ensures.before c.cells_for.ensures.typed c.own_forms.new.store c.own_forms.ensures.adds c.scopes_under.new.store c.scopes_under.ensures.adds c.instances.new.store c.instances.ensures.adds).trees c.args.part.now.atom c.requires.part.atom).0

pub returns-in_err-atom-clause-grows : goal.returns-in_err-atom-clause-grows
returns-in_err-atom-clause-grows g c =
    steps.g5 c.args.types.now c.args.store.now c.cells_for.new.store c.cells_for.ensures.before c.cells_for.ensures.typed c.own_forms.new.store c.own_forms.ensures.adds c.scopes_under.new.store c.scopes_under.ensures.adds c.instances.new.store c.instances.ensures.adds c.put_under.new.store c.put_under.ensures.adds

pub sides_of-requires-clause-goals : goal.sides_of-requires-clause-goals
sides_of-requires-clause-goals g c =
    steps.held_later c.args.types.now c.args.types.now c.instances.new.store c.put_under.new.store (grows_terms c.args.types.now c.instances.new.store c.put_under.new.store c.put_under.ensures.adds) c.in_ok-goals.goals.items c.deref-9.result.now c.deref-9.ensures.value c.in_ok-goals.ensures.held

pub returns-in_err-sides-clause-grows : goal.returns-in_err-sides-clause-grows
returns-in_err-sides-clause-grows g c =
    steps.g5 c.args.types.now c.args.store.now c.cells_for.new.store c.cells_for.ensures.before c.cells_for.ensures.typed c.own_forms.new.store c.own_forms.ensures.adds c.scopes_under.new.store c.scopes_under.ensures.adds c.instances.new.store c.instances.ensures.adds c.put_under.new.store c.put_under.ensures.adds

pub returns-in_err-over-clause-grows : goal.returns-in_err-over-clause-grows
returns-in_err-over-clause-grows g c =
    steps.g6 c.args.types.now c.args.store.now c.cells_for.new.store c.cells_for.ensures.before c.cells_for.ensures.typed c.own_forms.new.store c.own_forms.ensures.adds c.scopes_under.new.store c.scopes_under.ensures.adds c.instances.new.store c.instances.ensures.adds c.put_under.new.store c.put_under.ensures.adds c.make_over.new.types c.make_over.new.store c.make_over.ensures.grows

pub stand_ins-requires-clause-cells : goal.stand_ins-requires-clause-cells
stand_ins-requires-clause-cells g c =
    steps.cells_held_later c.args.types.now c.make_over.new.types c.cells_for.new.store c.make_over.new.store (steps.cells_later c.args.types.now c.make_over.new.types c.cells_for.new.store c.own_forms.new.store c.scopes_under.new.store c.instances.new.store c.put_under.new.store c.make_over.new.store c.own_forms.ensures.adds c.scopes_under.ensures.adds c.instances.ensures.adds c.put_under.ensures.adds c.make_over.ensures.grows) c.in_ok-cells.cells.items c.deref-12.result.now c.deref-12.ensures.value c.in_ok-cells.ensures.held

pub returns-in_err-names-clause-grows : goal.returns-in_err-names-clause-grows
returns-in_err-names-clause-grows g c =
    steps.g7 c.args.types.now c.args.store.now c.cells_for.new.store c.cells_for.ensures.before c.cells_for.ensures.typed c.own_forms.new.store c.own_forms.ensures.adds c.scopes_under.new.store c.scopes_under.ensures.adds c.instances.new.store c.instances.ensures.adds c.put_under.new.store c.put_under.ensures.adds c.make_over.new.types c.make_over.new.store c.make_over.ensures.grows c.stand_ins.new.store c.stand_ins.ensures.adds

pub demand_body-requires-clause-list : goal.demand_body-requires-clause-list
demand_body-requires-clause-list g c =
    ((steps.g7 c.args.types.now c.args.store.now c.cells_for.new.store c.cells_for.ensures.before c.cells_for.ensures.typed c.own_forms.new.store c.own_forms.ensures.adds c.scopes_under.new.store c.scopes_under.ensures.adds c.instances.new.store c.instances.ensures.adds c.put_under.new.store c.put_under.ensures.adds c.make_over.new.types c.make_over.new.store c.make_over.ensures.grows c.stand_ins.new.store c.stand_ins.ensures.adds).trees c.args.opening.list c.requires.list.0).0

pub demand_body-requires-clause-closed : goal.demand_body-requires-clause-closed
demand_body-requires-clause-closed g c =
    steps.cells_held_later c.args.types.now c.make_over.new.types c.put_under.new.store c.stand_ins.new.store (steps.more_terms c.args.types.now c.make_over.new.types c.put_under.new.store c.make_over.new.store c.stand_ins.new.store c.make_over.ensures.grows c.stand_ins.ensures.adds) c.in_ok-sides.sides.closed.items c.as_slice-closed.result.now c.as_slice-closed.ensures.value c.in_ok-sides.ensures.closed_held

pub demand_body-requires-clause-scopes : goal.demand_body-requires-clause-scopes
demand_body-requires-clause-scopes g c =
    steps.held_later c.args.types.now c.make_over.new.types c.scopes_under.new.store c.stand_ins.new.store (steps.scopes_later c.args.types.now c.make_over.new.types c.scopes_under.new.store c.instances.new.store c.put_under.new.store c.make_over.new.store c.stand_ins.new.store c.instances.ensures.adds c.put_under.ensures.adds c.make_over.ensures.grows c.stand_ins.ensures.adds) c.in_ok-scopes.scopes.items c.deref-15.result.now c.deref-15.ensures.value c.in_ok-scopes.ensures.held

pub returns-in_err-body-clause-grows : goal.returns-in_err-body-clause-grows
returns-in_err-body-clause-grows g c =
    steps.g8 c.args.types.now c.args.store.now c.cells_for.new.store c.cells_for.ensures.before c.cells_for.ensures.typed c.own_forms.new.store c.own_forms.ensures.adds c.scopes_under.new.store c.scopes_under.ensures.adds c.instances.new.store c.instances.ensures.adds c.put_under.new.store c.put_under.ensures.adds c.make_over.new.types c.make_over.new.store c.make_over.ensures.grows c.stand_ins.new.store c.stand_ins.ensures.adds c.demand_body.new.store c.demand_body.ensures.adds

pub put_under-requires-2-clause-names : goal.put_under-requires-2-clause-names
put_under-requires-2-clause-names g c =
    steps.names_held_later c.args.types.now c.make_over.new.types c.args.store.now c.demand_body.new.store (steps.g8 c.args.types.now c.args.store.now c.cells_for.new.store c.cells_for.ensures.before c.cells_for.ensures.typed c.own_forms.new.store c.own_forms.ensures.adds c.scopes_under.new.store c.scopes_under.ensures.adds c.instances.new.store c.instances.ensures.adds c.put_under.new.store c.put_under.ensures.adds c.make_over.new.types c.make_over.new.store c.make_over.ensures.grows c.stand_ins.new.store c.stand_ins.ensures.adds c.demand_body.new.store c.demand_body.ensures.adds) c.args.part.now.names.items c.deref-16.result.now c.deref-16.ensures.value c.requires.part.names

pub put_under-requires-2-clause-terms : goal.put_under-requires-2-clause-terms
put_under-requires-2-clause-terms g c =
    steps.held_later c.make_over.new.types c.make_over.new.types c.stand_ins.new.store c.demand_body.new.store (grows_terms c.make_over.new.types c.stand_ins.new.store c.demand_body.new.store c.demand_body.ensures.adds) c.in_ok-names.names.items c.deref-17.result.now c.deref-17.ensures.value c.in_ok-names.ensures.held

pub put_under-requires-2-clause-term : goal.put_under-requires-2-clause-term
put_under-requires-2-clause-term g c =
    ((steps.g8 c.args.types.now c.args.store.now c.cells_for.new.store c.cells_for.ensures.before c.cells_for.ensures.typed c.own_forms.new.store c.own_forms.ensures.adds c.scopes_under.new.store c.scopes_under.ensures.adds c.instances.new.store c.instances.ensures.adds c.put_under.new.store c.put_under.ensures.adds c.make_over.new.types c.make_over.new.store c.make_over.ensures.grows c.stand_ins.new.store c.stand_ins.ensures.adds c.demand_body.new.store c.demand_body.ensures.adds).trees c.args.part.now.atom c.requires.part.atom).0

pub returns-in_err-left-clause-grows : goal.returns-in_err-left-clause-grows
returns-in_err-left-clause-grows g c =
    steps.g9 c.args.types.now c.args.store.now c.cells_for.new.store c.cells_for.ensures.before c.cells_for.ensures.typed c.own_forms.new.store c.own_forms.ensures.adds c.scopes_under.new.store c.scopes_under.ensures.adds c.instances.new.store c.instances.ensures.adds c.put_under.new.store c.put_under.ensures.adds c.make_over.new.types c.make_over.new.store c.make_over.ensures.grows c.stand_ins.new.store c.stand_ins.ensures.adds c.demand_body.new.store c.demand_body.ensures.adds c.put_under-2.new.store c.put_under-2.ensures.adds

pub returns-in_err-equations-clause-grows : goal.returns-in_err-equations-clause-grows
returns-in_err-equations-clause-grows g c =
    steps.g9 c.args.types.now c.args.store.now c.cells_for.new.store c.cells_for.ensures.before c.cells_for.ensures.typed c.own_forms.new.store c.own_forms.ensures.adds c.scopes_under.new.store c.scopes_under.ensures.adds c.instances.new.store c.instances.ensures.adds c.put_under.new.store c.put_under.ensures.adds c.make_over.new.types c.make_over.new.store c.make_over.ensures.grows c.stand_ins.new.store c.stand_ins.ensures.adds c.demand_body.new.store c.demand_body.ensures.adds c.put_under-2.new.store c.put_under-2.ensures.adds

pub returns-clause-grows : goal.returns-clause-grows
returns-clause-grows g c =
    steps.g9 c.args.types.now c.args.store.now c.cells_for.new.store c.cells_for.ensures.before c.cells_for.ensures.typed c.own_forms.new.store c.own_forms.ensures.adds c.scopes_under.new.store c.scopes_under.ensures.adds c.instances.new.store c.instances.ensures.adds c.put_under.new.store c.put_under.ensures.adds c.make_over.new.types c.make_over.new.store c.make_over.ensures.grows c.stand_ins.new.store c.stand_ins.ensures.adds c.demand_body.new.store c.demand_body.ensures.adds c.put_under-2.new.store c.put_under-2.ensures.adds

pub returns-clause-made : goal.returns-clause-made
returns-clause-made g c =
    let T = c.args.types.now in
    let U = c.make_over.new.types in
    let S = c.args.store.now in
    let S1 = c.cells_for.new.store in
    let S2 = c.own_forms.new.store in
    let S3 = c.scopes_under.new.store in
    let S4 = c.instances.new.store in
    let S5 = c.put_under.new.store in
    let S6 = c.make_over.new.store in
    let S7 = c.stand_ins.new.store in
    let S8 = c.demand_body.new.store in
    let S9 = c.put_under-2.new.store in
    let b1 = c.cells_for.ensures.before in
    let t1 = c.cells_for.ensures.typed in
    let a2 = c.own_forms.ensures.adds in
    let a3 = c.scopes_under.ensures.adds in
    let a4 = c.instances.ensures.adds in
    let a5 = c.put_under.ensures.adds in
    let grown = c.make_over.ensures.grows in
    let a7 = c.stand_ins.ensures.adds in
    let a8 = c.demand_body.ensures.adds in
    let a9 = c.put_under-2.ensures.adds in
    let P = c.args.part.now in
    let names : List (Cell (List ℕ)) = map (name_read T) P.names.items in
    let cells = c.in_ok-cells.cells.items in
    let forms = c.in_ok-forms.forms.items in
    let scopes = c.in_ok-scopes.scopes.items in
    let goals = c.in_ok-goals.goals.items in
    let atom = c.in_ok-atom.atom in
    let alone = c.in_ok-sides.sides.alone.items in
    let own = c.deref-11.result.now in
    let closed = c.as_slice-closed.result.now in
    let terms = c.in_ok-over.over.terms.items in
    let stands = c.in_ok-names.names.items in
    let m = sign_of c.args.opening.manner.sign in
    let list = c.args.opening.list in
    let ns = names_read T c.args.constants.now in
    let n = length S.cells in
    let cells_are : cells_read T S1 ≡ cells_read T S ++ names =
    c.in_ok-cells.ensures.cells ∙ ap (λ l. cells_read T S ++ map (name_read T) l) c.deref.ensures.value in
    let made_are : map (variable_at T S1) cells ≡ variables_from n names =
    c.in_ok-cells.ensures.made ∙ ap (λ l. variables_from n (map (name_read T) l)) c.deref.ensures.value in
    let forms_are : map (tree_of T S2) forms ≡ own_terms (codes "x") (variables_read T S1 cells) =
    c.in_ok-forms.ensures.trees ∙ ap (λ l. own_terms (codes "x") (variables_read T S1 l)) c.deref-2.ensures.value in
    let scopes_are : map (tree_of T S3) scopes ≡ map (under_all names) (map (tree_of T S2) P.goals.items) =
    c.in_ok-scopes.ensures.trees
    ∙ ap (λ l. map (under_all (map (name_read T) l)) (map (tree_of T S2) c.deref-4.result.now)) c.deref-3.ensures.value
    ∙ ap (λ l. map (under_all names) (map (tree_of T S2) l)) c.deref-4.ensures.value in
    let goals_are : map (tree_of T S4) goals ≡ map (λ s. instance_by_all s (map (tree_of T S3) forms)) (map (tree_of T S3) scopes) =
    c.in_ok-goals.ensures.trees
    ∙ ap (λ l. map (λ s. instance_by_all s (map (tree_of T S3) c.deref-6.result.now)) (map (tree_of T S3) l)) c.deref-5.ensures.value
    ∙ ap (λ l. map (λ s. instance_by_all s (map (tree_of T S3) l)) (map (tree_of T S3) scopes)) c.deref-6.ensures.value in
    let atom_is : tree_of T S5 atom ≡ put_under names (map (tree_of T S4) forms) (tree_of T S4 P.atom) =
    c.in_ok-atom.ensures.tree
    ∙ ap (λ l. put_under (map (name_read T) l) (map (tree_of T S4) c.deref-8.result.now) (tree_of T S4 P.atom)) c.deref-7.ensures.value
    ∙ ap (λ l. put_under names (map (tree_of T S4) l) (tree_of T S4 P.atom)) c.deref-8.ensures.value in
    let alone_is : alone ≡ map (stands_in_goals_alone (tree_of T S5 atom) (map (tree_of T S5) goals)) (map (variable_at T S5) cells) =
    c.in_ok-sides.ensures.alone T
    ∙ ap (λ l. map (stands_in_goals_alone (tree_of T S5 atom) (map (tree_of T S5) l)) (map (variable_at T S5) c.deref-10.result.now)) c.deref-9.ensures.value
    ∙ ap (λ l. map (stands_in_goals_alone (tree_of T S5 atom) (map (tree_of T S5) goals)) (map (variable_at T S5) l)) c.deref-10.ensures.value in
    let own_is : own ≡ chosen (map not alone) cells = c.deref-11.ensures.value ∙ c.in_ok-sides.ensures.own ∙ ap (chosen (map not alone)) c.deref-10.ensures.value in
    let closed_is : closed ≡ chosen alone cells = c.as_slice-closed.ensures.value ∙ c.in_ok-sides.ensures.closed ∙ ap (chosen alone) c.deref-10.ensures.value in
    let stands_are : map (tree_of U S7) stands ≡ stand_ins alone (cells_at U S6 cells) (map (tree_of U S6) terms) =
    c.in_ok-names.ensures.trees
    ∙ ap (λ l. stand_ins alone (cells_at U S6 l) (map (tree_of U S6) c.deref-13.result.now)) c.deref-12.ensures.value
    ∙ ap (λ l. stand_ins alone (cells_at U S6 cells) (map (tree_of U S6) l)) c.deref-13.ensures.value in
    let body_is : tree_of U S8 c.in_ok-body.body ≡ exists_names (cells_at U S7 closed) (conjunction_of (map (λ s. open_goal m (tree_of U S7 list) (instance_by_all s (map (tree_of U S7) stands))) (map (tree_of U S7) scopes))) =
    c.in_ok-body.ensures.tree
    ∙ ap (λ l. exists_names (cells_at U S7 closed) (conjunction_of (map (λ s. open_goal m (tree_of U S7 list) (instance_by_all s (map (tree_of U S7) l))) (map (tree_of U S7) c.deref-15.result.now)))) c.deref-14.ensures.value
    ∙ ap (λ l. exists_names (cells_at U S7 closed) (conjunction_of (map (λ s. open_goal m (tree_of U S7 list) (instance_by_all s (map (tree_of U S7) stands))) (map (tree_of U S7) l)))) c.deref-15.ensures.value in
    let names_later : map (name_read U) c.deref-16.result.now ≡ names =
    ap (map (name_read U)) c.deref-16.ensures.value ∙ steps.names_read_later T U S S6 (steps.g6 T S S1 b1 t1 S2 a2 S3 a3 S4 a4 S5 a5 U S6 grown) P.names.items c.requires.part.names in
    let left_is : tree_of U S9 c.in_ok-left.left ≡ put_under names (map (tree_of U S8) stands) (tree_of U S8 P.atom) =
    c.in_ok-left.ensures.tree
    ∙ ap (λ l. put_under l (map (tree_of U S8) c.deref-17.result.now) (tree_of U S8 P.atom)) names_later
    ∙ ap (λ l. put_under names (map (tree_of U S8) l) (tree_of U S8 P.atom)) c.deref-17.ensures.value in
    let held : Holds S9 c.in_ok-left.left × Holds S9 c.args.goal = (c.in_ok-left.ensures.held, ((steps.g9 T S S1 b1 t1 S2 a2 S3 a3 S4 a4 S5 a5 U S6 grown S7 a7 S8 a8 S9 a9).trees c.args.goal c.requires.goal).0) in
    λ j context is_goal constants. record {
      cells = made.made_cells T U S S1 S2 S3 S4 S5 S6 S7 S8 S9 c.requires.store b1 t1 a2 a3 a4 a5 grown a7 a8 a9 c.requires.unbound m list c.args.goal P c.requires.part c.requires.list c.requires.goal c.requires.of_formula.0 c.requires.of_formula.1 c.requires.of_formula.2
          ns j context is_goal constants cells cells_are made_are c.in_ok-cells.ensures.held forms c.in_ok-forms.ensures.held forms_are scopes c.in_ok-scopes.ensures.held scopes_are goals c.in_ok-goals.ensures.held goals_are atom atom_is alone alone_is own closed own_is closed_is c.in_ok-over.ensures.cells;
      own = made.made_own T U S S1 S2 S3 S4 S5 S6 S7 S8 S9 c.requires.store b1 t1 a2 a3 a4 a5 grown a7 a8 a9 c.requires.unbound m list c.args.goal P c.requires.part c.requires.list c.requires.goal c.requires.of_formula.0 c.requires.of_formula.1 c.requires.of_formula.2
          ns j context is_goal constants cells cells_are made_are c.in_ok-cells.ensures.held forms c.in_ok-forms.ensures.held forms_are scopes c.in_ok-scopes.ensures.held scopes_are goals c.in_ok-goals.ensures.held goals_are atom atom_is alone alone_is own closed own_is closed_is c.in_ok-over.over.cells.items c.in_ok-over.ensures.made;
      equations = made.made_equations T U S S1 S2 S3 S4 S5 S6 S7 S8 S9 c.requires.store b1 t1 a2 a3 a4 a5 grown a7 a8 a9 c.requires.unbound m list c.args.goal P c.requires.part c.requires.list c.requires.goal c.requires.of_formula.0 c.requires.of_formula.1 c.requires.of_formula.2
          ns j context is_goal constants cells cells_are made_are c.in_ok-cells.ensures.held forms c.in_ok-forms.ensures.held forms_are scopes c.in_ok-scopes.ensures.held scopes_are goals c.in_ok-goals.ensures.held goals_are atom atom_is alone alone_is own closed own_is closed_is terms c.in_ok-over.ensures.terms stands c.in_ok-names.ensures.held stands_are c.in_ok-left.left left_is c.in_ok-equations.equations.items c.in_ok-equations.ensures.items;
      sides_held = steps.one_equation_held S9 c.in_ok-left.left c.args.goal held.0 held.1 c.in_ok-equations.equations.items c.in_ok-equations.ensures.items;
      held = a9.before.ids c.in_ok-body.body c.in_ok-body.ensures.held;
      body = made.made_body T U S S1 S2 S3 S4 S5 S6 S7 S8 S9 c.requires.store b1 t1 a2 a3 a4 a5 grown a7 a8 a9 c.requires.unbound m list c.args.goal P c.requires.part c.requires.list c.requires.goal c.requires.of_formula.0 c.requires.of_formula.1 c.requires.of_formula.2
          ns j context is_goal constants cells cells_are made_are c.in_ok-cells.ensures.held forms c.in_ok-forms.ensures.held forms_are scopes c.in_ok-scopes.ensures.held scopes_are goals c.in_ok-goals.ensures.held goals_are atom atom_is alone alone_is own closed own_is closed_is terms c.in_ok-over.ensures.terms stands c.in_ok-names.ensures.held stands_are c.in_ok-body.body c.in_ok-body.ensures.held body_is;
    }
