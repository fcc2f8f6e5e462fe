use Rattle.std.proofs.Common.{◌≡◌, ◌++◌, map, length, not, codes, sym, ap, ◌∙◌, subst}
use Rattle.std.specs.List.{All}
use Rattle.std.proofs.lemmas.List.Elements.{All-weaker}
use Rattle.ab_norm.specs.ab_store.specs.declared.node.TermId.{TermId}
use Rattle.ab_norm.specs.ab_store.specs.Trees.{Holds, HoldsCell, tree_of}
use Rattle.ab_unifiers.specs.Alternatives.{cells_over, made_over, made_terms}
use Rattle.ab_unify.proofs.Growth.{grows_on, grows_terms}
use Rattle.ab_unify.specs.Problem.{cells_read, cells_at}
use Rattle.ab_logic.specs.Worlds.{variable_at}
use Rattle.ab_alternatives.specs.ab_instances.specs.ListReadings.{names_read}
use Rattle.ab_logic.specs.Forms.{sign_of}
use Rattle.ab_term.specs.Substitution.{instance_by_all}
use Rattle.ab_theory.specs.Opening.{open_goal, conjunction_of}
use Rattle.ab_theory.specs.SpecRules.{stands_in_goals_alone}
use Rattle.ab_judgement_forms.specs.DemandWalks.{under_variables, exists_names, chosen, stand_ins}
use Rattle.ab_judgements.proofs.ClauseMade as made
use Rattle.ab_judgements.proofs.clause_demands.clause_demand.Goals as goal

pub stand_ins-requires-clause-cells : goal.stand_ins-requires-clause-cells
stand_ins-requires-clause-cells g c =
    let T = c.args.types.now in
    let U = c.make_over.new.types in
    let S = c.args.store.now in
    let g0 = c.in_ok-over.ensures.grows in
    let V = c.make_over.new.store in
    subst (All (HoldsCell V)) (sym c.as_slice-cells.ensures) (All-weaker (HoldsCell S) (HoldsCell V) (λ a h. (g0.cells a h).0) c.args.clause.now.variables c.requires.clause.held.variables)

pub scopes_over-requires-clause-cells : goal.scopes_over-requires-clause-cells
scopes_over-requires-clause-cells g c =
    let T = c.args.types.now in
    let U = c.make_over.new.types in
    let S = c.args.store.now in
    let g0 = c.in_ok-over.ensures.grows in
    let g1 = grows_on T U U S c.make_over.new.store c.stand_ins.new.store g0 (grows_terms U c.make_over.new.store c.stand_ins.new.store c.in_ok-names.ensures.adds) in
    let V = c.stand_ins.new.store in
    subst (All (HoldsCell V)) (sym c.as_slice-cells.ensures) (All-weaker (HoldsCell S) (HoldsCell V) (λ a h. (g1.cells a h).0) c.args.clause.now.variables c.requires.clause.held.variables)

pub scopes_over-requires-clause-goals : goal.scopes_over-requires-clause-goals
scopes_over-requires-clause-goals g c =
    let T = c.args.types.now in
    let U = c.make_over.new.types in
    let S = c.args.store.now in
    let g0 = c.in_ok-over.ensures.grows in
    let g1 = grows_on T U U S c.make_over.new.store c.stand_ins.new.store g0 (grows_terms U c.make_over.new.store c.stand_ins.new.store c.in_ok-names.ensures.adds) in
    let V = c.stand_ins.new.store in
    All-weaker (Holds S) (Holds V) (λ a h. (g1.trees a h).0) c.args.goals.now c.requires.goals_held

pub demand_body-requires-clause-list : goal.demand_body-requires-clause-list
demand_body-requires-clause-list g c =
    let T = c.args.types.now in
    let U = c.make_over.new.types in
    let S = c.args.store.now in
    let g0 = c.in_ok-over.ensures.grows in
    let g1 = grows_on T U U S c.make_over.new.store c.stand_ins.new.store g0 (grows_terms U c.make_over.new.store c.stand_ins.new.store c.in_ok-names.ensures.adds) in
    let g2 = grows_on T U U S c.stand_ins.new.store c.scopes_over.new.store g1 (grows_terms U c.stand_ins.new.store c.scopes_over.new.store c.in_ok-scopes.ensures.adds) in
    let V = c.scopes_over.new.store in
    (g2.trees c.args.opening.list c.requires.list.0).0

pub demand_body-requires-clause-closed : goal.demand_body-requires-clause-closed
demand_body-requires-clause-closed g c =
    let T = c.args.types.now in
    let U = c.make_over.new.types in
    let S = c.args.store.now in
    let g0 = c.in_ok-over.ensures.grows in
    let g1 = grows_on T U U S c.make_over.new.store c.stand_ins.new.store g0 (grows_terms U c.make_over.new.store c.stand_ins.new.store c.in_ok-names.ensures.adds) in
    let g2 = grows_on T U U S c.stand_ins.new.store c.scopes_over.new.store g1 (grows_terms U c.stand_ins.new.store c.scopes_over.new.store c.in_ok-scopes.ensures.adds) in
    let V = c.scopes_over.new.store in
    subst (All (HoldsCell V)) (sym c.as_slice-closed.ensures.value) (All-weaker (HoldsCell S) (HoldsCell V) (λ a h. (g2.cells a h).0) c.in_ok-sides.sides.closed.items c.in_ok-sides.ensures.closed_held)

pub demand_body-requires-clause-names : goal.demand_body-requires-clause-names
demand_body-requires-clause-names g c =
    let T = c.args.types.now in
    let U = c.make_over.new.types in
    let S = c.args.store.now in
    let g0 = c.in_ok-over.ensures.grows in
    let g1 = grows_on T U U S c.make_over.new.store c.stand_ins.new.store g0 (grows_terms U c.make_over.new.store c.stand_ins.new.store c.in_ok-names.ensures.adds) in
    let g2 = grows_on T U U S c.stand_ins.new.store c.scopes_over.new.store g1 (grows_terms U c.stand_ins.new.store c.scopes_over.new.store c.in_ok-scopes.ensures.adds) in
    let V = c.scopes_over.new.store in
    subst (All (Holds V)) (sym c.deref-3.ensures.value) (All-weaker (Holds c.stand_ins.new.store) (Holds V) (λ a h. c.in_ok-scopes.ensures.adds.before.ids a h) c.in_ok-names.names.items c.in_ok-names.ensures.held)

pub put_over-requires-clause-cells : goal.put_over-requires-clause-cells
put_over-requires-clause-cells g c =
    let T = c.args.types.now in
    let U = c.make_over.new.types in
    let S = c.args.store.now in
    let g0 = c.in_ok-over.ensures.grows in
    let g1 = grows_on T U U S c.make_over.new.store c.stand_ins.new.store g0 (grows_terms U c.make_over.new.store c.stand_ins.new.store c.in_ok-names.ensures.adds) in
    let g2 = grows_on T U U S c.stand_ins.new.store c.scopes_over.new.store g1 (grows_terms U c.stand_ins.new.store c.scopes_over.new.store c.in_ok-scopes.ensures.adds) in
    let g3 = grows_on T U U S c.scopes_over.new.store c.demand_body.new.store g2 (grows_terms U c.scopes_over.new.store c.demand_body.new.store c.in_ok-body.ensures.adds) in
    let V = c.demand_body.new.store in
    subst (All (HoldsCell V)) (sym c.as_slice-cells.ensures) (All-weaker (HoldsCell S) (HoldsCell V) (λ a h. (g3.cells a h).0) c.args.clause.now.variables c.requires.clause.held.variables)

pub put_over-requires-clause-terms : goal.put_over-requires-clause-terms
put_over-requires-clause-terms g c =
    let T = c.args.types.now in
    let U = c.make_over.new.types in
    let S = c.args.store.now in
    let g0 = c.in_ok-over.ensures.grows in
    let g1 = grows_on T U U S c.make_over.new.store c.stand_ins.new.store g0 (grows_terms U c.make_over.new.store c.stand_ins.new.store c.in_ok-names.ensures.adds) in
    let g2 = grows_on T U U S c.stand_ins.new.store c.scopes_over.new.store g1 (grows_terms U c.stand_ins.new.store c.scopes_over.new.store c.in_ok-scopes.ensures.adds) in
    let g3 = grows_on T U U S c.scopes_over.new.store c.demand_body.new.store g2 (grows_terms U c.scopes_over.new.store c.demand_body.new.store c.in_ok-body.ensures.adds) in
    let V = c.demand_body.new.store in
    subst (All (Holds V)) (sym c.deref-5.ensures.value) (All-weaker (Holds c.stand_ins.new.store) (Holds V) (λ a h. c.in_ok-body.ensures.adds.before.ids a (c.in_ok-scopes.ensures.adds.before.ids a h)) c.in_ok-names.names.items c.in_ok-names.ensures.held)

pub put_over-requires-clause-term : goal.put_over-requires-clause-term
put_over-requires-clause-term g c =
    let T = c.args.types.now in
    let U = c.make_over.new.types in
    let S = c.args.store.now in
    let g0 = c.in_ok-over.ensures.grows in
    let g1 = grows_on T U U S c.make_over.new.store c.stand_ins.new.store g0 (grows_terms U c.make_over.new.store c.stand_ins.new.store c.in_ok-names.ensures.adds) in
    let g2 = grows_on T U U S c.stand_ins.new.store c.scopes_over.new.store g1 (grows_terms U c.stand_ins.new.store c.scopes_over.new.store c.in_ok-scopes.ensures.adds) in
    let g3 = grows_on T U U S c.scopes_over.new.store c.demand_body.new.store g2 (grows_terms U c.scopes_over.new.store c.demand_body.new.store c.in_ok-body.ensures.adds) in
    let V = c.demand_body.new.store in
    (g3.trees c.args.clause.now.head c.requires.clause.held.head).0

pub argument_equations-requires-clause-goal : goal.argument_equations-requires-clause-goal
argument_equations-requires-clause-goal g c =
    let T = c.args.types.now in
    let U = c.make_over.new.types in
    let S = c.args.store.now in
    let g0 = c.in_ok-over.ensures.grows in
    let g1 = grows_on T U U S c.make_over.new.store c.stand_ins.new.store g0 (grows_terms U c.make_over.new.store c.stand_ins.new.store c.in_ok-names.ensures.adds) in
    let g2 = grows_on T U U S c.stand_ins.new.store c.scopes_over.new.store g1 (grows_terms U c.stand_ins.new.store c.scopes_over.new.store c.in_ok-scopes.ensures.adds) in
    let g3 = grows_on T U U S c.scopes_over.new.store c.demand_body.new.store g2 (grows_terms U c.scopes_over.new.store c.demand_body.new.store c.in_ok-body.ensures.adds) in
    let g4 = grows_on T U U S c.demand_body.new.store c.put_over.new.store g3 (grows_terms U c.demand_body.new.store c.put_over.new.store c.in_ok-atom.ensures.adds) in
    let V = c.put_over.new.store in
    (g4.trees c.args.goal c.requires.goal).0

pub returns-in_err-names-clause-grows : goal.returns-in_err-names-clause-grows
returns-in_err-names-clause-grows g c =
    let T = c.args.types.now in
    let U = c.make_over.new.types in
    let S = c.args.store.now in
    let g1 = grows_on T U U S c.make_over.new.store c.stand_ins.new.store c.in_ok-over.ensures.grows (grows_terms U c.make_over.new.store c.stand_ins.new.store c.in_err-names.ensures.adds) in
    g1

pub returns-in_err-scopes-clause-grows : goal.returns-in_err-scopes-clause-grows
returns-in_err-scopes-clause-grows g c =
    let T = c.args.types.now in
    let U = c.make_over.new.types in
    let S = c.args.store.now in
    let g1 = grows_on T U U S c.make_over.new.store c.stand_ins.new.store c.in_ok-over.ensures.grows (grows_terms U c.make_over.new.store c.stand_ins.new.store c.in_ok-names.ensures.adds) in
    let g2 = grows_on T U U S c.stand_ins.new.store c.scopes_over.new.store g1 (grows_terms U c.stand_ins.new.store c.scopes_over.new.store c.in_err-scopes.ensures.adds) in
    g2

pub returns-in_err-body-clause-grows : goal.returns-in_err-body-clause-grows
returns-in_err-body-clause-grows g c =
    let T = c.args.types.now in
    let U = c.make_over.new.types in
    let S = c.args.store.now in
    let g1 = grows_on T U U S c.make_over.new.store c.stand_ins.new.store c.in_ok-over.ensures.grows (grows_terms U c.make_over.new.store c.stand_ins.new.store c.in_ok-names.ensures.adds) in
    let g2 = grows_on T U U S c.stand_ins.new.store c.scopes_over.new.store g1 (grows_terms U c.stand_ins.new.store c.scopes_over.new.store c.in_ok-scopes.ensures.adds) in
    let g3 = grows_on T U U S c.scopes_over.new.store c.demand_body.new.store g2 (grows_terms U c.scopes_over.new.store c.demand_body.new.store c.in_err-body.ensures.adds) in
    g3

pub returns-in_err-atom-clause-grows : goal.returns-in_err-atom-clause-grows
returns-in_err-atom-clause-grows g c =
    let T = c.args.types.now in
    let U = c.make_over.new.types in
    let S = c.args.store.now in
    let g1 = grows_on T U U S c.make_over.new.store c.stand_ins.new.store c.in_ok-over.ensures.grows (grows_terms U c.make_over.new.store c.stand_ins.new.store c.in_ok-names.ensures.adds) in
    let g2 = grows_on T U U S c.stand_ins.new.store c.scopes_over.new.store g1 (grows_terms U c.stand_ins.new.store c.scopes_over.new.store c.in_ok-scopes.ensures.adds) in
    let g3 = grows_on T U U S c.scopes_over.new.store c.demand_body.new.store g2 (grows_terms U c.scopes_over.new.store c.demand_body.new.store c.in_ok-body.ensures.adds) in
    let g4 = grows_on T U U S c.demand_body.new.store c.put_over.new.store g3 (grows_terms U c.demand_body.new.store c.put_over.new.store c.in_err-atom.ensures.adds) in
    g4

pub returns-in_err-equations-clause-grows : goal.returns-in_err-equations-clause-grows
returns-in_err-equations-clause-grows g c = made.all_grown c.args.types.now c.make_over.new.types c.args.store.now c.make_over.new.store c.stand_ins.new.store c.scopes_over.new.store c.demand_body.new.store c.put_over.new.store c.requires.store
    c.in_ok-over.ensures.grows c.in_ok-names.ensures.adds c.in_ok-scopes.ensures.adds c.in_ok-body.ensures.adds c.in_ok-atom.ensures.adds

pub returns-clause-grows : goal.returns-clause-grows
returns-clause-grows g c = made.all_grown c.args.types.now c.make_over.new.types c.args.store.now c.make_over.new.store c.stand_ins.new.store c.scopes_over.new.store c.demand_body.new.store c.put_over.new.store c.requires.store
    c.in_ok-over.ensures.grows c.in_ok-names.ensures.adds c.in_ok-scopes.ensures.adds c.in_ok-body.ensures.adds c.in_ok-atom.ensures.adds

pub returns-clause-made : goal.returns-clause-made
returns-clause-made g c j context is_goal constants =
    let T = c.args.types.now in
    let U = c.make_over.new.types in
    let S = c.args.store.now in
    let S1 = c.make_over.new.store in
    let S2 = c.stand_ins.new.store in
    let S3 = c.scopes_over.new.store in
    let S4 = c.demand_body.new.store in
    let S5 = c.put_over.new.store in
    let grown = c.in_ok-over.ensures.grows in
    let a2 = c.in_ok-names.ensures.adds in
    let a3 = c.in_ok-scopes.ensures.adds in
    let a4 = c.in_ok-body.ensures.adds in
    let a5 = c.in_ok-atom.ensures.adds in
    let m = sign_of c.args.opening.manner.sign in
    let list = c.args.opening.list in
    let clause = c.args.clause.now in
    let goals = c.args.goals.now in
    let ns = names_read T c.args.constants.now in
    let sides = c.in_ok-sides.sides in
    let its = c.in_ok-sides.ensures in
    let alone = sides.alone.items in
    let own = sides.own.items in
    let closed = sides.closed.items in
    let terms = c.in_ok-over.over.terms.items in
    let names = c.in_ok-names.names.items in
    let scopes = c.in_ok-scopes.scopes.items in
    let body = c.in_ok-body.body in
    let cs_are = c.as_slice-cells.ensures in
    let alone_is : alone ≡ map (stands_in_goals_alone (tree_of T S clause.head) (map (tree_of T S) goals)) (map (variable_at T S) clause.variables) =
    its.alone T ∙ ap (λ l. map (stands_in_goals_alone (tree_of T S clause.head) (map (tree_of T S) goals)) (map (variable_at T S) l)) cs_are in
    let own_is : own ≡ chosen (map not alone) clause.variables = its.own ∙ ap (chosen (map not alone)) cs_are in
    let closed_is : closed ≡ chosen alone clause.variables = its.closed ∙ ap (chosen alone) cs_are in
    let terms_are = c.in_ok-over.ensures.terms ∙ ap (λ l. made_terms (codes "x") (length S.cells) ns (cells_at T S l)) c.deref.ensures.value in
    let names_held = c.in_ok-names.ensures.held in
    let names_are = c.in_ok-names.ensures.trees
    ∙ ap (λ l. stand_ins alone (cells_at U S1 l) (map (tree_of U S1) c.deref-2.result.now)) cs_are
    ∙ ap (λ l. stand_ins alone (cells_at U S1 clause.variables) (map (tree_of U S1) l)) c.deref-2.ensures.value in
    record {
      cells = made.made_cells T U S S1 S2 S3 S4 S5 c.requires.store grown a2 a3 a4 a5 c.requires.unbound m list c.args.goal clause c.requires.clause c.requires.list c.requires.goal goals c.requires.goals_held c.requires.goals ns j context is_goal constants alone alone_is own closed own_is closed_is (c.in_ok-over.ensures.cells ∙ ap (λ l. cells_read T S ++ cells_over (codes "x") ns (cells_at T S l)) c.deref.ensures.value);
      own = made.made_own T U S S1 S2 S3 S4 S5 c.requires.store grown a2 a3 a4 a5 c.requires.unbound m list c.args.goal clause c.requires.clause c.requires.list c.requires.goal goals c.requires.goals_held c.requires.goals ns j context is_goal constants alone alone_is own closed own_is closed_is c.in_ok-over.over.cells.items (c.in_ok-over.ensures.made ∙ ap (λ l. made_over (codes "x") (length S.cells) ns (cells_at T S l)) c.deref.ensures.value);
      equations = made.made_equations T U S S1 S2 S3 S4 S5 c.requires.store grown a2 a3 a4 a5 c.requires.unbound m list c.args.goal clause c.requires.clause c.requires.list c.requires.goal goals c.requires.goals_held c.requires.goals ns j context is_goal constants alone alone_is own closed own_is closed_is terms terms_are names names_held names_are c.in_ok-atom.atom
          (c.in_ok-atom.ensures.tree
          ∙ ap (λ l. instance_by_all (under_variables (map (variable_at U S4) l) (tree_of U S4 clause.head)) (map (tree_of U S4) c.deref-5.result.now)) cs_are
          ∙ ap (λ l. instance_by_all (under_variables (map (variable_at U S4) clause.variables) (tree_of U S4 clause.head)) (map (tree_of U S4) l)) c.deref-5.ensures.value)
          c.in_ok-equations.equations.items (c.in_ok-equations.ensures.trees U);
      sides_held = c.in_ok-equations.ensures.held;
      held = a5.before.ids body c.in_ok-body.ensures.held;
      body = made.made_body T U S S1 S2 S3 S4 S5 c.requires.store grown a2 a3 a4 a5 c.requires.unbound m list c.args.goal clause c.requires.clause c.requires.list c.requires.goal goals c.requires.goals_held c.requires.goals ns j context is_goal constants alone alone_is own closed own_is closed_is terms terms_are names names_held names_are scopes (c.in_ok-scopes.ensures.trees ∙ ap (λ l. map (under_variables (map (variable_at U S2) l)) (map (tree_of U S2) goals)) cs_are) body c.in_ok-body.ensures.held
          (c.in_ok-body.ensures.tree
          ∙ ap (λ l. exists_names (cells_at U S3 l) (conjunction_of (map (λ s. open_goal m (tree_of U S3 list) (instance_by_all s (map (tree_of U S3) c.deref-3.result.now))) (map (tree_of U S3) c.deref-4.result.now)))) c.as_slice-closed.ensures.value
          ∙ ap (λ l. exists_names (cells_at U S3 closed) (conjunction_of (map (λ s. open_goal m (tree_of U S3 list) (instance_by_all s (map (tree_of U S3) l))) (map (tree_of U S3) c.deref-4.result.now)))) c.deref-3.ensures.value
          ∙ ap (λ l. exists_names (cells_at U S3 closed) (conjunction_of (map (λ s. open_goal m (tree_of U S3 list) (instance_by_all s (map (tree_of U S3) names))) (map (tree_of U S3) l)))) c.deref-4.ensures.value);
    }
