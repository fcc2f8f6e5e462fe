-- What a clause demands, as it was made step by step.
use Rattle.std.proofs.Common.{◌≡◌, ℕ, ◌+◌, List, [], ◌∷◌, ◌++◌, map, length, not, codes, Bool, sym, ap, ◌∙◌, subst, arith, append-nil}
use Rattle.std.specs.List.{All}
use Rattle.ab_term.specs.Types.{olist}
use Rattle.ab_term.specs.Terms.{Nominal, Read}
use Rattle.ab_term.specs.Typing.{HasType}
use Rattle.ab_term.specs.Substitution.{instance_by_all}
use Rattle.ab_norm.specs.ab_types.specs.Entries.{Table, signature}
use Rattle.ab_norm.specs.ab_store.specs.declared.node.CellId.{CellId}
use Rattle.ab_norm.specs.ab_store.specs.declared.node.Equation.{Equation}
use Rattle.ab_norm.specs.ab_store.specs.declared.node.TermId.{TermId}
use Rattle.ab_norm.specs.ab_store.specs.Trees.{Contents, Holds, HoldsCell, cell_of, tree_of}
use Rattle.ab_norm.specs.ab_store.specs.Naming.{IsTypedBy, IsTerm}
use Rattle.ab_norm.specs.NodeGrowth.{AddsTypedTerms}
use Rattle.ab_norm.proofs.Frame.{typed_on, adds_but_types}
use Rattle.ab_unifiers.specs.Clauses.{numbered}
use Rattle.ab_unifiers.specs.Prefixes.{arguments_of}
use Rattle.ab_unifiers.specs.Alternatives.{cells_over, made_over, made_terms, arguments_equal}
use Rattle.ab_typing.specs.DefinitionReadings.{clause_of}
use Rattle.ab_typing.specs.declared.definitions.ClauseTerm.{ClauseTerm}
use Rattle.ab_formulas.specs.Clauses.{Clause}
use Rattle.ab_formulas.specs.Marks.{Sign}
use Rattle.ab_formulas.specs.Programs.{goals_in}
use Rattle.ab_formulas.specs.CaseClauses as cases
use Rattle.ab_formulas.specs.CaseClauses.{case_of}
use Rattle.ab_unify.specs.Problem.{cell_read, cells_read, variables_read, cells_at}
use Rattle.ab_unify.specs.StoreChanges.{Grows}
use Rattle.ab_unify.proofs.Growth.{grows_on, grows_terms}
use Rattle.ab_logic.specs.Worlds.{IsKeptProgramClause, variable_at}
use Rattle.ab_theory.specs.Judgements.{Judgement, constants_of}
use Rattle.ab_theory.specs.Opening.{open_goal, conjunction_of}
use Rattle.ab_theory.specs.SpecRules.{Demand, stands_in_goals_alone, by_clause, demand_of}
use Rattle.ab_theory.specs.Splits.{cell_for}
use Rattle.ab_alternatives.specs.LeftAlternatives.{trees_from}
use Rattle.ab_alternatives.specs.ab_instances.specs.ListReadings.{trees_at}
use Rattle.ab_alternatives.proofs.Assembled.{cells_same, variables_same}
use Rattle.ab_judgement_forms.specs.DemandWalks.{under_variables, exists_names, chosen, stand_ins}
use Rattle.ab_judgements.proofs.DemandBodies.{clause_closed, clause_others, clause_terms, clause_head, clause_own, clause_body, clause_equations}
use Rattle.ab_judgement_forms.proofs.KeptScopes.{kept_variable}
use Rattle.ab_judgement_forms.proofs.StandIns.{IsBelow}
use Rattle.ab_judgement_forms.proofs.StoresGrown.{all_variables_stay, all_trees_stay, below_all, cells_by, kept_are, kept_cells, chosen_map}

abbrev x : List ℕ
x = codes "x"

module _ (T U : Table) (S S1 S2 S3 S4 S5 : Contents) (typed : IsTypedBy T S) (grown : Grows T S U S1) (a2 : AddsTypedTerms U S1 S2) (a3 : AddsTypedTerms U S2 S3) (a4 : AddsTypedTerms U S3 S4) (a5 : AddsTypedTerms U S4 S5) where
  g2 : Grows T S U S2
  g2 = grows_on T U U S S1 S2 grown (grows_terms U S1 S2 a2)

  g3 : Grows T S U S3
  g3 = grows_on T U U S S2 S3 g2 (grows_terms U S2 S3 a3)

  g4 : Grows T S U S4
  g4 = grows_on T U U S S3 S4 g3 (grows_terms U S3 S4 a4)

  pub all_grown : Grows T S U S5
  all_grown = grows_on T U U S S4 S5 g4 (grows_terms U S4 S5 a5)

  cells_end : S5.cells ≡ S1.cells
  cells_end = a5.cells ∙ a4.cells ∙ a3.cells ∙ a2.cells

  module _ (unbound : S.bindings ≡ []) (m : Sign) (list goal : TermId) (clause : ClauseTerm) (kept : IsKeptProgramClause T S clause) (list_typed : IsTerm T S [] list olist) (goal_held : Holds S goal) (goals : List TermId) (goals_held : All (Holds S) goals)
      (goals_are : map (tree_of T S) goals ≡ goals_in (tree_of T S clause.body)) (ns : List Nominal) (j : Judgement) (context : j.context ≡ tree_of T S list) (is_goal : j.goal ≡ tree_of T S goal) (constants : constants_of j ≡ ns) where
    abbrev n : ℕ
    n = length S.cells

    abbrev cs : List CellId
    cs = clause.variables

    abbrev k : Clause
    k = clause_of T S clause

    abbrev D : Demand
    D = demand_of n m j (by_clause (case_of k))

    held : All (HoldsCell S) cs
    held = kept.held.variables

    typed_context : HasType (signature T) [] j.context olist
    typed_context = subst (λ t. HasType (signature T) [] t olist) (sym context) list_typed.1

    low_context : IsBelow n j.context
    low_context = subst (IsBelow n) (sym context) (below_all T S list typed unbound list_typed.0)

    module _ (alone : List Bool) (alone_is : alone ≡ map (stands_in_goals_alone (tree_of T S clause.head) (map (tree_of T S) goals)) (map (variable_at T S) cs))
        (own closed : List CellId) (own_is : own ≡ chosen (map not alone) cs) (closed_is : closed ≡ chosen alone cs) where
      bits : alone ≡ clause_closed k
      bits =
          alone_is
          ∙ ap (λ gs. map (stands_in_goals_alone k.head gs) (map (variable_at T S) cs)) goals_are
          ∙ ap (map (stands_in_goals_alone k.head (goals_in k.body))) (sym (kept_are T S cs))

      own_cells : cells_at T S own ≡ clause_others k
      own_cells =
          ap (cells_at T S) own_is
          ∙ chosen_map (λ c. cell_read T (cell_of S c)) (map not alone) cs
          ∙ ap (λ bs. chosen (map not bs) (cells_at T S cs)) bits
          ∙ ap (chosen (map not (clause_closed k))) (sym (kept_cells T S cs))

      is_own : D.own ≡ cells_over x ns (cells_at T S own)
      is_own =
          clause_own (signature T) n m j typed_context low_context k kept.well
          ∙ ap (λ l. cells_over x l (clause_others k)) constants
          ∙ ap (cells_over x ns) (sym own_cells)

      pub made_cells : cells_read U S1 ≡ cells_read T S ++ cells_over x ns (cells_at T S own) → cells_read U S5 ≡ (cells_read T S ++ []) ++ D.own
      made_cells are =
          cells_same U S1 S5 cells_end ∙ are ∙ ap (λ l. cells_read T S ++ l) (sym is_own) ∙ ap (λ l. l ++ D.own) (sym (append-nil (cells_read T S)))

      pub made_own : (made : List CellId) → variables_read U S1 made ≡ made_over x n ns (cells_at T S own) → variables_read U S5 made ≡ numbered (n + 0) D.own
      made_own made are =
          let e : n ≡ n + 0 = omega arith in
          variables_same U S1 S5 cells_end made ∙ are ∙ ap (numbered n) (sym is_own) ∙ ap (λ (i : ℕ). numbered i D.own) e

      cells_at_later : (V : Contents) → Grows T S U V → cells_at U V cs ≡ map cases.cell_of k.variables
      cells_at_later V g = cells_by U V cs ∙ ap (map cell_for) (all_variables_stay T U S V g typed cs held) ∙ sym (cells_by T S cs) ∙ sym (kept_cells T S cs)

      module _ (terms : List TermId) (terms_are : trees_at U S1 terms ≡ made_terms x n ns (cells_at T S own)) (names : List TermId) (names_held : All (Holds S2) names)
          (names_are : map (tree_of U S2) names ≡ stand_ins alone (cells_at U S1 cs) (map (tree_of U S1) terms)) where
        terms_read : map (tree_of U S1) terms ≡ clause_terms n j k
        terms_read = terms_are ∙ ap (made_terms x n ns) own_cells ∙ ap (λ l. made_terms x n l (clause_others k)) (sym constants)

        abbrev Stand : List Read
        Stand = stand_ins (clause_closed k) (map cases.cell_of k.variables) (clause_terms n j k)

        names_stand : map (tree_of U S2) names ≡ Stand
        names_stand =
            names_are
            ∙ ap (λ bs. stand_ins bs (cells_at U S1 cs) (map (tree_of U S1) terms)) bits
            ∙ ap (λ l. stand_ins (clause_closed k) l (map (tree_of U S1) terms)) (cells_at_later S1 grown)
            ∙ ap (stand_ins (clause_closed k) (map cases.cell_of k.variables)) terms_read

        names_third : map (tree_of U S3) names ≡ Stand
        names_third = (adds_but_types U S2 S3 a3 names names_held).1 ∙ names_stand

        names_fourth : map (tree_of U S4) names ≡ Stand
        names_fourth = (adds_but_types U S2 S4 (typed_on U S2 S3 S4 a3 a4) names names_held).1 ∙ names_stand

        pub made_body : (scopes : List TermId) → map (tree_of U S3) scopes ≡ map (under_variables (map (variable_at U S2) cs)) (map (tree_of U S2) goals) → (body : TermId) → Holds S4 body
            → tree_of U S4 body ≡ exists_names (cells_at U S3 closed) (conjunction_of (map (λ s. open_goal m (tree_of U S3 list) (instance_by_all s (map (tree_of U S3) names))) (map (tree_of U S3) scopes)))
            → tree_of U S5 body ≡ D.body
        made_body scopes scopes_are body body_held body_is =
            let ys = map kept_variable k.variables in
            let scopes_read : map (tree_of U S3) scopes ≡ map (under_variables ys) (goals_in k.body) =
            scopes_are
            ∙ ap (λ vs. map (under_variables vs) (map (tree_of U S2) goals)) (all_variables_stay T U S S2 g2 typed cs held ∙ sym (kept_are T S cs))
            ∙ ap (map (under_variables ys)) (all_trees_stay T U S S2 g2 typed goals goals_held ∙ goals_are) in
            let closed_cells : cells_at U S3 closed ≡ chosen (clause_closed k) (map cases.cell_of k.variables) =
            ap (cells_at U S3) closed_is
            ∙ chosen_map (λ c. cell_read U (cell_of S3 c)) alone cs
            ∙ ap (chosen alone) (cells_at_later S3 g3)
            ∙ ap (λ bs. chosen bs (map cases.cell_of k.variables)) bits in
            let list_read : tree_of U S3 list ≡ j.context = (g3.trees list list_typed.0).1 ∙ sym context in
            a5.before.trees U body body_held
            ∙ body_is
            ∙ ap (λ l. exists_names l (conjunction_of (map (λ s. open_goal m (tree_of U S3 list) (instance_by_all s (map (tree_of U S3) names))) (map (tree_of U S3) scopes)))) closed_cells
            ∙ ap (λ L. exists_names (chosen (clause_closed k) (map cases.cell_of k.variables)) (conjunction_of (map (λ s. open_goal m L (instance_by_all s (map (tree_of U S3) names))) (map (tree_of U S3) scopes)))) list_read
            ∙ ap (λ us. exists_names (chosen (clause_closed k) (map cases.cell_of k.variables)) (conjunction_of (map (λ s. open_goal m j.context (instance_by_all s us)) (map (tree_of U S3) scopes)))) names_third
            ∙ ap (λ ss. exists_names (chosen (clause_closed k) (map cases.cell_of k.variables)) (conjunction_of (map (λ s. open_goal m j.context (instance_by_all s Stand)) ss))) scopes_read
            ∙ sym (clause_body (signature T) n m j typed_context low_context k kept.well)

        pub made_equations : (atom : TermId) → tree_of U S5 atom ≡ instance_by_all (under_variables (map (variable_at U S4) cs) (tree_of U S4 clause.head)) (map (tree_of U S4) names) → (es : List Equation)
            → trees_from U S5 0 es ≡ arguments_equal x 0 (arguments_of (tree_of U S5 goal)) (arguments_of (tree_of U S5 atom)) → trees_from U S5 0 es ≡ D.equations
        made_equations atom atom_is es are =
            let ys = map kept_variable k.variables in
            let atom_read : tree_of U S5 atom ≡ clause_head n j k =
            atom_is
            ∙ ap (λ vs. instance_by_all (under_variables vs (tree_of U S4 clause.head)) (map (tree_of U S4) names)) (all_variables_stay T U S S4 g4 typed cs held ∙ sym (kept_are T S cs))
            ∙ ap (λ t. instance_by_all (under_variables ys t) (map (tree_of U S4) names)) (g4.trees clause.head kept.held.head).1
            ∙ ap (instance_by_all (under_variables ys k.head)) names_fourth in
            are
            ∙ ap (λ t. arguments_equal x 0 (arguments_of t) (arguments_of (tree_of U S5 atom))) ((all_grown.trees goal goal_held).1 ∙ sym is_goal)
            ∙ ap (λ t. arguments_equal x 0 (arguments_of j.goal) (arguments_of t)) atom_read
            ∙ sym (clause_equations (signature T) n m j typed_context low_context k kept.well)
