-- An instance of a kept clause, put together: what its arguments and its body read as.
use Rattle.std.proofs.Common.{◌≡◌, ℕ, List, [], ◌++◌, map, length, Some, codes, sym, ◌∙◌, ap, subst}
use Rattle.std.specs.List.{All}
use Rattle.ab_term.specs.Types.{Ty, prop}
use Rattle.ab_term.specs.Terms as tree
use Rattle.ab_term.specs.Terms.{Terms}
use Rattle.ab_term.specs.Typing.{Signature, TakeType}
use Rattle.ab_term.specs.Variables.{Substitution, image, image_all}
use Rattle.ab_term.specs.Sameness.{same_number}
use Rattle.ab_term.specs.Constants.{type_in}
use Rattle.ab_norm.specs.ab_types.specs.Entries.{Table, signature}
use Rattle.ab_norm.specs.ab_store.specs.declared.node.TermId.{TermId}
use Rattle.ab_norm.specs.ab_store.specs.declared.node.CellId.{CellId}
use Rattle.ab_norm.specs.ab_store.specs.declared.node.CellEntry.{CellEntry}
use Rattle.ab_norm.specs.ab_store.specs.Trees.{Contents, Holds, HoldsCell, tree_of}
use Rattle.ab_norm.specs.ab_store.specs.Naming.{IsTypedBy}
use Rattle.ab_unifiers.specs.Clauses.{Clause, put_together, name_term, filled, IsClause}
use Rattle.ab_unifiers.specs.Alternatives.{cells_over, made_over, made_terms}
use Rattle.ab_unifiers.specs.Prefixes.{opened, arguments_of}
use Rattle.ab_typing.specs.declared.definitions.ClauseTerm.{ClauseTerm}
use Rattle.ab_typing.specs.DefinitionReadings.{variable_of, clause_of}
use Rattle.ab_formulas.specs.CaseClauses.{case_of, IsWellKept}
use Rattle.ab_unify.specs.Problem.{cell_read, cells_read, variables_read, cells_at}
use Rattle.ab_unify.specs.StoreChanges.{Grows}
use Rattle.ab_instances.specs.ListReadings.{trees_at}
use Rattle.ab_instances.proofs.Fitting.{in_terms_are, cells_are, variables_stay}
use Rattle.ab_instances.proofs.Instanced.{body_direct, arguments_direct, arguments_typed}

abbrev x : List ℕ
x = codes "x"

module _ (T0 T : Table) (S0 S1 : Contents) (typed : IsTypedBy T0 S0) (g : Grows T0 S0 T S1) (clause : ClauseTerm) (there : All (HoldsCell S0) clause.variables) (unchosen names : List tree.Nominal) (terms : List TermId)
    (made : trees_at T S1 terms ≡ made_terms x (length S0.cells) unchosen (cells_at T0 S0 clause.variables))
    (kept : IsWellKept (signature T0) (clause_of T0 S0 clause)) (well : IsClause (signature T0) (case_of (clause_of T0 S0 clause)))
    (fit : map (λ a. a.type) names ≡ map (λ z. z.type) (case_of (clause_of T0 S0 clause)).names) where
  abbrev c : Clause (List ℕ)
  c = case_of (clause_of T0 S0 clause)

  abbrev n : ℕ
  n = length S0.cells

  abbrev put : Substitution ℕ (List ℕ)
  put = filled x c (made_terms x n unchosen c.variables) names

  abbrev direct : Substitution ℕ (List ℕ)
  direct = put_together (variables_read T S1 clause.variables) (trees_at T S1 terms)

  -- what is put in for the clause's cells
  direct_is : (r : TermId) → Holds S0 r → image same_number direct (tree_of T S1 r)
      ≡ image same_number (put_together (map (λ v. record { name = v.number; type = v.type }) (map (variable_of T0 S0) clause.variables)) (made_terms x n unchosen c.variables)) (tree_of T0 S0 r)
  direct_is r held =
      ap (λ ys. image same_number (put_together ys (trees_at T S1 terms)) (tree_of T S1 r)) (variables_stay T0 T S0 S1 g typed clause.variables there ∙ sym (in_terms_are T0 S0 clause.variables))
      ∙ ap (λ us. image same_number (put_together (map (λ v. record { name = v.number; type = v.type }) (map (variable_of T0 S0) clause.variables)) us) (tree_of T S1 r)) (made ∙ ap (made_terms x n unchosen) (sym (cells_are T0 S0 clause.variables)))
      ∙ ap (image same_number (put_together (map (λ v. record { name = v.number; type = v.type }) (map (variable_of T0 S0) clause.variables)) (made_terms x n unchosen c.variables))) (g.trees r held).1

  pub body_is : (S : Contents) (q : TermId) → Holds S0 clause.body → tree_of T S q ≡ image same_number direct (tree_of T S1 clause.body) → tree_of T S q ≡ image same_number put c.body
  body_is S q held e = e ∙ direct_is clause.body held ∙ body_direct (signature T0) (clause_of T0 S0 clause) kept well n unchosen names fit

  pub arguments_are : (S2 S : Contents) (head : TermId) (args : Terms ℕ (List ℕ)) (atom : TermId) (forms : List TermId) → Holds S0 clause.head → tree_of T S2 head ≡ image same_number direct (tree_of T S1 clause.head)
      → trees_at T S2 forms ≡ map (name_term x) names → tree_of T S atom ≡ opened (tree_of T S2 head) (trees_at T S2 forms) → args ≡ arguments_of (tree_of T S atom)
      → args ≡ image_all same_number put c.arguments
  arguments_are S2 S head args atom forms held e named opens is =
      is
      ∙ ap arguments_of (opens ∙ ap (λ t. opened t (trees_at T S2 forms)) (e ∙ direct_is clause.head held)
      ∙ ap (opened (image same_number (put_together (map (λ v. record { name = v.number; type = v.type }) (map (variable_of T0 S0) clause.variables)) (made_terms x n unchosen c.variables)) (tree_of T0 S0 clause.head))) named)
      ∙ arguments_direct (signature T0) (clause_of T0 S0 clause) kept well n unchosen names fit

  pub arguments_fit : (args : Terms ℕ (List ℕ)) → args ≡ image_all same_number put c.arguments → (A : Ty) → signature T c.predicate ≡ Some A → TakeType (signature T) [] args A prop
  arguments_fit args e A h =
      let same : signature T ≡ signature T0 = ap type_in g.constants in
      subst (λ sg. TakeType sg [] args A prop) (sym same)
      (subst (λ us. TakeType (signature T0) [] us A prop) (sym e) (arguments_typed (signature T0) (clause_of T0 S0 clause) kept well n unchosen names fit A (ap (λ (sg : Signature). sg c.predicate) (sym same) ∙ h)))

  pub cells_end : (S : Contents) → S.cells ≡ S1.cells → cells_read T S1 ≡ cells_read T0 S0 ++ cells_over x unchosen (cells_at T0 S0 clause.variables) → cells_read T S ≡ cells_read T0 S0 ++ cells_over x unchosen c.variables
  cells_end S same e = ap (map (cell_read T)) same ∙ e ∙ ap (λ cs. cells_read T0 S0 ++ cells_over x unchosen cs) (sym (cells_are T0 S0 clause.variables))

  pub own_end : (S : Contents) (own : List CellId) → S.cells ≡ S1.cells → variables_read T S1 own ≡ made_over x n unchosen (cells_at T0 S0 clause.variables) → variables_read T S own ≡ made_over x n unchosen c.variables
  own_end S own same e =
      ap (λ (cs : List CellEntry). variables_read T (record S { cells = cs }) own) same ∙ e ∙ ap (made_over x n unchosen) (sym (cells_are T0 S0 clause.variables))
