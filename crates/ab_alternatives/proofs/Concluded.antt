-- What a solved unfolding becomes, in plain words.
use Rattle.std.specs.List.{All}
use Rattle.std.proofs.Common.{◌≡◌, ℕ, ◌-◌, List, [], ◌++◌, map, length, take, codes, ◌∙◌, ap, subst}
use Rattle.ab_term.specs.Types.{Ty, prop}
use Rattle.ab_term.specs.Variables.{Substitution, image}
use Rattle.ab_term.specs.Sameness.{same_number}
use Rattle.ab_norm.specs.ab_types.specs.Entries.{Table}
use Rattle.ab_norm.specs.ab_store.specs.declared.node.TermId.{TermId}
use Rattle.ab_norm.specs.ab_store.specs.declared.node.CellId.{CellId}
use Rattle.ab_norm.specs.ab_store.specs.declared.node.Equation.{Equation}
use Rattle.ab_norm.specs.ab_store.specs.Trees.{Contents, tree_of}
use Rattle.ab_norm.specs.ab_store.specs.Reading.{reading}
use Rattle.ab_norm.specs.ab_store.specs.Naming.{IsTerm}
use Rattle.ab_norm.specs.ab_store.proofs.Growing.{unbound_reads}
use Rattle.ab_norm.specs.Nominals.{HoldsNominal}
use Rattle.ab_norm.specs.declared.nominal.Nominal.{Nominal}
use Rattle.ab_unifiers.specs.Replacements.{Cell}
use Rattle.ab_unifiers.specs.Unification.{unified, Solves}
use Rattle.ab_unify.specs.Problem.{cells_read, problem}
use Rattle.ab_unify.specs.StoreChanges.{Grows}
use Rattle.ab_unify.specs.UnifyAnswers.{AreNewCells, AreInAge, AreLeft}
use Rattle.ab_instances.specs.ListReadings.{names_read}
use Rattle.ab_instances.proofs.Made.{names_stay}
use Rattle.ab_theory.specs.Equations.{made}
use Rattle.ab_equations.specs.Meanwhile.{AreFrom, unbound_of}
use Rattle.ab_alternatives.specs.RightAlternatives.{closed_by, Becomes}
use Rattle.ab_logic.specs.Worlds.{variable_at}
use Rattle.ab_alternatives.specs.declared.clause_bodies.Unfolding.{Unfolding}
use Rattle.ab_alternatives.proofs.LeftOpen.{left_open}

module _ (T U : Table) (S V X : Contents) (g : Grows T S U V) (unbound : S.bindings ≡ []) (u : Unfolding) (xs : List (List ℕ)) (names : List Nominal) (held : All (HoldsNominal T) names)
    (es : List Equation) (ys : List CellId) (es_are : es ≡ u.equations.items) (ys_are : ys ≡ u.own.items)
    (more : List (Cell (List ℕ))) (answer : Substitution ℕ (List ℕ)) (solves : Solves (codes "x") (problem T S es ys) (unified more answer))
    (reads : (G : List Ty) (t : TermId) (A : Ty) → IsTerm T S G t A → reading U V t ≡ image same_number answer (reading T S t)) (cells : cells_read U V ≡ more)
    (left : AreLeft S ys U V answer) (from : AreFrom S (length S.cells - length u.own.items) u.own.items) (body : IsTerm T S [] u.body prop) where
  pub becomes : (cs : List CellId) → AreNewCells S V cs → AreInAge cs → (r : TermId)
      → tree_of U X r ≡ closed_by (map (variable_at U V) (unbound_of V (u.own.items ++ cs))) xs (names_read U names) (reading U V u.body)
      → Becomes T S u xs (names_read T names) U X r
  becomes cs new in_age r e =
      let n = length S.cells - length u.own.items in
      let vs = made (take n (cells_read T S)) more answer in (
        more,
        answer,
        subst (λ l. Solves (codes "x") (problem T S l u.own.items) (unified more answer)) es_are (subst (λ l. Solves (codes "x") (problem T S es l) (unified more answer)) ys_are solves),
        e
            ∙ ap (λ l. closed_by l xs (names_read U names) (reading U V u.body)) (left_open T U S V g more answer cells n u.own.items from (subst (λ l. AreLeft S l U V answer) ys_are left) cs new in_age)
            ∙ ap (λ ns. closed_by vs xs ns (reading U V u.body)) (names_stay T U g.table names held)
            ∙ ap (closed_by vs xs (names_read T names)) (reads [] u.body prop body ∙ ap (image same_number answer) (unbound_reads S unbound T u.body)),
      )
