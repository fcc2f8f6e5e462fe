-- What elaboration answers, from what its parts answer.
use Rattle.std.specs.List.{All}
use Rattle.std.specs.Prelude.{Ok, Err, Result}
use Rattle.std.proofs.Common.{◌≡◌, ℕ, ◌+◌, ◌<◌, ◌^◌, List, [], ◌∷◌, length, sym, ap, ◌∙◌, subst, arith}
use Rattle.ab_term.specs.Types.{Ty}
use Rattle.ab_norm.specs.ab_types.specs.Entries.{Table}
use Rattle.ab_norm.specs.ab_store.specs.Trees.{Contents}
use Rattle.ab_norm.specs.ab_store.specs.declared.node.TermId.{TermId}
use Rattle.ab_grammar.specs.Tree.{Tree}
use Rattle.ab_meaning.specs.ResolvedNames.{Name, Resolved}
use Rattle.ab_meaning.specs.Scopes.{Found, resolved}
use Rattle.ab_inference.specs.declared.fault.InferFault.{InferFault}
use Rattle.ab_inference.specs.declared.fault.InferFault.TheVariants.{Unknown, TypeClash, Untyped, Memory}
use Rattle.ab_inference.specs.declared.op.Op.{Op}
use Rattle.ab_inference.specs.declared.op.Mark.{Mark}
use Rattle.ab_inference.specs.Sketches.{Sketch, Fit, count, erase, variable_of, marks_of}
use Rattle.ab_inference.specs.Programs.{Runs, items_of, OpTyped}
use Rattle.ab_inference.specs.Verdicts.{AreApart, marks_in, mark_of}
use Rattle.ab_infer.specs.declared.scope.Scope as inner
use Rattle.ab_infer.specs.NameScopes as resolving
use Rattle.ab_infer.specs.NormalTerms.{OpFits}
use Rattle.ab_infer.specs.Outcomes.{AreNumbers}
use Rattle.ab_infer.specs.ElaborationAnswers.{IsAnswer}
use Rattle.ab_infer.specs.declared.row.Row.{Row}
use Rattle.ab_infer.specs.Rows.{AddsTypes, Makes, Fails}
use Rattle.ab_infer.proofs.Grounds.{same_scope}
use Rattle.ab_infer.specs.declared.scopes.Scope.{Scope}
use Rattle.ab_infer.specs.ScopeReadings.{scope_of}

-- an expression stands for the same in a table with more types
pub same_found : (old new : Table) (store : Contents) (s : Scope) (n : inner.Scope) (t : Tree) → AddsTypes old new → resolving.HoldsScope old store n → resolving.scope_of old store n ≡ scope_of old store s
    → resolved (resolving.scope_of new store n) [] t ≡ resolved (scope_of old store s) [] t
same_found old new store s n t adds held same = ap (λ z. resolved z [] t) (same_scope old new adds store n held ∙ same)

-- a walk that ends early is the answer
pub fails : (types : Table) (store : Contents) (found outer : Found) (A : Ty) (p : ℕ) (f : InferFault) → found ≡ outer → Fails found f → IsAnswer types store outer A p (Err f)
fails types store found outer A p (Unknown x) same h = sym same ∙ h
fails types store found outer A p (TypeClash q) same h = absurd h
fails types store found outer A p (Untyped q) same h = absurd h
fails types store found outer A p (Memory m) same h = tt

-- the answer to an expression whose names stand for something
pub answered : (types : Table) (store : Contents) (e : Resolved) (found outer : Found) (A B : Ty) (p q : ℕ) (r : Result TermId InferFault) → found ≡ Ok e → found ≡ outer → B ≡ A → p ≡ q
    → IsAnswer types store (Ok e) B p r → IsAnswer types store outer A q r
answered types store e found outer A B p q r is same type place h =
    subst (λ f. IsAnswer types store f A q r) (sym is ∙ same) (subst (λ C. IsAnswer types store (Ok e) C q r) type (subst (λ n. IsAnswer types store (Ok e) B n r) place h))

pub numbers_are : (names xs : List Name) (numbers ns : List ℕ) → xs ≡ names → ns ≡ numbers → AreNumbers xs numbers → AreNumbers names ns
numbers_are names xs numbers ns e f h = subst (AreNumbers names) (sym f) (subst (λ ys. AreNumbers ys numbers) e h)

-- What is asked of the steps of a row, where the values are the row's
module _ (types : Table) (store : Contents) (row : Row) (found : Found) (m : Makes types store row found) (base : ℕ) (numbers : List ℕ) (b : base ≡ length row.variables.items) (ns : AreNumbers row.names.items numbers) where
  pub few : base + length numbers < 2 ^ 63
  few = omega (arith, b, ns.len, m.room, row.steps.ok.0, row.steps.ok.1, row.steps.small)

  pub typed_here : (steps : List Op) → steps ≡ row.steps.items → All (OpTyped types base (length numbers)) steps
  typed_here steps s =
      subst (All (OpTyped types base (length numbers))) (sym s)
      (subst (λ n. All (OpTyped types base n) row.steps.items) (sym ns.len) (subst (λ n. All (OpTyped types n (length row.names.items)) row.steps.items) (sym b) m.typed))

  pub fits_here : (steps : List Op) → steps ≡ row.steps.items → All (OpFits types store.cells) steps
  fits_here steps s = subst (All (OpFits types store.cells)) (sym s) m.fits

  pub within_here : (marks : List Mark) → marks ≡ row.marks.items → All (λ i. variable_of base (mark_of i) < base + length numbers) marks
  within_here marks e =
      subst (All (λ i. variable_of base (mark_of i) < base + length numbers)) (sym e)
      (subst (λ n. All (λ i. variable_of base (mark_of i) < base + n) row.marks.items) (sym ns.len)
      (subst (λ n. All (λ i. variable_of n (mark_of i) < n + length row.names.items) row.marks.items) (sym b) m.within))

  pub outcome_here : (P : Resolved → Type 0) (steps : List Op) (marks : List Mark) → steps ≡ row.steps.items → marks ≡ row.marks.items
      → ((names : List Name) (k : Sketch) → Runs (items_of types store.cells names steps) [] (k ∷ []) → Fit names [] 0 k → base ≡ count k → AreApart names → AreNumbers names numbers → marks_in marks ≡ marks_of k → P (erase k))
      → P (erase m.sketch)
  outcome_here P steps marks s e go =
      go row.names.items m.sketch (subst (λ os. Runs (items_of types store.cells row.names.items os) [] (m.sketch ∷ [])) (sym s) m.runs) m.fit (b ∙ m.count) m.apart ns (ap marks_in e ∙ m.marks)
