-- What is known of an outcome of unification, at each of its answers.
use Rattle.std.proofs.Common.{◌≡◌, ℕ, List, Result, Ok, IfOk, subst}
use Rattle.ab_norm.specs.ab_store.specs.declared.node.CellId.{CellId}
use Rattle.ab_unify.specs.declared.answers.Solved.{Solved}
use Rattle.ab_unify.specs.declared.answers.Solved.TheVariants.{Unified, Apart, Stuck}
use Rattle.ab_unify.specs.UnifyAnswers.{IfUnified, UnlessUnified}

module _ {E : Type 0} where
  pub at_ok : (r : Result Solved E) (s : Solved) (P : Solved → Type 0) → r ≡ Ok s → IfOk r P → P s
  at_ok r s P e p = subst (λ q. IfOk q P) e p

  pub at_unified : (r : Result Solved E) (made : List CellId) (P : List CellId → Type 0) → r ≡ Ok (Unified made) → IfUnified r P → P made
  at_unified r made P e p = subst (λ q. IfUnified q P) e p

  pub at_apart : (r : Result Solved E) (P : Type 0) → r ≡ Ok Apart → UnlessUnified r P → P
  at_apart r P e p = subst (λ q. UnlessUnified q P) e p

  pub at_stuck : (r : Result Solved E) (place : ℕ) (P : Type 0) → r ≡ Ok (Stuck place) → UnlessUnified r P → P
  at_stuck r place P e p = subst (λ q. UnlessUnified q P) e p
