-- The given equations, each with its number.
use Rattle.std.proofs.Common.{◌≡◌, ℕ, ◌+◌, List, [], ◌∷◌, ◌++◌, map, length, refl, ap, arith}
use Rattle.std.specs.Prelude.{All}
use Rattle.std.proofs.lemmas.List.Elements.{All-nil, All-cons, All-head, All-tail}
use Rattle.ab_norm.specs.ab_types.specs.Entries.{Table}
use Rattle.ab_norm.specs.ab_store.specs.declared.node.Equation.{Equation}
use Rattle.ab_norm.specs.ab_store.specs.Trees.{Contents}
use Rattle.ab_unify.specs.Problem.{equations_from}
use Rattle.ab_unify.specs.Outcome.{equation_read, IsTypedEquation}
use Rattle.ab_unify.specs.UnifyAnswers.{IsTypedPair}
use Rattle.ab_unify.specs.States.{numbered_from}

pub one_more_numbered : (k : ℕ) (es : List Equation) (e : Equation) (n : ℕ) → n ≡ k + length es → numbered_from k (es ++ e ∷ []) ≡ numbered_from k es ++ record { place = n; left = e.left; right = e.right } ∷ []
one_more_numbered k [] e n is = ap (λ (m : ℕ). record { place = m; left = e.left; right = e.right } ∷ []) (let same : k ≡ n = omega (arith, is) in same)
one_more_numbered k (f ∷ es) e n is = ap (λ l. record { place = k; left = f.left; right = f.right } ∷ l) (one_more_numbered (k + 1) es e n (omega (arith, is)))

pub numbered_read : (types : Table) (store : Contents) (k : ℕ) (es : List Equation) → map (equation_read types store) (numbered_from k es) ≡ equations_from types store k es
numbered_read types store k [] = refl
numbered_read types store k (e ∷ es) = ap (λ l. equation_read types store (record { place = k; left = e.left; right = e.right }) ∷ l) (numbered_read types store (k + 1) es)

pub numbered_typed : (types : Table) (store : Contents) (k : ℕ) (es : List Equation) → All (IsTypedPair types store) es → All (IsTypedEquation types store) (numbered_from k es)
numbered_typed types store k [] all = All-nil (IsTypedEquation types store)
numbered_typed types store k (e ∷ es) all =
    All-cons (IsTypedEquation types store) (record { place = k; left = e.left; right = e.right }) (numbered_from (k + 1) es)
    (All-head (IsTypedPair types store) e es all)
    (numbered_typed types store (k + 1) es (All-tail (IsTypedPair types store) e es all))
