-- The answers to an expression in a scope, at a type: exactly one of these holds, and want of memory alone is free. What the
-- names stand for comes first; `place` is where the expression begins.
use Rattle.std.specs.Prelude.{◌≡◌, ℕ, Result, Ok, Err}
use Rattle.ab_term.specs.Types.{Ty}
use Rattle.ab_norm.specs.ab_types.specs.Entries.{Table}
use Rattle.ab_norm.specs.ab_store.specs.declared.node.TermId.{TermId}
use Rattle.ab_norm.specs.ab_store.specs.Trees.{Contents}
use Rattle.ab_meaning.specs.ResolvedNames.{Resolved}
use Rattle.ab_meaning.specs.Scopes.{Found}
use Rattle.ab_meaning.specs.ReadingCounts.{HasNoReading, IsFirstOpen}
use Rattle.ab_inference.specs.declared.fault.InferFault.{InferFault}
use Rattle.ab_inference.specs.declared.fault.InferFault.TheVariants.{Unknown, TypeClash, Untyped, Memory}
use Rattle.ab_infer.specs.Outcomes.{nominal_of, IsNormal}

-- the names stand for something, and the fact holds of the expression
abbrev pub Resolves : Found → (Resolved → Type 0) → Type 0
Resolves found P = (e : Resolved) × (found ≡ Ok e) × P e

abbrev pub IsAnswer : Table → Contents → Found → Ty → ℕ → Result TermId InferFault → Type 0
IsAnswer types store found A place (Ok t) = Resolves found (λ e. IsNormal types store e A t)
IsAnswer types store found A place (Err (Unknown x)) = found ≡ Err x
IsAnswer types store found A place (Err (TypeClash p)) = Resolves found (λ e. HasNoReading nominal_of e A × (p ≡ place))
IsAnswer types store found A place (Err (Untyped p)) = Resolves found (λ e. IsFirstOpen nominal_of e A p)
IsAnswer types store found A place (Err (Memory m)) = Unit {0}
