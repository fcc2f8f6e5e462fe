-- The answers to a written clause at a type: exactly one of these holds, and want of memory alone is free.
use Rattle.std.specs.Prelude.{ℕ, Result, Ok, Err}
use Rattle.ab_term.specs.Types.{Ty}
use Rattle.ab_norm.specs.ab_types.specs.Entries.{Table, kinds, signature}
use Rattle.ab_norm.specs.ab_store.specs.Trees.{Contents}
use Rattle.ab_grammar.specs.CommandTrees as written
use Rattle.ab_typing.specs.declared.definitions.ClauseTerm.{ClauseTerm}
use Rattle.ab_typing.specs.DefinitionReadings.{clause_of}
use Rattle.ab_inference.specs.declared.fault.InferFault.{InferFault}
use Rattle.ab_declare.specs.ClauseMeanings.{Finds, body_type, IsKeptAs, ClauseMeansNothing}

-- a clause is kept with new cells, numbered from n on, for its variables
abbrev pub IsClauseAnswer : Table → Table → Contents → ℕ → written.Clause → Ty → Result ClauseTerm InferFault → Type 0
IsClauseAnswer old new store n c A (Ok k) = Finds (kinds old) (signature old) c (λ e. IsKeptAs (signature old) n e A (body_type A c.body) (clause_of new store k))
IsClauseAnswer old new store n c A (Err f) = ClauseMeansNothing (kinds old) (signature old) c A f
