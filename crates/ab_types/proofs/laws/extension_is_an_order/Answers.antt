use Rattle.std.proofs.Common.{drop, sym}
use Rattle.std.proofs.lemmas.List.{take-append-drop}
use Rattle.ab_types.proofs.Entries.{extended_by_itself, extended_twice}
use Rattle.ab_types.proofs.laws.extension_is_an_order.Goals as goal

pub returns-clause-reflexive : goal.returns-clause-reflexive
returns-clause-reflexive c = extended_by_itself

pub returns-clause-transitive : goal.returns-clause-transitive
returns-clause-transitive c = extended_twice

pub returns-clause-front : goal.returns-clause-front
returns-clause-front c = λ len table. (drop len table, sym (take-append-drop len table))
