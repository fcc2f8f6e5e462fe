use Rattle.ab_store.proofs.Growing.{unbound_reads}
use Rattle.ab_logic.proofs.laws.worlds_read_as_trees.Goals as goal

pub returns : goal.returns
returns c w is t = unbound_reads w.store is.unbound w.types t
