use Rattle.ab_store.proofs.Growing.{unbound_reads, unbound_given, unbound_resolved}
use Rattle.ab_store.proofs.laws.unbound_stores_read_as_trees.Goals as goal

pub returns-clause-readings : goal.returns-clause-readings
returns-clause-readings c = unbound_reads

pub returns-clause-given : goal.returns-clause-given
returns-clause-given c = unbound_given

pub returns-clause-resolved : goal.returns-clause-resolved
returns-clause-resolved c = unbound_resolved
