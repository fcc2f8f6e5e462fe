use Rattle.ab_store.proofs.Marking.{typed_at_mark}
use Rattle.ab_store.proofs.laws.marked_stores_stay_typed.Goals as goal

pub returns-clause-typed : goal.returns-clause-typed
returns-clause-typed c = λ types store m has typed. typed_at_mark store m has types typed
