use Rattle.ab_store.proofs.Cells.{cells_are}
use Rattle.ab_store.proofs.Putting.{reads_as_image, resolved_reads}
use Rattle.ab_store.proofs.laws.readings_are_images.Goals as goal

pub returns-clause-image : goal.returns-clause-image
returns-clause-image c = λ types store typed order G t A d. reads_as_image types store typed order G t A d.1

pub returns-clause-resolved : goal.returns-clause-resolved
returns-clause-resolved c = resolved_reads

pub returns-clause-cells : goal.returns-clause-cells
returns-clause-cells c = cells_are
