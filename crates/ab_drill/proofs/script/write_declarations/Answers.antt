use Rattle.ab_drill.proofs.Rows.{third_appended}
use Rattle.ab_drill.proofs.script.write_declarations.Goals as goal

pub returns : goal.returns
returns c = third_appended c.extend_from_slice-3.result _ _ _ _ _ _ _ c.in_ok-extend_from_slice.ensures.items c.in_ok-extend_from_slice-2.ensures.items c.extend_from_slice-3.ensures.items
