use Rattle.std.proofs.Common.{sym, ◌∙◌}
use Rattle.ab_cert.specs.Leads.{kids_meant}
use Rattle.ab_cert.proofs.Names.{led_within}
use Rattle.ab_cert.proofs.Tries.{mark_scan, other_scan}
use Rattle.ab_cert.proofs.scan.try_mark.Goals as goal

pub returns-then-is_next : goal.returns-then-is_next
returns-then-is_next c =
    let led = sym c.is_next.ensures ∙ c.if-is_next.true in
    mark_scan c.args.mark c.args.after.now c.requires.mark c.args.bytes.now c.args.start led (led_within c.args.bytes.now c.args.start c.args.mark led)

pub returns-else-is_next : goal.returns-else-is_next
returns-else-is_next c =
    other_scan c.args.mark c.args.after.now c.requires.mark c.args.bytes.now c.args.start c.try_name.result.to (kids_meant c.try_name.result.kids) (sym c.is_next.ensures ∙ c.if-is_next.false) c.try_name.ensures
