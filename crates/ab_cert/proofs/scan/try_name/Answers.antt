use Rattle.std.proofs.Common.{Some, None, sym, ap, ◌∙◌, subst}
use Rattle.std.specs.Prelude.{if◌then◌else◌}
use Rattle.ab_cert.specs.Grammar.{names, IsScan}
use Rattle.ab_cert.specs.Leads.{kids_meant}
use Rattle.ab_cert.proofs.Tries.{name_scan}
use Rattle.ab_cert.proofs.scan.try_name.Goals as goal
use Rattle.ab_cert.proofs.scan.try_name.Goals.{then-ends, else-ends}

pub returns : goal.returns
returns c =
    let after = c.args.after.now in
    let t = name_scan after c.args.bytes.now c.args.start c.scan_name-to.result.0 c.scan_name-to.result.1 c.scan_name-to.ensures in
    elim c.if-ends.branch [
      | then-ends w ↦ subst (λ k. IsScan (names after) c.args.bytes.now c.args.start c.scan_name-to.result.0 k) (ap (λ b. if b then Some after else None) (sym c.ends.ensures ∙ w.if-ends.true) ∙ sym (ap kids_meant w.kids-is)) t
      | else-ends w ↦ subst (λ k. IsScan (names after) c.args.bytes.now c.args.start c.scan_name-to.result.0 k) (ap (λ b. if b then Some after else None) (sym c.ends.ensures ∙ w.if-ends.false) ∙ sym (ap kids_meant w.kids-is)) t
    ]
