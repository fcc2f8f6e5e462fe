use Rattle.std.proofs.Common.{◌≤◌, ◌^◌, sym, ap, ◌∙◌, subst, arith}
use Rattle.ab_cert.specs.Grammar.{numbers, IsScan}
use Rattle.ab_cert.specs.Leads.{behind, kids_meant}
use Rattle.ab_cert.proofs.Tries.{count_kids, number_scan}
use Rattle.ab_cert.proofs.scan.try_number.Goals as goal
use Rattle.ab_cert.proofs.scan.try_number.Goals.{in-Value, in-Nothing}

pub returns : goal.returns
returns c =
    let after = behind c.args.after in
    let wide : c.args.limit ≤ 10 ^ 64 = omega (arith, c.requires.limit) in
    let t = number_scan c.args.limit after wide c.requires.some c.args.bytes.now c.args.start c.scan_number-to.result.0 c.scan_number-to.result.1 c.scan_number-to.ensures in
    elim c.match-count.branch [
      | in-Value w ↦ subst (λ k. IsScan (numbers c.args.limit after) c.args.bytes.now c.args.start c.scan_number-to.result.0 k) (ap (count_kids after) w.in-Value.is ∙ sym (ap kids_meant w.kids-is)) t
      | in-Nothing w ↦ subst (λ k. IsScan (numbers c.args.limit after) c.args.bytes.now c.args.start c.scan_number-to.result.0 k) (ap (count_kids after) w.in-Nothing.is ∙ sym (ap kids_meant w.kids-is)) t
    ]
