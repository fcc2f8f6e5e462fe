use Rattle.std.proofs.Common.{sym, ◌∙◌, arith}
use Rattle.ab_cert.proofs.Counts.{count_more}
use Rattle.ab_cert.proofs.scans.scan_number.Goals as goal

pub number-preserved : goal.number-preserved
number-preserved c =
    let i = c.number.invariant in
    record {
      onward = omega (arith, i.onward);
      within = omega (arith, c.number-test.true);
      came = count_more c.args.limit c.args.bytes.now c.args.start c.number.at c.number.count c.in-Some.next i.onward c.number-test.true i.came (sym c.next.ensures.next ∙ c.in-Some.is);
      below = c.in-Some.ensures.below;
    }
