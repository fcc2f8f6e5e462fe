use Rattle.std.proofs.Common.{sym, ◌∙◌, arith}
use Rattle.ab_cert.proofs.Names.{scan_more}
use Rattle.ab_cert.proofs.scans.scan_name.Goals as goal

pub name-preserved : goal.name-preserved
name-preserved c =
    let i = c.name.invariant in
    record {
      onward = omega (arith, i.onward);
      within = omega (arith, c.name-test.true);
      came = scan_more c.args.bytes.now c.args.start c.name.at c.name.shape c.in-Some.next i.onward c.name-test.true i.came (sym c.next.ensures ∙ c.in-Some.is);
    }
