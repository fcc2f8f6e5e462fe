use Rattle.std.proofs.Common.{◌≡◌, ◌<◌, ◌+◌, length, [], ◌∷◌, ◌++◌, sym, ap, ◌∙◌, subst, arith}
use Rattle.std.proofs.Math.ListN.{length-append}
use Rattle.ab_cert.specs.Forms.{left_of}
use Rattle.ab_cert.proofs.Many.{ManySoFar, many_more}
use Rattle.ab_cert.proofs.readers.read_many.Goals as goal

pub members-preserved : goal.members-preserved
members-preserved g c =
    let items = c.in_ok-push.ensures.items in
    let old = left_of c.args.text.now in
    let less : length c.members.members.items < c.args.count = omega (arith, c.members-test.true, c.members.invariant.count) in
    record {
      count = omega (arith, ap length items, length-append c.members.members.items (c.in_ok-read.field-0 ∷ []), c.members.invariant.count);
      far = subst (λ q. ManySoFar g.T.Spelled.form c.args.count old q (left_of c.read.new.text)) (sym items)
          (many_more g.T.Spelled.form c.args.count old c.members.members.items c.in_ok-read.field-0 (left_of c.members.text) (left_of c.read.new.text) less c.in_ok-read.ensures c.members.invariant.far);
    }
