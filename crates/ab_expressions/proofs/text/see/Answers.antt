use Rattle.ab_expressions.proofs.Seeing.{spelled, short, quoted}
use Rattle.ab_expressions.proofs.text.see.Goals as goal

pub invariant_of-result : goal.invariant_of-result
invariant_of-result c = record {
  spelled = spelled c.args.bytes.now c.args.origin c.args.token c.requires c.kind_of.result c.kind_of.ensures;
  short = short c.args.bytes.now c.args.origin c.args.token c.requires c.kind_of.result c.kind_of.ensures;
  quoted = quoted c.args.bytes.now c.args.origin c.args.token c.requires c.kind_of.result c.kind_of.ensures;
}
