use Rattle.ab_inference.proofs.Joining.{shortened_same}
use Rattle.ab_inference.proofs.links.shorten.Goals as goal

pub returns-in-Link-clause-same : goal.returns-in-Link-clause-same
returns-in-Link-clause-same c = shortened_same c.args.shapes.now c.args.here c.args.next c.in-Link.after c.requires.formed c.requires.here_in c.requires.links c.in-Link.is
