use Rattle.ab_typing.proofs.Sets.{term_cmp, one_term, is_in}
use Rattle.ab_typing.proofs.visited_terms.is_seen.Goals as goal

pub returns : goal.returns
returns c = is_in term_cmp one_term c.args.seen.now.keys c.args.id c.contains.result c.contains.ensures
