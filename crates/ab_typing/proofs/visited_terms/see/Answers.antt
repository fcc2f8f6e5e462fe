use Rattle.ab_typing.proofs.Sets.{term_cmp, one_term, gains_only}
use Rattle.ab_typing.proofs.visited_terms.see.Goals as goal

pub returns : goal.returns
returns c = gains_only term_cmp one_term c.args.seen.now.keys c.insert.new.self.keys c.args.id c.in_ok-insert.ensures.keys
