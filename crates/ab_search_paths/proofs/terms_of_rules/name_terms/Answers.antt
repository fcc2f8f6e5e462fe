use Rattle.ab_search_paths.specs.Parts.{HoldsNameTerm}
use Rattle.ab_search_paths.proofs.Parts.{pushed}
use Rattle.ab_search_paths.proofs.terms_of_rules.name_terms.Goals as goal

pub loop-one-preserved : goal.loop-one-preserved
loop-one-preserved c = λ w h. pushed (HoldsNameTerm w) c.loop-one.names.items c.push.new.self.items c.in-Some.found c.in_ok-push.ensures.items (c.loop-one.invariant w h) (c.in-Some.ensures w h)
