use Rattle.ab_search_paths.specs.Paths.{IsTermIn}
use Rattle.ab_search_paths.proofs.Parts.{pushed}
use Rattle.ab_search_paths.proofs.terms_of_rules.terms_given.Goals as goal

pub loop-place-preserved : goal.loop-place-preserved
loop-place-preserved c = λ w h. pushed (IsTermIn w) c.loop-place.terms.items c.push.new.self.items c.in-Some-term_for.term c.in_ok-push.ensures.items (c.loop-place.invariant w h) (c.in-Some-term_for.ensures w h)
