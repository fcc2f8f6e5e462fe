use Rattle.std.specs.List.{All}
use Rattle.std.proofs.Common.{sym, subst}
use Rattle.ab_search_paths.specs.Paths.{IsTermIn}
use Rattle.ab_search_paths.proofs.Parts.{at_place}
use Rattle.ab_search_paths.proofs.terms_of_rules.value_at.Goals as goal

pub returns-in-Some : goal.returns-in-Some
returns-in-Some c = λ w all.
    let l = c.in-Some.ensures.lookup in
    at_place (IsTermIn w) c.as_slice.result.now c.args.place c.in-Some.term.now l.3.0 l.1 (subst (All (IsTermIn w)) (sym c.as_slice.ensures.value) all)
