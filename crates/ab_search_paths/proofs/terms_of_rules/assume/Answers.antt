use Rattle.ab_search_paths.specs.Paths.{HoldsEntry}
use Rattle.ab_search_paths.proofs.Parts.{at_place}
use Rattle.ab_search_paths.proofs.terms_of_rules.assume.Goals as goal

pub returns : goal.returns
returns c = λ w h.
    let l = c.in-Some.ensures.lookup in
    record {
      formula = (at_place (HoldsEntry w) c.args.behind.now c.args.ways c.in-Some.entry.now l.3.0 l.1 h.behind).conclusion;
      names = c.in_ok-names.ensures w h;
    }
