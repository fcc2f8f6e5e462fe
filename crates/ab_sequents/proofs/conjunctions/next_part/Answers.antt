use Rattle.std.specs.Prelude.{unwrap_or}
use Rattle.std.proofs.Common.{sym, ap}
use Rattle.std.proofs.lemmas.List.{drop-drop}
use Rattle.std.proofs.lemmas.Option.{slice_get_past}
use Rattle.ab_sequents.proofs.conjunctions.next_part.Goals as goal

pub returns-then-here-parts-clause-behind : goal.returns-then-here-parts-clause-behind
returns-then-here-parts-clause-behind c = sym (drop-drop 1 c.args.place.now c.args.parts.now)

pub returns-else-here-parts-clause-part : goal.returns-else-here-parts-clause-part
returns-else-here-parts-clause-part c = sym (ap (λ o. unwrap_or o c.args.given) (slice_get_past c.args.parts.now c.args.place.now c.if-here-parts.false))
