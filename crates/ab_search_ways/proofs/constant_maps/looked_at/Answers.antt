use Rattle.std.proofs.Common.{sym, ap, ◌∙◌}
use Rattle.std.proofs.lemmas.Bool.{false≢true}
use Rattle.ab_norm.proofs.Frame.{if_ok}
use Rattle.ab_instances.specs.ListReadings.{names_read}
use Rattle.ab_search_ways.proofs.Listing.{same_names}
use Rattle.ab_search_ways.proofs.constant_maps.looked_at.Goals as goal

pub returns-then-are_same_lists-clause-looked : goal.returns-then-are_same_lists-clause-looked
returns-then-are_same_lists-clause-looked c = if_ok c.first_images.result (λ o first. record {
  first = λ e. first;
  next = λ n. absurd (n (ap (names_read c.args.types.now) (c.are_same_lists.ensures.0 c.if-are_same_lists.true)));
}) c.first_images.ensures.first

pub returns-else-are_same_lists-clause-looked : goal.returns-else-are_same_lists-clause-looked
returns-else-are_same_lists-clause-looked c = if_ok c.next_images.result (λ o next. record {
  first = λ e. absurd (false≢true (sym c.if-are_same_lists.false ∙ c.are_same_lists.ensures.1 (same_names c.args.types.now c.requires.table c.args.now.now c.args.names.now c.requires.now c.requires.names e)));
  next = λ n. next;
}) c.next_images.ensures.next
