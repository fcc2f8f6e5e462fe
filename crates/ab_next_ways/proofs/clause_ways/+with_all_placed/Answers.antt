use Rattle.std.proofs.Common.{length, take, drop, ◌-◌, sym, ◌∙◌, ap, subst}
use Rattle.std.specs.List.{All}
use Rattle.ab_norm.specs.ab_types.specs.Entries.{Table}
use Rattle.ab_norm.specs.Nominals.{HoldsNominal}
use Rattle.ab_norm.proofs.Frame.{if_ok}
use Rattle.ab_judgements.specs.ab_alternatives.specs.ab_instances.specs.ListReadings.{names_read}
use Rattle.ab_search_trees.specs.Ways.{with_constants}
use Rattle.ab_next_ways.proofs.ClauseChoice.{names_parted, held_parted}
use Rattle.ab_next_ways.proofs.clause_ways.+with_all_placed.Goals as goal

pub returns-in_ok-more-in-len1-up-clause-reads : goal.returns-in_ok-more-in-len1-up-clause-reads
returns-in_ok-more-in-len1-up-clause-reads t c =
    let fresh = c.args.fresh.now in
    if_ok c.with_all_placed.result (λ list made (types : Table).
    made types
    ∙ ap (with_constants (names_read types (take (length fresh - 1) (drop 1 fresh)))) (ap (names_read types) c.deref.ensures.value ∙ c.in_ok-more-in-len1-up.ensures.reads types)
    ∙ ap (λ l. with_constants l (names_read types c.args.names.now)) (sym (names_parted types fresh (record { number = 0; ty = record { 0 = 0 } }) c.in-len1-up.len_at_least))) c.with_all_placed.ensures.reads

pub returns-in_ok-more-in-len1-up-clause-held : goal.returns-in_ok-more-in-len1-up-clause-held
returns-in_ok-more-in-len1-up-clause-held t c =
    let fresh = c.args.fresh.now in
    if_ok c.with_all_placed.result (λ list made (types : Table) all new.
    let parts = held_parted types fresh (record { number = 0; ty = record { 0 = 0 } }) c.in-len1-up.len_at_least new in
    made types (subst (All (HoldsNominal types)) (sym c.deref.ensures.value) (c.in_ok-more-in-len1-up.ensures.held types all parts.0)) parts.1) c.with_all_placed.ensures.held
