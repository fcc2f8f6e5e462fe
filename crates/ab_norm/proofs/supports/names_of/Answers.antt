use Rattle.std.proofs.Common.{◌∙◌, subst, sym}
use Rattle.std.specs.List.{All}
use Rattle.std.proofs.lemmas.List.Elements.{All-nil}
use Rattle.ab_term.specs.Names.{support}
use Rattle.ab_store.specs.Reading.{tree_of}
use Rattle.ab_norm.specs.Nominals.{HoldsNominal}
use Rattle.ab_norm.proofs.Frame.{if_ok}
use Rattle.ab_norm.proofs.Gathered.{named, ordered, different, as_support}
use Rattle.ab_norm.proofs.supports.names_of.Goals as goal

pub gather-requires-clause-seen : goal.gather-requires-clause-seen
gather-requires-clause-seen c = λ types t e. absurd (cc (sym (c.new-seen.ensures t) ∙ e))

pub returns-clause-reads : goal.returns-clause-reads
returns-clause-reads c =
    let types = c.args.types.now in
    let tree = tree_of types c.args.store.now c.args.id in
    let held : All (HoldsNominal types) c.gather.new.found.keys = c.in_ok-gather.ensures.held types c.requires.store (subst (All (HoldsNominal types)) (sym c.new-found.ensures.empty) (All-nil (HoldsNominal types))) in
    if_ok c.list_constants.result (λ list same.
    as_support types list.items tree
    (named types c.gather.new.found.keys list.items (support tree) same c.new-found.result.keys c.new-found.ensures.empty (c.in_ok-gather.ensures.gathers types))
    (different types c.gather.new.found.keys list.items (support tree) same c.requires.types c.len-count.ensures.ordered held)
    (ordered types c.gather.new.found.keys list.items (support tree) same c.len-count.ensures.ordered)) c.list_constants.ensures

pub returns-clause-held : goal.returns-clause-held
returns-clause-held c =
    let held : All (HoldsNominal c.args.types.now) c.gather.new.found.keys = c.in_ok-gather.ensures.held c.args.types.now c.requires.store (subst (All (HoldsNominal c.args.types.now)) (sym c.new-found.ensures.empty) (All-nil (HoldsNominal c.args.types.now))) in
    if_ok c.list_constants.result (λ list same. subst (All (HoldsNominal c.args.types.now)) (sym same) held) c.list_constants.ensures
