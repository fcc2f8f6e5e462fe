use Rattle.std.proofs.Common.{sym, ◌∙◌, ap, subst}
use Rattle.std.specs.List.{All}
use Rattle.ab_norm.specs.Nominals.{pairs_of, HoldsNominal, HoldsPairs}
use Rattle.ab_instances.specs.ListReadings.{names_read}
use Rattle.ab_search_ways.proofs.Moving.{pairs_held, ext_held, made_of, permutes_so, does_so}
use Rattle.ab_search_ways.proofs.permutations.permutation_of.Goals as goal

pub returns-clause-held : goal.returns-clause-held
returns-clause-held c =
    let types = c.args.types.now in
    let ext = c.extend_from_slice.new.self.items in
    subst (HoldsPairs types) (sym c.from_vec.ensures)
    (pairs_held types c.in_ok-pairs.pairs.items
    (subst (All (HoldsNominal types)) (sym (c.in_ok-pairs.ensures.from ∙ c.deref-3.ensures.value))
    (ext_held types c.args.names.now c.args.targets.now c.in_ok-others.others.items c.deref.result.now c.in_ok-all.all.items ext c.in_ok-extend_from_slice.ensures.items c.in_ok-all.ensures.items c.deref.ensures.value c.requires.names c.in_ok-others.ensures.held))
    (subst (All (HoldsNominal types)) (sym (c.in_ok-pairs.ensures.to ∙ c.deref-4.ensures.value)) c.in_ok-now.ensures.held))

pub returns-clause-table : goal.returns-clause-table
returns-clause-table c =
    let types = c.args.types.now in
    let names = c.args.names.now in
    let targets = c.args.targets.now in
    permutes_so (names_read types names) (names_read types targets) c.requires.types c.requires.once c.requires.different (pairs_of types c.from_vec.result)
    (ap (pairs_of types) c.from_vec.ensures
    ∙ made_of types names targets c.in_ok-others.others.items c.deref.result.now c.in_ok-all.all.items c.extend_from_slice.new.self.items c.in_ok-extend_from_slice.ensures.items c.in_ok-all.ensures.items c.deref.ensures.value
    c.in_ok-now.now.items c.deref-2.result.now c.deref-3.result.now c.deref-4.result.now c.in_ok-pairs.pairs.items c.in_ok-others.ensures.list c.deref-2.ensures.value c.in_ok-now.ensures.list c.deref-3.ensures.value c.deref-4.ensures.value
    c.in_ok-pairs.ensures.from c.in_ok-pairs.ensures.to)

pub returns-clause-does : goal.returns-clause-does
returns-clause-does c =
    let types = c.args.types.now in
    let names = c.args.names.now in
    let targets = c.args.targets.now in
    does_so (names_read types names) (names_read types targets) c.requires.types c.requires.once c.requires.different (pairs_of types c.from_vec.result)
    (ap (pairs_of types) c.from_vec.ensures
    ∙ made_of types names targets c.in_ok-others.others.items c.deref.result.now c.in_ok-all.all.items c.extend_from_slice.new.self.items c.in_ok-extend_from_slice.ensures.items c.in_ok-all.ensures.items c.deref.ensures.value
    c.in_ok-now.now.items c.deref-2.result.now c.deref-3.result.now c.deref-4.result.now c.in_ok-pairs.pairs.items c.in_ok-others.ensures.list c.deref-2.ensures.value c.in_ok-now.ensures.list c.deref-3.ensures.value c.deref-4.ensures.value
    c.in_ok-pairs.ensures.from c.in_ok-pairs.ensures.to)
