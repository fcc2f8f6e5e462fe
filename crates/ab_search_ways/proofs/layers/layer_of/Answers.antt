use Rattle.std.proofs.Common.{subst}
use Rattle.ab_norm.specs.ab_types.specs.Entries.{signature}
use Rattle.ab_norm.specs.ab_store.specs.Trees.{tree_of}
use Rattle.ab_norm.specs.NodeGrowth.{AddsTypedTerms}
use Rattle.ab_norm.proofs.Frame.{typed_on}
use Rattle.ab_search_ways.proofs.LaterWorlds.{terms_grown, terms_told, later_by}
use Rattle.ab_search_ways.proofs.LayerMade.{list_typed}
use Rattle.ab_search_ways.proofs.layers.layer_of.Goals as goal

pub returns-in_err-opened-in-With-clause-grows : goal.returns-in_err-opened-in-With-clause-grows
returns-in_err-opened-in-With-clause-grows c = terms_grown c.args.world.now c.requires.world c.both_judged.new.store c.both_judged.ensures.adds

pub returns-in_err-opened-in-With-clause-declared : goal.returns-in_err-opened-in-With-clause-declared
returns-in_err-opened-in-With-clause-declared c = terms_told c.args.world.now c.requires.world c.both_judged.new.store c.both_judged.ensures.adds

pub returns-in_ok-opened-in-With-clause-grows : goal.returns-in_ok-opened-in-With-clause-grows
returns-in_ok-opened-in-With-clause-grows c = terms_grown c.args.world.now c.requires.world c.both_judged.new.store c.both_judged.ensures.adds

pub returns-in_ok-opened-in-With-clause-declared : goal.returns-in_ok-opened-in-With-clause-declared
returns-in_ok-opened-in-With-clause-declared c = terms_told c.args.world.now c.requires.world c.both_judged.new.store c.both_judged.ensures.adds

pub returns-in_err-list-in-Imply-clause-grows : goal.returns-in_err-list-in-Imply-clause-grows
returns-in_err-list-in-Imply-clause-grows c = (later_by c.args.world.now c.list_before.new.world c.requires.world c.list_before.ensures.types c.list_before.ensures.additions c.list_before.ensures.adds).0

pub returns-in_err-list-in-Imply-clause-declared : goal.returns-in_err-list-in-Imply-clause-declared
returns-in_err-list-in-Imply-clause-declared c = (later_by c.args.world.now c.list_before.new.world c.requires.world c.list_before.ensures.types c.list_before.ensures.additions c.list_before.ensures.adds).1

pub returns-in_err-opened-in-Imply-clause-grows : goal.returns-in_err-opened-in-Imply-clause-grows
returns-in_err-opened-in-Imply-clause-grows c =
    let w = c.args.world.now in
    let v = c.list_before.new.world in
    let S = c.unmarked_judgement.new.store in
    (later_by w (record { types = v.types; store = S; additions = v.additions }) c.requires.world c.list_before.ensures.types c.list_before.ensures.additions
    (typed_on w.types w.store v.store S c.list_before.ensures.adds (subst (λ t. AddsTypedTerms t v.store S) c.list_before.ensures.types c.unmarked_judgement.ensures.adds))).0

pub returns-in_err-opened-in-Imply-clause-declared : goal.returns-in_err-opened-in-Imply-clause-declared
returns-in_err-opened-in-Imply-clause-declared c =
    let w = c.args.world.now in
    let v = c.list_before.new.world in
    let S = c.unmarked_judgement.new.store in
    (later_by w (record { types = v.types; store = S; additions = v.additions }) c.requires.world c.list_before.ensures.types c.list_before.ensures.additions
    (typed_on w.types w.store v.store S c.list_before.ensures.adds (subst (λ t. AddsTypedTerms t v.store S) c.list_before.ensures.types c.unmarked_judgement.ensures.adds))).1

pub returns-in_ok-opened-in-Imply-clause-grows : goal.returns-in_ok-opened-in-Imply-clause-grows
returns-in_ok-opened-in-Imply-clause-grows c =
    let w = c.args.world.now in
    let v = c.list_before.new.world in
    let S = c.unmarked_judgement.new.store in
    (later_by w (record { types = v.types; store = S; additions = v.additions }) c.requires.world c.list_before.ensures.types c.list_before.ensures.additions
    (typed_on w.types w.store v.store S c.list_before.ensures.adds (subst (λ t. AddsTypedTerms t v.store S) c.list_before.ensures.types c.unmarked_judgement.ensures.adds))).0

pub returns-in_ok-opened-in-Imply-clause-declared : goal.returns-in_ok-opened-in-Imply-clause-declared
returns-in_ok-opened-in-Imply-clause-declared c =
    let w = c.args.world.now in
    let v = c.list_before.new.world in
    let S = c.unmarked_judgement.new.store in
    (later_by w (record { types = v.types; store = S; additions = v.additions }) c.requires.world c.list_before.ensures.types c.list_before.ensures.additions
    (typed_on w.types w.store v.store S c.list_before.ensures.adds (subst (λ t. AddsTypedTerms t v.store S) c.list_before.ensures.types c.unmarked_judgement.ensures.adds))).1

pub judged_under-requires-clause-list : goal.judged_under-requires-clause-list
judged_under-requires-clause-list c =
    let w = c.args.world.now in
    (c.in-Some.ensures.held.0, list_typed (signature w.types) (tree_of w.types w.store c.in-Some.list) (tree_of w.types w.store c.in-Some.goal) (tree_of w.types w.store c.args.formula) (c.in-Some.ensures.made w.types) c.requires.formula.1)

pub returns-in-Pi-clause-grows : goal.returns-in-Pi-clause-grows
returns-in-Pi-clause-grows c = terms_grown c.args.world.now c.requires.world c.judged_under.new.store c.judged_under.ensures.adds

pub returns-in-Pi-clause-declared : goal.returns-in-Pi-clause-declared
returns-in-Pi-clause-declared c = terms_told c.args.world.now c.requires.world c.judged_under.new.store c.judged_under.ensures.adds
