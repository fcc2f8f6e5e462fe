use Rattle.std.specs.List.{All}
use Rattle.std.proofs.Common.{sym, subst}
use Rattle.ab_norm.specs.ab_store.specs.Trees.{Holds}
use Rattle.ab_norm.proofs.Frame.{typed_on, adds_but_types}
use Rattle.ab_search_paths.proofs.part_names.closed_names_of.Goals as goal

pub put_under_all-requires-clause-list : goal.put_under_all-requires-clause-list
put_under_all-requires-clause-list g c =
    let S1 = c.forms_of.new.store in
    subst (All (Holds S1)) (sym c.deref-3.ensures.value) (adds_but_types c.args.types.now c.args.store.now S1 c.in_ok-forms.ensures.adds c.args.part.now.goals.items c.requires.part.goals).0

pub returns-in_err-goals-clause-adds : goal.returns-in_err-goals-clause-adds
returns-in_err-goals-clause-adds g c = typed_on c.args.types.now c.args.store.now c.forms_of.new.store c.put_under_all.new.store c.in_ok-forms.ensures.adds c.put_under_all.ensures.adds

pub put_under-requires-clause-terms : goal.put_under-requires-clause-terms
put_under-requires-clause-terms g c =
    let S2 = c.put_under_all.new.store in
    subst (All (Holds S2)) (sym c.deref-4.ensures.value) (adds_but_types c.args.types.now c.forms_of.new.store S2 c.put_under_all.ensures.adds c.in_ok-forms.forms.items c.in_ok-forms.ensures.held).0

pub returns-in_err-atom-clause-adds : goal.returns-in_err-atom-clause-adds
returns-in_err-atom-clause-adds g c =
    let T = c.args.types.now in
    let S = c.args.store.now in
    let S2 = c.put_under_all.new.store in
    typed_on T S S2 c.put_under.new.store (typed_on T S c.forms_of.new.store S2 c.in_ok-forms.ensures.adds c.put_under_all.ensures.adds) c.put_under.ensures.adds

pub in_second_alone-requires-clause-second : goal.in_second_alone-requires-clause-second
in_second_alone-requires-clause-second g c =
    let S3 = c.put_under.new.store in
    subst (All (Holds S3)) (sym c.deref-6.ensures.value) (adds_but_types c.args.types.now c.put_under_all.new.store S3 c.put_under.ensures.adds c.in_ok-goals.goals.items c.in_ok-goals.ensures.held).0

pub returns-clause-adds : goal.returns-clause-adds
returns-clause-adds g c =
    let T = c.args.types.now in
    let S = c.args.store.now in
    let S2 = c.put_under_all.new.store in
    typed_on T S S2 c.put_under.new.store (typed_on T S c.forms_of.new.store S2 c.in_ok-forms.ensures.adds c.put_under_all.ensures.adds) c.put_under.ensures.adds
