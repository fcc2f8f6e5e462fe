use Rattle.std.proofs.Common.{◌∙◌}
use Rattle.ab_norm.proofs.Frame.{if_ok, typed_on}
use Rattle.ab_judgement_forms.proofs.ListsWithin.{made_within}
use Rattle.ab_judgement_forms.proofs.wider_lists.within_by.Goals as goal

pub returns-in_err-larger-clause-adds : goal.returns-in_err-larger-clause-adds
returns-in_err-larger-clause-adds c = typed_on c.args.types.now c.args.store.now c.under_binder.new.store c.under_binder-2.new.store c.in_ok-smaller.ensures.adds c.in_err-larger.ensures.adds

pub returns-in_err-item-clause-adds : goal.returns-in_err-item-clause-adds
returns-in_err-item-clause-adds c =
    let T = c.args.types.now in
    let S = c.args.store.now in
    let two = typed_on T S c.under_binder.new.store c.under_binder-2.new.store c.in_ok-smaller.ensures.adds c.in_ok-larger.ensures.adds in
    typed_on T S c.under_binder-2.new.store c.first_name.new.store two c.in_err-item.ensures.adds

pub returns-in_err-body-clause-adds : goal.returns-in_err-body-clause-adds
returns-in_err-body-clause-adds c =
    let T = c.args.types.now in
    let S = c.args.store.now in
    let two = typed_on T S c.under_binder.new.store c.under_binder-2.new.store c.in_ok-smaller.ensures.adds c.in_ok-larger.ensures.adds in
    let three = typed_on T S c.under_binder-2.new.store c.first_name.new.store two c.in_ok-item.ensures.adds in
    typed_on T S c.first_name.new.store c.stays_within.new.store three c.in_err-body.ensures.adds

pub returns-clause-tree : goal.returns-clause-tree
returns-clause-tree c =
    let T = c.args.types.now in
    let S = c.args.store.now in
    let one = c.in_ok-smaller.ensures in
    let two = c.in_ok-larger.ensures in
    let three = c.in_ok-item.ensures in
    let list = c.in_ok-smaller.smaller in
    let wider = c.in_ok-larger.larger in
    if_ok c.each_item.result (λ r made.
    made_within T S c.under_binder.new.store c.under_binder-2.new.store c.first_name.new.store c.stays_within.new.store c.each_item.new.store c.args.list c.args.other list wider c.in_ok-item.item c.in_ok-body.body r
    one.tree (one.adds.before.trees T c.args.other c.requires.other) two.tree
    (three.adds.before.trees T list (two.adds.before.ids list one.held) ∙ two.adds.before.trees T list one.held) (three.adds.before.trees T wider two.held) three.tree c.in_ok-body.ensures.tree made) c.each_item.ensures.tree

pub returns-clause-adds : goal.returns-clause-adds
returns-clause-adds c =
    let T = c.args.types.now in
    let S = c.args.store.now in
    let two = typed_on T S c.under_binder.new.store c.under_binder-2.new.store c.in_ok-smaller.ensures.adds c.in_ok-larger.ensures.adds in
    let three = typed_on T S c.under_binder-2.new.store c.first_name.new.store two c.in_ok-item.ensures.adds in
    let four = typed_on T S c.first_name.new.store c.stays_within.new.store three c.in_ok-body.ensures.adds in
    typed_on T S c.stays_within.new.store c.each_item.new.store four c.each_item.ensures.adds
