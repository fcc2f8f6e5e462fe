use Rattle.std.proofs.Common.{◌∙◌}
use Rattle.ab_norm.proofs.Frame.{if_ok, typed_on}
use Rattle.ab_logic.specs.Forms.{sign_of}
use Rattle.ab_judgement_forms.proofs.ItemsInFocus.{made_some}
use Rattle.ab_judgement_forms.proofs.list_items.some_item_by.Goals as goal

pub returns-in_err-goal-clause-adds : goal.returns-in_err-goal-clause-adds
returns-in_err-goal-clause-adds c = typed_on c.args.types.now c.args.store.now c.under_binder.new.store c.under_binder-2.new.store c.in_ok-outer.ensures.adds c.in_err-goal.ensures.adds

pub returns-in_err-item-clause-adds : goal.returns-in_err-item-clause-adds
returns-in_err-item-clause-adds c =
    let T = c.args.types.now in
    let S = c.args.store.now in
    let two = typed_on T S c.under_binder.new.store c.under_binder-2.new.store c.in_ok-outer.ensures.adds c.in_ok-goal.ensures.adds in
    typed_on T S c.under_binder-2.new.store c.first_name.new.store two c.in_err-item.ensures.adds

pub returns-in_err-body-clause-adds : goal.returns-in_err-body-clause-adds
returns-in_err-body-clause-adds c =
    let T = c.args.types.now in
    let S = c.args.store.now in
    let two = typed_on T S c.under_binder.new.store c.under_binder-2.new.store c.in_ok-outer.ensures.adds c.in_ok-goal.ensures.adds in
    let three = typed_on T S c.under_binder-2.new.store c.first_name.new.store two c.in_ok-item.ensures.adds in
    typed_on T S c.first_name.new.store c.focused_item.new.store three c.in_err-body.ensures.adds

pub returns-clause-tree : goal.returns-clause-tree
returns-clause-tree c =
    let T = c.args.types.now in
    let S = c.args.store.now in
    let one = c.in_ok-outer.ensures in
    let two = c.in_ok-goal.ensures in
    let three = c.in_ok-item.ensures in
    let list = c.in_ok-outer.outer in
    let atom = c.in_ok-goal.goal in
    if_ok c.exists_item.result (λ r made.
    made_some T (sign_of c.args.sign) S c.under_binder.new.store c.under_binder-2.new.store c.first_name.new.store c.focused_item.new.store c.exists_item.new.store c.args.list c.args.atom list atom c.in_ok-item.item c.in_ok-body.body r
    one.tree (one.adds.before.trees T c.args.atom c.requires.atom) two.tree
    (three.adds.before.trees T list (two.adds.before.ids list one.held) ∙ two.adds.before.trees T list one.held) (three.adds.before.trees T atom two.held) three.tree c.in_ok-body.ensures.tree made) c.exists_item.ensures.tree

pub returns-clause-adds : goal.returns-clause-adds
returns-clause-adds c =
    let T = c.args.types.now in
    let S = c.args.store.now in
    let two = typed_on T S c.under_binder.new.store c.under_binder-2.new.store c.in_ok-outer.ensures.adds c.in_ok-goal.ensures.adds in
    let three = typed_on T S c.under_binder-2.new.store c.first_name.new.store two c.in_ok-item.ensures.adds in
    let four = typed_on T S c.first_name.new.store c.focused_item.new.store three c.in_ok-body.ensures.adds in
    typed_on T S c.focused_item.new.store c.exists_item.new.store four c.exists_item.ensures.adds
