use Rattle.ab_norm.specs.ab_types.specs.Ids.{constant_of}
use Rattle.ab_norm.proofs.Frame.{if_ok, typed_on}
use Rattle.ab_logic.specs.Forms.{sign_of}
use Rattle.ab_judgement_forms.proofs.ItemsInFocus.{made_item}
use Rattle.ab_judgement_forms.proofs.list_items.focused_item.Goals as goal

pub returns-in_err-within-clause-adds : goal.returns-in_err-within-clause-adds
returns-in_err-within-clause-adds c = typed_on c.args.types.now c.args.store.now c.focused_judgement.new.store c.between.new.store c.in_ok-judgement.ensures.adds c.in_err-within.ensures.adds

pub returns-clause-tree : goal.returns-clause-tree
returns-clause-tree c =
    let T = c.args.types.now in
    let S = c.args.store.now in
    let S1 = c.focused_judgement.new.store in
    let S2 = c.between.new.store in
    let one = c.in_ok-judgement.ensures in
    let two = c.in_ok-within.ensures in
    if_ok c.between-2.result (λ r made.
    made_item T (sign_of c.args.sign) S S1 S2 c.between-2.new.store c.args.list c.args.item c.args.atom c.in_ok-judgement.judgement c.in_ok-within.within r
    (constant_of T c.args.member).name c.requires.member.1 one.tree (one.adds.before.trees T c.args.item c.requires.item) (one.adds.before.trees T c.args.list c.requires.list) two.tree
    (two.adds.before.trees T c.in_ok-judgement.judgement one.held) made) c.between-2.ensures.tree

pub returns-clause-adds : goal.returns-clause-adds
returns-clause-adds c =
    let T = c.args.types.now in
    let S = c.args.store.now in
    typed_on T S c.between.new.store c.between-2.new.store (typed_on T S c.focused_judgement.new.store c.between.new.store c.in_ok-judgement.ensures.adds c.in_ok-within.ensures.adds) c.between-2.ensures.adds
