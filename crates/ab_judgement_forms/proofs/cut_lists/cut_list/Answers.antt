use Rattle.std.specs.Prelude.{Some}
use Rattle.std.specs.Option.{option_map}
use Rattle.std.proofs.Common.{◌≡◌, true, false, sym, ◌∙◌, ap}
use Rattle.ab_term.specs.Sameness.{same_term}
use Rattle.ab_norm.specs.ab_store.specs.Trees.{tree_of}
use Rattle.ab_logic.specs.Worlds.{read}
use Rattle.ab_logic.proofs.Growing.{grows_store}
use Rattle.ab_theory.specs.Contexts.{without_item}
use Rattle.ab_judgement_forms.proofs.ListForms.{cut_same, cut_other}
use Rattle.ab_judgement_forms.proofs.cut_lists.cut_list.Goals as goal

pub returns-in_err-left-clause-grows : goal.returns-in_err-left-clause-grows
returns-in_err-left-clause-grows c = grows_store _ _ _ _ c.requires.world c.in_err-left.ensures.adds.before c.in_err-left.ensures.adds.typed

pub returns-in_default-clause-grows : goal.returns-in_default-clause-grows
returns-in_default-clause-grows c = grows_store _ _ _ _ c.requires.world c.in_ok-left.ensures.adds.before c.in_ok-left.ensures.adds.typed

pub returns-in_err-is_same-clause-grows : goal.returns-in_err-is_same-clause-grows
returns-in_err-is_same-clause-grows c = grows_store _ _ _ _ c.requires.world c.in_ok-left.ensures.adds.before c.in_ok-left.ensures.adds.typed

pub returns-then-branch-clause-grows : goal.returns-then-branch-clause-grows
returns-then-branch-clause-grows c = grows_store _ _ _ _ c.requires.world c.in_ok-left.ensures.adds.before c.in_ok-left.ensures.adds.typed

pub returns-else-branch-clause-grows : goal.returns-else-branch-clause-grows
returns-else-branch-clause-grows c = grows_store _ _ _ _ c.requires.world c.in_ok-left.ensures.adds.before c.in_ok-left.ensures.adds.typed

pub returns-then-branch-clause-reads : goal.returns-then-branch-clause-reads
returns-then-branch-clause-reads c =
    let w = c.args.world.now in
    let T = w.types in
    let S = c.without_item.new.store in
    let left = c.in-Some.left in
    let found : without_item (read w c.args.list) (read w c.args.goal) ≡ Some (tree_of T S left) = sym c.in_ok-left.ensures.tree ∙ ap (option_map (tree_of T S)) c.in-Some.is in
    let other : tree_of T S c.args.other ≡ read w c.args.other = c.in_ok-left.ensures.adds.before.trees T c.args.other c.requires.other in
    let same : same_term (tree_of T S left) (read w c.args.other) ≡ true = sym (ap (same_term (tree_of T S left)) other) ∙ sym c.in_ok-is_same.ensures ∙ c.if-branch.true in
    sym (cut_same (read w c.args.list) (read w c.args.goal) (read w c.args.other) (tree_of T S left) found same)

pub returns-else-branch-clause-reads : goal.returns-else-branch-clause-reads
returns-else-branch-clause-reads c =
    let w = c.args.world.now in
    let T = w.types in
    let S = c.without_item.new.store in
    let left = c.in-Some.left in
    let found : without_item (read w c.args.list) (read w c.args.goal) ≡ Some (tree_of T S left) = sym c.in_ok-left.ensures.tree ∙ ap (option_map (tree_of T S)) c.in-Some.is in
    let other : tree_of T S c.args.other ≡ read w c.args.other = c.in_ok-left.ensures.adds.before.trees T c.args.other c.requires.other in
    let same : same_term (tree_of T S left) (read w c.args.other) ≡ false = sym (ap (same_term (tree_of T S left)) other) ∙ sym c.in_ok-is_same.ensures ∙ c.if-branch.false in
    sym (cut_other (read w c.args.list) (read w c.args.goal) (read w c.args.other) (tree_of T S left) found same)
