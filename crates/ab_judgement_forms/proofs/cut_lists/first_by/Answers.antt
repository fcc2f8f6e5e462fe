use Rattle.std.proofs.Common.{◌≢◌, length, map, sym, ap, ◌∙◌, rules, false, codes, ◌≡◌}
use Rattle.std.specs.Prelude.{bytes_eq}
use Rattle.ab_term.specs.Terms.{spine, terms_of}
use Rattle.ab_norm.specs.ab_types.specs.Ids.{constant_of}
use Rattle.ab_norm.specs.ab_store.specs.Trees.{tree_of, head_in}
use Rattle.ab_judgement_forms.specs.ListItems.{first_item}
use Rattle.ab_judgement_forms.proofs.ListForms.{not_two, not_cons}
use Rattle.ab_judgement_forms.proofs.cut_lists.first_by.Goals as goal

pub returns-then-args-ne2-clause-reads : goal.returns-then-args-ne2-clause-reads
returns-then-args-ne2-clause-reads c =
    let T = c.args.types.now in
    let f = tree_of T c.args.store.now in
    let other : length c.args.args.now ≢ 2 = search rules in
    sym (ap (λ h. first_item (spine (head_in T c.args.store.now.cells h) (terms_of (map f c.args.args.now)))) c.in-Const.is ∙ not_two f (constant_of T c.in-Const.constant).name c.args.args.now other)

pub returns-else-is_named_as-clause-reads : goal.returns-else-is_named_as-clause-reads
returns-else-is_named_as-clause-reads c =
    let T = c.args.types.now in
    let f = tree_of T c.args.store.now in
    let n = (constant_of T c.in-Const.constant).name in
    let named : bytes_eq n (codes "::") ≡ false = sym (ap (bytes_eq n) c.requires.cons.1) ∙ sym c.is_named_as.ensures ∙ c.if-is_named_as.false in
    sym (ap (λ h. first_item (spine (head_in T c.args.store.now.cells h) (terms_of (map f c.args.args.now)))) c.in-Const.is ∙ not_cons f n c.args.args.now named)
