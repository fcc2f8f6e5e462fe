use Rattle.std.proofs.Common.{◌≡◌, length, ap, sym, ◌∙◌, rules}
use Rattle.std.proofs.lemmas.List.{nil_from_length}
use Rattle.ab_expressions.specs.Items.{list_of}
use Rattle.ab_syntax.proofs.Taking.{some_shown, none_shown}
use Rattle.ab_syntax.proofs.list.take_some.Goals as goal

pub returns-then-is_empty : goal.returns-then-is_empty
returns-then-is_empty g c =
    let none : length c.as_slice.result.now ≡ 0 = search rules in
    none_shown (g.S.Shown.leaf c.args.form).shows (g.S.Shown.leaf c.args.form).meant _ _ (list_of c.in_ok-values.values) (sym c.as_slice.ensures ∙ nil_from_length c.as_slice.result.now none) (g.S.Shown.leaf c.args.form).example c.in_ok-values.ensures

pub returns : goal.returns
returns g c = some_shown (g.S.Shown.leaf c.args.form).shows (g.S.Shown.leaf c.args.form).meant _ _ (list_of c.in_ok-values.values) (λ e. let none : length c.as_slice.result.now ≡ 0 = ap length (c.as_slice.ensures ∙ e) in search rules) c.in_ok-values.ensures
