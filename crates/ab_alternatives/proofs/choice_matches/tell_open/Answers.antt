use Rattle.std.specs.Prelude.{is_none}
use Rattle.std.specs.List.{All}
use Rattle.std.proofs.Common.{◌++◌, sym, ◌∙◌, ap, subst, arith}
use Rattle.std.proofs.lemmas.List.Elements.{All-filter, All-get_or}
use Rattle.ab_norm.specs.ab_store.specs.declared.node.CellId.{CellId}
use Rattle.ab_norm.specs.ab_store.specs.Trees.{HoldsCell}
use Rattle.ab_norm.specs.ab_store.specs.Reading.{binding_of}
use Rattle.ab_equations.specs.Meanwhile.{unbound_of}
use Rattle.ab_alternatives.proofs.choice_matches.tell_open.Goals as goal

pub cell_name-requires : goal.cell_name-requires
cell_name-requires c =
    let S = c.args.store.now in
    let cells = c.args.own.now ++ c.args.more.now in
    let left = c.as_slice.result.now in
    let d : CellId = record { 0 = 0 } in
    let all : All (HoldsCell S) left =
    subst (All (HoldsCell S)) (sym (c.as_slice.ensures.value ∙ c.in_ok-left.ensures ∙ ap (unbound_of S) (c.deref.ensures.value ∙ c.in_ok-cells.ensures)))
    (All-filter (λ e. is_none (binding_of S e)) (HoldsCell S) cells c.requires) in
    All-get_or (HoldsCell S) left 0 d (omega (arith, c.in-len1-up.len_at_least)) all
