use Rattle.std.proofs.Common.{◌≡◌, ◌+◌, ◌-◌, ◌<◌, ℕ, length, get_or, drop, arith, ap, ◌∙◌}
use Rattle.std.specs.List.{All}
use Rattle.std.proofs.lemmas.List.Elements.{All-weaker}
use Rattle.std.proofs.lemmas.Result.{on_ok_weaker}
use Rattle.ab_term.specs.Terms.{index}
use Rattle.ab_term.specs.Expansion.{expansion}
use Rattle.std.specs.Prelude.{codes}
use Rattle.ab_norm.specs.ab_types.specs.Ids.{type_of}
use Rattle.ab_norm.specs.ab_types.specs.declared.ids.TypeId.{TypeId}
use Rattle.ab_norm.specs.ab_store.specs.declared.node.CellId.{CellId}
use Rattle.ab_norm.specs.ab_store.specs.declared.node.TermId.{TermId}
use Rattle.ab_norm.specs.ab_store.specs.Trees.{Holds, HoldsCell, cell_of}
use Rattle.ab_norm.proofs.Frame.{typed_on}
use Rattle.ab_judgement_forms.specs.DemandWalks.{trues}
use Rattle.ab_judgement_forms.proofs.OneMore.{one_more_held}
use Rattle.ab_judgement_forms.proofs.StandInsMade.{one_closed_less, closed_added, other_added}
use Rattle.ab_judgement_forms.proofs.named_scopes.+add_stand_ins.Goals as goal

pub add_stand_ins-requires : goal.add_stand_ins-requires
add_stand_ins-requires t c =
    let T = c.args.types.now in
    let S = c.args.store.now in
    let V = c.eta.new.store in
    let adds = c.eta.ensures.adds in
    let bs = c.args.closed.now in
    let within : c.args.place < length bs = omega (arith, c.if-place-cells.false, c.requires.long) in
    let less = one_closed_less bs c.args.place _ within c.if-closed-place.true in (
      omega (arith, c.decreases, c.if-place-cells.false),
      (
        adds.typed,
        (
          All-weaker (HoldsCell S) (HoldsCell V) adds.before.cell_ids c.args.cells.now c.requires.cells,
          (
            c.requires.long,
            (
              omega (arith, less, c.requires.left),
              (
                All-weaker (Holds S) (Holds V) adds.before.ids c.args.terms.now c.requires.terms,
                one_more_held T S V adds.before c.args.list.now.items c.push.new.self.items c.in_ok-name.name c.in_ok-push.ensures.items c.requires.list c.in_ok-name.ensures.held,
              ),
            ),
          ),
        ),
      ),
    )

pub returns-then-closed-place-clause-trees : goal.returns-then-closed-place-clause-trees
returns-then-closed-place-clause-trees t c =
    let T = c.args.types.now in
    let S = c.args.store.now in
    let V = c.eta.new.store in
    let bs = c.args.closed.now in
    let d : CellId = record { 0 = 0 } in
    let within : c.args.place < length bs = omega (arith, c.if-place-cells.false, c.requires.long) in
    let less = one_closed_less bs c.args.place _ within c.if-closed-place.true in
    let count : c.args.left - 1 ≡ trues (drop (c.args.place + 1) bs) = omega (arith, less, c.requires.left) in
    let name_is = c.in_ok-name.ensures.tree
    ∙ ap (λ (A : TypeId). expansion (codes "x") (type_of T A) (index (c.args.left - 1))) c.cell_type-ty.ensures.ty
    ∙ ap (λ (k : ℕ). expansion (codes "x") (type_of T (cell_of S (get_or c.args.cells.now c.args.place d)).ty) (index k)) count in
    on_ok_weaker c.add_stand_ins.result (λ rest.
    rest
    ∙ closed_added T S V c.eta.ensures.adds c.args.cells.now bs c.requires.long c.args.place _ within c.args.terms.now c.requires.terms c.args.list.now.items c.push.new.self.items c.requires.list
    c.if-closed-place.true d c.in_ok-name.name c.in_ok-push.ensures.items name_is c.args.next) c.add_stand_ins.ensures.trees

pub returns-then-closed-place-clause-adds : goal.returns-then-closed-place-clause-adds
returns-then-closed-place-clause-adds t c = typed_on c.args.types.now c.args.store.now c.eta.new.store c.add_stand_ins.new.store c.eta.ensures.adds c.add_stand_ins.ensures.adds

pub returns-clause-trees : goal.returns-clause-trees
returns-clause-trees t c =
    let bs = c.args.closed.now in
    let d : TermId = record { 0 = 0 } in
    let within : c.args.place < length bs = omega (arith, c.if-place-cells.false, c.requires.long) in
    let there : c.args.next < length c.args.terms.now = omega (arith, c.if-next-terms.false) in
    on_ok_weaker c.add_stand_ins-2.result (λ rest.
    rest
    ∙ other_added c.args.types.now c.args.store.now c.args.cells.now bs c.requires.long c.args.place _ within c.args.terms.now c.args.list.now.items c.push-2.new.self.items c.if-closed-place.false c.args.next d there
    c.in_ok-push-2.ensures.items) c.add_stand_ins-2.ensures.trees
