use Rattle.std.proofs.Common.{◌≡◌, ◌<◌, ℕ, List, [], ◌∷◌, map, length, get_or, take_all, codes, arith, refl, sym, ap, ◌∙◌}
use Rattle.ab_term.specs.Terms.{variable, Read}
use Rattle.ab_term.specs.Expansion.{expansion}
use Rattle.ab_norm.specs.ab_types.specs.Ids.{type_of}
use Rattle.ab_norm.specs.ab_types.specs.Entries.{Table}
use Rattle.ab_norm.specs.ab_types.specs.declared.ids.TypeId.{TypeId}
use Rattle.ab_norm.specs.ab_store.specs.declared.node.CellId.{CellId}
use Rattle.ab_norm.specs.ab_store.specs.declared.node.CellEntry.{CellEntry}
use Rattle.ab_norm.specs.ab_store.specs.Reading.{cell_variable}
use Rattle.ab_norm.specs.ab_store.specs.Trees.{Contents, HoldsCell, cell_of, cell_in, tree_of}
use Rattle.ab_norm.proofs.Frame.{typed_on}
use Rattle.ab_unifiers.specs.Prefixes.{own_terms}
use Rattle.ab_unify.specs.Problem.{variables_read}
use Rattle.ab_judgement_forms.proofs.OneMore.{one_more, one_more_held}
use Rattle.ab_judgements.proofs.part_demands.own_forms.Goals as goal

abbrev form : Table → Contents → CellId → Read
form T S c = expansion (codes "x") (type_of T (cell_of S c).ty) (variable (cell_variable T S c))

forms_are : (T : Table) (S : Contents) (cs : List CellId) → map (form T S) cs ≡ own_terms (codes "x") (variables_read T S cs)
forms_are T S [] = refl
forms_are T S (c ∷ cs) = ap (λ l. form T S c ∷ l) (forms_are T S cs)

pub returns-in_err-push-clause-adds : goal.returns-in_err-push-clause-adds
returns-in_err-push-clause-adds c = typed_on c.args.types.now c.args.store.now c.loop-cell.store c.eta.new.store c.loop-cell.invariant.adds c.in_ok-eta.ensures.adds

pub loop-cell-preserved : goal.loop-cell-preserved
loop-cell-preserved c =
    let T = c.args.types.now in
    let S = c.args.store.now in
    let l = c.loop-cell in
    let U = c.eta.new.store in
    let adds = c.in_ok-eta.ensures.adds in
    let d : CellId = record { 0 = 0 } in
    let a = get_or c.args.cells.now l.cell-index d in
    let within : l.cell-index < length c.args.cells.now = omega (arith, c.loop-cell-test.true) in
    record {
      held = one_more_held T l.store U adds.before l.list.items c.push.new.self.items c.in_ok-eta.field-0 c.in_ok-push.ensures.items l.invariant.held c.in_ok-eta.ensures.held;
      trees = one_more T l.store U adds.before l.list.items c.push.new.self.items c.in_ok-eta.field-0 c.in_ok-push.ensures.items l.invariant.held
          (form T S) c.args.cells.now l.cell-index d within l.invariant.trees
          (c.in_ok-eta.ensures.tree
          ∙ ap (λ (A : TypeId). expansion (codes "x") (type_of T A) (variable (cell_variable T l.store a))) c.cell_type-ty.ensures.ty
          ∙ ap (λ (es : List CellEntry). expansion (codes "x") (type_of T (cell_in es a).ty) (variable (record { name = a.0; type = type_of T (cell_in es a).ty }))) l.invariant.adds.cells);
      adds = typed_on T S l.store U l.invariant.adds adds;
    }

pub returns-clause-trees : goal.returns-clause-trees
returns-clause-trees c =
    let T = c.args.types.now in
    let S = c.args.store.now in
    c.loop-cell.invariant.trees
    ∙ ap (map (form T S)) (take_all c.loop-cell.cell-index c.args.cells.now (omega (arith, c.loop-cell-test.false)))
    ∙ forms_are T S c.args.cells.now
