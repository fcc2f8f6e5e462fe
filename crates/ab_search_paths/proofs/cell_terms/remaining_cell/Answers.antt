use Rattle.std.proofs.Common.{◌≡◌, map, refl, ◌∙◌, ap, List, []}
use Rattle.ab_term.specs.Abstraction.{over}
use Rattle.ab_norm.specs.ab_types.specs.Ids.{type_of}
use Rattle.ab_norm.specs.ab_store.specs.declared.node.CellEntry.{CellEntry}
use Rattle.ab_norm.specs.ab_store.specs.Trees.{cell_in, cell_of}
use Rattle.ab_norm.specs.Nominals.{nominal_of}
use Rattle.ab_norm.proofs.Frame.{if_ok}
use Rattle.ab_search_paths.proofs.CellTerms.{taken}
use Rattle.ab_search_paths.proofs.cell_terms.remaining_cell.Goals as goal

pub returns-clause-typed : goal.returns-clause-typed
returns-clause-typed c =
    let T = c.args.types.now in
    let U = c.as_terms.new.store in
    let A = type_of T (cell_of U c.args.cell).ty in
    let B = type_of T c.args.left in
    let is : A ≡ over (map (nominal_of T) c.args.constants.now) B = ap (λ (cs : List CellEntry). type_of T (cell_in cs c.args.cell).ty) c.in_ok-terms.ensures.adds.cells ∙ c.requires.over in
    if_ok c.eta_given.result (λ r term. term [] A refl (taken T U c.in_ok-terms.terms.items c.args.constants.now A B c.in_ok-terms.ensures.trees is)) c.eta_given.ensures.term
