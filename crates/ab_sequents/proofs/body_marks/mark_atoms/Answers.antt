use Rattle.std.proofs.Common.{sym, ap, ◌∙◌}
use Rattle.ab_norm.specs.ab_store.specs.Trees.{tree_of}
use Rattle.ab_logic.specs.Forms.{sign_of}
use Rattle.ab_formulas.specs.BodyMarks.{marked_in}
use Rattle.ab_sequents.specs.HeadMarks.{names_of}
use Rattle.ab_sequents.proofs.MarkedAtoms.{marked_not}
use Rattle.ab_sequents.proofs.body_marks.mark_atoms.Goals as goal

pub returns-in-Plain-clause-reads : goal.returns-in-Plain-clause-reads
returns-in-Plain-clause-reads c =
    let ps = names_of c.args.types.now c.args.predicates.now in
    let t = tree_of c.args.types.now c.args.store.now c.args.formula in
    sym (ap (λ m. marked_in ps (sign_of m) t) c.in-Plain.is ∙ marked_not ps t)
