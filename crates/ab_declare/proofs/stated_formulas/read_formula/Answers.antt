use Rattle.ab_declare.proofs.Restoring.{adds_nothing}
use Rattle.ab_declare.proofs.stated_formulas.read_formula.Goals as goal

pub returns-in_err-prop-clause-adds : goal.returns-in_err-prop-clause-adds
returns-in_err-prop-clause-adds g c = adds_nothing c.args.types.now c.formula_type.new.types c.args.store.now c.formula_type.ensures.kept c.requires.store

pub elaborate-requires-clause-store : goal.elaborate-requires-clause-store
elaborate-requires-clause-store g c = (adds_nothing c.args.types.now c.formula_type.new.types c.args.store.now c.formula_type.ensures.kept c.requires.store).typed
