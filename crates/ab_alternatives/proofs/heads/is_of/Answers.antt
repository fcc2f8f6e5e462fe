use Rattle.ab_formulas.proofs.Headed.{predicate_is}
use Rattle.std.proofs.Common.{sym, ◌∙◌, ap, bytes_eq}
use Rattle.ab_typing.specs.DefinitionReadings.{clause_of, name_of}
use Rattle.ab_alternatives.proofs.Placed.{same_by_name}
use Rattle.ab_alternatives.proofs.heads.is_of.Goals as goal

pub returns-in-Some : goal.returns-in-Some
returns-in-Some c =
    let types = c.args.types.now in
    let found = c.in-Some.found in
    same_by_name types c.has_unique_ids.ensures.table found c.args.predicate c.in-Some.ensures.held c.requires.predicate c.are_same.result c.are_same.ensures
    ∙ ap (λ p. bytes_eq p (name_of types c.args.predicate)) (sym (predicate_is (clause_of types c.args.store.now c.args.clause.now) (name_of types found) c.in-Some.ensures.some))

pub returns-in-None : goal.returns-in-None
returns-in-None c = absurd (c.predicate_under.ensures.none c.in-None.is c.requires.clause.well.is_head)
