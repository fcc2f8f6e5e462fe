use Rattle.std.proofs.Common.{◌≡◌, [], ◌∷◌, ◌++◌, map, refl, sym, ap, ◌∙◌, subst, append-nil}
use Rattle.std.specs.Prelude.{All}
use Rattle.std.proofs.lemmas.Result.{err_from_is_err_and}
use Rattle.ab_term.specs.Constants.{type_in}
use Rattle.ab_norm.specs.ab_types.specs.Entries.{kinds, signature}
use Rattle.ab_norm.specs.ab_types.proofs.Entries.{extended_twice}
use Rattle.ab_norm.specs.ab_store.proofs.Growing.{extended_itself}
use Rattle.ab_syntax.specs.Commands.{defined_of, clause_of}
use Rattle.ab_infer.proofs.Larger.{store_more}
use Rattle.ab_formulas.specs.ProposedClauses.{IsProposed}
use Rattle.ab_typing.specs.DefinitionReadings as clauses
use Rattle.ab_typing.specs.DefinitionReadings.{HoldsBlock}
use Rattle.ab_formulas.specs.Declarations.{signature_in, a_block}
use Rattle.ab_typing.specs.declared.definitions.Block.{Block as KeptBlock}
use Rattle.ab_logic.specs.NewDefinitions.{IsDefinable, IsDefineFault}
use Rattle.ab_logic.specs.Worlds.{declarations_of, definition_of}
use Rattle.ab_logic.specs.declared.world.World.{World}
use Rattle.ab_declare.specs.DefinitionCommands.{DefinesNothing}
use Rattle.ab_declare.specs.Halts.{Halts}
use Rattle.ab_declare.specs.Moments.{HasMore}
use Rattle.ab_declare.proofs.Behind.{refused_predicates, of_kinds, refused_types, has_types, refused_names, has_names, refused_reading, grows_read, held_block, proposed_clauses, put_in, not_put_in}
use Rattle.ab_declare.proofs.definitions.try_definition.Goals as goal

pub returns-in_err-ids-clause-defined : goal.returns-in_err-ids-clause-defined
returns-in_err-ids-clause-defined g c =
    let p = err_from_is_err_and c.from_residual.result c.from_residual.ensures.1 in
    let w = c.args.world.now in
    let ds = map defined_of c.args.predicates.now in
    let cs = map clause_of c.args.clauses.now in
    rw (p.1, p.2) (refused_predicates w c.requires.world c.args.inductive ds cs c.in_err-ids.field-0.0 c.in_err-ids.ensures.put)

pub returns-in_err-ids-clause-more : goal.returns-in_err-ids-clause-more
returns-in_err-ids-clause-more g c =
    let p = err_from_is_err_and c.from_residual.result c.from_residual.ensures.1 in
    rw p.1 (record { types = c.in_err-ids.ensures.kept; marks = (extended_itself c.args.world.now.store).marks; additions = ([], sym (append-nil c.args.world.now.additions)) })

pub look_at_clauses-requires-clause-store : goal.look_at_clauses-requires-clause-store
look_at_clauses-requires-clause-store g c = store_more c.args.world.now.types c.put_predicates.new.types c.in_ok-ids.ensures.kept c.args.world.now.store c.requires.world.typed

pub returns-in_err-look_at_clauses-clause-defined : goal.returns-in_err-look_at_clauses-clause-defined
returns-in_err-look_at_clauses-clause-defined g c =
    let p = err_from_is_err_and c.from_residual-in_err-look_at_clauses.result c.from_residual-in_err-look_at_clauses.ensures.1 in
    let w = c.args.world.now in
    let ds = map defined_of c.args.predicates.now in
    let cs = map clause_of c.args.clauses.now in
    let t = c.put_predicates.new.types in
    let one = c.in_ok-ids.ensures in
    rw (p.1, p.2) (refused_names w c.requires.world c.args.inductive ds cs t c.in_ok-ids.ids.items one.put one.kinds (kinds t) refl (signature t) refl c.in_err-look_at_clauses.field-0.0 c.in_err-look_at_clauses.ensures.named)

pub returns-in_err-look_at_clauses-clause-more : goal.returns-in_err-look_at_clauses-clause-more
returns-in_err-look_at_clauses-clause-more g c =
    let p = err_from_is_err_and c.from_residual-in_err-look_at_clauses.result c.from_residual-in_err-look_at_clauses.ensures.1 in
    let w = c.args.world.now in
    rw p.1 (record {
      types = extended_twice w.types c.put_predicates.new.types c.look_at_clauses.new.types c.in_ok-ids.ensures.kept c.in_err-look_at_clauses.ensures.kept;
      marks = (extended_itself w.store).marks;
      additions = ([], sym (append-nil w.additions));
    })

pub look_at_types-requires-clause-kinds : goal.look_at_types-requires-clause-kinds
look_at_types-requires-clause-kinds g c =
    let w = c.args.world.now in
    let ds = map defined_of c.args.predicates.now in
    let cs = map clause_of c.args.clauses.now in
    let one = c.in_ok-ids.ensures in
    of_kinds w c.requires.world c.args.inductive ds cs c.put_predicates.new.types c.in_ok-ids.ids.items one.put one.kinds (kinds c.look_at_clauses.new.types) c.in_ok-look_at_clauses.ensures.kinds

pub returns-in_err-look_at_types-clause-defined : goal.returns-in_err-look_at_types-clause-defined
returns-in_err-look_at_types-clause-defined g c =
    let p = err_from_is_err_and c.from_residual-in_err-look_at_types.result c.from_residual-in_err-look_at_types.ensures.1 in
    let w = c.args.world.now in
    let ds = map defined_of c.args.predicates.now in
    let cs = map clause_of c.args.clauses.now in
    let t = c.put_predicates.new.types in
    let ids = c.in_ok-ids.ids.items in
    let one = c.in_ok-ids.ensures in
    let two = c.in_ok-look_at_clauses.ensures in
    let named = has_names w c.requires.world c.args.inductive ds cs t ids one.put one.kinds (kinds t) refl (signature t) refl two.named in
    rw (p.1, p.2) (refused_types w c.requires.world c.args.inductive ds cs t ids one.put one.kinds (kinds c.look_at_clauses.new.types) two.kinds named c.in_err-look_at_types.field-0.0 c.in_err-look_at_types.ensures.looked)

pub returns-in_err-look_at_types-clause-more : goal.returns-in_err-look_at_types-clause-more
returns-in_err-look_at_types-clause-more g c =
    let p = err_from_is_err_and c.from_residual-in_err-look_at_types.result c.from_residual-in_err-look_at_types.ensures.1 in
    let w = c.args.world.now in
    rw p.1 (record {
      types =
          extended_twice w.types c.look_at_clauses.new.types c.look_at_types.new.types
          (extended_twice w.types c.put_predicates.new.types c.look_at_clauses.new.types c.in_ok-ids.ensures.kept c.in_ok-look_at_clauses.ensures.kept) c.in_err-look_at_types.ensures.kept;
      marks = (extended_itself w.store).marks;
      additions = ([], sym (append-nil w.additions));
    })

pub read_clauses-requires-clause-store : goal.read_clauses-requires-clause-store
read_clauses-requires-clause-store g c =
    let w = c.args.world.now in
    store_more w.types c.look_at_types.new.types
    (extended_twice w.types c.look_at_clauses.new.types c.look_at_types.new.types
    (extended_twice w.types c.put_predicates.new.types c.look_at_clauses.new.types c.in_ok-ids.ensures.kept c.in_ok-look_at_clauses.ensures.kept) c.in_ok-look_at_types.ensures.kept) w.store c.requires.world.typed

pub returns-in_err-terms-clause-defined : goal.returns-in_err-terms-clause-defined
returns-in_err-terms-clause-defined g c =
    let p = err_from_is_err_and c.from_residual-in_err-terms.result c.from_residual-in_err-terms.ensures.1 in
    let w = c.args.world.now in
    let ds = map defined_of c.args.predicates.now in
    let cs = map clause_of c.args.clauses.now in
    let t = c.put_predicates.new.types in
    let ids = c.in_ok-ids.ids.items in
    let one = c.in_ok-ids.ensures in
    let two = c.in_ok-look_at_clauses.ensures in
    let three = c.in_ok-look_at_types.ensures in
    let named = has_names w c.requires.world c.args.inductive ds cs t ids one.put one.kinds (kinds t) refl (signature t) refl two.named in
    let typed = has_types w c.requires.world c.args.inductive ds cs t ids one.put one.kinds (kinds c.look_at_clauses.new.types) two.kinds named three.looked in
    rw (p.1, p.2)
    (refused_reading w c.requires.world c.args.inductive ds cs t ids one.put one.kinds (kinds c.look_at_types.new.types) (three.kinds ∙ two.kinds) (signature c.look_at_types.new.types) (ap type_in (three.constants ∙ two.constants)) typed
    c.in_err-terms.field-0.0 c.in_err-terms.ensures.read)

pub returns-in_err-terms-clause-more : goal.returns-in_err-terms-clause-more
returns-in_err-terms-clause-more g c =
    let p = err_from_is_err_and c.from_residual-in_err-terms.result c.from_residual-in_err-terms.ensures.1 in
    let w = c.args.world.now in
    let early = extended_twice w.types c.put_predicates.new.types c.look_at_clauses.new.types c.in_ok-ids.ensures.kept c.in_ok-look_at_clauses.ensures.kept in
    rw p.1 (record {
      types =
          extended_twice w.types c.look_at_types.new.types c.read_clauses.new.types
          (extended_twice w.types c.look_at_clauses.new.types c.look_at_types.new.types early c.in_ok-look_at_types.ensures.kept) c.in_err-terms.ensures.kept;
      marks = c.in_err-terms.ensures.adds.before.marks;
      additions = ([], sym (append-nil w.additions));
    })

pub define-requires-clause-world : goal.define-requires-clause-world
define-requires-clause-world g c =
    let w = c.args.world.now in
    let i = c.args.inductive in
    let ds = map defined_of c.args.predicates.now in
    let cs = map clause_of c.args.clauses.now in
    let t = c.put_predicates.new.types in
    let u = c.read_clauses.new.types in
    let ids = c.in_ok-ids.ids.items in
    let one = c.in_ok-ids.ensures in
    let two = c.in_ok-look_at_clauses.ensures in
    let three = c.in_ok-look_at_types.ensures in
    let four = c.in_ok-terms.ensures in
    let named = has_names w c.requires.world i ds cs t ids one.put one.kinds (kinds t) refl (signature t) refl two.named in
    let typed = has_types w c.requires.world i ds cs t ids one.put one.kinds (kinds c.look_at_clauses.new.types) two.kinds named three.looked in
    let more = extended_twice t c.look_at_types.new.types u (extended_twice t c.look_at_clauses.new.types c.look_at_types.new.types two.kept three.kept) four.kept in
    let same_kinds = four.kinds ∙ (three.kinds ∙ two.kinds) in
    let same_constants = four.constants ∙ (three.constants ∙ two.constants) in
    (grows_read w c.requires.world i ds cs t ids one.put one.kinds u c.read_clauses.new.store one.kept more same_kinds same_constants four.table four.adds c.in_ok-terms.terms.items four.read typed).world

pub define-requires-clause-held : goal.define-requires-clause-held
define-requires-clause-held g c =
    let w = c.args.world.now in
    let i = c.args.inductive in
    let ds = map defined_of c.args.predicates.now in
    let cs = map clause_of c.args.clauses.now in
    let t = c.put_predicates.new.types in
    let u = c.read_clauses.new.types in
    let ids = c.in_ok-ids.ids.items in
    let one = c.in_ok-ids.ensures in
    let two = c.in_ok-look_at_clauses.ensures in
    let three = c.in_ok-look_at_types.ensures in
    let four = c.in_ok-terms.ensures in
    let named = has_names w c.requires.world i ds cs t ids one.put one.kinds (kinds t) refl (signature t) refl two.named in
    let typed = has_types w c.requires.world i ds cs t ids one.put one.kinds (kinds c.look_at_clauses.new.types) two.kinds named three.looked in
    let more = extended_twice t c.look_at_types.new.types u (extended_twice t c.look_at_clauses.new.types c.look_at_types.new.types two.kept three.kept) four.kept in
    let same_kinds = four.kinds ∙ (three.kinds ∙ two.kinds) in
    let same_constants = four.constants ∙ (three.constants ∙ two.constants) in
    subst (HoldsBlock u c.read_clauses.new.store) (sym c.block_of-block.ensures) (held_block w c.requires.world i ds cs t ids one.put one.kinds u c.read_clauses.new.store one.kept more same_kinds same_constants four.table four.adds c.in_ok-terms.terms.items four.read typed)

pub define-requires-clause-proposed : goal.define-requires-clause-proposed
define-requires-clause-proposed g c =
    let w = c.args.world.now in
    let i = c.args.inductive in
    let ds = map defined_of c.args.predicates.now in
    let cs = map clause_of c.args.clauses.now in
    let t = c.put_predicates.new.types in
    let u = c.read_clauses.new.types in
    let ids = c.in_ok-ids.ids.items in
    let one = c.in_ok-ids.ensures in
    let two = c.in_ok-look_at_clauses.ensures in
    let three = c.in_ok-look_at_types.ensures in
    let four = c.in_ok-terms.ensures in
    let named = has_names w c.requires.world i ds cs t ids one.put one.kinds (kinds t) refl (signature t) refl two.named in
    let typed = has_types w c.requires.world i ds cs t ids one.put one.kinds (kinds c.look_at_clauses.new.types) two.kinds named three.looked in
    let more = extended_twice t c.look_at_types.new.types u (extended_twice t c.look_at_clauses.new.types c.look_at_types.new.types two.kept three.kept) four.kept in
    let same_kinds = four.kinds ∙ (three.kinds ∙ two.kinds) in
    let same_constants = four.constants ∙ (three.constants ∙ two.constants) in
    let v : World = record { types = u; store = c.read_clauses.new.store; additions = w.additions } in
    subst (λ (b : KeptBlock). All (IsProposed (signature_in (declarations_of v))) (clauses.block_of u c.read_clauses.new.store b).clauses) (sym c.block_of-block.ensures) (proposed_clauses w c.requires.world i ds cs t ids one.put one.kinds u c.read_clauses.new.store one.kept more same_kinds same_constants four.table four.adds c.in_ok-terms.terms.items four.read typed)

pub returns-in-Ok-clause-defined : goal.returns-in-Ok-clause-defined
returns-in-Ok-clause-defined g c =
    let w = c.args.world.now in
    let i = c.args.inductive in
    let ds = map defined_of c.args.predicates.now in
    let cs = map clause_of c.args.clauses.now in
    let t = c.put_predicates.new.types in
    let u = c.read_clauses.new.types in
    let ids = c.in_ok-ids.ids.items in
    let one = c.in_ok-ids.ensures in
    let two = c.in_ok-look_at_clauses.ensures in
    let three = c.in_ok-look_at_types.ensures in
    let four = c.in_ok-terms.ensures in
    let named = has_names w c.requires.world i ds cs t ids one.put one.kinds (kinds t) refl (signature t) refl two.named in
    let typed = has_types w c.requires.world i ds cs t ids one.put one.kinds (kinds c.look_at_clauses.new.types) two.kinds named three.looked in
    let more = extended_twice t c.look_at_types.new.types u (extended_twice t c.look_at_clauses.new.types c.look_at_types.new.types two.kept three.kept) four.kept in
    let same_kinds = four.kinds ∙ (three.kinds ∙ two.kinds) in
    let same_constants = four.constants ∙ (three.constants ∙ two.constants) in
    let v : World = record { types = u; store = c.read_clauses.new.store; additions = w.additions } in
    let same = c.block_of-block.ensures in
    put_in w c.requires.world i ds cs t ids one.put one.kinds u c.read_clauses.new.store one.kept more same_kinds same_constants four.table four.adds c.in_ok-terms.terms.items four.read typed c.define.new.self
    (subst (λ (b : KeptBlock). declarations_of c.define.new.self ≡ declarations_of v ++ a_block (definition_of v b) ∷ []) same c.in-Ok.ensures.added) c.in-Ok.ensures.grows
    (subst (λ (b : KeptBlock). IsDefinable (declarations_of v) (clauses.block_of u c.read_clauses.new.store b)) same c.in-Ok.ensures.right)

pub returns-in-Err-clause-defined : goal.returns-in-Err-clause-defined
returns-in-Err-clause-defined g c =
    let w = c.args.world.now in
    let i = c.args.inductive in
    let ds = map defined_of c.args.predicates.now in
    let cs = map clause_of c.args.clauses.now in
    let t = c.put_predicates.new.types in
    let u = c.read_clauses.new.types in
    let ids = c.in_ok-ids.ids.items in
    let one = c.in_ok-ids.ensures in
    let two = c.in_ok-look_at_clauses.ensures in
    let three = c.in_ok-look_at_types.ensures in
    let four = c.in_ok-terms.ensures in
    let named = has_names w c.requires.world i ds cs t ids one.put one.kinds (kinds t) refl (signature t) refl two.named in
    let typed = has_types w c.requires.world i ds cs t ids one.put one.kinds (kinds c.look_at_clauses.new.types) two.kinds named three.looked in
    let more = extended_twice t c.look_at_types.new.types u (extended_twice t c.look_at_clauses.new.types c.look_at_types.new.types two.kept three.kept) four.kept in
    let same_kinds = four.kinds ∙ (three.kinds ∙ two.kinds) in
    let same_constants = four.constants ∙ (three.constants ∙ two.constants) in
    let v : World = record { types = u; store = c.read_clauses.new.store; additions = w.additions } in
    let f = c.in-Err.fault in
    let told = not_put_in w c.requires.world i ds cs t ids one.put one.kinds u c.read_clauses.new.store one.kept more same_kinds same_constants four.table four.adds c.in_ok-terms.terms.items four.read typed f
    (subst (λ (b : KeptBlock). IsDefineFault (declarations_of v) (clauses.block_of u c.read_clauses.new.store b) f) c.block_of-block.ensures c.in-Err.ensures.refused) in
    subst (Halts (DefinesNothing (declarations_of w) i ds cs)) (sym c.halt_for.ensures) told

pub returns-in-Err-clause-more : goal.returns-in-Err-clause-more
returns-in-Err-clause-more g c =
    let w = c.args.world.now in
    let i = c.args.inductive in
    let ds = map defined_of c.args.predicates.now in
    let cs = map clause_of c.args.clauses.now in
    let t = c.put_predicates.new.types in
    let u = c.read_clauses.new.types in
    let ids = c.in_ok-ids.ids.items in
    let one = c.in_ok-ids.ensures in
    let two = c.in_ok-look_at_clauses.ensures in
    let three = c.in_ok-look_at_types.ensures in
    let four = c.in_ok-terms.ensures in
    let named = has_names w c.requires.world i ds cs t ids one.put one.kinds (kinds t) refl (signature t) refl two.named in
    let typed = has_types w c.requires.world i ds cs t ids one.put one.kinds (kinds c.look_at_clauses.new.types) two.kinds named three.looked in
    let more = extended_twice t c.look_at_types.new.types u (extended_twice t c.look_at_clauses.new.types c.look_at_types.new.types two.kept three.kept) four.kept in
    let same_kinds = four.kinds ∙ (three.kinds ∙ two.kinds) in
    let same_constants = four.constants ∙ (three.constants ∙ two.constants) in
    let v : World = record { types = u; store = c.read_clauses.new.store; additions = w.additions } in
    subst (HasMore w) (sym c.in-Err.ensures.err)
    (record { types = extended_twice w.types t u one.kept more; marks = four.adds.before.marks; additions = ([], sym (append-nil w.additions)) })
