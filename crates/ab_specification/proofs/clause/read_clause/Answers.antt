use Rattle.std.proofs.Common.{sym, ap, ◌∙◌, length}
use Rattle.ab_term.specs.Constants.{type_in}
use Rattle.ab_norm.specs.ab_types.proofs.Entries.{extended_twice}
use Rattle.ab_norm.specs.ab_types.specs.Ids.{type_of}
use Rattle.ab_norm.specs.ab_store.proofs.Growing.{extended_itself}
use Rattle.ab_infer.proofs.Larger.{store_more}
use Rattle.ab_syntax.specs.Commands.{clause_of}
use Rattle.ab_logic.proofs.Growing.{same_constants}
use Rattle.ab_declare.proofs.Knowing.{world_knows}
use Rattle.ab_specification.proofs.GrownWorlds.{grows_read, declares_same}
use Rattle.ab_specification.proofs.ReadClauses.{all_read, none_read}
use Rattle.ab_specification.proofs.clause.read_clause.Goals as goal

pub formulas-requires : goal.formulas-requires
formulas-requires g c = c.has_unique_ids.ensures.table

pub elaborate_clause-requires-clause-store : goal.elaborate_clause-requires-clause-store
elaborate_clause-requires-clause-store g c = store_more c.args.world.now.types c.formulas.new.types c.in_ok-formulas.ensures.adds.kept c.args.world.now.store c.requires.typed

pub elaborate_clause-requires-clause-expected : goal.elaborate_clause-requires-clause-expected
elaborate_clause-requires-clause-expected g c = c.in_ok-formulas.ensures.formulas.o_held

pub returns-in_err-formulas-clause-grows : goal.returns-in_err-formulas-clause-grows
returns-in_err-formulas-clause-grows g c =
    let w = c.args.world.now in
    let adds = c.in_err-formulas.ensures.adds in
    grows_read w c.requires c.formulas.new.types w.store adds.kept adds.kinds adds.constants (extended_itself w.store) (store_more w.types c.formulas.new.types adds.kept w.store c.requires.typed)

pub returns-in_err-formulas-clause-same : goal.returns-in_err-formulas-clause-same
returns-in_err-formulas-clause-same g c =
    let w = c.args.world.now in
    let adds = c.in_err-formulas.ensures.adds in
    declares_same w c.requires c.formulas.new.types w.store adds.kept adds.kinds adds.constants (extended_itself w.store) (store_more w.types c.formulas.new.types adds.kept w.store c.requires.typed)

pub returns-clause-read : goal.returns-clause-read
returns-clause-read g c =
    let w = c.args.world.now in
    let t1 = c.formulas.new.types in
    let adds = c.in_ok-formulas.ensures.adds in
    all_read t1 c.elaborate_clause.new.types c.elaborate_clause.new.store _ _ (length w.store.cells) (clause_of c.args.parse.now) (type_of t1 c.in_ok-formulas.formulas.o) c.elaborate_clause.result
    c.in_ok-formulas.ensures.table c.in_ok-formulas.ensures.formulas.o_is (adds.kinds ∙ sym (world_knows w c.requires).kinds) (ap type_in adds.constants ∙ same_constants w c.requires) c.elaborate_clause.ensures.answer

pub returns-clause-unread : goal.returns-clause-unread
returns-clause-unread g c =
    let w = c.args.world.now in
    let t1 = c.formulas.new.types in
    let adds = c.in_ok-formulas.ensures.adds in
    none_read t1 c.elaborate_clause.new.types c.elaborate_clause.new.store _ _ (length w.store.cells) (clause_of c.args.parse.now) (type_of t1 c.in_ok-formulas.formulas.o) c.elaborate_clause.result
    c.in_ok-formulas.ensures.table c.in_ok-formulas.ensures.formulas.o_is (adds.kinds ∙ sym (world_knows w c.requires).kinds) (ap type_in adds.constants ∙ same_constants w c.requires) c.elaborate_clause.ensures.answer

pub returns-clause-grows : goal.returns-clause-grows
returns-clause-grows g c =
    let w = c.args.world.now in
    let t1 = c.formulas.new.types in
    let adds = c.in_ok-formulas.ensures.adds in
    let now = c.elaborate_clause.ensures in
    grows_read w c.requires c.elaborate_clause.new.types c.elaborate_clause.new.store (extended_twice w.types t1 c.elaborate_clause.new.types adds.kept now.kept) (now.kinds ∙ adds.kinds) (now.constants ∙ adds.constants) now.adds.before now.adds.typed

pub returns-clause-same : goal.returns-clause-same
returns-clause-same g c =
    let w = c.args.world.now in
    let t1 = c.formulas.new.types in
    let adds = c.in_ok-formulas.ensures.adds in
    let now = c.elaborate_clause.ensures in
    declares_same w c.requires c.elaborate_clause.new.types c.elaborate_clause.new.store (extended_twice w.types t1 c.elaborate_clause.new.types adds.kept now.kept) (now.kinds ∙ adds.kinds) (now.constants ∙ adds.constants) now.adds.before now.adds.typed
