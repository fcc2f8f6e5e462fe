use Rattle.std.proofs.Common.{◌≡◌, ◌∷◌, [], ◌++◌, List, sym, ◌∙◌, subst}
use Rattle.ab_typing.specs.DefinitionReadings.{name_of, clause_of}
use Rattle.ab_formulas.specs.Declarations.{a_program_clause}
use Rattle.ab_logic.specs.WorldGrowth.{Grows}
use Rattle.ab_formulas.specs.Programs.{IsProgramProposed}
use Rattle.ab_logic.specs.Worlds.{read, clause_read, declarations_of, IsKeptProgramClause}
use Rattle.ab_logic.specs.declared.additions.Added.{Added}
use Rattle.ab_logic.specs.declared.additions.Addition.TheVariants.{Clause}
use Rattle.ab_logic.proofs.Declaring.{length-declared}
use Rattle.ab_logic.proofs.Growing.{declares_more, grows_clause, same_constants}
use Rattle.ab_logic.proofs.Programs.{is_headed}
use Rattle.ab_logic.proofs.world.World.add_clause.Goals as goal

pub returns-clause-added : goal.returns-clause-added
returns-clause-added g c =
    let w = c.args.self.now in
    subst (λ (xs : List Added). declarations_of (record { types = w.types; store = w.store; additions = xs }) ≡ declarations_of w ++ a_program_clause (clause_read w c.args.clause) ∷ [])
    (sym c.in_ok-add_clause.ensures.added) (declares_more w (record { what = Clause c.args.clause c.in-Some.head; before = c.count_declared-before.result }) c.requires.world (c.count_declared-before.ensures ∙ sym (length-declared w.types)))

pub returns-clause-grows : goal.returns-clause-grows
returns-clause-grows g c =
    let w = c.args.self.now in
    let clause = c.args.clause in
    let kept : IsKeptProgramClause w.types w.store clause = record {
      held = c.requires.held;
      well = (
        subst (λ sg. IsProgramProposed sg (clause_of w.types w.store clause)) (sym (same_constants w c.requires.world)) c.requires.proposed,
        is_headed (read w clause.head) (name_of w.types c.in-Some.head) (sym c.in-Some.ensures.reads),
      );
    } in
    subst (λ (xs : List Added). Grows w (record { types = w.types; store = w.store; additions = xs }))
    (sym c.in_ok-add_clause.ensures.added) (grows_clause w clause c.in-Some.head c.count_declared-before.result c.requires.world (c.count_declared-before.ensures ∙ sym (length-declared w.types)) kept (record { held = c.in-Some.ensures.held; is = sym c.in-Some.ensures.reads }))
