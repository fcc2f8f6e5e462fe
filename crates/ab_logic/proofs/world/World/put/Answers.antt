use Rattle.std.proofs.Common.{◌≡◌, ◌∷◌, [], ◌++◌, List, sym, ◌∙◌, subst}
use Rattle.ab_formulas.specs.Declarations.{a_block}
use Rattle.ab_logic.specs.WorldGrowth.{Grows}
use Rattle.ab_logic.specs.Worlds.{definition_of, declarations_of}
use Rattle.ab_logic.specs.declared.additions.Added.{Added}
use Rattle.ab_logic.specs.declared.additions.Addition.TheVariants.{Definition}
use Rattle.ab_logic.proofs.Declaring.{length-declared}
use Rattle.ab_logic.proofs.Growing.{declares_more, grows_block}
use Rattle.ab_logic.proofs.world.World.put.Goals as goal

pub returns-clause-added : goal.returns-clause-added
returns-clause-added c =
    let w = c.args.self.now in
    subst (λ (xs : List Added). declarations_of (record { types = w.types; store = w.store; additions = xs }) ≡ declarations_of w ++ a_block (definition_of w c.args.block) ∷ [])
    (sym c.in_ok-add_definition.ensures.added) (declares_more w (record { what = Definition c.args.block; before = c.count_declared-before.result }) c.requires.world (c.count_declared-before.ensures ∙ sym (length-declared w.types)))

pub returns-clause-grows : goal.returns-clause-grows
returns-clause-grows c =
    let w = c.args.self.now in
    subst (λ (xs : List Added). Grows w (record { types = w.types; store = w.store; additions = xs }))
    (sym c.in_ok-add_definition.ensures.added) (grows_block w c.args.block c.count_declared-before.result c.requires.world (c.count_declared-before.ensures ∙ sym (length-declared w.types)) c.requires.kept)
