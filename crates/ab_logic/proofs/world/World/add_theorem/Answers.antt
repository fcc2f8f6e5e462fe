use Rattle.std.proofs.Common.{◌≡◌, ◌∷◌, [], ◌++◌, List, sym, ◌∙◌, ap, subst}
use Rattle.ab_formulas.specs.Declarations.{a_theorem}
use Rattle.ab_logic.specs.WorldGrowth.{Grows}
use Rattle.ab_logic.specs.Worlds.{read, declarations_of}
use Rattle.ab_logic.specs.declared.additions.Added.{Added}
use Rattle.ab_logic.specs.declared.additions.Addition.TheVariants.{Theorem}
use Rattle.ab_logic.specs.declared.additions.TheoremEntry.{TheoremEntry}
use Rattle.ab_logic.proofs.Declaring.{length-declared}
use Rattle.ab_logic.proofs.Growing.{declares_more, grows_theorem}
use Rattle.ab_logic.proofs.world.World.add_theorem.Goals as goal

pub returns-clause-added : goal.returns-clause-added
returns-clause-added c =
    let w = c.args.self.now in
    let e : TheoremEntry = record { name = c.args.name; formula = c.args.formula; assumed = c.from_vec.result } in
    subst (λ (xs : List Added). declarations_of (record { types = w.types; store = w.store; additions = xs }) ≡ declarations_of w ++ a_theorem c.args.name (read w c.args.formula) c.args.assumed.items ∷ [])
    (sym c.in_ok-add_theorem.ensures.added) (declares_more w (record { what = Theorem e; before = c.count_declared-before.result }) c.requires.world (c.count_declared-before.ensures ∙ sym (length-declared w.types))
    ∙ ap (λ js. declarations_of w ++ a_theorem c.args.name (read w c.args.formula) js ∷ []) c.from_vec.ensures)

pub returns-clause-grows : goal.returns-clause-grows
returns-clause-grows c =
    let w = c.args.self.now in
    let e : TheoremEntry = record { name = c.args.name; formula = c.args.formula; assumed = c.from_vec.result } in
    subst (λ (xs : List Added). Grows w (record { types = w.types; store = w.store; additions = xs }))
    (sym c.in_ok-add_theorem.ensures.added) (grows_theorem w e c.count_declared-before.result c.requires.world (c.count_declared-before.ensures ∙ sym (length-declared w.types)) c.requires.formula c.requires.sentence)
