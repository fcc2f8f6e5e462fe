use Rattle.std.proofs.Common.{◌≡◌, List, sym, subst}
use Rattle.ab_formulas.specs.Declarations.{with_first}
use Rattle.ab_logic.specs.Worlds.{declarations_of, IsWorld}
use Rattle.ab_logic.specs.declared.additions.Added.{Added}
use Rattle.ab_logic.proofs.Shortened.{with_additions, declares_front, world_front}
use Rattle.ab_logic.proofs.world.World.cut_to.Goals as goal

pub returns-clause-declares : goal.returns-clause-declares
returns-clause-declares g c = λ is.
    let w = c.args.self.now in
    subst (λ (xs : List Added). declarations_of (with_additions w xs) ≡ with_first c.args.len (declarations_of w)) (sym c.truncate.ensures) (declares_front w c.args.len is)

pub returns-clause-world : goal.returns-clause-world
returns-clause-world g c = λ is.
    let w = c.args.self.now in
    subst (λ (xs : List Added). IsWorld (with_additions w xs)) (sym c.truncate.ensures) (world_front w c.args.len is)
