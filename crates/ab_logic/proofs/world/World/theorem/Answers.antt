use Rattle.std.specs.Prelude.{IfSome}
use Rattle.std.specs.Option.{option_map}
use Rattle.std.proofs.Common.{◌≡◌, Option, Some, None, refl, ◌∙◌, sym, ap, subst}
use Rattle.ab_logic.specs.Additions.{entry_in}
use Rattle.ab_logic.specs.Worlds.{read, Holds, IsKept}
use Rattle.ab_logic.specs.declared.world.World.{World}
use Rattle.ab_logic.specs.declared.additions.TheoremEntry.{TheoremEntry}
use Rattle.ab_logic.proofs.Declaring.{theorem_found}
use Rattle.ab_logic.proofs.Lookups.{held_entry}
use Rattle.ab_logic.proofs.world.World.theorem.Goals as goal

twice : (w : World) (o : Option TheoremEntry) → option_map (read w) (option_map (λ (e : TheoremEntry). e.formula) o) ≡ option_map (λ (e : TheoremEntry). read w e.formula) o
twice w None = refl
twice w (Some e) = refl

pub returns-clause-reads : goal.returns-clause-reads
returns-clause-reads c =
    let w = c.args.self.now in
    ap (option_map (read w)) c.formula.ensures ∙ twice w (entry_in w.additions c.args.name.now) ∙ sym (theorem_found w 0 w.additions c.args.name.now)

pub returns-clause-held : goal.returns-clause-held
returns-clause-held c =
    let w = c.args.self.now in
    subst (λ o. IfSome o (Holds w)) (sym c.formula.ensures) (held_entry (IsKept w.types w.store) (Holds w) (λ e k. k) w.additions c.args.name.now c.requires.additions)
