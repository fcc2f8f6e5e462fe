use Rattle.std.specs.Prelude.{IsTrue, ◌↔◌}
use Rattle.std.proofs.Common.{◌≡◌, List, Bool, arith, true, false, Contains, refl, ap, map, sym, ◌∙◌, subst}
use Rattle.ab_norm.specs.ab_store.specs.declared.node.CellId.{CellId}
use Rattle.ab_logic.specs.Worlds.{variable_of}
use Rattle.ab_formulas.specs.Sequents.{Variable}
use Rattle.ab_equations.proofs.Variables.{name_there, no_name}
use Rattle.ab_equations.proofs.variable.is_variable.Goals as goal

pub returns-then-eq : goal.returns-then-eq
returns-then-eq c = (
  λ t. subst (λ (cs : List CellId). Contains (map (λ (x : Variable). x.name) (map (variable_of c.args.world.now) cs)) c.args.name.now) c.as_slice-cell-items.ensures
      (name_there c.args.world.now c.as_slice-cell-items.result.now c.args.name.now _ _ c.loop-cell-test.true (sym c.cell_name.ensures ∙ c.eq.ensures.decides.0 c.if-eq.true)),
  λ there. refl,
)

pub returns : goal.returns
returns c = (
  λ t. let no : false ≡ true = t in cc,
  λ there. absurd (no_name c.args.world.now c.as_slice-cell-items.result.now c.args.name.now
      (λ i d l. let done = c.loop-cell-test.false in c.loop-cell.invariant i d (omega arith))
      (subst (λ (cs : List CellId). Contains (map (λ (x : Variable). x.name) (map (variable_of c.args.world.now) cs)) c.args.name.now) (sym c.as_slice-cell-items.ensures) there)),
)
