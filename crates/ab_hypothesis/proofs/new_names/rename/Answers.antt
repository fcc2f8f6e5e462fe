use Rattle.std.specs.Prelude.{[], Some, None}
use Rattle.std.proofs.Common.{◌≡◌, ◌∷◌, refl, sym, ◌∙◌, ap, subst}
use Rattle.ab_formulas.specs.NewNames.{given, Names}
use Rattle.ab_formulas.specs.Sequents.{formula_of, IsUsed, assuming, without}
use Rattle.ab_logic.specs.Worlds.{read}
use Rattle.ab_steps.specs.ab_kernel.specs.Layout.{goals_of}
use Rattle.ab_steps.proofs.Following.{first_at, one_at_least}
use Rattle.ab_hypothesis.proofs.Rows.{no_formula, no_clash, renamed}
use Rattle.ab_hypothesis.proofs.new_names.rename.Goals as goal

pub shift-requires-clause-there : goal.shift-requires-clause-there
shift-requires-clause-there g c =
    let w = c.args.world.now in
    let p = c.args.proof.now in
    let one = one_at_least (goals_of w p) c.requires.open in
    record {
      before = [];
      behind = one.1;
      goal = one.0;
      at = first_at w p one.0 one.1 one.2;
      has = ap (λ s. formula_of s c.args.name.now) (sym (c.first_goal-goal.ensures.reads one.0 one.1 one.2)) ∙ sym (c.in-Some.ensures.reads w);
    }

pub unreachable-requires : goal.unreachable-requires
unreachable-requires g c =
    let w = c.args.world.now in
    let p = c.args.proof.now in
    let one = one_at_least (goals_of w p) c.requires.open in
    let used : IsUsed one.0 c.args.to.now = subst (IsUsed one.0) c.in_ok-given.ensures (c.in-Ok.ensures.unnamed c.if-moved.false [] one.1 one.0 (first_at w p one.0 one.1 one.2)) in
    let there = (c.uses.ensures w).1 (subst (λ s. IsUsed s c.args.to.now) (sym (c.first_goal-goal.ensures.reads one.0 one.1 one.2)) used) in
    let no = c.if-uses.false in
    cc

pub returns-then-moved-clause-applied : goal.returns-then-moved-clause-applied
returns-then-moved-clause-applied g c l s rest e =
    let w = c.args.world.now in
    let p = c.args.proof.now in
    let F = read w c.in-Some.formula in
    let here = c.first_goal-goal.ensures.reads s rest e in
    let has : formula_of s c.args.name.now ≡ Some F = ap (λ k. formula_of k c.args.name.now) (sym here) ∙ sym (c.in-Some.ensures.reads w) in
    let unused : formula_of s c.args.to.now ≡ None =
    no_formula s c.args.to.now (λ used. let yes = (c.uses.ensures w).1 (subst (λ k. IsUsed k c.args.to.now) (sym here) used) in let no = c.if-uses.false in cc) in
    let to = c.in-Ok.ensures.moved c.if-moved.true [] rest s (first_at w p s rest e) in
    let named : Names (given c.args.to.now) s to.name to.base = subst (λ x. Names (given x) s to.name to.base) c.in_ok-given.ensures to.names in (
      assuming c.args.to.now F (without c.args.name.now s) ∷ [],
      (no_clash s c.args.to.now unused, (F, has, refl)),
      to.at.goals ∙ ap (λ t. t ∷ rest) (renamed s to.base c.args.name.now c.args.to.now to.name F has named),
    )
