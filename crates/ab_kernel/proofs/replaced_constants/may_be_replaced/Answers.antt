use Rattle.std.specs.Prelude.{IsTrue}
use Rattle.std.specs.List.{All, AllPairs, Contains}
use Rattle.std.proofs.Common.{◌≡◌, ◌≢◌, List, refl, sym, ◌∙◌, subst, rules}
use Rattle.ab_norm.specs.declared.nominal.Nominal.{Nominal}
use Rattle.ab_logic.specs.Worlds.{read}
use Rattle.ab_kernel.proofs.Replacing.{told_differ, told_may}
use Rattle.ab_kernel.proofs.replaced_constants.may_be_replaced.Goals as goal

pub returns-then-not-are_different : goal.returns-then-not-are_different
returns-then-not-are_different c = (
  λ t. absurd (cc),
  λ may.
      let w = c.args.world.now in
      let differ = told_differ w c.has_unique_ids.ensures.table (read w c.args.formula) c.args.replaces.now c.requires.replaces c.deref.result.now (c.deref.ensures.value ∙ c.in_ok-constants.ensures) may in
      let yes = c.are_different.ensures.1 differ in
      let no = c.if-not-are_different.true in
      absurd (cc),
)

pub returns : goal.returns
returns c =
    let w = c.args.world.now in
    let F = read w c.args.formula in
    let rs = c.args.replaces.now in
    let ids = c.in_ok-constants.constants.items in
    let ok = c.has_unique_ids.ensures.table in
    let told = told_may w ok F rs c.requires.replaces ids c.in_ok-constants.ensures c.in_ok-there.there.items c.in_ok-there.ensures.held c.in_ok-there.ensures.support in
    let different : IsTrue c.are_different.result = search rules in
    let differ : AllPairs (λ a b. a ≢ b) ids = subst (AllPairs (λ a b. a ≢ b)) c.deref.ensures.value (c.are_different.ensures.0 different) in
    let among : IsTrue c.are_among.result → All (Contains c.in_ok-there.there.items) ids = λ t. subst (λ l. All (Contains l) ids) c.deref-3.ensures.value (subst (All (Contains c.deref-3.result.now)) c.deref-2.ensures.value (c.are_among.ensures.0 t)) in (
      λ t. told.0 (differ, among t),
      λ may. c.are_among.ensures.1 (subst (λ l. All (Contains l) c.deref-2.result.now) (sym c.deref-3.ensures.value) (subst (All (Contains c.in_ok-there.there.items)) (sym c.deref-2.ensures.value) (told.1 may).1)),
    )
