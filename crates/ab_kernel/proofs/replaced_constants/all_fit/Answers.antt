use Rattle.std.specs.Prelude.{IsTrue, ◌↔◌}
use Rattle.std.specs.List.{All}
use Rattle.std.proofs.Common.{◌≡◌, ◌<◌, List, length, map, get_or, refl, subst, arith, rules}
use Rattle.std.proofs.lemmas.List.{get_or_default}
use Rattle.ab_norm.specs.ab_types.specs.Entries.{signature}
use Rattle.ab_norm.specs.ab_types.specs.Ids.{type_of}
use Rattle.ab_norm.specs.ab_store.specs.declared.node.TermId.{TermId}
use Rattle.ab_typing.specs.Cells as cells
use Rattle.ab_formulas.specs.GoalTerms as fitting
use Rattle.ab_logic.specs.Worlds.{read}
use Rattle.ab_rules.specs.RuleAnswers.{HoldsReplace}
use Rattle.ab_rules.specs.declared.replaces.Replace.{Replace}
use Rattle.ab_rules.proofs.Words.{all_held, all_formulas}
use Rattle.ab_kernel.proofs.Replacing.{fit_none, fit_whole, fits_not, fit_more}
use Rattle.ab_kernel.proofs.replaced_constants.all_fit.Goals as goal

pub loop-replace-init : goal.loop-replace-init
loop-replace-init c =
    let w = c.args.world.now in
    let s = c.args.sequent.now in
    fit_none w c.requires.world s c.args.replaces.now c.in_ok-before.before.items (all_held w s c.requires.held c.in_ok-before.before.items c.in_ok-before.ensures) (all_formulas w s c.in_ok-before.before.items c.in_ok-before.ensures)

pub returns-then-not-branch : goal.returns-then-not-branch
returns-then-not-branch c =
    let w = c.args.world.now in
    let rs = c.args.replaces.now in
    let i = c.loop-replace.replace-index in
    let none : Replace = record { from = record { number = 0; ty = record { 0 = 0 } }; to = record { 0 = 0 } } in
    let r = get_or rs i none in
    let inside : i < length rs = omega arith in
    let here : get_or rs i r ≡ r = get_or_default rs i r none inside in
    let xs = c.as_slice-variables.result.now in
    let fit = c.in_ok-fits.field-0 in
    let told : IsTrue fit ↔ fitting.Fits (signature w.types) (map (cells.variable_of w.types w.store) xs) (map (read w) c.loop-replace.before.items) (read w r.to) (type_of w.types r.from.ty) =
    subst (λ (ids : List TermId). IsTrue fit ↔ fitting.Fits (signature w.types) (map (cells.variable_of w.types w.store) xs) (map (read w) ids) (read w r.to) (type_of w.types r.from.ty)) c.deref.ensures.value c.in_ok-fits.ensures in (
      λ t. absurd (cc),
      λ all.
          absurd
          (fits_not w c.requires.world c.args.sequent.now rs i c.loop-replace.before.items c.loop-replace.invariant r inside here xs fit c.as_slice-variables.ensures told (λ t. let fails = c.if-not-branch.true in cc) all),
    )

pub loop-replace-preserved : goal.loop-replace-preserved
loop-replace-preserved c =
    let w = c.args.world.now in
    let rs = c.args.replaces.now in
    let i = c.loop-replace.replace-index in
    let none : Replace = record { from = record { number = 0; ty = record { 0 = 0 } }; to = record { 0 = 0 } } in
    let r = get_or rs i none in
    let inside : i < length rs = omega arith in
    let here : get_or rs i r ≡ r = get_or_default rs i r none inside in
    let xs = c.as_slice-variables.result.now in
    let fit = c.in_ok-fits.field-0 in
    let holds : HoldsReplace w r = subst (HoldsReplace w) here (c.requires.replaces i r inside) in
    let told : IsTrue fit ↔ fitting.Fits (signature w.types) (map (cells.variable_of w.types w.store) xs) (map (read w) c.loop-replace.before.items) (read w r.to) (type_of w.types r.from.ty) =
    subst (λ (ids : List TermId). IsTrue fit ↔ fitting.Fits (signature w.types) (map (cells.variable_of w.types w.store) xs) (map (read w) ids) (read w r.to) (type_of w.types r.from.ty)) c.deref.ensures.value c.in_ok-fits.ensures in
    fit_more w c.requires.world c.args.sequent.now rs i c.loop-replace.before.items c.loop-replace.invariant r inside here xs fit c.as_slice-variables.ensures told c.push.new.self.items c.in_ok-push.ensures.items holds.1 (search rules)

pub returns : goal.returns
returns c = (
  λ t. fit_whole c.args.world.now c.requires.world c.args.sequent.now c.args.replaces.now c.loop-replace.replace-index c.loop-replace.before.items c.loop-replace.invariant (omega arith),
  λ all. refl,
)
