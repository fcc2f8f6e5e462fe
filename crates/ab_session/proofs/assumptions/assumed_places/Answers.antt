use Rattle.std.proofs.Common.{◌≡◌, [], suc, length, map, sym, ◌∙◌, ap, subst}
use Rattle.ab_formulas.specs.Declarations.{theorems_in}
use Rattle.ab_logic.specs.Worlds.{declarations_of}
use Rattle.ab_theory.specs.Derivations.{debts}
use Rattle.ab_theory.specs.Assumptions.{all_places, in_order, assumed_by}
use Rattle.ab_proofcmd.specs.ab_hypothesis.specs.ab_steps.specs.ab_kernel.specs.Debts.{debt_of}
use Rattle.ab_proofcmd.specs.ab_hypothesis.specs.ab_steps.specs.ab_kernel.specs.Layout.{history_of}
use Rattle.ab_session.specs.PlaceMarks.{Marks}
use Rattle.ab_session.proofs.DebtPlaces.{debts_alike, none_yet, marks_for_all, written, placed}
use Rattle.ab_session.proofs.assumptions.assumed_places.Goals as goal

pub returns : goal.returns
returns c =
    let w = c.args.world.now in
    let D = declarations_of w in
    let d = (history_of w c.args.proof.now).tree in
    let ts = map debt_of c.debts.result.now in
    let ms = c.mark_debts.new.marks in
    let none = c.in_ok-marks.ensures.items_if_clones_equal (λ y e. e) in
    let one_more = c.deref_mut.ensures.value ∙ c.in_ok-push.ensures.items in
    let begun : Marks c.deref_mut.result.now [] = none_yet c.in_ok-marks.marks.items c.deref_mut.result.now c.theorems.result none one_more in
    let same : c.deref.result.now ≡ ms = c.deref.ensures.value ∙ written ms _ c.push.new.self.len (c.mark_debts.ensures.length ∙ c.deref_mut.ensures.len) in
    let many : length c.deref.result.now ≡ suc (length (theorems_in D)) =
    ap length same ∙ c.mark_debts.ensures.length ∙ marks_for_all c.in_ok-marks.marks.items c.deref_mut.result.now c.theorems.result none one_more ∙ ap suc c.theorems.ensures in
    placed c.marked_places.result (in_order (length c.deref.result.now) (all_places D ts)) (assumed_by D d)
    (ap (λ n. in_order n (all_places D ts)) many ∙ debts_alike D ts (debts d) (c.debts.ensures w))
    (c.marked_places.ensures (all_places D ts) (subst (λ xs. Marks xs (all_places D ts)) (sym same) (c.mark_debts.ensures.marked [] begun)))
