-- What `refine` shows at its returns: that a rule failed, or that the fields stand for the proof
-- after the step.
use Rattle.std.specs.Prelude.{slice_get, Result, Ok, Err, IsErrAnd}
use Rattle.std.specs.List.{All}
use Rattle.std.proofs.Common.{◌≡◌, ℕ, ◌+◌, ◌<◌, ◌≤◌, Some, List, ◌∷◌, ◌++◌, length, map, take, drop, get_or, sym, ◌∙◌, ap, subst, arith}
use Rattle.std.proofs.lemmas.List.{map-append, length-map}
use Rattle.std.proofs.lemmas.List.Elements.{All-cons, All-weaker}
use Rattle.ab_logic.specs.declared.world.World.{World}
use Rattle.ab_rules.specs.declared.step.Step.{Step}
use Rattle.ab_kernel.specs.Layout.{StepAt, numbers_down, made_by, Stands}
use Rattle.ab_logic.specs.declared.sequent.Sequent.{Sequent as Kept}
use Rattle.ab_formulas.specs.Sequents.{Sequent}
use Rattle.ab_logic.specs.SequentReadings.{sequent_of}
use Rattle.ab_rules.specs.RuleAnswers.{step_of}
use Rattle.ab_formulas.specs.Declarations.{Declarations}
use Rattle.ab_theory.specs.Rules.{NamedRule}
use Rattle.ab_theory.specs.Derivations.{open_goals, History, after, IsStep}
use Rattle.ab_kernel.proofs.Standing.{reads_now, as_many, leads, kept_at, made_after, stands_after, is_step}

pub err_is : {T E : Type 0} (r : Result T E) (f : E) → IsErrAnd r (λ e. e ≡ f) → r ≡ Err f
err_is (Ok x) f h = absurd h
err_is (Err e) f h = ap Err h

pub in_range : (w : World) (ss : List Sequent) (ns : List ℕ) (rs : List StepAt) (h : History) (place : ℕ)
    → Stands w ss ns rs → made_by w ss rs ≡ h → place < length (open_goals h.tree) → place < length ns
in_range w ss ns rs h place stands made inside =
    omega (arith, as_many (reads_now w ss ns rs stands), ap (λ k. length (open_goals k.tree)) made)

-- the sequent that is read is that of the goal
pub goal_taken : (w : World) (items : List Kept) (ns : List ℕ) (rs : List StepAt) (h : History) (place at n : ℕ) (x : Kept)
    → Stands w (map (sequent_of w) items) ns rs → made_by w (map (sequent_of w) items) rs ≡ h → place + at + 1 ≡ length ns
    → n ≡ get_or ns at n → x ≡ get_or items n x → slice_get (open_goals h.tree) place ≡ Some (sequent_of w x)
goal_taken w items ns rs h place at n x stands made e is_n is_x =
    let found = leads place at n (reads_now w _ ns rs stands) e is_n in
    let same = kept_at w items n x found.0 found.1 is_x in
    ap (λ k. slice_get (open_goals k.tree) place) (sym made) ∙ found.2 ∙ ap Some (sym same)

pub record Taken (w : World) (ss : List Sequent) (ns : List ℕ) (rs : List StepAt) (place : ℕ) (step : Step) (count : ℕ) (premises : List Sequent) (s : Sequent) (h : History) : Type 0 where
  pub stands : Stands w ss ns rs
  pub made : made_by w ss rs ≡ after place (step_of w step) premises h
  pub by_step : (D : Declarations) → NamedRule D (step_of w step) s premises → IsStep D place (step_of w step) count h (made_by w ss rs)

pub taken : (w : World) (items made items' : List Kept) (ns ns' : List ℕ) (rs rs' : List StepAt) (h : History) (place at node first count : ℕ) (step : Step) (s : Sequent)
    → Stands w (map (sequent_of w) items) ns rs → made_by w (map (sequent_of w) items) rs ≡ h
    → slice_get (open_goals h.tree) place ≡ Some s
    → place + at + 1 ≡ length ns → node ≡ get_or ns at node → first ≡ length items → count ≡ length made
    → items' ≡ items ++ made
    → ns' ≡ take at ns ++ numbers_down first count ++ drop (at + 1) ns
    → rs' ≡ record { step = step; place = place; node = node; premises = count } ∷ rs
    → Taken w (map (sequent_of w) items') ns' rs' place step count (map (sequent_of w) made) s h
taken w items made items' ns ns' rs rs' h place at node first count step s stands is is_goal e is_node is_first is_count is_items is_ns is_rs =
    let ss = map (sequent_of w) items in
    let ps = map (sequent_of w) made in
    let first_is : first ≡ length ss = is_first ∙ sym (length-map items (sequent_of w)) in
    let count_is : count ≡ length ps = is_count ∙ sym (length-map made (sequent_of w)) in
    let sequents : map (sequent_of w) items' ≡ ss ++ ps = ap (map (sequent_of w)) is_items ∙ map-append (sequent_of w) items made in
    let found = leads place at node (reads_now w ss ns rs stands) e is_node in
    let there : slice_get (open_goals (made_by w ss rs).tree) place ≡ Some s = ap (λ k. slice_get (open_goals k.tree) place) is ∙ is_goal in
    let r : ℕ → StepAt = λ n. record { step = step; place = place; node = node; premises = n } in
    let numbers : ns' ≡ take at ns ++ numbers_down (length ss) (length ps) ++ drop (at + 1) ns =
    is_ns
    ∙ ap (λ n. take at ns ++ numbers_down n count ++ drop (at + 1) ns) first_is
    ∙ ap (λ n. take at ns ++ numbers_down (length ss) n ++ drop (at + 1) ns) count_is in
    let steps : rs' ≡ r (length ps) ∷ rs = is_rs ∙ ap (λ n. r n ∷ rs) count_is in
    let made_is = made_after w ss ns rs stands step ps place at node in
    let stands_now = stands_after w ss ns rs stands step ps place at node s e found.3 there in
    let step_now = is_step w ss ns rs stands step ps place at node s e found.3 there in
    let whole : made_by w (map (sequent_of w) items') rs' ≡ after place (step_of w step) ps h =
    ap (λ qs. made_by w qs rs') sequents ∙ ap (λ us. made_by w (ss ++ ps) us) steps ∙ made_is ∙ ap (after place (step_of w step) ps) is in
    record {
      stands =
          subst (λ qs. Stands w qs ns' rs') (sym sequents)
          (subst (λ ms. Stands w (ss ++ ps) ms rs') (sym numbers)
          (subst (λ us. Stands w (ss ++ ps) (take at ns ++ numbers_down (length ss) (length ps) ++ drop (at + 1) ns) us) (sym steps) stands_now));
      made = whole;
      by_step = λ D rule.
          subst (λ k. IsStep D place (step_of w step) count h k) (sym whole)
          (subst (λ n. IsStep D place (step_of w step) n h (after place (step_of w step) ps h)) (sym count_is)
          (subst (λ k. IsStep D place (step_of w step) (length ps) k (after place (step_of w step) ps k)) is (step_now D rule)));
    }

-- the room for taking the step back
pub room_after : (h : History) (room more : ℕ) → All (λ d. length (open_goals d) ≤ room) h.earlier → room ≤ more → length (open_goals h.tree) ≤ more
    → All (λ d. length (open_goals d) ≤ more) (h.tree ∷ h.earlier)
room_after h room more all below here =
    All-cons (λ d. length (open_goals d) ≤ more) h.tree h.earlier here
    (All-weaker (λ d. length (open_goals d) ≤ room) (λ d. length (open_goals d) ≤ more) (λ d e. omega arith) h.earlier all)
