-- A hypothesis is removed, put behind the others once more, or named anew there, step by step.
use Rattle.std.specs.Prelude.{Result, Ok, Err, OnOk}
use Rattle.std.proofs.Common.{◌≡◌, ℕ, List, [], ◌∷◌, ◌++◌, Some, sym, ◌∙◌, ap, subst, append_assoc}
use Rattle.ab_term.specs.Terms.{Read}
use Rattle.ab_unify.specs.Problem.{cells_read}
use Rattle.ab_formulas.specs.NewNames.{Label, Names, NoName}
use Rattle.ab_formulas.specs.Sequents.{Sequent, named, formula_of, proving, assuming, without}
use Rattle.ab_logic.specs.Worlds.{IsWorld, declarations_of}
use Rattle.ab_logic.specs.declared.world.World.{World}
use Rattle.ab_theory.specs.Steps.{weaken, initial, cut_formula}
use Rattle.ab_steps.specs.ab_kernel.specs.Layout.{Held, IsProof}
use Rattle.ab_steps.specs.Progress.{IsAt, Took, FailsAt, Holds as Sure}
use Rattle.ab_steps.proofs.Following.{one_goal}
use Rattle.ab_hypothesis.specs.HypothesisProgress.{HasAt, CopiedTo, MovedTo}
use Rattle.ab_hypothesis.proofs.Hypotheses.{entry, named_stays}
use Rattle.ab_hypothesis.proofs.Owned.{named_hypotheses}
use Rattle.ab_hypothesis.proofs.Goes.{holds_at, is_sequent}
use Rattle.ab_hypothesis.proofs.StepsTaken.{weakened}
use Rattle.ab_hypothesis.proofs.Sure.{weakens, closes, uncut}

pub on_ok : {A E P Q : Type 0} (r : Result A E) → (P → Q) → OnOk r P → OnOk r Q
on_ok (Ok x) f p = f p
on_ok (Err e) f p = p

module _ (w : World) (p : Held) (place : ℕ) (name : List ℕ) (F : Read) (there : HasAt w p place name F) where
  -- any goal of the place has it
  pub has_at : (before behind : List Sequent) (k : Sequent) → IsAt w p place before k behind → formula_of k name ≡ Some F
  has_at before behind k at =
      subst (λ s. formula_of s name ≡ Some F) (one_goal w p place there.before there.behind before behind there.goal k there.at at) there.has

  pub weaken_sure : (x : List ℕ) → x ≡ name → Sure w p place (weaken x)
  weaken_sure x e =
      subst (λ z. Sure w p place (weaken z)) (sym e)
      (holds_at w p place (weaken name) there.before there.behind there.goal there.at (weakens (declarations_of w) (cells_read w.types w.store) there.goal name F there.has))

  pub forgotten : (v : World) (q : Held) (x : List ℕ) → x ≡ name → Took w p v q place (weaken x)
      → (before behind : List Sequent) (k : Sequent) → IsAt w p place before k behind → IsAt v q place before (without name k) behind
  forgotten v q x e took before behind k at =
      weakened (declarations_of w) k name v q place before behind at.counted (subst (λ z. Took w p v q place (weaken z)) e took before behind k at)

  -- a cut with the formula: its first goal is closed by the hypothesis

  pub record CutAt (l : Label) (k : Sequent) (v : World) (q : Held) (before behind : List Sequent) : Type 0 where
    pub label : List ℕ
    pub base : Sequent
    pub names : Names l k label base
    pub first : IsAt v q place before (proving F k) (assuming label F base ∷ behind)

  pub cut_at : (v : World) (q : Held) (l : Label) → Took w p v q place (cut_formula F l)
      → (before behind : List Sequent) (k : Sequent) → IsAt w p place before k behind → CutAt l k v q before behind
  cut_at v q l took before behind k at =
      let t = took before behind k at in
      let led : t.0 ≡ proving F k ∷ assuming t.1.2.1.0 F t.1.2.1.1 ∷ [] = t.1.2.1.3 in
      record {
        label = t.1.2.1.0;
        base = t.1.2.1.1;
        names = t.1.2.1.2;
        first = record {
          goals = t.2 ∙ ap (λ ps. before ++ ps ++ behind) led ∙ append_assoc before (proving F k ∷ assuming t.1.2.1.0 F t.1.2.1.1 ∷ []) behind;
          counted = at.counted;
        };
      }

  pub initial_sure : (v : World) (q : Held) (l : Label) → declarations_of v ≡ declarations_of w → Took w p v q place (cut_formula F l) → (x : List ℕ) → x ≡ name → Sure v q place (initial x)
  initial_sure v q l same took x e =
      let cut = cut_at v q l took there.before there.behind there.goal there.at in
      subst (λ z. Sure v q place (initial z)) (sym e)
      (holds_at v q place (initial name) there.before (assuming cut.label F cut.base ∷ there.behind) (proving F there.goal) cut.first
      (closes (declarations_of v) (cells_read v.types v.store) there.goal name F there.has))

  pub copied : (v u : World) (q r : Held) (l : Label) → Took w p v q place (cut_formula F l) → (x : List ℕ) → x ≡ name → Took v q u r place (initial x)
      → (before behind : List Sequent) (k : Sequent) → IsAt w p place before k behind → CopiedTo l F k u r place before behind
  copied v u q r l took x e closing before behind k at =
      let cut = cut_at v q l took before behind k at in
      let t = closing before (assuming cut.label F cut.base ∷ behind) (proving F k) cut.first in
      let led : t.0 ≡ [] = t.1.2.2.1.1 in
      record {
        name = cut.label;
        base = cut.base;
        names = cut.names;
        at = record {
          goals = t.2 ∙ ap (λ ps. before ++ ps ++ assuming cut.label F cut.base ∷ behind) led ∙ append_assoc before [] (assuming cut.label F cut.base ∷ behind);
          counted = at.counted;
        };
      }

  pub not_named : (l : Label) → IsWorld w → IsProof w p → FailsAt w p place (cut_formula F l)
      → (before behind : List Sequent) (k : Sequent) → IsAt w p place before k behind → NoName l k
  not_named l world proof fails before behind k at =
      let f = fails before behind k at in
      uncut (declarations_of w) (cells_read w.types w.store) k name F (has_at before behind k at) l (is_sequent w p place before behind k world proof at) f.0 f.1

  -- it is still there with the copy behind it
  pub still_at : (v : World) (q : Held) (l : Label)
      → ((before behind : List Sequent) (k : Sequent) → IsAt w p place before k behind → CopiedTo l F k v q place before behind)
      → HasAt v q place name F
  still_at v q l copied =
      let to = copied there.before there.behind there.goal there.at in
      record {
        before = there.before;
        behind = there.behind;
        goal = assuming to.name F to.base;
        at = to.at;
        has = named_stays to.base.hypotheses (entry to.name F ∷ []) name F (ap (λ hs. named hs name) (named_hypotheses l there.goal to.name to.base to.names) ∙ there.has);
      }

  pub moved : (v u : World) (q r : Held) (l : Label)
      → ((before behind : List Sequent) (k : Sequent) → IsAt w p place before k behind → CopiedTo l F k v q place before behind)
      → ((before behind : List Sequent) (k : Sequent) → IsAt v q place before k behind → IsAt u r place before (without name k) behind)
      → (before behind : List Sequent) (k : Sequent) → IsAt w p place before k behind → MovedTo l F name k u r place before behind
  moved v u q r l copied gone before behind k at =
      let to = copied before behind k at in
      record { name = to.name; base = to.base; names = to.names; at = gone before behind (assuming to.name F to.base) to.at }
