-- Terms that are given, in a world that may have grown; and a formula that is opened beside them.
use Rattle.std.specs.Prelude.{slice_get}
use Rattle.std.proofs.Common.{◌≡◌, ℕ, List, [], ◌∷◌, Some, map, length, refl, sym, ◌∙◌, ap, subst}
use Rattle.ab_norm.specs.ab_types.specs.Entries as table
use Rattle.ab_norm.specs.ab_types.specs.Entries.{Table}
use Rattle.ab_norm.specs.ab_types.specs.Ids.{type_of, HoldsType}
use Rattle.ab_norm.specs.ab_types.specs.declared.ids.TypeId.{TypeId}
use Rattle.ab_norm.specs.ab_types.proofs.Entries.{same_type, type_still_held}
use Rattle.ab_term.specs.Terms.{Read}
use Rattle.ab_norm.specs.ab_store.specs.declared.node.TermId.{TermId}
use Rattle.ab_formulas.specs.Declarations.{Declarations}
use Rattle.ab_logic.specs.WorldGrowth.{Grows}
use Rattle.ab_formulas.specs.NewNames.{Label}
use Rattle.ab_logic.specs.SequentReadings.{sequent_of}
use Rattle.ab_formulas.specs.Sequents.{Sequent, formula_of, proving, without}
use Rattle.ab_logic.specs.Worlds.{Holds, read, declarations_of}
use Rattle.ab_logic.specs.declared.world.World.{World}
use Rattle.ab_logic.specs.declared.sequent.Sequent.{Sequent as Kept}
use Rattle.ab_theory.specs.Derivations.{open_goals}
use Rattle.ab_hypothesis.specs.ab_steps.specs.ab_kernel.specs.Layout.{Held, history_of, IsProof, goals_of}
use Rattle.ab_hypothesis.specs.ab_steps.specs.ab_kernel.proofs.Later.{same_history, still_proof}
use Rattle.ab_theory.specs.Pieces.{Given}
use Rattle.ab_theory.specs.Uses.{implied}
use Rattle.ab_uses.specs.GivenReadings.{given_of}
use Rattle.ab_uses.specs.declared.given_terms.GivenTerm.{GivenTerm}
use Rattle.ab_effects.specs.Openings.{Opened, Nameless}
use Rattle.ab_effects.specs.FormulaUses.{itself, given_that, OpenedBeside, NamelessBeside}
use Rattle.ab_hypothesis.specs.ab_steps.specs.Progress.{IsAt, Follows}
use Rattle.ab_hypothesis.specs.ab_steps.proofs.Following.{follows_same, found}
use Rattle.ab_hypothesis.specs.HypothesisProgress.{HasAt, OpenedTo}
use Rattle.ab_proofcmd.specs.GoalCounts.{Turns, OpensBeside, CantOpenBeside}

abbrev pub HoldsGiven : World → GivenTerm → Type 0
HoldsGiven w g = Holds w g.value × HoldsType w.types g.ty

type_later : (s t : Table) (A : TypeId) → table.IsExtendedBy s t → HoldsType s A → type_of t A ≡ type_of s A
type_later s t A (more, e) h = ap (λ u. type_of u A) e ∙ same_type s more A h

given_later : (w v : World) → Grows w v → (g : GivenTerm) → HoldsGiven w g → given_of v g ≡ given_of w g
given_later w v grown g held =
    ap (λ A. record { name = g.name; type = A; value = read v g.value }) (type_later w.types v.types g.ty grown.types held.1)
    ∙ ap (λ t. record { name = g.name; type = type_of w.types g.ty; value = t }) (grown.readings g.value held.0)

pub one_there : (w v : World) → Grows w v → (g : GivenTerm) → HoldsGiven w g → HoldsGiven v g
one_there w v grown g held = (grown.ids g.value held.0, type_still_held w.types v.types grown.types g.ty held.1)

-- one term more equals itself
pub said_more : (w u v x : World) (gs rest : List GivenTerm) (g : GivenTerm) (formula others equation t : TermId) → gs ≡ g ∷ rest → HoldsGiven w g → Grows w u → Grows u v → Holds u others
    → read u others ≡ given_that (map (given_of w) rest) (read w formula) → read v equation ≡ itself (given_of u g)
    → read x t ≡ implied (read v equation) (read v others) → read x t ≡ given_that (map (given_of w) gs) (read w formula)
said_more w u v x gs rest g formula others equation t whole there one two held r e made =
    made
    ∙ ap (λ E. implied E (read v others)) (e ∙ ap itself (given_later w u one g there))
    ∙ ap (implied (itself (given_of w g))) (two.readings others held ∙ r)
    ∙ sym (ap (λ l. given_that (map (given_of w) l) (read w formula)) whole)

-- the proof is the same in a world that grew
pub goals_later : (w v : World) → Grows w v → (p : Held) → IsProof w p → goals_of v p ≡ goals_of w p
goals_later w v grown p proof = ap (λ h. open_goals h.tree) (same_history w v grown p proof)

pub at_later : (w v : World) → Grows w v → (p : Held) → IsProof w p → (place : ℕ) (before behind : List Sequent) (k : Sequent) → IsAt w p place before k behind → IsAt v p place before k behind
at_later w v grown p proof place before behind k at = record { goals = goals_later w v grown p proof ∙ at.goals; counted = at.counted }

pub follows_later : (w v : World) (p : Held) → Grows w v → declarations_of v ≡ declarations_of w → IsProof w p → Follows w p v p
follows_later w v p grown declared proof = follows_same w v p p grown declared proof (still_proof w v grown declared p proof) refl

-- the conclusion of the goal of a place
abbrev pub Concludes : World → Held → ℕ → Read → Type 0
Concludes w p place C = (before behind : List Sequent) (k : Sequent) → IsAt w p place before k behind → k.conclusion ≡ C

pub conclusion_at : (w : World) (p : Held) (place : ℕ) (goal : Kept) → Some (sequent_of w goal) ≡ slice_get (goals_of w p) place → Concludes w p place (read w goal.conclusion)
conclusion_at w p place goal reads before behind k at =
    let both : Some (sequent_of w goal) ≡ Some k = reads ∙ found w p place before behind k at in
    let same : k ≡ sequent_of w goal = cc in
    ap (λ (s : Sequent). s.conclusion) same

-- where the conclusion was changed, the hypothesis stands still
pub has_still : (w u v : World) (p q : Held) (place : ℕ) (y : List ℕ) (F G E : Read) → Grows w u → IsProof w p → HasAt w p place y F → Turns u p v q place E → G ≡ F → HasAt v q place y G
has_still w u v p q place y F G E grown proof there turns same = record {
  before = there.before;
  behind = there.behind;
  goal = proving E there.goal;
  at = turns there.before there.behind there.goal (at_later w u grown p proof place there.before there.behind there.goal there.at);
  has = there.has ∙ ap (λ x. Some x) (sym same);
}

module _ (w u v : World) (p q : Held) (place : ℕ) (l : Label) (y : List ℕ) (gs : List Given) (F G C E : Read) (grown : Grows w u) (proof : IsProof w p)
    (ends : Concludes w p place C) (said : E ≡ given_that gs C) (turns : Turns u p v q place E) (same : G ≡ F) (declared : declarations_of v ≡ declarations_of w) where
  turned_at : (before behind : List Sequent) (k : Sequent) → IsAt w p place before k behind → IsAt v q place before (proving E k) behind
  turned_at before behind k at = turns before behind k (at_later w u grown p proof place before behind k at)

  conclusion_is : (before behind : List Sequent) (k : Sequent) → IsAt w p place before k behind → E ≡ given_that gs k.conclusion
  conclusion_is before behind k at = said ∙ ap (given_that gs) (sym (ends before behind k at))

  pub opens_beside : (x z : World) (r o : Held) (B : Read)
      → ((before behind : List Sequent) (k : Sequent) → IsAt v q place before k behind → OpenedTo (declarations_of v) (G ∷ []) l (without y k) x r place before behind)
      → Turns x r z o place B → B ≡ C → OpensBeside w p z o place l y gs F
  opens_beside x z r o B opened back is before behind k at =
      let t = opened before behind (proving E k) (turned_at before behind k at) in
      let end : B ≡ k.conclusion = is ∙ sym (ends before behind k at) in
      let one : Opened (declarations_of w) (F ∷ []) l (proving E (without y k)) t.label t.goal =
      subst (λ D. Opened D (F ∷ []) l (proving E (without y k)) t.label t.goal) declared (subst (λ H. Opened (declarations_of v) (H ∷ []) l (proving E (without y k)) t.label t.goal) same t.opened) in (
        proving k.conclusion t.goal,
        (
          t.label,
          t.goal,
          subst (λ H. Opened (declarations_of w) (F ∷ []) l (proving H (without y k)) t.label t.goal) (conclusion_is before behind k at) one,
          refl,
        ),
        subst (λ H. IsAt z o place before (proving H t.goal) behind) end (back before behind t.goal t.at),
      )

  pub cant_open_beside : ((before behind : List Sequent) (k : Sequent) → IsAt v q place before k behind → Nameless (declarations_of v) (G ∷ []) l (without y k))
      → CantOpenBeside w p place l y gs F
  cant_open_beside nameless before behind k at =
      let n = nameless before behind (proving E k) (turned_at before behind k at) in
      subst (λ H. Nameless (declarations_of w) (F ∷ []) l (proving H (without y k))) (conclusion_is before behind k at)
      (subst (λ D. Nameless D (F ∷ []) l (proving E (without y k))) declared (subst (λ H. Nameless (declarations_of v) (H ∷ []) l (proving E (without y k))) same n))
