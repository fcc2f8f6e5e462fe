-- From what a step did to a goal: what the call that took it leaves.
use Rattle.std.specs.Prelude.{All, map}
use Rattle.std.proofs.Common.{◌≡◌, ℕ, ◌<◌, List, [], ◌∷◌, ◌++◌, Some, None, length, refl, sym, ◌∙◌, ap, subst, arith}
use Rattle.std.proofs.lemmas.List.Elements.{All-tail, All-cons, All-weaker, All-contains, Contains-append_right}
use Rattle.ab_term.specs.Types.{Ty}
use Rattle.ab_term.proofs.Lists.{Contains-here}
use Rattle.ab_term.specs.Terms.{Read}
use Rattle.ab_unify.specs.Problem.{cells_read}
use Rattle.ab_norm.specs.ab_store.specs.declared.node.TermId.{TermId}
use Rattle.ab_logic.specs.WorldGrowth.{Grows}
use Rattle.ab_formulas.specs.Forms.{truth, both, exists, nabla, form_of, as_both, both_in, exists_in, nabla_in}
use Rattle.ab_formulas.specs.NewNames.{Label, auto, given, NoName}
use Rattle.ab_logic.specs.SequentReadings.{hypothesis_of}
use Rattle.ab_formulas.specs.Sequents.{Hypothesis, Sequent, IsSequent, formula_of, formulas, assuming, without}
use Rattle.ab_logic.specs.Worlds.{IsWorld, Holds, read, declarations_of}
use Rattle.ab_logic.specs.declared.world.World.{World}
use Rattle.ab_logic.specs.declared.sequent.Hypothesis.{Hypothesis as Kept}
use Rattle.ab_logic.proofs.Growing.{map_same}
use Rattle.ab_theory.specs.Steps.{Step, and_left, exists_left, nabla_left}
use Rattle.ab_theory.specs.Rules.{Fails}
use Rattle.ab_steps.specs.ab_kernel.specs.Layout.{Held, IsProof}
use Rattle.ab_effects.specs.Openings.{IsWhole, Nameless, none}
use Rattle.ab_steps.specs.Progress.{IsAt, Follows, Took, Holds as Sure}
use Rattle.ab_steps.proofs.Connectives.{connectives, fewer_both}
use Rattle.ab_steps.proofs.Following.{one_goal}
use Rattle.ab_steps.specs.ab_kernel.proofs.GoalSequents.{goals_are_sequents}
use Rattle.ab_hypothesis.specs.OwnNames.{IsOwn, AreOwn, HasAll, besides, weight}
use Rattle.ab_hypothesis.specs.HypothesisProgress.{HasAt, Pending, OpensTo, Opens, Goes, CantOpen, OpenedTo, MovedTo}
use Rattle.ab_hypothesis.proofs.Hypotheses.{entry}
use Rattle.ab_hypothesis.proofs.Standing.{LabelsDiffer}
use Rattle.ab_hypothesis.proofs.StepsTaken.{Went, one_premise, opens_nothing, opens_whole, opens_parts, opens_exists, opens_nabla, nameless_whole}
use Rattle.ab_hypothesis.proofs.Sure.{splits, takes_exists, takes_nabla}

-- a rule that holds at the goal of a place
pub holds_at : (w : World) (p : Held) (place : ℕ) (step : Step) (before behind : List Sequent) (k : Sequent) → IsAt w p place before k behind
    → ((i : ℕ) → Fails (declarations_of w) (cells_read w.types w.store) step k i → ⊥) → Sure w p place step
holds_at w p place step before behind k at sure b e s x i f =
    sure i (subst (λ t. Fails (declarations_of w) (cells_read w.types w.store) step t i) (one_goal w p place b e before behind s k x at) f)

-- the goals of a proof are sequents
pub is_sequent : (w : World) (p : Held) (place : ℕ) (before behind : List Sequent) (k : Sequent) → IsWorld w → IsProof w p → IsAt w p place before k behind → IsSequent (declarations_of w) k
is_sequent w p place before behind k world proof at =
    All-contains (IsSequent (declarations_of w)) (before ++ k ∷ behind) k
    (subst (λ gs. All (IsSequent (declarations_of w)) gs) at.goals (goals_are_sequents w p world proof))
    (Contains-append_right before (k ∷ behind) k (Contains-here k behind))

pub same_hypotheses : (w v : World) → Grows w v → (ks : List Kept) → All (λ (h : Kept). Holds w h.formula) ks → map (hypothesis_of v) ks ≡ map (hypothesis_of w) ks
same_hypotheses w v grows ks held =
    map_same (hypothesis_of v) (hypothesis_of w) (λ (h : Kept). Holds w h.formula) (λ h there. ap (λ t. entry h.name t) (grows.readings h.formula there)) ks held

pub still_there : (w v : World) → Grows w v → (ks : List Kept) → All (λ (h : Kept). Holds w h.formula) ks → All (λ (h : Kept). Holds v h.formula) ks
still_there w v grows ks held = All-weaker (λ (h : Kept). Holds w h.formula) (λ (h : Kept). Holds v h.formula) (λ h. grows.ids h.formula) ks held

module _ (w v : World) (p q : Held) (place : ℕ) (l : Label) (top : Kept) (rest : List Kept) (follows : Follows w p v q) (pending : Pending w p place l (top ∷ rest)) where
  all_at : (before behind : List Sequent) (k : Sequent) → IsAt w p place before k behind → HasAll (map (hypothesis_of w) (top ∷ rest)) k
  all_at before behind k at =
      subst (HasAll (map (hypothesis_of w) (top ∷ rest))) (one_goal w p place pending.before pending.behind before behind pending.goal k pending.at at) pending.all

  rest_held : All (λ (h : Kept). Holds w h.formula) rest
  rest_held = All-tail (λ (h : Kept). Holds w h.formula) top rest pending.held

  rest_same : map (hypothesis_of v) rest ≡ map (hypothesis_of w) rest
  rest_same = same_hypotheses w v follows.grows rest rest_held

  goes : (js : List Kept) (m n : Label) (gs : List Hypothesis) → map (hypothesis_of v) js ≡ gs → AreOwn l gs → All (λ (h : Kept). Holds v h.formula) js
      → ((before behind : List Sequent) (k : Sequent) → IsAt w p place before k behind → OpensTo (declarations_of w) (map (hypothesis_of w) (top ∷ rest)) m k gs n v q place before behind)
      → weight gs < weight (map (hypothesis_of w) (top ∷ rest)) → Goes w p place l m (top ∷ rest) v q n js
  goes js m n gs e own held opens fewer =
      let first = opens pending.before pending.behind pending.goal pending.at in
      record {
        pending = record {
          before = pending.before;
          behind = pending.behind;
          goal = first.goal;
          at = first.at;
          held = held;
          own = subst (AreOwn l) (sym e) own;
          all = subst (λ hs. HasAll hs first.goal) (sym e) first.all;
        };
        opens = λ before behind k at.
            subst (λ hs. OpensTo (declarations_of w) (map (hypothesis_of w) (top ∷ rest)) m k hs n v q place before behind) (sym e) (opens before behind k at);
        fewer = subst (λ hs. weight hs < weight (map (hypothesis_of w) (top ∷ rest))) (sym e) fewer;
      }

  pub true_goes : form_of (read w top.formula) ≡ truth
      → ((before behind : List Sequent) (k : Sequent) → IsAt w p place before k behind → IsAt v q place before (without top.name k) behind)
      → (m : Label) → Goes w p place l m (top ∷ rest) v q m rest
  true_goes is gone m =
      goes rest m m (map (hypothesis_of w) rest) rest_same pending.own.1 (still_there w v follows.grows rest rest_held)
      (λ before behind k at.
      opens_nothing (declarations_of w) (hypothesis_of w top) (map (hypothesis_of w) rest) m k (all_at before behind k at) v q place before behind is (gone before behind k at))
      (omega arith)

  pub whole_goes : (m : Label) → AreOwn m (map (hypothesis_of w) (top ∷ rest)) → IsWhole (form_of (read w top.formula))
      → ((before behind : List Sequent) (k : Sequent) → IsAt w p place before k behind → MovedTo m (read w top.formula) top.name k v q place before behind)
      → Goes w p place l m (top ∷ rest) v q auto rest
  whole_goes m own whole moved =
      goes rest m auto (map (hypothesis_of w) rest) rest_same pending.own.1 (still_there w v follows.grows rest rest_held)
      (λ before behind k at.
      let to = moved before behind k at in
      opens_whole (declarations_of w) (hypothesis_of w top) (map (hypothesis_of w) rest) m k (all_at before behind k at) v q place before behind to.name to.base whole own to.names to.at)
      (omega arith)

  pub whole_stops : (m : Label) → AreOwn m (map (hypothesis_of w) (top ∷ rest)) → IsWhole (form_of (read w top.formula))
      → ((before behind : List Sequent) (k : Sequent) → IsAt w p place before k behind → NoName m k) → CantOpen w p place m (top ∷ rest)
  whole_stops m own whole stops = λ before behind k at.
      nameless_whole (declarations_of w) (hypothesis_of w top) (map (hypothesis_of w) rest) m k (all_at before behind k at) v q place before behind whole own (stops before behind k at)

  -- the parts of a conjunction

  pub both_sure : (a b : TermId) (x x1 y : List ℕ) → form_of (read w top.formula) ≡ both (read w a) (read w b) → x ≡ top.name → x1 ≡ top.name
      → formula_of pending.goal y ≡ None → Sure w p place (and_left x (given x1) (given y))
  both_sure a b x x1 y is e e1 new =
      subst (λ z. Sure w p place (and_left z (given x1) (given y))) (sym e)
      (subst (λ z. Sure w p place (and_left top.name (given z) (given y))) (sym e1)
      (holds_at w p place (and_left top.name (given top.name) (given y)) pending.before pending.behind pending.goal pending.at
      (splits (declarations_of w) (cells_read w.types w.store) pending.goal top.name (read w top.formula) pending.all.0 y new
      (λ e2. let clash : Some (read w a, read w b) ≡ None = sym (ap both_in is) ∙ e2 in cc))))

  pub both_goes : (a b : TermId) (x x1 y y1 : List ℕ) (js : List Kept) → form_of (read w top.formula) ≡ both (read w a) (read w b) → x ≡ top.name → x1 ≡ top.name → y1 ≡ y
      → formula_of pending.goal y ≡ None → IsOwn l y → Holds w a → Holds w b
      → js ≡ record { name = top.name; formula = a } ∷ record { name = y; formula = b } ∷ rest
      → Took w p v q place (and_left x (given x1) (given y1)) → (m : Label) → Goes w p place l m (top ∷ rest) v q m js
  both_goes a b x x1 y y1 js is e e1 ey new own ha hb list took m =
      let D = declarations_of w in
      let A = read w a in
      let B = read w b in
      let hs = map (hypothesis_of w) rest in
      let gs = entry top.name A ∷ entry y B ∷ hs in
      let reads : map (hypothesis_of v) js ≡ gs =
      ap (map (hypothesis_of v)) list
      ∙ ap (λ F. entry top.name F ∷ entry y (read v b) ∷ map (hypothesis_of v) rest) (follows.grows.readings a ha)
      ∙ ap (λ F. entry top.name A ∷ entry y F ∷ map (hypothesis_of v) rest) (follows.grows.readings b hb)
      ∙ ap (λ ks. entry top.name A ∷ entry y B ∷ ks) rest_same in
      let there : All (λ (h : Kept). Holds v h.formula) js =
      subst (λ ks. All (λ (h : Kept). Holds v h.formula) ks) (sym list)
      (All-cons (λ (h : Kept). Holds v h.formula) (record { name = top.name; formula = a }) (record { name = y; formula = b } ∷ rest) (follows.grows.ids a ha)
      (All-cons (λ (h : Kept). Holds v h.formula) (record { name = y; formula = b }) rest (follows.grows.ids b hb) (still_there w v follows.grows rest rest_held))) in
      let went : Took w p v q place (and_left top.name (given top.name) (given y)) =
      subst (λ z. Took w p v q place (and_left top.name (given top.name) (given z))) ey
      (subst (λ z. Took w p v q place (and_left top.name (given z) (given y1))) e1 (subst (λ z. Took w p v q place (and_left z (given x1) (given y1))) e took)) in
      let few = fewer_both (read w top.formula) A B is in
      goes js m m gs reads (pending.own.0, (own, pending.own.1)) there
      (λ before behind k at.
      let here = one_goal w p place pending.before pending.behind before behind pending.goal k pending.at at in
      opens_parts D (hypothesis_of w top) hs m k (all_at before behind k at) v q place before behind A B y is (subst (λ s. formula_of s y ≡ None) here new)
      (parted (hypothesis_of w top) k (all_at before behind k at).0 A B y is before behind at.counted (went before behind k at)))
      (omega (arith, few))
    where
      parted : (h : Hypothesis) (k : Sequent) → formula_of k h.name ≡ Some h.formula → (A B : Read) (y : List ℕ) → form_of h.formula ≡ both A B → (before behind : List Sequent) → length before ≡ place
          → Went (declarations_of w) (and_left h.name (given h.name) (given y)) k v q before behind
          → IsAt v q place before (assuming y B (assuming h.name A (without h.name k))) behind
      parted h k has A B y is before behind counted (ps, (cells, are_cells, (F, found, (pr, are, (L, t, first, (M, u, second, led))))), goals) =
          let same : Some F ≡ Some h.formula = sym found ∙ has in
          let F_is : F ≡ h.formula = cc in
          let both_are : Some pr ≡ Some (A, B) = sym are ∙ ap as_both F_is ∙ ap both_in is in
          let pair : pr ≡ (A, B) = cc in
          let inner : assuming L pr.0 t ≡ assuming h.name A (without h.name k) =
          ap (λ n. assuming n pr.0 t) first.1 ∙ ap (λ s. assuming h.name pr.0 s) first.2 ∙ ap (λ (r : Read × Read). assuming h.name r.0 (without h.name k)) pair in
          let whole : assuming M pr.1 u ≡ assuming y B (assuming h.name A (without h.name k)) =
          ap (λ n. assuming n pr.1 u) second.1 ∙ ap (λ s. assuming y pr.1 s) (second.2 ∙ inner)
          ∙ ap (λ (r : Read × Read). assuming y r.1 (assuming h.name A (without h.name k))) pair in
          one_premise v q place before behind ps (assuming y B (assuming h.name A (without h.name k))) counted goals (led ∙ ap (λ s. s ∷ []) whole)

  -- the body of a quantifier

  body : (id : TermId) (js : List Kept) → js ≡ record { name = top.name; formula = id } ∷ rest → Holds v id
      → ((before behind : List Sequent) (k : Sequent) → IsAt v q place before k behind → formula_of k top.name ≡ Some (read v id))
      → ((m : Label) (before behind : List Sequent) (k : Sequent) → IsAt w p place before k behind
      → (G : Read) × OpensTo (declarations_of w) (map (hypothesis_of w) (top ∷ rest)) m k (entry top.name G ∷ map (hypothesis_of w) rest) m v q place before behind × (connectives G < connectives (read w top.formula)))
      → (m : Label) → Goes w p place l m (top ∷ rest) v q m js
  body id js list held reads opens m =
      let hs = map (hypothesis_of w) rest in
      let gs = entry top.name (read v id) ∷ hs in
      let at_reads : map (hypothesis_of v) js ≡ gs = ap (map (hypothesis_of v)) list ∙ ap (λ ks. entry top.name (read v id) ∷ ks) rest_same in
      let there : All (λ (h : Kept). Holds v h.formula) js =
      subst (λ ks. All (λ (h : Kept). Holds v h.formula) ks) (sym list)
      (All-cons (λ (h : Kept). Holds v h.formula) (record { name = top.name; formula = id }) rest held (still_there w v follows.grows rest rest_held)) in
      let is = λ (G : Read) (before behind : List Sequent) (t : Sequent) (at : IsAt v q place before t behind) (has : formula_of t top.name ≡ Some G).
      one_formula t G (read v id) has (reads before behind t at) in
      let first = opens m pending.before pending.behind pending.goal pending.at in
      let few : connectives (read v id) < connectives (read w top.formula) =
      subst (λ G. connectives G < connectives (read w top.formula)) (is first.0 pending.before pending.behind first.1.goal first.1.at first.1.all.0) first.2 in
      goes js m m gs at_reads (pending.own.0, pending.own.1) there
      (λ before behind k at.
      let to = opens m before behind k at in
      subst (λ G. OpensTo (declarations_of w) (map (hypothesis_of w) (top ∷ rest)) m k (entry top.name G ∷ hs) m v q place before behind)
      (is to.0 before behind to.1.goal to.1.at to.1.all.0) to.1)
      (omega (arith, few))
    where
      one_formula : (t : Sequent) (G H : Read) → formula_of t top.name ≡ Some G → formula_of t top.name ≡ Some H → G ≡ H
      one_formula t G H a b = let same : Some G ≡ Some H = sym a ∙ b in cc

  -- where the formula is then
  there_after : (opens : (G : Read) × OpensTo (declarations_of w) (map (hypothesis_of w) (top ∷ rest)) auto pending.goal (entry top.name G ∷ map (hypothesis_of w) rest) auto v q place pending.before pending.behind × (connectives G < connectives (read w top.formula)))
      → (F : Read) × HasAt v q place top.name F
  there_after opens = (opens.0, record { before = pending.before; behind = pending.behind; goal = opens.1.goal; at = opens.1.at; has = opens.1.all.0 })

  pub exists_sure : (A : Ty) (t : Read) (x x1 : List ℕ) → form_of (read w top.formula) ≡ exists A t → x ≡ top.name → x1 ≡ top.name → Sure w p place (exists_left x (given x1))
  exists_sure A t x x1 is e e1 =
      subst (λ z. Sure w p place (exists_left z (given x1))) (sym e)
      (subst (λ z. Sure w p place (exists_left top.name (given z))) (sym e1)
      (holds_at w p place (exists_left top.name (given top.name)) pending.before pending.behind pending.goal pending.at
      (takes_exists (declarations_of w) (cells_read w.types w.store) pending.goal top.name (read w top.formula) pending.all.0
      (λ e2. let clash : Some (A, t) ≡ None = sym (ap exists_in is) ∙ e2 in cc))))

  exists_opens : (A : Ty) (t : Read) (x x1 : List ℕ) → form_of (read w top.formula) ≡ exists A t → x ≡ top.name → x1 ≡ top.name → Took w p v q place (exists_left x (given x1))
      → (m : Label) (before behind : List Sequent) (k : Sequent) → IsAt w p place before k behind
      → (G : Read) × OpensTo (declarations_of w) (map (hypothesis_of w) (top ∷ rest)) m k (entry top.name G ∷ map (hypothesis_of w) rest) m v q place before behind × (connectives G < connectives (read w top.formula))
  exists_opens A t x x1 is e e1 took m before behind k at =
      let went : Took w p v q place (exists_left top.name (given top.name)) =
      subst (λ z. Took w p v q place (exists_left top.name (given z))) e1 (subst (λ z. Took w p v q place (exists_left z (given x1))) e took) in
      opens_exists (declarations_of w) (hypothesis_of w top) (map (hypothesis_of w) rest) m k (all_at before behind k at) v q place before behind A t is at.counted (went before behind k at)

  pub exists_there : (A : Ty) (t : Read) (x x1 : List ℕ) → form_of (read w top.formula) ≡ exists A t → x ≡ top.name → x1 ≡ top.name → Took w p v q place (exists_left x (given x1))
      → (F : Read) × HasAt v q place top.name F
  exists_there A t x x1 is e e1 took = there_after (exists_opens A t x x1 is e e1 took auto pending.before pending.behind pending.goal pending.at)

  pub exists_goes : (A : Ty) (t : Read) (x x1 : List ℕ) → form_of (read w top.formula) ≡ exists A t → x ≡ top.name → x1 ≡ top.name → Took w p v q place (exists_left x (given x1))
      → (id : TermId) (js : List Kept) → js ≡ record { name = top.name; formula = id } ∷ rest → Holds v id
      → ((before behind : List Sequent) (k : Sequent) → IsAt v q place before k behind → formula_of k top.name ≡ Some (read v id))
      → (m : Label) → Goes w p place l m (top ∷ rest) v q m js
  exists_goes A t x x1 is e e1 took id js list held reads = body id js list held reads (exists_opens A t x x1 is e e1 took)

  pub nabla_sure : (A : Ty) (t : Read) (x x1 : List ℕ) → form_of (read w top.formula) ≡ nabla A t → x ≡ top.name → x1 ≡ top.name → Sure w p place (nabla_left x (given x1))
  nabla_sure A t x x1 is e e1 =
      subst (λ z. Sure w p place (nabla_left z (given x1))) (sym e)
      (subst (λ z. Sure w p place (nabla_left top.name (given z))) (sym e1)
      (holds_at w p place (nabla_left top.name (given top.name)) pending.before pending.behind pending.goal pending.at
      (takes_nabla (declarations_of w) (cells_read w.types w.store) pending.goal top.name (read w top.formula) pending.all.0
      (λ e2. let clash : Some (A, t) ≡ None = sym (ap nabla_in is) ∙ e2 in cc))))

  nabla_opens : (A : Ty) (t : Read) (x x1 : List ℕ) → IsWorld w → IsProof w p → form_of (read w top.formula) ≡ nabla A t → x ≡ top.name → x1 ≡ top.name → Took w p v q place (nabla_left x (given x1))
      → (m : Label) (before behind : List Sequent) (k : Sequent) → IsAt w p place before k behind
      → (G : Read) × OpensTo (declarations_of w) (map (hypothesis_of w) (top ∷ rest)) m k (entry top.name G ∷ map (hypothesis_of w) rest) m v q place before behind × (connectives G < connectives (read w top.formula))
  nabla_opens A t x x1 world proof is e e1 took m before behind k at =
      let went : Took w p v q place (nabla_left top.name (given top.name)) =
      subst (λ z. Took w p v q place (nabla_left top.name (given z))) e1 (subst (λ z. Took w p v q place (nabla_left z (given x1))) e took) in
      let differ : LabelsDiffer k.hypotheses = (is_sequent w p place before behind k world proof at).labels_differ in
      opens_nabla (declarations_of w) (hypothesis_of w top) (map (hypothesis_of w) rest) m k (all_at before behind k at) v q place before behind A t is differ at.counted (went before behind k at)

  pub nabla_there : (A : Ty) (t : Read) (x x1 : List ℕ) → IsWorld w → IsProof w p → form_of (read w top.formula) ≡ nabla A t → x ≡ top.name → x1 ≡ top.name → Took w p v q place (nabla_left x (given x1))
      → (F : Read) × HasAt v q place top.name F
  nabla_there A t x x1 world proof is e e1 took = there_after (nabla_opens A t x x1 world proof is e e1 took auto pending.before pending.behind pending.goal pending.at)

  pub nabla_goes : (A : Ty) (t : Read) (x x1 : List ℕ) → IsWorld w → IsProof w p → form_of (read w top.formula) ≡ nabla A t → x ≡ top.name → x1 ≡ top.name → Took w p v q place (nabla_left x (given x1))
      → (id : TermId) (js : List Kept) → js ≡ record { name = top.name; formula = id } ∷ rest → Holds v id
      → ((before behind : List Sequent) (k : Sequent) → IsAt v q place before k behind → formula_of k top.name ≡ Some (read v id))
      → (m : Label) → Goes w p place l m (top ∷ rest) v q m js
  nabla_goes A t x x1 world proof is e e1 took id js list held reads = body id js list held reads (nabla_opens A t x x1 world proof is e e1 took)

-- one opening after another

pub opens_not : (w : World) (p : Held) (place : ℕ) (l m : Label) (ks : List Kept) → Pending w p place l ks → Opens w p place m ks w p m ks
opens_not w p place l m ks pending before behind k at = record {
  goal = k;
  at = at;
  all = subst (HasAll (map (hypothesis_of w) ks)) (one_goal w p place pending.before pending.behind before behind pending.goal k pending.at at) pending.all;
  continues = record { opened = λ n u o. o; nameless = λ o. o };
}

pub opens_on : (w v u : World) (p q r : Held) (place : ℕ) (l m n : Label) (ks js is : List Kept) → Follows w p v q → Opens w p place l ks v q m js → Opens v q place m js u r n is → Opens w p place l ks u r n is
opens_on w v u p q r place l m n ks js is follows a b before behind k at =
    let first = a before behind k at in
    let second =
    subst (λ D. OpensTo D (map (hypothesis_of v) js) m first.goal (map (hypothesis_of u) is) n u r place before behind) follows.declared (b before behind first.goal first.at) in
    record {
      goal = second.goal;
      at = second.at;
      all = second.all;
      continues = record {
        opened = λ o t x. first.continues.opened o t (second.continues.opened o t x);
        nameless = λ x. first.continues.nameless (second.continues.nameless x);
      };
    }

pub stops_on : (w v : World) (p q : Held) (place : ℕ) (l m : Label) (ks js : List Kept) → Follows w p v q → Opens w p place l ks v q m js → CantOpen v q place m js → CantOpen w p place l ks
stops_on w v p q place l m ks js follows a stops before behind k at =
    let first = a before behind k at in
    first.continues.nameless
    (subst (λ D. Nameless D (formulas (map (hypothesis_of v) js)) m (besides (map (hypothesis_of v) js) first.goal)) follows.declared (stops before behind first.goal first.at))

pub opened_all : (w v : World) (p q : Held) (place : ℕ) (l m : Label) (ks js : List Kept) → js ≡ [] → Opens w p place l ks v q m js
    → (before behind : List Sequent) (k : Sequent) → IsAt w p place before k behind
    → OpenedTo (declarations_of w) (formulas (map (hypothesis_of w) ks)) l (besides (map (hypothesis_of w) ks) k) v q place before behind
opened_all w v p q place l m ks js e opens before behind k at =
    let to = subst (λ is. OpensTo (declarations_of w) (map (hypothesis_of w) ks) l k (map (hypothesis_of v) is) m v q place before behind) e (opens before behind k at) in
    record { label = m; goal = to.goal; at = to.at; opened = to.continues.opened m to.goal none }

pub no_items : {X : Type 0} (xs : List X) → length xs ≡ 0 → xs ≡ []
no_items [] e = refl
no_items (x ∷ xs) e = absurd (omega (arith, e))
