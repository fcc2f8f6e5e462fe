-- The first goal's conclusion is unfolded in the way that was found, or isn't.
use Rattle.std.specs.Prelude.{Some, Result, Ok, Err, OnErr}
use Rattle.std.specs.declared.alloc.AllocError.{AllocError as AFault}
use Rattle.std.proofs.Common.{◌≡◌, ◌≢◌, ◌⊎◌, inl, inr, ℕ, ◌+◌, List, [], ◌∷◌, refl, sym, ◌∙◌, ap, subst}
use Rattle.ab_grammar.specs.CommandTrees.{unfold_goal}
use Rattle.ab_unifiers.specs.Replacements.{Cell}
use Rattle.ab_unify.specs.Problem.{cells_read}
use Rattle.ab_formulas.specs.Declarations.{Declarations}
use Rattle.ab_logic.specs.WorldGrowth.{Grows}
use Rattle.ab_formulas.specs.NewNames.{Label, auto}
use Rattle.ab_logic.specs.SequentReadings.{sequent_of, HoldsSequent}
use Rattle.ab_formulas.specs.Sequents.{Sequent, IsSequent}
use Rattle.ab_logic.specs.Worlds.{IsWorld, declarations_of}
use Rattle.ab_logic.proofs.Programs.{have_programs}
use Rattle.ab_logic.specs.declared.world.World.{World}
use Rattle.ab_logic.specs.declared.sequent.Sequent.{Sequent as Kept}
use Rattle.ab_formulas.specs.BodyMarks.{MayBeUnfolded}
use Rattle.ab_theory.specs.Equations.{AreCells}
use Rattle.ab_theory.specs.Subjects.{Subject, subject_of, sign_of}
use Rattle.ab_theory.specs.Steps.{definition_right}
use Rattle.ab_steps.specs.ab_kernel.proofs.NewNumbers.{over_cells}
use Rattle.ab_theory.specs.Derivations.{History, open_goals}
use Rattle.ab_steps.specs.ab_kernel.specs.Layout.{Held, IsProof, goals_of}
use Rattle.ab_steps.specs.ab_kernel.proofs.Later.{same_history, still_proof}
use Rattle.ab_steps.specs.ab_kernel.proofs.GoalSequents.{first_is_sequent}
use Rattle.ab_effects.specs.ProofCommands.{effect}
use Rattle.ab_effects.specs.Row.{Leads}
use Rattle.ab_steps.specs.ProofEffects.{IsApplied, RefusedBy}
use Rattle.ab_steps.specs.declared.fault.ProofCommandFault.{ProofCommandFault}
use Rattle.ab_steps.specs.declared.fault.ProofCommandFault.TheVariants.{Mark, NoMatch, NotPattern, Unresolved, Memory}
use Rattle.ab_steps.specs.Progress.{Follows, TookInto, FailsBy, StuckAt}
use Rattle.ab_steps.proofs.Following.{first_at, one_at_least, follows_same}
use Rattle.ab_steps.specs.ab_kernel.specs.ab_judgements.specs.SubjectAnswers.{FindsWay}
use Rattle.ab_steps.specs.ab_kernel.specs.ab_judgements.specs.ab_alternatives.specs.declared.first_choice.Found.TheVariants.{Closed, Open, Stuck, Nothing}
use Rattle.ab_conclusion.specs.UnfoldingChoice.{UnfoldsBy}
use Rattle.ab_conclusion.proofs.Unfolds.{nothing_refuses, stuck_refuses, open_refuses, closed_leads, closed_never_fails, closed_never_sticks}

-- it is unfolded in the way that was found
module _ (w v : World) (p q : Held) (place : ℕ) (world : IsWorld w) (proof : IsProof w p) (unfolds : UnfoldsBy w p place) where
  pub unfold_applied : (n : ℕ) → TookInto w p v q 0 (definition_right place) n → (l : Label) → IsApplied l unfold_goal w p v q
  unfold_applied n took l s rest goals =
      let u = unfolds s rest goals in
      let t = took [] rest s (first_at w p s rest goals) in (
        t.0,
        closed_leads (declarations_of w) l (cells_read w.types w.store) s u.subject u.over u.is_subject u.may place u.finds world.definitions (have_programs w world) (first_is_sequent w p world proof s rest goals) t.0 t.1.0,
        t.2,
      )

module _ (w : World) (p : Held) (place : ℕ) (unfolds : UnfoldsBy w p place) (some : goals_of w p ≢ []) where
  pub unfold_never_fails : (i : ℕ) → FailsBy w p 0 (definition_right place) i → ⊥
  unfold_never_fails i fails =
      let one = one_at_least (goals_of w p) some in
      let u = unfolds one.0 one.1 one.2 in
      closed_never_fails (declarations_of w) auto (cells_read w.types w.store) one.0 u.subject u.over u.is_subject u.may place u.finds i (fails [] one.1 one.0 (first_at w p one.0 one.1 one.2))

  pub unfold_never_sticks : (i : ℕ) → StuckAt w p 0 (definition_right place) i → ⊥
  unfold_never_sticks i stuck =
      let one = one_at_least (goals_of w p) some in
      let u = unfolds one.0 one.1 one.2 in
      closed_never_sticks (declarations_of w) auto (cells_read w.types w.store) one.0 u.subject u.over u.is_subject u.may place u.finds i (stuck [] one.1 one.0 (first_at w p one.0 one.1 one.2))

-- what was found of the goal that is seen holds of the first goal, also in a later world with the same cells
module _ (w v : World) (p : Held) (grown : Grows w v) (proof : IsProof w p) (declared : declarations_of v ≡ declarations_of w) (same : cells_read v.types v.store ≡ cells_read w.types w.store) where
  goals_now : (s : Sequent) (rest : List Sequent) → goals_of v p ≡ s ∷ rest → goals_of w p ≡ s ∷ rest
  goals_now s rest goals = sym (ap (λ (h : History). open_goals h.tree) (same_history w v grown p proof)) ∙ goals

  pub unfolds_later : (x : Kept) (place : ℕ) (d : Subject) → ((s : Sequent) (rest : List Sequent) → goals_of w p ≡ s ∷ rest → sequent_of w x ≡ s) → HoldsSequent w x
      → subject_of (declarations_of w) (sequent_of w x).conclusion ≡ Some d → MayBeUnfolded (sign_of d) → FindsWay (cells_read w.types w.store) (sequent_of w x) d (Closed place) → UnfoldsBy v p place
  unfolds_later x place d reads held is may finds s rest goals =
      let here = reads s rest (goals_now s rest goals) in
      record {
        subject = d;
        is_subject = subst (λ (D : Declarations). subject_of D s.conclusion ≡ Some d) (sym declared) (subst (λ (k : Sequent). subject_of (declarations_of w) k.conclusion ≡ Some d) here is);
        may = may;
        over = subst (λ (cells : List (Cell (List ℕ))). AreCells cells s) (sym same) (subst (AreCells (cells_read w.types w.store)) here (over_cells w x held));
        finds = subst (λ (cells : List (Cell (List ℕ))). FindsWay cells s d (Closed place)) (sym same) (subst (λ (k : Sequent). FindsWay (cells_read w.types w.store) k d (Closed place)) here finds);
      }

-- the goal that is seen is a sequent
pub seen_is_sequent : (w : World) (p : Held) (x : Kept) → IsWorld w → IsProof w p → goals_of w p ≢ [] → ((s : Sequent) (rest : List Sequent) → goals_of w p ≡ s ∷ rest → sequent_of w x ≡ s)
    → IsSequent (declarations_of w) (sequent_of w x)
seen_is_sequent w p x world proof some reads =
    let one = one_at_least (goals_of w p) some in
    subst (IsSequent (declarations_of w)) (sym (reads one.0 one.1 one.2)) (first_is_sequent w p world proof one.0 one.1 one.2)

-- a proof in a world that has grown
module _ (w v : World) (p : Held) (grown : Grows w v) (declared : declarations_of v ≡ declarations_of w) (proof : IsProof w p) where
  pub same_goals : goals_of v p ≡ goals_of w p
  same_goals = ap (λ (h : History). open_goals h.tree) (same_history w v grown p proof)

  pub follows_world : Follows w p v p
  follows_world = follows_same w v p p grown declared proof (still_proof w v grown declared p proof) refl

  pub applied_there : (u : World) (q : Held) (l : Label) → IsApplied l unfold_goal v p u q → IsApplied l unfold_goal w p u q
  applied_there u q l applied s rest goals =
      let t = applied s rest (same_goals ∙ goals) in
      (t.0, subst (λ (D : Declarations). Leads (effect D l unfold_goal s) t.0) declared t.1, t.2)

-- what holds anyway holds of a refusal
pub on_err : {A E : Type 0} (P : Type 0) (r : Result A E) → P → OnErr r P
on_err P (Ok x) p = tt
on_err P (Err e) p = p

-- the refusals, of the first goal as it is seen
module _ (w : World) (x : Kept) (s : Sequent) (here : sequent_of w x ≡ s) (l : Label) where
  refused : (fault other : ProofCommandFault) → RefusedBy (effect (declarations_of w) l unfold_goal (sequent_of w x)) fault → fault ≡ other → RefusedBy (effect (declarations_of w) l unfold_goal s) other
  refused fault other refuses same =
      subst (RefusedBy (effect (declarations_of w) l unfold_goal s)) same (subst (λ (k : Sequent). RefusedBy (effect (declarations_of w) l unfold_goal k) fault) here refuses)

  pub seen_marked : (d : Subject) → subject_of (declarations_of w) (sequent_of w x).conclusion ≡ Some d → ¬ MayBeUnfolded (sign_of d) → (fault : ProofCommandFault) → Mark ≡ fault
      → RefusedBy (effect (declarations_of w) l unfold_goal s) fault
  seen_marked d is not fault same = refused Mark fault (inr (d, is, inl (not, refl))) same

  module _ (held : HoldsSequent w x) (d : Subject) (is : subject_of (declarations_of w) (sequent_of w x).conclusion ≡ Some d) (may : MayBeUnfolded (sign_of d)) where
    abbrev cells : List (Cell (List ℕ))
    cells = cells_read w.types w.store

    pub seen_nothing : FindsWay cells (sequent_of w x) d Nothing → (fault : ProofCommandFault) → NoMatch ≡ fault → RefusedBy (effect (declarations_of w) l unfold_goal s) fault
    seen_nothing finds fault same = refused NoMatch fault (nothing_refuses (declarations_of w) l cells (sequent_of w x) d (over_cells w x held) is may finds) same

    pub seen_open : (place : ℕ) (name : List ℕ) → FindsWay cells (sequent_of w x) d (Open place name) → (fault : ProofCommandFault) → Unresolved name ≡ fault
        → RefusedBy (effect (declarations_of w) l unfold_goal s) fault
    seen_open place name finds fault same = refused (Unresolved name) fault (open_refuses (declarations_of w) l cells (sequent_of w x) d (over_cells w x held) is may place name finds) same

    pub seen_stuck : (place i : ℕ) → FindsWay cells (sequent_of w x) d (Stuck place i) → (told fault : ProofCommandFault) → (told ≡ NotPattern (i + 1)) ⊎ ((f : AFault) × (told ≡ Memory f)) → told ≡ fault
        → RefusedBy (effect (declarations_of w) l unfold_goal s) fault
    seen_stuck place i finds told fault (inl is_number) same =
        refused (NotPattern (i + 1)) fault (stuck_refuses (declarations_of w) l cells (sequent_of w x) d (over_cells w x held) is may place i finds) (sym is_number ∙ same)
    seen_stuck place i finds told fault (inr (f, memory)) same = refused (Memory f) fault tt (sym memory ∙ same)
