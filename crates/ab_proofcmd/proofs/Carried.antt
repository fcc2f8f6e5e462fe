-- What was asked, and what the steps leave of the first goal then.
use Rattle.std.specs.Prelude.{Some, None, All, Vec, Result, Ok, Err, OnErr}
use Rattle.std.specs.Global.{Global}
use Rattle.std.proofs.Common.{◌≡◌, ◌≢◌, ℕ, List, [], ◌∷◌, ◌++◌, map, length, refl, sym, ◌∙◌, ap, subst, append_assoc}
use Rattle.std.proofs.lemmas.List.{length-map}
use Rattle.std.proofs.lemmas.List.Elements.{All-weaker}
use Rattle.ab_term.specs.Terms.{Read}
use Rattle.ab_norm.specs.ab_store.specs.declared.node.TermId.{TermId}
use Rattle.ab_grammar.specs.CommandTrees as told
use Rattle.ab_grammar.specs.CommandTrees.{Instance, Argument}
use Rattle.ab_formulas.specs.Declarations.{Declarations}
use Rattle.ab_logic.specs.WorldGrowth.{Grows}
use Rattle.ab_formulas.specs.NewNames.{Label, given}
use Rattle.ab_logic.specs.SequentReadings.{sequent_of}
use Rattle.ab_formulas.specs.Sequents.{Sequent, IsSequent, formula_of, proving, assuming}
use Rattle.ab_logic.specs.Worlds.{IsWorld, Holds, read, declarations_of}
use Rattle.ab_logic.specs.declared.world.World.{World}
use Rattle.ab_logic.specs.declared.sequent.Sequent.{Sequent as Kept}
use Rattle.ab_theory.specs.Rules.{NamedRule}
use Rattle.ab_theory.specs.Steps.{cut_formula}
use Rattle.ab_theory.specs.Derivations.{History, open_goals}
use Rattle.ab_hypothesis.specs.ab_steps.specs.ab_kernel.specs.Layout.{Held, IsProof, goals_of}
use Rattle.ab_hypothesis.specs.ab_steps.specs.ab_kernel.proofs.Later.{same_history, still_proof}
use Rattle.ab_hypothesis.specs.ab_steps.specs.ab_kernel.proofs.GoalSequents.{first_is_sequent}
use Rattle.ab_theory.specs.Pieces.{Given, antecedent_count}
use Rattle.ab_theory.specs.UseAnswers.{awaited, result_in}
use Rattle.ab_uses.specs.GivenReadings.{given_of}
use Rattle.ab_uses.specs.declared.given_terms.GivenTerm.{GivenTerm}
use Rattle.ab_uses.specs.declared.stage.Stage.{Stage}
use Rattle.ab_uses.specs.declared.stage.Stage.TheVariants.{Instance as AnInstance, Chosen, Antecedent}
use Rattle.ab_norm.specs.ab_types.proofs.Entries.{type_still_held}
use Rattle.ab_uses.specs.UseReadings.{HoldsStage}
use Rattle.ab_uses.specs.declared.use_answers.Use.{Use}
use Rattle.ab_effects.specs.ProofCommands.{effect, repeated}
use Rattle.ab_effects.specs.FormulaUses.{formulas_in, OpenedBeside, NamelessBeside}
use Rattle.ab_hypothesis.specs.ab_steps.specs.ProofEffects.{IsApplied, IsRefused, RefusedBy}
use Rattle.ab_hypothesis.specs.ab_steps.specs.Progress.{IsAt, TookInto, Follows}
use Rattle.ab_hypothesis.specs.ab_steps.specs.declared.fault.ProofCommandFault.{ProofCommandFault}
use Rattle.ab_hypothesis.specs.ab_steps.specs.declared.fault.ProofCommandFault.TheVariants.{NamesSpent}
use Rattle.ab_hypothesis.specs.ab_steps.proofs.Following.{first_at, one_at_least, follows_same}
use Rattle.ab_hypothesis.specs.HypothesisProgress.{HasAt}
use Rattle.ab_hypothesis.proofs.Hypotheses.{named_last}
use Rattle.ab_hypothesis.proofs.StepsTaken.{without_last}
use Rattle.ab_proofcmd.specs.GoalCounts.{ShowsAll, OpensBeside, CantOpenBeside}
use Rattle.ab_proofcmd.specs.Questions.{MayApply, MayBackchain, HoldsUse, HoldsAsked, Reads, AsksApply, AsksBackchain}
use Rattle.ab_proofcmd.specs.RemainingGoals.{LeavesOpened, CantOpenResult}
use Rattle.ab_proofcmd.specs.declared.questions.Asked.{Asked}
use Rattle.ab_proofcmd.proofs.ApplyRows.{apply_leads, apply_nameless, backchain_leads}
use Rattle.ab_proofcmd.proofs.Usable.{IsGiven, all_later, still_given}

-- WHAT WAS ASKED IS THERE, once the use was found

module _ (w m v : World) (f : TermId) (terms : Vec GivenTerm Global) (found : Use) (one : Grows w m) (two : Grows m v) (there : Holds w f) (given : All (IsGiven m) terms.items) where
  formula_then : read v f ≡ read w f
  formula_then = two.readings f (one.ids f there) ∙ one.readings f there

  asked_there : HoldsUse v found → HoldsAsked v (record { formula = f; given = terms; found = found })
  asked_there is = record { formula = two.ids f (one.ids f there); given = still_given m v two terms.items given; found = is }

  pub asks_apply : (D : Declarations) (l : Label) (H : List ℕ) (vs : List Argument) (is : List Instance) (s : Sequent) (K : Read) → MayApply D l H vs is s (read w f) (map (given_of m) terms.items) K
      → HoldsUse v found → Reads v (formulas_in s vs) found K → AsksApply D l H vs is s v (record { formula = f; given = terms; found = found })
  asks_apply D l H vs is s K may usable reads = (
    asked_there usable,
    (
      K,
      subst (λ F. MayApply D l H vs is s F (map (given_of v) terms.items) K) (sym formula_then)
          (subst (λ gs. MayApply D l H vs is s (read w f) gs K) (sym (all_later m v two terms.items given)) may),
      reads,
    ),
  )

  pub asks_backchain : (D : Declarations) (H : List ℕ) (is : List Instance) (s : Sequent) (K : Read) → MayBackchain D H is s (read w f) (map (given_of m) terms.items) K
      → HoldsUse v found → Reads v (repeated (antecedent_count (read w f))) found K → AsksBackchain D H is s v (record { formula = f; given = terms; found = found })
  asks_backchain D H is s K may usable reads = (
    asked_there usable,
    (
      K,
      subst (λ F. MayBackchain D H is s F (map (given_of v) terms.items) K) (sym formula_then)
          (subst (λ gs. MayBackchain D H is s (read w f) gs K) (sym (all_later m v two terms.items given)) may),
      subst (λ F. Reads v (repeated (antecedent_count F)) found K) (sym formula_then) reads,
    ),
  )

stage_still : (w v : World) → Grows w v → (x : Stage) → HoldsStage w x → HoldsStage v x
stage_still w v grows (AnInstance t) held = grows.ids t held
stage_still w v grows (Chosen a F) held = (type_still_held w.types v.types grows.types a.ty held.0, grows.ids F held.1)
stage_still w v grows Antecedent held = tt

pub stages_there : (w v : World) → Grows w v → (stages : List Stage) → All (HoldsStage w) stages → All (HoldsStage v) stages
stages_there w v grows stages held = All-weaker (HoldsStage w) (HoldsStage v) (stage_still w v grows) stages held

pub formulas_there : (w v : World) → Grows w v → (ts : List TermId) → All (Holds w) ts → All (Holds v) ts
formulas_there w v grows ts held = All-weaker (Holds w) (Holds v) grows.ids ts held

pub on_err : {A E Q : Type 0} (r : Result A E) → Q → OnErr r Q
on_err (Ok x) q = tt
on_err (Err e) q = q

-- THE FIRST GOAL, in a world that may have grown

pub first_sequent : (w : World) → IsWorld w → (p : Held) → IsProof w p → goals_of w p ≢ [] → (k : Sequent) → ((s : Sequent) (rest : List Sequent) → goals_of w p ≡ s ∷ rest → k ≡ s)
    → IsSequent (declarations_of w) k
first_sequent w world p proof some k here =
    let one = one_at_least (goals_of w p) some in
    subst (IsSequent (declarations_of w)) (sym (here one.0 one.1 one.2))
    (first_is_sequent w p world proof one.0 one.1 one.2)

pub same_goals : (w m : World) (p : Held) → Grows w m → IsProof w p → goals_of m p ≡ goals_of w p
same_goals w m p grows proof = ap (λ (h : History). open_goals h.tree) (same_history w m grows p proof)

pub follows_world : (w m : World) (p : Held) → Grows w m → declarations_of m ≡ declarations_of w → IsProof w p → Follows w p m p
follows_world w m p grows declared proof = follows_same w m p p grows declared proof (still_proof w m grows declared p proof) refl

pub refused_at : (w : World) (p : Held) (k : Sequent) → ((s : Sequent) (rest : List Sequent) → goals_of w p ≡ s ∷ rest → k ≡ s) → (l : Label) (command : told.ProofCommand) (fault : ProofCommandFault)
    → RefusedBy (effect (declarations_of w) l command k) fault → IsRefused l command w p fault
refused_at w p k here l command fault refused s rest e = subst (λ t. RefusedBy (effect (declarations_of w) l command t) fault) (here s rest e) refused

-- THE STEPS OF `apply`: a cut, by which the result is to be shown first, and is a hypothesis then

abbrev pub Cuts : World → Held → World → Held → List ℕ → Read → Type 0
Cuts w p v q y R = (s : Sequent) (rest : List Sequent) → goals_of w p ≡ s ∷ rest → goals_of v q ≡ proving R s ∷ assuming y R s ∷ rest

pub cut_two : (w v : World) (p q : Held) (y g : List ℕ) (R : Read) → g ≡ y → TookInto w p v q 0 (cut_formula R (given g)) 2 → Cuts w p v q y R
cut_two w v p q y g R e took s rest goals = go (took [] rest s (first_at w p s rest goals))
  where
    go : (ps : List Sequent) × (NamedRule (declarations_of w) (cut_formula R (given g)) s ps × (length ps ≡ 2)) × (goals_of v q ≡ ([] ++ ps) ++ rest)
        → goals_of v q ≡ proving R s ∷ assuming y R s ∷ rest
    go (ps, ((cells, are_cells, (fits, (name, t, named, led))), n), now) =
        now
        ∙ ap (λ qs. qs ++ rest) led
        ∙ ap (λ x. proving R s ∷ assuming x R t ∷ rest) (named.1 ∙ e)
        ∙ ap (λ k. proving R s ∷ assuming y R k ∷ rest) named.2

module _ (w v u : World) (p q r : Held) (y : List ℕ) (As : List Read) (R : Read) (cuts : Cuts w p v q y R) (shows : ShowsAll v q u r 0 As)
    (new : (s : Sequent) (rest : List Sequent) → goals_of w p ≡ s ∷ rest → formula_of s y ≡ None) (place : ℕ) (last : place ≡ length As) (G : Read) (same : G ≡ R) where
  abbrev shown_goals : Sequent → List Sequent
  shown_goals s = map (λ A. proving A s) As

  shown : (s : Sequent) (rest : List Sequent) → goals_of w p ≡ s ∷ rest → goals_of u r ≡ shown_goals s ++ assuming y R s ∷ rest
  shown s rest goals = shows [] (assuming y R s ∷ rest) (proving R s) (first_at v q (proving R s) (assuming y R s ∷ rest) (cuts s rest goals))

  own_last : (s : Sequent) (rest : List Sequent) → goals_of w p ≡ s ∷ rest → IsAt u r place (shown_goals s) (assuming y R s) rest
  own_last s rest goals = record { goals = shown s rest goals; counted = length-map As (λ A. proving A s) ∙ sym last }

  pub own_there : goals_of w p ≢ [] → HasAt u r place y G
  own_there some =
      let one = one_at_least (goals_of w p) some in
      record {
        before = shown_goals one.0;
        behind = one.1;
        goal = assuming y R one.0;
        at = own_last one.0 one.1 one.2;
        has = named_last one.0.hypotheses y R (new one.0 one.1 one.2) ∙ ap (λ x. Some x) (sym same);
      }

  module _ (l : Label) (gs : List Given) (declared : declarations_of u ≡ declarations_of w) where
    pub leaves_opened : (x : World) (t : Held) → OpensBeside u r x t place l y gs G → LeavesOpened w p x t l gs As R
    leaves_opened x t opens s rest goals =
        let o = opens (shown_goals s) rest (assuming y R s) (own_last s rest goals) in (
          o.0,
          subst (λ D. OpenedBeside D gs R l s o.0) declared
              (subst (λ F. OpenedBeside (declarations_of u) gs F l s o.0) same
              (subst (λ k. OpenedBeside (declarations_of u) gs G l k o.0) (without_last s y R (new s rest goals)) o.1)),
          o.2.goals ∙ sym (append_assoc (shown_goals s) (o.0 ∷ []) rest),
        )

    pub cant_open_result : CantOpenBeside u r place l y gs G → CantOpenResult w p l gs R
    cant_open_result cant s rest goals =
        subst (λ D. NamelessBeside D gs R l s) declared
        (subst (λ F. NamelessBeside (declarations_of u) gs F l s) same
        (subst (λ k. NamelessBeside (declarations_of u) gs G l k) (without_last s y R (new s rest goals)) (cant (shown_goals s) rest (assuming y R s) (own_last s rest goals))))

-- THE COMMANDS, by what was asked and what the steps leave

module _ (w m : World) (p : Held) (goal : Kept) (goals : goals_of m p ≡ goals_of w p) (declared : declarations_of m ≡ declarations_of w)
    (here : (s : Sequent) (rest : List Sequent) → goals_of w p ≡ s ∷ rest → sequent_of w goal ≡ s) (a : Asked) (H : List ℕ) (is : List Instance) where
  abbrev D : Declarations
  D = declarations_of w

  abbrev gs : List Given
  gs = map (given_of m) a.given.items

  abbrev As : List Read
  As = map (read m) a.found.awaited.items

  module _ (l : Label) (vs : List Argument) (asks : AsksApply (declarations_of w) l H vs is (sequent_of w goal) m a) where
    asked_at : (s : Sequent) (rest : List Sequent) → goals_of w p ≡ s ∷ rest → AsksApply (declarations_of w) l H vs is s m a
    asked_at s rest e = subst (λ k. AsksApply (declarations_of w) l H vs is k m a) (here s rest e) asks

    pub apply_done : (v : World) (q : Held) → LeavesOpened m p v q l gs As (read m a.found.result) → IsApplied l (told.apply H vs is) w p v q
    apply_done v q leaves s rest e =
        let k = (asked_at s rest e).1 in
        let hs = formulas_in s vs in
        let o = leaves s rest (goals ∙ e) in
        let beside : OpenedBeside (declarations_of w) gs (result_in hs k.0) l s o.0 =
        subst (λ R. OpenedBeside (declarations_of w) gs R l s o.0) k.2.result (subst (λ E. OpenedBeside E gs (read m a.found.result) l s o.0) declared o.1) in (
          map (λ A. proving A s) (awaited hs k.0) ++ o.0 ∷ [],
          apply_leads (declarations_of w) l H vs is s (read m a.formula) gs k.0 k.1 o.0 beside,
          o.2 ∙ ap (λ Fs. (map (λ A. proving A s) Fs ++ o.0 ∷ []) ++ rest) k.2.awaited,
        )

    pub apply_spent : CantOpenResult m p l gs (read m a.found.result) → IsRefused l (told.apply H vs is) w p NamesSpent
    apply_spent cant s rest e =
        let k = (asked_at s rest e).1 in
        let nameless : NamelessBeside (declarations_of w) gs (result_in (formulas_in s vs) k.0) l s =
        subst (λ R. NamelessBeside (declarations_of w) gs R l s) k.2.result
        (subst (λ E. NamelessBeside E gs (read m a.found.result) l s) declared (cant s rest (goals ∙ e))) in
        apply_nameless (declarations_of w) l H vs is s (read m a.formula) gs k.0 k.1 nameless

  pub backchain_done : AsksBackchain (declarations_of w) H is (sequent_of w goal) m a → (v : World) (q : Held) → ShowsAll m p v q 0 As → (l : Label) → IsApplied l (told.backchain H is) w p v q
  backchain_done asks v q shows l s rest e =
      let k = (subst (λ t. AsksBackchain (declarations_of w) H is t m a) (here s rest e) asks).1 in
      let hs = repeated (antecedent_count (read m a.formula)) in (
        map (λ A. proving A s) (awaited hs k.0),
        backchain_leads (declarations_of w) l H is s (read m a.formula) gs k.0 k.1,
        shows [] rest s (first_at m p s rest (goals ∙ e)) ∙ ap (λ Fs. map (λ A. proving A s) Fs ++ rest) k.2.awaited,
      )
