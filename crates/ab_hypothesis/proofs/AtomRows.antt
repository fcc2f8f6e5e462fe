-- A hypothesis that may be a defined atom or a judgement is taken apart by its row, or its row refuses it.
use Rattle.std.specs.Prelude.{Some}
use Rattle.std.proofs.Common.{◌≡◌, ◌≢◌, inl, inr, ℕ, ◌+◌, List, [], ◌∷◌, ◌++◌, Bool, length, refl, sym, ◌∙◌, ap, subst}
use Rattle.ab_term.specs.Terms.{Read}
use Rattle.ab_unify.specs.Problem.{cells_read}
use Rattle.ab_formulas.specs.Declarations.{Declarations}
use Rattle.ab_formulas.specs.Forms.{Form, truth, falsity, both, either, implies, equal, for_all, exists, nabla, marked, other, form_of}
use Rattle.ab_formulas.specs.NewNames.{Label}
use Rattle.ab_formulas.specs.Sequents.{Sequent, IsSequent, formula_of, assuming}
use Rattle.ab_logic.specs.Worlds.{IsWorld, declarations_of}
use Rattle.ab_logic.specs.declared.world.World.{World}
use Rattle.ab_theory.specs.Equations.{AreCells}
use Rattle.ab_theory.specs.Rules.{NamedRule, Fails, Stuck}
use Rattle.ab_steps.specs.ab_kernel.specs.Layout.{Held, IsProof, goals_of}
use Rattle.ab_effects.specs.CaseAnalysis.{AllOpened, SomeNameless}
use Rattle.ab_effects.specs.ProofCommands.{cases, analysing}
use Rattle.ab_meaning.specs.Refusals.{Refusal, wrong_shape, mark, not_pattern, names_spent}
use Rattle.ab_effects.specs.Row.{Leads, Refuses}
use Rattle.ab_steps.specs.Progress.{TookInto, FailsBy, StuckAt}
use Rattle.ab_steps.proofs.Following.{first_at, one_at_least}
use Rattle.ab_hypothesis.specs.HypothesisProgress.{HasAt}
use Rattle.ab_hypothesis.specs.CaseAnswers.{IsAtom, rest_of, Begun, TakenApart, CantTake}
use Rattle.ab_hypothesis.specs.AnalysedGoals.{FirstWait, FirstOpened, FirstNameless, split_own}
use Rattle.ab_hypothesis.proofs.Goes.{is_sequent}
use Rattle.ab_hypothesis.proofs.Moves.{has_at}
use Rattle.ab_hypothesis.proofs.Waiting.{same_parts}
use Rattle.ab_hypothesis.proofs.Splitting.{SplitInto, split_into, unsplit_by, no_subject, no_mark}

-- the row of such a hypothesis

atom_leads : (D : Declarations) (F : Read) (l : Label) (goal k : Sequent) (ps : List Sequent) (f : Form) → IsAtom f → Leads (analysing D F l goal k) ps → Leads (cases D f F l goal k) ps
atom_leads D F l goal k ps (marked m t) is leads = leads
atom_leads D F l goal k ps other is leads = leads
atom_leads D F l goal k ps truth is leads = absurd is
atom_leads D F l goal k ps falsity is leads = absurd is
atom_leads D F l goal k ps (both A B) is leads = absurd is
atom_leads D F l goal k ps (either A B) is leads = absurd is
atom_leads D F l goal k ps (implies A B) is leads = absurd is
atom_leads D F l goal k ps (equal A t u) is leads = absurd is
atom_leads D F l goal k ps (for_all A t) is leads = absurd is
atom_leads D F l goal k ps (exists A t) is leads = absurd is
atom_leads D F l goal k ps (nabla A t) is leads = absurd is

atom_refuses : (D : Declarations) (F : Read) (l : Label) (goal k : Sequent) (r : Refusal) (f : Form) → IsAtom f → Refuses (analysing D F l goal k) r → Refuses (cases D f F l goal k) r
atom_refuses D F l goal k r (marked m t) is refuses = refuses
atom_refuses D F l goal k r other is refuses = refuses
atom_refuses D F l goal k r truth is refuses = absurd is
atom_refuses D F l goal k r falsity is refuses = absurd is
atom_refuses D F l goal k r (both A B) is refuses = absurd is
atom_refuses D F l goal k r (either A B) is refuses = absurd is
atom_refuses D F l goal k r (implies A B) is refuses = absurd is
atom_refuses D F l goal k r (equal A t u) is refuses = absurd is
atom_refuses D F l goal k r (for_all A t) is refuses = absurd is
atom_refuses D F l goal k r (exists A t) is refuses = absurd is
atom_refuses D F l goal k r (nabla A t) is refuses = absurd is

-- the goal with the hypothesis put last, and the goal before
module _ (w v : World) (p q : Held) (keep : Bool) (H y : List ℕ) (F : Read) (l : Label) (world : IsWorld w) (proof : IsProof w p) (there : HasAt w p 0 H F)
    (form : IsAtom (form_of F)) (declared : declarations_of v ≡ declarations_of w) (begun : Begun w p v q keep H y F) where
  abbrev D : Declarations
  D = declarations_of w

  sequent : (s : Sequent) (rest : List Sequent) → goals_of w p ≡ s ∷ rest → IsSequent D s
  sequent s rest goals = is_sequent w p 0 [] rest s world proof (first_at w p s rest goals)

  has : (s : Sequent) (rest : List Sequent) → goals_of w p ≡ s ∷ rest → formula_of s H ≡ Some F
  has s rest goals = has_at w p 0 H F there [] rest s (first_at w p s rest goals)

  module _ (u : World) (r : Held) (n : ℕ) (took : TookInto v q u r 0 (split_own y) n) where
    -- the goals into which it was split
    record Parts (s : Sequent) (rest : List Sequent) (goals : goals_of w p ≡ s ∷ rest) : Type 0 where
      list : List Sequent
      counted : length list ≡ n
      are : goals_of u r ≡ list ++ rest
      split : SplitInto D s H y F keep (sequent s rest goals) (has s rest goals) (begun s rest goals).1 list

    parts : (s : Sequent) (rest : List Sequent) (goals : goals_of w p ≡ s ∷ rest) → Parts s rest goals
    parts s rest goals =
        let k = rest_of keep H s in
        let b = begun s rest goals in
        let t = took [] rest (assuming y F k) (first_at v q (assuming y F k) rest b.0) in
        record {
          list = t.0;
          counted = t.1.1;
          are = t.2;
          split =
              split_into D s H y F keep (sequent s rest goals) (has s rest goals) b.1 t.0
              (subst (λ E. NamedRule E (split_own y) (assuming y F k) t.0) declared t.1.0);
        }

    pub they_wait : goals_of w p ≢ [] → FirstWait u r y n
    they_wait some =
        let one = one_at_least (goals_of w p) some in
        let ps = parts one.0 one.1 one.2 in
        record { goals = ps.list; behind = one.1; are = ps.are; counted = ps.counted; wait = ps.split.wait }

    pub atom_taken : (x : World) (o : Held) → declarations_of u ≡ declarations_of w → FirstOpened u r l n x o → TakenApart w p x o l keep H F
    atom_taken x o also opened s rest goals =
        let ps = parts s rest goals in
        let same = same_parts opened.goals ps.list opened.behind rest (opened.counted ∙ sym ps.counted) (sym opened.were ∙ ps.are) in
        let all : AllOpened D l ps.list opened.opened = subst (λ E. AllOpened E l ps.list opened.opened) also (subst (λ gs. AllOpened (declarations_of u) l gs opened.opened) same.0 opened.all) in
        let leads : Leads (analysing D F l s (rest_of keep H s)) opened.opened =
        (ps.split.subject, ps.split.is_subject, (tt, ps.split.may, (ps.list, ps.split.parted, (opened.opened, all, refl)))) in
        (opened.opened, atom_leads D F l s (rest_of keep H s) opened.opened (form_of F) form leads, opened.are ∙ ap (λ gs. opened.opened ++ gs) same.1)

    pub atom_nameless : declarations_of u ≡ declarations_of w → FirstNameless u r l n → CantTake w p l keep H F names_spent
    atom_nameless also nameless s rest goals =
        let ps = parts s rest goals in
        let same = same_parts nameless.goals ps.list nameless.behind rest (nameless.counted ∙ sym ps.counted) (sym nameless.are ∙ ps.are) in
        let one : SomeNameless D l ps.list = subst (λ E. SomeNameless E l ps.list) also (subst (λ gs. SomeNameless (declarations_of u) l gs) same.0 nameless.one) in
        let refuses : Refuses (analysing D F l s (rest_of keep H s)) names_spent =
        inr (ps.split.subject, ps.split.is_subject, inr (tt, ps.split.may, inr (ps.list, ps.split.parted, inl (one, refl)))) in
        atom_refuses D F l s (rest_of keep H s) names_spent (form_of F) form refuses

  pub atom_stuck : ((s : Sequent) (rest : List Sequent) → goals_of v q ≡ s ∷ rest → AreCells (cells_read v.types v.store) s)
      → (i : ℕ) → StuckAt v q 0 (split_own y) i → CantTake w p l keep H F (not_pattern (i + 1))
  atom_stuck over i stuck s rest goals =
      let k = rest_of keep H s in
      let b = begun s rest goals in
      let cells = cells_read v.types v.store in
      let here : Stuck D cells (split_own y) (assuming y F k) i =
      subst (λ E. Stuck E cells (split_own y) (assuming y F k) i) declared (stuck [] rest (assuming y F k) (first_at v q (assuming y F k) rest b.0)) in
      let a = unsplit_by D s H y F keep (sequent s rest goals) (has s rest goals) b.1 cells i (over (assuming y F k) rest b.0) here in
      let refuses : Refuses (analysing D F l s k) (not_pattern (i + 1)) = inr (a.0, a.1, inr (tt, a.2, inl a.3)) in
      atom_refuses D F l s k (not_pattern (i + 1)) (form_of F) form refuses

  fails : (i : ℕ) → FailsBy v q 0 (split_own y) i → (s : Sequent) (rest : List Sequent) → goals_of w p ≡ s ∷ rest
      → Fails D (cells_read v.types v.store) (split_own y) (assuming y F (rest_of keep H s)) i
  fails i f s rest goals =
      let k = rest_of keep H s in
      subst (λ E. Fails E (cells_read v.types v.store) (split_own y) (assuming y F k) i) declared
      (f [] rest (assuming y F k) (first_at v q (assuming y F k) rest (begun s rest goals).0))

  pub atom_shapeless : (i : ℕ) → i ≡ 2 → FailsBy v q 0 (split_own y) i → CantTake w p l keep H F wrong_shape
  atom_shapeless i two f s rest goals =
      let k = rest_of keep H s in
      let none = no_subject D s H y F keep (sequent s rest goals) (has s rest goals) (begun s rest goals).1 (cells_read v.types v.store) i two (fails i f s rest goals) in
      let refuses : Refuses (analysing D F l s k) wrong_shape = inl (none, refl) in
      atom_refuses D F l s k wrong_shape (form_of F) form refuses

  pub atom_marked : (i : ℕ) → i ≢ 2 → FailsBy v q 0 (split_own y) i → CantTake w p l keep H F mark
  atom_marked i others f s rest goals =
      let k = rest_of keep H s in
      let a = no_mark D s H y F keep (sequent s rest goals) (has s rest goals) (begun s rest goals).1 (cells_read v.types v.store) i others (fails i f s rest goals) in
      let refuses : Refuses (analysing D F l s k) mark = inr (a.0, a.1, inl (a.2, refl)) in
      atom_refuses D F l s k mark (form_of F) form refuses
