-- A SESSION'S STATES: what is declared is sound, and no formula of a state says a judgement that coinduction marks. So what a search closes there is derived.
use Rattle.std.proofs.Common.{◌≡◌, ℕ, List, [], ◌∷◌, ◌++◌, map, Option, Some, refl, sym, subst}
use Rattle.std.specs.Prelude.{All, Contains}
use Rattle.std.proofs.lemmas.List.Elements.{All-nil, All-cons, All-head, All-tail, All-append, All-map, All-weaker, All-contains}
use Rattle.ab_term.specs.Terms.{Read}
use Rattle.ab_grammar.specs.CommandTrees.{ProofCommand, search}
use Rattle.ab_formulas.specs.Declarations.{Declarations, a_theorem}
use Rattle.ab_formulas.specs.NamedGoals.{Goal, named, IsNumbered}
use Rattle.ab_formulas.specs.NewNames.{Label}
use Rattle.ab_formulas.specs.Sequents.{Hypothesis, Sequent, IsSequent}
use Rattle.ab_theory.specs.Derivations.{Derivation, proves}
use Rattle.ab_effects.specs.ProofCommands.{given_label}
use Rattle.ab_search_trees.specs.Outcomes.{closed, ComesTo}
use Rattle.ab_search_proofs.specs.Whole.{IsWhole}
use Rattle.ab_search_answers.specs.Unmarked.{HasNoHash, HaveNoHash}
use Rattle.ab_search_answers.proofs.Derived.{closed_derived}
use Rattle.ab_search_answers.proofs.TextClauses.{behind_none}
use Rattle.ab_search_answers.proofs.Texts.{means_none}
use Rattle.ab_unhashed_goals.specs.Unhashed.{NoJudgementIsHashed, NoTheoremIsHashed, IsUnhashed}
use Rattle.ab_unhashed_goals.proofs.Commands.{leads_to_none}
use Rattle.ab_unhashed_goals.proofs.Numbers.{goal_none}
use Rattle.ab_states.specs.State.{Attempt, State, Entry, empty}
use Rattle.ab_states.specs.Reply.{Reply}
use Rattle.ab_states.specs.Replay.{Replays, none, next}
use Rattle.ab_states.specs.ProofCommandEffects.{Makes}
use Rattle.ab_states.specs.ForwardEffects as effect
use Rattle.ab_states.specs.ForwardEffects.{Faces, GoesForward}
use Rattle.ab_determinism.specs.Sound.{AreSound, IsSound}
use Rattle.ab_determinism.proofs.Sound.{has_member, sound_forward, sound_beginning}
use Rattle.ab_search_sessions.specs.UnhashedStates.{ProofIsUnhashed, IsUnhashedState}
use Rattle.ab_search_sessions.proofs.Defined.{nothing_defined, declares_none, files_none, first_none, member_there}
use Rattle.ab_search_sessions.proofs.Theorems.{none_declared, none_by_items, none_hashed, theorems_behind, one_theorem, first_theorems}

-- A PROOF COMMAND makes goals without such judgements
makes_none : (D : Declarations) → AreSound D → HaveNoHash D × NoTheoremIsHashed D → (l : Label) (t : Sequent) → IsSequent D t → NoJudgementIsHashed t → (c : ProofCommand) (ps : List Sequent) → Makes D l c t ps → All NoJudgementIsHashed ps
makes_none D sound unsaid l t is unhashed (search depth) ps h = subst (All NoJudgementIsHashed) (sym h.1) (All-nil NoJudgementIsHashed)
makes_none D sound unsaid l t is unhashed c ps h = leads_to_none D sound.sentences sound.definitions unsaid.0 unsaid.1 l t is unhashed c ps h

-- whatever numbers the variables of a goal have
by_names : (p : Sequent) → NoJudgementIsHashed p → IsUnhashed (named p)
by_names p n t e = goal_none p t e n

all_by_names : (ps : List Sequent) → All NoJudgementIsHashed ps → All IsUnhashed (map named ps)
all_by_names ps all = All-map IsUnhashed named ps (All-weaker NoJudgementIsHashed (λ p. IsUnhashed (named p)) by_names ps all)

first_goal : (F : Read) → HasNoHash F → NoJudgementIsHashed (proves F 0)
first_goal F n = record { conclusion = n; hypotheses = All-nil (λ (h : Hypothesis). HasNoHash h.formula) }

module _ (s : State) (sound : IsSound s) (n : IsUnhashedState s) (l : Option (List ℕ)) (c : ProofCommand) (bytes : List ℕ) (a : Attempt) (t : Sequent) (gs : List Goal) (ps : List Sequent) (f : Faces s bytes l c a t gs) (m : Makes s.declarations (given_label l) c t ps) where
  its : ProofIsUnhashed (Some a)
  its = subst ProofIsUnhashed f.attempt n.attempt

  goals : All IsUnhashed (f.current ∷ gs)
  goals = subst (All IsUnhashed) f.goals its.1

  -- the goals that are left then
  left : All IsUnhashed (map named ps ++ gs)
  left =
      let unhashed = All-head IsUnhashed f.current gs goals t f.numbered.is in
      let made = makes_none s.declarations sound.declarations (n.definitions, n.theorems) (given_label l) t f.numbered.sequent unhashed c ps m in
      All-append IsUnhashed (map named ps) gs (all_by_names ps made) (All-tail IsUnhashed f.current gs goals)

-- BEHIND EACH EFFECT
forward_unhashed : {s t : State} {e : Entry} {r : Reply} → GoesForward s e r t → IsSound s → IsUnhashedState s → IsUnhashedState t
forward_unhashed (effect.unread c f) sound n = n
forward_unhashed (effect.declined c r k d) sound n = n
forward_unhashed {s = s} (effect.declared c more k d) sound n = record {
  definitions = behind_none s.declarations more n.definitions (declares_none s.declarations more c d);
  theorems = theorems_behind s.declarations more n.theorems (none_hashed more (none_declared d));
  attempt = n.attempt;
}
forward_unhashed {s = s} (effect.specified x files more k m d) sound n = record {
  definitions = files_none s.declarations more _ d n.definitions;
  theorems = theorems_behind s.declarations more n.theorems (none_hashed more (none_by_items d));
  attempt = n.attempt;
}
forward_unhashed (effect.item_declined x files v k m d) sound n = n
forward_unhashed (effect.specified_twice x k m) sound n = n
forward_unhashed {s = s} (effect.stated x e F k m d) sound n =
    let unsaid = means_none s.declarations _ e _ F d in record {
      definitions = n.definitions;
      theorems = n.theorems;
      attempt = (unsaid, All-cons IsUnhashed (named (proves F 0)) [] (by_names (proves F 0) (first_goal F unsaid)) (All-nil IsUnhashed));
    }
forward_unhashed (effect.showed x F k e) sound n = n
forward_unhashed (effect.ended k) sound n = n
forward_unhashed (effect.switched on k) sound n = record { definitions = n.definitions; theorems = n.theorems; attempt = n.attempt }
forward_unhashed (effect.given_up k) sound n = record { definitions = n.definitions; theorems = n.theorems; attempt = tt }
forward_unhashed (effect.denied l c a q gs v f d) sound n = n
forward_unhashed {s = s} (effect.led {bytes = b} l c a q gs ps h hs f m e) sound n = record {
  definitions = n.definitions;
  theorems = n.theorems;
  attempt = ((its s sound n l c b a q gs ps f m).0, subst (All IsUnhashed) e (left s sound n l c b a q gs ps f m));
}
forward_unhashed {s = s} (effect.proved {bytes = b} l c a q gs ps f m e) sound n =
    let js = effect.assumed_after s a q c in
    let E : Declarations = a_theorem a.name a.formula js ∷ [] in record {
      definitions = behind_none s.declarations E n.definitions (nothing_defined E (λ p. refl));
      theorems = theorems_behind s.declarations E n.theorems (one_theorem a.name a.formula js (its s sound n l c b a q gs ps f m).0);
      attempt = tt;
    }

-- WHATEVER IT KEEPS
replayed_unhashed : {s t : State} {es : List Entry} → Replays s es t → IsSound s → IsUnhashedState s → IsUnhashedState t
replayed_unhashed none sound n = n
replayed_unhashed (next reply f k r) sound n = replayed_unhashed r (sound_forward f sound) (forward_unhashed f sound n)

pub replayed_sound : {s t : State} {es : List Entry} → Replays s es t → IsSound s → IsSound t
replayed_sound none is = is
replayed_sound (next reply f k r) is = replayed_sound r (sound_forward f is)

pub session_unhashed : (es : List Entry) (t : State) → Replays empty es t → IsUnhashedState t
session_unhashed es t r = replayed_unhashed r sound_beginning (record { definitions = first_none; theorems = first_theorems; attempt = tt })

-- no goal of the open proof has one
pub session_goal : (es : List Entry) (t : State) (a : Attempt) (g : Goal) (s : Sequent) → Replays empty es t → t.attempt ≡ Some a → Contains a.goals g → g ≡ named s → NoJudgementIsHashed s
session_goal es t a g s r begun there is =
    let its : ProofIsUnhashed (Some a) = subst ProofIsUnhashed begun (session_unhashed es t r).attempt in
    All-contains IsUnhashed a.goals g its.1 there s is

-- WHAT A SEARCH CLOSES THERE
pub session_derived : (es : List Entry) (t : State) (a : Attempt) (g : Goal) (depth : ℕ) (s : Sequent) → Replays empty es t → t.attempt ≡ Some a → Contains a.goals g → IsNumbered t.declarations g s → ComesTo t.declarations depth s closed → (d : Derivation) × IsWhole t.declarations s d
session_derived es t a g depth s r begun there numbered comes =
    let D = t.declarations in
    let sound = (replayed_sound r sound_beginning).declarations in
    let unmarked = (session_goal es t a g s r begun there numbered.is).conclusion in
    closed_derived D sound.sentences sound.definitions sound.programs (has_member D sound) (member_there D sound.first) (session_unhashed es t r).definitions comes.0 depth s numbered.sequent comes.1 unmarked comes.2 comes.3 comes.4
