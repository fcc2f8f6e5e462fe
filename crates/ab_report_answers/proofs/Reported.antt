-- EACH TEXT HAS A REPORT, or it is cut short.
use Rattle.std.proofs.Common.{◌≡◌, ◌⊎◌, inl, inr, ℕ, Bool, true, false, Option, Some, None, List, [], ◌∷◌, ◌++◌, refl, ap, arith}
use Rattle.ab_formulas.specs.Declarations.{Declarations}
use Rattle.ab_lex.specs.declared.TheConstants.{COMMAND_LIMIT}
use Rattle.ab_lex.specs.Commands.{Item, command, long}
use Rattle.ab_lex.proofs.Cuts.{items_there}
use Rattle.ab_sigmod.specs.FileLoads.{FilesSeen, Load, AreLoads, no_load}
use Rattle.ab_sigmod.proofs.Appending.{loads_on}
use Rattle.ab_declare.specs.declared.refusal.Refusal.TheVariants.{TooLong}
use Rattle.ab_session.specs.SessionAnswers.{IsDerivedLast}
use Rattle.ab_states.specs.State.{Attempt, State, empty}
use Rattle.ab_states.specs.Reply.{Reply, completed, admitted, refused}
use Rattle.ab_states.specs.Replay.{IsReplayed, none}
use Rattle.ab_states.proofs.Replaying.{replays_on}
use Rattle.ab_determinism.specs.Sound.{IsSound}
use Rattle.ab_determinism.proofs.Sound.{sound_beginning}
use Rattle.ab_determinism.proofs.Taking.{sound_effect}
use Rattle.ab_existence.specs.Certainty.{IsCertain}
use Rattle.ab_existence.proofs.Certain.{sure, and_so, and_also, there_or_not}
use Rattle.ab_effect_answers.specs.WholeStates.{HasGoals}
use Rattle.ab_state_derivations.specs.DerivedStates.{HasHistory, EndsWith, IsTrueOf}
use Rattle.ab_state_derivations.proofs.Searches.{searches_derived}
use Rattle.ab_state_derivations.proofs.Histories.{first_history, history_here, history_on, told_so, goals_are_sequents}
use Rattle.ab_effect_answers.specs.SomeEffects.{CommandFindsNames, HasSomeEffect}
use Rattle.ab_effect_answers.proofs.Effects.{effect_answered}
use Rattle.ab_run.specs.declared.way.Way.{Way}
use Rattle.ab_run.specs.ProvedTheorems.{IsBorneOut}
use Rattle.ab_run.specs.Report as run
use Rattle.ab_run.specs.Report.{Moment, Report, Replies, to_command, to_long, Reports, next, last, is_end}
use Rattle.ab_report_answers.specs.SomeReports.{HasReport, StopsShort, IsCutShort}

-- what is true of every state of a run
pub record IsReached (s : State) : Type 0 where
  pub sound : IsSound s
  pub replayed : IsReplayed s
  pub history : HasHistory s

-- each goal of its open proof is a sequent
has_goals : (s : State) → IsReached s → HasGoals s.declarations s.attempt
has_goals s reached = go s.attempt refl
  where
    go : (a : Option Attempt) → s.attempt ≡ a → HasGoals s.declarations a
    go None e = tt
    go (Some a) e = goals_are_sequents s a reached.sound (history_here s reached.replayed reached.history) e

-- what is told of a theorem is borne out
last_derived : (D : Declarations) (name : List ℕ) → EndsWith D name → IsDerivedLast D name
last_derived D name e = let size = e.last in record { place = e.place; derivation = e.derivation; derived = e.derived; last = omega (arith, size); named = e.named }

borne_out : (t : State) (r : Reply) → IsTrueOf t r → IsBorneOut r t
borne_out t (completed name) h = record { derived_last = last_derived t.declarations name h.0; proved = h.1 }
borne_out t (admitted name names) h = last_derived t.declarations name h
borne_out t r h = tt

module _ (way : Way) where
  -- the items have a report from this state on
  pub record AreReported (s : State) (items : List Item) (before : FilesSeen) : Type 0 where
    pub loads : List Load
    pub after : FilesSeen
    pub asked : AreLoads before loads after
    pub report : Report
    pub reports : Reports way s items loads report

  abbrev Answer : State → List Item → FilesSeen → Type 0
  Answer s items before = AreReported s items before ⊎ StopsShort way s items before

  -- one item more in front
  module _ (s : State) (i : Item) (items : List Item) (before after : FilesSeen) (loads : List Load) (asked : AreLoads before loads after) (m : Moment) (replies : Replies s i loads m) where
    in_front : is_end way m.reply ≡ false → Answer m.state items after → Answer s (i ∷ items) before
    in_front on (inl r) = inl (record { loads = loads ++ r.loads; after = r.after; asked = loads_on asked r.asked; report = m ∷ r.report; reports = next m replies on r.reports })
    in_front on (inr c) = inr (record {
      answered = i ∷ c.answered;
      bytes = c.bytes;
      others = c.others;
      items_are = ap (λ (is : List Item). i ∷ is) c.items_are;
      loads = loads ++ c.loads;
      after = c.after;
      asked = loads_on asked c.asked;
      report = m ∷ c.report;
      reports = next m replies on c.reports;
      goes_on = rw on c.goes_on;
      names_run_out = c.names_run_out;
    })

    at_end : is_end way m.reply ≡ true → Answer s (i ∷ items) before
    at_end ends = inl (record { loads = loads; after = after; asked = asked; report = m ∷ []; reports = last m replies ends })

    by_end : (b : Bool) → is_end way m.reply ≡ b → IsCertain (Answer m.state items after) → IsCertain (Answer s (i ∷ items) before)
    by_end true ends rest = sure (at_end ends)
    by_end false on rest = and_also rest (in_front on)

  -- the next command cuts it short
  cut_here : (s : State) (bytes : List ℕ) (items : List Item) (before : FilesSeen) → ¬ CommandFindsNames s bytes → Answer s (command bytes ∷ items) before
  cut_here s bytes items before spent =
      inr (record { answered = []; bytes = bytes; others = items; items_are = refl; loads = []; after = before; asked = no_load; report = []; reports = run.none; goes_on = refl; names_run_out = spent })

  module _ (s : State) (bytes : List ℕ) (items : List Item) (before : FilesSeen) (reached : IsReached s) (on : (t : State) (after : FilesSeen) → IsReached t → IsCertain (Answer t items after)) where
    by_effect : HasSomeEffect before s bytes → IsCertain (Answer s (command bytes ∷ items) before)
    by_effect (after, reply, t, e) =
        let searched = searches_derived s bytes reached.sound reached.replayed in
        let borne = borne_out t reply (told_so e.effect reached.sound reached.replayed searched reached.history) in
        let m : Moment = record { reply = reply; state = t } in
        by_end s (command bytes) items before after e.loads e.asked m (to_command m e.effect borne) (is_end way reply) refl
        (on t after (record { sound = sound_effect e.effect reached.sound; replayed = replays_on e.effect reached.replayed; history = history_on e.effect reached.sound reached.replayed searched reached.history }))

    by_names : CommandFindsNames s bytes ⊎ (¬ CommandFindsNames s bytes) → IsCertain (Answer s (command bytes ∷ items) before)
    by_names (inl names) = and_so (effect_answered before s bytes (record { definitions = reached.sound.declarations.definitions; replayed = reached.replayed; goals = has_goals s reached }) names) by_effect
    by_names (inr isnt) = sure (cut_here s bytes items before isnt)

    command_reported : IsCertain (Answer s (command bytes ∷ items) before)
    command_reported = and_so (there_or_not (CommandFindsNames s bytes)) by_names

  long_reported : (s : State) (items : List Item) (before : FilesSeen) → IsCertain (Answer s items before) → IsCertain (Answer s (long ∷ items) before)
  long_reported s items before rest =
      let m : Moment = record { reply = refused TooLong; state = s } in
      by_end s long items before before [] no_load m (to_long m refl refl) (is_end way (refused TooLong)) refl rest

  items_reported : (items : List Item) (s : State) (before : FilesSeen) → IsReached s → IsCertain (Answer s items before)
  items_reported [] s before reached = sure (inl (record { loads = []; after = before; asked = no_load; report = []; reports = run.none }))
  items_reported (command bytes ∷ items) s before reached = command_reported s bytes items before reached (λ t after there. items_reported items t after there)
  items_reported (long ∷ items) s before reached = long_reported s items before (items_reported items s before reached)

  pub text_reported : (text : List ℕ) (before : FilesSeen) → IsCertain (HasReport way text before ⊎ IsCutShort way text before)
  text_reported text before =
      let items = items_there COMMAND_LIMIT text in
      and_also (items_reported items.0 empty before (record { sound = sound_beginning; replayed = none; history = first_history }))
      (λ a. elim a [
        | inl r ↦ inl (r.loads, r.after, r.asked, r.report, record { items = items.0; items_are = items.1; reports = r.reports })
        | inr c ↦ inr (items.0, items.1, c)
      ])
