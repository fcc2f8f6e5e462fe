-- A run by what the line asks for: that each theorem is derived, and what is printed where nothing failed.
use Rattle.std.proofs.Common.{◌≡◌, ◌≤◌, ℕ, List, [], length, Option, Some, None, refl, sym, ap, ◌∙◌, subst, arith, inl, inr}
use Rattle.std.specs.Prelude.{IfSome, IsSomeAnd}
use Rattle.std.specs.FinMap.{get}
use Rattle.ab_io.specs.Count.{Rose}
use Rattle.ab_io.specs.Loads.{FileMap, Answer, loaded, missing, failed, too_long}
use Rattle.ab_io.proofs.Streams.{front_none}
use Rattle.ab_sigmod.specs.FileLoads.{FilesSeen, Load, IsLoad, AreLoads, no_load, then_load, Tells, Counted}
use Rattle.ab_drill.specs.Drill.{script}
use Rattle.ab_line.specs.Requests.{Origin, Request, the_input, the_file, the_drill}
use Rattle.ab_session.specs.ab_states.specs.State.{State}
use Rattle.ab_run.specs.declared.status.Status.{Status}
use Rattle.ab_run.specs.declared.status.Status.TheVariants.{Done, Refused, BadLine, ReadFault, WriteFault, NoMemory, Unfinished, TooLong, NoFile}
use Rattle.ab_run.specs.declared.way.Way.{Way}
use Rattle.ab_run.specs.Status.{number_of}
use Rattle.ab_run.specs.Ways.{way_of}
use Rattle.ab_run.specs.ProvedTheorems.{AllDerived}
use Rattle.ab_run.specs.Outside.{outside}
use Rattle.ab_run.specs.Endings as ending
use Rattle.ab_run.specs.Endings.{Ending, status_of}
use Rattle.ab_run.specs.Outcome.{HadNoMemory, IsReported, IsScript, LoadedScript, RanAsAsked, RanFor, RanLoaded, WroteLine, own_load}
use Rattle.ab_run.proofs.Endings.{ran_at_once}
use Rattle.ab_run.proofs.Whole.{none_derived, reported, text_derived, text_reported, theorems_derived}

-- there was no memory for the line
no_memory_for : (way : Way) (origin : Origin) (left out : Option (List ℕ)) (reads writes : ℕ) (f : FilesSeen) → RanFor way origin NoMemory None (outside left out reads writes f) (outside left out reads writes f)
no_memory_for way the_input left out reads writes f = ran_at_once way left out reads writes f
no_memory_for way (the_file name) left out reads writes f = inr (record { status_is = refl; none_handed = refl; stays = refl })
no_memory_for way (the_drill size) left out reads writes f = inr (record { status_is = refl; none_handed = refl; stays = refl })

pub asked_no_memory : (q : Option Request) (left out : Option (List ℕ)) (reads writes : ℕ) (f : FilesSeen) → RanAsAsked q NoMemory None (outside left out reads writes f) (outside left out reads writes f)
asked_no_memory None left out reads writes f = (refl, front_none out _)
asked_no_memory (Some q) left out reads writes f = no_memory_for (way_of q) q.origin left out reads writes f

module _ (status : Status) (handed : Option State) (left left' out out' : Option (List ℕ)) (reads reads' writes writes' : ℕ) where
  no_memory_derived : HadNoMemory status handed out out' → IfSome handed AllDerived
  no_memory_derived h = subst (λ o. IfSome o AllDerived) (sym h.none_handed) tt

  loaded_derived : (f f' : FilesSeen) (way : Way) (name : List ℕ) (a : Answer) → RanLoaded way name a status handed out out' writes writes' f f' → IfSome handed AllDerived
  loaded_derived f f' way name (loaded text) r = text_derived f f' way text status handed out out' writes writes' r
  loaded_derived f f' way name missing r = none_derived (ending.missing name) status handed out out' writes writes' r.1
  loaded_derived f f' way name failed r = none_derived ending.read_fault status handed out out' writes writes' r.1
  loaded_derived f f' way name too_long r = none_derived ending.too_long status handed out out' writes writes' r.1

  derived_for : (way : Way) (origin : Origin) (f f' : FilesSeen) → RanFor way origin status handed (outside left out reads writes f) (outside left' out' reads' writes' f') → IfSome handed AllDerived
  derived_for way the_input f f' r = theorems_derived way status handed left left' out out' reads reads' writes writes' r
  derived_for way (the_file name) f f' (inl l) = loaded_derived l.behind f' way name l.answer l.ran
  derived_for way (the_file name) f f' (inr h) = no_memory_derived h
  derived_for way (the_drill size) f f' (inl r) = text_derived f f' way (script size) status handed out out' writes writes' r
  derived_for way (the_drill size) f f' (inr h) = no_memory_derived h

  -- each theorem of the state that is handed out has a derivation
  pub asked_derived : (q : Option Request) (f f' : FilesSeen) → RanAsAsked q status handed (outside left out reads writes f) (outside left' out' reads' writes' f') → IfSome handed AllDerived
  asked_derived None f f' r = none_derived ending.line_refused status handed out out' writes writes' r
  asked_derived (Some q) f f' r = derived_for (way_of q) q.origin f f' r

  -- what a load answers where the file has this text
  file_text : (files : Option FileMap) (name text : List ℕ) (a : Answer) → IfSome files (λ m. Tells a (get m name)) → IsSomeAnd files (λ m. get m name ≡ Some text) → Tells a (Some text)
  file_text None name text a t s = absurd s
  file_text (Some m) name text a t s = subst (λ file. Tells a file) s t

  module _ (text before : List ℕ) (number : ℕ) (n : number ≡ number_of status) (told : out ≡ Some before) (noreads : ¬ Rose reads reads') (nowrites : ¬ Rose writes writes') (nomemory : ¬ (number ≡ 5)) where
    had_memory : {A : Type 0} → HadNoMemory status handed out out' → A
    had_memory h = absurd (nomemory (n ∙ ap number_of h.status_is))

    text_is_reported : {f g f' : FilesSeen} (script : List Load) → AreLoads f script g → (way : Way) (t : List ℕ) → t ≡ text → RanLoaded way text (loaded t) status handed out out' writes writes' g f'
        → IsReported way text before handed out' number script f f'
    text_is_reported {g = g} {f' = f'} script first way t e r =
        text_reported script first way status handed text before out out' writes writes' number n told nowrites nomemory (subst (λ x. RanLoaded way text (loaded x) status handed out out' writes writes' g f') e r)

    -- the line of an ending was printed, so the status is its
    line_status : (e : Ending) (s : Status) → number ≡ number_of s → WroteLine e s handed out out' writes writes' → s ≡ status_of e
    line_status e Done k w = w.1
    line_status e Refused k w = w.1
    line_status e BadLine k w = w.1
    line_status e ReadFault k w = w.1
    line_status e Unfinished k w = w.1
    line_status e TooLong k w = w.1
    line_status e NoFile k w = w.1
    line_status e WriteFault k w = absurd (nowrites w.1)
    line_status e NoMemory k w = absurd (nomemory k)

    module _ (f f' : FilesSeen) (way : Way) (name : List ℕ) (noloads : number ≡ 3 → ¬ Rose f.faults f'.faults) (l : LoadedScript way name status handed out out' writes writes' f f') where
      not_failed : l.answer ≡ failed → ⊥
      not_failed e =
          let r : RanLoaded way name failed status handed out out' writes writes' l.behind f' = subst (λ a. RanLoaded way name a status handed out out' writes writes' l.behind f') e l.ran in
          let rose : Rose f.faults l.behind.faults = subst (λ a. Counted a f l.behind) e l.load.counted in
          noloads (n ∙ ap number_of (line_status ending.read_fault status n r.1)) (subst (λ (x : FilesSeen). Rose f.faults x.faults) (sym r.0) rose)

      loaded_reported : (a : Answer) → l.answer ≡ a → Tells a (Some text) → length text ≤ 16777216 → RanLoaded way name a status handed out out' writes writes' l.behind f' → IsReported way text before handed out' number (own_load (the_file name) text) f f'
      loaded_reported (loaded t) same k few r =
          let e : t ≡ text = cc in
          let load : IsLoad f (record { name = name; answer = loaded text }) l.behind = subst (λ x. IsLoad f (record { name = name; answer = loaded x }) l.behind) e (subst (λ a. IsLoad f (record { name = name; answer = a }) l.behind) same l.load) in
          text_is_reported (own_load (the_file name) text) (then_load no_load load) way t e r
      loaded_reported missing same k few r = cc
      loaded_reported failed same k few r = absurd (not_failed same)
      loaded_reported too_long same k few r = absurd (omega (arith, k, few))

    -- THE REPORT of the script, where neither the source nor the sink failed, nor the load of the script
    pub asked_reported : (way : Way) (origin : Origin) (f f' : FilesSeen) → IsScript origin text left f.files → (number ≡ 3 → ¬ Rose f.faults f'.faults)
        → RanFor way origin status handed (outside left out reads writes f) (outside left' out' reads' writes' f') → IsReported way text before handed out' number (own_load origin text) f f'
    asked_reported way the_input f f' (e, few) noloads r = reported way status handed text before left left' out out' reads reads' writes writes' number n e few told noreads nowrites nomemory r
    asked_reported way (the_file name) f f' (s, few) noloads (inl l) =
        loaded_reported f f' way name noloads l l.answer refl (file_text f.files name text l.answer l.load.told s) few l.ran
    asked_reported way (the_file name) f f' s noloads (inr h) = had_memory h
    asked_reported way (the_drill size) f f' s noloads (inl r) = text_is_reported [] no_load way (script size) (sym s) r
    asked_reported way (the_drill size) f f' s noloads (inr h) = had_memory h
