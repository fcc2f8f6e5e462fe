-- A run over a source and a sink that tell their bytes and didn't fail.
use Rattle.std.proofs.Common.{◌≡◌, ◌≤◌, ℕ, List, [], ◌++◌, length, Option, Some, None, refl, sym, ap, ◌∙◌, subst, arith, inl, inr}
use Rattle.std.proofs.lemmas.List.{append-nil, length-append}
use Rattle.ab_sigmod.specs.FileLoads.{FilesSeen, Load, AreLoads, no_load}
use Rattle.ab_sigmod.proofs.Appending.{loads_on}
use Rattle.ab_lex.specs.Commands.{Item}
use Rattle.ab_io.specs.Count.{Rose}
use Rattle.ab_io.specs.KnownBytes.{Takes, Appends, AtEnd}
use Rattle.ab_run.specs.declared.status.Status.{Status}
use Rattle.ab_run.specs.declared.status.Status.TheVariants.{Done, Refused, BadLine, ReadFault, WriteFault, NoMemory, Unfinished, TooLong, NoFile}
use Rattle.ab_run.specs.declared.whole_runs.TheConstants.{MAX_INPUT}
use Rattle.ab_run.specs.declared.way.Way.{Way}
use Rattle.ab_run.specs.Status.{number_of}
use Rattle.std.specs.Prelude.{true, IfSome}
use Rattle.ab_session.specs.ab_states.specs.State.{State, empty}
use Rattle.ab_session.specs.ab_states.specs.Replay.{none as replayed}
use Rattle.ab_run.specs.ProvedTheorems.{AllDerived}
use Rattle.ab_run.specs.Report.{Report, Reports, ReportOf, has_end}
use Rattle.ab_run.specs.Outside.{outside}
use Rattle.ab_run.specs.Endings.{Ending, read_fault, too_long, missing, line_refused, last_line, status_of}
use Rattle.ab_run.specs.Outcome.{HandsOut, EndsWith, WroteAll, WroteLine, RanOver, Ran, RanText, IsReported}
use Rattle.ab_run.specs.Progress.{EndedWith}
use Rattle.ab_run.proofs.Reports.{ended_text}
use Rattle.ab_run.proofs.Derived.{all_derived, none_yet}

took_all : (text taken : List ℕ) (left : Option (List ℕ)) → Takes (Some text) taken left → AtEnd left → taken ≡ text
took_all text taken None t e = cc
took_all text taken (Some rest) t e =
    let f : text ≡ taken ++ rest = cc in
    sym (append-nil taken) ∙ (ap (λ q. taken ++ q) (sym e) ∙ sym f)

took_front : (text taken : List ℕ) (left : Option (List ℕ)) → Takes (Some text) taken left → (more : List ℕ) × (taken ++ more ≡ text)
took_front text taken None t = cc
took_front text taken (Some rest) t = let f : text ≡ taken ++ rest = cc in (rest, sym f)

took_few : (text taken : List ℕ) (left : Option (List ℕ)) → Takes (Some text) taken left → length taken ≤ length text
took_few text taken None t = cc
took_few text taken (Some rest) t =
    let f : text ≡ taken ++ rest = cc in
    let g = ap length f in
    omega (arith, length-append {A = ℕ})

-- the same status of a text that goes on behind the reply that ends the run
status_on : (way : Way) (status : Status) (text more : List ℕ) (r : Report) → has_end way r ≡ true → EndsWith status way text r → EndsWith status way (text ++ more) r
status_on way Done text more r q (a, b, c) = (a, b, inl q)
status_on way Refused text more r q e = e
status_on way Unfinished text more r q (a, inl n) = (a, inl n)
status_on way Unfinished text more r q (a, inr n) = absurd (n (inl q))
status_on way BadLine text more r q e = e
status_on way ReadFault text more r q e = e
status_on way WriteFault text more r q e = e
status_on way NoMemory text more r q e = e
status_on way TooLong text more r q e = e
status_on way NoFile text more r q e = e

-- these loads were made before those of the commands
module _ {f g f' : FilesSeen} (script : List Load) (first : AreLoads f script g) (way : Way) (text before : List ℕ) (left' after : Option (List ℕ)) (handed : Option State) where
  whole_text : (status : Status) (taken : List ℕ) (number : ℕ) → number ≡ number_of status → (w : WroteAll way status taken left' handed (Some before) after g f') → taken ≡ text → IsReported way text before handed after number script f f'
  whole_text status taken number n w e = record {
    loads = w.loads;
    asked = loads_on first w.asked;
    report = w.report;
    report_of = subst (λ t. ReportOf way t w.loads w.report) e w.report_of;
    hands_out = w.hands_out;
    written = w.wrote;
    status = status;
    number_is = n;
    status_is = subst (λ t. EndsWith status way t w.report) e w.status_is;
  }

  quit_text : (status : Status) (taken more : List ℕ) (number : ℕ) → number ≡ number_of status → (w : WroteAll way status taken left' handed (Some before) after g f') → taken ++ more ≡ text → has_end way w.report ≡ true → IsReported way text before handed after number script f f'
  quit_text status taken more number n w e q = record {
    loads = w.loads;
    asked = loads_on first w.asked;
    report = w.report;
    report_of = subst (λ t. ReportOf way t w.loads w.report) e (ended_text taken more w.loads w.report w.report_of q);
    hands_out = w.hands_out;
    written = w.wrote;
    status = status;
    number_is = n;
    status_is = subst (λ t. EndsWith status way t w.report) e (status_on way status taken more w.report q w.status_is);
  }

  all_reported : (status : Status) (taken : List ℕ) (number : ℕ) → number ≡ number_of status → Takes (Some text) taken left' → WroteAll way status taken left' handed (Some before) after g f' → IsReported way text before handed after number script f f'
  all_reported status taken number n t w = elim w.read [
    | inl q ↦ let m = took_front text taken left' t in quit_text status taken m.0 number n w m.1 q
    | inr e ↦ whole_text status taken number n w (took_all text taken left' t e)
  ]

pub reported : {f f' : FilesSeen} (way : Way) (status : Status) (handed : Option State) (text before : List ℕ) (left left' out out' : Option (List ℕ)) (reads reads' writes writes' number : ℕ) → number ≡ number_of status → left ≡ Some text → length text ≤ MAX_INPUT → out ≡ Some before
    → ¬ Rose reads reads' → ¬ Rose writes writes' → ¬ (number ≡ 5) → Ran way status handed (outside left out reads writes f) (outside left' out' reads' writes' f') → IsReported way text before handed out' number [] f f'
reported {f = f} {f' = f'} way status handed text before left left' out out' reads reads' writes writes' number n e few o noreads nowrites nomemory r =
    over status r.taken n (subst (λ x. Takes x r.taken left') e r.takes) (subst (λ x. RanOver way status r.taken handed (outside left x reads writes f) (outside left' out' reads' writes' f')) o r.over)
  where
    over : (status : Status) (taken : List ℕ) → number ≡ number_of status → Takes (Some text) taken left' → RanOver way status taken handed (outside left (Some before) reads writes f) (outside left' out' reads' writes' f') → IsReported way text before handed out' number [] f f'
    over Done taken n t v = all_reported [] no_load way text before left' out' handed Done taken number n t v.1
    over Refused taken n t v = all_reported [] no_load way text before left' out' handed Refused taken number n t v.1
    over BadLine taken n t v = all_reported [] no_load way text before left' out' handed BadLine taken number n t v.1
    over ReadFault taken n t v = absurd (noreads v.1)
    over WriteFault taken n t v = absurd (nowrites v.0)
    over NoMemory taken n t v = absurd (nomemory n)
    over Unfinished taken n t v = all_reported [] no_load way text before left' out' handed Unfinished taken number n t v.1
    over NoFile taken n t v = all_reported [] no_load way text before left' out' handed NoFile taken number n t v.1
    over TooLong taken n t v = let a = took_few text taken left' t in let b = v.0 in absurd (omega arith)

handed_derived : {way : Way} (handed : Option State) (is : List Item) (loads : List Load) (r : Report) → HandsOut handed r → Reports way empty is loads r → IfSome handed AllDerived
handed_derived handed is loads r e x = subst (λ o. IfSome o AllDerived) (sym e) (all_derived x replayed none_yet)

-- each theorem of the state that is handed out has a derivation
pub theorems_derived : {f f' : FilesSeen} (way : Way) (status : Status) (handed : Option State) (left left' out out' : Option (List ℕ)) (reads reads' writes writes' : ℕ) → Ran way status handed (outside left out reads writes f) (outside left' out' reads' writes' f') → IfSome handed AllDerived
theorems_derived {f = f} {f' = f'} way status handed left left' out out' reads reads' writes writes' r = over status r.taken r.over
  where
    of_all : (status : Status) (taken : List ℕ) → WroteAll way status taken left' handed out out' f f' → IfSome handed AllDerived
    of_all status taken w = handed_derived handed w.report_of.items w.loads w.report w.hands_out w.report_of.reports

    over : (status : Status) (taken : List ℕ) → RanOver way status taken handed (outside left out reads writes f) (outside left' out' reads' writes' f') → IfSome handed AllDerived
    over Done taken v = of_all Done taken v.1
    over Refused taken v = of_all Refused taken v.1
    over BadLine taken v = of_all BadLine taken v.1
    over NoFile taken v = of_all NoFile taken v.1
    over Unfinished taken v = of_all Unfinished taken v.1
    over ReadFault taken v = let w = v.2 in handed_derived handed w.report_of.items w.loads w.report w.hands_out w.report_of.reports
    over TooLong taken v = let w = v.1 in handed_derived handed w.report_of.items w.loads w.report w.hands_out w.report_of.reports
    over WriteFault taken v = let w = v.1 in handed_derived handed w.answered w.loads w.report v.2 w.reports
    over NoMemory taken v = subst (λ o. IfSome o AllDerived) (sym v.0) tt

-- the same of a run over a text
pub text_derived : (f f' : FilesSeen) (way : Way) (text : List ℕ) (status : Status) (handed : Option State) (out out' : Option (List ℕ)) (writes writes' : ℕ) → RanText way text status handed out out' writes writes' f f' → IfSome handed AllDerived
text_derived f f' way text status handed out out' writes writes' r = over status r
  where
    of_all : (status : Status) → WroteAll way status text (Some []) handed out out' f f' → IfSome handed AllDerived
    of_all status w = handed_derived handed w.report_of.items w.loads w.report w.hands_out w.report_of.reports

    over : (status : Status) → RanText way text status handed out out' writes writes' f f' → IfSome handed AllDerived
    over Done v = of_all Done v
    over Refused v = of_all Refused v
    over BadLine v = of_all BadLine v
    over NoFile v = of_all NoFile v
    over ReadFault v = of_all ReadFault v
    over TooLong v = of_all TooLong v
    over Unfinished v = of_all Unfinished v
    over WriteFault v = let w = v.1 in handed_derived handed w.answered w.loads w.report v.2 w.reports
    over NoMemory v = subst (λ o. IfSome o AllDerived) (sym v.0) tt

-- the report of a text, where nothing failed
pub text_reported : {f g f' : FilesSeen} (script : List Load) → AreLoads f script g → (way : Way) (status : Status) (handed : Option State) (text before : List ℕ) (out out' : Option (List ℕ)) (writes writes' number : ℕ) → number ≡ number_of status → out ≡ Some before
    → ¬ Rose writes writes' → ¬ (number ≡ 5) → RanText way text status handed out out' writes writes' g f' → IsReported way text before handed out' number script f f'
text_reported {f = f} {g = g} {f' = f'} script first way status handed text before out out' writes writes' number n o nowrites nomemory r =
    over status n (subst (λ x. RanText way text status handed x out' writes writes' g f') o r)
  where
    of_all : (status : Status) → number ≡ number_of status → WroteAll way status text (Some []) handed (Some before) out' g f' → IsReported way text before handed out' number script f f'
    of_all status n w = whole_text script first way text before (Some []) out' handed status text number n w refl

    over : (status : Status) → number ≡ number_of status → RanText way text status handed (Some before) out' writes writes' g f' → IsReported way text before handed out' number script f f'
    over Done n v = of_all Done n v
    over Refused n v = of_all Refused n v
    over BadLine n v = of_all BadLine n v
    over NoFile n v = of_all NoFile n v
    over ReadFault n v = of_all ReadFault n v
    over TooLong n v = of_all TooLong n v
    over Unfinished n v = of_all Unfinished n v
    over WriteFault n v = absurd (nowrites v.0)
    over NoMemory n v = absurd (nomemory n)

-- the line of an ending was written, or a write of it has failed, or memory was wanted
pub wrote_line : (e : Ending) (result : Status) (out out' : Option (List ℕ)) (writes writes' : ℕ) → EndedWith result (status_of e) (last_line e) out out' writes writes' → WroteLine e result None out out' writes writes'
wrote_line e result out out' writes writes' x = go x
  where
    Line : Status → Type 0
    Line s = WroteLine e s None out out' writes writes'

    ended : (e : Ending) → Appends out (last_line e) out' → WroteLine e (status_of e) None out out' writes writes'
    ended read_fault a = (refl, refl, a)
    ended too_long a = (refl, refl, a)
    ended (missing name) a = (refl, refl, a)
    ended line_refused a = (refl, refl, a)

    go : EndedWith result (status_of e) (last_line e) out out' writes writes' → Line result
    go (inl (s, a)) = subst Line (sym s) (ended e a)
    go (inr (inl (s, a, r))) = let z : Line WriteFault = (refl, r, a) in subst Line (sym s) z
    go (inr (inr (s, a))) = let z : Line NoMemory = (refl, a) in subst Line (sym s) z

-- no session was handed out
pub none_derived : (e : Ending) (status : Status) (handed : Option State) (out out' : Option (List ℕ)) (writes writes' : ℕ) → WroteLine e status handed out out' writes writes' → IfSome handed AllDerived
none_derived e status handed out out' writes writes' x = subst (λ o. IfSome o AllDerived) (sym (none status x)) tt
  where
    none : (status : Status) → WroteLine e status handed out out' writes writes' → handed ≡ None
    none Done v = v.0
    none Refused v = v.0
    none BadLine v = v.0
    none NoFile v = v.0
    none ReadFault v = v.0
    none TooLong v = v.0
    none Unfinished v = v.0
    none WriteFault v = v.0
    none NoMemory v = v.0
