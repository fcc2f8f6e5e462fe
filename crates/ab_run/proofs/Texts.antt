-- How a run over a text ends that is there as a whole.
use Rattle.std.proofs.Common.{◌≡◌, ◌<◌, ◌≤◌, ◌⊎◌, ◌↔◌, ℕ, Bool, true, false, IsTrue, List, [], ◌++◌, length, Option, Some, None, refl, sym, ap, ◌∙◌, subst, arith, inl, inr}
use Rattle.std.proofs.lemmas.Bool.{cases_Bool}
use Rattle.std.proofs.lemmas.List.{append-nil, length-append}
use Rattle.ab_lex.specs.declared.TheConstants.{COMMAND_LIMIT}
use Rattle.ab_lex.specs.Commands.{ItemsOf, HasBlankRest}
use Rattle.ab_lex.specs.PendingText.{Pending, ItemsFrom, Awaits, SameRest}
use Rattle.ab_lex.proofs.Cuts.{items_there}
use Rattle.ab_lex.proofs.Awaiting.{awaits_there, items_none}
use Rattle.ab_io.specs.Count.{Rose, last_count}
use Rattle.ab_io.specs.KnownBytes.{Appends, AppendsFront}
use Rattle.ab_io.proofs.Streams.{appends_none, appends_more}
use Rattle.ab_sigmod.specs.FileLoads.{FilesSeen, no_load}
use Rattle.ab_formulas.specs.Declarations.{theorems_in}
use Rattle.ab_drill.specs.Summary.{summary}
use Rattle.ab_session.specs.ab_states.specs.State.{State, empty}
use Rattle.ab_run.specs.declared.status.Status.{Status}
use Rattle.ab_run.specs.declared.status.Status.TheVariants.{WriteFault, NoMemory}
use Rattle.ab_run.specs.declared.way.Showing.{Showing}
use Rattle.ab_run.specs.declared.way.Showing.TheVariants.{Blocks, FirstLines, Summary}
use Rattle.ab_run.specs.declared.way.Way.{Way}
use Rattle.ab_run.specs.Report.{Report, ReportOf, none, accepted_in, refused_in, bytes_of, closing, has_end, state_behind}
use Rattle.ab_run.specs.Outcome.{IsFinished, HasNoRest, EndsWith, WroteAll, WroteSome, NoLine, RanText}
use Rattle.ab_run.specs.Progress.{Standing, to_come, accepted_on, refused_on, closing_by, beginning, Answered, AnsweredSome, AnsweredUpTo, EndedWith, status_at_end, RanTextTo}
use Rattle.ab_run.proofs.Counts.{accepted_exact, refused_exact, refused_zero, refused_some}
use Rattle.ab_run.proofs.Sizes.{items_few, reports_few}
use Rattle.ab_run.proofs.Reports.{report_of_items, reports_ended}
use Rattle.ab_run.proofs.Progress.{front_after, stopped}
use Rattle.ab_run.proofs.Endings.{no_true}

-- there is no memory for a session
pub text_at_once : (way : Way) (text : List ℕ) (out : Option (List ℕ)) (writes : ℕ) (s : FilesSeen) → RanText way text NoMemory None out out writes writes s s
text_at_once way text out writes s = (
  refl,
  s,
  record {
    answered = [];
    others = (items_there COMMAND_LIMIT text).0;
    items_are = (items_there COMMAND_LIMIT text).1;
    loads = [];
    asked = no_load;
    report = [];
    reports = none;
    line = [];
    line_is = inl refl;
    wrote = record { count = 0; front = appends_none out };
  },
)

-- what is counted on the way is what is counted of the report
closing_same : (showing : Showing) (r : Report) → length r ≤ last_count → (ended : Bool)
    → closing_by showing (record { state = state_behind empty r; accepted = accepted_on 0 r; refused = refused_on 0 r; ended = ended }) ≡ closing showing r
closing_same Blocks r l ended = refl
closing_same FirstLines r l ended = refl
closing_same (Summary size) r l ended =
    let s = state_behind empty r in
    let accepted : accepted_on 0 r ≡ accepted_in r = accepted_exact 0 r (omega (arith, l)) ∙ omega arith in
    let refused : refused_on 0 r ≡ refused_in r = refused_exact 0 r (omega (arith, l)) ∙ omega arith in
    ap (λ n. summary size (record { accepted = n; refused = refused_on 0 r; kept = length s.kept; theorems = length (theorems_in s.declarations) })) accepted
    ∙ ap (λ n. summary size (record { accepted = accepted_in r; refused = n; kept = length s.kept; theorems = length (theorems_in s.declarations) })) refused

module _ (way : Way) (text : List ℕ) (p : Pending) (text_is : p.text ≡ text) (fresh : p.in_long ≡ false) where
  all_items : ItemsOf text (to_come p [])
  all_items = subst (λ t. ItemsOf t (to_come p [])) (append-nil p.text ∙ text_is) (subst (λ b. ItemsFrom b (p.text ++ []) (to_come p [])) fresh (awaits_there p []))

  -- some items were answered, and then a write has failed or memory was wanted
  text_cut : {s t : FilesSeen} (out out' : Option (List ℕ)) → AnsweredSome way out out' s t (to_come p) empty → WroteSome way text NoLine out out' s t
  text_cut out out' x = record {
    answered = x.answered;
    others = x.others [];
    items_are = subst (λ is. ItemsOf text is) (x.items_are []) all_items;
    loads = x.loads;
    asked = x.asked;
    report = x.report;
    reports = x.reports;
    line = [];
    line_is = inl refl;
    wrote = subst (λ q. AppendsFront out q out') (sym (append-nil (bytes_of way.showing x.report))) x.wrote;
  }

  pub text_write_fault : {f g : FilesSeen} (s : State) (out out' : Option (List ℕ)) (writes writes' : ℕ) → AnsweredUpTo way out out' f g (to_come p) empty s → Rose writes writes' → RanTextTo way text WriteFault s out out' writes writes' f g
  unfolding text_cut
  text_write_fault s out out' writes writes' x r = (r, text_cut out out' x.0, ap (λ (q : State). Some q) x.1)

  pub text_no_room : {f : FilesSeen} (g : FilesSeen) (out out' : Option (List ℕ)) (writes writes' : ℕ) → ((u : FilesSeen) × AnsweredSome way out out' f u (to_come p) empty) → RanText way text NoMemory None out out' writes writes' f g
  text_no_room g out out' writes writes' x = (refl, x.0, text_cut out out' x.1)

  -- every item was answered, up to a reply that ends the run
  module _ {s t : FilesSeen} (q : Pending) (k : Standing) (out mid : Option (List ℕ)) (x : Answered way out mid s t (to_come p) (to_come q) beginning k) (all : k.ended ≡ false → Awaits q [] []) (same : SameRest p q) (small : length text ≤ last_count) where
    ended_is : k.ended ≡ has_end way x.report
    ended_is = ap (λ (z : Standing). z.ended) x.standing_is

    state_is : k.state ≡ state_behind empty x.report
    state_is = ap (λ (z : Standing). z.state) x.standing_is

    refused_is : k.refused ≡ refused_on 0 x.report
    refused_is = ap (λ (z : Standing). z.refused) x.standing_is

    others_are : (to_come q [] ≡ []) ⊎ (has_end way x.report ≡ true)
    others_are =
        elim (cases_Bool k.ended) [
          | inl e ↦ inr (sym ended_is ∙ e)
          | inr e ↦ inl (items_none q (all e))
        ]

    report_of : ReportOf way text x.loads x.report
    report_of =
        elim others_are [
          | inl e ↦ report_of_items text x.answered x.loads x.report (subst (λ is. ItemsOf text is) (x.items_are [] ∙ (ap (λ z. x.answered ++ z) e ∙ append-nil x.answered)) all_items) x.reports
          | inr e ↦ report_of_items text (x.answered ++ to_come q []) x.loads x.report (subst (λ is. ItemsOf text is) (x.items_are []) all_items) (reports_ended (to_come q []) x.reports e)
        ]

    few : length x.report ≤ last_count
    few = omega (arith, small, reports_few x.reports, items_few text (to_come p []) all_items, ap length (x.items_are []), length-append x.answered (to_come q []))

    closing_is : closing_by way.showing k ≡ closing way.showing x.report
    closing_is = ap (λ z. closing_by way.showing z) x.standing_is ∙ closing_same way.showing x.report few (has_end way x.report)

    -- a front of the last line was written
    text_front : (line : List ℕ) (out' : Option (List ℕ)) → line ≡ closing_by way.showing k → AppendsFront mid line out' → WroteSome way text NoLine out out' s t
    text_front line out' e w = record {
      answered = x.answered;
      others = to_come q [];
      items_are = subst (λ is. ItemsOf text is) (x.items_are []) all_items;
      loads = x.loads;
      asked = x.asked;
      report = x.report;
      reports = x.reports;
      line = line;
      line_is = inr (others_are, inl (e ∙ closing_is));
      wrote = front_after out mid out' (bytes_of way.showing x.report) line x.wrote w;
    }

    text_all : (status : Status) (line : List ℕ) (out' : Option (List ℕ)) → line ≡ closing_by way.showing k → Appends mid line out' → EndsWith status way text x.report → WroteAll way status text (Some []) (Some k.state) out out' s t
    text_all status line out' e w h = record {
      loads = x.loads;
      asked = x.asked;
      report = x.report;
      report_of = report_of;
      read = inr refl;
      hands_out = ap (λ (z : State). Some z) state_is;
      wrote = subst (λ z. Appends out (bytes_of way.showing x.report ++ z) out') (e ∙ closing_is) (appends_more out mid out' (bytes_of way.showing x.report) line x.wrote w);
      status_is = h;
    }

    none_refused : ¬ (0 < k.refused) → refused_in x.report ≡ 0
    none_refused n = refused_zero x.report (λ l. n (subst (λ z. 0 < z) (sym refused_is) l))

    some_refused : 0 < k.refused → 0 < refused_in x.report
    some_refused l = refused_some x.report (subst (λ z. 0 < z) refused_is l)

    rest_is : HasBlankRest text ↔ HasBlankRest q.text
    rest_is =
        subst (λ t. HasBlankRest t ↔ HasBlankRest q.text) (append-nil p.text ∙ text_is)
        (subst (λ t. HasBlankRest (p.text ++ []) ↔ HasBlankRest t) (append-nil q.text) (same []))

    module _ (blank : Bool) (at_end : k.ended ≡ true → blank ≡ true) (else_blank : k.ended ≡ false → IsTrue blank ↔ HasBlankRest q.text) where
      has_no_rest : blank ≡ true → HasNoRest way text x.report
      has_no_rest b =
          elim (cases_Bool k.ended) [
            | inl e ↦ inl (sym ended_is ∙ e)
            | inr e ↦ inr (rest_is.1 ((else_blank e).0 b))
          ]

      has_rest : blank ≡ false → ¬ HasNoRest way text x.report
      has_rest b (inl e) = let z : false ≡ true = sym b ∙ at_end (ended_is ∙ e) in cc
      has_rest b (inr r) =
          elim (cases_Bool k.ended) [
            | inl e ↦ let z : false ≡ true = sym b ∙ at_end e in cc
            | inr e ↦ let z : false ≡ true = sym b ∙ (else_blank e).1 (rest_is.0 r) in cc
          ]

      status_is : (refused finished : Bool) → IsTrue refused ↔ 0 < k.refused → IsTrue finished ↔ IsFinished k.state → (b : Bool) → blank ≡ b → EndsWith (status_at_end refused finished b) way text x.report
      status_is true finished r d b e = some_refused (r.0 refl)
      status_is false true r d true e = (none_refused (no_true r.1), subst IsFinished state_is (d.0 refl), has_no_rest e)
      status_is false true r d false e = (none_refused (no_true r.1), inr (has_rest e))
      status_is false false r d b e = (none_refused (no_true r.1), inl (λ z. let y : false ≡ true = d.1 (subst IsFinished (sym state_is) z) in cc))

      one_of_three : (refused finished b : Bool) (line : List ℕ) (out' : Option (List ℕ)) (writes writes' : ℕ) → WroteAll way (status_at_end refused finished b) text (Some []) (Some k.state) out out' s t
          → RanTextTo way text (status_at_end refused finished b) k.state out out' writes writes' s t
      one_of_three true finished b line out' writes writes' w = w
      one_of_three false true true line out' writes writes' w = w
      one_of_three false true false line out' writes writes' w = w
      one_of_three false false b line out' writes writes' w = w

      pub text_ended : (refused finished : Bool) (result : Status) (line : List ℕ) (out' : Option (List ℕ)) (writes now writes' : ℕ) → IsTrue refused ↔ 0 < k.refused → IsTrue finished ↔ IsFinished k.state → line ≡ closing_by way.showing k
          → (Rose now writes' → Rose writes writes') → EndedWith result (status_at_end refused finished blank) line mid out' now writes' → RanTextTo way text result k.state out out' writes writes' s t
      unfolding text_front
      text_ended refused finished result line out' writes now writes' r d e rose (inl (is, w)) =
          subst (λ z. RanTextTo way text z k.state out out' writes writes' s t) (sym is)
          (one_of_three refused finished blank line out' writes writes' (text_all (status_at_end refused finished blank) line out' e w (status_is refused finished r d blank refl)))
      text_ended refused finished result line out' writes now writes' r d e rose (inr (inl (is, w, f))) =
          let z : RanTextTo way text WriteFault k.state out out' writes writes' s t = (rose f, text_front line out' e w, ap (λ (z : State). Some z) state_is) in
          subst (λ z. RanTextTo way text z k.state out out' writes writes' s t) (sym is) z
      text_ended refused finished result line out' writes now writes' r d e rose (inr (inr (is, w))) =
          let z : RanTextTo way text NoMemory k.state out out' writes writes' s t = (refl, t, text_front line out' e w) in
          subst (λ z. RanTextTo way text z k.state out out' writes writes' s t) (sym is) z

    -- there was no memory for the last line
    pub text_no_line : (writes writes' : ℕ) → RanText way text NoMemory None out mid writes writes' s t
    text_no_line writes writes' = (refl, t, text_cut out mid (stopped way out mid (to_come p) (to_come q) beginning k x))
