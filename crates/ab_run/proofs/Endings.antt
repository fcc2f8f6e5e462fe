-- How a run ends, from what held between two pieces.
use Rattle.std.proofs.Common.{◌≡◌, ◌<◌, ◌≤◌, ◌+◌, ◌-◌, ℕ, Bool, true, false, IsTrue, ◌↔◌, List, [], ◌++◌, length, take, Option, Some, None, refl, sym, ap, ◌∙◌, subst, arith, append_assoc, inl, inr}
use Rattle.std.proofs.lemmas.List.{append-nil, take_all, length-append, nil_from_length}
use Rattle.std.proofs.Math.Seq.{take-append-add}
use Rattle.ab_lex.specs.declared.TheConstants.{COMMAND_LIMIT}
use Rattle.ab_lex.specs.Commands.{Item, ItemsOf, HasBlankRest}
use Rattle.ab_lex.proofs.Cuts.{items_there, no_items}
use Rattle.ab_lex.specs.PendingText.{Pending, ItemsFrom, Awaits, SameRest}
use Rattle.ab_lex.proofs.Awaiting.{awaits_there, none_awaited, items_none, items_fed}
use Rattle.ab_io.specs.Count.{Rose}
use Rattle.ab_io.specs.KnownBytes.{Takes, Appends, AppendsFront, AtEnd}
use Rattle.ab_io.proofs.Streams.{takes_none, takes_more, appends_none, appends_more, rose_more}
use Rattle.ab_sigmod.specs.FileLoads.{FilesSeen, no_load}
use Rattle.ab_run.specs.declared.status.Status.{Status}
use Rattle.ab_run.specs.declared.status.Status.TheVariants.{Done, Refused, ReadFault, WriteFault, NoMemory, Unfinished, TooLong}
use Rattle.ab_run.specs.declared.whole_runs.TheConstants.{MAX_INPUT}
use Rattle.ab_run.specs.declared.way.Way.{Way}
use Rattle.ab_session.specs.ab_states.specs.State.{State, empty}
use Rattle.ab_run.specs.Report.{Report, ReportOf, none, bytes_of, printed, refused_in, has_end, state_behind}
use Rattle.ab_run.specs.Endings as ending
use Rattle.ab_run.specs.Endings.{last_line}
use Rattle.ab_run.specs.Outside.{outside}
use Rattle.ab_run.specs.Outcome.{IsFinished, HasNoRest, EndsWith, WroteReport, WroteAll, IsLastLine, WroteSome, RanOver, Ran}
use Rattle.ab_run.specs.Progress.{Standing, to_come, refused_on, Answered, AnsweredSome, AnsweredUpTo, FedPiece, TookPiece, IsPlain, Running, EndedWith, status_at_end, beginning, handed_by, RanTo}
use Rattle.ab_run.proofs.Reports.{report_of_items, reports_ended}
use Rattle.ab_run.proofs.Counts.{refused_zero, refused_some}
use Rattle.ab_run.proofs.Progress.{answered_more, some_more, state_up_to, front_after, goes_on}

take_most : (most : ℕ) (taken extra : List ℕ) → length taken ≤ most → take most (taken ++ extra) ≡ taken ++ take (most - length taken) extra
take_most most taken extra l =
    let e : length taken + (most - length taken) ≡ most = omega arith in
    ap (λ n. take n (taken ++ extra)) (sym e) ∙ take-append-add taken extra (most - length taken)

end_after : (left left' : Option (List ℕ)) → Takes left [] left' → AtEnd left → AtEnd left'
end_after left None t e = tt
end_after left (Some r) t e = subst AtEnd t e

-- the items of a text, where these bytes come first
abbrev behind_piece : (List ℕ → List Item) → List ℕ → List ℕ → List Item
behind_piece all bytes more = all (bytes ++ more)

-- some items of what was taken, and of what more of it there is, were answered
some_written : {s t : FilesSeen} (way : Way) (all taken more : List ℕ) (out out' : Option (List ℕ)) (reads reads' : ℕ) (from : List ℕ → List Item) → ((bytes : List ℕ) → ItemsOf (taken ++ bytes) (from bytes)) → take MAX_INPUT all ≡ taken ++ more
    → AnsweredSome way out out' s t from empty → WroteSome way (take MAX_INPUT all) (IsLastLine all reads reads') out out' s t
some_written way all taken more out out' reads reads' from f e x = record {
  answered = x.answered;
  others = x.others more;
  items_are = subst (λ q. ItemsOf q (x.answered ++ x.others more)) (sym e) (subst (λ q. ItemsOf (taken ++ more) q) (x.items_are more) (f more));
  loads = x.loads;
  asked = x.asked;
  report = x.report;
  reports = x.reports;
  line = [];
  line_is = inl refl;
  wrote = subst (λ q. AppendsFront out q out') (sym (append-nil (bytes_of way.showing x.report))) x.wrote;
}

-- what is false isn't so
pub no_true : {A : Type 0} → (A → IsTrue false) → ¬ A
no_true f a = let e : false ≡ true = f a in cc

-- no line stands behind the blocks of a run that isn't summed up
pub printed_alone : (way : Way) → IsPlain way → (r : Report) → bytes_of way.showing r ≡ printed way.showing r
printed_alone way plain r = sym (ap (λ q. bytes_of way.showing r ++ q) (plain r) ∙ append-nil (bytes_of way.showing r))

-- nothing was taken yet
pub whole_text : (p : Pending) → p.text ≡ [] → p.in_long ≡ false → (more : List ℕ) → ItemsOf more (to_come p more)
whole_text p e f more = subst (λ s. ItemsOf (s ++ more) (to_come p more)) e (subst (λ b. ItemsFrom b (p.text ++ more) (to_come p more)) f (awaits_there p more))

pub starts : {s : FilesSeen} (way : Way) (left out : Option (List ℕ)) (p : Pending) → p.text ≡ [] → p.in_long ≡ false → Running way left left out out s s p beginning 0
starts way left out p e f = record {
  taken = [];
  takes = takes_none left;
  counted = refl;
  few = omega arith;
  all_items = to_come p;
  all_are = whole_text p e f;
  answered = record { answered = []; loads = []; asked = no_load; report = []; reports = none; standing_is = refl; items_are = λ more. refl; wrote = appends_none out };
  goes_on = refl;
  none_ready = none_awaited p (no_items (to_come p []) (whole_text p e f []));
  blank_is = λ more. subst (λ s. HasBlankRest (s ++ more) ↔ HasBlankRest more) (sym e) (λ h. h, λ h. h);
}

-- there is no memory for a buffer
pub ran_at_once : (way : Way) (left out : Option (List ℕ)) (reads writes : ℕ) (s : FilesSeen) → Ran way NoMemory None (outside left out reads writes s) (outside left out reads writes s)
ran_at_once way left out reads writes s = record {
  taken = [];
  takes = takes_none left;
  few = omega arith;
  over = (
    refl,
    s,
    record {
      answered = [];
      others = (items_there COMMAND_LIMIT []).0;
      items_are = (items_there COMMAND_LIMIT []).1;
      loads = [];
      asked = no_load;
      report = [];
      reports = none;
      line = [];
      line_is = inl refl;
      wrote = record { count = 0; front = appends_none out };
    },
  );
}

module _ {seen0 seen : FilesSeen} (way : Way) (left0 left out0 out : Option (List ℕ)) (p : Pending) (m : Standing) (count : ℕ) (h : Running way left0 left out0 out seen0 seen p m count) where
  within : length h.taken ≤ MAX_INPUT
  within = let a = h.counted in let b = h.few in omega arith

  whole : take MAX_INPUT h.taken ≡ h.taken
  whole = take_all MAX_INPUT h.taken within

  all_answered : ItemsOf h.taken h.answered.answered
  all_answered =
      let e : h.all_items [] ≡ h.answered.answered = h.answered.items_are [] ∙ (ap (λ q. h.answered.answered ++ q) (items_none p h.none_ready) ∙ append-nil h.answered.answered) in
      subst (λ t. ItemsOf t h.answered.answered) (append-nil h.taken) (subst (λ q. ItemsOf (h.taken ++ []) q) e (h.all_are []))

  report_of : ReportOf way h.taken h.answered.loads h.answered.report
  report_of = report_of_items h.taken h.answered.answered h.answered.loads h.answered.report all_answered h.answered.reports

  no_end : has_end way h.answered.report ≡ false
  no_end = goes_on way out0 out h.all_items (to_come p) beginning m h.answered h.goes_on

  state_is : m.state ≡ state_behind empty h.answered.report
  state_is = ap (λ (x : Standing). x.state) h.answered.standing_is

  refused_is : m.refused ≡ refused_on 0 h.answered.report
  refused_is = ap (λ (x : Standing). x.refused) h.answered.standing_is

  none_refused : ¬ (0 < m.refused) → refused_in h.answered.report ≡ 0
  none_refused n = refused_zero h.answered.report (λ l. n (subst (λ q. 0 < q) (sym refused_is) l))

  some_refused : 0 < m.refused → 0 < refused_in h.answered.report
  some_refused l = refused_some h.answered.report (subst (λ q. 0 < q) refused_is l)

  handed_is : Some m.state ≡ Some (state_behind empty h.answered.report)
  handed_is = ap (λ (x : State). Some x) state_is

  -- a front of the report and of this last line
  line_cut : (line all : List ℕ) (out' : Option (List ℕ)) (reads reads' : ℕ) → take MAX_INPUT all ≡ h.taken → IsLastLine all reads reads' line → AppendsFront out line out' → WroteSome way (take MAX_INPUT all) (IsLastLine all reads reads') out0 out' seen0 seen
  line_cut line all out' reads reads' e last w = record {
    answered = h.answered.answered;
    others = [];
    items_are = subst (λ q. ItemsOf q (h.answered.answered ++ [])) (sym e) (subst (λ q. ItemsOf h.taken q) (sym (append-nil h.answered.answered)) all_answered);
    loads = h.answered.loads;
    asked = h.answered.asked;
    report = h.answered.report;
    reports = h.answered.reports;
    line = line;
    line_is = inr (inl refl, inr (no_end, last));
    wrote = front_after out0 out out' (bytes_of way.showing h.answered.report) line h.answered.wrote w;
  }

  with_line : (line : List ℕ) (out' : Option (List ℕ)) → Appends out line out' → WroteReport way h.taken line (Some m.state) out0 out' seen0 seen
  with_line line out' w = record {
    loads = h.answered.loads;
    asked = h.answered.asked;
    report = h.answered.report;
    report_of = report_of;
    goes_on = no_end;
    hands_out = handed_is;
    wrote = appends_more out0 out out' (bytes_of way.showing h.answered.report) line h.answered.wrote w;
  }

  -- the last line was written, or a write of it has failed, or memory was wanted
  ended : (status result : Status) (line all : List ℕ) (left' out' : Option (List ℕ)) (reads reads' writes now writes' : ℕ)
      → EndedWith result status line out out' now writes' → writes ≤ now → IsLastLine all reads reads' line → take MAX_INPUT all ≡ h.taken
      → (WroteReport way h.taken line (Some m.state) out0 out' seen0 seen → RanOver way status all (handed_by status m.state) (outside left0 out0 reads writes seen0) (outside left' out' reads' writes' seen))
      → RanOver way result all (handed_by result m.state) (outside left0 out0 reads writes seen0) (outside left' out' reads' writes' seen)
  unfolding line_cut
  ended status result line all left' out' reads reads' writes now writes' (inl (e, w)) l last t f =
      subst (λ s. RanOver way s all (handed_by s m.state) (outside left0 out0 reads writes seen0) (outside left' out' reads' writes' seen)) (sym e) (f (with_line line out' w))
  ended status result line all left' out' reads reads' writes now writes' (inr (inl (e, w, r))) l last t f =
      let x : RanOver way WriteFault all (Some m.state) (outside left0 out0 reads writes seen0) (outside left' out' reads' writes' seen) = (rose_more writes now writes' l r, line_cut line all out' reads reads' t last w, handed_is) in
      subst (λ s. RanOver way s all (handed_by s m.state) (outside left0 out0 reads writes seen0) (outside left' out' reads' writes' seen)) (sym e) x
  ended status result line all left' out' reads reads' writes now writes' (inr (inr (e, w))) l last t f =
      let x : RanOver way NoMemory all None (outside left0 out0 reads writes seen0) (outside left' out' reads' writes' seen) = (refl, seen, line_cut line all out' reads reads' t last w) in
      subst (λ s. RanOver way s all (handed_by s m.state) (outside left0 out0 reads writes seen0) (outside left' out' reads' writes' seen)) (sym e) x

  -- the source has failed
  pub ran_read_fault : (result : Status) (left' out' : Option (List ℕ)) (reads before reads' writes now writes' : ℕ)
      → left' ≡ left → Rose before reads' → reads ≤ before → writes ≤ now → EndedWith result ReadFault (last_line ending.read_fault) out out' now writes' → RanTo way result m.state (outside left0 out0 reads writes seen0) (outside left' out' reads' writes' seen)
  ran_read_fault result left' out' reads before reads' writes now writes' e r k l x = record {
    taken = h.taken;
    takes = subst (λ q. Takes left0 h.taken q) (sym e) h.takes;
    few = let a = within in omega arith;
    over = let rose = rose_more reads before reads' k r in ended ReadFault result (last_line ending.read_fault) h.taken left' out' reads reads' writes now writes' x l (inl (refl, rose)) whole (λ w. (within, rose, w));
  }

  -- one byte too many came
  pub ran_too_long : (result : Status) (n : ℕ) (left' out' : Option (List ℕ)) (p' : Pending) (reads reads' writes now writes' : ℕ)
      → FedPiece n left left' p p' → n ≡ 1 → count ≡ MAX_INPUT → writes ≤ now → EndedWith result TooLong (last_line ending.too_long) out out' now writes' → RanTo way result m.state (outside left0 out0 reads writes seen0) (outside left' out' reads' writes' seen)
  ran_too_long result n left' out' p' reads reads' writes now writes' f one full l x =
      let exact : length h.taken ≡ MAX_INPUT = h.counted ∙ full in
      let size : length (h.taken ++ f.bytes) ≡ MAX_INPUT + 1 = let a = length-append h.taken f.bytes in let b = f.length_is in omega arith in
      let front : take MAX_INPUT (h.taken ++ f.bytes) ≡ h.taken =
      take_most MAX_INPUT h.taken f.bytes within ∙ (ap (λ k. h.taken ++ take k f.bytes) (let z : MAX_INPUT - length h.taken ≡ 0 = omega arith in z) ∙ append-nil h.taken) in
      record {
        taken = h.taken ++ f.bytes;
        takes = takes_more left0 left left' h.taken f.bytes h.takes f.takes;
        few = omega arith;
        over = ended TooLong result (last_line ending.too_long) (h.taken ++ f.bytes) left' out' reads reads' writes now writes' x l (inr (refl, size)) front
            (λ w. (size, subst (λ q. WroteReport way q (last_line ending.too_long) (Some m.state) out0 out' seen0 seen) (sym front) w));
      }

  -- memory was wanted where a piece was read or fed
  pub ran_no_memory : (most : ℕ) (left' : Option (List ℕ)) (reads reads' writes writes' : ℕ) → TookPiece most left left' → count + most ≤ MAX_INPUT + 1 → Ran way NoMemory None (outside left0 out0 reads writes seen0) (outside left' out reads' writes' seen)
  ran_no_memory most left' reads reads' writes writes' f room =
      let more : List ℕ = take (MAX_INPUT - length h.taken) f.bytes in
      let x : AnsweredSome way out0 out seen0 seen h.all_items empty = record {
        answered = h.answered.answered;
        others = to_come p;
        loads = h.answered.loads;
        asked = h.answered.asked;
        report = h.answered.report;
        reports = h.answered.reports;
        items_are = h.answered.items_are;
        wrote = record { count = length (bytes_of way.showing h.answered.report); front = subst (λ q. Appends out0 q out) (sym (take_all (length (bytes_of way.showing h.answered.report)) (bytes_of way.showing h.answered.report) (omega arith))) h.answered.wrote };
      } in
      record {
        taken = h.taken ++ f.bytes;
        takes = takes_more left0 left left' h.taken f.bytes h.takes f.takes;
        few = let a = length-append h.taken f.bytes in let b = f.few in let c = h.counted in omega arith;
        over = (refl, seen, some_written way (h.taken ++ f.bytes) h.taken more out0 out reads reads' h.all_items h.all_are (take_most MAX_INPUT h.taken f.bytes within) x);
      }

  -- the input has ended
  module _ (n : ℕ) (left' : Option (List ℕ)) (p' : Pending) (f : FedPiece n left left' p p') (none_came : n ≡ 0) (reads reads' writes writes' : ℕ) (plain : IsPlain way) where
    nothing_came : f.bytes ≡ []
    nothing_came = nil_from_length f.bytes (f.length_is ∙ none_came)

    ends_there : AtEnd left'
    ends_there = end_after left left' (subst (λ q. Takes left q left') nothing_came f.takes) (f.at_end none_came)

    takes_all : Takes left0 h.taken left'
    takes_all = subst (λ q. Takes left0 q left') (ap (λ q. h.taken ++ q) nothing_came ∙ append-nil h.taken) (takes_more left0 left left' h.taken f.bytes h.takes f.takes)

    rest_of_text : HasBlankRest p'.text ↔ HasBlankRest h.taken
    rest_of_text =
        let e : p'.text ≡ p.text ++ [] = f.text_is ∙ ap (λ q. p.text ++ q) nothing_came in
        subst (λ t. HasBlankRest t ↔ HasBlankRest h.taken) (sym e) (subst (λ t. HasBlankRest (p.text ++ []) ↔ HasBlankRest t) (append-nil h.taken) (h.blank_is []))

    wrote_all : (status : Status) → EndsWith status way h.taken h.answered.report → WroteAll way status h.taken left' (Some m.state) out0 out seen0 seen
    wrote_all status e = record {
      loads = h.answered.loads;
      asked = h.answered.asked;
      report = h.answered.report;
      report_of = report_of;
      read = inr ends_there;
      hands_out = handed_is;
      wrote = subst (λ q. Appends out0 q out) (printed_alone way plain h.answered.report) h.answered.wrote;
      status_is = e;
    }

    has_blank_end : IsTrue true ↔ HasBlankRest p'.text → HasBlankRest h.taken
    has_blank_end b = rest_of_text.0 (b.0 refl)

    no_blank_end : IsTrue false ↔ HasBlankRest p'.text → ¬ HasNoRest way h.taken h.answered.report
    no_blank_end b (inl e) = let f = no_end in cc
    no_blank_end b (inr r) = let e : false ≡ true = b.1 (rest_of_text.1 r) in cc

    few_taken : length h.taken ≤ MAX_INPUT + 1
    few_taken = let a = within in omega arith

    pub ran_to_end : (refused finished blank : Bool) → IsTrue refused ↔ 0 < m.refused → IsTrue finished ↔ IsFinished m.state → IsTrue blank ↔ HasBlankRest p'.text
        → RanTo way (status_at_end refused finished blank) m.state (outside left0 out0 reads writes seen0) (outside left' out reads' writes' seen)
    ran_to_end true finished blank r d b = record { taken = h.taken; takes = takes_all; few = few_taken; over = (within, wrote_all Refused (some_refused (r.0 refl))) }
    ran_to_end false true true r d b = record {
      taken = h.taken;
      takes = takes_all;
      few = few_taken;
      over = (within, wrote_all Done (none_refused (no_true r.1), subst IsFinished state_is (d.0 refl), inr (has_blank_end b)));
    }
    ran_to_end false true false r d b = record { taken = h.taken; takes = takes_all; few = few_taken; over = (within, wrote_all Unfinished (none_refused (no_true r.1), inr (no_blank_end b))) }
    ran_to_end false false blank r d b = record {
      taken = h.taken;
      takes = takes_all;
      few = few_taken;
      over = (within, wrote_all Unfinished (none_refused (no_true r.1), inl (λ z. let y : false ≡ true = d.1 (subst IsFinished (sym state_is) z) in cc)));
    }

  -- a piece was fed: what is to come is what comes behind it
  module _ (n : ℕ) (left' : Option (List ℕ)) (p' : Pending) (f : FedPiece n left left' p p') (fits : count + n ≤ MAX_INPUT) where
    fed_are : (more : List ℕ) → ItemsOf ((h.taken ++ f.bytes) ++ more) (behind_piece h.all_items f.bytes more)
    fed_are more = subst (λ t. ItemsOf t (h.all_items (f.bytes ++ more))) (sym (append_assoc h.taken f.bytes more)) (h.all_are (f.bytes ++ more))

    fed : Answered way out0 out seen0 seen (behind_piece h.all_items f.bytes) (to_come p') beginning m
    fed = record {
      answered = h.answered.answered;
      loads = h.answered.loads;
      asked = h.answered.asked;
      report = h.answered.report;
      reports = h.answered.reports;
      standing_is = h.answered.standing_is;
      items_are = λ more. h.answered.items_are (f.bytes ++ more) ∙ ap (λ q. h.answered.answered ++ q) (sym (items_fed p p' f.bytes f.text_is f.in_long_is more));
      wrote = h.answered.wrote;
    }

    fed_takes : Takes left0 (h.taken ++ f.bytes) left'
    fed_takes = takes_more left0 left left' h.taken f.bytes h.takes f.takes

    counted : length (h.taken ++ f.bytes) ≡ count + n
    counted = let a = length-append h.taken f.bytes in let b = f.length_is in let c = h.counted in omega arith

    few_fed : length (h.taken ++ f.bytes) ≤ MAX_INPUT + 1
    few_fed = let a = counted in omega arith

    more_answered : {u : FilesSeen} (out' : Option (List ℕ)) → AnsweredSome way out out' seen u (to_come p') m.state → AnsweredSome way out0 out' seen0 u (behind_piece h.all_items f.bytes) empty
    more_answered out' x = some_more way out0 out out' (behind_piece h.all_items f.bytes) (to_come p') beginning m h.goes_on fed x

    -- some items that were ready were answered, and then a write has failed or memory was wanted
    stopped_short : {u : FilesSeen} (out' : Option (List ℕ)) (reads reads' : ℕ) → AnsweredSome way out0 out' seen0 u (behind_piece h.all_items f.bytes) empty → WroteSome way (take MAX_INPUT (h.taken ++ f.bytes)) (IsLastLine (h.taken ++ f.bytes) reads reads') out0 out' seen0 u
    stopped_short out' reads reads' y =
        let e : take MAX_INPUT (h.taken ++ f.bytes) ≡ (h.taken ++ f.bytes) ++ [] = take_all MAX_INPUT (h.taken ++ f.bytes) (let a = counted in omega arith) ∙ sym (append-nil (h.taken ++ f.bytes)) in
        some_written way (h.taken ++ f.bytes) (h.taken ++ f.bytes) [] out0 out' reads reads' (behind_piece h.all_items f.bytes) fed_are e y

    short_report : {u : FilesSeen} (out' : Option (List ℕ)) (reads reads' : ℕ) (y : AnsweredSome way out0 out' seen0 u (behind_piece h.all_items f.bytes) empty) → (stopped_short out' reads reads' y).report ≡ y.report
    unfolding stopped_short some_written
    short_report out' reads reads' y = refl

    up_to : {u : FilesSeen} (s : State) (out' : Option (List ℕ)) (x : AnsweredUpTo way out out' seen u (to_come p') m.state s) → s ≡ state_behind empty (more_answered out' x.0).report
    unfolding more_answered
    up_to s out' x = state_up_to way out0 out out' (behind_piece h.all_items f.bytes) (to_come p') beginning m s h.goes_on fed x.0 x.1

    pub ran_write_fault : {u : FilesSeen} (s : State) (out' : Option (List ℕ)) (reads reads' writes now writes' : ℕ) → AnsweredUpTo way out out' seen u (to_come p') m.state s → Rose now writes' → writes ≤ now
        → Ran way WriteFault (Some s) (outside left0 out0 reads writes seen0) (outside left' out' reads' writes' u)
    ran_write_fault s out' reads reads' writes now writes' x r l =
        let y = more_answered out' x.0 in
        let e : s ≡ state_behind empty (stopped_short out' reads reads' y).report = up_to s out' x ∙ ap (λ (q : Report). state_behind empty q) (sym (short_report out' reads reads' y)) in
        record {
          taken = h.taken ++ f.bytes;
          takes = fed_takes;
          few = few_fed;
          over = (rose_more writes now writes' l r, stopped_short out' reads reads' y, ap (λ (q : State). Some q) e);
        }

    pub ran_no_room : {u : FilesSeen} (out' : Option (List ℕ)) (reads reads' writes writes' : ℕ) → ((g : FilesSeen) × AnsweredSome way out out' seen g (to_come p') m.state) → Ran way NoMemory None (outside left0 out0 reads writes seen0) (outside left' out' reads' writes' u)
    ran_no_room out' reads reads' writes writes' x = record { taken = h.taken ++ f.bytes; takes = fed_takes; few = few_fed; over = (refl, x.0, stopped_short out' reads reads' (more_answered out' x.1)) }

    all_more : {u : FilesSeen} (out' : Option (List ℕ)) (q : Pending) (k : Standing) → Answered way out out' seen u (to_come p') (to_come q) m k → Answered way out0 out' seen0 u (behind_piece h.all_items f.bytes) (to_come q) beginning k
    all_more out' q k x = answered_more way out0 out out' (behind_piece h.all_items f.bytes) (to_come p') (to_come q) beginning m k h.goes_on fed x

    fed_rest : (more : List ℕ) → HasBlankRest (p'.text ++ more) ↔ HasBlankRest ((h.taken ++ f.bytes) ++ more)
    fed_rest more =
        let e : p'.text ++ more ≡ p.text ++ (f.bytes ++ more) = ap (λ t. t ++ more) f.text_is ∙ append_assoc p.text f.bytes more in
        subst (λ t. HasBlankRest (p'.text ++ more) ↔ HasBlankRest t) (sym (append_assoc h.taken f.bytes more))
        (subst (λ t. HasBlankRest t ↔ HasBlankRest (h.taken ++ (f.bytes ++ more))) (sym e) (h.blank_is (f.bytes ++ more)))

    -- every item that was ready was answered
    pub runs_on : {u : FilesSeen} (out' : Option (List ℕ)) (q : Pending) (k : Standing) → Answered way out out' seen u (to_come p') (to_come q) m k → k.ended ≡ false → Awaits q [] [] → SameRest p' q → Running way left0 left' out0 out' seen0 u q k (count + n)
    runs_on out' q k x g e b = record {
      taken = h.taken ++ f.bytes;
      takes = fed_takes;
      counted = counted;
      few = fits;
      all_items = behind_piece h.all_items f.bytes;
      all_are = fed_are;
      answered = all_more out' q k x;
      goes_on = g;
      none_ready = e;
      blank_is = λ more. (λ t. (fed_rest more).0 ((b more).1 t), λ t. (b more).0 ((fed_rest more).1 t));
    }

    -- a reply has ended the run
    module _ {u : FilesSeen} (out' : Option (List ℕ)) (q : Pending) (k : Standing) (x : Answered way out out' seen u (to_come p') (to_come q) m k) (g : k.ended ≡ true) (reads reads' writes writes' : ℕ) (plain : IsPlain way) where
      last_report : Report
      last_report = (all_more out' q k x).report

      is_ended : has_end way last_report ≡ true
      unfolding last_report
      is_ended = sym (ap (λ (z : Standing). z.ended) (all_more out' q k x).standing_is) ∙ g

      last_refused : k.refused ≡ refused_on 0 last_report
      unfolding last_report
      last_refused = ap (λ (z : Standing). z.refused) (all_more out' q k x).standing_is

      none_refused_last : ¬ (0 < k.refused) → refused_in last_report ≡ 0
      none_refused_last n = refused_zero last_report (λ l. n (subst (λ z. 0 < z) (sym last_refused) l))

      some_refused_last : 0 < k.refused → 0 < refused_in last_report
      some_refused_last l = refused_some last_report (subst (λ z. 0 < z) last_refused l)

      last_state : k.state ≡ state_behind empty last_report
      unfolding last_report
      last_state = ap (λ (z : Standing). z.state) (all_more out' q k x).standing_is

      last_report_of : ReportOf way (h.taken ++ f.bytes) (all_more out' q k x).loads last_report
      unfolding last_report
      last_report_of =
          let z = all_more out' q k x in
          let t = h.taken ++ f.bytes in
          report_of_items t (z.answered ++ to_come q []) z.loads z.report (subst (λ s. ItemsOf s (z.answered ++ to_come q [])) (append-nil t) (subst (λ i. ItemsOf (t ++ []) i) (z.items_are []) (fed_are []))) (reports_ended (to_come q []) z.reports is_ended)

      wrote_last : (status : Status) → EndsWith status way (h.taken ++ f.bytes) last_report → WroteAll way status (h.taken ++ f.bytes) left' (Some k.state) out0 out' seen0 u
      unfolding last_report
      wrote_last status e = record {
        loads = (all_more out' q k x).loads;
        asked = (all_more out' q k x).asked;
        report = last_report;
        report_of = last_report_of;
        read = inl is_ended;
        hands_out = ap (λ (z : State). Some z) last_state;
        wrote = subst (λ z. Appends out0 z out') (printed_alone way plain (all_more out' q k x).report) (all_more out' q k x).wrote;
        status_is = e;
      }

      within_fed : length (h.taken ++ f.bytes) ≤ MAX_INPUT
      within_fed = let a = counted in omega arith

      ran_so : (status : Status) → RanOver way status (h.taken ++ f.bytes) (handed_by status k.state) (outside left0 out0 reads writes seen0) (outside left' out' reads' writes' u) → RanTo way status k.state (outside left0 out0 reads writes seen0) (outside left' out' reads' writes' u)
      ran_so status o = record { taken = h.taken ++ f.bytes; takes = fed_takes; few = few_fed; over = o }

      pub ran_to_quit : (refused finished : Bool) → IsTrue refused ↔ 0 < k.refused → IsTrue finished ↔ IsFinished k.state → RanTo way (status_at_end refused finished true) k.state (outside left0 out0 reads writes seen0) (outside left' out' reads' writes' u)
      ran_to_quit true finished r d = ran_so Refused (within_fed, wrote_last Refused (some_refused_last (r.0 refl)))
      ran_to_quit false true r d = ran_so Done (within_fed, wrote_last Done (none_refused_last (no_true r.1), subst IsFinished last_state (d.0 refl), inl is_ended))
      ran_to_quit false false r d = ran_so Unfinished (within_fed, wrote_last Unfinished (none_refused_last (no_true r.1), inl (λ z. let y : false ≡ true = d.1 (subst IsFinished (sym last_state) z) in cc)))
