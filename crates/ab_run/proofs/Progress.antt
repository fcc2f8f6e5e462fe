-- Items that are answered one after another, and the report that comes of it.
use Rattle.std.proofs.Common.{◌≡◌, ◌<◌, ◌+◌, ◌||◌, ℕ, Bool, true, false, List, [], ◌∷◌, ◌++◌, length, take, Option, refl, sym, ap, ◌∙◌, subst, arith, append_assoc}
use Rattle.std.proofs.lemmas.List.{append-nil, take_all}
use Rattle.std.proofs.Math.Seq.{take-append-add}
use Rattle.std.specs.Prelude.{Err}
use Rattle.ab_io.specs.KnownBytes.{Appends, AppendsFront}
use Rattle.ab_sigmod.specs.FileLoads.{FilesSeen, AreLoads, no_load}
use Rattle.ab_sigmod.proofs.Appending.{loads_on}
use Rattle.ab_io.specs.declared.sink.WriteFault.{WriteFault}
use Rattle.ab_io.specs.declared.sink.WriteFault.TheVariants.{Failed, Memory}
use Rattle.ab_io.proofs.Streams.{appends_none, appends_more}
use Rattle.ab_lex.specs.Commands.{Item}
use Rattle.ab_lex.specs.PendingText.{Pending}
use Rattle.ab_lex.proofs.Awaiting.{items_same, items_next}
use Rattle.ab_session.specs.ab_states.specs.State.{State}
use Rattle.ab_run.specs.declared.way.Way.{Way}
use Rattle.ab_run.specs.Report.{Report, Reports, none, is_end, shown, bytes_of, has_end, state_behind}
use Rattle.ab_run.specs.Progress.{Standing, moment, to_come, accepted_with, refused_with, accepted_on, refused_on, standing_behind, Answered, AnsweredSome, AnsweredReady, AnswersItem, HasNone}
use Rattle.ab_run.proofs.Reports.{or_assoc, or_false, neither_second, bytes_more, end_more, state_more, reports_more, reports_one}

abbrev standing : State → ℕ → ℕ → Bool → Standing
standing s accepted refused ended = record { state = s; accepted = accepted; refused = refused; ended = ended }

same_standing : (s t : State) (h i a b : ℕ) (c d : Bool) → s ≡ t → h ≡ i → a ≡ b → c ≡ d → standing s h a c ≡ standing t i b d
same_standing s t h i a b c d e k f g = ap (λ x. standing x h a c) e ∙ (ap (λ x. standing t x a c) k ∙ (ap (λ x. standing t i x c) f ∙ ap (λ x. standing t i b x) g))

-- counts that go on, and then go on again
refused_more : (n : ℕ) (r q : Report) → refused_on n (r ++ q) ≡ refused_on (refused_on n r) q
refused_more n [] q = refl
refused_more n (m ∷ r) q = refused_more (refused_with n m.reply) r q

accepted_more : (n : ℕ) (r q : Report) → accepted_on n (r ++ q) ≡ accepted_on (accepted_on n r) q
accepted_more n [] q = refl
accepted_more n (m ∷ r) q = accepted_more (accepted_with n m.reply) r q

pub not_both : {A : Type 0} (b : Bool) → b ≡ true → b ≡ false → A
not_both true e f = cc
not_both false e f = cc

-- a standing behind a report, and then behind another
pub standing_more : (w : Way) (m : Standing) (r q : Report) → standing_behind w (standing_behind w m r) q ≡ standing_behind w m (r ++ q)
standing_more w m r q =
    same_standing (state_behind (state_behind m.state r) q) (state_behind m.state (r ++ q))
    (accepted_on (accepted_on m.accepted r) q) (accepted_on m.accepted (r ++ q)) (refused_on (refused_on m.refused r) q) (refused_on m.refused (r ++ q))
    ((m.ended || has_end w r) || has_end w q) (m.ended || has_end w (r ++ q)) (sym (state_more m.state r q))
    (sym (accepted_more m.accepted r q)) (sym (refused_more m.refused r q))
    (or_assoc m.ended (has_end w r) (has_end w q) ∙ ap (λ x. m.ended || x) (sym (end_more w r q)))

standing_none : (w : Way) (m : Standing) → m ≡ standing_behind w m []
standing_none w m = same_standing m.state m.state m.accepted m.accepted m.refused m.refused m.ended (m.ended || false) refl refl refl (sym (or_false m.ended))

-- where the run goes on, no reply of what was answered ends it
pub goes_on : {s t : FilesSeen} (w : Way) (a b : Option (List ℕ)) (f g : List ℕ → List Item) (m n : Standing) (x : Answered w a b s t f g m n) → n.ended ≡ false → has_end w x.report ≡ false
goes_on w a b f g m n x e = neither_second m.ended (has_end w x.report) (sym (ap (λ (z : Standing). z.ended) x.standing_is) ∙ e)

pub answered_none : {s : FilesSeen} (w : Way) (out : Option (List ℕ)) (f : List ℕ → List Item) (m : Standing) → Answered w out out s s f f m m
answered_none w out f m = record {
  answered = [];
  loads = [];
  asked = no_load;
  report = [];
  reports = none;
  standing_is = standing_none w m;
  items_are = λ more. refl;
  wrote = appends_none out;
}

pub answered_more : {s t u : FilesSeen} (w : Way) (a b c : Option (List ℕ)) (f g h : List ℕ → List Item) (m n k : Standing) → n.ended ≡ false → Answered w a b s t f g m n → Answered w b c t u g h n k → Answered w a c s u f h m k
answered_more w a b c f g h m n k e x y = record {
  answered = x.answered ++ y.answered;
  loads = x.loads ++ y.loads;
  asked = loads_on x.asked y.asked;
  report = x.report ++ y.report;
  reports = reports_more x.reports (goes_on w a b f g m n x e) (subst (λ (z : Standing). Reports w z.state y.answered y.loads y.report) x.standing_is y.reports);
  standing_is = y.standing_is ∙ (ap (λ z. standing_behind w z y.report) x.standing_is ∙ standing_more w m x.report y.report);
  items_are = λ more. x.items_are more ∙ (ap (λ q. x.answered ++ q) (y.items_are more) ∙ sym (append_assoc x.answered y.answered (h more)));
  wrote = subst (λ q. Appends a q c) (sym (bytes_more w.showing x.report y.report)) (appends_more a b c (bytes_of w.showing x.report) (bytes_of w.showing y.report) x.wrote y.wrote);
}

-- a front of what follows these bytes
pub front_after : (a b c : Option (List ℕ)) (t u : List ℕ) → Appends a t b → AppendsFront b u c → AppendsFront a (t ++ u) c
front_after a b c t u x y = record {
  count = length t + y.count;
  front = subst (λ q. Appends a q c) (sym (take-append-add t u y.count)) (appends_more a b c t (take y.count u) x y.front);
}

module _ {s t : FilesSeen} (w : Way) (bytes : List ℕ) (m m' : Standing) (p p' : Pending) (h : AnswersItem w bytes s t m m' p p') where
  one_report : Report
  one_report = moment h.reply m'.state ∷ []

  one_reports : Reports w m.state (h.item ∷ []) h.loads one_report
  unfolding one_report
  one_reports = reports_one (moment h.reply m'.state) h.replies

  one_bytes : bytes_of w.showing one_report ≡ bytes
  unfolding one_report
  one_bytes = append-nil (shown w.showing (moment h.reply m'.state)) ∙ sym h.text_is

  one_standing : m' ≡ standing_behind w m one_report
  unfolding one_report
  one_standing =
      same_standing m'.state m'.state m'.accepted (accepted_with m.accepted h.reply) m'.refused (refused_with m.refused h.reply) m'.ended (m.ended || (is_end w h.reply || false)) refl
      h.accepted_is h.refused_is (h.ended_is ∙ ap (λ b. m.ended || b) (sym (or_false (is_end w h.reply))))

  one_state : (s : State) → state_behind s one_report ≡ m'.state
  unfolding one_report
  one_state s = refl

  -- an item was answered, and its block written
  pub answered_item : (out out' : Option (List ℕ)) → Appends out bytes out' → Answered w out out' s t (to_come p) (to_come p') m m'
  answered_item out out' a = record {
    answered = h.item ∷ [];
    loads = h.loads;
    asked = h.asked;
    report = one_report;
    reports = one_reports;
    standing_is = one_standing;
    items_are = items_next p p' h.item h.items_are;
    wrote = subst (λ q. Appends out q out') (sym one_bytes) a;
  }

  module _ {r : FilesSeen} (a b c : Option (List ℕ)) (f : List ℕ → List Item) (k : Standing) (e : m.ended ≡ false) (x : Answered w a b r s f (to_come p) k m) (z : AppendsFront b bytes c) where
    cut_some : AnsweredSome w a c r t f k.state
    cut_some = record {
      answered = x.answered ++ h.item ∷ [];
      others = to_come p';
      loads = x.loads ++ h.loads;
      asked = loads_on x.asked h.asked;
      report = x.report ++ one_report;
      reports = reports_more x.reports (goes_on w a b f (to_come p) k m x e) (subst (λ (q : Standing). Reports w q.state (h.item ∷ []) h.loads one_report) x.standing_is one_reports);
      items_are = λ more. x.items_are more ∙ (ap (λ q. x.answered ++ q) (items_next p p' h.item h.items_are more) ∙ sym (append_assoc x.answered (h.item ∷ []) (to_come p' more)));
      wrote = subst (λ q. AppendsFront a q c) (sym (bytes_more w.showing x.report one_report)) (front_after a b c (bytes_of w.showing x.report) (bytes_of w.showing one_report) x.wrote (subst (λ q. AppendsFront b q c) (sym one_bytes) z));
    }

    cut_state : m'.state ≡ state_behind k.state cut_some.report
    unfolding cut_some
    cut_state = sym (one_state (state_behind k.state x.report)) ∙ sym (state_more k.state x.report one_report)

  -- a write of the next block has failed
  pub cut_off : {r : FilesSeen} (a b c : Option (List ℕ)) (p0 : Pending) (k : Standing) → m.ended ≡ false → Answered w a b r s (to_come p0) (to_come p) k m → AppendsFront b bytes c → (fault : WriteFault) → AnsweredReady w (Err fault) a c r t k m' p0 p'
  cut_off a b c p0 k e x z Failed = (cut_some a b c (to_come p0) k e x z, cut_state a b c (to_come p0) k e x z)
  cut_off a b c p0 k e x z (Memory f) = (t, cut_some a b c (to_come p0) k e x z)

  pub fewer : length (to_come p' []) < length (to_come p [])
  fewer = let e = ap length (items_next p p' h.item h.items_are []) in omega arith

-- nothing more was written
pub stopped : {s t : FilesSeen} (w : Way) (a b : Option (List ℕ)) (f g : List ℕ → List Item) (m n : Standing) → Answered w a b s t f g m n → AnsweredSome w a b s t f m.state
stopped w a b f g m n x = record {
  answered = x.answered;
  others = g;
  loads = x.loads;
  asked = x.asked;
  report = x.report;
  reports = x.reports;
  items_are = x.items_are;
  wrote = record { count = length (bytes_of w.showing x.report); front = subst (λ q. Appends a q b) (sym (take_all (length (bytes_of w.showing x.report)) (bytes_of w.showing x.report) (omega arith))) x.wrote };
}

-- some items more were answered
pub some_more : {s t u : FilesSeen} (w : Way) (a b c : Option (List ℕ)) (f g : List ℕ → List Item) (m n : Standing) → n.ended ≡ false → Answered w a b s t f g m n → AnsweredSome w b c t u g n.state → AnsweredSome w a c s u f m.state
some_more w a b c f g m n e x y = record {
  answered = x.answered ++ y.answered;
  others = y.others;
  loads = x.loads ++ y.loads;
  asked = loads_on x.asked y.asked;
  report = x.report ++ y.report;
  reports = reports_more x.reports (goes_on w a b f g m n x e) (subst (λ (z : Standing). Reports w z.state y.answered y.loads y.report) x.standing_is y.reports);
  items_are = λ more. x.items_are more ∙ (ap (λ q. x.answered ++ q) (y.items_are more) ∙ sym (append_assoc x.answered y.answered (y.others more)));
  wrote = subst (λ q. AppendsFront a q c) (sym (bytes_more w.showing x.report y.report)) (front_after a b c (bytes_of w.showing x.report) (bytes_of w.showing y.report) x.wrote y.wrote);
}

-- and the state is the one behind them
pub state_up_to : {o t u : FilesSeen} (w : Way) (a b c : Option (List ℕ)) (f g : List ℕ → List Item) (m n : Standing) (s : State) (e : n.ended ≡ false) (x : Answered w a b o t f g m n) (y : AnsweredSome w b c t u g n.state)
    → s ≡ state_behind n.state y.report → s ≡ state_behind m.state (some_more w a b c f g m n e x y).report
unfolding some_more
state_up_to w a b c f g m n s e x y h =
    h ∙ (ap (λ (z : Standing). state_behind z.state y.report) x.standing_is ∙ sym (state_more m.state x.report y.report))

-- no item is ready any more
pub answered_all : {s t u : FilesSeen} (w : Way) (a b : Option (List ℕ)) (f : List ℕ → List Item) (k m n : Standing) (p p' : Pending) → Answered w a b s t f (to_come p) k m → HasNone t u m n p p' → Answered w a b s u f (to_come p') k n
answered_all {s = s} w a b f k m n p p' x h = record {
  answered = x.answered;
  loads = x.loads;
  asked = subst (λ t. AreLoads s x.loads t) (sym h.files_stay) x.asked;
  report = x.report;
  reports = x.reports;
  standing_is = h.standing_is ∙ x.standing_is;
  items_are = λ more. x.items_are more ∙ ap (λ q. x.answered ++ q) (sym (items_same p p' h.items_are more));
  wrote = x.wrote;
}
