-- Reports of items, one behind another.
use Rattle.std.proofs.Common.{◌≡◌, ◌||◌, ℕ, Bool, true, false, List, [], ◌∷◌, ◌++◌, refl, sym, ap, ◌∙◌, subst, append_assoc, append-nil, inl, inr}
use Rattle.std.proofs.lemmas.Bool.{cases_Bool}
use Rattle.ab_sigmod.specs.FileLoads.{Load}
use Rattle.ab_lex.specs.declared.TheConstants.{COMMAND_LIMIT}
use Rattle.ab_lex.specs.Commands.{Item, ItemsOf}
use Rattle.ab_lex.proofs.Cuts.{items_there}
use Rattle.ab_lex.proofs.GoesOn.{items_on}
use Rattle.ab_session.specs.ab_states.specs.State.{State, empty}
use Rattle.ab_run.specs.declared.way.Showing.{Showing}
use Rattle.ab_run.specs.declared.way.Way.{Way}
use Rattle.ab_run.specs.Report.{Moment, Report, Reports, ReportOf, none, next, last, Replies, is_end, shown, bytes_of, has_end, state_behind}

pub or_assoc : (a b c : Bool) → (a || b) || c ≡ a || (b || c)
or_assoc true b c = refl
or_assoc false b c = refl

pub or_false : (a : Bool) → a || false ≡ a
or_false true = refl
or_false false = refl

pub neither_second : (a b : Bool) → a || b ≡ false → b ≡ false
neither_second true b e = cc
neither_second false b e = e

the_other : (a b : Bool) → a ≡ false → a || b ≡ true → b ≡ true
the_other true b f e = cc
the_other false b f e = e

pub bytes_more : (w : Showing) (r q : Report) → bytes_of w (r ++ q) ≡ bytes_of w r ++ bytes_of w q
bytes_more w [] q = refl
bytes_more w (m ∷ r) q = ap (λ x. shown w m ++ x) (bytes_more w r q) ∙ sym (append_assoc (shown w m) (bytes_of w r) (bytes_of w q))

pub end_more : (w : Way) (r q : Report) → has_end w (r ++ q) ≡ has_end w r || has_end w q
end_more w [] q = refl
end_more w (m ∷ r) q = ap (λ x. is_end w m.reply || x) (end_more w r q) ∙ sym (or_assoc (is_end w m.reply) (has_end w r) (has_end w q))

pub state_more : (s : State) (r q : Report) → state_behind s (r ++ q) ≡ state_behind (state_behind s r) q
state_more s [] q = refl
state_more s (m ∷ r) q = state_more m.state r q

no_end : (a : Bool) → a || false ≡ false → a ≡ true → ⊥
no_end true e f = cc
no_end false e f = cc

pub reports_more : {w : Way} {s : State} {is js : List Item} {loads later : List Load} {r q : Report} → Reports w s is loads r → has_end w r ≡ false → Reports w (state_behind s r) js later q
    → Reports w s (is ++ js) (loads ++ later) (r ++ q)
reports_more none e y = y
reports_more {w = w} {s = s} {js = js} {later = after} {q = q} (next {i = i} {is = is} {loads = loads} {later = later} {r = r} m h k x) e y =
    subst (λ ls. Reports w s (i ∷ (is ++ js)) ls (m ∷ (r ++ q))) (sym (append_assoc loads later after)) (next m h k (reports_more x (neither_second (is_end w m.reply) (has_end w r) e) y))
reports_more {w = w} (last m h k) e y = absurd (no_end (is_end w m.reply) e k)

-- items behind the reply that ends the run aren't looked at
pub reports_ended : {w : Way} {s : State} {is : List Item} {loads : List Load} {r : Report} (js : List Item) → Reports w s is loads r → has_end w r ≡ true → Reports w s (is ++ js) loads r
reports_ended js none e = cc
reports_ended {w = w} js (next {r = r} m h k x) e = next m h k (reports_ended js x (the_other (is_end w m.reply) (has_end w r) k e))
reports_ended js (last m h k) e = last m h k

pub reports_one : {w : Way} {s : State} {i : Item} {loads : List Load} (m : Moment) → Replies s i loads m → Reports w s (i ∷ []) loads (m ∷ [])
reports_one {w = w} {s = s} {i = i} {loads = loads} m h =
    elim (cases_Bool (is_end w m.reply)) [
      | inl e ↦ last m h e
      | inr e ↦ subst (λ ls. Reports w s (i ∷ []) ls (m ∷ [])) (append-nil loads) (next m h e none)
    ]

pub report_of_items : {w : Way} (text : List ℕ) (is : List Item) (loads : List Load) (r : Report) → ItemsOf text is → Reports w empty is loads r → ReportOf w text loads r
report_of_items text is loads r h x = record { items = is; items_are = h; reports = x }

-- a text that goes on behind the reply that ends the run has the same report
pub ended_text : {w : Way} (text more : List ℕ) (loads : List Load) (r : Report) → ReportOf w text loads r → has_end w r ≡ true → ReportOf w (text ++ more) loads r
ended_text text more loads r x e =
    let k = items_there COMMAND_LIMIT (text ++ more) in
    let g = items_on COMMAND_LIMIT text more x.items k.0 x.items_are k.1 in
    report_of_items (text ++ more) (x.items ++ g.0) loads r (subst (λ q. ItemsOf (text ++ more) q) g.1 k.1) (reports_ended g.0 x.reports e)

-- the report of the first items, and what of the whole report stands behind it
pub begins : {w : Way} (is js : List Item) (s : State) (loads : List Load) (r : Report) → Reports w s (is ++ js) loads r
    → (q : Report) × (rest : Report) × (first : List Load) × (later : List Load) × Reports w s is first q × (loads ≡ first ++ later) × (r ≡ q ++ rest)
begins [] js s loads r x = ([], r, [], loads, none, refl, refl)
begins (i ∷ is) js s _ _ (next {loads = asked} {later = after} {r = rest} m h k x) =
    let z = begins is js m.state after rest x in
    (m ∷ z.0, z.1, asked ++ z.2, z.3, next m h k z.4, ap (λ ls. asked ++ ls) z.5 ∙ sym (append_assoc asked z.2 z.3), ap (λ q. m ∷ q) z.6)
begins (i ∷ is) js s loads _ (last m h k) = (m ∷ [], [], loads, [], last m h k, sym (append-nil loads), refl)
