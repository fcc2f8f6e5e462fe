-- A text has one report.
use Rattle.std.proofs.Common.{◌≡◌, ℕ, List, [], ◌∷◌, ◌++◌, true, false, refl, sym, ◌∙◌, ap, subst, append_assoc}
use Rattle.ab_sigmod.specs.FileLoads.{Load}
use Rattle.ab_lex.specs.declared.TheConstants.{COMMAND_LIMIT}
use Rattle.ab_lex.specs.Commands.{Item}
use Rattle.ab_lex.proofs.Cuts.{only_items}
use Rattle.ab_session.specs.ab_states.specs.State.{State, empty}
use Rattle.ab_session.specs.ab_states.specs.Reply.{Reply}
use Rattle.ab_determinism.specs.Sound.{IsSound}
use Rattle.ab_determinism.proofs.Sound.{sound_beginning}
use Rattle.ab_determinism.proofs.Taking.{sound_effect}
use Rattle.ab_determinism.proofs.OneEffect.{one_effect}
use Rattle.ab_run.specs.declared.way.Way.{Way}
use Rattle.ab_run.specs.Report.{Moment, Replies, to_command, to_long, Report, Reports, none, next, last, ReportOf, is_end}

moment_by : Reply → State → Moment
moment_by r s = record { reply = r; state = s }

same_moment : (m k : Moment) → m.reply ≡ k.reply → m.state ≡ k.state → m ≡ k
unfolding moment_by
same_moment m k e f = ap (λ r. moment_by r m.state) e ∙ ap (moment_by k.reply) f

-- where loads begin alike, an item has one answer, by one front of them
one_moment : {s : State} {i : Item} {loads others : List Load} (rest more : List Load) {m k : Moment} → IsSound s → loads ++ rest ≡ others ++ more → Replies s i loads m → Replies s i others k → (m ≡ k) × (loads ≡ others)
one_moment {s = s} rest more sound alike (to_command {bytes = bytes} m e b) (to_command k f c) =
    let same = one_effect s sound.declarations bytes rest more alike e f in
    (same_moment m k same.0 same.1, same.2)
one_moment rest more sound alike (to_long m e f) (to_long k g h) = (same_moment m k (e ∙ sym g) (f ∙ sym h), refl)

goes_or_ends : (w : Way) (m k : Moment) → m ≡ k → is_end w m.reply ≡ false → is_end w k.reply ≡ true → ⊥
goes_or_ends w m k same e f = let both : false ≡ true = sym e ∙ ap (λ (x : Moment). is_end w x.reply) same ∙ f in cc

replied_soundly : {s : State} {i : Item} {loads : List Load} {m : Moment} → IsSound s → Replies s i loads m → IsSound m.state
replied_soundly sound (to_command m e b) = sound_effect e sound
replied_soundly sound (to_long m e f) = subst IsSound (sym f) sound

same_rest : (front a b : List Load) → front ++ a ≡ front ++ b → a ≡ b
same_rest [] a b e = e
same_rest (l ∷ front) a b e = let tail : front ++ a ≡ front ++ b = cc in same_rest front a b tail

-- ONE REPORT of these items, where loads begin alike
one_report : {w : Way} {s : State} {is : List Item} {loads others : List Load} (rest more : List Load) {r q : Report} → IsSound s → loads ++ rest ≡ others ++ more → Reports w s is loads r → Reports w s is others q → r ≡ q
one_report rest more sound alike none none = refl
one_report {w = w} rest more sound alike (next {is = is} {loads = a} {later = b} {r = r} m h k x) (next {loads = c} {later = d} {r = q} n g j y) =
    let inner : a ++ (b ++ rest) ≡ c ++ (d ++ more) = sym (append_assoc a b rest) ∙ (alike ∙ append_assoc c d more) in
    let both = one_moment (b ++ rest) (d ++ more) sound inner h g in
    let tails : b ++ rest ≡ d ++ more = same_rest c (b ++ rest) (d ++ more) (ap (λ z. z ++ (b ++ rest)) (sym both.1) ∙ inner) in
    ap (λ z. z ∷ r) both.0 ∙ ap (λ z. n ∷ z) (one_report rest more (replied_soundly sound g) tails (subst (λ (z : Moment). Reports w z.state is b r) both.0 x) y)
one_report {w = w} rest more sound alike (next {loads = a} {later = b} m h k x) (last n g j) =
    absurd (goes_or_ends w m n (one_moment (b ++ rest) more sound (sym (append_assoc a b rest) ∙ alike) h g).0 k j)
one_report {w = w} rest more sound alike (last m h k) (next {loads = c} {later = d} n g j y) =
    absurd (goes_or_ends w n m (one_moment (d ++ more) rest sound (sym (append_assoc c d more) ∙ sym alike) g h).0 j k)
one_report rest more sound alike (last m h k) (last n g j) = ap (λ z. z ∷ []) (one_moment rest more sound alike h g).0

-- AND OF A TEXT
pub one_report_of : (w : Way) (text : List ℕ) (loads : List Load) (r q : Report) → ReportOf w text loads r → ReportOf w text loads q → r ≡ q
one_report_of w text loads r q a b =
    let same : a.items ≡ b.items = only_items COMMAND_LIMIT text a.items a.items_are ∙ sym (only_items COMMAND_LIMIT text b.items b.items_are) in
    one_report [] [] sound_beginning refl (subst (λ is. Reports w empty is loads r) same a.reports) b.reports
