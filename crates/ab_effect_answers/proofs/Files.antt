-- Each list of files is read, or can't be, by the loads that it asks for.
use Rattle.std.proofs.Common.{◌≡◌, ◌⊎◌, inl, inr, ℕ, zero, suc, ◌+◌, ◌<◌, ◌≤◌, List, [], ◌∷◌, ◌++◌, Contains, refl, sym, ap, ◌∙◌, subst, arith, append-nil, append_assoc}
use Rattle.std.proofs.lemmas.Bool.{cases_lt}
use Rattle.ab_lex.specs.declared.token.Token.{Token as Lexed}
use Rattle.ab_grammar.specs.FileTrees.{Item}
use Rattle.ab_io.specs.Loads.{Answer, loaded, missing, failed, too_long}
use Rattle.ab_sigmod.specs.FileNames.{File, name_of}
use Rattle.ab_sigmod.specs.FileTexts.{TextFault, Begins, Says, IsFaulty, no_tokens, no_title, other_title, no_item}
use Rattle.ab_sigmod.specs.FileLoads.{FilesSeen, Load, IsLoad, AreLoads, no_load, then_load}
use Rattle.ab_sigmod.specs.FileOrder.{Read, Progress, limit, WasRead, asked_by, Fault, file_missing, file_fault, file_too_long, text_fault, circular, too_many_files, IsRefusal, is_missing, has_failed, is_too_long, GoesRound, IsNew, load_of, one_loaded, behind_all, AreRead, none, again, once, IsRead, is_read, AreFaulty, at_one, IsUnreadable, goes_round, is_one_more, isnt_loaded, in_its_text, at_a_place, files_of, beginning, IsSpecification, IsRefused}
use Rattle.ab_sigmod.proofs.Appending.{loads_on}
use Rattle.ab_existence.specs.Certainty.{IsCertain}
use Rattle.ab_existence.proofs.Certain.{sure, and_so, and_also, there_or_not}
use Rattle.ab_effect_answers.proofs.Loads.{AnswersLoad, load_there}
use Rattle.ab_effect_answers.proofs.Texts.{SaysOrFails, text_answered}

-- one file of a list, and those before and behind it
round_there : (chain : List File) (f : File) → Contains chain f → (names : List (List ℕ)) × GoesRound chain f names
round_there [] f c = absurd (omega (arith, c.1))
round_there (g ∷ chain) f (zero, l, e) = (_, record { before = []; behind = chain; whole = ap (λ (h : File). h ∷ chain) e; names_are = refl })
round_there (g ∷ chain) f (suc k, l, e) =
    let r = round_there chain f (k, omega (arith, l), e) in
    (r.0, record { before = g ∷ r.1.before; behind = r.1.behind; whole = ap (λ (fs : List File). g ∷ fs) r.1.whole; names_are = r.1.names_are })

-- at most so many files are loaded, and counts don't fall
pub record Rises (p q : Progress) : Type 0 where
  pub up : p.loads ≤ q.loads
  pub within : q.loads ≤ limit

-- what comes of one file, by loads from what was told before
pub record IsAnswered (chain : List File) (f : File) (p : Progress) (s : FilesSeen) : Type 0 where
  pub loads : List Load
  pub after : FilesSeen
  pub asked : AreLoads s loads after
  pub comes : ((q : Progress) × IsRead chain f p loads q × Rises p q) ⊎ ((t : Fault) × IsUnreadable chain f p loads t)

-- and of several
pub record AreAnswered (chain fs : List File) (p : Progress) (s : FilesSeen) : Type 0 where
  pub loads : List Load
  pub after : FilesSeen
  pub asked : AreLoads s loads after
  pub comes : ((q : Progress) × AreRead chain fs p loads q × Rises p q) ⊎ ((t : Fault) × AreFaulty chain fs p loads t)

-- files one after another, where each is answered of which no more than so many can be loaded
module _ (n : ℕ) (one : (chain : List File) (f : File) (p : Progress) (s : FilesSeen) → limit ≤ p.loads + n → p.loads ≤ limit → (WasRead p f → ⊥) → (Contains chain f → ⊥) → IsCertain (IsAnswered chain f p s))
    (chain fs : List File) (p : Progress) (s : FilesSeen) (fuel : limit ≤ p.loads + n) (few : p.loads ≤ limit) where
  -- how it goes on behind one more
  abbrev Onwards : List File → Type 0
  Onwards done = (ls : List Load) (u : FilesSeen) → AreLoads s ls u → (q : Progress) → AreRead chain done p ls q → Rises p q → IsCertain (AreAnswered chain fs p s)

  module _ (done later : List File) (f : File) (whole : fs ≡ done ++ f ∷ later) (ls : List Load) (u : FilesSeen) (asked : AreLoads s ls u) (q : Progress) (read : AreRead chain done p ls q) (up : Rises p q) (on : Onwards (done ++ f ∷ [])) where
    goes_round_here : Contains chain f → AreAnswered chain fs p s
    goes_round_here c =
        let r = round_there chain f c in
        record { loads = ls ++ []; after = u; asked = subst (λ (ks : List Load). AreLoads s ks u) (sym (append-nil ls)) asked; comes = inr (circular r.0, at_one later whole read (goes_round r.1)) }

    with_one : (ms : List Load) (v : FilesSeen) → AreLoads u ms v → ((r : Progress) × IsRead chain f q ms r × Rises q r) ⊎ ((t : Fault) × IsUnreadable chain f q ms t) → IsCertain (AreAnswered chain fs p s)
    with_one ms v more (inl (r, is, higher)) = on (ls ++ ms) v (loads_on asked more) r (once read is) (record { up = omega (arith, up.up, higher.up); within = higher.within })
    with_one ms v more (inr (t, isnt)) = sure (record { loads = ls ++ ms; after = v; asked = loads_on asked more; comes = inr (t, at_one later whole read isnt) })

    step : IsCertain (AreAnswered chain fs p s)
    step =
        and_so (there_or_not (Contains chain f))
        (λ circle. elim circle [
          | inl c ↦ sure (goes_round_here c)
          | inr new ↦ and_so (there_or_not (WasRead q f))
              (λ known. elim known [
                | inl was ↦ on ls u asked q (again read new was) up
                | inr unread ↦ and_so (one chain f q u (omega (arith, fuel, up.up)) up.within unread new) (λ a. with_one a.loads a.after a.asked a.comes)
              ])
        ])

  behind : (done later : List File) → fs ≡ done ++ later → Onwards done
  behind done [] whole ls u asked q read up =
      sure (record { loads = ls; after = u; asked = asked; comes = inl (q, subst (λ (gs : List File). AreRead chain gs p ls q) (sym (whole ∙ append-nil done)) read, up) })
  behind done (f ∷ later) whole ls u asked q read up =
      step done later f whole ls u asked q read up (behind (done ++ f ∷ []) later (whole ∙ sym (append_assoc done (f ∷ []) later)))

  pub all_answered : IsCertain (AreAnswered chain fs p s)
  all_answered = behind [] fs refl [] s no_load p none (record { up = omega arith; within = few })

-- one file, whose own files are answered
module _ (chain : List File) (f : File) (p : Progress) (s : FilesSeen) (few : p.loads ≤ limit) (unread : WasRead p f → ⊥)
    (places : (fs : List File) (u : FilesSeen) → p.loads < limit → IsCertain (AreAnswered (chain ++ f ∷ []) fs (one_loaded p) u)) where
  refused_load : (new : IsNew chain p f) (a : Answer) (u : FilesSeen) → IsLoad s (load_of f a) u → (t : Fault) → IsRefusal (name_of f) a t → IsCertain (IsAnswered chain f p s)
  refused_load new a u load t r = sure (record { loads = load_of f a ∷ []; after = u; asked = then_load no_load load; comes = inr (t, isnt_loaded new r) })

  module _ (new : IsNew chain p f) (bytes : List ℕ) (u : FilesSeen) (load : IsLoad s (load_of f (loaded bytes)) u) where
    abbrev Places : List Item → Type 0
    Places is = AreAnswered (chain ++ f ∷ []) (asked_by f.kind is) (one_loaded p) u

    whole : (is : List Item) → Says bytes f is → Places is → IsAnswered chain f p s
    whole is says a = record { loads = load_of f (loaded bytes) ∷ a.loads; after = a.after; asked = loads_on (then_load no_load load) a.asked; comes = by_case a.comes }
      where
        by_case : ((q : Progress) × AreRead (chain ++ f ∷ []) (asked_by f.kind is) (one_loaded p) a.loads q × Rises (one_loaded p) q) ⊎ ((t : Fault) × AreFaulty (chain ++ f ∷ []) (asked_by f.kind is) (one_loaded p) a.loads t)
            → ((q : Progress) × IsRead chain f p (load_of f (loaded bytes) ∷ a.loads) q × Rises p q) ⊎ ((t : Fault) × IsUnreadable chain f p (load_of f (loaded bytes) ∷ a.loads) t)
        by_case (inl (q, read, up)) = inl (behind_all q f is, is_read new says read, record { up = omega (arith, up.up); within = up.within })
        by_case (inr (t, faulty)) = inr (t, at_a_place new says faulty)

    part : (is : List Item) (e : TextFault) → IsFaulty bytes f is e → (rest : List Lexed) → Begins bytes f is rest → Places is → IsAnswered chain f p s
    part is e fault rest begun a = record { loads = load_of f (loaded bytes) ∷ a.loads; after = a.after; asked = loads_on (then_load no_load load) a.asked; comes = by_case a.comes }
      where
        by_case : ((q : Progress) × AreRead (chain ++ f ∷ []) (asked_by f.kind is) (one_loaded p) a.loads q × Rises (one_loaded p) q) ⊎ ((t : Fault) × AreFaulty (chain ++ f ∷ []) (asked_by f.kind is) (one_loaded p) a.loads t)
            → ((q : Progress) × IsRead chain f p (load_of f (loaded bytes) ∷ a.loads) q × Rises p q) ⊎ ((t : Fault) × IsUnreadable chain f p (load_of f (loaded bytes) ∷ a.loads) t)
        by_case (inl (q, read, up)) = inr (text_fault (name_of f) e, in_its_text new fault read)
        by_case (inr (t, faulty)) = inr (t, at_a_place new begun faulty)

    at_once : (e : TextFault) → IsFaulty bytes f [] e → IsCertain (IsAnswered chain f p s)
    at_once e fault = sure (record { loads = load_of f (loaded bytes) ∷ []; after = u; asked = then_load no_load load; comes = inr (text_fault (name_of f) e, in_its_text new fault none) })

    by_fault : (is : List Item) (e : TextFault) → IsFaulty bytes f is e → IsCertain (IsAnswered chain f p s)
    by_fault is e (no_tokens h) = at_once e (no_tokens h)
    by_fault is e (no_title all d r) = at_once e (no_title all d r)
    by_fault is e (other_title all d a t n) = at_once e (other_title all d a t n)
    by_fault is e (no_item {ts = ts} begun some d r) = and_also (places (asked_by f.kind is) u new.within) (part is e (no_item begun some d r) ts begun)

    by_text : SaysOrFails bytes f → IsCertain (IsAnswered chain f p s)
    by_text (inl (is, says)) = and_also (places (asked_by f.kind is) u new.within) (whole is says)
    by_text (inr (is, e, fault)) = by_fault is e fault

  by_load : IsNew chain p f → AnswersLoad s (name_of f) → IsCertain (IsAnswered chain f p s)
  by_load new (loaded bytes, u, load) = and_so (text_answered bytes f) (by_text new bytes u load)
  by_load new (missing, u, load) = refused_load new missing u load (file_missing (name_of f)) is_missing
  by_load new (failed, u, load) = refused_load new failed u load (file_fault (name_of f)) has_failed
  by_load new (too_long, u, load) = refused_load new too_long u load (file_too_long (name_of f)) is_too_long

  pub file_by_load : (Contains chain f → ⊥) → IsCertain (IsAnswered chain f p s)
  file_by_load new =
      elim (cases_lt p.loads limit) [
        | inl within ↦ and_so (load_there s (name_of f)) (by_load (record { no_circle = new; not_read = unread; within = within }))
        | inr above ↦ (let full : p.loads ≡ limit = omega (arith, few, above) in
            sure (record { loads = []; after = s; asked = no_load; comes = inr (too_many_files (name_of f), is_one_more new unread full) }))
      ]

-- EACH FILE, of which no more than so many can be loaded
file_answered : (n : ℕ) (chain : List File) (f : File) (p : Progress) (s : FilesSeen) → limit ≤ p.loads + n → p.loads ≤ limit → (WasRead p f → ⊥) → (Contains chain f → ⊥) → IsCertain (IsAnswered chain f p s)
file_answered zero chain f p s fuel few unread new = file_by_load chain f p s few unread (λ fs u within. absurd (omega (arith, fuel, within))) new
file_answered (suc n) chain f p s fuel few unread new =
    file_by_load chain f p s few unread
    (λ fs u within. all_answered n (file_answered n) (chain ++ f ∷ []) fs (one_loaded p) u (omega (arith, fuel)) (omega (arith, within))) new

-- EACH LIST OF FILES
pub files_answered : (chain fs : List File) (p : Progress) (s : FilesSeen) → p.loads ≤ limit → IsCertain (AreAnswered chain fs p s)
files_answered chain fs p s few = all_answered limit (file_answered limit) chain fs p s (omega arith) few

-- EACH SPECIFICATION is read or refused
pub specification_answered : (x : List ℕ) (s : FilesSeen)
    → IsCertain ((ls : List Load) × (t : FilesSeen) × AreLoads s ls t × (((files : List Read) × IsSpecification x ls files) ⊎ ((fault : Fault) × IsRefused x ls fault)))
specification_answered x s = and_also (files_answered [] (files_of x) beginning s (omega arith)) (λ a. (a.loads, a.after, a.asked, by_case a a.comes))
  where
    by_case : (a : AreAnswered [] (files_of x) beginning s) → ((q : Progress) × AreRead [] (files_of x) beginning a.loads q × Rises beginning q) ⊎ ((t : Fault) × AreFaulty [] (files_of x) beginning a.loads t)
        → ((files : List Read) × IsSpecification x a.loads files) ⊎ ((fault : Fault) × IsRefused x a.loads fault)
    by_case a (inl (q, read, up)) = inl (q.files, (q.loads, read))
    by_case a (inr t) = inr t
