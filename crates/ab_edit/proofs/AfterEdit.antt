-- What an edit leaves: the commands before it, and how many of the new text's are accepted.
use Rattle.std.proofs.Common.{◌≡◌, ◌≤◌, ◌<◌, ◌+◌, ◌-◌, ℕ, true, false, List, [], ◌∷◌, ◌++◌, length, map, take, drop, nat_lt, count_by, refl, sym, ap, ◌∙◌, subst, arith, append_assoc, inl, inr}
use Rattle.std.specs.List.{concat}
use Rattle.std.proofs.lemmas.List.{append-nil, length-append, length-take-le, take-append-drop, take-append-le, take-take, take_at}
use Rattle.std.proofs.lemmas.List.Folds.{concat-append}
use Rattle.std.proofs.lemmas.Bool.{cases_lt}
use Rattle.std.proofs.Math.Seq.{take-append-add}
use Rattle.ab_io.specs.Replays.{Test, SameTest}
use Rattle.ab_lex.specs.Commands.{Splits, Item, command}
use Rattle.ab_lex.proofs.Cuts.{only_one}
use Rattle.ab_edit.specs.Edits.{text_after_edit}
use Rattle.ab_edit.specs.Prefixes.{place_of, BeginsWith, IsPrefix, IsEnd, IsStopped, IsMore}
use Rattle.ab_edit.specs.Moves.{ends_from, count_behind, last_end}
use Rattle.ab_edit.specs.State.{IsInStep, IsHonest, IsTakenBack}
use Rattle.ab_edit.proofs.Lists.{same_later, map_both}
use Rattle.ab_edit.proofs.Fronts.{AreCommands, commands_before, commands_behind, front, follows_some, one_list}
use Rattle.ab_edit.proofs.Ends.{place_more, count_more, all_behind, first_behind, last_end_is}
use Rattle.ab_edit.proofs.Honest.{honest_on, honest_before}

-- a front of a text that ends before an edit stays
front_stays : (text f x : List ℕ) (start end : ℕ) (bytes : List ℕ) → text ≡ f ++ x → length f ≤ start → text_after_edit text start end bytes ≡ f ++ ((take (start - length f) x ++ bytes) ++ drop end text)
front_stays text f x start end bytes e l =
    let n : length f + (start - length f) ≡ start = omega arith in
    let a : take start text ≡ f ++ take (start - length f) x =
    ap (take start) e ∙ (ap (λ k. take k (f ++ x)) (sym n) ∙ take-append-add f x (start - length f)) in
    ap (λ q. (q ++ bytes) ++ drop end text) a
    ∙ (ap (λ q. q ++ drop end text) (append_assoc f (take (start - length f) x) bytes) ∙ append_assoc f (take (start - length f) x ++ bytes) (drop end text))

-- the commands that end before an edit are the first of the new text
pub step_edited : (t u : Test) (text ends ends' : List ℕ) (start end : ℕ) (bytes : List ℕ) (old new : List (List ℕ)) → SameTest t u → IsInStep t text ends old → IsTakenBack start old new → ends' ≡ ends_from 0 new → IsInStep u (text_after_edit text start end bytes) ends' new
step_edited t u text ends ends' start end bytes old new s h k e =
    let f = front text old h.prefix.0 h.prefix.1 in
    let parts : text ≡ concat new ++ (concat k.taken ++ f.left) =
    f.parts ∙ (ap (λ q. concat q ++ f.left) k.parts ∙ (ap (λ q. q ++ f.left) (concat-append new k.taken) ∙ append_assoc (concat new) (concat k.taken) f.left)) in
    let stays = front_stays text (concat new) (concat k.taken ++ f.left) start end bytes parts k.within in
    let some = follows_some new ((take (start - place_of new) (concat k.taken ++ f.left) ++ bytes) ++ drop end text) (commands_before new k.taken (subst AreCommands k.parts f.commands)) in
    record {
      ends_are = e;
      prefix = (some.0, subst (λ q. BeginsWith q new some.0) (sym stays) some.1);
      honest = honest_on t u new s (honest_before t new k.taken (subst (λ q. IsHonest t q) k.parts h.honest));
    }

-- a front of the new text that ends before the edit is one of the old text
front_before : (text f y : List ℕ) (start end : ℕ) (bytes : List ℕ) → start ≤ length text → text_after_edit text start end bytes ≡ f ++ y → length f ≤ start → text ≡ f ++ drop (length f) text
front_before text f y start end bytes n e l =
    let m : length (take start text) ≡ start = length-take-le start text n in
    let fits : length f ≤ length (take start text) = omega arith in
    let fits_both : length f ≤ length (take start text ++ bytes) = omega (arith, length-append {A = ℕ} (take start text) bytes) in
    let a : take (length f) (text_after_edit text start end bytes) ≡ take (length f) text =
    take-append-le (length f) (take start text ++ bytes) (drop end text) fits_both
    ∙ (take-append-le (length f) (take start text) bytes fits ∙ take-take (length f) start text l) in
    let b : take (length f) text ≡ f = sym a ∙ (ap (take (length f)) e ∙ take_at f y (length f) refl) in
    sym (take-append-drop (length f) text) ∙ ap (λ q. q ++ drop (length f) text) b

-- where it is told that the command behind the kept ones isn't kept, no command that ends before the edit is accepted anew

clash : (t : Test) (new : List (List ℕ)) (c : List ℕ) (z laterK : List Item) (old taken : List (List ℕ)) (start : ℕ) → old ≡ new ++ taken → (◌≡◌ {A = List Item} (map command (new ++ c ∷ []) ++ z) (map command old ++ laterK)) → IsEnd t old laterK
    → ((b : List ℕ) (more : List (List ℕ)) → taken ≡ b ∷ more → start < place_of (new ++ b ∷ [])) → place_of (new ++ c ∷ []) ≤ start → (t new c false → ⊥) → ⊥
clash t new c z laterK old [] start parts e end first l never =
    let same : old ≡ new = parts ∙ append-nil new in
    let f : command c ∷ z ≡ laterK = same_later new (c ∷ []) z laterK (e ∙ ap (λ q. map command q ++ laterK) same) in
    let g : IsEnd t old (command c ∷ z) = subst (λ q. IsEnd t old q) (sym f) end in
    never (subst (λ q. t q c false) same g)
clash t new c z laterK old (k ∷ tk) start parts e end first l never =
    let f : command c ∷ z ≡ command k ∷ (map command tk ++ laterK) = same_later new (c ∷ []) z (map command (k ∷ tk) ++ laterK) (e ∙ (ap (λ q. map command q ++ laterK) parts ∙ map_both new (k ∷ tk) laterK)) in
    let g : c ≡ k = cc in
    let h : start < place_of (new ++ c ∷ []) = subst (λ (q : List ℕ). start < place_of (new ++ q ∷ [])) (sym g) (first k tk refl) in
    absurd (omega arith)

not_before : (t u : Test) (text : List ℕ) (start end : ℕ) (bytes : List ℕ) (old new : List (List ℕ)) (c : List ℕ) (cs : List (List ℕ)) → SameTest t u → start ≤ length text → IsStopped t text old → IsTakenBack start old new
    → IsPrefix (text_after_edit text start end bytes) (new ++ c ∷ cs) → IsHonest u (new ++ c ∷ cs) → place_of (new ++ c ∷ []) ≤ start → ⊥
not_before t u text start end bytes old new c cs s n stopped k prefix honest l =
    let f = front (text_after_edit text start end bytes) (new ++ c ∷ cs) prefix.0 prefix.1 in
    let one = new ++ c ∷ [] in
    let assoc : one ++ cs ≡ new ++ c ∷ cs = append_assoc new (c ∷ []) cs in
    let parts : text_after_edit text start end bytes ≡ concat one ++ (concat cs ++ f.left) =
    f.parts ∙ (ap (λ q. concat q ++ f.left) (sym assoc) ∙ (ap (λ q. q ++ f.left) (concat-append one cs) ∙ append_assoc (concat one) (concat cs) f.left)) in
    let before = front_before text (concat one) (concat cs ++ f.left) start end bytes n parts l in
    let commands : AreCommands one = commands_before one cs (subst AreCommands (sym assoc) f.commands) in
    let some = follows_some one (drop (place_of one) text) commands in
    let there : BeginsWith text one some.0 = subst (λ q. BeginsWith q one some.0) (sym before) some.1 in
    let same = one_list text (map command one ++ some.0) (map command old ++ stopped.later) there stopped.begins in
    let never : t new c false → ⊥ = λ h. let z : false ≡ true = honest new cs c refl false ((s new c false).0 h) in cc in
    clash t new c some.0 stopped.later old k.taken start k.parts same stopped.end k.first l never

module _ (text' rest : List ℕ) (whole new more : List (List ℕ)) (prefix : IsPrefix text' (new ++ more)) (splits : Splits text' whole rest) where
  -- the commands that were accepted are among those of the new text
  counted : (start : ℕ) → (AreCommands more → count_by (λ end. nat_lt start end) (ends_from (0 + length (concat new)) more) ≡ length more) → length more ≤ count_behind start whole
  counted start h =
      let f = front text' (new ++ more) prefix.0 prefix.1 in
      let same : whole ≡ (new ++ more) ++ f.others = (only_one splits prefix.1.splits).0 ∙ f.whole_is in
      let all = ap (count_behind start) same ∙ count_more start 0 (new ++ more) f.others in
      let both = count_more start 0 new more in
      let own = h (commands_behind new more f.commands) in
      omega arith

  pub counted_all : (start : ℕ) (old : List (List ℕ)) → IsTakenBack start old new → length more ≤ count_behind (last_end start old) whole
  counted_all start old k =
      let e = last_end_is start old new k in
      counted (last_end start old) (λ a. all_behind (last_end start old) (0 + length (concat new)) more a (omega arith))

  counted_told : (start : ℕ) (ms : List (List ℕ)) → more ≡ ms → ((c : List ℕ) (cs : List (List ℕ)) → more ≡ c ∷ cs → start < place_of (new ++ c ∷ [])) → length more ≤ count_behind start whole
  counted_told start [] e first = let f = ap length e in omega arith
  counted_told start (c ∷ cs) e first =
      let less : start < (0 + length (concat new)) + length c = omega (arith, first c cs e, place_more new c) in
      counted start (λ a. subst (λ q. count_by (λ end. nat_lt start end) (ends_from (0 + length (concat new)) q) ≡ length q) (sym e) (first_behind start (0 + length (concat new)) c cs (subst AreCommands e a) less))

  pub counted_first : (start : ℕ) → ((c : List ℕ) (cs : List (List ℕ)) → more ≡ c ∷ cs → start < place_of (new ++ c ∷ [])) → length more ≤ count_behind start whole
  counted_first start first = counted_told start more refl first

pub first_ends_behind : (t u : Test) (text : List ℕ) (start end : ℕ) (bytes : List ℕ) (old new more : List (List ℕ)) → SameTest t u → start ≤ length text → IsStopped t text old → IsTakenBack start old new
    → IsPrefix (text_after_edit text start end bytes) (new ++ more) → IsHonest u (new ++ more) → (c : List ℕ) (cs : List (List ℕ)) → more ≡ c ∷ cs → start < place_of (new ++ c ∷ [])
first_ends_behind t u text start end bytes old new more s n stopped k prefix honest c cs e =
    elim (cases_lt start (place_of (new ++ c ∷ []))) [
      | inl less ↦ less
      | inr l ↦ absurd (not_before t u text start end bytes old new c cs s n stopped k (subst (λ q. IsPrefix (text_after_edit text start end bytes) (new ++ q)) e prefix) (subst (λ q. IsHonest u (new ++ q)) e honest) l)
    ]

module _ (t u : Test) (text : List ℕ) (start end : ℕ) (bytes : List ℕ) (old new kept : List (List ℕ)) (ends : List ℕ) (m0 m1 m2 : ℕ) (back : IsTakenBack start old new) (more : IsMore new kept) (there : IsInStep u (text_after_edit text start end bytes) ends kept)
    (went_back : m1 ≤ m0 + count_behind start old) (went_on : m2 + length new ≤ m1 + length kept + 1) (whole : List (List ℕ)) (rest : List ℕ) (splits : Splits (text_after_edit text start end bytes) whole rest) where
  pub moves_told : SameTest t u → start ≤ length text → IsStopped t text old → m2 ≤ m0 + count_behind start old + count_behind start whole + 1
  moves_told s n stopped =
      let prefix = subst (λ q. IsPrefix (text_after_edit text start end bytes) q) more.1 there.prefix in
      let honest = subst (λ q. IsHonest u q) more.1 there.honest in
      let count = counted_first (text_after_edit text start end bytes) rest whole new more.0 prefix splits start (first_ends_behind t u text start end bytes old new more.0 s n stopped back prefix honest) in
      omega (arith, ap length more.1, length-append {A = List ℕ} new more.0)

  pub moves_all : m2 ≤ m0 + count_behind start old + count_behind (last_end start old) whole + 1
  moves_all =
      let prefix = subst (λ q. IsPrefix (text_after_edit text start end bytes) q) more.1 there.prefix in
      let count = counted_all (text_after_edit text start end bytes) rest whole new more.0 prefix splits start old back in
      omega (arith, ap length more.1, length-append {A = List ℕ} new more.0)
