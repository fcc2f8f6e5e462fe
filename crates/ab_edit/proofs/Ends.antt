-- The ends of commands, and how many of them stand behind a place.
use Rattle.std.proofs.Common.{◌≡◌, ◌≤◌, ◌<◌, ◌+◌, ◌-◌, ℕ, suc, cond, get_or, nat_lt, List, [], ◌∷◌, ◌++◌, length, refl, sym, ap, ◌∙◌, arith, append_assoc, count_by}
use Rattle.std.specs.List.{concat}
use Rattle.std.proofs.lemmas.List.{append-nil, length-append}
use Rattle.std.proofs.lemmas.List.Sums.{sum_by-append}
use Rattle.std.proofs.lemmas.List.Folds.{concat-append}
use Rattle.std.proofs.lemmas.Bool.{lt-ltb, le-leb, lt-leb}
use Rattle.ab_edit.specs.Prefixes.{place_of, IsMore}
use Rattle.ab_edit.specs.Moves.{ends_from, count_behind, last_end_from, last_end}
use Rattle.ab_edit.specs.State.{last_of, IsTakenBack}
use Rattle.ab_edit.proofs.Lists.{more_behind, more_more}
use Rattle.ab_edit.proofs.Fronts.{AreCommands, some_bytes}

pub place_more : (ks : List (List ℕ)) (c : List ℕ) → place_of (ks ++ c ∷ []) ≡ place_of ks + length c
place_more ks c =
    let e = ap length (concat-append ks (c ∷ [])) in
    omega (arith, length-append {A = ℕ} (concat ks) (c ++ []), length-append {A = ℕ} c [])

pub ends_more : (place : ℕ) (ks ls : List (List ℕ)) → ends_from place (ks ++ ls) ≡ ends_from place ks ++ ends_from (place + length (concat ks)) ls
ends_more place [] ls = let e : place ≡ place + 0 = omega arith in ap (λ p. ends_from p ls) e
ends_more place (k ∷ ks) ls =
    let e : (place + length k) + length (concat ks) ≡ place + length (k ++ concat ks) = omega (arith, length-append {A = ℕ} k (concat ks)) in
    ap (λ q. (place + length k) ∷ q) (ends_more (place + length k) ks ls ∙ ap (λ p. ends_from (place + length k) ks ++ ends_from p ls) e)

pub ends_one_more : (ks : List (List ℕ)) (c : List ℕ) → ends_from 0 (ks ++ c ∷ []) ≡ ends_from 0 ks ++ place_of (ks ++ c ∷ []) ∷ []
ends_one_more ks c =
    let e : (0 + length (concat ks)) + length c ≡ place_of (ks ++ c ∷ []) = omega (arith, place_more ks c) in
    ends_more 0 ks (c ∷ []) ∙ ap (λ p. ends_from 0 ks ++ p ∷ []) e

-- the last of some numbers is the one at the last place
pub last_is : (ns : List ℕ) → get_or ns (length ns - 1) 0 ≡ last_of ns
last_is [] = refl
last_is (n ∷ []) = refl
last_is (n ∷ (m ∷ ns)) =
    let e : length (n ∷ (m ∷ ns)) - 1 ≡ suc (length ns) = omega arith in
    let f : length ns ≡ length (m ∷ ns) - 1 = omega arith in
    ap (λ k. get_or (n ∷ (m ∷ ns)) k 0) e ∙ (ap (λ k. get_or (m ∷ ns) k 0) f ∙ last_is (m ∷ ns))

pub last_of_more : (ns : List ℕ) (n : ℕ) → last_of (ns ++ n ∷ []) ≡ n
last_of_more [] n = refl
last_of_more (m ∷ []) n = refl
last_of_more (m ∷ (k ∷ ns)) n = last_of_more (k ∷ ns) n

pub count_more : (start place : ℕ) (ks ls : List (List ℕ)) → count_by (λ end. nat_lt start end) (ends_from place (ks ++ ls))
    ≡ count_by (λ end. nat_lt start end) (ends_from place ks) + count_by (λ end. nat_lt start end) (ends_from (place + length (concat ks)) ls)
count_more start place ks ls =
    ap (count_by (λ end. nat_lt start end)) (ends_more place ks ls)
    ∙ sum_by-append (λ end. cond (nat_lt start end) 1 0) (ends_from place ks) (ends_from (place + length (concat ks)) ls)

count_cons : (start n : ℕ) (ns : List ℕ) → start < n → count_by (λ end. nat_lt start end) (n ∷ ns) ≡ 1 + count_by (λ end. nat_lt start end) ns
count_cons start n ns l =
    sum_by-append (λ end. cond (nat_lt start end) 1 0) (n ∷ []) ns
    ∙ ap (λ b. (0 + cond b 1 0) + count_by (λ end. nat_lt start end) ns) (lt-ltb start n l)

-- commands that begin at a place or behind it all end behind it
pub all_behind : (start place : ℕ) (ks : List (List ℕ)) → AreCommands ks → start ≤ place → count_by (λ end. nat_lt start end) (ends_from place ks) ≡ length ks
all_behind start place [] a l = refl
all_behind start place (k ∷ ks) a l =
    let some = some_bytes a.0.whole in
    let less : start < place + length k = omega arith in
    let rest = all_behind start (place + length k) ks a.1 (omega arith) in
    count_cons start (place + length k) (ends_from (place + length k) ks) less ∙ (ap (λ n. 1 + n) rest ∙ omega arith)

-- the same where the first of them ends behind it
pub first_behind : (start place : ℕ) (k : List ℕ) (ks : List (List ℕ)) → AreCommands (k ∷ ks) → start < place + length k → count_by (λ end. nat_lt start end) (ends_from place (k ∷ ks)) ≡ length (k ∷ ks)
first_behind start place k ks a less =
    let rest = all_behind start (place + length k) ks a.1 (omega arith) in
    count_cons start (place + length k) (ends_from (place + length k) ks) less ∙ (ap (λ n. 1 + n) rest ∙ omega arith)

-- one command that ends behind a place counts
pub count_last : (start : ℕ) (ks : List (List ℕ)) (c : List ℕ) → start < place_of (ks ++ c ∷ []) → count_behind start (ks ++ c ∷ []) ≡ count_behind start ks + 1
count_last start ks c less =
    let e : (0 + length (concat ks)) + length c ≡ place_of (ks ++ c ∷ []) = omega (arith, place_more ks c) in
    let behind : start < (0 + length (concat ks)) + length c = omega arith in
    count_more start 0 ks (c ∷ []) ∙ ap (λ n. count_by (λ end. nat_lt start end) (ends_from 0 ks) + n) (count_cons start ((0 + length (concat ks)) + length c) [] behind)

last_end_at : (start place : ℕ) (ks taken : List (List ℕ)) → place + length (concat ks) ≤ start → ((c : List ℕ) (more : List (List ℕ)) → taken ≡ c ∷ more → start < (place + length (concat ks)) + length c) → last_end_from start place (ks ++ taken) ≡ place + length (concat ks)
last_end_at start place [] [] l first = omega arith
last_end_at start place [] (c ∷ more) l first =
    let f = first c more refl in
    let less : start < place + length c = omega arith in
    rw (lt-leb (place + length c) start less) (omega arith)
last_end_at start place (k ∷ ks) taken l first =
    let e : (place + length k) + length (concat ks) ≡ place + length (k ++ concat ks) = omega (arith, length-append {A = ℕ} k (concat ks)) in
    let within : place + length k ≤ start = omega (arith, length-append {A = ℕ} k (concat ks)) in
    rw (le-leb (place + length k) start within) (last_end_at start (place + length k) ks taken (omega arith) (λ c more f. let g = first c more f in omega arith) ∙ e)

-- where the commands behind a place are taken back, what stays ends at the last end that isn't behind it
pub last_end_is : (start : ℕ) (old new : List (List ℕ)) → IsTakenBack start old new → last_end start old ≡ place_of new
last_end_is start old new h =
    let l = h.within in
    let at = last_end_at start 0 new h.taken (omega arith) (λ c more e. let f = h.first c more e in omega (arith, place_more new c)) in
    ap (last_end start) h.parts ∙ (at ∙ omega arith)

-- commands that end behind `start` were taken back
pub record IsGoingBack (start : ℕ) (old new : List (List ℕ)) : Type 0 where
  pub taken : List (List ℕ)
  pub parts : old ≡ new ++ taken
  pub first : (bytes : List ℕ) (more : List (List ℕ)) → taken ≡ bytes ∷ more → start < place_of (new ++ bytes ∷ [])

pub back_none : (start : ℕ) (old : List (List ℕ)) → IsGoingBack start old old
back_none start old = record { taken = []; parts = sym (append-nil old); first = λ bytes more e. cc }

pub back_one : (start : ℕ) (old now new : List (List ℕ)) (c : List ℕ) → IsGoingBack start old now → now ≡ new ++ c ∷ [] → start < place_of now → IsGoingBack start old new
back_one start old now new c h e l = record {
  taken = c ∷ h.taken;
  parts = h.parts ∙ (ap (λ q. q ++ h.taken) e ∙ append_assoc new (c ∷ []) h.taken);
  first = λ bytes more f.
      let g : c ≡ bytes = cc in
      let k : place_of now ≡ place_of (new ++ bytes ∷ []) = ap place_of e ∙ ap (λ q. place_of (new ++ q ∷ [])) g in
      omega arith;
}

pub back_all : (start : ℕ) (old new : List (List ℕ)) → IsGoingBack start old new → place_of new ≤ start → IsTakenBack start old new
back_all start old new h l = record { taken = h.taken; parts = h.parts; within = l; first = h.first }

-- commands that end at `start` or before aren't among those that were taken back
front_left : (start place : ℕ) (new front behind taken : List (List ℕ)) → front ++ behind ≡ new ++ taken → ((c : List ℕ) (more : List (List ℕ)) → taken ≡ c ∷ more → start < place + place_of (new ++ c ∷ [])) → place + place_of front ≤ start → IsMore front new
front_left start place new [] behind taken e first l = (new, refl)
front_left start place [] (k ∷ front) behind taken e first l =
    let f = first k (front ++ behind) (sym e) in
    absurd (omega (arith, length-append {A = ℕ} k (concat front), length-append {A = ℕ} k []))
front_left start place (n ∷ new) (k ∷ front) behind taken e first l =
    let f : k ≡ n = cc in
    let g : front ++ behind ≡ new ++ taken = cc in
    more_behind k n front new f (front_left start (place + length n) new front behind taken g
    (λ c more i. let j = first c more i in omega (arith, length-append {A = ℕ} n (concat (new ++ c ∷ []))))
    (omega (arith, length-append {A = ℕ} k (concat front), ap length f)))

pub front_stays_kept : (start : ℕ) (old new kept : List (List ℕ)) → IsTakenBack start old new → IsMore new kept → (front behind : List (List ℕ)) → old ≡ front ++ behind → place_of front ≤ start → IsMore front kept
front_stays_kept start old new kept h m front behind e l =
    more_more front new kept (front_left start 0 new front behind h.taken (sym e ∙ h.parts) (λ c more i. let j = h.first c more i in omega arith) (omega arith)) m
