-- The list of choices: a new constant is new, no choice stands there twice, each is right, and every list of different
-- constants is matched by one.
use Rattle.std.proofs.Common.{◌≡◌, ◌≢◌, ◌⊎◌, inl, inr, ℕ, zero, suc, ◌<◌, ◌≤◌, List, [], ◌∷◌, ◌++◌, map, length, Bool, true, false, cond, not, ◌||◌, refl, sym, ◌∙◌, ap, subst, arith}
use Rattle.std.specs.Prelude.{All, AllPairs, Contains, ◌==◌}
use Rattle.std.specs.Cmp.{unsigned_Decides}
use Rattle.std.proofs.Math.Dec.{leb}
use Rattle.std.proofs.lemmas.Bool.{leb-true, leb-false, false≢true, false_from_ne_true, or_left, or_right}
use Rattle.std.proofs.lemmas.List.Elements.{Contains-append_left, Contains-append_right, Contains-append_cases, All-cons, All-nil, All-contains}
use Rattle.std.proofs.lemmas.List.Kept.{AllPairs-cons}
use Rattle.ab_term.specs.Types.{Ty, same_type}
use Rattle.ab_term.specs.Terms.{Nominal}
use Rattle.ab_term.specs.Names.{same_nominal}
use Rattle.ab_term.proofs.Comparisons.{same_nominal-Decides, same_type-Decides}
use Rattle.ab_term.proofs.Lists.{Contains-none, Contains-here, Contains-there, Contains-cases, Contains-map, Contains-from_map, AllPairs-none, AllPairs-parts, AllPairs-map, All-from_contains}
use Rattle.ab_unifiers.specs.Clauses.{Each}
use Rattle.ab_unifiers.specs.Choices.{others, of_type, is_number_of, free_number, for_each, choices, new_constant}
use Rattle.ab_unifiers.proofs.Constants.{either}
use Rattle.ab_unifiers.proofs.Choosing.{kept_contains, contains_kept, kept_pairs, gathered, gathered_from}

-- how many have a number from n on
abbrev from_on : ℕ → List Nominal → ℕ
from_on n [] = 0
from_on n (a ∷ xs) = cond (leb n a.number) (suc (from_on n xs)) (from_on n xs)

from_on-length : (n : ℕ) (xs : List Nominal) → from_on n xs ≤ length xs
from_on-length n [] = omega arith
from_on-length n (a ∷ xs) = go (leb n a.number) (from_on-length n xs)
  where
    go : (b : Bool) → from_on n xs ≤ length xs → cond b (suc (from_on n xs)) (from_on n xs) ≤ suc (length xs)
    go true h = omega (arith, h)
    go false h = omega (arith, h)

from_on-less : (n : ℕ) (xs : List Nominal) → from_on (suc n) xs ≤ from_on n xs
from_on-less n [] = omega arith
from_on-less n (a ∷ xs) = go (leb (suc n) a.number) refl (leb n a.number) refl (from_on-less n xs)
  where
    go : (b : Bool) → leb (suc n) a.number ≡ b → (d : Bool) → leb n a.number ≡ d → from_on (suc n) xs ≤ from_on n xs → cond b (suc (from_on (suc n) xs)) (from_on (suc n) xs) ≤ cond d (suc (from_on n xs)) (from_on n xs)
    go true e true f h = omega (arith, h)
    go true e false f h = absurd (let low = leb-true (suc n) a.number e in let high = leb-false n a.number f in omega (arith, low, high))
    go false e true f h = omega (arith, h)
    go false e false f h = omega (arith, h)

from_on-fewer : (n : ℕ) (xs : List Nominal) → is_number_of xs n ≡ true → from_on (suc n) xs < from_on n xs
from_on-fewer n [] e = absurd (false≢true e)
from_on-fewer n (a ∷ xs) e = go (leb (suc n) a.number) refl (leb n a.number) refl (a.number == n) refl e (from_on-fewer n xs) (from_on-less n xs)
  where
    go : (b : Bool) → leb (suc n) a.number ≡ b → (d : Bool) → leb n a.number ≡ d → (q : Bool) → (a.number == n) ≡ q → (q || is_number_of xs n) ≡ true → (is_number_of xs n ≡ true → from_on (suc n) xs < from_on n xs) → from_on (suc n) xs ≤ from_on n xs
        → cond b (suc (from_on (suc n) xs)) (from_on (suc n) xs) < cond d (suc (from_on n xs)) (from_on n xs)
    go true e1 d f true g h rest less = absurd (let low = leb-true (suc n) a.number e1 in let same = (unsigned_Decides a.number n).0 g in omega (arith, low, same))
    go false e1 true f true g h rest less = omega (arith, less)
    go false e1 false f true g h rest less = absurd (let high = leb-false n a.number f in let same = (unsigned_Decides a.number n).0 g in omega (arith, high, same))
    go true e1 true f false g h rest less = let r = rest h in omega (arith, r)
    go true e1 false f false g h rest less = absurd (let low = leb-true (suc n) a.number e1 in let high = leb-false n a.number f in omega (arith, low, high))
    go false e1 true f false g h rest less = let r = rest h in omega (arith, r)
    go false e1 false f false g h rest less = rest h

free_is_free : (k n : ℕ) (xs : List Nominal) → from_on n xs ≤ k → is_number_of xs (free_number k n xs) ≡ false
free_is_free zero n xs h = false_from_ne_true (is_number_of xs n) (λ e. let f = from_on-fewer n xs e in omega (arith, f, h))
free_is_free (suc k) n xs h = go (is_number_of xs n) refl (λ f. free_is_free k (suc n) xs f)
  where
    go : (b : Bool) → is_number_of xs n ≡ b → (from_on (suc n) xs ≤ k → is_number_of xs (free_number k (suc n) xs) ≡ false) → is_number_of xs (cond b (free_number k (suc n) xs) n) ≡ false
    go true e rest = rest (let f = from_on-fewer n xs e in omega (arith, f, h))
    go false e rest = e

number_there : (xs : List Nominal) (a : Nominal) → Contains xs a → is_number_of xs a.number ≡ true
number_there [] a c = absurd (Contains-none a c)
number_there (b ∷ xs) a c = either (λ e. or_left (b.number == a.number) (is_number_of xs a.number) ((unsigned_Decides b.number a.number).1 (ap (λ z. z.number) e))) (λ m. or_right (b.number == a.number) (is_number_of xs a.number) (number_there xs a m)) (Contains-cases b xs a c)

-- a new constant is new
pub new_is_new : (held : List Nominal) (A : Ty) → ¬ (Contains held (new_constant held A))
new_is_new held A c = false≢true (sym (free_is_free (length held) 1 held (from_on-length 1 held)) ∙ number_there held (new_constant held A) c)

-- how a list of constants, and a choice, go together at a place: the same one of those that are free, or both from
-- outside
abbrev pub Matches : List Nominal → List Nominal → List Nominal → Nominal → Nominal → Type 0
Matches free sequent held n c = (n.type ≡ c.type) × (((n ≡ c) × Contains free n) ⊎ (¬ (Contains sequent n) × ¬ (Contains held c)))

other_there : (a : Nominal) (free : List Nominal) (b : Nominal) → Contains free b → (a ≢ b) → Contains (others a free) b
other_there a free b m n = kept_contains (λ z. not (same_nominal a z)) free b m (ap not (false_from_ne_true (same_nominal a b) (λ e. n ((same_nominal-Decides a b).0 e))))

there_other : (a : Nominal) (free : List Nominal) (b : Nominal) → Contains (others a free) b → Contains free b × (a ≢ b)
there_other a free b m =
    let kept = contains_kept (λ z. not (same_nominal a z)) free b m in
    (kept.0, λ e. false≢true (sym (ap not ((same_nominal-Decides a b).1 e)) ∙ kept.1))

each_more : (free other sequent held more : List Nominal) (a : Nominal) → ((b : Nominal) → Contains other b → Contains free b) → ((b : Nominal) → Contains held b → Contains more b) → (ns cs : List Nominal) → Each (Matches other sequent more) ns cs → Each (Matches free sequent held) ns cs
each_more free other sequent held more a f g [] [] e = tt
each_more free other sequent held more a f g [] (c ∷ cs) e = absurd e
each_more free other sequent held more a f g (n ∷ ns) [] e = absurd e
each_more free other sequent held more a f g (n ∷ ns) (c ∷ cs) e = ((e.0.0, either (λ l. inl (l.0, f n l.1)) (λ r. inr (r.0, λ m. r.1 (g c m))) e.0.1), each_more free other sequent held more a f g ns cs e.1)

-- a constant that is taken differs from those chosen behind it
all_other : (free sequent held : List Nominal) (a : Nominal) (ns cs : List Nominal) → Each (Matches (others a free) sequent (a ∷ held)) ns cs → All (λ c. a ≢ c) cs
all_other free sequent held a [] [] e = All-nil (λ c. a ≢ c)
all_other free sequent held a [] (c ∷ cs) e = absurd e
all_other free sequent held a (n ∷ ns) [] e = absurd e
all_other free sequent held a (n ∷ ns) (c ∷ cs) e = All-cons (λ c. a ≢ c) c cs
    (either (λ l q. (there_other a free n l.1).1 (q ∙ sym l.0)) (λ r q. r.1 (subst (Contains (a ∷ held)) q (Contains-here a held))) e.0.1)
    (all_other free sequent held a ns cs e.1)

abbrev Found : List Ty → List Nominal → List Nominal → List Nominal → List Nominal → Type 0
Found As free sequent held ns = (cs : List Nominal) × Contains (choices As free held) cs × AllPairs (λ a b. a ≢ b) cs × Each (Matches free sequent held) ns cs

-- a first constant, and then others
first_found : (A : Ty) (As : List Ty) (free sequent held ns : List Nominal) (n a : Nominal) → Contains (of_type A free ++ new_constant held A ∷ []) a → n.type ≡ a.type
    → ((n ≡ a) × Contains free n) ⊎ (¬ (Contains sequent n) × ¬ (Contains held a)) → Found As (others a free) sequent (a ∷ held) ns → Found (A ∷ As) free sequent held (n ∷ ns)
first_found A As free sequent held ns n a m t how r = (
  a ∷ r.0,
  gathered (λ b. map (λ l. b ∷ l) (choices As (others b free) (b ∷ held))) (of_type A free ++ new_constant held A ∷ []) a (a ∷ r.0) m (Contains-map (λ l. a ∷ l) (choices As (others a free) (a ∷ held)) r.0 r.1),
  AllPairs-cons (λ a b. a ≢ b) a r.0 (all_other free sequent held a ns r.0 r.3) r.2,
  ((t, how), each_more free (others a free) sequent held (a ∷ held) a (λ b k. (there_other a free b k).0) (λ b k. Contains-there a held b k) ns r.0 r.3),
)

-- EVERY LIST OF DIFFERENT CONSTANTS of these types, each free or outside the sequent, is matched by a choice
pub matched : (As : List Ty) (free sequent held : List Nominal) → ((b : Nominal) → Contains free b → Contains held b) → ((b : Nominal) → Contains sequent b → Contains held b)
    → (ns : List Nominal) → map (λ a. a.type) ns ≡ As → AllPairs (λ a b. a ≢ b) ns → ((n : Nominal) → Contains ns n → Contains free n ⊎ ¬ (Contains sequent n))
    → Found As free sequent held ns
matched [] free sequent held f s [] t d w = ([], Contains-here [] [], AllPairs-none (λ a b. a ≢ b), tt)
matched [] free sequent held f s (n ∷ ns) t d w = absurd (cc)
matched (A ∷ As) free sequent held f s [] t d w = absurd (cc)
matched (A ∷ As) free sequent held f s (n ∷ ns) t d w =
    let type : n.type ≡ A = cc in
    let rest : map (λ a. a.type) ns ≡ As = cc in
    let parts = AllPairs-parts (λ a b. a ≢ b) n ns d in
    let new : Nominal = new_constant held A in
    either
    (λ m. first_found A As free sequent held ns n n (Contains-append_left (of_type A free) (new ∷ []) n (kept_contains (λ a. same_type a.type A) free n m ((same_type-Decides n.type A).1 type))) refl (inl (refl, m))
    (matched As (others n free) sequent (n ∷ held) (λ b k. Contains-there n held b (f b (there_other n free b k).0)) (λ b k. Contains-there n held b (s b k)) ns rest parts.1
    (λ b k. either (λ o. inl (other_there n free b o (All-contains (λ c. n ≢ c) ns b parts.0 k))) (λ o. inr o) (w b (Contains-there n ns b k)))))
    (λ o. first_found A As free sequent held ns n new (Contains-append_right (of_type A free) (new ∷ []) new (Contains-here new [])) type (inr (o, new_is_new held A))
    (matched As (others new free) sequent (new ∷ held) (λ b k. Contains-there new held b (f b (there_other new free b k).0)) (λ b k. Contains-there new held b (s b k)) ns rest parts.1
    (λ b k. either (λ p. inl (other_there new free b p (λ e. new_is_new held A (subst (Contains held) (sym e) (f b p))))) (λ p. inr p) (w b (Contains-there n ns b k)))))
    (w n (Contains-here n ns))

-- each choice is one: different constants of these types, each free or new
pub choice_right : (As : List Ty) (free held : List Nominal) → ((b : Nominal) → Contains free b → Contains held b) → (cs : List Nominal) → Contains (choices As free held) cs
    → (map (λ a. a.type) cs ≡ As) × AllPairs (λ a b. a ≢ b) cs × ((c : Nominal) → Contains cs c → Contains free c ⊎ ¬ (Contains held c))
choice_right [] free held f cs m = either
    (λ e. subst (λ cs. (map (λ a. a.type) cs ≡ []) × AllPairs (λ a b. a ≢ b) cs × ((c : Nominal) → Contains cs c → Contains free c ⊎ ¬ (Contains held c))) e (refl, AllPairs-none (λ a b. a ≢ b), λ c k. absurd (Contains-none c k)))
    (λ n. absurd (Contains-none cs n)) (Contains-cases [] [] cs m)
choice_right (A ∷ As) free held f cs m =
    let new : Nominal = new_constant held A in
    let where_from = gathered_from (λ b. map (λ l. b ∷ l) (choices As (others b free) (b ∷ held))) (of_type A free ++ new ∷ []) cs m in
    let a : Nominal = where_from.0 in
    let tail = Contains-from_map (λ l. a ∷ l) (choices As (others a free) (a ∷ held)) cs where_from.2 in
    let right = choice_right As (others a free) (a ∷ held) (λ b k. Contains-there a held b (f b (there_other a free b k).0)) tail.0 tail.1 in
    let head : (a.type ≡ A) × (Contains free a ⊎ ¬ (Contains held a)) = either
    (λ k. let kept = contains_kept (λ z. same_type z.type A) free a k in ((same_type-Decides a.type A).0 kept.1, inl kept.0))
    (λ k. either (λ e. (ap (λ z. z.type) (sym e), inr (subst (λ z. ¬ (Contains held z)) e (new_is_new held A)))) (λ n. absurd (Contains-none a n)) (Contains-cases new [] a k))
    (Contains-append_cases (of_type A free) (new ∷ []) a where_from.1) in
    subst (λ cs. (map (λ a. a.type) cs ≡ A ∷ As) × AllPairs (λ a b. a ≢ b) cs × ((c : Nominal) → Contains cs c → Contains free c ⊎ ¬ (Contains held c))) tail.2 (
      ap (λ l. l ∷ map (λ a. a.type) tail.0) head.0 ∙ ap (λ l. A ∷ l) right.0,
      AllPairs-cons (λ a b. a ≢ b) a tail.0 (All-from_contains (λ c. a ≢ c) tail.0 (λ c k e. either (λ o. (there_other a free c o).1 e) (λ o. o (subst (Contains (a ∷ held)) e (Contains-here a held))) (right.2 c k))) right.1,
      λ c k. either (λ e. subst (λ z. Contains free z ⊎ ¬ (Contains held z)) e head.1) (λ n. either (λ o. inl (there_other a free c o).0) (λ o. inr (λ h. o (Contains-there a held c h))) (right.2 c n)) (Contains-cases a tail.0 c k),
    )

append_pairs : {X : Type 0} (R : X → X → Type 0) (xs ys : List X) → AllPairs R xs → AllPairs R ys → ((a b : X) → Contains xs a → Contains ys b → R a b) → AllPairs R (xs ++ ys)
append_pairs R [] ys d e f = e
append_pairs R (x ∷ xs) ys d e f =
    let parts = AllPairs-parts R x xs d in
    AllPairs-cons R x (xs ++ ys)
    (All-from_contains (R x) (xs ++ ys) (λ b m. either (λ k. All-contains (R x) xs b parts.0 k) (λ k. f x b (Contains-here x xs) k) (Contains-append_cases xs ys b m)))
    (append_pairs R xs ys parts.1 e (λ a b m k. f a b (Contains-there x xs a m) k))

gathered_pairs : {X Y : Type 0} (R : Y → Y → Type 0) (f : X → List Y) (xs : List X) → AllPairs (λ a b. a ≢ b) xs → ((a : X) → AllPairs R (f a)) → ((a b : X) → a ≢ b → (y z : Y) → Contains (f a) y → Contains (f b) z → R y z) → AllPairs R (for_each f xs)
gathered_pairs R f [] d own cross = AllPairs-none R
gathered_pairs R f (x ∷ xs) d own cross =
    let parts = AllPairs-parts (λ a b. a ≢ b) x xs d in
    append_pairs R (f x) (for_each f xs) (own x) (gathered_pairs R f xs parts.1 own cross)
    (λ y z m k. let r = gathered_from f xs z k in cross x r.0 (All-contains (λ b. x ≢ b) xs r.0 parts.0 r.1) y z m r.2)

same_heads : (a b : Nominal) (xs ys : List Nominal) → a ∷ xs ≡ b ∷ ys → a ≡ b
same_heads a b xs ys e = cc

same_tails : (a b : Nominal) (xs ys : List Nominal) → a ∷ xs ≡ b ∷ ys → xs ≡ ys
same_tails a b xs ys e = cc

-- NO CHOICE STANDS THERE TWICE
pub choices_different : (As : List Ty) (free held : List Nominal) → ((b : Nominal) → Contains free b → Contains held b) → AllPairs (λ a b. a ≢ b) free → AllPairs (λ xs ys. xs ≢ ys) (choices As free held)
choices_different [] free held f d = AllPairs-cons (λ xs ys. xs ≢ ys) [] [] (All-nil (λ ys. [] ≢ ys)) (AllPairs-none (λ xs ys. xs ≢ ys))
choices_different (A ∷ As) free held f d =
    let new : Nominal = new_constant held A in
    gathered_pairs (λ xs ys. xs ≢ ys) (λ b. map (λ l. b ∷ l) (choices As (others b free) (b ∷ held))) (of_type A free ++ new ∷ [])
    (append_pairs (λ a b. a ≢ b) (of_type A free) (new ∷ []) (kept_pairs (λ a. same_type a.type A) (λ a b. a ≢ b) free d) (AllPairs-cons (λ a b. a ≢ b) new [] (All-nil (λ b. new ≢ b)) (AllPairs-none (λ a b. a ≢ b)))
    (λ a b m k e. either (λ q. new_is_new held A (f new (subst (Contains free) (e ∙ sym q) (contains_kept (λ z. same_type z.type A) free a m).0))) (λ n. Contains-none b n) (Contains-cases new [] b k)))
    (λ a. AllPairs-map (λ l. a ∷ l) (λ xs ys. xs ≢ ys) (choices As (others a free) (a ∷ held))
    (λ i j e l m q. choices_different As (others a free) (a ∷ held) (λ b k. Contains-there a held b (f b (there_other a free b k).0)) (kept_pairs (λ z. not (same_nominal a z)) (λ a b. a ≢ b) free d) i j e l m (same_tails a a _ _ q)))
    (λ a b n xs ys m k e. let p = Contains-from_map (λ l. a ∷ l) (choices As (others a free) (a ∷ held)) xs m in let q = Contains-from_map (λ l. b ∷ l) (choices As (others b free) (b ∷ held)) ys k in n (same_heads a b p.0 q.0 (p.2 ∙ e ∙ sym q.2)))
