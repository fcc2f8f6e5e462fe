-- The lists of images of some constants, and their maps, one behind another.
use Rattle.std.proofs.Common.{◌≡◌, ◌≢◌, ◌⊎◌, inl, inr, ℕ, zero, suc, List, [], ◌∷◌, ◌++◌, map, filter, drop, Bool, true, false, cond, not, ◌&&◌, Option, Some, None, refl, sym, ◌∙◌, ap, subst}
use Rattle.std.specs.Prelude.{AllPairs, Contains, slice_get, option_map}
use Rattle.std.specs.Option.{option_or}
use Rattle.std.proofs.lemmas.Bool.{false≢true, and_parts}
use Rattle.std.proofs.lemmas.List.Elements.{All-contains}
use Rattle.std.proofs.lemmas.Option.{none-some, same_Some}
use Rattle.ab_term.specs.Types.{Ty, same_type}
use Rattle.ab_term.specs.Terms.{Nominal}
use Rattle.ab_term.specs.Names.{same_nominal}
use Rattle.ab_term.proofs.Lists.{Contains-here, Contains-there, AllPairs-parts}
use Rattle.ab_term.proofs.Comparisons.{same_nominal-Decides}
use Rattle.ab_unifiers.specs.Choices.{others, of_type, for_each}
use Rattle.ab_search_trees.specs.Maps.{images_in, same_constants, targets}
use Rattle.ab_search_ways.specs.MapSteps.{IsNextOf, IsLookedAt, behind, images_beginning}

-- ANY LIST

first_of_both : {X : Type 0} (xs ys : List X) → slice_get (xs ++ ys) 0 ≡ option_or (slice_get xs 0) (slice_get ys 0)
first_of_both [] ys = refl
first_of_both (x ∷ xs) ys = refl

-- an item of two lists stands in the first, and what is behind it is there or begins the second; or it stands in the second
next_of_both : {X : Type 0} (xs ys : List X) (i : ℕ) (x : X) → slice_get (xs ++ ys) i ≡ Some x
    → ((slice_get xs i ≡ Some x) × (slice_get (xs ++ ys) (suc i) ≡ option_or (slice_get xs (suc i)) (slice_get ys 0)))
    ⊎ ((j : ℕ) × (slice_get ys j ≡ Some x) × (slice_get (xs ++ ys) (suc i) ≡ slice_get ys (suc j)))
next_of_both [] ys i x e = inr (i, e, refl)
next_of_both (z ∷ xs) ys zero x e = inl (e, first_of_both xs ys)
next_of_both (z ∷ xs) ys (suc i) x e = next_of_both xs ys i x e

pub of_map : {X Y : Type 0} (f : X → Y) (xs : List X) (i : ℕ) → slice_get (map f xs) i ≡ option_map f (slice_get xs i)
of_map f [] i = refl
of_map f (x ∷ xs) zero = refl
of_map f (x ∷ xs) (suc i) = of_map f xs i

-- an item that was made of one
from_map : {X Y : Type 0} (f : X → Y) (o : Option X) (y : Y) → option_map f o ≡ Some y → (x : X) × (o ≡ Some x) × (f x ≡ y)
from_map f None y e = absurd (none-some y e)
from_map f (Some x) y e = (x, refl, same_Some (f x) y e)

-- an item isn't always behind itself
never_itself : {X : Type 0} (xs : List X) (k : ℕ) (x : X) → slice_get xs k ≡ Some x → IsNextOf xs x (Some x) → ⊥
never_itself [] k x e next = none-some x e
never_itself (y ∷ ys) zero x e next = never_itself ys zero x (next zero e) (λ i q. next (suc i) q)
never_itself (y ∷ ys) (suc k) x e next = never_itself ys k x e (λ i q. next (suc i) q)

-- LISTS THAT BEGIN WITH ONE OF SOME CONSTANTS

module _ (F : Nominal → List (List Nominal)) (A : Ty) where
  abbrev pub beginning : List Nominal → List (List Nominal)
  beginning cs = for_each (λ a. map (λ ns. a ∷ ns) (F a)) (of_type A cs)

  -- the first of them
  pub first_beginning : (c : Nominal) (cs : List Nominal) → same_type c.type A ≡ true
      → slice_get (beginning (c ∷ cs)) 0 ≡ option_or (option_map (λ ns. c ∷ ns) (slice_get (F c) 0)) (slice_get (beginning cs) 0)
  first_beginning c cs t =
      ap (λ b. slice_get (for_each (λ a. map (λ ns. a ∷ ns) (F a)) (cond b (c ∷ of_type A cs) (of_type A cs))) 0) t
      ∙ first_of_both (map (λ ns. c ∷ ns) (F c)) (beginning cs)
      ∙ ap (λ o. option_or o (slice_get (beginning cs) 0)) (of_map (λ ns. c ∷ ns) (F c) 0)

  pub none_beginning : (c : Nominal) (cs : List Nominal) → same_type c.type A ≡ false → beginning (c ∷ cs) ≡ beginning cs
  none_beginning c cs t = ap (λ b. for_each (λ a. map (λ ns. a ∷ ns) (F a)) (cond b (c ∷ of_type A cs) (of_type A cs))) t

  -- what one of them begins with
  parts_of : (c a : Nominal) (ns : List Nominal) (i : ℕ) → slice_get (map (λ ms. c ∷ ms) (F c)) i ≡ Some (a ∷ ns) → (c ≡ a) × (slice_get (F c) i ≡ Some ns)
  parts_of c a ns i e =
      let was = from_map (λ ms. c ∷ ms) (slice_get (F c) i) (a ∷ ns) (sym (of_map (λ ms. c ∷ ms) (F c) i) ∙ e) in
      let same = cons_parts c a was.0 ns was.2 in
      (same.0, was.1 ∙ ap Some same.1)
    where
      first_or : Nominal → List Nominal → Nominal
      first_or d [] = d
      first_or d (x ∷ xs) = x

      rest_of : List Nominal → List Nominal
      rest_of [] = []
      rest_of (x ∷ xs) = xs

      cons_parts : (x y : Nominal) (xs ys : List Nominal) → ◌≡◌ {A = List Nominal} (x ∷ xs) (y ∷ ys) → (x ≡ y) × (xs ≡ ys)
      cons_parts x y xs ys q = (ap (first_or x) q, ap rest_of q)

  stands_there : (cs : List Nominal) (a : Nominal) (ns : List Nominal) (i : ℕ) → slice_get (beginning cs) i ≡ Some (a ∷ ns) → Contains cs a
  stands_there [] a ns i e = absurd (none-some _ e)
  stands_there (c ∷ cs) a ns i e = go (stands_there cs a ns) (same_type c.type A) e
    where
      go : ((j : ℕ) → slice_get (beginning cs) j ≡ Some (a ∷ ns) → Contains cs a) → (b : Bool) → slice_get (for_each (λ a. map (λ ns. a ∷ ns) (F a)) (cond b (c ∷ of_type A cs) (of_type A cs))) i ≡ Some (a ∷ ns) → Contains (c ∷ cs) a
      go rest false q = Contains-there c cs a (rest i q)
      go rest true q = elim (next_of_both (map (λ ms. c ∷ ms) (F c)) (beginning cs) i (a ∷ ns) q) [
        | inl l ↦ subst (Contains (c ∷ cs)) (parts_of c a ns i l.0).0 (Contains-here c cs)
        | inr r ↦ Contains-there c cs a (rest r.0 r.1)
      ]

  -- behind the constant
  behind_it : (c a : Nominal) (cs : List Nominal) → c ≡ a → behind a (c ∷ cs) ≡ cs
  behind_it c a cs e = ap (λ b. cond b cs (behind a cs)) ((same_nominal-Decides c a).1 e)

  behind_other : (c a : Nominal) (cs : List Nominal) → c ≢ a → behind a (c ∷ cs) ≡ behind a cs
  behind_other c a cs n = go (same_nominal c a) refl
    where
      go : (b : Bool) → same_nominal c a ≡ b → cond b cs (behind a cs) ≡ behind a cs
      go true e = absurd (n ((same_nominal-Decides c a).0 e))
      go false e = refl

  -- WHAT IS BEHIND ONE OF THEM: of those that begin with the same constant the next, or else the first that begins with one
  -- behind that
  pub next_beginning : (cs : List Nominal) (a : Nominal) (ns : List Nominal) (o : Option (List Nominal)) → AllPairs (λ x y. x ≢ y) cs → IsNextOf (F a) ns o
      → (i : ℕ) → slice_get (beginning cs) i ≡ Some (a ∷ ns)
      → slice_get (beginning cs) (suc i) ≡ option_or (option_map (λ ms. a ∷ ms) o) (slice_get (beginning (behind a cs)) 0)
  next_beginning [] a ns o once next i e = absurd (none-some _ e)
  next_beginning (c ∷ cs) a ns o once next i e =
      let parts = AllPairs-parts (λ x y. x ≢ y) c cs once in
      go (λ j q. All-contains (λ x. c ≢ x) cs a parts.0 (stands_there cs a ns j q)) (next_beginning cs a ns o parts.1 next) (same_type c.type A) e
    where
      go : ((j : ℕ) → slice_get (beginning cs) j ≡ Some (a ∷ ns) → c ≢ a)
          → ((j : ℕ) → slice_get (beginning cs) j ≡ Some (a ∷ ns) → slice_get (beginning cs) (suc j) ≡ option_or (option_map (λ ms. a ∷ ms) o) (slice_get (beginning (behind a cs)) 0))
          → (b : Bool) → slice_get (for_each (λ a. map (λ ns. a ∷ ns) (F a)) (cond b (c ∷ of_type A cs) (of_type A cs))) i ≡ Some (a ∷ ns)
          → slice_get (for_each (λ a. map (λ ns. a ∷ ns) (F a)) (cond b (c ∷ of_type A cs) (of_type A cs))) (suc i) ≡ option_or (option_map (λ ms. a ∷ ms) o) (slice_get (beginning (behind a (c ∷ cs))) 0)
      go within rest false q =
          rest i q
          ∙ ap (λ ds. option_or (option_map (λ ms. a ∷ ms) o) (slice_get (beginning ds) 0)) (sym (behind_other c a cs (within i q)))
      go within rest true q = elim (next_of_both (map (λ ms. c ∷ ms) (F c)) (beginning cs) i (a ∷ ns) q) [
        | inl l ↦
            let p = parts_of c a ns i l.0 in
            l.1
            ∙ ap (λ r. option_or r (slice_get (beginning cs) 0))
            (of_map (λ ms. c ∷ ms) (F c) (suc i)
            ∙ ap (λ x. option_map (λ ms. x ∷ ms) (slice_get (F x) (suc i))) p.0
            ∙ ap (option_map (λ ms. a ∷ ms)) (next i (subst (λ x. slice_get (F x) i ≡ Some ns) p.0 p.1)))
            ∙ ap (λ ds. option_or (option_map (λ ms. a ∷ ms) o) (slice_get (beginning ds) 0)) (sym (behind_it c a cs p.0))
        | inr r ↦
            r.2
            ∙ rest r.0 r.1
            ∙ ap (λ ds. option_or (option_map (λ ms. a ∷ ms) o) (slice_get (beginning ds) 0)) (sym (behind_other c a cs (within r.0 r.1)))
      ]

-- IMAGES

-- the images of one constant and of others
pub next_images : (b : Nominal) (bs free : List Nominal) (a : Nominal) (ns : List Nominal) (o : Option (List Nominal)) → AllPairs (λ x y. x ≢ y) free → IsNextOf (images_in bs (others a free)) ns o
    → IsNextOf (images_in (b ∷ bs) free) (a ∷ ns) (option_or (option_map (λ ms. a ∷ ms) o) (slice_get (images_beginning b bs free (behind a free)) 0))
next_images b bs free a ns o once next = next_beginning (λ x. images_in bs (others x free)) b.type free a ns o once next

-- of nothing
pub next_of_none : (free ns : List Nominal) → IsNextOf (images_in [] free) ns None
next_of_none free ns zero e = refl
next_of_none free ns (suc i) e = refl

-- each begins with a constant
pub nothing_begins : (b : Nominal) (bs free : List Nominal) (o : Option (List Nominal)) → IsNextOf (images_in (b ∷ bs) free) [] o
nothing_begins b bs free o i e = absurd (go (of_type b.type free) i e)
  where
    F : Nominal → List (List Nominal)
    F a = images_in bs (others a free)

    go : (cs : List Nominal) (j : ℕ) → slice_get (for_each (λ a. map (λ ns. a ∷ ns) (F a)) cs) j ≡ Some [] → ⊥
    go [] j q = none-some _ q
    go (c ∷ cs) j q = elim (next_of_both (map (λ ns. c ∷ ns) (F c)) (for_each (λ a. map (λ ns. a ∷ ns) (F a)) cs) j [] q) [
      | inl l ↦ let was = from_map (λ ns. c ∷ ns) (slice_get (F c) j) [] (sym (of_map (λ ns. c ∷ ns) (F c) j) ∙ l.0) in absurd (cc)
      | inr r ↦ go cs r.0 r.1
    ]

-- THE LIST OF TARGETS: some constants themselves, and then the images that differ from them

itself : (bs : List Nominal) → same_constants bs bs ≡ true
itself [] = refl
itself (b ∷ bs) = ap (λ t. t && same_constants bs bs) ((same_nominal-Decides b b).1 refl) ∙ itself bs

alike : (as_ bs : List Nominal) → same_constants as_ bs ≡ true → as_ ≡ bs
alike [] [] e = refl
alike [] (b ∷ bs) e = absurd (false≢true e)
alike (a ∷ as_) [] e = absurd (false≢true e)
alike (a ∷ as_) (b ∷ bs) e =
    let parts = and_parts (same_nominal a b) (same_constants as_ bs) e in
    let first = (same_nominal-Decides a b).0 parts.0 in
    let rest = alike as_ bs parts.1 in
    λ i. first i ∷ rest i

module _ {X : Type 0} (p : X → Bool) where
  kept_there : (xs : List X) (i : ℕ) (x : X) → slice_get (filter p xs) i ≡ Some x → p x ≡ true
  kept_there [] i x e = absurd (none-some _ e)
  kept_there (y ∷ ys) i x e = go (λ j q. kept_there ys j x q) (p y) refl i e
    where
      go : ((j : ℕ) → slice_get (filter p ys) j ≡ Some x → p x ≡ true) → (b : Bool) → p y ≡ b → (j : ℕ) → slice_get (cond b (y ∷ filter p ys) (filter p ys)) j ≡ Some x → p x ≡ true
      go rest true t zero q = ap p (sym (same_Some y x q)) ∙ t
      go rest true t (suc j) q = rest j q
      go rest false t j q = rest j q

  -- what is behind an item that is kept is the first that is kept behind it
  kept_next : (xs : List X) (i : ℕ) (x : X) → slice_get (filter p xs) i ≡ Some x → (k : ℕ) × (slice_get xs k ≡ Some x) × (slice_get (filter p xs) (suc i) ≡ slice_get (filter p (drop (suc k) xs)) 0)
  kept_next [] i x e = absurd (none-some _ e)
  kept_next (y ∷ ys) i x e = go (λ j q. kept_next ys j x q) (p y) i e
    where
      go : ((j : ℕ) → slice_get (filter p ys) j ≡ Some x → (k : ℕ) × (slice_get ys k ≡ Some x) × (slice_get (filter p ys) (suc j) ≡ slice_get (filter p (drop (suc k) ys)) 0))
          → (b : Bool) (j : ℕ) → slice_get (cond b (y ∷ filter p ys) (filter p ys)) j ≡ Some x
          → (k : ℕ) × (slice_get (y ∷ ys) k ≡ Some x) × (slice_get (cond b (y ∷ filter p ys) (filter p ys)) (suc j) ≡ slice_get (filter p (drop (suc k) (y ∷ ys))) 0)
      go rest true zero q = (0, q, refl)
      go rest true (suc j) q = let r = rest j q in (suc r.0, r.1, r.2)
      go rest false j q = let r = rest j q in (suc r.0, r.1, r.2)

  first_kept : (xs : List X) (k : ℕ) (o : Option X) → slice_get xs k ≡ o → ((x : X) → o ≡ Some x → p x ≡ true) → slice_get (filter p (drop k xs)) 0 ≡ o
  first_kept [] zero o e f = e
  first_kept [] (suc k) o e f = e
  first_kept (y ∷ ys) zero o e f = ap (λ b. slice_get (cond b (y ∷ filter p ys) (filter p ys)) 0) (f y (sym e)) ∙ e
  first_kept (y ∷ ys) (suc k) o e f = first_kept ys k o e f

  first_skipped : (xs : List X) (k : ℕ) (x : X) → slice_get xs k ≡ Some x → p x ≡ false → slice_get (filter p (drop k xs)) 0 ≡ slice_get (filter p (drop (suc k) xs)) 0
  first_skipped [] k x e n = absurd (none-some _ e)
  first_skipped (y ∷ ys) zero x e n = ap (λ b. slice_get (cond b (y ∷ filter p ys) (filter p ys)) 0) (ap p (same_Some y x e) ∙ n)
  first_skipped (y ∷ ys) (suc k) x e n = first_skipped ys k x e n

module _ (bs free : List Nominal) where
  abbrev images : List (List Nominal)
  images = images_in bs free

  abbrev differs : List Nominal → Bool
  differs ns = not (same_constants bs ns)

  other_differs : (l : List Nominal) → l ≢ bs → differs l ≡ true
  other_differs l n = go (same_constants bs l) refl
    where
      go : (b : Bool) → same_constants bs l ≡ b → not b ≡ true
      go true e = absurd (n (sym (alike bs l e)))
      go false e = refl

  itself_not : differs bs ≡ false
  itself_not = ap not (itself bs)

  is_or_not : (now : List Nominal) → (now ≡ bs) ⊎ (now ≢ bs)
  is_or_not now = go (same_constants bs now) refl
    where
      go : (b : Bool) → same_constants bs now ≡ b → (now ≡ bs) ⊎ (now ≢ bs)
      go true e = inl (sym (alike bs now e))
      go false e = inr (λ q. false≢true (sym e ∙ ap (same_constants bs) q ∙ itself bs))

  -- where it stands among the images, from which place on
  place_from : (now : List Nominal) (o : Option (List Nominal)) → IsLookedAt bs free now o → (i : ℕ) → slice_get (targets bs free) i ≡ Some now
      → (k : ℕ) × (slice_get images k ≡ o) × (slice_get (targets bs free) (suc i) ≡ slice_get (filter differs (drop k images)) 0)
  place_from now o look i e = elim (is_or_not now) [ inl q ↦ at i q e | inr n ↦ behind_one i n e ]
    where
      at : (j : ℕ) → now ≡ bs → slice_get (targets bs free) j ≡ Some now → (k : ℕ) × (slice_get images k ≡ o) × (slice_get (targets bs free) (suc j) ≡ slice_get (filter differs (drop k images)) 0)
      at zero q f = (0, sym (look.first q), refl)
      at (suc j) q f = absurd (false≢true (sym itself_not ∙ ap differs (sym q) ∙ kept_there differs images j now f))

      behind_one : (j : ℕ) → now ≢ bs → slice_get (targets bs free) j ≡ Some now → (k : ℕ) × (slice_get images k ≡ o) × (slice_get (targets bs free) (suc j) ≡ slice_get (filter differs (drop k images)) 0)
      behind_one zero n f = absurd (n (sym (same_Some bs now f)))
      behind_one (suc j) n f = let r = kept_next differs images j now f in (suc r.0, look.next n r.0 r.1, r.2)

  -- it is the next target, if it isn't the constants themselves
  pub next_target : (now : List Nominal) (o : Option (List Nominal)) → IsLookedAt bs free now o → ((l : List Nominal) → o ≡ Some l → l ≢ bs) → IsNextOf (targets bs free) now o
  next_target now o look n i e =
      let r = place_from now o look i e in
      r.2 ∙ first_kept differs images r.0 o r.1 (λ l q. other_differs l (n l q))

  -- and else the one behind it is
  pub next_but_one : (now : List Nominal) (o : Option (List Nominal)) → IsLookedAt bs free now (Some bs) → IsNextOf images bs o → IsNextOf (targets bs free) now o
  next_but_one now o look next i e =
      let r = place_from now (Some bs) look i e in
      r.2
      ∙ first_skipped differs images r.0 bs r.1 itself_not
      ∙ first_kept differs images (suc r.0) o (next r.0 r.1)
      (λ l q. other_differs l (λ s. never_itself images r.0 bs r.1 (subst (IsNextOf images bs) (q ∙ ap Some s) next)))
