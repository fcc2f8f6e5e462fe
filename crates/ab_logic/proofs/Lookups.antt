-- What the noted places lead to is what the list has.
use Rattle.std.specs.Prelude.{IfSome, slice_get}
use Rattle.std.specs.Option.{option_map, option_and_then}
use Rattle.std.specs.Cmp.Lexicographic.{pointwise}
use Rattle.std.specs.Map.{lookup}
use Rattle.std.specs.List.{All}
use Rattle.std.proofs.Common.{◌≡◌, ◌⊎◌, inl, inr, ℕ, zero, suc, ◌+◌, ◌<◌, ◌||◌, nat_eq, Bool, true, false, cond, if◌then◌else◌, Option, Some, None, List, [], ◌∷◌, ◌++◌, map, take, drop, length, bytes_eq, refl, sym, ◌∙◌, ap, subst, arith, append_assoc, append-nil, length-append}
use Rattle.std.proofs.lemmas.Bool.Decides.{Decides-eqb}
use Rattle.std.proofs.lemmas.List.{take-append-drop}
use Rattle.std.proofs.lemmas.List.Elements.{All-head, All-tail}
use Rattle.indexmap.specs.IndexMap.{IndexMap, insert_entry}
use Rattle.indexmap.proofs.CallerLemmas.{insert_entry-new}
use Rattle.ab_store.specs.ab_types.specs.declared.ids.ConstId.{ConstId}
use Rattle.ab_store.specs.declared.node.TermId.{TermId}
use Rattle.ab_typing.specs.declared.definitions.Block.{Block}
use Rattle.ab_typing.specs.declared.definitions.ClauseTerm.{ClauseTerm}
use Rattle.ab_logic.specs.Additions.{entry_or, entry_in, entries_with, entries_of, same_constant, is_among, block_or, block_kept, as_theorem, as_clause, as_block, theorem_at_place, clause_at_place, block_at_place, places_with, places_from, place_or, block_place, if_there, checked, head_place, head_places, clause_places, IsFiled}
use Rattle.ab_logic.specs.declared.additions.Added.{Added}
use Rattle.ab_logic.specs.declared.additions.Addition.{Addition}
use Rattle.ab_logic.specs.declared.additions.Addition.TheVariants.{Theorem, Definition, Clause}
use Rattle.ab_logic.specs.declared.additions.TheoremEntry.{TheoremEntry}
use Rattle.ab_logic.proofs.ClausePlaces.{one_more}

-- elements of a list, by their places

element_here : {X : Type 0} (front : List X) (x : X) (xs : List X) → slice_get (front ++ x ∷ xs) (length front) ≡ Some x
element_here [] x xs = refl
element_here (y ∷ front) x xs = element_here front x xs

element_before : {X : Type 0} (xs ys : List X) (i : ℕ) → i < length xs → slice_get (xs ++ ys) i ≡ slice_get xs i
element_before [] ys i l = absurd (omega (arith, l))
element_before (x ∷ xs) ys zero l = refl
element_before (x ∷ xs) ys (suc i) l = element_before xs ys i (omega (arith, l))

theorem_here : (front : List Added) (a : Added) (xs : List Added) → theorem_at_place (front ++ a ∷ xs) (length front) ≡ as_theorem a.what
theorem_here front a xs = ap (option_and_then (λ (b : Added). as_theorem b.what)) (element_here front a xs)

one_longer : (front : List Added) (a : Added) → length (front ++ a ∷ []) ≡ suc (length front)
one_longer front a = length-append front (a ∷ []) ∙ omega arith

-- theorems by name

by_test : {X Y : Type 0} (f : X → Option Y) (b : Bool) (x : X) (y : Y) (rest : Option X) (later : Option Y) → f x ≡ Some y → option_and_then f rest ≡ later
    → option_and_then f (cond b (Some x) rest) ≡ (if b then Some y else later)
by_test f true x y rest later here e = here
by_test f false x y rest later here e = e

found_from : (k : List ℕ) (front xs : List Added) → option_and_then (theorem_at_place (front ++ xs)) (lookup (pointwise nat_eq k) (places_from (length front) xs)) ≡ entry_in xs k
found_from k front [] = refl
found_from k front (a ∷ xs) = go a.what (theorem_here front a xs) (later (found_from k (front ++ a ∷ []) xs))
  where
    later : option_and_then (theorem_at_place ((front ++ a ∷ []) ++ xs)) (lookup (pointwise nat_eq k) (places_from (length (front ++ a ∷ [])) xs)) ≡ entry_in xs k
        → option_and_then (theorem_at_place (front ++ a ∷ xs)) (lookup (pointwise nat_eq k) (places_from (suc (length front)) xs)) ≡ entry_in xs k
    later rest =
        ap (λ (zs : List Added). option_and_then (theorem_at_place zs) (lookup (pointwise nat_eq k) (places_from (suc (length front)) xs))) (sym (append_assoc front (a ∷ []) xs))
        ∙ ap (λ n. option_and_then (theorem_at_place ((front ++ a ∷ []) ++ xs)) (lookup (pointwise nat_eq k) (places_from n xs))) (sym (one_longer front a))
        ∙ rest

    go : (what : Addition) → theorem_at_place (front ++ a ∷ xs) (length front) ≡ as_theorem what
        → option_and_then (theorem_at_place (front ++ a ∷ xs)) (lookup (pointwise nat_eq k) (places_from (suc (length front)) xs)) ≡ entry_in xs k
        → option_and_then (theorem_at_place (front ++ a ∷ xs)) (lookup (pointwise nat_eq k) (places_with what (length front) (places_from (suc (length front)) xs))) ≡ entry_or what k (entry_in xs k)
    go (Theorem e) here rest = by_test (theorem_at_place (front ++ a ∷ xs)) (pointwise nat_eq k e.name) (length front) e (lookup (pointwise nat_eq k) (places_from (suc (length front)) xs)) (entry_in xs k) here rest
    go (Definition b) here rest = rest
    go (Clause c h) here rest = rest

pub found : (k : List ℕ) (xs : List Added) (names : List (List ℕ × ℕ)) → names ≡ places_from 0 xs → option_and_then (theorem_at_place xs) (lookup (pointwise nat_eq k) names) ≡ entry_in xs k
found k xs names is = ap (λ es. option_and_then (theorem_at_place xs) (lookup (pointwise nat_eq k) es)) is ∙ found_from k [] xs

-- theorems by their places among theorems

listed_from : (i : ℕ) (front xs : List Added) → option_and_then (λ (p : List ℕ × ℕ). theorem_at_place (front ++ xs) p.1) (slice_get (places_from (length front) xs) i) ≡ slice_get (entries_of xs) i
listed_from i front [] = refl
listed_from i front (a ∷ xs) = go a.what (theorem_here front a xs) (λ j. later j (listed_from j (front ++ a ∷ []) xs)) i
  where
    later : (j : ℕ) → option_and_then (λ (p : List ℕ × ℕ). theorem_at_place ((front ++ a ∷ []) ++ xs) p.1) (slice_get (places_from (length (front ++ a ∷ [])) xs) j) ≡ slice_get (entries_of xs) j
        → option_and_then (λ (p : List ℕ × ℕ). theorem_at_place (front ++ a ∷ xs) p.1) (slice_get (places_from (suc (length front)) xs) j) ≡ slice_get (entries_of xs) j
    later j rest =
        ap (λ (zs : List Added). option_and_then (λ (p : List ℕ × ℕ). theorem_at_place zs p.1) (slice_get (places_from (suc (length front)) xs) j)) (sym (append_assoc front (a ∷ []) xs))
        ∙ ap (λ n. option_and_then (λ (p : List ℕ × ℕ). theorem_at_place ((front ++ a ∷ []) ++ xs) p.1) (slice_get (places_from n xs) j)) (sym (one_longer front a))
        ∙ rest

    go : (what : Addition) → theorem_at_place (front ++ a ∷ xs) (length front) ≡ as_theorem what
        → ((j : ℕ) → option_and_then (λ (p : List ℕ × ℕ). theorem_at_place (front ++ a ∷ xs) p.1) (slice_get (places_from (suc (length front)) xs) j) ≡ slice_get (entries_of xs) j) → (j : ℕ)
        → option_and_then (λ (p : List ℕ × ℕ). theorem_at_place (front ++ a ∷ xs) p.1) (slice_get (places_with what (length front) (places_from (suc (length front)) xs)) j) ≡ slice_get (entries_with what (entries_of xs)) j
    go (Theorem e) here rest zero = here
    go (Theorem e) here rest (suc j) = rest j
    go (Definition b) here rest j = rest j
    go (Clause c h) here rest j = rest j

pub listed : (i : ℕ) (xs : List Added) (names : List (List ℕ × ℕ)) → names ≡ places_from 0 xs → option_and_then (λ (p : List ℕ × ℕ). theorem_at_place xs p.1) (slice_get names i) ≡ slice_get (entries_of xs) i
listed i xs names is = ap (λ (es : List (List ℕ × ℕ)). option_and_then (λ (p : List ℕ × ℕ). theorem_at_place xs p.1) (slice_get es i)) is ∙ listed_from i [] xs

counted_from : (n : ℕ) (xs : List Added) → length (places_from n xs) ≡ length (entries_of xs)
counted_from n [] = refl
counted_from n (a ∷ xs) = go a.what (counted_from (suc n) xs)
  where
    go : (what : Addition) → length (places_from (suc n) xs) ≡ length (entries_of xs) → length (places_with what n (places_from (suc n) xs)) ≡ length (entries_with what (entries_of xs))
    go (Theorem e) rest = ap suc rest
    go (Definition b) rest = rest
    go (Clause c h) rest = rest

pub counted : (xs : List Added) (names : List (List ℕ × ℕ)) → names ≡ places_from 0 xs → length names ≡ length (entries_of xs)
counted xs names is = ap length is ∙ counted_from 0 xs

-- one more at the end

pub places_end : (n : ℕ) (xs : List Added) (a : Added) → places_from n (xs ++ a ∷ []) ≡ places_from n xs ++ places_with a.what (n + length xs) []
places_end n [] a = ap (λ k. places_with a.what k []) (let same : n ≡ n + 0 = omega arith in same)
places_end n (b ∷ xs) a = go b.what (places_end (suc n) xs a ∙ ap (λ k. places_from (suc n) xs ++ places_with a.what k []) (let same : suc n + length xs ≡ n + suc (length xs) = omega arith in same))
  where
    go : (what : Addition) → places_from (suc n) (xs ++ a ∷ []) ≡ places_from (suc n) xs ++ places_with a.what (n + suc (length xs)) []
        → places_with what n (places_from (suc n) (xs ++ a ∷ [])) ≡ places_with what n (places_from (suc n) xs) ++ places_with a.what (n + suc (length xs)) []
    go (Theorem e) rest = ap (λ l. (e.name, n) ∷ l) rest
    go (Definition b) rest = rest
    go (Clause c h) rest = rest

kept_end : (xs : List Added) (a : Added) (p : ConstId) → as_block a.what p ≡ None → block_kept (xs ++ a ∷ []) p ≡ block_kept xs p
kept_end [] a p none = none
kept_end (b ∷ xs) a p none = ap (block_or b.what p) (kept_end xs a p none)

kept_new : (xs : List Added) (a : Added) (p : ConstId) → block_kept xs p ≡ None → block_kept (xs ++ a ∷ []) p ≡ as_block a.what p
kept_new [] a p none = refl
kept_new (b ∷ xs) a p none = go b.what (kept_new xs a p) none
  where
    test : (c : Block) (t : Bool) → (block_kept xs p ≡ None → block_kept (xs ++ a ∷ []) p ≡ as_block a.what p)
        → (if t then Some c else block_kept xs p) ≡ None → (if t then Some c else block_kept (xs ++ a ∷ []) p) ≡ as_block a.what p
    test c true rest m = absurd (cc)
    test c false rest m = rest m

    go : (what : Addition) → (block_kept xs p ≡ None → block_kept (xs ++ a ∷ []) p ≡ as_block a.what p)
        → block_or what p (block_kept xs p) ≡ None → block_or what p (block_kept (xs ++ a ∷ []) p) ≡ as_block a.what p
    go (Theorem e) rest n = rest n
    go (Clause c h) rest n = rest n
    go (Definition c) rest n = test c (is_among c.predicates p) rest n

-- a place of the list leads where it led, and what stands at the end is no definition of the predicate
led_end : (xs : List Added) (a : Added) (p : ConstId) → as_block a.what p ≡ None → (i : ℕ) → block_at_place (xs ++ a ∷ []) p i ≡ block_at_place xs p i
led_end [] a p none zero = none
led_end [] a p none (suc i) = refl
led_end (b ∷ xs) a p none zero = refl
led_end (b ∷ xs) a p none (suc i) = led_end xs a p none i

led_on : (xs : List Added) (a : Added) (p : ConstId) → as_block a.what p ≡ None → (o : Option ℕ) → option_and_then (block_at_place (xs ++ a ∷ []) p) o ≡ option_and_then (block_at_place xs p) o
led_on xs a p none None = refl
led_on xs a p none (Some i) = led_end xs a p none i

past_end : (xs : List Added) (p : ConstId) → block_at_place xs p (length xs) ≡ None
past_end [] p = refl
past_end (x ∷ xs) p = past_end xs p

-- definitions by the places that are noted: a place that leads to none is none

block_here : (front : List Added) (a : Added) (xs : List Added) (p : ConstId) → block_at_place (front ++ a ∷ xs) p (length front) ≡ as_block a.what p
block_here front a xs p = ap (option_and_then (λ (c : Added). as_block c.what p)) (element_here front a xs)

checked_leads : (xs : List Added) (p : ConstId) (o : Option ℕ) → option_and_then (block_at_place xs p) (option_and_then (checked xs p) o) ≡ option_and_then (block_at_place xs p) o
checked_leads xs p None = refl
checked_leads xs p (Some i) = go (block_at_place xs p i) refl
  where
    go : (b : Option Block) → block_at_place xs p i ≡ b → option_and_then (block_at_place xs p) (if_there b i) ≡ block_at_place xs p i
    go None e = sym e
    go (Some b) e = refl

place_leads : (p : ConstId) (front xs : List Added) → option_and_then (block_at_place (front ++ xs) p) (block_place (length front) xs p) ≡ block_kept xs p
place_leads p front [] = refl
place_leads p front (a ∷ xs) = go a.what (block_here front a xs p) (later (place_leads p (front ++ a ∷ []) xs))
  where
    later : option_and_then (block_at_place ((front ++ a ∷ []) ++ xs) p) (block_place (length (front ++ a ∷ [])) xs p) ≡ block_kept xs p
        → option_and_then (block_at_place (front ++ a ∷ xs) p) (block_place (suc (length front)) xs p) ≡ block_kept xs p
    later rest =
        ap (λ (zs : List Added). option_and_then (block_at_place zs p) (block_place (suc (length front)) xs p)) (sym (append_assoc front (a ∷ []) xs))
        ∙ ap (λ n. option_and_then (block_at_place ((front ++ a ∷ []) ++ xs) p) (block_place n xs p)) (sym (one_longer front a))
        ∙ rest

    test : (b : Block) (t : Bool) (n : ℕ) (o : Option ℕ) (k : Option Block) → block_at_place (front ++ a ∷ xs) p n ≡ (if t then Some b else None) → option_and_then (block_at_place (front ++ a ∷ xs) p) o ≡ k
        → option_and_then (block_at_place (front ++ a ∷ xs) p) (if t then Some n else o) ≡ (if t then Some b else k)
    test b true n o k here rest = here
    test b false n o k here rest = rest

    go : (what : Addition) → block_at_place (front ++ a ∷ xs) p (length front) ≡ as_block what p
        → option_and_then (block_at_place (front ++ a ∷ xs) p) (block_place (suc (length front)) xs p) ≡ block_kept xs p
        → option_and_then (block_at_place (front ++ a ∷ xs) p) (place_or what p (length front) (block_place (suc (length front)) xs p)) ≡ block_or what p (block_kept xs p)
    go (Theorem e) here rest = rest
    go (Clause c h) here rest = rest
    go (Definition b) here rest = test b (is_among b.predicates p) (length front) (block_place (suc (length front)) xs p) (block_kept xs p) here rest

pub block_found : (xs : List Added) (p : ConstId) (o : Option ℕ) → option_and_then (checked xs p) o ≡ block_place 0 xs p → option_and_then (block_at_place xs p) o ≡ block_kept xs p
block_found xs p o is = sym (checked_leads xs p o) ∙ ap (option_and_then (block_at_place xs p)) is ∙ place_leads p [] xs

-- the first place stays what it was where no definition of the predicate is put behind
place_none : (what : Addition) (p : ConstId) (n : ℕ) → as_block what p ≡ None → place_or what p n None ≡ None
place_none (Theorem e) p n none = refl
place_none (Clause c h) p n none = refl
place_none (Definition b) p n none = go (is_among b.predicates p) none
  where
    go : (t : Bool) → (if t then Some b else None) ≡ None → (if t then Some n else None) ≡ None
    go true e = absurd (cc)
    go false e = refl

place_end : (n : ℕ) (xs : List Added) (a : Added) (p : ConstId) → as_block a.what p ≡ None → block_place n (xs ++ a ∷ []) p ≡ block_place n xs p
place_end n [] a p none = place_none a.what p n none
place_end n (b ∷ xs) a p none = ap (place_or b.what p n) (place_end (suc n) xs a p none)

-- what has no definition has no place
no_place : (n : ℕ) (xs : List Added) (p : ConstId) → block_kept xs p ≡ None → block_place n xs p ≡ None
no_place n [] p none = refl
no_place n (b ∷ xs) p none = go b.what (no_place (suc n) xs p) none
  where
    test : (c : Block) (t : Bool) → (block_kept xs p ≡ None → block_place (suc n) xs p ≡ None) → (if t then Some c else block_kept xs p) ≡ None → (if t then Some n else block_place (suc n) xs p) ≡ None
    test c true rest m = absurd (cc)
    test c false rest m = rest m

    go : (what : Addition) → (block_kept xs p ≡ None → block_place (suc n) xs p ≡ None) → block_or what p (block_kept xs p) ≡ None → place_or what p n (block_place (suc n) xs p) ≡ None
    go (Theorem e) rest m = rest m
    go (Clause c h) rest m = rest m
    go (Definition c) rest m = test c (is_among c.predicates p) rest m

place_new : (n : ℕ) (xs : List Added) (a : Added) (p : ConstId) → block_kept xs p ≡ None → block_place n (xs ++ a ∷ []) p ≡ place_or a.what p (n + length xs) None
place_new n [] a p none = ap (λ k. place_or a.what p k None) (let same : n ≡ n + 0 = omega arith in same)
place_new n (b ∷ xs) a p none = go b.what (λ m. place_new (suc n) xs a p m ∙ ap (λ k. place_or a.what p k None) (let same : suc n + length xs ≡ n + suc (length xs) = omega arith in same)) none
  where
    test : (c : Block) (t : Bool) (o r : Option ℕ) → (block_kept xs p ≡ None → o ≡ r) → (if t then Some c else block_kept xs p) ≡ None → (if t then Some n else o) ≡ r
    test c true o r rest m = absurd (cc)
    test c false o r rest m = rest m

    go : (what : Addition) → (block_kept xs p ≡ None → block_place (suc n) (xs ++ a ∷ []) p ≡ place_or a.what p (n + suc (length xs)) None)
        → block_or what p (block_kept xs p) ≡ None → place_or what p n (block_place (suc n) (xs ++ a ∷ []) p) ≡ place_or a.what p (n + suc (length xs)) None
    go (Theorem e) rest m = rest m
    go (Clause c h) rest m = rest m
    go (Definition c) rest m = test c (is_among c.predicates p) (block_place (suc n) (xs ++ a ∷ []) p) (place_or a.what p (n + suc (length xs)) None) rest m

checked_end : (xs : List Added) (a : Added) (p : ConstId) → as_block a.what p ≡ None → (o : Option ℕ) → option_and_then (checked (xs ++ a ∷ []) p) o ≡ option_and_then (checked xs p) o
checked_end xs a p none None = refl
checked_end xs a p none (Some i) = ap (λ b. if_there b i) (led_end xs a p none i)

-- what is no definition of the predicate is put behind
one_on : (xs : List Added) (a : Added) (p : ConstId) (o : Option ℕ) → as_block a.what p ≡ None → option_and_then (checked xs p) o ≡ block_place 0 xs p
    → option_and_then (checked (xs ++ a ∷ []) p) o ≡ block_place 0 (xs ++ a ∷ []) p
one_on xs a p o none is = checked_end xs a p none o ∙ is ∙ sym (place_end 0 xs a p none)

pub nothing_filed : (places : ConstId → Option ℕ) (heads : ConstId → List ℕ) → ((p : ConstId) → heads p ≡ []) → IsFiled [] [] places heads
nothing_filed places heads none = record { theorems = refl; definitions = λ p. go p (places p); clauses = none }
  where
    go : (p : ConstId) (o : Option ℕ) → option_and_then (checked [] p) o ≡ None
    go p None = refl
    go p (Some i) = refl

-- what is no clause is put behind
same_heads : (xs : List Added) (a : Added) (p : ConstId) (is : List ℕ) → is ≡ clause_places xs p → head_place a.what p (length xs) [] ≡ [] → is ≡ clause_places (xs ++ a ∷ []) p
same_heads xs a p is e none = e ∙ sym (one_more xs a p ∙ ap (λ js. clause_places xs p ++ js) none ∙ append-nil (clause_places xs p))

-- a theorem is filed

-- a name that is noted is that of a theorem
not_noted : (k : List ℕ) (n : ℕ) (xs : List Added) → entry_in xs k ≡ None → lookup (pointwise nat_eq k) (places_from n xs) ≡ None
not_noted k n [] none = refl
not_noted k n (a ∷ xs) none = go a.what (not_noted k (suc n) xs) none
  where
    test : (e : TheoremEntry) (t : Bool) → (entry_in xs k ≡ None → lookup (pointwise nat_eq k) (places_from (suc n) xs) ≡ None) → (if t then Some e else entry_in xs k) ≡ None → cond t (Some n) (lookup (pointwise nat_eq k) (places_from (suc n) xs)) ≡ None
    test e true rest m = absurd (cc)
    test e false rest m = rest m

    go : (what : Addition) → (entry_in xs k ≡ None → lookup (pointwise nat_eq k) (places_from (suc n) xs) ≡ None) → entry_or what k (entry_in xs k) ≡ None → lookup (pointwise nat_eq k) (places_with what n (places_from (suc n) xs)) ≡ None
    go (Theorem e) rest m = test e (pointwise nat_eq k e.name) rest m
    go (Definition b) rest m = rest m
    go (Clause c h) rest m = rest m

module _ {S : Type 0} (m : IndexMap (List ℕ) ℕ S) (xs : List Added) (places : ConstId → Option ℕ) (heads : ConstId → List ℕ) (filed : IsFiled xs m.entries places heads) where
  pub theorem_filed : (k : List ℕ) (e : TheoremEntry) (before : ℕ) (es : List (List ℕ × ℕ)) (n : ℕ) → entry_in xs k ≡ None → n ≡ length xs → e.name ≡ k
      → es ≡ insert_entry (pointwise nat_eq) m.entries k n → IsFiled (xs ++ record { what = Theorem e; before = before } ∷ []) es places heads
  theorem_filed k e before es n new end named put = record {
    theorems =
        put
        ∙ insert_entry-new (pointwise nat_eq) m k n (ap (lookup (pointwise nat_eq k)) filed.theorems ∙ not_noted k 0 xs new)
        ∙ ap (λ l. l ++ (k, n) ∷ []) filed.theorems
        ∙ ap (λ i. places_from 0 xs ++ (k, i) ∷ []) end
        ∙ ap (λ x. places_from 0 xs ++ (x, length xs) ∷ []) (sym named)
        ∙ ap (λ i. places_from 0 xs ++ (e.name, i) ∷ []) (let same : length xs ≡ 0 + length xs = omega arith in same)
        ∙ sym (places_end 0 xs (record { what = Theorem e; before = before }));
    definitions = λ p. one_on xs (record { what = Theorem e; before = before }) p (places p) refl (filed.definitions p);
    clauses = λ p. same_heads xs (record { what = Theorem e; before = before }) p (heads p) (filed.clauses p) refl;
  }

-- a clause of the program is filed
pub clause_filed : (xs : List Added) (names : List (List ℕ × ℕ)) (places : ConstId → Option ℕ) (heads new : ConstId → List ℕ) (c : ClauseTerm) (h : ConstId) (before : ℕ) (n : ℕ) → IsFiled xs names places heads
    → n ≡ length xs → ((p : ConstId) → new p ≡ heads p ++ (if same_constant h p then (n ∷ []) else []))
    → IsFiled (xs ++ record { what = Clause c h; before = before } ∷ []) names places new
clause_filed xs names places heads new c h before n filed end put =
    let a : Added = record { what = Clause c h; before = before } in
    record {
      theorems = filed.theorems ∙ sym (places_end 0 xs a ∙ append-nil (places_from 0 xs));
      definitions = λ p. one_on xs a p (places p) refl (filed.definitions p);
      clauses = λ p.
          put p
          ∙ ap (λ is. is ++ (if same_constant h p then (n ∷ []) else [])) (filed.clauses p)
          ∙ ap (λ k. clause_places xs p ++ (if same_constant h p then (k ∷ []) else [])) end
          ∙ sym (one_more xs a p);
    }

-- it isn't put behind
pub clause_dropped : (xs : List Added) (names : List (List ℕ × ℕ)) (places : ConstId → Option ℕ) (heads new : ConstId → List ℕ) → IsFiled xs names places heads → ((p : ConstId) → new p ≡ heads p) → IsFiled xs names places new
clause_dropped xs names places heads new filed same = record { theorems = filed.theorems; definitions = filed.definitions; clauses = λ p. same p ∙ filed.clauses p }

-- a definition is filed

-- what is true of each of them is true of one that is among them
one_of : (P : ConstId → Type 0) (ps : List ConstId) (p : ConstId) → All P ps → is_among ps p ≡ true → P p
one_of P [] p all e = absurd (cc)
one_of P (q ∷ ps) p all e = go (same_constant q p) refl (one_of P ps p (All-tail P q ps all)) e
  where
    go : (t : Bool) → same_constant q p ≡ t → (is_among ps p ≡ true → P p) → (t || is_among ps p) ≡ true → P p
    go true s rest f = subst P (ap (λ n. record { 0 = n }) ((Decides-eqb q.0 p.0).0 s)) (All-head P q ps all)
    go false s rest f = rest f

module _ (xs : List Added) (names : List (List ℕ × ℕ)) (old new : ConstId → Option ℕ) (heads : ConstId → List ℕ) (filed : IsFiled xs names old heads) (b : Block) (none : All (λ p. block_kept xs p ≡ None) b.predicates) where
  -- it isn't put behind
  pub definition_dropped : (n : ℕ) → n ≡ length xs → ((p : ConstId) → (new p ≡ old p) ⊎ ((new p ≡ Some n) × (is_among b.predicates p ≡ true))) → IsFiled xs names new heads
  definition_dropped n end part = record { theorems = filed.theorems; definitions = λ p. go p (part p); clauses = filed.clauses }
    where
      go : (p : ConstId) → (new p ≡ old p) ⊎ ((new p ≡ Some n) × (is_among b.predicates p ≡ true)) → option_and_then (checked xs p) (new p) ≡ block_place 0 xs p
      go p (inl same) = ap (option_and_then (checked xs p)) same ∙ filed.definitions p
      go p (inr at) =
          ap (option_and_then (checked xs p)) at.0
          ∙ ap (λ k. if_there (block_at_place xs p k) n) end
          ∙ ap (λ o. if_there o n) (past_end xs p)
          ∙ sym (no_place 0 xs p (one_of (λ q. block_kept xs q ≡ None) b.predicates p none at.1))

  pub definition_filed : (n before : ℕ) → n ≡ length xs → ((p : ConstId) → new p ≡ (if is_among b.predicates p then Some n else old p))
      → IsFiled (xs ++ record { what = Definition b; before = before } ∷ []) names new heads
  definition_filed n before end put = record {
    theorems = filed.theorems ∙ sym (places_end 0 xs a ∙ append-nil (places_from 0 xs));
    definitions = λ p. go p (is_among b.predicates p) refl (put p);
    clauses = λ p. same_heads xs a p (heads p) (filed.clauses p) refl;
  }
    where
      a : Added
      a = record { what = Definition b; before = before }

      go : (p : ConstId) (t : Bool) → is_among b.predicates p ≡ t → new p ≡ (if t then Some n else old p) → option_and_then (checked (xs ++ a ∷ []) p) (new p) ≡ block_place 0 (xs ++ a ∷ []) p
      go p true e at =
          ap (option_and_then (checked (xs ++ a ∷ []) p)) at
          ∙ ap (λ k. checked (xs ++ a ∷ []) p k) end
          ∙ ap (λ o. if_there o (length xs)) (block_here xs a [] p ∙ ap (λ t. if t then Some b else None) e)
          ∙ ap (λ k. Some k) (let same : length xs ≡ 0 + length xs = omega arith in same)
          ∙ ap (λ t. if t then Some (0 + length xs) else None) (sym e)
          ∙ sym (place_new 0 xs a p (one_of (λ q. block_kept xs q ≡ None) b.predicates p none e))
      go p false e at =
          let other : as_block (Definition b) p ≡ None = ap (λ t. if t then Some b else None) e in
          ap (option_and_then (checked (xs ++ a ∷ []) p)) at ∙ one_on xs a p (old p) other (filed.definitions p)

-- what is true of each theorem's formula is true of the one that is found
pub held_entry : (P : Addition → Type 0) (Q : TermId → Type 0) → ((e : TheoremEntry) → P (Theorem e) → Q e.formula) → (xs : List Added) (k : List ℕ) → All (λ (a : Added). P a.what) xs
    → IfSome (option_map (λ (e : TheoremEntry). e.formula) (entry_in xs k)) Q
held_entry P Q of_theorem [] k all = tt
held_entry P Q of_theorem (a ∷ xs) k all = go a.what (All-head (λ (b : Added). P b.what) a xs all) (held_entry P Q of_theorem xs k (All-tail (λ (b : Added). P b.what) a xs all))
  where
    test : (e : TheoremEntry) (t : Bool) → Q e.formula → IfSome (option_map (λ (e : TheoremEntry). e.formula) (entry_in xs k)) Q
        → IfSome (option_map (λ (e : TheoremEntry). e.formula) (if t then Some e else entry_in xs k)) Q
    test e true q rest = q
    test e false q rest = rest

    go : (what : Addition) → P what → IfSome (option_map (λ (e : TheoremEntry). e.formula) (entry_in xs k)) Q
        → IfSome (option_map (λ (e : TheoremEntry). e.formula) (entry_or what k (entry_in xs k))) Q
    go (Theorem e) p rest = test e (bytes_eq k e.name) (of_theorem e p) rest
    go (Definition b) p rest = rest
    go (Clause c h) p rest = rest

-- places that are noted one after another

among_end : (ps : List ConstId) (q p : ConstId) → is_among (ps ++ q ∷ []) p ≡ (is_among ps p || same_constant q p)
among_end [] q p = or_false (same_constant q p)
  where
    or_false : (x : Bool) → (x || false) ≡ x
    or_false true = refl
    or_false false = refl
among_end (r ∷ ps) q p = ap (λ x. same_constant r p || x) (among_end ps q p) ∙ grouped (same_constant r p) (is_among ps p) (same_constant q p)
  where
    grouped : (x y z : Bool) → (x || (y || z)) ≡ ((x || y) || z)
    grouped true y z = refl
    grouped false y z = refl

values : {X : Type 0} (x y : Bool) (a b : X) → cond x a (if y then a else b) ≡ (if (y || x) then a else b)
values true true a b = refl
values true false a b = refl
values false true a b = refl
values false false a b = refl

pub put_one : (q p : ConstId) (n : ℕ) (ps : List ConstId) (old new was : Option ℕ) → new ≡ cond (same_constant q p) (Some n) old → old ≡ (if is_among ps p then Some n else was)
    → new ≡ (if is_among (ps ++ q ∷ []) p then Some n else was)
put_one q p n ps old new was put before =
    put
    ∙ ap (cond (same_constant q p) (Some n)) before
    ∙ values (same_constant q p) (is_among ps p) (Some n) was
    ∙ ap (λ t. if t then Some n else was) (sym (among_end ps q p))

still_among : (ps qs : List ConstId) (p : ConstId) → is_among ps p ≡ true → is_among (ps ++ qs) p ≡ true
still_among [] qs p e = absurd (cc)
still_among (r ∷ ps) qs p e = go (same_constant r p) (still_among ps qs p) e
  where
    go : (x : Bool) → (is_among ps p ≡ true → is_among (ps ++ qs) p ≡ true) → (x || is_among ps p) ≡ true → (x || is_among (ps ++ qs) p) ≡ true
    go true rest g = refl
    go false rest g = rest g

pub put_some : (p : ConstId) (n i : ℕ) (ps : List ConstId) (old new : Option ℕ) → new ≡ (if is_among (take i ps) p then Some n else old)
    → (new ≡ old) ⊎ ((new ≡ Some n) × (is_among ps p ≡ true))
put_some p n i ps old new e = go (is_among (take i ps) p) refl e
  where
    go : (t : Bool) → is_among (take i ps) p ≡ t → new ≡ (if t then Some n else old) → (new ≡ old) ⊎ ((new ≡ Some n) × (is_among ps p ≡ true))
    go true t f = inr (f, ap (λ qs. is_among qs p) (sym (take-append-drop i ps)) ∙ still_among (take i ps) (drop i ps) p t)
    go false t f = inl f

-- clauses by the constant at their head

abbrev pub headed_with : Addition → ConstId → List ClauseTerm → List ClauseTerm
headed_with (Theorem e) p rest = rest
headed_with (Definition b) p rest = rest
headed_with (Clause c h) p rest = if same_constant h p then (c ∷ rest) else rest

abbrev pub clauses_headed : List Added → ConstId → List ClauseTerm
clauses_headed [] p = []
clauses_headed (a ∷ xs) p = headed_with a.what p (clauses_headed xs p)

heads_lead : (p : ConstId) (front xs : List Added) → map (clause_at_place (front ++ xs)) (head_places (length front) xs p) ≡ map Some (clauses_headed xs p)
heads_lead p front [] = refl
heads_lead p front (a ∷ xs) = go a.what (ap (option_and_then (λ (b : Added). as_clause b.what)) (element_here front a xs)) (later (heads_lead p (front ++ a ∷ []) xs))
  where
    later : map (clause_at_place ((front ++ a ∷ []) ++ xs)) (head_places (length (front ++ a ∷ [])) xs p) ≡ map Some (clauses_headed xs p)
        → map (clause_at_place (front ++ a ∷ xs)) (head_places (suc (length front)) xs p) ≡ map Some (clauses_headed xs p)
    later rest =
        ap (λ (zs : List Added). map (clause_at_place zs) (head_places (suc (length front)) xs p)) (sym (append_assoc front (a ∷ []) xs))
        ∙ ap (λ n. map (clause_at_place ((front ++ a ∷ []) ++ xs)) (head_places n xs p)) (sym (one_longer front a))
        ∙ rest

    test : (c : ClauseTerm) (t : Bool) → clause_at_place (front ++ a ∷ xs) (length front) ≡ Some c → map (clause_at_place (front ++ a ∷ xs)) (head_places (suc (length front)) xs p) ≡ map Some (clauses_headed xs p)
        → map (clause_at_place (front ++ a ∷ xs)) (if t then (length front ∷ head_places (suc (length front)) xs p) else (head_places (suc (length front)) xs p)) ≡ map Some (if t then (c ∷ clauses_headed xs p) else (clauses_headed xs p))
    test c true here rest = ap (λ (o : Option ClauseTerm). o ∷ map (clause_at_place (front ++ a ∷ xs)) (head_places (suc (length front)) xs p)) here ∙ ap (λ (os : List (Option ClauseTerm)). Some c ∷ os) rest
    test c false here rest = rest

    go : (what : Addition) → clause_at_place (front ++ a ∷ xs) (length front) ≡ as_clause what → map (clause_at_place (front ++ a ∷ xs)) (head_places (suc (length front)) xs p) ≡ map Some (clauses_headed xs p)
        → map (clause_at_place (front ++ a ∷ xs)) (head_place what p (length front) (head_places (suc (length front)) xs p)) ≡ map Some (headed_with what p (clauses_headed xs p))
    go (Theorem e) here rest = rest
    go (Definition b) here rest = rest
    go (Clause c h) here rest = test c (same_constant h p) here rest

-- the places of a head lead to its clauses, in order
pub places_lead : (xs : List Added) (p : ConstId) → map (clause_at_place xs) (clause_places xs p) ≡ map Some (clauses_headed xs p)
places_lead xs p = heads_lead p [] xs
