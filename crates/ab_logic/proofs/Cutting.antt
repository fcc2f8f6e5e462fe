-- The first of what was added, alone: the places that are noted for it.
use Rattle.std.specs.Prelude.{slice_get, nat_lt, IsSome}
use Rattle.std.specs.Option.{option_and_then, option_to_list}
use Rattle.std.proofs.Common.{◌≡◌, ℕ, zero, suc, ◌+◌, ◌<◌, ◌≤◌, Bool, true, false, if◌then◌else◌, Option, Some, None, List, [], ◌∷◌, ◌++◌, length, take, refl, sym, ◌∙◌, ap, subst, arith, length-append, append-nil}
use Rattle.std.proofs.Math.Seq.{take-append_seam}
use Rattle.std.proofs.lemmas.Bool.{ltb-false, le-ltb}
use Rattle.std.proofs.lemmas.Bool.Decides.{Decides-ltb}
use Rattle.ab_store.specs.ab_types.specs.declared.ids.ConstId.{ConstId}
use Rattle.ab_typing.specs.declared.definitions.Block.{Block}
use Rattle.ab_typing.specs.declared.definitions.ClauseTerm.{ClauseTerm}
use Rattle.ab_logic.specs.Additions.{as_block, same_constant, places_with, places_from, place_or, block_place, if_there, checked, is_among, head_place, clause_places, without_last, IsFiled}
use Rattle.ab_logic.specs.declared.additions.Added.{Added}
use Rattle.ab_logic.specs.declared.additions.TheoremEntry.{TheoremEntry}
use Rattle.ab_logic.specs.declared.additions.Addition.{Addition}
use Rattle.ab_logic.specs.declared.additions.Addition.TheVariants.{Theorem, Definition, Clause}
use Rattle.ab_logic.proofs.ClausePlaces.{one_more, one_less}
use Rattle.ab_logic.proofs.Lookups.{places_end}

-- definitions

abbrev cut : ℕ → Option ℕ → Option ℕ
cut n None = None
cut n (Some i) = if nat_lt i n then Some i else None

none_either : {X : Type 0} (t : Bool) (o : Option X) → o ≡ None → o ≡ (if t then o else None)
none_either true o e = refl
none_either false o e = e

element_cut : {X : Type 0} (n : ℕ) (xs : List X) (i : ℕ) → slice_get (take n xs) i ≡ (if nat_lt i n then slice_get xs i else None)
element_cut zero xs i = ap (λ t. if t then slice_get xs i else None) (sym (le-ltb i 0 (omega arith)))
element_cut (suc n) [] i = none_either (nat_lt i (suc n)) None refl
element_cut (suc n) (x ∷ xs) zero = ap (λ t. if t then Some x else None) (sym ((Decides-ltb 0 (suc n)).1 (omega arith)))
element_cut (suc n) (x ∷ xs) (suc i) = element_cut n xs i ∙ ap (λ t. if t then slice_get xs i else None) (same_test (nat_lt i n) refl)
  where
    same_test : (t : Bool) → nat_lt i n ≡ t → t ≡ nat_lt (suc i) (suc n)
    same_test true e = let less = (Decides-ltb i n).0 e in sym ((Decides-ltb (suc i) (suc n)).1 (omega (arith, less)))
    same_test false e = let more = ltb-false i n e in sym (le-ltb (suc i) (suc n) (omega (arith, more)))

module _ (p : ConstId) where
  abbrev at : Option Added → Option Block
  at o = option_and_then (λ (a : Added). as_block a.what p) o

  checked_cut : (n : ℕ) (xs : List Added) (o : Option ℕ) → option_and_then (checked (take n xs) p) o ≡ cut n (option_and_then (checked xs p) o)
  checked_cut n xs None = refl
  checked_cut n xs (Some i) = ap (λ (s : Option Added). if_there (at s) i) (element_cut n xs i) ∙ go (nat_lt i n) refl (slice_get xs i)
    where
      kept : (b : Option Block) → nat_lt i n ≡ true → if_there b i ≡ cut n (if_there b i)
      kept None e = refl
      kept (Some b) e = ap (λ t. if t then Some i else None) (sym e)

      gone : (b : Option Block) → nat_lt i n ≡ false → None ≡ cut n (if_there b i)
      gone None e = refl
      gone (Some b) e = ap (λ t. if t then Some i else None) (sym e)

      go : (t : Bool) → nat_lt i n ≡ t → (s : Option Added) → if_there (at (if t then s else None)) i ≡ cut n (if_there (at s) i)
      go true e s = kept (at s) e
      go false e s = gone (at s) e

  after : (k n : ℕ) (xs : List Added) → n ≤ k → cut n (block_place k xs p) ≡ None
  after k n [] l = refl
  after k n (a ∷ xs) l = go a.what (after (suc k) n xs (omega (arith, l)))
    where
      test : (t : Bool) → cut n (block_place (suc k) xs p) ≡ None → cut n (if t then Some k else block_place (suc k) xs p) ≡ None
      test true rest = ap (λ t. if t then Some k else None) (le-ltb k n l)
      test false rest = rest

      go : (what : Addition) → cut n (block_place (suc k) xs p) ≡ None → cut n (place_or what p k (block_place (suc k) xs p)) ≡ None
      go (Theorem e) rest = rest
      go (Definition b) rest = test (is_among b.predicates p) rest
      go (Clause c h) rest = rest

  place_cut : (k m : ℕ) (xs : List Added) → block_place k (take m xs) p ≡ cut (k + m) (block_place k xs p)
  place_cut k zero xs = sym (after k (k + 0) xs (omega arith))
  place_cut k (suc m) [] = refl
  place_cut k (suc m) (a ∷ xs) = go a.what (place_cut (suc k) m xs ∙ ap (λ n. cut n (block_place (suc k) xs p)) (let same : suc k + m ≡ k + suc m = omega arith in same))
    where
      test : (t : Bool) → block_place (suc k) (take m xs) p ≡ cut (k + suc m) (block_place (suc k) xs p)
          → (if t then Some k else block_place (suc k) (take m xs) p) ≡ cut (k + suc m) (if t then Some k else block_place (suc k) xs p)
      test true rest = ap (λ t. if t then Some k else None) (sym ((Decides-ltb k (k + suc m)).1 (omega arith)))
      test false rest = rest

      go : (what : Addition) → block_place (suc k) (take m xs) p ≡ cut (k + suc m) (block_place (suc k) xs p)
          → place_or what p k (block_place (suc k) (take m xs) p) ≡ cut (k + suc m) (place_or what p k (block_place (suc k) xs p))
      go (Theorem e) rest = rest
      go (Definition b) rest = test (is_among b.predicates p) rest
      go (Clause c h) rest = rest

-- THE LAST OF WHAT WAS ADDED is dropped: what is noted then, where names and heads are as they should be
module _ (xs : List Added) (a : Added) (names new : List (List ℕ × ℕ)) (places : ConstId → Option ℕ) (heads later : ConstId → List ℕ) (filed : IsFiled (xs ++ a ∷ []) names places heads) where
  last_dropped : (names ≡ places_from 0 xs ++ places_with a.what (length xs) [] → new ≡ places_from 0 xs)
      → ((p : ConstId) → heads p ≡ clause_places xs p ++ head_place a.what p (length xs) [] → later p ≡ clause_places xs p) → IsFiled xs new places later
  last_dropped named noted = record {
    theorems = named (filed.theorems ∙ places_end 0 xs a ∙ ap (λ k. places_from 0 xs ++ places_with a.what k []) (let same : 0 + length xs ≡ length xs = omega arith in same));
    definitions = λ p.
        subst (λ (ys : List Added). option_and_then (checked ys p) (places p) ≡ block_place 0 ys p) (take-append_seam xs (a ∷ []))
        (checked_cut p (length xs) (xs ++ a ∷ []) (places p) ∙ ap (cut (length xs)) (filed.definitions p)
        ∙ sym (place_cut p 0 (length xs) (xs ++ a ∷ []) ∙ ap (λ m. cut m (block_place 0 (xs ++ a ∷ []) p)) (let same : 0 + length xs ≡ length xs = omega arith in same)));
    clauses = λ p. noted p (filed.clauses p ∙ one_more xs a p);
  }

same_front : {X : Type 0} (xs ys : List X) (x y : X) → xs ++ x ∷ [] ≡ ys ++ y ∷ [] → xs ≡ ys
same_front xs ys x y e =
    let same : length xs ≡ length ys = omega (arith, length-append xs (x ∷ []), length-append ys (y ∷ []), ap length e) in
    sym (take-append_seam xs (x ∷ [])) ∙ ap (take (length xs)) e ∙ ap (λ n. take n (ys ++ y ∷ [])) same ∙ take-append_seam ys (y ∷ [])

-- an element was taken off a list that has one
last_off : {X : Type 0} (old new front : List X) (r : Option X) (x : X) → old ≡ new ++ option_to_list r → (0 < length old → IsSome r) → old ≡ front ++ x ∷ [] → new ≡ front
last_off {X = X} old new front None x e found is =
    let all = length-append front (x ∷ []) in
    let some : IsSome {T = X} None = found (let less : 0 < length old = omega (arith, ap length is, all) in less) in absurd (cc)
last_off old new front (Some y) x e found is = same_front new front y x (sym e ∙ is)

module _ (xs : List Added) (before : ℕ) (names : List (List ℕ × ℕ)) (places : ConstId → Option ℕ) (heads : ConstId → List ℕ) where
  pub theorem_off : (e : TheoremEntry) (new : List (List ℕ × ℕ)) (r : Option (List ℕ × ℕ)) → IsFiled (xs ++ record { what = Theorem e; before = before } ∷ []) names places heads
      → names ≡ new ++ option_to_list r → (0 < length names → IsSome r) → IsFiled xs new places heads
  theorem_off e new r filed popped found =
      last_dropped xs (record { what = Theorem e; before = before }) names new places heads heads filed
      (λ is. last_off names new (places_from 0 xs) r (e.name, length xs) popped found is)
      (λ p is. is ∙ append-nil (clause_places xs p))

  pub definition_off : (b : Block) → IsFiled (xs ++ record { what = Definition b; before = before } ∷ []) names places heads → IsFiled xs names places heads
  definition_off b filed =
      last_dropped xs (record { what = Definition b; before = before }) names names places heads heads filed
      (λ is. is ∙ append-nil (places_from 0 xs))
      (λ p is. is ∙ append-nil (clause_places xs p))

  pub clause_off : (c : ClauseTerm) (h : ConstId) (later : ConstId → List ℕ) → IsFiled (xs ++ record { what = Clause c h; before = before } ∷ []) names places heads
      → ((p : ConstId) → later p ≡ (if same_constant h p then (without_last (heads p)) else (heads p))) → IsFiled xs names places later
  clause_off c h later filed dropped =
      last_dropped xs (record { what = Clause c h; before = before }) names names places heads later filed
      (λ is. is ∙ append-nil (places_from 0 xs))
      (λ p is. one_less (same_constant h p) (clause_places xs p) (heads p) (later p) (length xs) is (dropped p))
