-- The cases of a goal, clause by clause, and choice by choice.
use Rattle.std.proofs.Common.{◌≡◌, ℕ, zero, suc, ◌+◌, ◌<◌, List, [], ◌∷◌, ◌++◌, map, take, length, get_or, Bool, true, false, cond, bytes_eq, refl, sym, ◌∙◌, ap, arith, append_assoc, append-nil}
use Rattle.std.specs.Prelude.{filter}
use Rattle.std.proofs.lemmas.List.{map-append, take_more}
use Rattle.ab_term.specs.Terms.{Nominal}
use Rattle.ab_term.specs.Names.{support_of_all}
use Rattle.ab_unifiers.specs.Clauses.{Clause}
use Rattle.ab_unifiers.specs.Choices.{in_order, choices, for_each}
use Rattle.ab_formulas.specs.Sequents.{Sequent, goal_names}
use Rattle.ab_theory.specs.Atoms.{Defined, Choice}
use Rattle.ab_theory.specs.Analysis.{case_of, cases_of}
use Rattle.ab_alternatives.specs.CaseSteps.{clause_cases}

-- what is gathered of elements that pass a test, changed, is gathered of all
module _ {X Y Z : Type 0} (test : X → Bool) (f : X → List Y) (g : Y → Z) where
  pub gathered_cases : (xs : List X) → map g (for_each f (filter test xs)) ≡ for_each (λ x. cond (test x) (map g (f x)) []) xs
  gathered_cases [] = refl
  gathered_cases (x ∷ xs) = go (test x) (gathered_cases xs)
    where
      go : (t : Bool) → map g (for_each f (filter test xs)) ≡ for_each (λ y. cond (test y) (map g (f y)) []) xs
          → map g (for_each f (cond t (x ∷ filter test xs) (filter test xs))) ≡ cond t (map g (f x)) [] ++ for_each (λ y. cond (test y) (map g (f y)) []) xs
      go true rest = map-append g (f x) (for_each f (filter test xs)) ∙ ap (λ l. map g (f x) ++ l) rest
      go false rest = rest

pub map_twice : {X Y Z : Type 0} (f : Y → Z) (g : X → Y) (xs : List X) → map f (map g xs) ≡ map (λ x. f (g x)) xs
map_twice f g [] = refl
map_twice f g (x ∷ xs) = ap (λ l. f (g x) ∷ l) (map_twice f g xs)

for_each_alike : {X Y : Type 0} (f g : X → List Y) → ((x : X) → f x ≡ g x) → (xs : List X) → for_each f xs ≡ for_each g xs
for_each_alike f g e [] = refl
for_each_alike f g e (x ∷ xs) = ap (λ l. l ++ for_each f xs) (e x) ∙ ap (λ l. g x ++ l) (for_each_alike f g e xs)

-- THE CASES, clause by clause
module _ (s t : Sequent) (name : List ℕ) (d : Defined) where
  abbrev choices_by : Clause (List ℕ) → List (List Nominal)
  choices_by c = choices (map (λ z. z.type) c.names) (in_order (support_of_all d.arguments)) (goal_names s)

  abbrev as_choice : Clause (List ℕ) → List Nominal → Choice
  as_choice c ns = record { clause = c; names = ns }

  of_one : (b : Bool) (c : Clause (List ℕ)) → cond b (map (case_of s t name d) (map (as_choice c) (choices_by c))) [] ≡ cond b (map (λ ns. case_of s t name d (as_choice c ns)) (choices_by c)) []
  of_one b c = ap (λ l. cond b l []) (map_twice (case_of s t name d) (as_choice c) (choices_by c))

  pub cases_by_clauses : cases_of s t name d ≡ for_each (clause_cases s t name d) d.block.clauses
  cases_by_clauses =
      gathered_cases (λ c. bytes_eq c.predicate d.predicate) (λ c. map (as_choice c) (choices_by c)) (case_of s t name d) d.block.clauses
      ∙ for_each_alike (λ c. cond (bytes_eq c.predicate d.predicate) (map (case_of s t name d) (map (as_choice c) (choices_by c))) []) (clause_cases s t name d)
      (λ c. of_one (bytes_eq c.predicate d.predicate) c) d.block.clauses

-- lists that are gone through

pub for_each-append : {X Y : Type 0} (f : X → List Y) (xs ys : List X) → for_each f (xs ++ ys) ≡ for_each f xs ++ for_each f ys
for_each-append f [] ys = refl
for_each-append f (x ∷ xs) ys = ap (λ l. f x ++ l) (for_each-append f xs ys) ∙ sym (append_assoc (f x) (for_each f xs) (for_each f ys))

pub for_each-map : {X Y Z : Type 0} (f : Y → List Z) (g : X → Y) (xs : List X) → for_each f (map g xs) ≡ for_each (λ x. f (g x)) xs
for_each-map f g [] = refl
for_each-map f g (x ∷ xs) = ap (λ l. f (g x) ++ l) (for_each-map f g xs)

pub for_each-more : {X Y : Type 0} (f : X → List Y) (xs : List X) (i : ℕ) (d : X) → i < length xs → for_each f (take (i + 1) xs) ≡ for_each f (take i xs) ++ f (get_or xs i d)
for_each-more f xs i d l =
    ap (for_each f) (take_more xs i d l)
    ∙ for_each-append f (take i xs) (get_or xs i d ∷ [])
    ∙ ap (λ k. for_each f (take i xs) ++ k) (append-nil (f (get_or xs i d)))

-- an element between those before it and those behind it
pub at_place : {X : Type 0} (xs : List X) (i : ℕ) (d : X) → i < length xs → (ys : List X) × (xs ≡ take i xs ++ get_or xs i d ∷ ys)
at_place [] i d l = absurd (omega (arith, l))
at_place (x ∷ xs) zero d l = (xs, refl)
at_place (x ∷ xs) (suc i) d l = let rest = at_place xs i d (omega (arith, l)) in (rest.0, ap (λ k. x ∷ k) rest.1)
