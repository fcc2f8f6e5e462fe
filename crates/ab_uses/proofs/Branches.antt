-- The choices that begin so, by the constant that is chosen next.
use Rattle.std.specs.List.{All}
use Rattle.std.proofs.Common.{◌≡◌, ℕ, zero, suc, ◌+◌, ◌<◌, List, [], ◌∷◌, ◌++◌, map, take, length, get_or, refl, sym, ◌∙◌, ap, subst, arith, append_assoc, append-nil}
use Rattle.std.proofs.lemmas.List.{map-append, map_more, take_more}
use Rattle.std.proofs.lemmas.List.Elements.{All-nil, All-cons, All-head, All-tail, All-append, All-push, All-weaker, All-get_or}
use Rattle.ab_term.specs.Types.{Ty, same_type}
use Rattle.ab_term.specs.Terms as tree
use Rattle.ab_term.proofs.Comparisons.{same_type-Decides}
use Rattle.ab_term.proofs.Lists.{All-from_contains}
use Rattle.ab_norm.specs.ab_types.specs.Entries.{Table, IsExtendedBy as IsPartOf}
use Rattle.ab_norm.specs.ab_types.specs.Ids.{HoldsType, type_of}
use Rattle.ab_norm.specs.ab_types.specs.declared.ids.TypeId.{TypeId}
use Rattle.ab_norm.specs.ab_types.proofs.Entries.{type_still_held}
use Rattle.ab_norm.specs.declared.nominal.Nominal.{Nominal}
use Rattle.ab_norm.specs.Nominals.{nominal_of, HoldsNominal}
use Rattle.ab_unifiers.specs.Choices.{others, of_type, new_constant, for_each, choices}
use Rattle.ab_unifiers.proofs.Choosing.{contains_kept}
use Rattle.ab_alternatives.specs.ab_instances.specs.ListReadings.{names_read}
use Rattle.ab_alternatives.specs.ab_instances.proofs.Made.{names_stay, names_held}
use Rattle.ab_uses.specs.ChoiceTrials.{IsBegun, choices_behind}
use Rattle.ab_uses.specs.declared.begun_choices.Begun.{Begun}
use Rattle.ab_uses.proofs.Lasting.{type_stays}

-- lists that are gone through

for_each-append : {X Y : Type 0} (f : X → List Y) (xs ys : List X) → for_each f (xs ++ ys) ≡ for_each f xs ++ for_each f ys
for_each-append f [] ys = refl
for_each-append f (x ∷ xs) ys = ap (λ l. f x ++ l) (for_each-append f xs ys) ∙ sym (append_assoc (f x) (for_each f xs) (for_each f ys))

at_place : {X : Type 0} (xs : List X) (i : ℕ) (d : X) → i < length xs → (ys : List X) × (xs ≡ take i xs ++ get_or xs i d ∷ ys)
at_place [] i d l = absurd (omega (arith, l))
at_place (x ∷ xs) zero d l = (xs, refl)
at_place (x ∷ xs) (suc i) d l = let rest = at_place xs i d (omega (arith, l)) in (rest.0, ap (λ k. x ∷ k) rest.1)

all_unmapped : {X Y : Type 0} (P : Y → Type 0) (f : X → Y) (xs : List X) → All P (map f xs) → All (λ x. P (f x)) xs
all_unmapped P f [] all = All-nil (λ x. P (f x))
all_unmapped P f (x ∷ xs) all = All-cons (λ x. P (f x)) x xs (All-head P (f x) (map f xs) all) (all_unmapped P f xs (All-tail P (f x) (map f xs) all))

-- choices for one name, joined

abbrev pub joined : {X : Type 0} → List (List X) → List X
joined [] = []
joined (x ∷ xs) = x ++ joined xs

pub joined_more : {X : Type 0} (xs : List (List X)) (i : ℕ) (d : List X) → i < length xs → joined (take (i + 1) xs) ≡ joined (take i xs) ++ get_or xs i d
joined_more xs i d l = ap joined (take_more xs i d l) ∙ push (take i xs) (get_or xs i d)
  where
    push : {X : Type 0} (xs : List (List X)) (x : List X) → joined (xs ++ x ∷ []) ≡ joined xs ++ x
    push [] x = append-nil x
    push (y ∷ xs) x = ap (λ l. y ++ l) (push xs x) ∙ sym (append_assoc y (joined xs) x)

joined_read : (T : Table) (list : List (List Nominal)) → names_read T (joined list) ≡ joined (map (names_read T) list)
joined_read T [] = refl
joined_read T (ns ∷ list) = map-append (nominal_of T) ns (joined list) ∙ ap (λ l. names_read T ns ++ l) (joined_read T list)

joined_singles : {X : Type 0} (xs : List X) → joined (for_each (λ x. (x ∷ []) ∷ []) xs) ≡ xs
joined_singles [] = refl
joined_singles (x ∷ xs) = ap (λ l. x ∷ l) (joined_singles xs)

pub joined_held : (P : Nominal → Type 0) (list : List (List Nominal)) → All (All P) list → All P (joined list)
joined_held P [] all = All-nil P
joined_held P (ns ∷ list) all = All-append P ns (joined list) (All-head (All P) ns list all) (joined_held P list (All-tail (All P) ns list all))

-- they are the constants that may be chosen for it
pub candidates_are : (T : Table) (A : Ty) (free held : List tree.Nominal) (list : List (List Nominal)) → map (names_read T) list ≡ choices (A ∷ []) free held
    → names_read T (joined list) ≡ of_type A free ++ new_constant held A ∷ []
candidates_are T A free held list e = joined_read T list ∙ ap joined e ∙ joined_singles (of_type A free ++ new_constant held A ∷ [])

-- choices that begin with some constants, and this one behind them
abbrev begun_with : List tree.Nominal → List Ty → List tree.Nominal → List tree.Nominal → tree.Nominal → List (List tree.Nominal)
begun_with front As free held a = map (λ ns. (front ++ a ∷ []) ++ ns) (choices As (others a free) (a ∷ held))

one_behind : (front : List tree.Nominal) (a : tree.Nominal) (list : List (List tree.Nominal)) → map (λ ns. front ++ ns) (map (λ ns. a ∷ ns) list) ≡ map (λ ns. (front ++ a ∷ []) ++ ns) list
one_behind front a [] = refl
one_behind front a (ns ∷ list) =
    ap (λ m. m ∷ map (λ ns. front ++ ns) (map (λ ns. a ∷ ns) list)) (sym (append_assoc front (a ∷ []) ns))
    ∙ ap (λ l. ((front ++ a ∷ []) ++ ns) ∷ l) (one_behind front a list)

all_behind : (front : List tree.Nominal) (As : List Ty) (free held cs : List tree.Nominal)
    → map (λ ns. front ++ ns) (for_each (λ a. map (λ ns. a ∷ ns) (choices As (others a free) (a ∷ held))) cs) ≡ for_each (begun_with front As free held) cs
all_behind front As free held [] = refl
all_behind front As free held (a ∷ cs) =
    let behind : tree.Nominal → List (List tree.Nominal) = λ a. map (λ ns. a ∷ ns) (choices As (others a free) (a ∷ held)) in
    map-append (λ ns. front ++ ns) (behind a) (for_each behind cs)
    ∙ ap (λ l. l ++ map (λ ns. front ++ ns) (for_each behind cs)) (one_behind front a (choices As (others a free) (a ∷ held)))
    ∙ ap (λ l. begun_with front As free held a ++ l) (all_behind front As free held cs)

-- the candidates are of the type
candidates_fit : (A : Ty) (free held : List tree.Nominal) → All (λ (a : tree.Nominal). a.type ≡ A) (of_type A free ++ new_constant held A ∷ [])
candidates_fit A free held =
    All-append (λ (a : tree.Nominal). a.type ≡ A) (of_type A free) (new_constant held A ∷ [])
    (All-from_contains (λ (a : tree.Nominal). a.type ≡ A) (of_type A free) (λ a k. (same_type-Decides a.type A).0 (contains_kept (λ b. same_type b.type A) free a k).1))
    (All-cons (λ (a : tree.Nominal). a.type ≡ A) (new_constant held A) [] refl (All-nil (λ (a : tree.Nominal). a.type ≡ A)))

module _ (T : Table) (rest : List TypeId) (b : Begun) where
  -- the choices that begin so, with this constant for the next name
  abbrev pub branch : tree.Nominal → List (List tree.Nominal)
  branch = begun_with (names_read T b.chosen.items) (map (type_of T) rest) (names_read T b.free.items) (names_read T b.held.items)

  -- those of the first candidates
  abbrev pub branches : List Nominal → List (List tree.Nominal)
  branches cs = for_each branch (names_read T cs)

  module _ (cs : List Nominal) (i : ℕ) (d : Nominal) (l : i < length cs) where
    pub branches_more : branches (take (i + 1) cs) ≡ branches (take i cs) ++ branch (nominal_of T (get_or cs i d))
    branches_more =
        ap (for_each branch) (map_more (nominal_of T) cs i d l)
        ∙ for_each-append branch (names_read T (take i cs)) (nominal_of T (get_or cs i d) ∷ [])
        ∙ ap (λ k. branches (take i cs) ++ k) (append-nil (branch (nominal_of T (get_or cs i d))))

    pub branches_at : (later : List (List tree.Nominal)) × (branches cs ≡ branches (take i cs) ++ (branch (nominal_of T (get_or cs i d)) ++ later))
    branches_at =
        let parted = at_place cs i d l in (
          branches parted.0,
          ap branches parted.1
              ∙ ap (for_each branch) (map-append (nominal_of T) (take i cs) (get_or cs i d ∷ parted.0))
              ∙ for_each-append branch (names_read T (take i cs)) (nominal_of T (get_or cs i d) ∷ names_read T parted.0),
        )

  module _ (types : List TypeId) (first : TypeId) (is : types ≡ first ∷ rest) (cs : List Nominal)
      (cs_are : names_read T cs ≡ of_type (type_of T first) (names_read T b.free.items) ++ new_constant (names_read T b.held.items) (type_of T first) ∷ []) where
    pub by_branches : choices_behind T types b ≡ branches cs
    by_branches =
        ap (λ l. choices_behind T l b) is
        ∙ all_behind (names_read T b.chosen.items) (map (type_of T) rest) (names_read T b.free.items) (names_read T b.held.items)
        (of_type (type_of T first) (names_read T b.free.items) ++ new_constant (names_read T b.held.items) (type_of T first) ∷ [])
        ∙ ap (for_each branch) (sym cs_are)

    pub candidate_fits : (i : ℕ) (d : Nominal) → i < length cs → (nominal_of T (get_or cs i d)).type ≡ type_of T first
    candidate_fits i d l =
        All-get_or (λ a. (nominal_of T a).type ≡ type_of T first) cs i d l
        (all_unmapped (λ (a : tree.Nominal). a.type ≡ type_of T first) (nominal_of T) cs
        (subst (All (λ (a : tree.Nominal). a.type ≡ type_of T first)) (sym cs_are) (candidates_fit (type_of T first) (names_read T b.free.items) (names_read T b.held.items))))

-- with no name left there is one choice
pub no_further : (T : Table) (types : List TypeId) (b : Begun) → types ≡ [] → choices_behind T types b ≡ names_read T b.chosen.items ∷ []
no_further T types b none = ap (λ l. choices_behind T l b) none ∙ ap (λ ns. ns ∷ []) (append-nil (names_read T b.chosen.items))

types_stay : (T U : Table) → IsPartOf T U → (As : List TypeId) → All (HoldsType T) As → map (type_of U) As ≡ map (type_of T) As
types_stay T U part [] all = refl
types_stay T U part (A ∷ As) all =
    ap (λ B. B ∷ map (type_of U) As) (type_stays T U part A (All-head (HoldsType T) A As all))
    ∙ ap (λ l. type_of T A ∷ l) (types_stay T U part As (All-tail (HoldsType T) A As all))

pub types_held : (T U : Table) → IsPartOf T U → (As : List TypeId) → All (HoldsType T) As → All (HoldsType U) As
types_held T U part As all = All-weaker (HoldsType T) (HoldsType U) (λ A h. type_still_held T U part A h) As all

pub begun_held : (T U : Table) → IsPartOf T U → (b : Begun) → IsBegun T b → IsBegun U b
begun_held T U part b h = record {
  chosen = names_held T U part b.chosen.items h.chosen;
  free = names_held T U part b.free.items h.free;
  held = names_held T U part b.held.items h.held;
}

-- one constant more is chosen, by a larger table
module _ (T U : Table) (part : IsPartOf T U) (rest : List TypeId) (b more : Begun) (a : Nominal) (rest_held : All (HoldsType T) rest) (b_held : IsBegun T b) (a_held : HoldsNominal T a)
    (chosen : more.chosen.items ≡ b.chosen.items ++ a ∷ []) (free : names_read U more.free.items ≡ others (nominal_of U a) (names_read U b.free.items)) (held : more.held.items ≡ a ∷ b.held.items) where
  same_a : nominal_of U a ≡ nominal_of T a
  same_a = ap (λ A. record { number = a.number; type = A }) (type_stays T U part a.ty a_held)

  chosen_read : names_read U more.chosen.items ≡ names_read T b.chosen.items ++ nominal_of T a ∷ []
  chosen_read =
      ap (names_read U) chosen
      ∙ names_stay T U part (b.chosen.items ++ a ∷ []) (All-push (HoldsNominal T) b.chosen.items a b_held.chosen a_held)
      ∙ map-append (nominal_of T) b.chosen.items (a ∷ [])

  free_read : names_read U more.free.items ≡ others (nominal_of T a) (names_read T b.free.items)
  free_read = free ∙ ap (λ k. others k (names_read U b.free.items)) same_a ∙ ap (others (nominal_of T a)) (names_stay T U part b.free.items b_held.free)

  held_read : names_read U more.held.items ≡ nominal_of T a ∷ names_read T b.held.items
  held_read = ap (names_read U) held ∙ names_stay T U part (a ∷ b.held.items) (All-cons (HoldsNominal T) a b.held.items a_held b_held.held)

  -- ITS CHOICES are the branch
  pub branch_is : choices_behind U rest more ≡ branch T rest b (nominal_of T a)
  branch_is =
      ap (λ front. map (λ ns. front ++ ns) (choices (map (type_of U) rest) (names_read U more.free.items) (names_read U more.held.items))) chosen_read
      ∙ ap (λ As. map (λ ns. (names_read T b.chosen.items ++ nominal_of T a ∷ []) ++ ns) (choices As (names_read U more.free.items) (names_read U more.held.items))) (types_stay T U part rest rest_held)
      ∙ ap (λ l. map (λ ns. (names_read T b.chosen.items ++ nominal_of T a ∷ []) ++ ns) (choices (map (type_of T) rest) l (names_read U more.held.items))) free_read
      ∙ ap (λ l. map (λ ns. (names_read T b.chosen.items ++ nominal_of T a ∷ []) ++ ns) (choices (map (type_of T) rest) (others (nominal_of T a) (names_read T b.free.items)) l)) held_read

  -- and it fits the names as before
  pub more_fits : (types : List TypeId) (first : TypeId) → types ≡ first ∷ rest → (nominal_of T a).type ≡ type_of T first
      → map (λ c. c.type) (names_read U more.chosen.items) ++ map (type_of U) rest ≡ map (λ c. c.type) (names_read T b.chosen.items) ++ map (type_of T) types
  more_fits types first is fits =
      ap (λ l. map (λ (c : tree.Nominal). c.type) l ++ map (type_of U) rest) chosen_read
      ∙ ap (λ l. map (λ (c : tree.Nominal). c.type) (names_read T b.chosen.items ++ nominal_of T a ∷ []) ++ l) (types_stay T U part rest rest_held)
      ∙ ap (λ l. l ++ map (type_of T) rest) (map-append (λ (c : tree.Nominal). c.type) (names_read T b.chosen.items) (nominal_of T a ∷ []))
      ∙ append_assoc (map (λ (c : tree.Nominal). c.type) (names_read T b.chosen.items)) ((nominal_of T a).type ∷ []) (map (type_of T) rest)
      ∙ ap (λ A. map (λ (c : tree.Nominal). c.type) (names_read T b.chosen.items) ++ A ∷ map (type_of T) rest) fits
      ∙ ap (λ l. map (λ (c : tree.Nominal). c.type) (names_read T b.chosen.items) ++ map (type_of T) l) (sym is)
