-- Choices that begin with a constant.
use Rattle.std.proofs.Common.{◌≡◌, suc, ◌-◌, ◌<◌, ◌≤◌, List, [], ◌∷◌, ◌++◌, map, take, drop, length, slice_index_or, refl, sym, ◌∙◌, ap, subst, arith, take_all, append-nil}
use Rattle.std.specs.List.{All}
use Rattle.std.proofs.lemmas.List.{map-append, append_assoc}
use Rattle.std.proofs.lemmas.List.Elements.{All-head, All-tail, All-cons, All-nil, All-append}
use Rattle.ab_term.specs.Types.{Ty}
use Rattle.ab_term.specs.Terms as tree
use Rattle.ab_norm.specs.ab_types.specs.Entries.{Table}
use Rattle.ab_norm.specs.declared.nominal.Nominal.{Nominal}
use Rattle.ab_norm.specs.Nominals.{nominal_of}
use Rattle.ab_unifiers.specs.Choices.{others, for_each, choices}
use Rattle.ab_instances.specs.ListReadings.{names_read}

-- those that begin with the constant
abbrev pub begun_with : List Ty → List tree.Nominal → List tree.Nominal → tree.Nominal → List (List tree.Nominal)
begun_with As free held a = map (λ ns. a ∷ ns) (choices As (others a free) (a ∷ held))

pub rest_is : {X : Type 0} (x : X) (xs : List X) → take (length (x ∷ xs) - 1) (drop 1 (x ∷ xs)) ≡ xs
rest_is x xs = ap (λ n. take n xs) (let e : suc (length xs) - 1 ≡ length xs = omega arith in e) ∙ take_all (length xs) xs (omega arith)

pub rest_all : {X : Type 0} (P : X → Type 0) (xs : List X) → 1 ≤ length xs → All P xs → All P (take (length xs - 1) (drop 1 xs))
rest_all P [] l h = absurd (omega (arith, l))
rest_all P (x ∷ xs) l h = subst (All P) (sym (rest_is x xs)) (All-tail P x xs h)

pub first_all : {X : Type 0} (P : X → Type 0) (xs : List X) (d : X) → 1 ≤ length xs → All P xs → P (slice_index_or xs 0 d)
first_all P [] d l h = absurd (omega (arith, l))
first_all P (x ∷ xs) d l h = All-head P x xs h

pub rest_shorter : {X : Type 0} (xs : List X) → 1 ≤ length xs → length (take (length xs - 1) (drop 1 xs)) < length xs
rest_shorter [] l = absurd (omega (arith, l))
rest_shorter (x ∷ xs) l = let e : length (take (length (x ∷ xs) - 1) (drop 1 (x ∷ xs))) ≡ length xs = ap length (rest_is x xs) in omega (arith, e)

pub first_and_rest : {X : Type 0} (xs : List X) (d : X) → 1 ≤ length xs → xs ≡ slice_index_or xs 0 d ∷ take (length xs - 1) (drop 1 xs)
first_and_rest [] d l = absurd (omega (arith, l))
first_and_rest (x ∷ xs) d l = ap (λ ys. x ∷ ys) (sym (rest_is x xs))

pub for_each-push : {X Y : Type 0} (F : X → List Y) (xs : List X) (x : X) → for_each F (xs ++ x ∷ []) ≡ for_each F xs ++ F x
for_each-push F [] x = append-nil (F x)
for_each-push F (y ∷ xs) x = ap (λ l. F y ++ l) (for_each-push F xs x) ∙ sym (append_assoc (F y) (for_each F xs) (F x))

map_behind : (types : Table) (a : Nominal) (cs : List (List Nominal)) → map (names_read types) (map (λ ns. a ∷ ns) cs) ≡ map (λ ns. nominal_of types a ∷ ns) (map (names_read types) cs)
map_behind types a [] = refl
map_behind types a (ns ∷ cs) = ap (λ l. names_read types (a ∷ ns) ∷ l) (map_behind types a cs)

-- the choices of the rest, each with the constant before it
pub behind_reads : (types : Table) (a : Nominal) (As : List Ty) (old now cs : List (List Nominal)) (free held left more : List Nominal)
    → names_read types left ≡ others (nominal_of types a) (names_read types free) → more ≡ a ∷ held
    → map (names_read types) cs ≡ choices As (names_read types left) (names_read types more)
    → now ≡ old ++ map (λ ns. a ∷ ns) cs
    → map (names_read types) now ≡ map (names_read types) old ++ begun_with As (names_read types free) (names_read types held) (nominal_of types a)
behind_reads types a As old now cs free held left more left_is more_is cs_are now_is =
    ap (map (names_read types)) now_is
    ∙ map-append (names_read types) old (map (λ ns. a ∷ ns) cs)
    ∙ ap (λ l. map (names_read types) old ++ l)
    (map_behind types a cs
    ∙ ap (map (λ ns. nominal_of types a ∷ ns)) (cs_are ∙ ap (λ l. choices As l (names_read types more)) left_is ∙ ap (λ l. choices As (others (nominal_of types a) (names_read types free)) (names_read types l)) more_is))

all_behind : (P : Nominal → Type 0) (a : Nominal) (cs : List (List Nominal)) → P a → All (All P) cs → All (All P) (map (λ ns. a ∷ ns) cs)
all_behind P a [] h all = All-nil (All P)
all_behind P a (ns ∷ cs) h all = All-cons (All P) (a ∷ ns) (map (λ ms. a ∷ ms) cs) (All-cons P a ns h (All-head (All P) ns cs all)) (all_behind P a cs h (All-tail (All P) ns cs all))

pub behind_held : (P : Nominal → Type 0) (a : Nominal) (old now cs : List (List Nominal)) → P a → All (All P) old → All (All P) cs → now ≡ old ++ map (λ ns. a ∷ ns) cs → All (All P) now
behind_held P a old now cs h olds all e = subst (All (All P)) (sym e) (All-append (All P) old (map (λ ns. a ∷ ns) cs) olds (all_behind P a cs h all))
