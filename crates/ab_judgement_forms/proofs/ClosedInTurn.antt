-- Variables of a row are closed one after another: the formula under `exists` for all of them has bound names in their places.
use Rattle.std.proofs.Common.{◌≡◌, ℕ, zero, suc, ◌+◌, ◌≤◌, List, [], ◌∷◌, ◌++◌, map, length, cond, refl, sym, ◌∙◌, ap, subst, arith}
use Rattle.std.specs.Prelude.{Contains}
use Rattle.std.proofs.lemmas.List.{map-id}
use Rattle.std.proofs.lemmas.Bool.{false_from_ne_true}
use Rattle.ab_term.specs.Types.{Ty}
use Rattle.ab_term.specs.Logical.{existential}
use Rattle.ab_term.specs.Terms as tree
use Rattle.ab_term.specs.Terms.{Head, logical, variable, index, lam, spine, no_terms, term, Read}
use Rattle.ab_term.specs.Typing.{Signature, HasType}
use Rattle.ab_term.specs.Substitution.{instance, instance_by_all}
use Rattle.ab_term.specs.Expansion.{expansion}
use Rattle.ab_term.specs.Reach.{reach}
use Rattle.ab_term.specs.Sameness.{same_head}
use Rattle.ab_term.specs.Variables.{variables}
use Rattle.ab_term.specs.Abstraction.{close, close_head}
use Rattle.ab_term.proofs.Lists.{Contains-here, Contains-there}
use Rattle.ab_term.proofs.Closing.{close_typed}
use Rattle.ab_term.proofs.ClosingImages.{close_closed}
use Rattle.ab_term.proofs.ClosingThrough.{close-instance, close-expansion_of, shift_index-below}
use Rattle.ab_term.proofs.Preservation.{Insert, here, there}
use Rattle.ab_term.proofs.Same.{same_head-Decides}
use Rattle.ab_unifiers.specs.Replacements.{Cell}
use Rattle.ab_formulas.specs.Sequents.{Variable, in_terms}
use Rattle.ab_theory.specs.Splits.{cell_for}
use Rattle.ab_theory.specs.Unfolding.{exists_all}
use Rattle.ab_judgement_forms.specs.DemandWalks.{exists_names}

-- the head, and the term, where the variables are the names of as many binders, the last the innermost
abbrev pub closed_head : List Variable → Head ℕ → Head ℕ
closed_head [] g = g
closed_head (y ∷ ys) g = close_head (length ys) (variable (in_terms y)) (closed_head ys g)

abbrev pub closed_all : List Variable → Read → Read
closed_all [] t = t
closed_all (y ∷ ys) t = close (length ys) (variable (in_terms y)) (closed_all ys t)

-- UNDER `exists`
close_names : (k : ℕ) (y : tree.Variable ℕ) (cs : List (Cell (List ℕ))) (F : Read) → close k (variable y) (exists_names cs F) ≡ exists_names cs (close (length cs + k) (variable y) F)
close_names k y [] F = let count : k ≡ zero + k = omega arith in ap (λ i. close i (variable y) F) count
close_names k y (c ∷ cs) F =
    let count : length cs + suc k ≡ suc (length cs) + k = omega arith in
    ap (λ t. spine (logical (existential c.type)) (term (lam c.type c.hint t) no_terms))
    (close_names (suc k) y cs F ∙ ap (λ i. exists_names cs (close i (variable y) F)) count)

cells_length : (ys : List Variable) → length (map cell_for ys) ≡ length ys
cells_length [] = refl
cells_length (y ∷ ys) = ap suc (cells_length ys)

pub exists_closed : (ys : List Variable) (F : Read) → exists_all ys F ≡ exists_names (map cell_for ys) (closed_all ys F)
exists_closed [] F = refl
exists_closed (y ∷ ys) F =
    let count : length ys + zero ≡ length ys = omega arith in
    ap (λ t. spine (logical (existential y.type)) (term (lam y.type y.name t) no_terms))
    (ap (close zero (variable (in_terms y))) (exists_closed ys F)
    ∙ close_names zero (in_terms y) (map cell_for ys) (closed_all ys F)
    ∙ ap (λ i. exists_names (map cell_for ys) (close i (variable (in_terms y)) (closed_all ys F))) (ap (λ i. i + zero) (cells_length ys) ∙ count))

-- THROUGH instances and eta-long forms
close-instances : (k : ℕ) (h : Head ℕ) (us : List Read) (t : Read) → close k h (instance_by_all t us) ≡ instance_by_all (close k h t) (map (close k h) us)
close-instances k h [] t = refl
close-instances k h (u ∷ us) t = close-instances k h us (instance t u) ∙ ap (λ w. instance_by_all w (map (close k h) us)) (close-instance k h t u)

pub map_then : {X Y Z : Type 0} (f : X → Y) (g : Y → Z) (xs : List X) → map g (map f xs) ≡ map (λ x. g (f x)) xs
map_then f g [] = refl
map_then f g (x ∷ xs) = ap (λ l. g (f x) ∷ l) (map_then f g xs)

pub closed-instances : (ys : List Variable) (t : Read) (us : List Read) → closed_all ys (instance_by_all t us) ≡ instance_by_all (closed_all ys t) (map (closed_all ys) us)
closed-instances [] t us = ap (instance_by_all t) (sym (map-id us))
closed-instances (y ∷ ys) t us =
    let h = variable (in_terms y) in
    ap (close (length ys) h) (closed-instances ys t us)
    ∙ close-instances (length ys) h (map (closed_all ys) us) (closed_all ys t)
    ∙ ap (instance_by_all (closed_all (y ∷ ys) t)) (map_then (closed_all ys) (close (length ys) h) us)

pub closed-expansion : (x : List ℕ) (A : Ty) (ys : List Variable) (g : Head ℕ) → closed_all ys (expansion x A g) ≡ expansion x A (closed_head ys g)
closed-expansion x A [] g = refl
closed-expansion x A (y ∷ ys) g =
    ap (close (length ys) (variable (in_terms y))) (closed-expansion x A ys g)
    ∙ close-expansion_of x A (length ys) (variable (in_terms y)) (closed_head ys g) no_terms

-- A VARIABLE OF THE ROW, and others
abbrev pub AreOther : ℕ → List Variable → Type 0
AreOther i [] = Unit {0}
AreOther i (y ∷ ys) = ((y.number ≡ i → ⊥) × AreOther i ys)

other_closed : (k : ℕ) (y : Variable) (z : tree.Variable ℕ) → (y.number ≡ z.name → ⊥) → close_head k (variable (in_terms y)) (variable z) ≡ variable z
other_closed k y z n =
    ap (λ b. cond b (index k) (variable z))
    (false_from_ne_true (same_head (variable z) (variable (in_terms y)))
    (λ e. let same : variable z ≡ variable (in_terms y) = (same_head-Decides (variable z) (variable (in_terms y))).0 e in n (cc)))

pub others_stay : (ys : List Variable) (z : tree.Variable ℕ) → AreOther z.name ys → closed_head ys (variable z) ≡ variable z
others_stay [] z o = refl
others_stay (y ∷ ys) z o = ap (close_head (length ys) (variable (in_terms y))) (others_stay ys z o.1) ∙ other_closed (length ys) y z o.0

pub its_name : (front : List Variable) (y : Variable) (behind : List Variable) → AreOther y.number behind → AreOther y.number front → closed_head (front ++ y ∷ behind) (variable (in_terms y)) ≡ index (length behind)
its_name [] y behind o p =
    ap (close_head (length behind) (variable (in_terms y))) (others_stay behind (in_terms y) o)
    ∙ ap (λ b. cond b (index (length behind)) (variable (in_terms y))) ((same_head-Decides (variable (in_terms y)) (variable (in_terms y))).1 refl)
its_name (z ∷ front) y behind o p =
    ap (close_head (length (front ++ y ∷ behind)) (variable (in_terms z))) (its_name front y behind o p.1)
    ∙ ap index (shift_index-below (length (front ++ y ∷ behind)) (length behind) (more front))
  where
    more : (front : List Variable) → suc (length behind) ≤ length (front ++ y ∷ behind)
    more [] = omega arith
    more (w ∷ front) = omega (arith, more front)

-- none of them stands in the closed term
pub none_closed : (ys : List Variable) (t : Read) → reach t ≤ 0 → ((y : Variable) → Contains ys y → ¬ Contains (variables t) (in_terms y)) → closed_all ys t ≡ t
none_closed [] t r n = refl
none_closed (y ∷ ys) t r n =
    ap (close (length ys) (variable (in_terms y))) (none_closed ys t r (λ z m. n z (Contains-there y ys z m)))
    ∙ close_closed (length ys) (variable (in_terms y)) t r (n y (Contains-here y ys))

-- TYPED under these binders
abbrev pub names_above : List Variable → List Ty
names_above [] = []
names_above (y ∷ ys) = names_above ys ++ y.type ∷ []

insert_last : (G : List Ty) (A : Ty) → Insert (length G) A G (G ++ A ∷ [])
insert_last [] A = here
insert_last (B ∷ G) A = there (insert_last G A)

last_length : (G : List Ty) (A : Ty) → length (G ++ A ∷ []) ≡ suc (length G)
last_length [] A = refl
last_length (B ∷ G) A = ap suc (last_length G A)

above_length : (ys : List Variable) → length (names_above ys) ≡ length ys
above_length [] = refl
above_length (y ∷ ys) = last_length (names_above ys) y.type ∙ ap suc (above_length ys)

pub closed_all_typed : (sg : Signature) (ys : List Variable) {t : Read} {B : Ty} → HasType sg [] t B → HasType sg (names_above ys) (closed_all ys t) B
closed_all_typed sg [] d = d
closed_all_typed sg (y ∷ ys) d =
    close_typed sg (variable (in_terms y))
    (subst (λ k. Insert k y.type (names_above ys) (names_above ys ++ y.type ∷ [])) (above_length ys) (insert_last (names_above ys) y.type)) refl (closed_all_typed sg ys d)
