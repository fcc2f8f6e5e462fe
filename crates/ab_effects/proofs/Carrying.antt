-- The goal under an answer, with other numbers.
use Rattle.std.proofs.Common.{◌≡◌, ℕ, ◌+◌, List, [], ◌∷◌, ◌++◌, map, length, drop, filter, Bool, true, false, cond, not, refl, sym, ◌∙◌, ap, subst, arith, codes, length-append}
use Rattle.std.proofs.Math.Seq.{drop-append_seam}
use Rattle.ab_term.specs.Terms.{variable, Read}
use Rattle.ab_term.specs.Translation.{translate_variable}
use Rattle.ab_term.specs.Variables.{Substitution, image}
use Rattle.ab_term.specs.Sameness.{same_number}
use Rattle.ab_term.proofs.Translations.{map-append, translate-expansion}
use Rattle.ab_term.proofs.ImageTranslations.{translate-image}
use Rattle.ab_unifiers.specs.Replacements.{Cell, holds}
use Rattle.ab_unifiers.specs.Unifiers.{keys}
use Rattle.ab_formulas.specs.Sequents.{Variable, Hypothesis, Sequent, in_terms, over}
use Rattle.ab_formulas.specs.NamedGoals.{variable_named}
use Rattle.ab_theory.specs.Equations.{stays, variables_from, made, Naming, Named, variable_term, renaming, under, Carried}
use Rattle.ab_unifiers.specs.Renumbering.{renumbered, renumbered_pairs, IsRenumbering}
use Rattle.ab_unifiers.proofs.Tests.{holds_moved}
use Rattle.ab_unifiers.proofs.Changes.{agreeing}
use Rattle.ab_effects.proofs.Namings.{HaveSameNames, IsByNames, IsSettled}
use Rattle.ab_effects.proofs.Renumbered.{moved_variable, moved_hypothesis, moved_goal, names_kept}

filter_map : {X Y : Type 0} (g : X → Y) (p : X → Bool) (q : Y → Bool) → ((x : X) → q (g x) ≡ p x) → (xs : List X) → filter q (map g xs) ≡ map g (filter p xs)
filter_map g p q same [] = refl
filter_map g p q same (x ∷ xs) =
    ap (λ b. cond b (g x ∷ filter q (map g xs)) (filter q (map g xs))) (same x)
    ∙ ap (λ l. cond (p x) (g x ∷ l) l) (filter_map g p q same xs)
    ∙ go (p x)
  where
    go : (b : Bool) → cond b (g x ∷ map g (filter p xs)) (map g (filter p xs)) ≡ map g (cond b (x ∷ filter p xs) (filter p xs))
    go true = refl
    go false = refl

keys_moved : (f : ℕ → ℕ) (a : Substitution ℕ (List ℕ)) → keys (renumbered_pairs f a) ≡ map (translate_variable f) (keys a)
keys_moved f [] = refl
keys_moved f (p ∷ a) = ap (λ l. translate_variable f p.0 ∷ l) (keys_moved f a)

-- the numbers from n on become those from m on
abbrev pub GoOn : (ℕ → ℕ) → ℕ → ℕ → Type 0
GoOn f n m = (k : ℕ) → f (n + k) ≡ m + k

pub one_on : (f : ℕ → ℕ) (n m : ℕ) → GoOn f n m → GoOn f (n + 1) (m + 1)
one_on f n m on k =
    let before : n + 1 + k ≡ n + (1 + k) = omega arith in
    let behind : m + (1 + k) ≡ m + 1 + k = omega arith in
    ap f before ∙ on (1 + k) ∙ behind

pub at_once : (f : ℕ → ℕ) (n m : ℕ) → GoOn f n m → f n ≡ m
at_once f n m on =
    let before : n ≡ n + 0 = omega arith in
    let behind : m + 0 ≡ m = omega arith in
    ap f before ∙ on 0 ∙ behind

from_moved : (f : ℕ → ℕ) (cs : List (Cell (List ℕ))) (n m : ℕ) → GoOn f n m → variables_from m cs ≡ map (moved_variable f) (variables_from n cs)
from_moved f [] n m on = refl
from_moved f (c ∷ cs) n m on =
    ap (λ j. record { number = j; type = c.type; name = c.hint } ∷ variables_from (m + 1) cs) (sym (at_once f n m on))
    ∙ ap (λ l. record { number = f n; type = c.type; name = c.hint } ∷ l) (from_moved f cs (n + 1) (m + 1) (one_on f n m on))

pub names_more : (s u : Sequent) (y z : Variable) → HaveSameNames s u → variable_named y ≡ variable_named z → HaveSameNames (over y s) (over z u)
names_more s u y z same one =
    map-append variable_named s.variables (y ∷ [])
    ∙ ap (λ l. l ++ variable_named y ∷ []) same
    ∙ ap (λ v. map variable_named u.variables ++ v ∷ []) one
    ∙ sym (map-append variable_named u.variables (z ∷ []))

pub named_list : (IsName : Naming) → IsByNames IsName → (f : ℕ → ℕ) (s u : Sequent) (n m : ℕ) (xs ys : List Variable) → HaveSameNames s u → GoOn f n m → Named IsName s n xs ys → Named IsName u m (map (moved_variable f) xs) (map (moved_variable f) ys)
named_list IsName by f s u n m [] [] same on d = tt
named_list IsName by f s u n m [] (y ∷ ys) same on d = absurd d
named_list IsName by f s u n m (x ∷ xs) [] same on d = absurd d
named_list IsName by f s u n m (x ∷ xs) (y ∷ ys) same on d = (
  ap f d.0 ∙ at_once f n m on,
  d.1,
  by s u x.name y.name same d.2,
  named_list IsName by f (over y s) (over (moved_variable f y) u) (n + 1) (m + 1) xs ys (names_more s u y (moved_variable f y) same refl) (one_on f n m on) d.3,
)

-- each new variable is one
pub named_once : (IsName : Naming) → IsSettled IsName → (s : Sequent) (n : ℕ) (xs ys zs : List Variable) → Named IsName s n xs ys → Named IsName s n xs zs → ys ≡ zs
named_once IsName settled s n [] [] [] d e = refl
named_once IsName settled s n [] [] (z ∷ zs) d e = absurd e
named_once IsName settled s n [] (y ∷ ys) zs d e = absurd d
named_once IsName settled s n (x ∷ xs) [] zs d e = absurd d
named_once IsName settled s n (x ∷ xs) (y ∷ ys) [] d e = absurd e
named_once IsName settled s n (x ∷ xs) (y ∷ ys) (z ∷ zs) d e =
    let number : y.number ≡ z.number = d.0 ∙ sym e.0 in
    let type : y.type ≡ z.type = d.1 ∙ sym e.1 in
    let name : y.name ≡ z.name = settled s x.name y.name z.name d.2 e.2 in
    let one : y ≡ z = λ i. record { number = number i; type = type i; name = name i } in
    let rest = named_once IsName settled (over y s) (n + 1) xs ys zs d.3 (subst (λ v. Named IsName (over v s) (n + 1) xs zs) (sym one) e.3) in
    ap (λ v. v ∷ ys) one ∙ ap (λ l. z ∷ l) rest

pub carried_once : (IsName : Naming) → IsSettled IsName → (cells : List (Cell (List ℕ))) (s : Sequent) (more : List (Cell (List ℕ))) (a : Substitution ℕ (List ℕ)) (g h : Sequent) → Carried IsName cells s more a g → Carried IsName cells s more a h → g ≡ h
carried_once IsName settled cells s more a g h d e =
    d.2 ∙ ap (λ ys. under cells more a ys s) (named_once IsName settled s (length more) (made cells more a) d.0 e.0 d.1 e.1) ∙ sym e.2

module _ (f : ℕ → ℕ) (cells others : List (Cell (List ℕ))) (r : IsRenumbering f cells others) where
  abbrev A : (i j : ℕ) → same_number (f i) (f j) ≡ same_number i j
  A = agreeing f r.different

  abbrev M : Variable → Variable
  M = moved_variable f

  -- the other cells, with those that were made
  abbrev pub most_of : List (Cell (List ℕ)) → List (Cell (List ℕ))
  most_of more = others ++ drop (length cells) more

  stays_moved : (a : Substitution ℕ (List ℕ)) (x : Variable) → stays (renumbered_pairs f a) (M x) ≡ stays a x
  stays_moved a x =
      ap (λ l. not (holds l (translate_variable f (in_terms x)))) (keys_moved f a)
      ∙ ap not (holds_moved f A (keys a) (in_terms x))

  pub made_moved : (more : List (Cell (List ℕ))) (a : Substitution ℕ (List ℕ)) → made others (most_of more) (renumbered_pairs f a) ≡ map M (made cells more a)
  made_moved more a =
      ap (λ cs. filter (stays (renumbered_pairs f a)) (variables_from (length others) cs)) (drop-append_seam others (drop (length cells) more))
      ∙ ap (filter (stays (renumbered_pairs f a))) (from_moved f (drop (length cells) more) (length cells) (length others) r.behind)
      ∙ filter_map M (stays a) (stays (renumbered_pairs f a)) (stays_moved a) (variables_from (length cells) (drop (length cells) more))

  renaming_moved : (xs ys : List Variable) → renumbered_pairs f (renaming xs ys) ≡ renaming (map M xs) (map M ys)
  renaming_moved [] ys = refl
  renaming_moved (x ∷ xs) [] = refl
  renaming_moved (x ∷ xs) (y ∷ ys) =
      ap (λ t. (in_terms (M x), t) ∷ renumbered_pairs f (renaming xs ys)) (translate-expansion f (λ x. x) (codes "x") y.type (variable (in_terms y)))
      ∙ ap (λ l. (in_terms (M x), variable_term (M y)) ∷ l) (renaming_moved xs ys)

  module _ (more : List (Cell (List ℕ))) (a : Substitution ℕ (List ℕ)) (ys : List Variable) where
    abbrev pub before : Read → Read
    before F = image same_number (renaming (made cells more a) ys) (image same_number a F)

    abbrev pub behind : Read → Read
    behind F = image same_number (renaming (made others (most_of more) (renumbered_pairs f a)) (map M ys)) (image same_number (renumbered_pairs f a) F)

    formula_moved : (F : Read) → renumbered f (before F) ≡ behind (renumbered f F)
    formula_moved F =
        translate-image f (λ x. x) same_number same_number A (renaming (made cells more a) ys) (image same_number a F)
        ∙ ap (image same_number (renumbered_pairs f (renaming (made cells more a) ys))) (translate-image f (λ x. x) same_number same_number A a F)
        ∙ ap (λ q. image same_number q (image same_number (renumbered_pairs f a) (renumbered f F)))
        (renaming_moved (made cells more a) ys ∙ ap (λ l. renaming l (map M ys)) (sym (made_moved more a)))

    hypotheses_moved : (hs : List Hypothesis)
        → map (moved_hypothesis f) (map (λ (h : Hypothesis). record { name = h.name; formula = before h.formula }) hs)
        ≡ map (λ (h : Hypothesis). record { name = h.name; formula = behind h.formula }) (map (moved_hypothesis f) hs)
    hypotheses_moved [] = refl
    hypotheses_moved (h ∷ hs) =
        ap (λ F. record { name = h.name; formula = F } ∷ map (moved_hypothesis f) (map (λ (h : Hypothesis). record { name = h.name; formula = before h.formula }) hs)) (formula_moved h.formula)
        ∙ ap (λ l. record { name = h.name; formula = behind (renumbered f h.formula) } ∷ l) (hypotheses_moved hs)

    pub under_moved : (s : Sequent) → moved_goal f (under cells more a ys s) ≡ under others (most_of more) (renumbered_pairs f a) (map M ys) (moved_goal f s)
    under_moved s =
        let variables : map M (filter (stays a) s.variables ++ ys) ≡ filter (stays (renumbered_pairs f a)) (map M s.variables) ++ map M ys =
        map-append M (filter (stays a) s.variables) ys
        ∙ ap (λ l. l ++ map M ys) (sym (filter_map M (stays a) (stays (renumbered_pairs f a)) (stays_moved a) s.variables)) in
        let hypotheses = hypotheses_moved s.hypotheses in
        let conclusion = formula_moved s.conclusion in
        λ i. record { variables = variables i; hypotheses = hypotheses i; conclusion = conclusion i; counter = s.counter }

  pub behind_more : (more new : List (Cell (List ℕ))) → more ≡ cells ++ new → GoOn f (length more) (length (most_of more))
  behind_more more new e k =
      let rest : drop (length cells) more ≡ new = ap (drop (length cells)) e ∙ drop-append_seam cells new in
      let long : length more ≡ length cells + length new = ap (λ (l : List (Cell (List ℕ))). length l) e ∙ length-append cells new in
      let far : length (most_of more) ≡ length others + length new = ap (λ l. length (others ++ l)) rest ∙ length-append others new in
      let one : length more + k ≡ length cells + (length new + k) = omega (arith, long) in
      let two : length others + (length new + k) ≡ length (most_of more) + k = omega (arith, far) in
      ap f one ∙ r.behind (length new + k) ∙ two

  -- THE GOAL UNDER THE ANSWER, with other numbers
  pub carried_moved : (IsName : Naming) → IsByNames IsName → (s : Sequent) (more new : List (Cell (List ℕ))) (a : Substitution ℕ (List ℕ)) (g : Sequent) → more ≡ cells ++ new
      → Carried IsName cells s more a g → Carried IsName others (moved_goal f s) (most_of more) (renumbered_pairs f a) (moved_goal f g)
  carried_moved IsName by s more new a g e d = (
    map M d.0,
    subst (λ l. Named IsName (moved_goal f s) (length (most_of more)) l (map M d.0)) (sym (made_moved more a))
        (named_list IsName by f s (moved_goal f s) (length more) (length (most_of more)) (made cells more a) d.0 (sym (names_kept f s.variables)) (behind_more more new e) d.1),
    ap (moved_goal f) d.2 ∙ under_moved more a d.0 s,
  )
