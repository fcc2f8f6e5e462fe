-- An image depends only on what is put in for the variables of the term; a name's eta-long form has none.
use Rattle.std.proofs.Common.{◌≡◌, ℕ, List, [], ◌∷◌, ◌++◌, Bool, true, false, ◌||◌, Option, refl, sym, ◌∙◌, ap, subst}
use Rattle.std.specs.Prelude.{Contains}
use Rattle.std.proofs.lemmas.Bool.{false≢true, or_left, or_right}
use Rattle.ab_term.specs.Types.{Ty}
use Rattle.ab_term.specs.Terms.{Variable, Head, constant, logical, nominal, variable, index, Term, Terms, no_terms}
use Rattle.ab_term.specs.Variables.{variables_of_head, variables, variables_of_all, image_by, image_all_by}
use Rattle.ab_term.specs.Sameness.{same_numbered}
use Rattle.ab_term.specs.Abstraction.{is_name}
use Rattle.ab_term.proofs.Lists.{Contains-none, Contains-cases}
use Rattle.ab_term.proofs.Same.{same_numbered-Decides}
use Rattle.ab_term.proofs.Stands.{either, variables-expansion_of}
use Rattle.ab_term.proofs.PastHints.{variables-forget}
use Rattle.ab_term.proofs.Depends as depends
use Rattle.ab_term.proofs.Depends.{nothing, image_all_nothing}
use Rattle.ab_unifiers.specs.Replacements.{holds}
use Rattle.ab_unifiers.proofs.Views.{IsPattern, pattern_end, pattern_more}

pub holds_front : (ys zs : List (Variable ℕ)) (y : Variable ℕ) → holds ys y ≡ true → holds (ys ++ zs) y ≡ true
holds_front [] zs y e = absurd (false≢true e)
holds_front (v ∷ vs) zs y e = go (same_numbered v y) (holds_front vs zs y) e
  where
    go : (b : Bool) → (holds vs y ≡ true → holds (vs ++ zs) y ≡ true) → (b || holds vs y) ≡ true → (b || holds (vs ++ zs) y) ≡ true
    go true rest f = refl
    go false rest f = rest f

pub holds_behind : (ys zs : List (Variable ℕ)) (y : Variable ℕ) → holds zs y ≡ true → holds (ys ++ zs) y ≡ true
holds_behind [] zs y e = e
holds_behind (v ∷ vs) zs y e = or_right (same_numbered v y) (holds (vs ++ zs) y) (holds_behind vs zs y e)

pub holds_itself : (y : Variable ℕ) → holds (y ∷ []) y ≡ true
holds_itself y = or_left (same_numbered y y) false ((same_numbered-Decides y y).1 refl)

-- what a list of variables contains passes the test
pub contains_holds : (ys : List (Variable ℕ)) (y : Variable ℕ) → Contains ys y → holds ys y ≡ true
contains_holds [] y m = absurd (Contains-none y m)
contains_holds (v ∷ vs) y m =
    either (λ e. or_left (same_numbered v y) (holds vs y) ((same_numbered-Decides v y).1 e)) (λ n. or_right (same_numbered v y) (holds vs y) (contains_holds vs y n)) (Contains-cases v vs y m)

module _ {Hint : Type 0} (f g : Variable ℕ → Option (Term ℕ Hint)) where
  pub image_agrees : (t : Term ℕ Hint) → ((y : Variable ℕ) → holds (variables t) y ≡ true → f y ≡ g y) → image_by f t ≡ image_by g t
  image_agrees t a = depends.image_agrees f g t (λ y m. a y (contains_holds (variables t) y m))

name_rigid : (h : Head ℕ) → is_name h ≡ true → variables_of_head h ≡ []
name_rigid (constant c) e = refl
name_rigid (logical l) e = refl
name_rigid (nominal a) e = refl
name_rigid (variable y) e = absurd (false≢true e)
name_rigid (index i) e = refl

module _ {Hint : Type 0} where
  -- no variable stands in names
  pub pattern_rigid : {A : Ty} {ts : Terms ℕ Hint} {hs : List (Head ℕ)} → IsPattern A ts hs → variables_of_all ts ≡ []
  pattern_rigid pattern_end = refl
  pattern_rigid (pattern_more {A = A} {t = t} {ts = ts} {h = h} n d p) =
      ap (λ l. l ++ variables_of_all ts)
      (sym (variables-forget t) ∙ ap variables n.expansion ∙ variables-expansion_of tt A h no_terms ∙ ap (λ l. l ++ []) (name_rigid h n.name))
      ∙ pattern_rigid p

  -- names are not replaced
  pub image_pattern : (f : Variable ℕ → Option (Term ℕ Hint)) {A : Ty} {ts : Terms ℕ Hint} {hs : List (Head ℕ)} → IsPattern A ts hs → image_all_by f ts ≡ ts
  image_pattern f {ts = ts} p =
      depends.image_all_agrees f nothing ts (λ y m. absurd (Contains-none y (subst (λ l. Contains l y) (pattern_rigid p) m)))
      ∙ image_all_nothing ts
