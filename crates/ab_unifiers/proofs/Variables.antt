-- Which variables stand in a term: what is put together of terms has no others.
use Rattle.std.proofs.Common.{◌≡◌, ℕ, List, [], ◌∷◌, map, Bool, true, false, ◌||◌, Option, Some, None, refl, subst}
use Rattle.std.specs.Prelude.{Contains}
use Rattle.std.proofs.lemmas.Bool.{false≢true}
use Rattle.ab_term.specs.Types.{Ty, kind, arrow}
use Rattle.ab_term.specs.Terms.{Nominal, Variable, Head, nominal, Term, Terms, no_terms}
use Rattle.ab_term.specs.Expansion.{expansion_of}
use Rattle.ab_term.specs.Variables.{variables, variables_of_all, image_by, image_all_by}
use Rattle.ab_term.specs.Sameness.{same_numbered}
use Rattle.ab_term.specs.Abstraction.{name_terms}
use Rattle.ab_term.proofs.Lists.{Contains-here, Contains-there}
use Rattle.ab_term.proofs.Same.{same_numbered-Decides}
use Rattle.ab_term.proofs.Standing as standing
use Rattle.ab_term.proofs.Stands as stands
use Rattle.ab_term.proofs.Stands.{Either}
use Rattle.ab_unifiers.specs.Replacements.{holds}
use Rattle.ab_unifiers.proofs.Agreeing.{contains_holds}

abbrev pub Any : Nominal → Type 0
Any a = Unit {0}

-- what passes the test is contained
pub holds_contains : (ys : List (Variable ℕ)) (y : Variable ℕ) → holds ys y ≡ true → Contains ys y
holds_contains [] y h = absurd (false≢true h)
holds_contains (z ∷ ys) y h = go (same_numbered z y) refl h (holds_contains ys y)
  where
    go : (b : Bool) → same_numbered z y ≡ b → (b || holds ys y) ≡ true → (holds ys y ≡ true → Contains ys y) → Contains (z ∷ ys) y
    go true e g rest = subst (Contains (z ∷ ys)) ((same_numbered-Decides z y).0 e) (Contains-here z ys)
    go false e g rest = Contains-there z ys y (rest g)

module _ {Hint : Type 0} (P : Variable ℕ → Type 0) where
  -- each variable of the term is such a one
  abbrev pub Has : Term ℕ Hint → Type 0
  Has = standing.Has (Either Any P)

  abbrev pub AllHave : Terms ℕ Hint → Type 0
  AllHave = standing.AllHave (Either Any P)

  pub has_held : (t : Term ℕ Hint) → Has t → (y : Variable ℕ) → holds (variables t) y ≡ true → P y
  has_held t p y h = stands.has_variables Any P t p y (holds_contains (variables t) y h)

  pub held_has : (t : Term ℕ Hint) → ((y : Variable ℕ) → holds (variables t) y ≡ true → P y) → Has t
  held_has t f = stands.has Any P t (λ a m. tt) (λ y m. f y (contains_holds (variables t) y m))

  pub held_all_have : (ts : Terms ℕ Hint) → ((y : Variable ℕ) → holds (variables_of_all ts) y ≡ true → P y) → AllHave ts
  held_all_have ts f = stands.all_have Any P ts (λ a m. tt) (λ y m. f y (contains_holds (variables_of_all ts) y m))

  pub expansion_of_has : (x : Hint) (A : Ty) (h : Head ℕ) (ts : Terms ℕ Hint) → standing.HeadHas (Either Any P) h → AllHave ts → Has (expansion_of x A h ts)
  expansion_of_has = standing.expansion_of_has (Either Any P)

  pub name_terms_have : (x : Hint) (A : Ty) (ns : List Nominal) → AllHave (name_terms x A (map nominal ns))
  name_terms_have x A [] = tt
  name_terms_have x (kind c) (a ∷ ns) = tt
  name_terms_have x (arrow A B) (a ∷ ns) = (expansion_of_has x A (nominal a) no_terms tt tt, name_terms_have x B ns)

module _ {Hint : Type 0} (P Q : Variable ℕ → Type 0) (f : Variable ℕ → Option (Term ℕ Hint)) (values : (y : Variable ℕ) (u : Term ℕ Hint) → f y ≡ Some u → Has Q u) (stays : (y : Variable ℕ) → f y ≡ None → P y → Q y) where
  carries : standing.Carries (Either Any P) (Either Any Q) f
  carries = record { constants = λ c p. p; logicals = λ l p. p; nominals = λ a p. p; stays = stays; values = λ y u e p. values y u e }

  pub image_by_has : (t : Term ℕ Hint) → Has P t → Has Q (image_by f t)
  image_by_has = standing.image_by_has (Either Any P) (Either Any Q) f carries

  pub image_all_by_have : (ts : Terms ℕ Hint) → AllHave P ts → AllHave Q (image_all_by f ts)
  image_all_by_have = standing.image_all_by_have (Either Any P) (Either Any Q) f carries
