-- Which nominal constants stand in a term: what is put together of terms has no others.
use Rattle.std.proofs.Common.{◌≡◌, ℕ, zero, List, [], ◌∷◌, map, Option, Some, sym}
use Rattle.std.specs.Prelude.{Contains}
use Rattle.ab_term.specs.Types.{Ty, kind, arrow}
use Rattle.ab_term.specs.Terms.{Nominal, Variable, Head, nominal, Term, Terms, no_terms}
use Rattle.ab_term.specs.Expansion.{expansion_of}
use Rattle.ab_term.specs.Names.{support, support_of_all}
use Rattle.ab_term.specs.Variables.{image_by, image_all_by}
use Rattle.ab_term.specs.Abstraction.{name_terms, close, abstracted, over}
use Rattle.ab_term.proofs.Lists.{Contains-none, Contains-here, Contains-there, Contains-cases}
use Rattle.ab_term.proofs.Standing as standing
use Rattle.ab_term.proofs.Stands as stands
use Rattle.ab_term.proofs.Stands.{Either}
use Rattle.ab_term.proofs.ClosingImages.{support-close}
pub use Rattle.ab_term.proofs.Stands.{either}

abbrev pub Any : Variable ℕ → Type 0
Any y = Unit {0}

module _ {Hint : Type 0} (P : Nominal → Type 0) where
  -- each nominal constant of the term is such a one
  abbrev pub Has : Term ℕ Hint → Type 0
  Has = standing.Has (Either P Any)

  abbrev pub AllHave : Terms ℕ Hint → Type 0
  AllHave = standing.AllHave (Either P Any)

  pub has_support : (t : Term ℕ Hint) → Has t → (a : Nominal) → Contains (support t) a → P a
  has_support = stands.has_names P Any

  pub support_has : (t : Term ℕ Hint) → ((a : Nominal) → Contains (support t) a → P a) → Has t
  support_has t f = stands.has P Any t f (λ y m. tt)

  pub support_all_have : (ts : Terms ℕ Hint) → ((a : Nominal) → Contains (support_of_all ts) a → P a) → AllHave ts
  support_all_have ts f = stands.all_have P Any ts f (λ y m. tt)

  pub expansion_of_has : (x : Hint) (A : Ty) (h : Head ℕ) (ts : Terms ℕ Hint) → standing.HeadHas (Either P Any) h → AllHave ts → Has (expansion_of x A h ts)
  expansion_of_has = standing.expansion_of_has (Either P Any)

  pub name_terms_have : (x : Hint) (A : Ty) (ns : List Nominal) → ((a : Nominal) → Contains ns a → P a) → AllHave (name_terms x A (map nominal ns))
  name_terms_have x A [] f = tt
  name_terms_have x (kind c) (a ∷ ns) f = tt
  name_terms_have x (arrow A B) (a ∷ ns) f = (expansion_of_has x A (nominal a) no_terms (f a (Contains-here a ns)) tt, name_terms_have x B ns (λ b m. f b (Contains-there a ns b m)))

  module _ (f : Variable ℕ → Option (Term ℕ Hint)) (values : (y : Variable ℕ) (u : Term ℕ Hint) → f y ≡ Some u → Has u) where
    carries : standing.Carries (Either P Any) (Either P Any) f
    carries = record { constants = λ c p. p; logicals = λ l p. p; nominals = λ a p. p; stays = λ y e p. p; values = λ y u e p. values y u e }

    pub image_by_has : (t : Term ℕ Hint) → Has t → Has (image_by f t)
    image_by_has = standing.image_by_has (Either P Any) (Either P Any) f carries

    pub image_all_by_have : (ts : Terms ℕ Hint) → AllHave ts → AllHave (image_all_by f ts)
    image_all_by_have = standing.image_all_by_have (Either P Any) (Either P Any) f carries

module _ {Hint : Type 0} (P Q : Nominal → Type 0) (more : (a : Nominal) → P a → Q a) where
  pub has_weaker : (t : Term ℕ Hint) → Has P t → Has Q t
  has_weaker t p = support_has Q t (λ a m. more a (has_support P t p a m))

-- none of these
abbrev pub ButAll : (Nominal → Type 0) → List Nominal → Nominal → Type 0
ButAll P ns b = P b × ¬ (Contains ns b)

module _ {Hint : Type 0} (P : Nominal → Type 0) where
  pub abstracted_has : (x : Hint) (ns : List Nominal) (A : Ty) (t : Term ℕ Hint) → Has P t → Has (ButAll P ns) (abstracted x (over ns A) (map nominal ns) t)
  abstracted_has x [] A t p = has_weaker P (ButAll P []) (λ a q. (q, λ m. Contains-none a m)) t p
  abstracted_has x (b ∷ ns) A t p =
      let inner = abstracted x (over ns A) (map nominal ns) t in
      support_has (ButAll P (b ∷ ns)) (close zero (nominal b) inner) (λ a m.
      let stood = support-close zero (nominal b) inner a m in
      let before = has_support (ButAll P ns) inner (abstracted_has x ns A t p) a stood.0 in
      (before.0, λ k. either (λ e. stood.1 (λ i. nominal (sym e i))) before.1 (Contains-cases b ns a k)))
