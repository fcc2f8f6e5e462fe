-- WHAT OPEN VARIABLES ARE FILLED WITH: each by a constant of its type that isn't held.
use Rattle.std.proofs.Common.{◌≡◌, ◌⊎◌, inl, inr, ℕ, List, [], ◌∷◌, codes, Bool, true, false, cond, ◌||◌, Some, refl, sym, ◌∙◌, ap, subst}
use Rattle.std.specs.Prelude.{Contains}
use Rattle.std.proofs.lemmas.Bool.{false≢true}
use Rattle.std.proofs.lemmas.List.Elements.{All-nil, All-cons}
use Rattle.ab_term.specs.Types.{Ty}
use Rattle.ab_term.specs.Terms.{Nominal, Variable, nominal, no_terms, Read}
use Rattle.ab_term.specs.Typing.{Signature, HasType}
use Rattle.ab_term.specs.Names.{support, HasOneTypeEach}
use Rattle.ab_term.specs.Variables.{variables, value_in, IsTyped}
use Rattle.ab_term.specs.Sameness.{same_numbered, same_number}
use Rattle.ab_term.proofs.Lists.{Contains-none, Contains-here, Contains-there, Contains-cases}
use Rattle.ab_term.proofs.Stands.{support-expansion_of, variables-expansion_of}
use Rattle.ab_term.proofs.Expansions.{expansion_typed}
use Rattle.ab_unifiers.specs.Replacements.{holds}
use Rattle.ab_unifiers.specs.Clauses.{name_term}
use Rattle.ab_unifiers.specs.Choices.{new_constant}
use Rattle.ab_unifiers.specs.Unifiers.{keys}
use Rattle.ab_unifiers.proofs.Matching.{new_is_new}
use Rattle.ab_search_trees.specs.Outcomes.{filling}

pub name_typed : (sg : Signature) (a : Nominal) → HasType sg [] (name_term (codes "x") a) a.type
name_typed sg a = expansion_typed sg (codes "x") a.type [] (nominal a) refl

-- a constant as a term holds no variable, and no other constant
pub name_without : (a : Nominal) (y : Variable ℕ) → Contains (variables (name_term {Hint = List ℕ} (codes "x") a)) y → ⊥
name_without a y m = Contains-none y (subst (λ l. Contains l y) (variables-expansion_of (codes "x") a.type (nominal a) no_terms) m)

pub name_alone : (a b : Nominal) → Contains (support (name_term {Hint = List ℕ} (codes "x") a)) b → a ≡ b
name_alone a b m = elim (Contains-cases a [] b (subst (λ l. Contains l b) (support-expansion_of (codes "x") a.type (nominal a) no_terms) m)) [ inl e ↦ e | inr n ↦ absurd (Contains-none b n) ]

pub filling_typed : (sg : Signature) (held : List Nominal) (zs : List (Variable ℕ)) → IsTyped sg (filling held zs)
filling_typed sg held [] = All-nil (λ p. HasType sg [] p.1 p.0.type)
filling_typed sg held (z ∷ zs) =
    let a = new_constant held z.type in
    All-cons (λ p. HasType sg [] p.1 p.0.type) (z, name_term (codes "x") a) (filling (a ∷ held) zs) (name_typed sg a) (filling_typed sg (a ∷ held) zs)

pub filling_keys : (held : List Nominal) (zs : List (Variable ℕ)) → keys (filling held zs) ≡ zs
filling_keys held [] = refl
filling_keys held (z ∷ zs) = ap (λ l. z ∷ l) (filling_keys (new_constant held z.type ∷ held) zs)

-- what is filled in is a constant that isn't held
pub filled_with : (held : List Nominal) (zs : List (Variable ℕ)) (y : Variable ℕ) (v : Read) → value_in same_number (filling held zs) y ≡ Some v → (a : Nominal) × (¬ (Contains held a)) × (name_term (codes "x") a ≡ v)
filled_with held [] y v e = absurd (cc)
filled_with held (z ∷ zs) y v e = go (same_numbered z y) e (filled_with (new_constant held z.type ∷ held) zs y v)
  where
    a : Nominal
    a = new_constant held z.type

    go : (b : Bool) → cond b (Some (name_term (codes "x") a)) (value_in same_number (filling (a ∷ held) zs) y) ≡ Some v → (value_in same_number (filling (a ∷ held) zs) y ≡ Some v → (c : Nominal) × (¬ (Contains (a ∷ held) c)) × (name_term (codes "x") c ≡ v))
        → (c : Nominal) × (¬ (Contains held c)) × (name_term (codes "x") c ≡ v)
    go true e rest = (a, new_is_new held z.type, cc)
    go false e rest = let r = rest e in (r.0, λ m. r.1 (Contains-there a held r.0 m), r.2)

-- each open variable is filled
pub all_filled : (held : List Nominal) (zs : List (Variable ℕ)) (y : Variable ℕ) → holds zs y ≡ true → (v : Read) × (value_in same_number (filling held zs) y ≡ Some v)
all_filled held [] y h = absurd (false≢true h)
all_filled held (z ∷ zs) y h = go (same_numbered z y) h (all_filled (new_constant held z.type ∷ held) zs y)
  where
    a : Nominal
    a = new_constant held z.type

    go : (b : Bool) → (b || holds zs y) ≡ true → (holds zs y ≡ true → (v : Read) × (value_in same_number (filling (a ∷ held) zs) y ≡ Some v)) → (v : Read) × (cond b (Some (name_term (codes "x") a)) (value_in same_number (filling (a ∷ held) zs) y) ≡ Some v)
    go true h rest = (name_term (codes "x") a, refl)
    go false h rest = rest h

-- THE CONSTANTS that are filled in, in order: no two have one number
abbrev pub filled_constants : List Nominal → List (Variable ℕ) → List Nominal
filled_constants held [] = []
filled_constants held (z ∷ zs) = new_constant held z.type ∷ filled_constants (new_constant held z.type ∷ held) zs

pub filled_listed : (held : List Nominal) (zs : List (Variable ℕ)) (y : Variable ℕ) (v : Read) → value_in same_number (filling held zs) y ≡ Some v → (a : Nominal) → Contains (support v) a → Contains (filled_constants held zs) a
filled_listed held [] y v e b m = absurd (cc)
filled_listed held (z ∷ zs) y v e b m = go (same_numbered z y) e (filled_listed (a ∷ held) zs y v)
  where
    a : Nominal
    a = new_constant held z.type

    go : (t : Bool) → cond t (Some (name_term (codes "x") a)) (value_in same_number (filling (a ∷ held) zs) y) ≡ Some v → (value_in same_number (filling (a ∷ held) zs) y ≡ Some v → (c : Nominal) → Contains (support v) c → Contains (filled_constants (a ∷ held) zs) c)
        → Contains (a ∷ filled_constants (a ∷ held) zs) b
    go true e rest =
        let same : name_term (codes "x") a ≡ v = cc in
        subst (Contains (a ∷ filled_constants (a ∷ held) zs)) (name_alone a b (subst (λ t. Contains (support t) b) (sym same) m)) (Contains-here a (filled_constants (a ∷ held) zs))
    go false e rest = Contains-there a (filled_constants (a ∷ held) zs) b (rest e b m)

-- a new constant has a number that none has
new_number : (held : List Nominal) (A : Ty) (b : Nominal) → Contains held b → b.number ≡ (new_constant held A).number → ⊥
new_number held A b m e =
    let same : b ≡ new_constant held b.type = λ i. record { number = e i; type = b.type } in
    new_is_new held b.type (subst (Contains held) same m)

filled_apart : (held : List Nominal) (zs : List (Variable ℕ)) (a b : Nominal) → Contains (filled_constants held zs) a → Contains held b → b.number ≡ a.number → ⊥
filled_apart held [] a b m k e = Contains-none a m
filled_apart held (z ∷ zs) a b m k e = elim (Contains-cases (new_constant held z.type) (filled_constants (new_constant held z.type ∷ held) zs) a m) [
  | inl q ↦ new_number held z.type b k (e ∙ ap (λ (c : Nominal). c.number) (sym q))
  | inr n ↦ filled_apart (new_constant held z.type ∷ held) zs a b n (Contains-there (new_constant held z.type) held b k) e
]

pub filled_differ : (held : List Nominal) (zs : List (Variable ℕ)) → HasOneTypeEach (filled_constants held zs)
filled_differ held [] a b m k e = absurd (Contains-none a m)
filled_differ held (z ∷ zs) a b m k e = go (Contains-cases c (filled_constants (c ∷ held) zs) a m) (Contains-cases c (filled_constants (c ∷ held) zs) b k) (λ p q. filled_differ (new_constant held z.type ∷ held) zs a b p q e)
  where
    c : Nominal
    c = new_constant held z.type

    go : (c ≡ a) ⊎ Contains (filled_constants (c ∷ held) zs) a → (c ≡ b) ⊎ Contains (filled_constants (c ∷ held) zs) b → (Contains (filled_constants (c ∷ held) zs) a → Contains (filled_constants (c ∷ held) zs) b → a ≡ b) → a ≡ b
    go (inl p) (inl q) rest = sym p ∙ q
    go (inl p) (inr q) rest = absurd (filled_apart (c ∷ held) zs b c q (Contains-here c held) (ap (λ (n : Nominal). n.number) p ∙ e))
    go (inr p) (inl q) rest = absurd (filled_apart (c ∷ held) zs a c p (Contains-here c held) (ap (λ (n : Nominal). n.number) q ∙ sym e))
    go (inr p) (inr q) rest = rest p q
