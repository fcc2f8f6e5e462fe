-- New constants for variables that stay open.
use Rattle.std.specs.Prelude.{All, Contains}
use Rattle.std.proofs.Common.{◌≡◌, inl, inr, ℕ, suc, ◌≤◌, List, [], ◌∷◌, ◌++◌, map, false, codes, refl, sym, ◌∙◌, ap, subst, arith}
use Rattle.std.proofs.lemmas.Bool.{false≢true}
use Rattle.std.proofs.lemmas.List.Elements.{All-nil, All-cons, Contains-append_cases}
use Rattle.ab_term.specs.Terms as tree
use Rattle.ab_term.specs.Terms.{Nominal, nominal, no_terms, Read}
use Rattle.ab_term.specs.Typing.{Signature, HasType}
use Rattle.ab_term.specs.Names.{support, HasOneTypeEach}
use Rattle.ab_term.specs.Variables.{Substitution, variables, IsTyped}
use Rattle.ab_term.proofs.Expansions.{expansion_typed}
use Rattle.ab_term.proofs.Lists.{Contains-none, Contains-here, Contains-there, Contains-cases}
use Rattle.ab_term.proofs.Stands.{support-expansion_of, variables-expansion_of}
use Rattle.ab_unifiers.specs.Replacements.{holds}
use Rattle.ab_unifiers.specs.Unifiers.{keys}
use Rattle.ab_unifiers.proofs.Agreeing.{contains_holds}
use Rattle.ab_unifiers.proofs.Covered.{found_of_all}
use Rattle.ab_unifiers.proofs.Variables.{holds_contains}
use Rattle.ab_formulas.specs.Sequents.{Variable, in_terms}
use Rattle.ab_theory.specs.Rules.{name_term}
use Rattle.ab_search_proofs.proofs.Least.{above, number_below}
use Rattle.ab_consequences.proofs.UseAnswered.{IsFilled, none_key, some_key}

-- constants of the variables' types, numbered from k on
abbrev pub constants_from : ℕ → List Variable → List Nominal
constants_from k [] = []
constants_from k (y ∷ ys) = record { number = k; type = y.type } ∷ constants_from (suc k) ys

abbrev pub filled_from : ℕ → List Variable → Substitution ℕ (List ℕ)
filled_from k [] = []
filled_from k (y ∷ ys) = (in_terms y, name_term (record { number = k; type = y.type })) ∷ filled_from (suc k) ys

keys_are : (k : ℕ) (ys : List Variable) → keys (filled_from k ys) ≡ map in_terms ys
keys_are k [] = refl
keys_are k (y ∷ ys) = ap (λ l. in_terms y ∷ l) (keys_are (suc k) ys)

filled_typed : (sg : Signature) (k : ℕ) (ys : List Variable) → IsTyped sg (filled_from k ys)
filled_typed sg k [] = All-nil (λ p. HasType sg [] p.1 p.0.type)
filled_typed sg k (y ∷ ys) =
    All-cons (λ p. HasType sg [] p.1 p.0.type) (in_terms y, name_term (record { number = k; type = y.type })) (filled_from (suc k) ys)
    (expansion_typed sg (codes "x") y.type [] (nominal (record { number = k; type = y.type })) refl) (filled_typed sg (suc k) ys)

abbrev Known : List Nominal → Read → Type 0
Known new t = (a : Nominal) → Contains (support t) a → Contains new a

values_known : (new : List Nominal) (k : ℕ) (ys : List Variable) → ((a : Nominal) → Contains (constants_from k ys) a → Contains new a) → All (λ (p : tree.Variable ℕ × Read). Known new p.1) (filled_from k ys)
values_known new k [] within = All-nil (λ (p : tree.Variable ℕ × Read). Known new p.1)
values_known new k (y ∷ ys) within =
    let a : Nominal = record { number = k; type = y.type } in
    All-cons (λ (p : tree.Variable ℕ × Read). Known new p.1) (in_terms y, name_term a) (filled_from (suc k) ys)
    (λ b c. elim (Contains-cases a [] b (subst (λ ns. Contains ns b) (support-expansion_of (codes "x") y.type (nominal a) no_terms) c)) [
      | inl e ↦ within b (subst (Contains (a ∷ constants_from (suc k) ys)) e (Contains-here a (constants_from (suc k) ys)))
      | inr d ↦ absurd (Contains-none b d)
    ])
    (values_known new (suc k) ys (λ b c. within b (Contains-there a (constants_from (suc k) ys) b c)))

values_rigid : (k : ℕ) (ys : List Variable) → All (λ (p : tree.Variable ℕ × Read). variables p.1 ≡ []) (filled_from k ys)
values_rigid k [] = All-nil (λ (p : tree.Variable ℕ × Read). variables p.1 ≡ [])
values_rigid k (y ∷ ys) =
    let a : Nominal = record { number = k; type = y.type } in
    All-cons (λ (p : tree.Variable ℕ × Read). variables p.1 ≡ []) (in_terms y, name_term a) (filled_from (suc k) ys) (variables-expansion_of (codes "x") y.type (nominal a) no_terms) (values_rigid (suc k) ys)

pub is_filled : (sg : Signature) (k : ℕ) (ys : List Variable) → IsFilled sg ys (constants_from k ys) (filled_from k ys)
is_filled sg k ys = record {
  typed = filled_typed sg k ys;
  covers = λ y c e.
      let none : holds (map in_terms ys) y ≡ false = ap (λ l. holds l y) (sym (keys_are k ys)) ∙ none_key (filled_from k ys) y e in
      false≢true (sym none ∙ contains_holds (map in_terms ys) y c);
  keys = λ y v e. holds_contains (map in_terms ys) y (ap (λ l. holds l y) (sym (keys_are k ys)) ∙ some_key (filled_from k ys) y v e);
  rigid = λ y v e. found_of_all (λ t. variables t ≡ []) (filled_from k ys) (values_rigid k ys) y v e;
  names = λ y v e. found_of_all (Known (constants_from k ys)) (filled_from k ys) (values_known (constants_from k ys) k ys (λ a c. c)) y v e;
}

pub from_number : (k : ℕ) (ys : List Variable) (a : Nominal) → Contains (constants_from k ys) a → k ≤ a.number
from_number k [] a c = absurd (Contains-none a c)
from_number k (y ∷ ys) a c = elim (Contains-cases (record { number = k; type = y.type }) (constants_from (suc k) ys) a c) [
  | inl e ↦ (let same : k ≡ a.number = ap (λ (x : Nominal). x.number) e in omega (arith, same))
  | inr d ↦ (let far = from_number (suc k) ys a d in omega (arith, far))
]

each_once : (k : ℕ) (ys : List Variable) → HasOneTypeEach (constants_from k ys)
each_once k [] a b c d e = absurd (Contains-none a c)
each_once k (y ∷ ys) a b c d e =
    let first : Nominal = record { number = k; type = y.type } in
    elim (Contains-cases first (constants_from (suc k) ys) a c) [
      | inl f ↦ elim (Contains-cases first (constants_from (suc k) ys) b d) [
        | inl g ↦ sym f ∙ g
        | inr g ↦ (let same : k ≡ a.number = ap (λ (x : Nominal). x.number) f in let far = from_number (suc k) ys b g in absurd (omega (arith, same, far, e)))
      ]
      | inr f ↦ elim (Contains-cases first (constants_from (suc k) ys) b d) [
        | inl g ↦ (let same : k ≡ b.number = ap (λ (x : Nominal). x.number) g in let far = from_number (suc k) ys a f in absurd (omega (arith, same, far, e)))
        | inr g ↦ each_once (suc k) ys a b f g e
      ]
    ]

-- above all numbers of a list they are new, and each number has one type still
module _ (M : List Nominal) (one : HasOneTypeEach M) (ys : List Variable) where
  pub are_new : (a : Nominal) → Contains (constants_from (above M) ys) a → Contains M a → ⊥
  are_new a c d = let far = from_number (above M) ys a c in let low = number_below M a d in omega (arith, far, low)

  pub all_once : HasOneTypeEach (constants_from (above M) ys ++ M)
  all_once a b c d e =
      let new = constants_from (above M) ys in
      elim (Contains-append_cases new M a c) [
        | inl f ↦ elim (Contains-append_cases new M b d) [
          | inl g ↦ each_once (above M) ys a b f g e
          | inr g ↦ (let far = from_number (above M) ys a f in let low = number_below M b g in absurd (omega (arith, far, low, e)))
        ]
        | inr f ↦ elim (Contains-append_cases new M b d) [
          | inl g ↦ (let far = from_number (above M) ys b g in let low = number_below M a f in absurd (omega (arith, far, low, e)))
          | inr g ↦ one a b f g e
        ]
      ]
