-- New constants for variables that stay open, one after another, fill them.
use Rattle.std.specs.Prelude.{All, Contains}
use Rattle.std.proofs.Common.{◌≡◌, ℕ, List, [], ◌∷◌, ◌++◌, map, false, inl, inr, codes, refl, sym, ◌∙◌, ap, subst}
use Rattle.std.proofs.lemmas.Bool.{false≢true}
use Rattle.std.proofs.lemmas.List.Elements.{All-nil, All-cons, Contains-append_left, Contains-append_right, Contains-append_cases}
use Rattle.ab_term.specs.Terms as tree
use Rattle.ab_term.specs.Terms.{Nominal, nominal, no_terms, Read}
use Rattle.ab_term.specs.Typing.{Signature, HasType}
use Rattle.ab_term.specs.Names.{support, HasOneTypeEach}
use Rattle.ab_term.specs.Variables.{Substitution, variables, value_in, image, at_once, IsTyped}
use Rattle.ab_term.specs.Sameness.{same_number}
use Rattle.ab_term.proofs.Depends.{image_rigid}
use Rattle.ab_term.proofs.Expansions.{expansion_typed}
use Rattle.ab_term.proofs.Lists.{Contains-none, Contains-here, Contains-there, Contains-cases}
use Rattle.ab_term.proofs.Stands.{support-expansion_of, variables-expansion_of}
use Rattle.ab_unifiers.specs.Choices.{new_constant}
use Rattle.ab_unifiers.specs.Replacements.{holds}
use Rattle.ab_unifiers.specs.Unifiers.{keys}
use Rattle.ab_unifiers.proofs.Agreeing.{contains_holds}
use Rattle.ab_unifiers.proofs.Covered.{found_of_all}
use Rattle.ab_unifiers.proofs.Variables.{holds_contains}
use Rattle.ab_formulas.specs.Sequents.{Variable, in_terms}
use Rattle.ab_theory.specs.Rules.{name_term}
use Rattle.ab_consequences.specs.NewConstants.{constants_for, pairs_for}
use Rattle.ab_consequences.proofs.Choosing.{not_held}
use Rattle.ab_consequences.proofs.UseAnswered.{IsFilled, none_key, some_key}

abbrev Pair : Type 0
Pair = tree.Variable ℕ × Read

abbrev next : List Nominal → Variable → List Nominal
next known y = known ++ new_constant known y.type ∷ []

keys_are : (known : List Nominal) (ys : List Variable) → keys (pairs_for known ys) ≡ map in_terms ys
keys_are known [] = refl
keys_are known (y ∷ ys) = ap (λ l. in_terms y ∷ l) (keys_are (next known y) ys)

pairs_typed : (sg : Signature) (known : List Nominal) (ys : List Variable) → IsTyped sg (pairs_for known ys)
pairs_typed sg known [] = All-nil (λ (p : Pair). HasType sg [] p.1 p.0.type)
pairs_typed sg known (y ∷ ys) =
    All-cons (λ (p : Pair). HasType sg [] p.1 p.0.type) (in_terms y, name_term (new_constant known y.type)) (pairs_for (next known y) ys)
    (expansion_typed sg (codes "x") y.type [] (nominal (new_constant known y.type)) refl) (pairs_typed sg (next known y) ys)

abbrev Known : List Nominal → Read → Type 0
Known new t = (a : Nominal) → Contains (support t) a → Contains new a

values_known : (new known : List Nominal) (ys : List Variable) → ((a : Nominal) → Contains (constants_for known ys) a → Contains new a) → All (λ (p : Pair). Known new p.1) (pairs_for known ys)
values_known new known [] within = All-nil (λ (p : Pair). Known new p.1)
values_known new known (y ∷ ys) within =
    let a : Nominal = new_constant known y.type in
    let later : List Nominal = constants_for (next known y) ys in
    All-cons (λ (p : Pair). Known new p.1) (in_terms y, name_term a) (pairs_for (next known y) ys)
    (λ b c. elim (Contains-cases a [] b (subst (λ ns. Contains ns b) (support-expansion_of (codes "x") y.type (nominal a) no_terms) c)) [
      | inl e ↦ within b (subst (Contains (a ∷ later)) e (Contains-here a later))
      | inr d ↦ absurd (Contains-none b d)
    ])
    (values_known new (next known y) ys (λ b c. within b (Contains-there a later b c)))

values_rigid : (known : List Nominal) (ys : List Variable) → All (λ (p : Pair). variables p.1 ≡ []) (pairs_for known ys)
values_rigid known [] = All-nil (λ (p : Pair). variables p.1 ≡ [])
values_rigid known (y ∷ ys) =
    let a : Nominal = new_constant known y.type in
    All-cons (λ (p : Pair). variables p.1 ≡ []) (in_terms y, name_term a) (pairs_for (next known y) ys) (variables-expansion_of (codes "x") y.type (nominal a) no_terms) (values_rigid (next known y) ys)

pub is_filled : (sg : Signature) (known : List Nominal) (ys : List Variable) → IsFilled sg ys (constants_for known ys) (pairs_for known ys)
is_filled sg known ys = record {
  typed = pairs_typed sg known ys;
  covers = λ y c e.
      let none : holds (map in_terms ys) y ≡ false = ap (λ l. holds l y) (sym (keys_are known ys)) ∙ none_key (pairs_for known ys) y e in
      false≢true (sym none ∙ contains_holds (map in_terms ys) y c);
  keys = λ y v e. holds_contains (map in_terms ys) y (ap (λ l. holds l y) (sym (keys_are known ys)) ∙ some_key (pairs_for known ys) y v e);
  rigid = λ y v e. found_of_all (λ t. variables t ≡ []) (pairs_for known ys) (values_rigid known ys) y v e;
  names = λ y v e. found_of_all (Known (constants_for known ys)) (pairs_for known ys) (values_known (constants_for known ys) known ys (λ a c. c)) y v e;
}

-- the number of none of them was known
apart_from_known : (known : List Nominal) (ys : List Variable) (a b : Nominal) → Contains (constants_for known ys) a → Contains known b → a.number ≡ b.number → ⊥
apart_from_known known [] a b c d e = absurd (Contains-none a c)
apart_from_known known (y ∷ ys) a b c d e = elim (Contains-cases (new_constant known y.type) (constants_for (next known y) ys) a c) [
  | inl f ↦ not_held known y.type b d (ap (λ (x : Nominal). x.number) f ∙ e)
  | inr f ↦ apart_from_known (next known y) ys a b f (Contains-append_left known (new_constant known y.type ∷ []) b d) e
]

each_once : (known : List Nominal) (ys : List Variable) → HasOneTypeEach (constants_for known ys)
each_once known [] a b c d e = absurd (Contains-none a c)
each_once known (y ∷ ys) a b c d e =
    let new : Nominal = new_constant known y.type in
    let later : List Nominal = constants_for (next known y) ys in
    let there : Contains (next known y) new = Contains-append_right known (new ∷ []) new (Contains-here new []) in
    elim (Contains-cases new later a c) [
      | inl f ↦ elim (Contains-cases new later b d) [
        | inl g ↦ sym f ∙ g
        | inr g ↦ absurd (apart_from_known (next known y) ys b new g there (sym e ∙ sym (ap (λ (x : Nominal). x.number) f)))
      ]
      | inr f ↦ elim (Contains-cases new later b d) [
        | inl g ↦ absurd (apart_from_known (next known y) ys a new f there (e ∙ sym (ap (λ (x : Nominal). x.number) g)))
        | inr g ↦ each_once (next known y) ys a b f g e
      ]
    ]

module _ (known : List Nominal) (ys : List Variable) (M : List Nominal) (within : (a : Nominal) → Contains M a → Contains known a) where
  pub are_new : (a : Nominal) → Contains (constants_for known ys) a → Contains M a → ⊥
  are_new a c d = apart_from_known known ys a a c (within a d) refl

  pub all_once : HasOneTypeEach M → HasOneTypeEach (constants_for known ys ++ M)
  all_once one a b c d e =
      let new : List Nominal = constants_for known ys in
      elim (Contains-append_cases new M a c) [
        | inl f ↦ elim (Contains-append_cases new M b d) [
          | inl g ↦ each_once known ys a b f g e
          | inr g ↦ absurd (apart_from_known known ys a b f (within b g) e)
        ]
        | inr f ↦ elim (Contains-append_cases new M b d) [
          | inl g ↦ absurd (apart_from_known known ys b a g (within a f) (sym e))
          | inr g ↦ one a b f g e
        ]
      ]

-- put in one after another they are the same substitution
pub put_in_one_by_one : (known : List Nominal) (ys : List Variable) → at_once same_number (pairs_for known ys) ≡ pairs_for known ys
put_in_one_by_one known [] = refl
put_in_one_by_one known (y ∷ ys) =
    let a : Nominal = new_constant known y.type in
    let rest : Substitution ℕ (List ℕ) = pairs_for (next known y) ys in
    ap (λ (r : Substitution ℕ (List ℕ)). (in_terms y, image_of r a) ∷ r) (put_in_one_by_one (next known y) ys)
    ∙ ap (λ (t : Read). (in_terms y, t) ∷ rest) (image_rigid (value_in same_number rest) (name_term a) (variables-expansion_of (codes "x") y.type (nominal a) no_terms))
  where
    image_of : Substitution ℕ (List ℕ) → Nominal → Read
    image_of r a = image same_number r (name_term a)
