-- WHAT IS PUT IN IN THE END for the variables of a place: for each that may be replaced a closed term, in which stand no constant that is held so far, and
-- of variables none but those of its scope.
use Rattle.std.proofs.Common.{◌≡◌, ◌⊎◌, inl, inr, ℕ, ◌<◌, ◌≤◌, List, length, true, false, cond, nat_lt, Some, None, sym, ◌∙◌, ap, subst, arith}
use Rattle.std.specs.Prelude.{Contains}
use Rattle.std.proofs.lemmas.Bool.{false≢true, lt-ltb, le-ltb}
use Rattle.std.proofs.lemmas.List.Elements.{All-contains}
use Rattle.ab_term.specs.Terms.{Nominal, Variable, Read}
use Rattle.ab_term.specs.Typing.{Signature}
use Rattle.ab_term.specs.Names.{support}
use Rattle.ab_term.specs.Variables.{Substitution, variables, value_in, image, IsTyped}
use Rattle.ab_term.specs.Sameness.{same_number}
use Rattle.ab_term.proofs.Lists.{All-from_contains}
use Rattle.ab_term.proofs.Stands.{support-image, variables-image}
use Rattle.ab_unifiers.specs.Replacements.{holds}
use Rattle.ab_unifiers.specs.Unifiers.{HoldsCells, keys}
use Rattle.ab_unifiers.proofs.Restricted.{key_held}
use Rattle.ab_formulas.specs.GoalTerms.{HoldsOnly}
use Rattle.ab_search_trees.specs.Goals.{Now}
use Rattle.ab_search_trees.proofs.Lifts.{known_cell}

-- for each variable that may be replaced, those that may stand in what is put in for it
abbrev pub Scopes : Type 0
Scopes = Variable ℕ → List (Variable ℕ)

-- the variables of these numbers on have this scope
abbrev pub from_on : ℕ → List (Variable ℕ) → Scopes → Scopes
from_on n ys S y = cond (nat_lt y.name n) (S y) ys

pub scope_before : (n : ℕ) (ys : List (Variable ℕ)) (S : Scopes) (y : Variable ℕ) → y.name < n → from_on n ys S y ≡ S y
scope_before n ys S y l = ap (λ b. cond b (S y) ys) (lt-ltb y.name n l)

pub scope_from : (n : ℕ) (ys : List (Variable ℕ)) (S : Scopes) (y : Variable ℕ) → n ≤ y.name → from_on n ys S y ≡ ys
scope_from n ys S y l = ap (λ b. cond b (S y) ys) (le-ltb y.name n l)

-- THE VARIABLE IS IN THE SCOPE: it may be replaced, and what is put in is; or it is one of these
abbrev pub IsIn : Now → Scopes → List (Variable ℕ) → Variable ℕ → Type 0
IsIn now S ys y = ((holds now.flexible y ≡ true) × (S y ≡ ys)) ⊎ ((holds now.flexible y ≡ false) × Contains ys y)

-- each variable of the term is
abbrev pub InScope : Now → Scopes → List (Variable ℕ) → Read → Type 0
InScope now S ys t = (y : Variable ℕ) → Contains (variables t) y → IsIn now S ys y

pub record IsFinal (sg : Signature) (now : Now) (S : Scopes) (r : Substitution ℕ (List ℕ)) : Type 0 where
  pub typed : IsTyped sg r
  pub clear : (y : Variable ℕ) (v : Read) → value_in same_number r y ≡ Some v → (a : Nominal) → Contains (support v) a → ¬ (Contains now.held a)
  pub within : (y : Variable ℕ) → holds (keys r) y ≡ true → (holds now.flexible y ≡ true) ⊎ (length now.cells ≤ y.name)
  pub some : (y : Variable ℕ) → holds now.flexible y ≡ true → (v : Read) × (value_in same_number r y ≡ Some v)
  pub scoped : (y : Variable ℕ) (v : Read) → holds now.flexible y ≡ true → value_in same_number r y ≡ Some v → HoldsOnly (S y) v

module _ (sg : Signature) (now : Now) (S : Scopes) (r : Substitution ℕ (List ℕ)) (final : IsFinal sg now S r) where
  -- WHAT IS IN THE SCOPE holds in the end the scope's variables alone
  pub final_scope : (ys : List (Variable ℕ)) (t : Read) → HoldsCells now.cells t → InScope now S ys t → HoldsOnly ys (image same_number r t)
  final_scope ys t over known = All-from_contains (Contains ys) (variables (image same_number r t)) (λ y m. elim (variables-image (value_in same_number r) t y m) [
    | inl a ↦ elim (known y a.0) [
      | inl b ↦ (let v = final.some y b.0 in absurd (let bad : None ≡ Some v.0 = sym a.1 ∙ v.1 in cc))
      | inr b ↦ b.1
    ]
    | inr a ↦ in_value a.0 a.1 (a.2).0 (a.2).1 y a.3
  ])
    where
      in_value : (z : Variable ℕ) (u : Read) → Contains (variables t) z → value_in same_number r z ≡ Some u → (y : Variable ℕ) → Contains (variables u) y → Contains ys y
      in_value z u m e y k = elim (known z m) [
        | inl b ↦ All-contains (Contains ys) (variables u) y (subst (λ l. HoldsOnly l u) b.1 (final.scoped z u b.0 e)) k
        | inr b ↦ elim (final.within z (key_held r z u e)) [
          | inl c ↦ absurd (false≢true (sym b.0 ∙ c))
          | inr c ↦ (let low = known_cell now.cells z.name z.type (over z m) in absurd (omega (arith, low, c)))
        ]
      ]

  -- a constant that is held stands in the image only where it stood before
  pub final_clear : (t : Read) (a : Nominal) → Contains now.held a → Contains (support (image same_number r t)) a → Contains (support t) a
  final_clear t a h m = elim (support-image (value_in same_number r) t a m) [ inl b ↦ b | inr b ↦ absurd (final.clear b.0 b.1 (b.2).1 a b.3 h) ]
