-- The equations that take the place of one: they are typed, and their variables are its own.
use Rattle.std.proofs.Common.{◌≡◌, ℕ, List, [], ◌∷◌, map, Bool, true, false, cond, ◌||◌, Option, Some, None, refl, ◌∙◌, ap, subst}
use Rattle.std.specs.Prelude.{All, Contains}
use Rattle.std.proofs.lemmas.List.Elements.{All-nil, All-cons, All-head, All-tail, Contains-append_left, Contains-append_right}
use Rattle.ab_term.specs.Types.{Ty}
use Rattle.ab_term.specs.Terms.{Variable, Term, lam, spine, Terms, no_terms, term}
use Rattle.ab_term.specs.Typing.{Signature, HasType}
use Rattle.ab_term.specs.Variables.{variables, variables_of_head, variables_of_all}
use Rattle.ab_term.specs.Sameness.{same_head, same_term}
use Rattle.ab_norm.specs.ab_types.specs.Entries.{Table, signature}
use Rattle.ab_norm.specs.ab_store.specs.Trees.{Contents}
use Rattle.ab_norm.specs.ab_store.specs.Reading.{reading}
use Rattle.ab_norm.specs.ab_store.specs.Bindings.{IsUnbound}
use Rattle.ab_patterns.specs.declared.equation.Numbered.{Numbered}
use Rattle.ab_patterns.specs.EquationReadings.{equation_of, HoldsEquation}
use Rattle.ab_patterns.specs.ab_unifiers.specs.Replacements.{Cell, is_flexible}
use Rattle.ab_patterns.specs.ab_unifiers.specs.Unification.{Equation, Result, clash, parts, replaced, or_else, paired, equal_sides, bodies, rigid_heads}
use Rattle.ab_patterns.specs.ab_unifiers.specs.Unifiers.{AreTyped}
use Rattle.ab_patterns.specs.ab_unifiers.proofs.Steps.{OnResult, on_or_else, on_cond}
use Rattle.ab_patterns.specs.ab_unifiers.proofs.Ruling.{Right, equal_right, bodies_right, heads_right}
use Rattle.ab_unify.specs.StoreChanges.{AllUnbound}
use Rattle.ab_unify.specs.Outcome.{equation_read, IsTypedEquation}
use Rattle.ab_unify.proofs.Pruned.{unbound_reads}

abbrev Bytes : Type 0
Bytes = List ℕ

-- the rules that replace no variable
abbrev pub first_rules : List (Variable ℕ) → Equation Bytes → Option (Result Bytes)
first_rules ys e = or_else (equal_sides e) (or_else (bodies e.place e.left e.right) (rigid_heads ys e.place e.left e.right))

module _ (P : Variable ℕ → Type 0) where
  abbrev Over : Term ℕ Bytes → Type 0
  Over t = (y : Variable ℕ) → Contains (variables t) y → P y

  abbrev OverAll : Terms ℕ Bytes → Type 0
  OverAll ts = (y : Variable ℕ) → Contains (variables_of_all ts) y → P y

  abbrev AreOver : List (Equation Bytes) → Type 0
  AreOver [] = Unit {0}
  AreOver (e ∷ es) = Over e.left × Over e.right × AreOver es

  abbrev OverParts : Result Bytes → Type 0
  OverParts clash = Unit {0}
  OverParts (parts es) = AreOver es
  OverParts (replaced c) = Unit {0}

  paired_over : (p : ℕ) (ts us : Terms ℕ Bytes) → OverAll ts → OverAll us → AreOver (paired p ts us)
  paired_over p no_terms us a b = tt
  paired_over p (term t ts) no_terms a b = tt
  paired_over p (term t ts) (term u us) a b = (
    λ y m. a y (Contains-append_left (variables t) (variables_of_all ts) y m),
    λ y m. b y (Contains-append_left (variables u) (variables_of_all us) y m),
    paired_over p ts us (λ y m. a y (Contains-append_right (variables t) (variables_of_all ts) y m)) (λ y m. b y (Contains-append_right (variables u) (variables_of_all us) y m)),
  )

  bodies_over : (p : ℕ) (t u : Term ℕ Bytes) → Over t → Over u → OnResult OverParts (bodies p t u)
  bodies_over p (lam A x t) (lam B y u) a b = (a, b, tt)
  bodies_over p (lam A x t) (spine h us) a b = tt
  bodies_over p (spine h ts) u a b = tt

  heads_over : (ys : List (Variable ℕ)) (p : ℕ) (t u : Term ℕ Bytes) → Over t → Over u → OnResult OverParts (rigid_heads ys p t u)
  heads_over ys p (lam A x t) u a b = tt
  heads_over ys p (spine g ts) (lam B y u) a b = tt
  heads_over ys p (spine g ts) (spine h us) a b =
      on_cond OverParts (is_flexible ys g || is_flexible ys h) None (Some (cond (same_head g h) (parts (paired p ts us)) clash)) (λ f. tt) (λ f. go (same_head g h))
    where
      go : (b : Bool) → OverParts (cond b (parts (paired p ts us)) clash)
      go true = paired_over p ts us (λ y m. a y (Contains-append_right (variables_of_head g) (variables_of_all ts) y m)) (λ y m. b y (Contains-append_right (variables_of_head h) (variables_of_all us) y m))
      go false = tt

  first_over : (ys : List (Variable ℕ)) (e : Equation Bytes) → Over e.left → Over e.right → OnResult OverParts (first_rules ys e)
  first_over ys e a b =
      on_or_else OverParts (equal_sides e) (or_else (bodies e.place e.left e.right) (rigid_heads ys e.place e.left e.right))
      (on_cond OverParts (same_term e.left e.right) (Some (parts [])) None (λ f. tt) (λ f. tt))
      (on_or_else OverParts (bodies e.place e.left e.right) (rigid_heads ys e.place e.left e.right) (bodies_over e.place e.left e.right a b) (heads_over ys e.place e.left e.right a b))

first_typed : (sg : Signature) (cells : List (Cell Bytes)) (ys : List (Variable ℕ)) (e : Equation Bytes) (G : List Ty) (A : Ty) → HasType sg G e.left A → HasType sg G e.right A → OnResult (Right sg cells ys e.left e.right) (first_rules ys e)
first_typed sg cells ys e G A d f =
    let P = Right sg cells ys e.left e.right in
    on_or_else P (equal_sides e) (or_else (bodies e.place e.left e.right) (rigid_heads ys e.place e.left e.right)) (equal_right sg cells ys e)
    (on_or_else P (bodies e.place e.left e.right) (rigid_heads ys e.place e.left e.right) (bodies_right sg cells ys e.place G A e.left e.right d f) (heads_right sg cells ys e.place G A e.left e.right d f))

module _ (types : Table) (store : Contents) where
  abbrev unbound : Variable ℕ → Type 0
  unbound y = IsUnbound store (record { 0 = y.name })

  numbered_fine : (es : List Numbered) → All (HoldsEquation store) es → AreTyped (signature types) (map (equation_of types store) es) → AreOver unbound (map (equation_of types store) es)
      → All (IsTypedEquation types store) es × (map (equation_read types store) es ≡ map (equation_of types store) es)
  numbered_fine [] held typed over = (All-nil (IsTypedEquation types store), refl)
  numbered_fine (e ∷ es) held typed over =
      let here = All-head (HoldsEquation store) e es held in
      let rest = numbered_fine es (All-tail (HoldsEquation store) e es held) typed.1 over.2 in (
        All-cons (IsTypedEquation types store) e es (typed.0.0, typed.0.1, (here.0, typed.0.2), (here.1, typed.0.3)) rest.0,
        ap (λ t. record { place = e.place; left = t; right = reading types store e.right } ∷ map (equation_read types store) es) (unbound_reads types store e.left over.0)
            ∙ ap (λ t. record { place = e.place; left = (equation_of types store e).left; right = t } ∷ map (equation_read types store) es) (unbound_reads types store e.right over.1)
            ∙ ap (λ l. equation_of types store e ∷ l) rest.1,
      )

  -- THE PARTS of a typed equation without bound cells
  pub parts_fine : (cells : List (Cell Bytes)) (ys : List (Variable ℕ)) (e : Numbered) → IsTypedEquation types store e → AllUnbound store (equation_of types store e).left → AllUnbound store (equation_of types store e).right
      → (es : List Numbered) → All (HoldsEquation store) es → first_rules ys (equation_of types store e) ≡ Some (parts (map (equation_of types store) es))
      → All (IsTypedEquation types store) es × (map (equation_read types store) es ≡ map (equation_of types store) es)
  parts_fine cells ys e d a b es held is =
      let typed = subst (OnResult (Right (signature types) cells ys (equation_of types store e).left (equation_of types store e).right)) is (first_typed (signature types) cells ys (equation_of types store e) d.0 d.1 d.2.1 d.3.1) in
      let over = subst (OnResult (OverParts unbound)) is (first_over unbound ys (equation_of types store e) a b) in
      numbered_fine es held typed.0 over
