-- The nominal constants of a goal with hypotheses of a command's own, and those of the goal without them.
use Rattle.std.specs.Prelude.{All, AllPairs, Contains, if◌then◌else◌, bytes_eq}
use Rattle.std.proofs.Common.{◌≡◌, ◌≢◌, ◌⊎◌, inl, inr, ℕ, List, [], ◌∷◌, ◌++◌, true, false, Some, None, refl, sym, ◌∙◌, ap, subst}
use Rattle.std.proofs.lemmas.List.Elements.{All-head, All-tail, All-contains, Contains-append_left, Contains-append_right, Contains-append_cases}
use Rattle.std.proofs.lemmas.List.Kept.{AllPairs-cons}
use Rattle.ab_term.specs.Types.{Ty}
use Rattle.ab_term.specs.Terms.{Nominal, Read}
use Rattle.ab_term.specs.Names.{support}
use Rattle.ab_term.proofs.Lists.{Contains-none, AllPairs-parts, All-from_contains}
use Rattle.ab_formulas.specs.Sequents.{Hypothesis, Sequent, named, others, formulas, goal_names, names_of, without}
use Rattle.ab_formulas.specs.NewNames.{IsLeast}
use Rattle.ab_theory.specs.Rules.{MayName}
use Rattle.ab_theory.proofs.Sequents.{others_all}
use Rattle.ab_effects.specs.Openings.{MayTake}
use Rattle.ab_hypothesis.specs.OwnNames.{HasAll, besides}
use Rattle.ab_hypothesis.proofs.Hypotheses.{same_or_not, others_none}

abbrev pub LabelsDiffer : List Hypothesis → Type 0
LabelsDiffer hs = AllPairs (λ (h k : Hypothesis). h.name ≢ k.name) hs

-- of a name that no other one has
not_found : (hs : List Hypothesis) (x : List ℕ) → All (λ (h : Hypothesis). x ≢ h.name) hs → named hs x ≡ None
not_found [] x all = refl
not_found (h ∷ hs) x all =
    elim (same_or_not h.name x) [
      | inl s ↦ absurd (All-head (λ (k : Hypothesis). x ≢ k.name) h hs all (sym s.0))
      | inr d ↦ ap (λ b. if b then Some h.formula else named hs x) d.1 ∙ not_found hs x (All-tail (λ (k : Hypothesis). x ≢ k.name) h hs all)
    ]

others_differ : (hs : List Hypothesis) (x : List ℕ) → LabelsDiffer hs → LabelsDiffer (others hs x)
others_differ [] x d = d
others_differ (h ∷ hs) x d =
    let two = AllPairs-parts (λ (g k : Hypothesis). g.name ≢ k.name) h hs d in
    let rest = others_differ hs x two.1 in
    elim (bytes_eq h.name x) as (λ b. LabelsDiffer (if b then others hs x else (h ∷ others hs x)))
    [ true ↦ rest | false ↦ AllPairs-cons (λ (g k : Hypothesis). g.name ≢ k.name) h (others hs x) (others_all (λ (k : Hypothesis). h.name ≢ k.name) hs x two.0) rest ]

-- one hypothesis is removed

in_one : (hs : List Hypothesis) (x : List ℕ) (F : Read) (b : Nominal) → LabelsDiffer hs → named hs x ≡ Some F → Contains (names_of (formulas hs)) b
    → Contains (names_of (formulas (others hs x))) b ⊎ Contains (support F) b
in_one [] x F b differ has c = inl c
in_one (h ∷ hs) x F b differ has c =
    let two = AllPairs-parts (λ (g k : Hypothesis). g.name ≢ k.name) h hs differ in
    elim (same_or_not h.name x) [
      | inl s ↦
          let here : Some h.formula ≡ Some F = sym (ap (λ t. if t then Some h.formula else named hs x) s.1) ∙ has in
          let same : h.formula ≡ F = cc in
          let none : named hs x ≡ None = not_found hs x (subst (λ y. All (λ (k : Hypothesis). y ≢ k.name) hs) s.0 two.0) in
          elim (Contains-append_cases (support h.formula) (names_of (formulas hs)) b c) [
            | inl d ↦ inr (subst (λ G. Contains (support G) b) same d)
            | inr d ↦ inl (subst (λ ks. Contains (names_of (formulas ks)) b) (sym (ap (λ t. if t then others hs x else (h ∷ others hs x)) s.1 ∙ others_none hs x none)) d)
          ]
      | inr n ↦
          let rest : named hs x ≡ Some F = sym (ap (λ t. if t then Some h.formula else named hs x) n.1) ∙ has in
          let kept : others (h ∷ hs) x ≡ h ∷ others hs x = ap (λ t. if t then others hs x else (h ∷ others hs x)) n.1 in
          elim (Contains-append_cases (support h.formula) (names_of (formulas hs)) b c) [
            | inl d ↦ inl (subst (λ ks. Contains (names_of (formulas ks)) b) (sym kept) (Contains-append_left (support h.formula) (names_of (formulas (others hs x))) b d))
            | inr d ↦ elim (in_one hs x F b two.1 rest d) [
              | inl e ↦ inl (subst (λ ks. Contains (names_of (formulas ks)) b) (sym kept) (Contains-append_right (support h.formula) (names_of (formulas (others hs x))) b e))
              | inr e ↦ inr e
            ]
          ]
    ]

of_fewer : (hs : List Hypothesis) (x : List ℕ) (b : Nominal) → Contains (names_of (formulas (others hs x))) b → Contains (names_of (formulas hs)) b
of_fewer [] x b c = c
of_fewer (h ∷ hs) x b c =
    elim (same_or_not h.name x) [
      | inl s ↦
          Contains-append_right (support h.formula) (names_of (formulas hs)) b
          (of_fewer hs x b (subst (λ ks. Contains (names_of (formulas ks)) b) (ap (λ t. if t then others hs x else (h ∷ others hs x)) s.1) c))
      | inr n ↦
          elim (Contains-append_cases (support h.formula) (names_of (formulas (others hs x))) b
          (subst (λ ks. Contains (names_of (formulas ks)) b) (ap (λ t. if t then others hs x else (h ∷ others hs x)) n.1) c)) [
            | inl d ↦ Contains-append_left (support h.formula) (names_of (formulas hs)) b d
            | inr d ↦ Contains-append_right (support h.formula) (names_of (formulas hs)) b (of_fewer hs x b d)
          ]
    ]

of_found : (hs : List Hypothesis) (x : List ℕ) (F : Read) (b : Nominal) → named hs x ≡ Some F → Contains (support F) b → Contains (names_of (formulas hs)) b
of_found [] x F b has c = let clash : None ≡ Some F = has in cc
of_found (h ∷ hs) x F b has c =
    elim (same_or_not h.name x) [
      | inl s ↦
          let here : Some h.formula ≡ Some F = sym (ap (λ t. if t then Some h.formula else named hs x) s.1) ∙ has in
          let same : F ≡ h.formula = cc in
          Contains-append_left (support h.formula) (names_of (formulas hs)) b (subst (λ G. Contains (support G) b) same c)
      | inr n ↦
          Contains-append_right (support h.formula) (names_of (formulas hs)) b
          (of_found hs x F b (sym (ap (λ t. if t then Some h.formula else named hs x) n.1) ∙ has) c)
    ]

-- all of them are

pub apart_from_own : (hs : List Hypothesis) (k : Sequent) (b : Nominal) → LabelsDiffer k.hypotheses → HasAll hs k → Contains (goal_names k) b
    → Contains (goal_names (besides hs k) ++ names_of (formulas hs)) b
apart_from_own [] k b differ all c = Contains-append_left (goal_names k) [] b c
apart_from_own (h ∷ hs) k b differ all c =
    let s = besides hs (without h.name k) in
    let rest = λ (d : Contains (goal_names (without h.name k)) b).
    elim (Contains-append_cases (goal_names s) (names_of (formulas hs)) b (apart_from_own hs (without h.name k) b (others_differ k.hypotheses h.name differ) all.1 d)) as
    (λ u. Contains (goal_names s ++ (support h.formula ++ names_of (formulas hs))) b) [
      | inl e ↦ Contains-append_left (goal_names s) (support h.formula ++ names_of (formulas hs)) b e
      | inr e ↦ Contains-append_right (goal_names s) (support h.formula ++ names_of (formulas hs)) b (Contains-append_right (support h.formula) (names_of (formulas hs)) b e)
    ] in
    elim (Contains-append_cases (support k.conclusion) (names_of (formulas k.hypotheses)) b c) [
      | inl d ↦ rest (Contains-append_left (support k.conclusion) (names_of (formulas (others k.hypotheses h.name))) b d)
      | inr d ↦ elim (in_one k.hypotheses h.name h.formula b differ all.0 d) [
        | inl e ↦ rest (Contains-append_right (support k.conclusion) (names_of (formulas (others k.hypotheses h.name))) b e)
        | inr e ↦ Contains-append_right (goal_names s) (support h.formula ++ names_of (formulas hs)) b (Contains-append_left (support h.formula) (names_of (formulas hs)) b e)
      ]
    ]

back_in : (k : Sequent) (x : List ℕ) (b : Nominal) → Contains (goal_names (without x k)) b → Contains (goal_names k) b
back_in k x b c =
    elim (Contains-append_cases (support k.conclusion) (names_of (formulas (others k.hypotheses x))) b c) [
      | inl d ↦ Contains-append_left (support k.conclusion) (names_of (formulas k.hypotheses)) b d
      | inr d ↦ Contains-append_right (support k.conclusion) (names_of (formulas k.hypotheses)) b (of_fewer k.hypotheses x b d)
    ]

pub with_own : (hs : List Hypothesis) (k : Sequent) (b : Nominal) → HasAll hs k → Contains (goal_names (besides hs k) ++ names_of (formulas hs)) b → Contains (goal_names k) b
with_own [] k b all c = elim (Contains-append_cases (goal_names k) [] b c) [ inl d ↦ d | inr d ↦ absurd (Contains-none b d) ]
with_own (h ∷ hs) k b all c =
    let s = besides hs (without h.name k) in
    let rest = λ (d : Contains (goal_names s ++ names_of (formulas hs)) b). back_in k h.name b (with_own hs (without h.name k) b all.1 d) in
    elim (Contains-append_cases (goal_names s) (support h.formula ++ names_of (formulas hs)) b c) [
      | inl d ↦ rest (Contains-append_left (goal_names s) (names_of (formulas hs)) b d)
      | inr d ↦ elim (Contains-append_cases (support h.formula) (names_of (formulas hs)) b d) [
        | inl e ↦ Contains-append_right (support k.conclusion) (names_of (formulas k.hypotheses)) b (of_found k.hypotheses h.name h.formula b all.0 e)
        | inr e ↦ rest (Contains-append_right (goal_names s) (names_of (formulas hs)) b e)
      ]
    ]

module _ (h : Hypothesis) (hs : List Hypothesis) (k : Sequent) (A : Ty) (differ : LabelsDiffer k.hypotheses) (all : HasAll (h ∷ hs) k) where
  -- the same constants may be taken
  may_take : (n : ℕ) → MayName k h.formula A n → MayTake (besides (h ∷ hs) k) h.formula (formulas hs) A n
  may_take n m = record {
    positive = m.positive;
    outside = m.outside;
    one_type =
        All-from_contains (λ (b : Nominal). b.number ≡ n → b.type ≡ A) (goal_names (besides (h ∷ hs) k) ++ names_of (formulas (h ∷ hs)))
        (λ b c. All-contains (λ (a : Nominal). a.number ≡ n → a.type ≡ A) (goal_names k) b m.one_type (with_own (h ∷ hs) k b all c));
  }

  may_name : (n : ℕ) → MayTake (besides (h ∷ hs) k) h.formula (formulas hs) A n → MayName k h.formula A n
  may_name n m = record {
    positive = m.positive;
    outside = m.outside;
    one_type =
        All-from_contains (λ (b : Nominal). b.number ≡ n → b.type ≡ A) (goal_names k)
        (λ b c. All-contains (λ (a : Nominal). a.number ≡ n → a.type ≡ A) (goal_names (besides (h ∷ hs) k) ++ names_of (formulas (h ∷ hs))) b m.one_type
        (apart_from_own (h ∷ hs) k b differ all c));
  }

  pub least_taken : (n : ℕ) → IsLeast (MayName k h.formula A) n → IsLeast (MayTake (besides (h ∷ hs) k) h.formula (formulas hs) A) n
  least_taken n l = record { has = may_take n l.has; first = λ m less t. l.first m less (may_name m t) }
