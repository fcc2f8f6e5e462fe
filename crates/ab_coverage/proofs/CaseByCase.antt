-- THE CASES INTO WHICH A GOAL IS SPLIT, gone through up to one of them: it never arises, or as one of the goals. And cases that differ only
-- in what they assume arise together.
use Rattle.std.proofs.Common.{◌≡◌, ◌⊎◌, inl, inr, ℕ, ◌+◌, List, [], ◌∷◌, ◌++◌, map, length, refl, sym, ◌∙◌, ap, subst, append-nil, append_assoc}
use Rattle.std.specs.Prelude.{All, Contains}
use Rattle.std.proofs.lemmas.List.Elements.{All-head, All-tail, All-weaker}
use Rattle.ab_term.proofs.Lists.{Contains-none, Contains-here, Contains-there, Contains-cases}
use Rattle.ab_unifiers.specs.Replacements.{Cell}
use Rattle.ab_formulas.specs.NewNames.{IsNoVariable}
use Rattle.ab_formulas.specs.Sequents.{Variable, Sequent, over}
use Rattle.ab_theory.specs.Equations.{Naming, Named, made, under}
use Rattle.ab_theory.specs.InstanceCoverage.{AddsBehind}
use Rattle.ab_theory.specs.Splits.{Case, CaseOver, NeverArises, Arises, Split, never, arises}

abbrev Cells : Type 0
Cells = List (Cell (List ℕ))

-- the case over these cells and others behind them
abbrev pub Outcome : Naming → CaseOver → Cells → List Sequent → Type 0
Outcome IsName c cells gs = (more : Cells) × (NeverArises (c (cells ++ more)) ⊎ ((after : Cells) × (g : Sequent) × Contains gs g × Arises IsName (c (cells ++ more)) after g))

module _ (IsName : Naming) {X : Type 0} (f : X → CaseOver) (x : X) where
  abbrev Adds : Cells → X → Type 0
  Adds cells k = AddsBehind IsName cells (f k)

  grown_by : (k : X) (cells after : Cells) (g : Sequent) → Adds cells k → Arises IsName (f k cells) after g → (more : Cells) × (after ≡ cells ++ more)
  grown_by k cells after g adds a =
      let found = adds [] after g (subst (λ (l : Cells). Arises IsName (f k l) after g) (sym (append-nil cells)) a) in
      (found.0, found.1 ∙ ap (λ l. l ++ found.0) (append-nil cells))

  adds_more : (k : X) (cells more after : Cells) → after ≡ cells ++ more → Adds cells k → Adds after k
  adds_more k cells more after e adds =
      subst (λ (l : Cells). Adds l k) (sym e)
      (λ others last g a.
      let found = adds (more ++ others) last g (subst (λ (l : Cells). Arises IsName (f k l) last g) (append_assoc cells more others) a) in
      (found.0, found.1 ∙ ap (λ l. l ++ found.0) (sym (append_assoc cells more others))))

  later : (cells more after : Cells) (gs : List Sequent) → after ≡ cells ++ more → Outcome IsName (f x) after gs → Outcome IsName (f x) cells gs
  later cells more after gs e o =
      let same : after ++ o.0 ≡ cells ++ (more ++ o.0) = ap (λ l. l ++ o.0) e ∙ append_assoc cells more o.0 in
      (more ++ o.0, subst (λ (l : Cells). NeverArises (f x l) ⊎ ((last : Cells) × (g : Sequent) × Contains gs g × Arises IsName (f x l) last g)) same o.1)

  behind : (cells : Cells) (h : Sequent) (gs : List Sequent) → Outcome IsName (f x) cells gs → Outcome IsName (f x) cells (h ∷ gs)
  behind cells h gs o = (o.0, elim o.1 [ inl n ↦ inl n | inr a ↦ inr (a.0, a.1, Contains-there h gs a.1 a.2, a.3) ])

  -- THE OUTCOME of one of the cases
  pub outcome_of : (ks : List X) → Contains ks x → (cells : Cells) → All (Adds cells) ks → (gs : List Sequent) → Split IsName cells (map f ks) gs → Outcome IsName (f x) cells gs
  outcome_of [] m cells adds gs split = absurd (Contains-none x m)
  outcome_of (k ∷ ks) m cells adds gs (never n rest) = elim (Contains-cases k ks x m) [
    | inl same ↦ ([], inl (subst (λ (l : Cells). NeverArises (f x l)) (sym (append-nil cells)) (subst (λ z. NeverArises (f z cells)) same n)))
    | inr there ↦ outcome_of ks there cells (All-tail (Adds cells) k ks adds) gs rest
  ]
  outcome_of (k ∷ ks) m cells adds (g ∷ gs) (arises {after = after} a rest) = elim (Contains-cases k ks x m) [
    | inl same ↦ ([], inr (after, g, Contains-here g gs, subst (λ (l : Cells). Arises IsName (f x l) after g) (sym (append-nil cells)) (subst (λ z. Arises IsName (f z cells) after g) same a)))
    | inr there ↦ (let more = grown_by k cells after g (All-head (Adds cells) k ks adds) a in
        behind cells g gs (later cells more.0 after gs more.1
        (outcome_of ks there after (All-weaker (Adds cells) (Adds after) (λ z. adds_more z cells more.0 after more.1) ks (All-tail (Adds cells) k ks adds)) gs rest)))
  ]

-- what is named in one goal is named so in another one over the same variables
named_over : (s u : Sequent) (n : ℕ) (xs ys : List Variable) → s.variables ≡ u.variables → Named (λ k hint x. IsNoVariable k x) s n xs ys → Named (λ k hint x. IsNoVariable k x) u n xs ys
named_over s u n [] [] e d = tt
named_over s u n [] (y ∷ ys) e d = absurd d
named_over s u n (x ∷ xs) [] e d = absurd d
named_over s u n (x ∷ xs) (y ∷ ys) e d =
    (d.0, d.1, subst (All (λ (z : Variable). z.name ≡ y.name → ⊥)) e d.2, named_over (over y s) (over y u) (n + 1) xs ys (ap (λ l. l ++ y ∷ []) e) d.3)

-- THE CASE ARISES whatever it assumes
pub arises_with : (c : Case) (u : Sequent) → c.goal.variables ≡ u.variables → (after : Cells) (g : Sequent) (a : Arises (λ k hint x. IsNoVariable k x) c after g)
    → Arises (λ k hint x. IsNoVariable k x) (record c { goal = u }) after (under c.before a.more a.answer a.new u)
arises_with c u e after g a = record {
  more = a.more;
  answer = a.answer;
  new = a.new;
  solved = a.solved;
  named = named_over c.goal u (length a.more) (made c.before a.more a.answer) a.new e a.named;
  all = a.all;
  goal = refl;
}
