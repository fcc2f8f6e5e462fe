-- Goals whose last hypothesis is opened: of two lists that are alike they become lists that are one with names for numbers.
use Rattle.std.specs.Prelude.{All, AllPairs}
use Rattle.std.proofs.Common.{◌≡◌, ◌≢◌, ℕ, List, [], ◌∷◌, ◌++◌, map, refl, sym, ◌∙◌, ap, subst}
use Rattle.std.proofs.lemmas.List.Elements.{All-nil, All-cons, All-head, All-tail}
use Rattle.std.proofs.lemmas.List.Kept.{AllPairs-cons}
use Rattle.ab_term.specs.Terms.{Nominal, Read}
use Rattle.ab_term.proofs.Lists.{AllPairs-none, AllPairs-parts}
use Rattle.ab_term.proofs.Translations.{map-append}
use Rattle.ab_unifiers.specs.Clauses.{Each}
use Rattle.ab_formulas.specs.Declarations.{Declarations, signature_in}
use Rattle.ab_formulas.specs.NewNames.{Label}
use Rattle.ab_formulas.specs.Sequents.{Hypothesis, Sequent, IsSequent, goal_names, assuming}
use Rattle.ab_theory.proofs.RulesParts.{MayStand}
use Rattle.ab_theory.proofs.Sequents.{IsGoal, goal_of}
use Rattle.ab_formulas.specs.NamedGoals as shown
use Rattle.ab_formulas.specs.NamedGoals.{Goal, with_names, hypothesis_named, named}
use Rattle.ab_effects.specs.CaseAnalysis.{AllOpened, SomeNameless}
use Rattle.ab_determinism.proofs.Namings.{same_constants}
use Rattle.ab_determinism.proofs.Alike.{IsFine, Alike, flipped}
use Rattle.ab_determinism.proofs.OneWay.{opened_once, opened_or_not}

-- LISTS BY THEIR LAST ELEMENT
module _ {X : Type 0} where
  not_none : (xs : List X) (x : X) → [] ≡ xs ++ x ∷ [] → ⊥
  not_none [] x e = cc
  not_none (y ∷ xs) x e = cc

  first_same : {x y : X} {xs ys : List X} → x ∷ xs ≡ y ∷ ys → x ≡ y
  first_same e = cc

  rest_same : {x y : X} {xs ys : List X} → x ∷ xs ≡ y ∷ ys → xs ≡ ys
  rest_same e = cc

  pub last_same : (xs ys : List X) (x y : X) → xs ++ x ∷ [] ≡ ys ++ y ∷ [] → (xs ≡ ys) × (x ≡ y)
  last_same [] [] x y e = (refl, first_same e)
  last_same [] (b ∷ ys) x y e = absurd (not_none ys y (rest_same e))
  last_same (a ∷ xs) [] x y e = absurd (not_none xs x (sym (rest_same e)))
  last_same (a ∷ xs) (b ∷ ys) x y e =
      let both = last_same xs ys x y (rest_same e) in
      (ap (λ c. c ∷ xs) (first_same e) ∙ ap (λ cs. b ∷ cs) both.0, both.1)

  all_parts : (P : X → Type 0) (xs : List X) (x : X) → All P (xs ++ x ∷ []) → All P xs × P x
  all_parts P [] x all = (All-nil P, All-head P x [] all)
  all_parts P (y ∷ xs) x all =
      let parts = all_parts P xs x (All-tail P y (xs ++ x ∷ []) all) in
      (All-cons P y xs (All-head P y (xs ++ x ∷ []) all) parts.0, parts.1)

  pairs_before : (R : X → X → Type 0) (xs : List X) (x : X) → AllPairs R (xs ++ x ∷ []) → AllPairs R xs
  pairs_before R [] x d = AllPairs-none R
  pairs_before R (y ∷ xs) x d =
      let parts = AllPairs-parts R y (xs ++ x ∷ []) d in
      AllPairs-cons R y xs (all_parts (R y) xs x parts.0).0 (pairs_before R xs x parts.1)

-- A GOAL BY ITS LAST HYPOTHESIS
module _ (x y : List ℕ) (F G : Read) (s u : Sequent) (same : assuming x F s ≡ assuming y G u) where
  abbrev last : List ℕ → Read → Hypothesis
  last z H = record { name = z; formula = H }

  lasts : (s.hypotheses ≡ u.hypotheses) × (last x F ≡ last y G)
  lasts = last_same s.hypotheses u.hypotheses (record { name = x; formula = F }) (record { name = y; formula = G }) (ap (λ (g : Sequent). g.hypotheses) same)

  bodies_same : F ≡ G
  bodies_same = ap (λ (h : Hypothesis). h.formula) lasts.1

  goals_same : s ≡ u
  goals_same =
      let hypotheses = lasts.0 in
      λ i. record { variables = (same i).variables; hypotheses = hypotheses i; conclusion = (same i).conclusion; counter = (same i).counter }

-- the same with names for numbers
module _ (x y : List ℕ) (F G : Read) (s u : Sequent) (same : named (assuming x F s) ≡ named (assuming y G u)) where
  named_lasts : (map (hypothesis_named s.variables) s.hypotheses ≡ map (hypothesis_named u.variables) u.hypotheses)
      × (hypothesis_named s.variables (record { name = x; formula = F }) ≡ hypothesis_named u.variables (record { name = y; formula = G }))
  named_lasts =
      let h : Hypothesis = record { name = x; formula = F } in
      let k : Hypothesis = record { name = y; formula = G } in
      last_same (map (hypothesis_named s.variables) s.hypotheses) (map (hypothesis_named u.variables) u.hypotheses) (hypothesis_named s.variables h) (hypothesis_named u.variables k)
      (sym (map-append (hypothesis_named s.variables) s.hypotheses (h ∷ [])) ∙ ap (λ (g : Goal). g.hypotheses) same ∙ map-append (hypothesis_named u.variables) u.hypotheses (k ∷ []))

  bodies_alike : with_names s.variables F ≡ with_names u.variables G
  bodies_alike = ap (λ (h : shown.Hypothesis). h.formula) named_lasts.1

  goals_alike : named s ≡ named u
  goals_alike =
      let hypotheses = named_lasts.0 in
      λ i. record { variables = (same i).variables; hypotheses = hypotheses i; conclusion = (same i).conclusion; counter = (same i).counter }

-- what stands before the last hypothesis, with its formula
body_fine : (D : Declarations) (N : List Nominal) (x : List ℕ) (F : Read) (s : Sequent) → IsGoal D N (assuming x F s) → IsFine D N s (F ∷ [])
body_fine D N x F s g =
    let May = MayStand (signature_in D) s.variables N in
    let last : Hypothesis = record { name = x; formula = F } in
    let parts = all_parts (λ (h : Hypothesis). May h.formula) s.hypotheses last g.hypotheses in
    record {
      goal = record {
        conclusion = g.conclusion;
        hypotheses = parts.0;
        numbers_differ = g.numbers_differ;
        names_differ = g.names_differ;
        labels_differ = pairs_before (λ (h k : Hypothesis). h.name ≢ k.name) s.hypotheses last g.labels_differ;
      };
      formulas = All-cons May F [] parts.1 (All-nil May);
    }

-- the goals are alike before their last hypotheses, and so are the formulas of these
pub record HaveAlikeBodies (D : Declarations) (g h : Sequent) : Type 0 where
  pub constants : List Nominal
  pub name : List ℕ
  pub other : List ℕ
  pub body : Read
  pub second_body : Read
  pub before : Sequent
  pub second_before : Sequent
  pub first : g ≡ assuming name body before
  pub second : h ≡ assuming other second_body second_before
  pub alike : Alike D constants before (body ∷ []) second_before (second_body ∷ [])

pub bodies_turned : (D : Declarations) (gs hs : List Sequent) → Each (HaveAlikeBodies D) gs hs → Each (HaveAlikeBodies D) hs gs
bodies_turned D [] [] e = tt
bodies_turned D [] (h ∷ hs) e = absurd e
bodies_turned D (g ∷ gs) [] e = absurd e
bodies_turned D (g ∷ gs) (h ∷ hs) (b, e) = (turned, bodies_turned D gs hs e)
  where
    turned : HaveAlikeBodies D h g
    turned = record {
      constants = b.constants;
      name = b.other;
      other = b.name;
      body = b.second_body;
      second_body = b.body;
      before = b.second_before;
      second_before = b.before;
      first = b.second;
      second = b.first;
      alike = flipped D b.constants b.before b.second_before (b.body ∷ []) (b.second_body ∷ []) b.alike;
    }

-- sequents that are one with names for numbers have such bodies, also under other names
pub have_alike_bodies : (D : Declarations) (L M x y : List ℕ) (F G : Read) (s u : Sequent) → IsSequent D (assuming L F s) → IsSequent D (assuming M G u) → named (assuming L F s) ≡ named (assuming M G u)
    → HaveAlikeBodies D (assuming x F s) (assuming y G u)
have_alike_bodies D L M x y F G s u is its same = record {
  constants = goal_names (assuming L F s);
  name = x;
  other = y;
  body = F;
  second_body = G;
  before = s;
  second_before = u;
  first = refl;
  second = refl;
  alike = record {
    goals = goals_alike L M F G s u same;
    formulas = ap (λ H. H ∷ []) (bodies_alike L M F G s u same);
    one = is.one_type;
    first = body_fine D (goal_names (assuming L F s)) L F s (goal_of D (assuming L F s) is);
    second =
        body_fine D (goal_names (assuming L F s)) M G u
        (subst (λ N. IsGoal D N (assuming M G u)) (sym (same_constants (assuming L F s) (assuming M G u) same)) (goal_of D (assuming M G u) its));
  };
}

alike_before : (D : Declarations) (x y : List ℕ) (F G : Read) (s u : Sequent) → HaveAlikeBodies D (assuming x F s) (assuming y G u) → (N : List Nominal) × Alike D N s (F ∷ []) u (G ∷ [])
alike_before D x y F G s u b =
    let N = b.constants in (
      N,
      subst (λ t. Alike D N t (F ∷ []) u (G ∷ [])) (sym (goals_same x b.name F b.body s b.before b.first))
          (subst (λ H. Alike D N b.before (H ∷ []) u (G ∷ [])) (sym (bodies_same x b.name F b.body s b.before b.first))
          (subst (λ t. Alike D N b.before (b.body ∷ []) t (G ∷ [])) (sym (goals_same y b.other G b.second_body u b.second_before b.second))
          (subst (λ H. Alike D N b.before (b.body ∷ []) b.second_before (H ∷ [])) (sym (bodies_same y b.other G b.second_body u b.second_before b.second)) b.alike))),
    )

-- THEY ARE OPENED IN ONE WAY
pub all_opened_once : {D : Declarations} {l : Label} {gs us hs vs : List Sequent} → AllOpened D l gs us → AllOpened D l hs vs → Each (HaveAlikeBodies D) gs hs → map named us ≡ map named vs
all_opened_once AllOpened.none AllOpened.none e = refl
all_opened_once AllOpened.none (AllOpened.one y b bs) e = absurd e
all_opened_once (AllOpened.one x a rest) AllOpened.none e = absurd e
all_opened_once {D = D} {l = l} (AllOpened.one x {F = F} {s = s} {u = t} {us = us} a rest) (AllOpened.one y {F = G} {m = k} {s = u} {u = v} {us = vs} b bs) e =
    let both = alike_before D x y F G s u e.0 in
    ap (λ g. g ∷ map named us) (opened_once a both.0 u (G ∷ []) both.1 k v b).1 ∙ ap (λ gs. named v ∷ gs) (all_opened_once rest bs e.1)

-- and not both: opened, and not for want of a name
pub all_opened_or_not : {D : Declarations} {l : Label} {gs us hs : List Sequent} → AllOpened D l gs us → SomeNameless D l hs → Each (HaveAlikeBodies D) gs hs → ⊥
all_opened_or_not AllOpened.none (SomeNameless.here y n) e = absurd e
all_opened_or_not AllOpened.none (SomeNameless.behind y b n) e = absurd e
all_opened_or_not {D = D} (AllOpened.one x {F = F} {s = s} a rest) (SomeNameless.here y {F = G} {s = u} n) e =
    let both = alike_before D x y F G s u e.0 in
    opened_or_not a both.0 u (G ∷ []) both.1 n
all_opened_or_not (AllOpened.one x a rest) (SomeNameless.behind y b n) e = all_opened_or_not rest n e.1
