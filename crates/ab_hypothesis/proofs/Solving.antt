-- A hypothesis of the command's own that is an equation is solved in its goal.
use Rattle.std.specs.Prelude.{Some, None}
use Rattle.std.proofs.Common.{◌≡◌, ◌≢◌, inl, ℕ, ◌<◌, List, [], ◌∷◌, Bool, length, refl, sym, ◌∙◌, ap, subst, arith}
use Rattle.ab_term.specs.Terms.{Read}
use Rattle.ab_unifiers.specs.Replacements.{Cell}
use Rattle.ab_unify.specs.Problem.{cells_read}
use Rattle.ab_theory.specs.Equations.{AreCells}
use Rattle.ab_formulas.specs.Declarations.{Declarations}
use Rattle.ab_formulas.specs.Forms.{Form, truth, falsity, both, either, implies, equal, for_all, exists, nabla, marked, other, form_of, as_equal, equal_in}
use Rattle.ab_formulas.specs.NewNames.{Label, IsNamedFor, IsNoVariable}
use Rattle.ab_formulas.specs.Sequents.{Sequent, formula_of, assuming, without}
use Rattle.ab_logic.specs.Worlds.{declarations_of}
use Rattle.ab_logic.specs.declared.world.World.{World}
use Rattle.ab_theory.specs.Row.{solves, Takes, Sticks}
use Rattle.ab_theory.specs.Rules.{NamedRule, Stuck}
use Rattle.ab_theory.specs.Steps.{equal_left}
use Rattle.ab_steps.specs.ab_kernel.specs.Layout.{Held, goals_of}
use Rattle.ab_effects.specs.ProofCommands.{cases}
use Rattle.ab_meaning.specs.Refusals.{not_pattern}
use Rattle.ab_effects.specs.Row.{Leads, Refuses}
use Rattle.ab_effects.specs.Solutions.{IsSolved, IsOutside}
use Rattle.ab_steps.specs.Progress.{TookInto, FailsBy, StuckAt}
use Rattle.ab_steps.proofs.Following.{first_at, one_at_least, place_of}
use Rattle.ab_hypothesis.specs.CaseAnswers.{IsEquation, rest_of, Begun, TakenApart, CantTake}
use Rattle.ab_hypothesis.specs.HypothesisProgress.{HasAt}
use Rattle.ab_hypothesis.proofs.Hypotheses.{named_last}
use Rattle.ab_hypothesis.proofs.StepsTaken.{without_last}
use Rattle.ab_hypothesis.proofs.Sure.{solves_equal}

found_once : (k : Sequent) (x : List ℕ) (F G : Read) → formula_of k x ≡ Some F → formula_of k x ≡ Some G → G ≡ F
found_once k x F G a b = let both : Some G ≡ Some F = sym b ∙ a in cc

-- the sides of the equation, and the goal without it
module _ (D : Declarations) (k : Sequent) (y : List ℕ) (F t u : Read) (none : formula_of k y ≡ None) (is : as_equal F ≡ Some (t, u)) where
  same_row : (IsName : Sequent → List ℕ → List ℕ → Type 0) (cells : List (Cell (List ℕ))) (G : Read) (p : Read × Read) → formula_of (assuming y F k) y ≡ Some G → as_equal G ≡ Some p
      → solves IsName cells (without y (assuming y F k)) p.0 p.1 ≡ solves IsName cells k t u
  same_row IsName cells G p found are =
      let G_is : G ≡ F = found_once (assuming y F k) y F G (named_last k.hypotheses y F none) found in
      let both : Some p ≡ Some (t, u) = sym are ∙ ap as_equal G_is ∙ is in
      let pair : p ≡ (t, u) = cc in
      ap (λ s. solves IsName cells s p.0 p.1) (without_last k y F none) ∙ ap (λ (q : Read × Read). solves IsName cells k q.0 q.1) pair

  pub solved : (ps : List Sequent) → NamedRule D (equal_left y) (assuming y F k) ps → IsSolved D k t u ps
  solved ps (cells, are_cells, (G, found, (p, are, took))) =
      (cells, are_cells, subst (λ r. Takes r ps) (same_row (IsNamedFor D) cells G p found are) took)

  pub outside : (cells : List (Cell (List ℕ))) (i : ℕ) → AreCells cells (assuming y F k) → Stuck D cells (equal_left y) (assuming y F k) i → IsOutside k t u
  outside cells i are_cells (G, found, (p, are, sticks)) =
      let moved : Sticks (solves (λ s hint name. IsNoVariable s name) cells k t u) i =
      subst (λ r. Sticks r i) (same_row (λ s hint name. IsNoVariable s name) cells G p found are) sticks in
      (cells, are_cells, moved.0)

-- by the row of the formula
leads : (D : Declarations) (F : Read) (l : Label) (goal k : Sequent) (ps : List Sequent) (f : Form) → IsEquation f
    → ((t u : Read) → equal_in f ≡ Some (t, u) → IsSolved D k t u ps) → Leads (cases D f F l goal k) ps
leads D F l goal k ps (equal A t u) is solved = (ps, solved t u refl, refl)
leads D F l goal k ps truth is solved = absurd is
leads D F l goal k ps falsity is solved = absurd is
leads D F l goal k ps (both A B) is solved = absurd is
leads D F l goal k ps (either A B) is solved = absurd is
leads D F l goal k ps (implies A B) is solved = absurd is
leads D F l goal k ps (for_all A t) is solved = absurd is
leads D F l goal k ps (exists A t) is solved = absurd is
leads D F l goal k ps (nabla A t) is solved = absurd is
leads D F l goal k ps (marked m t) is solved = absurd is
leads D F l goal k ps other is solved = absurd is

refuses : (D : Declarations) (F : Read) (l : Label) (goal k : Sequent) (f : Form) → IsEquation f
    → ((t u : Read) → equal_in f ≡ Some (t, u) → IsOutside k t u) → Refuses (cases D f F l goal k) (not_pattern 1)
refuses D F l goal k (equal A t u) is outside = inl (outside t u refl, refl)
refuses D F l goal k truth is outside = absurd is
refuses D F l goal k falsity is outside = absurd is
refuses D F l goal k (both A B) is outside = absurd is
refuses D F l goal k (either A B) is outside = absurd is
refuses D F l goal k (implies A B) is outside = absurd is
refuses D F l goal k (for_all A t) is outside = absurd is
refuses D F l goal k (exists A t) is outside = absurd is
refuses D F l goal k (nabla A t) is outside = absurd is
refuses D F l goal k (marked m t) is outside = absurd is
refuses D F l goal k other is outside = absurd is

some_sides : (f : Form) → IsEquation f → equal_in f ≢ None
some_sides (equal A t u) is none = cc
some_sides truth is none = is
some_sides falsity is none = is
some_sides (both A B) is none = is
some_sides (either A B) is none = is
some_sides (implies A B) is none = is
some_sides (for_all A t) is none = is
some_sides (exists A t) is none = is
some_sides (nabla A t) is none = is
some_sides (marked m t) is none = is
some_sides other is none = is

module _ (w v : World) (p q : Held) (keep : Bool) (H y x : List ℕ) (F : Read) (l : Label) (form : IsEquation (form_of F)) (e : x ≡ y) (declared : declarations_of v ≡ declarations_of w) (begun : Begun w p v q keep H y F) where
  pub equal_taken : (u : World) (r : Held) (n : ℕ) → TookInto v q u r 0 (equal_left x) n → TakenApart w p u r l keep H F
  equal_taken u r n took s rest goals =
      let k = rest_of keep H s in
      let b = begun s rest goals in
      let t = took [] rest (assuming y F k) (first_at v q (assuming y F k) rest b.0) in
      let rule : NamedRule (declarations_of w) (equal_left y) (assuming y F k) t.0 =
      subst (λ D. NamedRule D (equal_left y) (assuming y F k) t.0) declared
      (subst (λ z. NamedRule (declarations_of v) (equal_left z) (assuming y F k) t.0) e t.1.0) in
      (t.0, leads (declarations_of w) F l s k t.0 (form_of F) form (λ a c is. solved (declarations_of w) k y F a c b.1 is t.0 rule), t.2)

  pub equal_stuck : ((s : Sequent) (rest : List Sequent) → goals_of v q ≡ s ∷ rest → AreCells (cells_read v.types v.store) s)
      → (i : ℕ) → StuckAt v q 0 (equal_left x) i → CantTake w p l keep H F (not_pattern 1)
  equal_stuck over i stuck s rest goals =
      let k = rest_of keep H s in
      let b = begun s rest goals in
      let cells = cells_read v.types v.store in
      let here : Stuck (declarations_of w) cells (equal_left y) (assuming y F k) i =
      subst (λ D. Stuck D cells (equal_left y) (assuming y F k) i) declared
      (subst (λ z. Stuck (declarations_of v) cells (equal_left z) (assuming y F k) i) e (stuck [] rest (assuming y F k) (first_at v q (assuming y F k) rest b.0))) in
      refuses (declarations_of w) F l s k (form_of F) form
      (λ a c is. outside (declarations_of w) k y F a c b.1 is cells i (over (assuming y F k) rest b.0) here)

  pub equal_never_fails : goals_of w p ≢ [] → (i : ℕ) → FailsBy v q 0 (equal_left x) i → ⊥
  equal_never_fails some i fails =
      let one = one_at_least (goals_of w p) some in
      let k = rest_of keep H one.0 in
      let b = begun one.0 one.1 one.2 in
      let f = fails [] one.1 (assuming y F k) (first_at v q (assuming y F k) one.1 b.0) in
      let has : formula_of (assuming y F k) x ≡ Some F = ap (formula_of (assuming y F k)) e ∙ named_last k.hypotheses y F b.1 in
      solves_equal (declarations_of v) (cells_read v.types v.store) (assuming y F k) x F has (some_sides (form_of F) form) i f

-- the goal is still open
pub first_there : (w : World) (p : Held) (y : List ℕ) (F : Read) → HasAt w p 0 y F → 0 < length (goals_of w p)
first_there w p y F there = place_of w p 0 there.before there.behind there.goal there.at

pub still_open : (w : World) (p : Held) (y : List ℕ) (F : Read) → HasAt w p 0 y F → goals_of w p ≢ []
still_open w p y F there e =
    let l = first_there w p y F there in
    let none : length (goals_of w p) ≡ 0 = ap length e in
    omega (arith, l, none)
