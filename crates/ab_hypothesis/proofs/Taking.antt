-- The rows of the forms that `case` takes apart.
use Rattle.std.specs.Prelude.{Result, Ok, Err}
use Rattle.std.specs.Option.{IsSome}
use Rattle.std.proofs.Common.{◌≡◌, ◌≢◌, inl, inr, ℕ, ◌+◌, List, [], ◌∷◌, ◌++◌, Bool, true, false, Option, Some, None, refl, sym, ◌∙◌, ap, subst}
use Rattle.ab_term.specs.Terms.{Read}
use Rattle.ab_unify.specs.Problem.{cells_read}
use Rattle.ab_norm.specs.ab_store.specs.declared.node.TermId.{TermId}
use Rattle.ab_grammar.specs.CommandTrees as told
use Rattle.ab_formulas.specs.Declarations.{Declarations}
use Rattle.ab_formulas.specs.Forms.{Form, truth, falsity, both, either, implies, equal, for_all, exists, nabla, marked, other, form_of, as_either, either_in, falsity_in}
use Rattle.ab_formulas.specs.NewNames.{Label, given, Names, NoName}
use Rattle.ab_formulas.specs.Sequents.{Sequent, formula_of, assuming, without}
use Rattle.ab_logic.specs.WorldGrowth.{Grows}
use Rattle.ab_logic.specs.Worlds.{declarations_of, Holds, read}
use Rattle.ab_logic.specs.declared.world.World.{World}
use Rattle.ab_theory.specs.Steps.{or_left, false_left}
use Rattle.ab_steps.specs.ab_kernel.specs.Layout.{Held, goals_of}
use Rattle.ab_effects.specs.ProofCommands.{effect, cases, clashing}
use Rattle.ab_effects.specs.Openings.{Opened, Nameless}
use Rattle.ab_meaning.specs.Refusals.{Refusal, names_spent, wrong_shape, mark, not_pattern}
use Rattle.ab_effects.specs.Row.{Leads, Refuses}
use Rattle.ab_steps.specs.ProofEffects.{IsApplied, IsRefused, RefusedBy}
use Rattle.ab_steps.specs.declared.fault.ProofCommandFault.{ProofCommandFault}
use Rattle.ab_steps.specs.Progress.{IsAt, Took, Holds as Sure}
use Rattle.ab_steps.proofs.Following.{first_at, one_at_least}
use Rattle.ab_hypothesis.specs.CaseAnswers.{IsOpened, HasCases, rest_of, Begun, TakenApart, CantTake}
use Rattle.ab_hypothesis.specs.HypothesisRefusals.{IsFaultOf}
use Rattle.ab_hypothesis.specs.declared.outcome.Outcome.{Outcome}
use Rattle.ab_hypothesis.specs.declared.stop.Stop.{Stop}
use Rattle.ab_hypothesis.specs.HypothesisProgress.{HasAt, CopiedTo, MovedTo, OpenedTo}
use Rattle.ab_hypothesis.proofs.Hypotheses.{named_still_none, named_last}
use Rattle.ab_hypothesis.proofs.Goes.{holds_at}
use Rattle.ab_hypothesis.proofs.Rows.{renamed}
use Rattle.ab_hypothesis.proofs.Sure.{parts_or, closes_false}
use Rattle.ab_hypothesis.proofs.StepsTaken.{Went, without_last}

module _ (D : Declarations) (F : Read) (l : Label) (goal s : Sequent) where
  pub opened_leads : (f : Form) → IsOpened f → (m : Label) (u : Sequent) → Opened D (F ∷ []) l s m u → Leads (cases D f F l goal s) (u ∷ [])
  opened_leads truth is m u o = ((m, u), o, refl)
  opened_leads (both A B) is m u o = ((m, u), o, refl)
  opened_leads (exists A t) is m u o = ((m, u), o, refl)
  opened_leads (nabla A t) is m u o = ((m, u), o, refl)
  opened_leads falsity is m u o = absurd is
  opened_leads (either A B) is m u o = absurd is
  opened_leads (implies A B) is m u o = absurd is
  opened_leads (equal A t u1) is m u o = absurd is
  opened_leads (for_all A t) is m u o = absurd is
  opened_leads (marked x t) is m u o = absurd is
  opened_leads other is m u o = absurd is

  pub opened_refuses : (f : Form) → IsOpened f → Nameless D (F ∷ []) l s → Refuses (cases D f F l goal s) names_spent
  opened_refuses truth is o = inl (o, refl)
  opened_refuses (both A B) is o = inl (o, refl)
  opened_refuses (exists A t) is o = inl (o, refl)
  opened_refuses (nabla A t) is o = inl (o, refl)
  opened_refuses falsity is o = absurd is
  opened_refuses (either A B) is o = absurd is
  opened_refuses (implies A B) is o = absurd is
  opened_refuses (equal A t u1) is o = absurd is
  opened_refuses (for_all A t) is o = absurd is
  opened_refuses (marked x t) is o = absurd is
  opened_refuses other is o = absurd is

  pub shapeless : (f : Form) → (HasCases f → ⊥) → Refuses (cases D f F l goal s) wrong_shape
  shapeless truth none = absurd (none tt)
  shapeless falsity none = absurd (none tt)
  shapeless (both A B) none = absurd (none tt)
  shapeless (either A B) none = absurd (none tt)
  shapeless (exists A t) none = absurd (none tt)
  shapeless (nabla A t) none = absurd (none tt)
  shapeless (implies A B) none = inl refl
  shapeless (equal A t u) none = absurd (none tt)
  shapeless (for_all A t) none = inl refl
  shapeless (marked x t) none = absurd (none tt)
  shapeless other none = absurd (none tt)

-- a copy under a name of the command's own
pub begun_kept : (w v : World) (p q : Held) (keep : Bool) (H y g : List ℕ) (F : Read) → keep ≡ true → g ≡ y
    → ((s : Sequent) (rest : List Sequent) → goals_of w p ≡ s ∷ rest → formula_of s y ≡ None)
    → ((before behind : List Sequent) (k : Sequent) → IsAt w p 0 before k behind → CopiedTo (given g) F k v q 0 before behind) → Begun w p v q keep H y F
begun_kept w v p q keep H y g F kept e new copied s rest goals =
    let to = copied [] rest s (first_at w p s rest goals) in
    let is : assuming to.name F to.base ≡ assuming y F s = ap (λ n. assuming n F to.base) (to.names.1 ∙ e) ∙ ap (assuming y F) to.names.2 in
    subst (λ b. (goals_of v q ≡ assuming y F (rest_of b H s) ∷ rest) × (formula_of (rest_of b H s) y ≡ None)) (sym kept)
    (to.at.goals ∙ ap (λ t. t ∷ rest) is, new s rest goals)

pub begun_moved : (w v : World) (p q : Held) (keep : Bool) (H y g : List ℕ) (F : Read) → keep ≡ false → g ≡ y
    → ((s : Sequent) (rest : List Sequent) → goals_of w p ≡ s ∷ rest → formula_of s y ≡ None)
    → ((s : Sequent) (rest : List Sequent) → goals_of w p ≡ s ∷ rest → formula_of s H ≡ Some F)
    → ((before behind : List Sequent) (k : Sequent) → IsAt w p 0 before k behind → MovedTo (given g) F H k v q 0 before behind) → Begun w p v q keep H y F
begun_moved w v p q keep H y g F gone e new has moved s rest goals =
    let to = moved [] rest s (first_at w p s rest goals) in
    let names : Names (given y) s to.name to.base = subst (λ x. Names (given x) s to.name to.base) e to.names in
    let is : without H (assuming to.name F to.base) ≡ assuming y F (without H s) = renamed s to.base H y to.name F (has s rest goals) names in
    subst (λ b. (goals_of v q ≡ assuming y F (rest_of b H s) ∷ rest) × (formula_of (rest_of b H s) y ≡ None)) (sym gone)
    (to.at.goals ∙ ap (λ t. t ∷ rest) is, named_still_none s.hypotheses H y (new s rest goals))

-- a name of the command's own can always be given
pub never_unnamed : (w : World) (p : Held) (y g : List ℕ) → g ≡ y → goals_of w p ≢ [] → ((s : Sequent) (rest : List Sequent) → goals_of w p ≡ s ∷ rest → formula_of s y ≡ None)
    → ((before behind : List Sequent) (k : Sequent) → IsAt w p 0 before k behind → NoName (given g) k) → ⊥
never_unnamed w p y g e some new none =
    let one = one_at_least (goals_of w p) some in
    let used : IsSome (formula_of one.0 y) = subst (λ x. IsSome (formula_of one.0 x)) e (none [] one.1 one.0 (first_at w p one.0 one.1 one.2)) in
    let clash : false ≡ true = subst (λ (o : Option Read). IsSome o) (new one.0 one.1 one.2) used in cc

-- a disjunction is one in a later world
pub either_later : (w v : World) → Grows w v → (f a b : TermId) → Holds w f → Holds w a → Holds w b → form_of (read w f) ≡ either (read w a) (read w b) → form_of (read v f) ≡ either (read v a) (read v b)
either_later w v grows f a b hf ha hb is =
    ap form_of (grows.readings f hf) ∙ is ∙ sym (ap (λ F. either F (read v b)) (grows.readings a ha) ∙ ap (λ F. either (read w a) F) (grows.readings b hb))

-- the formula is opened there

-- what a call that opens one hypothesis of the command's own says
abbrev pub OpensAt : World → Held → World → Held → ℕ → Label → List ℕ → Read → Type 0
OpensAt w p v q place l y F = (before behind : List Sequent) (k : Sequent) → IsAt w p place before k behind →
    OpenedTo (declarations_of w) (F ∷ []) l (without y k) v q place before behind

abbrev pub StopsAt : World → Held → ℕ → Label → List ℕ → Read → Type 0
StopsAt w p place l y F = (before behind : List Sequent) (k : Sequent) → IsAt w p place before k behind →
    Nameless (declarations_of w) (F ∷ []) l (without y k)

module _ (w v u : World) (p q r : Held) (keep : Bool) (H y : List ℕ) (F G : Read) (l : Label) (form : IsOpened (form_of F)) (same : G ≡ F) (declared : declarations_of v ≡ declarations_of w) (begun : Begun w p v q keep H y F) where
  pub opened_apart : OpensAt v q u r 0 l y G → TakenApart w p u r l keep H F
  opened_apart opens s rest goals =
      let k = rest_of keep H s in
      let b = begun s rest goals in
      let to = opens [] rest (assuming y F k) (first_at v q (assuming y F k) rest b.0) in
      let here : Opened (declarations_of w) (F ∷ []) l k to.label to.goal =
      subst (λ D. Opened D (F ∷ []) l k to.label to.goal) declared
      (subst (λ E. Opened (declarations_of v) (E ∷ []) l k to.label to.goal) same
      (subst (λ t. Opened (declarations_of v) (G ∷ []) l t to.label to.goal) (without_last k y F b.1) to.opened)) in
      (to.goal ∷ [], opened_leads (declarations_of w) F l s k (form_of F) form to.label to.goal here, to.at.goals)

  pub opened_stops : StopsAt v q 0 l y G → CantTake w p l keep H F names_spent
  opened_stops stops s rest goals =
      let k = rest_of keep H s in
      let b = begun s rest goals in
      let here : Nameless (declarations_of w) (F ∷ []) l k =
      subst (λ D. Nameless D (F ∷ []) l k) declared
      (subst (λ E. Nameless (declarations_of v) (E ∷ []) l k) same
      (subst (λ t. Nameless (declarations_of v) (G ∷ []) l t) (without_last k y F b.1) (stops [] rest (assuming y F k) (first_at v q (assuming y F k) rest b.0)))) in
      opened_refuses (declarations_of w) F l s k (form_of F) form here

pub begun_there : (w v : World) (p q : Held) (keep : Bool) (H y : List ℕ) (F G : Read) → G ≡ F → goals_of w p ≢ [] → Begun w p v q keep H y F → HasAt v q 0 y G
begun_there w v p q keep H y F G same some begun =
    let one = one_at_least (goals_of w p) some in
    let k = rest_of keep H one.0 in
    let b = begun one.0 one.1 one.2 in
    record {
      before = [];
      behind = one.1;
      goal = assuming y F k;
      at = first_at v q (assuming y F k) one.1 b.0;
      has = named_last k.hypotheses y F b.1 ∙ ap Some (sym same);
    }

pub or_sure : (w : World) (p : Held) (y : List ℕ) (F A B : Read) → HasAt w p 0 y F → form_of F ≡ either A B → (x x1 : List ℕ) → x ≡ y → x1 ≡ y → Sure w p 0 (or_left x (given x1))
or_sure w p y F A B there is x x1 e e1 =
    subst (λ z. Sure w p 0 (or_left z (given x1))) (sym e)
    (subst (λ z. Sure w p 0 (or_left y (given z))) (sym e1)
    (holds_at w p 0 (or_left y (given y)) there.before there.behind there.goal there.at
    (parts_or (declarations_of w) (cells_read w.types w.store) there.goal y F there.has (λ e2. let clash : Some (A, B) ≡ None = sym (ap either_in is) ∙ e2 in cc))))

pub false_sure : (w : World) (p : Held) (y : List ℕ) (F : Read) → HasAt w p 0 y F → form_of F ≡ falsity → (x : List ℕ) → x ≡ y → Sure w p 0 (false_left x)
false_sure w p y F there is x e =
    subst (λ z. Sure w p 0 (false_left z)) (sym e)
    (holds_at w p 0 (false_left y) there.before there.behind there.goal there.at
    (closes_false (declarations_of w) (cells_read w.types w.store) there.goal y F there.has (λ e2. let clash : Some tt ≡ None = sym (ap falsity_in is) ∙ e2 in cc)))

pub false_taken : (w v : World) (p q : Held) (keep : Bool) (H x : List ℕ) (F : Read) (l : Label) → form_of F ≡ falsity → Took w p v q 0 (false_left x) → TakenApart w p v q l keep H F
false_taken w v p q keep H x F l is took s rest goals =
    let t = took [] rest s (first_at w p s rest goals) in
    let none : t.0 ≡ [] = t.1.2.2.2 in
    ([], subst (λ f. Leads (cases (declarations_of w) f F l s (rest_of keep H s)) []) (sym is) refl, t.2 ∙ ap (λ qs. qs ++ rest) none)

-- the parts of a disjunction
pub or_parted : (D : Declarations) (s : Sequent) (y : List ℕ) (F A B : Read) (v : World) (q : Held) (rest : List Sequent) → formula_of s y ≡ Some F → form_of F ≡ either A B
    → Went D (or_left y (given y)) s v q [] rest → goals_of v q ≡ assuming y A (without y s) ∷ assuming y B (without y s) ∷ rest
or_parted D s y F A B v q rest has is (ps, (cells, are_cells, (G, found, (pr, are, (L, t, names, led)))), goals) =
    let same : Some G ≡ Some F = sym found ∙ has in
    let G_is : G ≡ F = cc in
    let both_are : Some pr ≡ Some (A, B) = sym are ∙ ap as_either G_is ∙ ap either_in is in
    let pair : pr ≡ (A, B) = cc in
    let list : ps ≡ assuming y A (without y s) ∷ assuming y B (without y s) ∷ [] =
    led
    ∙ ap (λ n. assuming n pr.0 t ∷ assuming n pr.1 t ∷ []) names.1
    ∙ ap (λ k. assuming y pr.0 k ∷ assuming y pr.1 k ∷ []) names.2
    ∙ ap (λ (x : Read × Read). assuming y x.0 (without y s) ∷ assuming y x.1 (without y s) ∷ []) pair in
    goals ∙ ap (λ qs. qs ++ rest) list

abbrev pub PartsInto : World → Held → World → Held → List ℕ → Read → Read → Type 0
PartsInto w p v q y A B = (s : Sequent) (rest : List Sequent) → goals_of w p ≡ s ∷ rest →
    goals_of v q ≡ assuming y A (without y s) ∷ assuming y B (without y s) ∷ rest

-- the parts of a disjunction, one after the other
module _ (w v u : World) (p q r : Held) (keep : Bool) (H y : List ℕ) (F A B A1 B1 : Read) (l : Label) (is : form_of F ≡ either A B) (begun : Begun w p v q keep H y F)
    (eA : A1 ≡ A) (eB : B1 ≡ B) (parted : PartsInto v q u r y A1 B1) where
  -- the two goals
  two_goals : (s : Sequent) (rest : List Sequent) → goals_of w p ≡ s ∷ rest → goals_of u r ≡ assuming y A (rest_of keep H s) ∷ assuming y B (rest_of keep H s) ∷ rest
  two_goals s rest goals =
      let k = rest_of keep H s in
      let b = begun s rest goals in
      parted (assuming y F k) rest b.0
      ∙ ap (λ t. assuming y A1 t ∷ assuming y B1 t ∷ rest) (without_last k y F b.1)
      ∙ ap (λ E. assuming y E k ∷ assuming y B1 k ∷ rest) eA
      ∙ ap (λ E. assuming y A k ∷ assuming y E k ∷ rest) eB

  pub first_there : goals_of w p ≢ [] → (A2 : Read) → A2 ≡ A → HasAt u r 0 y A2
  first_there some A2 e =
      let one = one_at_least (goals_of w p) some in
      let k = rest_of keep H one.0 in
      let b = begun one.0 one.1 one.2 in
      record {
        before = [];
        behind = assuming y B k ∷ one.1;
        goal = assuming y A k;
        at = record { goals = two_goals one.0 one.1 one.2; counted = refl };
        has = named_last k.hypotheses y A b.1 ∙ ap Some (sym e);
      }

  first_opened : (x : World) (o : Held) (A2 : Read) → A2 ≡ A → declarations_of u ≡ declarations_of w → OpensAt u r x o 0 l y A2
      → (s : Sequent) (rest : List Sequent) → goals_of w p ≡ s ∷ rest → OpenedTo (declarations_of w) (A ∷ []) l (rest_of keep H s) x o 0 [] (assuming y B (rest_of keep H s) ∷ rest)
  first_opened x o A2 e declared opens s rest goals =
      let k = rest_of keep H s in
      let b = begun s rest goals in
      subst (λ D. OpenedTo D (A ∷ []) l k x o 0 [] (assuming y B k ∷ rest)) declared
      (subst (λ E. OpenedTo (declarations_of u) (E ∷ []) l k x o 0 [] (assuming y B k ∷ rest)) e
      (subst (λ t. OpenedTo (declarations_of u) (A2 ∷ []) l t x o 0 [] (assuming y B k ∷ rest)) (without_last k y A b.1)
      (opens [] (assuming y B k ∷ rest) (assuming y A k) (record { goals = two_goals s rest goals; counted = refl }))))

  pub first_stops : (A2 : Read) → A2 ≡ A → declarations_of u ≡ declarations_of w → StopsAt u r 0 l y A2 → CantTake w p l keep H F names_spent
  first_stops A2 e declared stops s rest goals =
      let k = rest_of keep H s in
      let b = begun s rest goals in
      let here : Nameless (declarations_of w) (A ∷ []) l k =
      subst (λ D. Nameless D (A ∷ []) l k) declared
      (subst (λ E. Nameless (declarations_of u) (E ∷ []) l k) e
      (subst (λ t. Nameless (declarations_of u) (A2 ∷ []) l t) (without_last k y A b.1)
      (stops [] (assuming y B k ∷ rest) (assuming y A k) (record { goals = two_goals s rest goals; counted = refl })))) in
      subst (λ f. Refuses (cases (declarations_of w) f F l s k) names_spent) (sym is) (inl (here, refl))

  module _ (x : World) (o : Held) (A2 : Read) (eA2 : A2 ≡ A) (declared : declarations_of u ≡ declarations_of w) (first : OpensAt u r x o 0 l y A2) (B2 : Read) (eB2 : B2 ≡ B) (also : declarations_of x ≡ declarations_of w) where
    pub second_there : goals_of w p ≢ [] → (y1 : List ℕ) → y1 ≡ y → HasAt x o 1 y1 B2
    second_there some y1 same =
        let one = one_at_least (goals_of w p) some in
        let k = rest_of keep H one.0 in
        let b = begun one.0 one.1 one.2 in
        let to = first_opened x o A2 eA2 declared first one.0 one.1 one.2 in
        subst (λ name. HasAt x o 1 name B2) (sym same)
        (record {
          before = to.goal ∷ [];
          behind = one.1;
          goal = assuming y B k;
          at = record { goals = to.at.goals; counted = refl };
          has = named_last k.hypotheses y B b.1 ∙ ap Some (sym eB2);
        })

    pub second_opened : (z : World) (n : Held) → OpensAt x o z n 1 l y B2 → TakenApart w p z n l keep H F
    second_opened z n opens s rest goals =
        let k = rest_of keep H s in
        let b = begun s rest goals in
        let one = first_opened x o A2 eA2 declared first s rest goals in
        let to : OpenedTo (declarations_of w) (B ∷ []) l k z n 1 (one.goal ∷ []) rest =
        subst (λ D. OpenedTo D (B ∷ []) l k z n 1 (one.goal ∷ []) rest) also
        (subst (λ E. OpenedTo (declarations_of x) (E ∷ []) l k z n 1 (one.goal ∷ []) rest) eB2
        (subst (λ t. OpenedTo (declarations_of x) (B2 ∷ []) l t z n 1 (one.goal ∷ []) rest) (without_last k y B b.1)
        (opens (one.goal ∷ []) rest (assuming y B k) (record { goals = one.at.goals; counted = refl })))) in
        let leads : Leads (cases (declarations_of w) (either A B) F l s k) (one.goal ∷ to.goal ∷ []) = ((one.label, one.goal), one.opened, ((to.label, to.goal), to.opened, refl)) in
        (one.goal ∷ to.goal ∷ [], subst (λ f. Leads (cases (declarations_of w) f F l s k) (one.goal ∷ to.goal ∷ [])) (sym is) leads, to.at.goals)

    pub second_stops : StopsAt x o 1 l y B2 → CantTake w p l keep H F names_spent
    second_stops stops s rest goals =
        let k = rest_of keep H s in
        let b = begun s rest goals in
        let one = first_opened x o A2 eA2 declared first s rest goals in
        let here : Nameless (declarations_of w) (B ∷ []) l k =
        subst (λ D. Nameless D (B ∷ []) l k) also
        (subst (λ E. Nameless (declarations_of x) (E ∷ []) l k) eB2
        (subst (λ t. Nameless (declarations_of x) (B2 ∷ []) l t) (without_last k y B b.1)
        (stops (one.goal ∷ []) rest (assuming y B k) (record { goals = one.at.goals; counted = refl })))) in
        let refuses : Refuses (cases (declarations_of w) (either A B) F l s k) names_spent = inr ((one.label, one.goal), one.opened, inl (here, refl)) in
        subst (λ f. Refuses (cases (declarations_of w) f F l s k) names_spent) (sym is) refuses

-- the command's row

module _ (w : World) (p : Held) (l : Label) (keep : Bool) (H : List ℕ) (F : Read)
    (free : (s : Sequent) (rest : List Sequent) → goals_of w p ≡ s ∷ rest → clashing l s ≡ None)
    (has : (s : Sequent) (rest : List Sequent) → goals_of w p ≡ s ∷ rest → formula_of s H ≡ Some F) where
  pub case_applied : (v : World) (q : Held) → TakenApart w p v q l keep H F → IsApplied l (told.case H keep) w p v q
  case_applied v q taken s rest goals = let t = taken s rest goals in (t.0, (free s rest goals, (F, has s rest goals, t.1)), t.2)

  refused : (refusal : Refusal) (s : Sequent) (rest : List Sequent) → goals_of w p ≡ s ∷ rest → CantTake w p l keep H F refusal
      → Refuses (effect (declarations_of w) l (told.case H keep) s) refusal
  refused refusal s rest goals cant = inr (free s rest goals, inr (F, has s rest goals, cant s rest goals))

  pub case_shapeless : (HasCases (form_of F) → ⊥) → IsRefused l (told.case H keep) w p ProofCommandFault.WrongShape
  case_shapeless none s rest goals = inr (free s rest goals, inr (F, has s rest goals, shapeless (declarations_of w) F l s (rest_of keep H s) (form_of F) none))

  pub case_refused : (came : Result Outcome Stop) (fault : ProofCommandFault) → IsFaultOf came fault
      → (came ≡ Ok Outcome.Shapeless → CantTake w p l keep H F wrong_shape) → (came ≡ Ok Outcome.Marked → CantTake w p l keep H F mark)
      → ((i : ℕ) → came ≡ Ok (Outcome.Stuck i) → CantTake w p l keep H F (not_pattern (i + 1))) → (came ≡ Err Stop.NamesSpent → CantTake w p l keep H F names_spent)
      → IsRefused l (told.case H keep) w p fault
  case_refused (Ok Outcome.Taken) fault is unshaped unmarked stuck spent s rest goals = absurd is
  case_refused (Ok Outcome.Shapeless) fault is unshaped unmarked stuck spent s rest goals =
      subst (RefusedBy (effect (declarations_of w) l (told.case H keep) s)) (sym is) (refused wrong_shape s rest goals (unshaped refl))
  case_refused (Ok Outcome.Marked) fault is unshaped unmarked stuck spent s rest goals =
      subst (RefusedBy (effect (declarations_of w) l (told.case H keep) s)) (sym is) (refused mark s rest goals (unmarked refl))
  case_refused (Ok (Outcome.Stuck i)) fault (inl is) unshaped unmarked stuck spent s rest goals =
      subst (RefusedBy (effect (declarations_of w) l (told.case H keep) s)) (sym is) (refused (not_pattern (i + 1)) s rest goals (stuck i refl))
  case_refused (Ok (Outcome.Stuck i)) fault (inr is) unshaped unmarked stuck spent s rest goals =
      subst (RefusedBy (effect (declarations_of w) l (told.case H keep) s)) (sym is.1) tt
  case_refused (Err Stop.NamesSpent) fault is unshaped unmarked stuck spent s rest goals =
      subst (RefusedBy (effect (declarations_of w) l (told.case H keep) s)) (sym is) (refused names_spent s rest goals (spent refl))
  case_refused (Err (Stop.Memory e)) fault is unshaped unmarked stuck spent s rest goals =
      subst (RefusedBy (effect (declarations_of w) l (told.case H keep) s)) (sym is) tt
