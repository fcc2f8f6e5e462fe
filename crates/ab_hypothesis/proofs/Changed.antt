-- A hypothesis or the conclusion gives way to a formula that comes of it, step by step.
use Rattle.std.specs.Prelude.{Result, Ok, Err, IfOk, OnOk, OnErr}
use Rattle.std.specs.Option.{IsSome}
use Rattle.std.proofs.Common.{◌≡◌, ◌≢◌, ℕ, suc, length, Bool, true, false, List, [], ◌∷◌, ◌++◌, Option, Some, None, refl, sym, ◌∙◌, ap, subst, append_assoc}
use Rattle.ab_term.specs.Terms.{Read}
use Rattle.ab_formulas.specs.NewNames.{given, Names, NoName}
use Rattle.ab_formulas.specs.Sequents.{Sequent, IsUsed, formula_of, proving, assuming, without}
use Rattle.ab_logic.specs.declared.world.World.{World}
use Rattle.ab_theory.specs.Steps.{initial, cut_formula}
use Rattle.ab_steps.specs.ab_kernel.specs.ab_rules.specs.Terms.{Adds}
use Rattle.ab_theory.specs.Derivations.{History, open_goals}
use Rattle.ab_steps.specs.ab_kernel.specs.Layout.{Held, IsProof, goals_of}
use Rattle.ab_steps.specs.ab_kernel.proofs.Later.{still_proof}
use Rattle.ab_steps.proofs.Following.{follows_same, as_before, first_at as first}
use Rattle.ab_steps.specs.Progress.{IsAt, Took, Follows}
use Rattle.ab_hypothesis.specs.HypothesisProgress.{HasAt, MovedTo}
use Rattle.ab_hypothesis.proofs.Hypotheses.{entry, named_gone, named_past, named_stays, named_last, named_still_none, others_last}
use Rattle.ab_hypothesis.proofs.Owned.{without_past}
use Rattle.ab_hypothesis.proofs.Rows.{renamed}
use Rattle.ab_hypothesis.proofs.StepsTaken.{without_last}

pub in_ok : {A E : Type 0} {P Q : A → Type 0} (r : Result A E) → ((x : A) → P x → Q x) → IfOk r P → IfOk r Q
in_ok (Ok x) f p = f x p
in_ok (Err e) f p = p

pub on_ok : {A E P Q : Type 0} (r : Result A E) → (P → Q) → OnOk r P → OnOk r Q
on_ok (Ok x) f p = f p
on_ok (Err e) f p = p

pub on_err : {A E Q : Type 0} (r : Result A E) → Q → OnErr r Q
on_err (Ok x) q = tt
on_err (Err e) q = q

-- the goal of the first place
-- two goals come of a cut
abbrev pub Cuts : World → Held → World → Held → List ℕ → Read → Type 0
Cuts w p v q y F = (s : Sequent) (rest : List Sequent) → goals_of w p ≡ s ∷ rest → goals_of v q ≡ proving F s ∷ assuming y F s ∷ rest

pub cut_made : (w v : World) (p q : Held) (y g : List ℕ) (F : Read) → g ≡ y → Took w p v q 0 (cut_formula F (given g)) → Cuts w p v q y F
cut_made w v p q y g F e took s rest goals =
    let t = took [] rest s (first w p s rest goals) in
    let led : t.0 ≡ proving F s ∷ assuming t.1.2.1.0 F t.1.2.1.1 ∷ [] = t.1.2.1.3 in
    let names : Names (given g) s t.1.2.1.0 t.1.2.1.1 = t.1.2.1.2 in
    t.2
    ∙ ap (λ ps. ps ++ rest) led
    ∙ ap (λ n. proving F s ∷ assuming n F t.1.2.1.1 ∷ rest) (names.1 ∙ e)
    ∙ ap (λ k. proving F s ∷ assuming y F k ∷ rest) names.2

-- a goal is closed
abbrev pub Closes : World → Held → World → Held → ℕ → Type 0
Closes w p v q place = (before behind : List Sequent) (k : Sequent) → IsAt w p place before k behind → goals_of v q ≡ before ++ behind

pub closed_by : (w v : World) (p q : Held) (place : ℕ) (x : List ℕ) → Took w p v q place (initial x) → Closes w p v q place
closed_by w v p q place x took before behind k at =
    let t = took before behind k at in
    let none : t.0 ≡ [] = t.1.2.2.1.1 in
    t.2 ∙ ap (λ ps. before ++ ps ++ behind) none ∙ append_assoc before [] behind

-- the second of the two goals is closed
pub second_at : (v : World) (q : Held) (y : List ℕ) (F : Read) (s : Sequent) (rest : List Sequent) → goals_of v q ≡ proving F s ∷ assuming y F s ∷ rest
    → IsAt v q 1 (proving F s ∷ []) (assuming y F s) rest
second_at v q y F s rest goals = record { goals = goals; counted = refl }

pub conclusion_changed : (w v u : World) (p q r : Held) (y : List ℕ) (F : Read) → Cuts w p v q y F → Closes v q u r 1
    → (s : Sequent) (rest : List Sequent) → goals_of w p ≡ s ∷ rest → goals_of u r ≡ proving F s ∷ rest
conclusion_changed w v u p q r y F cuts closes s rest goals = closes (proving F s ∷ []) rest (assuming y F s) (second_at v q y F s rest (cuts s rest goals))

-- the first is closed
pub put : (w v u : World) (p q r : Held) (y : List ℕ) (F : Read) → Cuts w p v q y F → Closes v q u r 0
    → (s : Sequent) (rest : List Sequent) → goals_of w p ≡ s ∷ rest → goals_of u r ≡ assuming y F s ∷ rest
put w v u p q r y F cuts closes s rest goals = closes [] (assuming y F s ∷ rest) (proving F s) (first v q (proving F s) (assuming y F s ∷ rest) (cuts s rest goals))

pub first_there : (w v : World) (p q : Held) (y : List ℕ) (F : Read) → Cuts w p v q y F
    → (s : Sequent) (rest : List Sequent) → goals_of w p ≡ s ∷ rest → (before behind : List Sequent) × (k : Sequent) × IsAt v q 0 before k behind
first_there w v p q y F cuts s rest goals = ([], assuming y F s ∷ rest, proving F s, first v q (proving F s) (assuming y F s ∷ rest) (cuts s rest goals))

pub second_there : (w v : World) (p q : Held) (y : List ℕ) (F : Read) → Cuts w p v q y F
    → (s : Sequent) (rest : List Sequent) → goals_of w p ≡ s ∷ rest → (before behind : List Sequent) × (k : Sequent) × IsAt v q 1 before k behind
second_there w v p q y F cuts s rest goals = (proving F s ∷ [], rest, assuming y F s, second_at v q y F s rest (cuts s rest goals))

pub has_first : (w : World) (p : Held) (name : List ℕ) (F : Read) → HasAt w p 0 name F → (s : Sequent) (rest : List Sequent) → goals_of w p ≡ s ∷ rest → formula_of s name ≡ Some F
has_first w p name F there s rest goals = go there.before there.at.counted there.at.goals
  where
    go : (b : List Sequent) → length b ≡ 0 → goals_of w p ≡ b ++ there.goal ∷ there.behind → formula_of s name ≡ Some F
    go [] l e =
        let both : s ∷ rest ≡ there.goal ∷ there.behind = sym goals ∙ e in
        let same : s ≡ there.goal = cc in
        ap (λ k. formula_of k name) same ∙ there.has
    go (x ∷ b) l e = let n : suc (length b) ≡ 0 = l in cc

-- the old hypothesis goes
module _ (w u : World) (p r : Held) (name y : List ℕ) (F : Read)
    (new : (s : Sequent) (rest : List Sequent) → goals_of w p ≡ s ∷ rest → formula_of s y ≡ None)
    (has : (G : Read) × HasAt w p 0 name G)
    (beside : (s : Sequent) (rest : List Sequent) → goals_of w p ≡ s ∷ rest → goals_of u r ≡ assuming y F s ∷ rest) where
  old : (s : Sequent) (rest : List Sequent) → goals_of w p ≡ s ∷ rest → formula_of s name ≡ Some has.0
  old s rest goals = has_first w p name has.0 has.1 s rest goals

  apart : (s : Sequent) (rest : List Sequent) → goals_of w p ≡ s ∷ rest → y ≢ name
  apart s rest goals e = let clash : Some has.0 ≡ None = sym (old s rest goals) ∙ ap (formula_of s) (sym e) ∙ new s rest goals in cc

  pub old_there : (s : Sequent) (rest : List Sequent) → goals_of w p ≡ s ∷ rest → (G : Read) × HasAt u r 0 name G
  old_there s rest goals = (
    has.0,
    record {
      before = [];
      behind = rest;
      goal = assuming y F s;
      at = first u r (assuming y F s) rest (beside s rest goals);
      has = named_stays s.hypotheses (entry y F ∷ []) name has.0 (old s rest goals);
    },
  )

  module _ (x : World) (o : Held) (gone : (before behind : List Sequent) (k : Sequent) → IsAt u r 0 before k behind → IsAt x o 0 before (without name k) behind) where
    without_old : (s : Sequent) (rest : List Sequent) → goals_of w p ≡ s ∷ rest → goals_of x o ≡ assuming y F (without name s) ∷ rest
    without_old s rest goals =
        (gone [] rest (assuming y F s) (first u r (assuming y F s) rest (beside s rest goals))).goals
        ∙ ap (λ k. k ∷ rest) (without_past s name y F (apart s rest goals))

    own_found : (s : Sequent) (rest : List Sequent) → goals_of w p ≡ s ∷ rest → formula_of (assuming y F (without name s)) y ≡ Some F
    own_found s rest goals = named_last (without name s).hypotheses y F (named_still_none s.hypotheses name y (new s rest goals))

    pub own_there : (G : Read) → G ≡ F → (s : Sequent) (rest : List Sequent) → goals_of w p ≡ s ∷ rest → HasAt x o 0 y G
    own_there G e s rest goals =
        subst (HasAt x o 0 y) (sym e)
        (record {
          before = [];
          behind = rest;
          goal = assuming y F (without name s);
          at = first x o (assuming y F (without name s)) rest (without_old s rest goals);
          has = own_found s rest goals;
        })

    -- its name is free
    pub name_free : (g : List ℕ) → g ≡ name → ((before behind : List Sequent) (k : Sequent) → IsAt x o 0 before k behind → NoName (given g) k)
        → (s : Sequent) (rest : List Sequent) → goals_of w p ≡ s ∷ rest → ⊥
    name_free g e unnamed s rest goals =
        let k : Sequent = assuming y F (without name s) in
        let used : IsUsed k name = subst (λ n. IsUsed k n) e (unnamed [] rest k (first x o k rest (without_old s rest goals))) in
        let free : formula_of k name ≡ None = named_past (without name s).hypotheses y name F (apart s rest goals) ∙ named_gone s.hypotheses name in
        let clash : false ≡ true = subst (λ (z : Option Read). IsSome z) free used in
        cc

    pub hypothesis_changed : (z : World) (m : Held) (g : List ℕ) (G : Read) → g ≡ name → G ≡ F
        → ((before behind : List Sequent) (k : Sequent) → IsAt x o 0 before k behind → MovedTo (given g) G y k z m 0 before behind)
        → (s : Sequent) (rest : List Sequent) → goals_of w p ≡ s ∷ rest → goals_of z m ≡ assuming name F (without name s) ∷ rest
    hypothesis_changed z m g G e same moved s rest goals =
        let k : Sequent = assuming y F (without name s) in
        let to = moved [] rest k (first x o k rest (without_old s rest goals)) in
        let names : Names (given name) k to.name to.base = subst (λ n. Names (given n) k to.name to.base) e to.names in
        to.at.goals
        ∙ ap (λ H. without y (assuming to.name H to.base) ∷ rest) same
        ∙ ap (λ t. t ∷ rest)
        (renamed k to.base y name to.name F (own_found s rest goals) names
        ∙ ap (assuming name F) (without_last (without name s) y F (named_still_none s.hypotheses name y (new s rest goals))))

-- nothing but terms was added
pub begins : (w v : World) (p : Held) → IsProof w p → Adds w v → Follows w p v p
begins w v p is adds = follows_same w v p p adds.grows adds.declared is (still_proof w v adds.grows adds.declared p is) refl

pub same_goals : (w v : World) (p : Held) → IsProof w p → Adds w v → goals_of v p ≡ goals_of w p
same_goals w v p is adds = ap (λ (h : History). open_goals h.tree) (as_before w v p p adds.grows is refl)

-- all steps were taken
pub of_all : {E : Type 0} (P : Bool → Type 0) (r : Result Bool E) → r ≡ Ok true → IfOk r P → P true
of_all P (Ok b) e p = let both : Ok b ≡ Ok true = e in let one : b ≡ true = cc in subst P one p
of_all P (Err f) e p = let clash : Err f ≡ Ok true = e in cc

-- the hypothesis is still there
pub has_later : (w v : World) (p : Held) → IsProof w p → Adds w v → (name : List ℕ) (F : Read) → HasAt w p 0 name F → (G : Read) × HasAt v p 0 name G
has_later w v p is adds name F there = (
  F,
  record {
    before = there.before;
    behind = there.behind;
    goal = there.goal;
    at = record { goals = same_goals w v p is adds ∙ there.at.goals; counted = there.at.counted };
    has = there.has;
  },
)
