-- One stretch of steps after another, where a goal is then, and the proof as it was.
use Rattle.std.specs.Prelude.{Result, Ok, Err, IfOk, OnErr, slice_get}
use Rattle.std.proofs.Common.{◌≡◌, ◌≢◌, ℕ, ◌+◌, ◌-◌, ◌<◌, List, [], ◌∷◌, ◌++◌, Some, None, length, take, drop, refl, sym, ◌∙◌, ap, subst, arith, append-nil}
use Rattle.ab_unify.specs.Problem.{cells_read}
use Rattle.ab_logic.specs.Worlds.{IsWorld, declarations_of}
use Rattle.ab_logic.specs.WorldGrowth.{Grows}
use Rattle.ab_formulas.specs.Sequents.{Sequent}
use Rattle.ab_logic.specs.declared.world.World.{World}
use Rattle.ab_logic.proofs.Growing.{grows_on, grows_not}
use Rattle.ab_theory.specs.Steps.{Step}
use Rattle.ab_kernel.specs.ab_rules.specs.declared.step.KernelFault.{KernelFault}
use Rattle.ab_theory.specs.Derivations.{Debt, debts_of, debts, History, IsStep, GoalFails, GoalStuck, undone, open_goals, Above}
use Rattle.ab_kernel.specs.Layout.{Held, history_of, IsProof, before_steps, Beyond, goals_of}
use Rattle.ab_theory.proofs.Adding.{above_none, above_one, above_on, taken_at, failed_at, stuck_at}
use Rattle.ab_kernel.proofs.Earlier.{standing, beyond_none, beyond_on}
use Rattle.ab_kernel.proofs.Later.{same_history}
use Rattle.ab_formulas.proofs.KernelSplits.{within, at_place, get_here}
use Rattle.ab_steps.proofs.OwedJust.{OwesJust, just_refined, just_same, just_on}
use Rattle.ab_steps.specs.Progress.{IsAt, Advances, Owes, FollowsOwing, Follows, FollowsBy, Took, TookInto, FailsAt, FailsBy, StuckAt}

-- what is owed more, and what follows

pub owes_then : (ts us : List Debt) (w v u : World) (p q r : Held) → Owes ts w p v q → Owes us v q u r → Owes (ts ++ us) w p u r
owes_then ts us w v u p q r a b = just_on ts us (history_of w p).tree (history_of v q).tree (history_of u r).tree a b

pub advances_on : (w v u : World) (p q r : Held) → Advances w p v q → Advances v q u r → Advances w p u r
advances_on w v u p q r a b = record {
  grows = grows_on w v u a.grows b.grows;
  declared = b.declared ∙ a.declared;
  proof = b.proof;
  above = above_on (history_of w p) (history_of v q) (history_of u r) a.above b.above;
  beyond = beyond_on p q r a.beyond b.beyond;
}

-- what follows advances
pub advances : {ts : List Debt} {w v : World} {p q : Held} → FollowsOwing ts w p v q → Advances w p v q
advances f = record { grows = f.grows; declared = f.declared; proof = f.proof; above = f.above; beyond = f.beyond }

pub owing : (ts : List Debt) {w v : World} {p q : Held} → Advances w p v q → Owes ts w p v q → FollowsOwing ts w p v q
owing ts a owes = record { grows = a.grows; declared = a.declared; proof = a.proof; above = a.above; beyond = a.beyond; owes = owes }

pub owing_on : (ts us : List Debt) (w v u : World) (p q r : Held) → FollowsOwing ts w p v q → FollowsOwing us v q u r → FollowsOwing (ts ++ us) w p u r
owing_on ts us w v u p q r a b = owing (ts ++ us) (advances_on w v u p q r (advances a) (advances b)) (owes_then ts us w v u p q r a.owes b.owes)

pub follows_on : (w v u : World) (p q r : Held) → Follows w p v q → Follows v q u r → Follows w p u r
follows_on w v u p q r a b = owing_on [] [] w v u p q r a b

-- steps that owe nothing, before others and behind them
pub owes_behind : (ts : List Debt) (w v u : World) (p q r : Held) → Owes ts w p v q → Owes [] v q u r → Owes ts w p u r
owes_behind ts w v u p q r a b = subst (λ us. Owes us w p u r) (append-nil ts) (owes_then ts [] w v u p q r a b)

pub owes_before : (ts : List Debt) (w v u : World) (p q r : Held) → Owes [] w p v q → Owes ts v q u r → Owes ts w p u r
owes_before ts w v u p q r a b = owes_then [] ts w v u p q r a b

-- a step that owes these
pub follows_by : (ts : List Debt) {w v : World} {p q : Held} → Advances w p v q → Owes ts w p v q → FollowsBy ts w p v q
follows_by [] a owes = owing [] a owes
follows_by (t ∷ ts) a owes = a

pub advances_by : (ts : List Debt) {w v : World} {p q : Held} → FollowsBy ts w p v q → Advances w p v q
advances_by [] f = advances f
advances_by (t ∷ ts) a = a

pub follows_free : (ts : List Debt) {w v : World} {p q : Held} → ts ≡ [] → FollowsBy ts w p v q → Follows w p v q
follows_free [] none f = f
follows_free (t ∷ ts) none f = absurd (cc)

-- no step was taken
pub follows_not : (w : World) (p : Held) → IsWorld w → IsProof w p → Follows w p w p
follows_not w p world proof = record {
  grows = grows_not w world;
  declared = refl;
  proof = proof;
  above = above_none (history_of w p);
  beyond = beyond_none p;
  owes = just_same (history_of w p).tree (history_of w p).tree refl;
}

-- the proof is as before, in a world that may have grown
pub as_before : (w v : World) (p q : Held) → Grows w v → IsProof w p → q ≡ p → history_of v q ≡ history_of w p
as_before w v p q grows old same = ap (history_of v) same ∙ same_history w v grows p old

-- what stands where it stood owes the same
pub owes_still : (w v : World) (p q : Held) → history_of v q ≡ history_of w p → Owes [] w p v q
owes_still w v p q same = just_same (history_of w p).tree (history_of v q).tree (ap (λ (h : History). debts h.tree) (sym same))

pub follows_same : (w v : World) (p q : Held) → Grows w v → declarations_of v ≡ declarations_of w → IsProof w p → IsProof v q → q ≡ p → Follows w p v q
follows_same w v p q grows declared old new same =
    record {
      grows = grows;
      declared = declared;
      proof = new;
      above = subst (Above (history_of w p)) (sym (as_before w v p q grows old same)) (above_none (history_of w p));
      beyond = subst (Beyond p) (sym same) (beyond_none p);
      owes = owes_still w v p q (as_before w v p q grows old same);
    }

-- a step that wasn't taken, whatever it owes
pub by_same : (ts : List Debt) (w v : World) (p q : Held) → Grows w v → declarations_of v ≡ declarations_of w → IsProof w p → IsProof v q → q ≡ p → FollowsBy ts w p v q
by_same [] w v p q grows declared old new same = follows_same w v p q grows declared old new same
by_same (t ∷ ts) w v p q grows declared old new same = advances (follows_same w v p q grows declared old new same)

-- a step that was taken
pub owes_step : (w v : World) (p q : Held) (place n : ℕ) (step : Step) → IsStep (declarations_of w) place step n (history_of w p) (history_of v q) → Owes (debts_of step) w p v q
owes_step w v p q place n step is =
    subst (λ (h : History). OwesJust (debts_of step) (history_of w p).tree h.tree) (sym is.made)
    (just_refined place step is.here is.premises (history_of w p).tree is.is_here)

pub by_step : (w v : World) (p q : Held) (place n : ℕ) (step : Step) → Grows w v → declarations_of v ≡ declarations_of w → IsProof v q → IsStep (declarations_of w) place step n (history_of w p) (history_of v q) → Beyond p q
    → FollowsBy (debts_of step) w p v q
by_step w v p q place n step grows declared new is beyond =
    follows_by (debts_of step)
    (record { grows = grows; declared = declared; proof = new; above = above_one (declarations_of w) place n step (history_of w p) (history_of v q) is; beyond = beyond })
    (owes_step w v p q place n step is)

pub took : (w v : World) (p q : Held) (place n : ℕ) (step : Step) → IsStep (declarations_of w) place step n (history_of w p) (history_of v q) → Took w p v q place step
took w v p q place n step is before behind s at =
    let t = taken_at (declarations_of w) place n step (history_of w p) (history_of v q) before behind s is at.goals at.counted in
    (t.0, t.1, t.3)

-- the same, with the number of premises
pub took_into : (w v : World) (p q : Held) (place n : ℕ) (step : Step) → IsStep (declarations_of w) place step n (history_of w p) (history_of v q) → TookInto w p v q place step n
took_into w v p q place n step is before behind s at =
    let t = taken_at (declarations_of w) place n step (history_of w p) (history_of v q) before behind s is at.goals at.counted in
    (t.0, (t.1, t.2), t.3)

pub failed : (w : World) (p : Held) (place i : ℕ) (step : Step) → GoalFails (declarations_of w) (cells_read w.types w.store) place step i (history_of w p).tree → FailsAt w p place step
failed w p place i step f before behind s at =
    (i, failed_at (declarations_of w) (cells_read w.types w.store) place i step (history_of w p).tree before behind s f at.goals at.counted)

pub failed_by : (w : World) (p : Held) (place i : ℕ) (step : Step) → GoalFails (declarations_of w) (cells_read w.types w.store) place step i (history_of w p).tree → FailsBy w p place step i
failed_by w p place i step f before behind s at =
    failed_at (declarations_of w) (cells_read w.types w.store) place i step (history_of w p).tree before behind s f at.goals at.counted

pub sticks_there : (w : World) (p : Held) (place i : ℕ) (step : Step) → GoalStuck (declarations_of w) (cells_read w.types w.store) place step i (history_of w p).tree → StuckAt w p place step i
sticks_there w p place i step f before behind s at =
    stuck_at (declarations_of w) (cells_read w.types w.store) place i step (history_of w p).tree before behind s f at.goals at.counted

-- what was taken since is taken back
pub back : (w v : World) (p q r : Held) (count : ℕ) → Advances w p v q → count ≡ length (history_of w p).earlier
    → history_of v r ≡ undone (length (history_of v q).earlier - count) (history_of v q) → history_of v r ≡ history_of w p
back w v p q r count f counted e =
    e ∙ ap (λ n. undone (length (history_of v q).earlier - n) (history_of v q)) counted ∙ f.above.back

-- and each node is as it was
pub again : (w v : World) (p q r : Held) (count : ℕ) → Advances w p v q → count ≡ length (history_of w p).earlier
    → r ≡ before_steps (length q.journal - count) q → r ≡ p
again w v p q r count f counted e = e ∙ ap (λ n. before_steps (length q.journal - n) q) (counted ∙ standing w p) ∙ f.beyond.back

-- a proof that stands where it stood is as it was
pub nothing_left : (w v : World) (p q : Held) → Advances w p v q → history_of v q ≡ history_of w p → q ≡ p
nothing_left w v p q f same =
    let none : length q.journal - length p.journal ≡ 0 =
    omega (arith, standing v q, standing w p, ap (λ (h : History). length h.earlier) same) in
    sym (ap (λ n. before_steps n q) none) ∙ f.beyond.back

pub follows_back : (w v : World) (p q r : Held) → Advances w p v q → IsProof v r → history_of v r ≡ history_of w p → r ≡ p → Follows w p v r
follows_back w v p q r f proof e same = record {
  grows = f.grows;
  declared = f.declared;
  proof = proof;
  above = subst (Above (history_of w p)) (sym e) (above_none (history_of w p));
  beyond = subst (Beyond p) (sym same) (beyond_none p);
  owes = owes_still w v p r e;
}

pub record Somewhere (w : World) (p : Held) (place : ℕ) : Type 0 where
  pub before : List Sequent
  pub behind : List Sequent
  pub goal : Sequent
  pub at : IsAt w p place before goal behind

pub somewhere : (w : World) (p : Held) (place : ℕ) → place < length (goals_of w p) → Somewhere w p place
somewhere w p place l =
    let x = within (goals_of w p) place l in
    let a = at_place (goals_of w p) place x.0 x.1 in
    record {
      before = take place (goals_of w p);
      behind = drop (place + 1) (goals_of w p);
      goal = x.0;
      at = record { goals = a.whole; counted = a.counted };
    }

-- the goal of the place
pub found : (w : World) (p : Held) (place : ℕ) (before behind : List Sequent) (s : Sequent) → IsAt w p place before s behind
    → slice_get (goals_of w p) place ≡ Some s
found w p place before behind s at =
    subst (λ n. slice_get (goals_of w p) n ≡ Some s) at.counted
    (ap (λ gs. slice_get gs (length before)) at.goals ∙ get_here before s behind)

pub one_goal : (w : World) (p : Held) (place : ℕ) (b e c f : List Sequent) (s t : Sequent) → IsAt w p place b s e → IsAt w p place c t f → s ≡ t
one_goal w p place b e c f s t x y =
    let both : Some s ≡ Some t = sym (found w p place b e s x) ∙ found w p place c f t y in
    cc

more_than : (xs ys : List Sequent) (s : Sequent) → length xs < length (xs ++ s ∷ ys)
more_than [] ys s = omega arith
more_than (x ∷ xs) ys s = let rest = more_than xs ys s in omega (arith, rest)

pub place_of : (w : World) (p : Held) (place : ℕ) (b e : List Sequent) (s : Sequent) → IsAt w p place b s e → place < length (goals_of w p)
place_of w p place b e s at =
    subst (λ n. n < length (goals_of w p)) at.counted (subst (λ gs. length b < length gs) (sym at.goals) (more_than b e s))

-- the first goal
pub first_at : (w : World) (p : Held) (s : Sequent) (rest : List Sequent) → goals_of w p ≡ s ∷ rest → IsAt w p 0 [] s rest
first_at w p s rest e = record { goals = e; counted = refl }

pub some_goal : (gs : List Sequent) → gs ≢ [] → 0 < length gs
some_goal [] none = absurd (none refl)
some_goal (g ∷ gs) none = omega arith

-- what is left once all steps but so many were taken back
pub taken_back : (w v u : World) (p q r : Held) (count : ℕ) → u ≡ v → ((x : World) → history_of x r ≡ undone (length (history_of x q).earlier - count) (history_of x q))
    → Advances w p v q → count ≡ length (history_of w p).earlier → history_of u r ≡ history_of w p
taken_back w v u p q r count same undone f counted =
    ap (λ x. history_of x r) same ∙ back w v p q r count f counted (undone v)

pub follows_taken_back : (w v u : World) (p q r : Held) (count : ℕ) → u ≡ v → ((x : World) → history_of x r ≡ undone (length (history_of x q).earlier - count) (history_of x q))
    → ((x : World) → IsProof x q → IsProof x r) → r ≡ before_steps (length q.journal - count) q
    → Advances w p v q → count ≡ length (history_of w p).earlier → Follows w p u r
follows_taken_back w v u p q r count same undone proof layout f counted =
    subst (λ x. Follows w p x r) (sym same)
    (follows_back w v p q r f (proof v f.proof) (back w v p q r count f counted (undone v)) (again w v p q r count f counted layout))

-- the goal of place 0 is the first one
pub at_first : (w : World) (p : Held) (before behind : List Sequent) (s : Sequent) → IsAt w p 0 before s behind → goals_of w p ≡ s ∷ behind
at_first w p [] behind s at = at.goals
at_first w p (b ∷ bs) behind s at = let n = at.counted in absurd (cc)

pub one_at_least : (gs : List Sequent) → gs ≢ [] → (s : Sequent) × (rest : List Sequent) × (gs ≡ s ∷ rest)
one_at_least [] none = absurd (none refl)
one_at_least (g ∷ gs) none = (g, gs, refl)

pub none_first : (gs : List Sequent) → gs ≢ [] → slice_get gs 0 ≡ None → ⊥
none_first [] some none = some refl
none_first (g ∷ gs) some none = cc
