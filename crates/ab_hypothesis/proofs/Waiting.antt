-- Goals that wait for their last hypothesis to be opened, one after another.
use Rattle.std.specs.Prelude.{None}
use Rattle.std.proofs.Common.{◌≡◌, ℕ, suc, ◌+◌, ◌<◌, ◌≤◌, List, [], ◌∷◌, ◌++◌, map, take, drop, length, Some, refl, sym, ◌∙◌, ap, subst, arith, append_assoc, append-nil, length-append}
use Rattle.ab_term.specs.Terms.{Read}
use Rattle.ab_formulas.specs.Declarations.{Declarations}
use Rattle.ab_formulas.specs.NewNames.{Label}
use Rattle.ab_formulas.specs.Sequents.{Sequent, formula_of, assuming, without}
use Rattle.ab_logic.specs.Worlds.{declarations_of}
use Rattle.ab_logic.specs.declared.world.World.{World}
use Rattle.ab_steps.specs.ab_kernel.specs.Layout.{Held, goals_of}
use Rattle.ab_effects.specs.Openings.{Opened, Nameless}
use Rattle.ab_effects.specs.CaseAnalysis.{AllOpened, none, one, SomeNameless, here, behind}
use Rattle.ab_steps.specs.Progress.{IsAt}
use Rattle.ab_hypothesis.specs.HypothesisProgress.{HasAt, OpenedTo}
use Rattle.ab_hypothesis.specs.AnalysedGoals.{Waits, AllWait, FirstWait, FirstOpened, FirstNameless, OpenedSoFar}
use Rattle.ab_hypothesis.proofs.Hypotheses.{named_last}
use Rattle.ab_hypothesis.proofs.StepsTaken.{without_last}

-- what was opened, and one more
all_opened_more : (D : Declarations) (l m : Label) (gs us : List Sequent) (name : List ℕ) (F : Read) (s u : Sequent) → AllOpened D l gs us → Opened D (F ∷ []) l s m u
    → AllOpened D l (gs ++ assuming name F s ∷ []) (us ++ u ∷ [])
all_opened_more D l m [] [] name F s u none o = one name o none
all_opened_more D l m [] (v ∷ us) name F s u a o = elim a [ ]
all_opened_more D l m (g ∷ gs) [] name F s u a o = elim a [ ]
all_opened_more D l m (g ∷ gs) (v ∷ us) name F s u (one x first rest) o = one x first (all_opened_more D l m gs us name F s u rest o)

-- and one that can't be
nameless_behind : (D : Declarations) (l : Label) (gs us more : List Sequent) → AllOpened D l gs us → SomeNameless D l more → SomeNameless D l (gs ++ more)
nameless_behind D l [] [] more none n = n
nameless_behind D l [] (v ∷ us) more a n = elim a [ ]
nameless_behind D l (g ∷ gs) [] more a n = elim a [ ]
nameless_behind D l (g ∷ gs) (v ∷ us) more (one x first rest) n = behind x first (nameless_behind D l gs us more rest n)

-- two lists that are one, parted at one place
pub same_parts : (xs ys us vs : List Sequent) → length xs ≡ length ys → xs ++ us ≡ ys ++ vs → (xs ≡ ys) × (us ≡ vs)
same_parts [] [] us vs l e = (refl, e)
same_parts [] (y ∷ ys) us vs l e = absurd (omega (arith, l))
same_parts (x ∷ xs) [] us vs l e = absurd (omega (arith, l))
same_parts (x ∷ xs) (y ∷ ys) us vs l e =
    let heads : x ≡ y = cc in
    let tails : xs ++ us ≡ ys ++ vs = cc in
    let rest = same_parts xs ys us vs (omega (arith, l)) tails in (
      ap (λ z. z ∷ xs) heads ∙ ap (λ zs. y ∷ zs) rest.0,
      rest.1,
    )

module _ (w : World) (p : Held) (l : Label) (name : List ℕ) (count : ℕ) where
  -- none is opened yet
  pub begins : FirstWait w p name count → OpenedSoFar w p l name count w p 0
  begins f = record {
    first = [];
    opened = [];
    waiting = f.goals;
    behind = f.behind;
    were = f.are;
    are = f.are;
    all = none;
    wait = f.wait;
    done = refl;
    of_first = refl;
    in_all = let counted = f.counted in omega (arith, counted);
  }

  module _ (v : World) (q : Held) (place : ℕ) (so : OpenedSoFar w p l name count v q place) where
    -- the next goal waits
    pub record Next : Type 0 where
      pub formula : Read
      pub rest : Sequent
      pub more : List Sequent
      pub waiting : so.waiting ≡ assuming name formula rest ∷ more
      pub new : formula_of rest name ≡ None
      pub wait : AllWait name more
      pub at : IsAt v q place so.opened (assuming name formula rest) (more ++ so.behind)

    next_of : (gs : List Sequent) → so.waiting ≡ gs → place < count → Next
    next_of [] e less = let in_all = so.in_all in let none_left : length so.waiting ≡ 0 = ap length e in absurd (omega (arith, in_all, none_left, less))
    next_of (g ∷ gs) e less =
        let wait : AllWait name (g ∷ gs) = subst (AllWait name) e so.wait in
        let first = wait.0 in
        let whole : g ∷ gs ≡ assuming name first.formula first.rest ∷ gs = ap (λ h. h ∷ gs) first.is in
        record {
          formula = first.formula;
          rest = first.rest;
          more = gs;
          waiting = e ∙ whole;
          new = first.new;
          wait = wait.1;
          at = record { goals = so.are ∙ ap (λ hs. so.opened ++ (hs ++ so.behind)) (e ∙ whole); counted = so.done };
        }

    pub next : place < count → Next
    next less = next_of so.waiting refl less

    pub next_there : (less : place < count) → (F : Read) × HasAt v q place name F
    next_there less =
        let n = next less in
        (n.formula, record { before = so.opened; behind = n.more ++ so.behind; goal = assuming name n.formula n.rest; at = n.at; has = named_last n.rest.hypotheses name n.formula n.new })

    -- it is opened
    pub one_more : (u : World) (r : Held) → declarations_of v ≡ declarations_of w → (less : place < count)
        → ((before after : List Sequent) (k : Sequent) (F : Read) → IsAt v q place before k after → formula_of k name ≡ Some F → OpenedTo (declarations_of v) (F ∷ []) l (without name k) u r place before after)
        → OpenedSoFar w p l name count u r (place + 1)
    one_more u r declared less opens =
        let n = next less in
        let k = assuming name n.formula n.rest in
        let to = opens so.opened (n.more ++ so.behind) k n.formula n.at (named_last n.rest.hypotheses name n.formula n.new) in
        let opened : Opened (declarations_of w) (n.formula ∷ []) l n.rest to.label to.goal =
        subst (λ D. Opened D (n.formula ∷ []) l n.rest to.label to.goal) declared
        (subst (λ s. Opened (declarations_of v) (n.formula ∷ []) l s to.label to.goal) (without_last n.rest name n.formula n.new) to.opened) in
        let in_all = so.in_all in
        let some : length so.waiting ≡ 1 + length n.more = ap length n.waiting ∙ omega arith in
        let done = so.done in
        let of_first = so.of_first in
        let more_done = length-append so.opened (to.goal ∷ []) in
        let more_first = length-append so.first (k ∷ []) in
        record {
          first = so.first ++ k ∷ [];
          opened = so.opened ++ to.goal ∷ [];
          waiting = n.more;
          behind = so.behind;
          were = so.were ∙ ap (λ hs. so.first ++ (hs ++ so.behind)) n.waiting ∙ sym (append_assoc so.first (k ∷ []) (n.more ++ so.behind));
          are = to.at.goals ∙ sym (append_assoc so.opened (to.goal ∷ []) (n.more ++ so.behind));
          all = all_opened_more (declarations_of w) l to.label so.first so.opened name n.formula n.rest to.goal so.all opened;
          wait = n.wait;
          done = more_done ∙ ap (λ m. m + 1) done;
          of_first = more_first ∙ ap (λ m. m + 1) of_first;
          in_all = omega (arith, in_all, some);
        }

    -- it can't be
    pub one_stops : declarations_of v ≡ declarations_of w → (less : place < count)
        → ((before after : List Sequent) (k : Sequent) (F : Read) → IsAt v q place before k after → formula_of k name ≡ Some F → Nameless (declarations_of v) (F ∷ []) l (without name k))
        → FirstNameless w p l count
    one_stops declared less stops =
        let n = next less in
        let k = assuming name n.formula n.rest in
        let nameless : Nameless (declarations_of w) (n.formula ∷ []) l n.rest =
        subst (λ D. Nameless D (n.formula ∷ []) l n.rest) declared
        (subst (λ s. Nameless (declarations_of v) (n.formula ∷ []) l s) (without_last n.rest name n.formula n.new)
        (stops so.opened (n.more ++ so.behind) k n.formula n.at (named_last n.rest.hypotheses name n.formula n.new))) in
        let in_all = so.in_all in
        let of_first = so.of_first in
        let some : length so.waiting ≡ 1 + length n.more = ap length n.waiting ∙ omega arith in
        let long = length-append so.first (k ∷ n.more) in
        let these : length (k ∷ n.more) ≡ 1 + length n.more = omega arith in
        record {
          goals = so.first ++ k ∷ n.more;
          behind = so.behind;
          are = so.were ∙ ap (λ hs. so.first ++ (hs ++ so.behind)) n.waiting ∙ sym (append_assoc so.first (k ∷ n.more) so.behind);
          counted = omega (arith, long, these, of_first, in_all, some);
          one = nameless_behind (declarations_of w) l so.first so.opened (k ∷ n.more) so.all (here name nameless);
        }

    -- all are
    all_of : (gs : List Sequent) → so.waiting ≡ gs → count ≤ place → FirstOpened w p l count v q
    all_of [] e ended =
        let in_all = so.in_all in
        let of_first = so.of_first in
        let none_left : length so.waiting ≡ 0 = ap length e in
        record {
          goals = so.first;
          behind = so.behind;
          opened = so.opened;
          were = so.were ∙ ap (λ hs. so.first ++ (hs ++ so.behind)) e;
          counted = omega (arith, of_first, in_all, none_left);
          all = so.all;
          are = so.are ∙ ap (λ hs. so.opened ++ (hs ++ so.behind)) e;
        }
    all_of (g ∷ gs) e ended =
        let in_all = so.in_all in
        let some : length so.waiting ≡ 1 + length gs = ap length e ∙ omega arith in
        absurd (omega (arith, in_all, some, ended))

    pub ends : count ≤ place → FirstOpened w p l count v q
    ends ended = all_of so.waiting refl ended
