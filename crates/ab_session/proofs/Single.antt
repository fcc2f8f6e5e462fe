-- A session came from one session, but for room.
use Rattle.std.proofs.Common.{◌≡◌, ℕ, ◌-◌, List, [], ◌∷◌, ◌++◌, length, Option, Some, None, refl, sym, ◌∙◌, ap, subst, arith}
use Rattle.std.proofs.lemmas.List.{take_all}
use Rattle.ab_store.specs.Marks.{at_mark}
use Rattle.ab_store.specs.Trees.{Contents as Terms}
use Rattle.ab_logic.specs.WorldGrowth.{Grows}
use Rattle.ab_logic.specs.declared.world.World.{World}
use Rattle.ab_proofcmd.specs.ab_hypothesis.specs.ab_steps.specs.ab_kernel.specs.Layout.{Held, before_steps, Beyond}
use Rattle.ab_states.specs.ab_specification.specs.ab_declare.specs.declared.moment.Moment.{Moment}
use Rattle.ab_states.specs.ab_specification.specs.ab_declare.specs.Moments.{IsMoment, IsRestored}
use Rattle.ab_session.specs.declared.attempt.Attempt.{Attempt}
use Rattle.ab_session.specs.declared.command_history.Deed.{Deed}
use Rattle.ab_session.specs.declared.command_history.Deed.TheVariants.{Went, Began, Completed, GaveUp}
use Rattle.ab_session.specs.Contents.{Contents, Past}
use Rattle.ab_session.specs.Origins.{IsLater, WentOn, IsCompletion, CameBy, CameFrom, IsSame}
use Rattle.ab_session.proofs.Origins.{same_ends, attempt_is}

same_front : {X : Type 0} (xs ys more others : List X) → xs ++ more ≡ ys ++ others → length xs ≡ length ys → xs ≡ ys
same_front [] [] more others e l = refl
same_front [] (y ∷ ys) more others e l = absurd (omega (arith, l))
same_front (x ∷ xs) [] more others e l = absurd (omega (arith, l))
same_front (x ∷ xs) (y ∷ ys) more others e l =
    let head : x ≡ y = cc in
    let tail : xs ++ more ≡ ys ++ others = cc in
    ap (λ z. z ∷ xs) head ∙ ap (λ zs. y ∷ zs) (same_front xs ys more others tail (omega (arith, l)))

-- a world that a moment counts, which grew to another
module _ (m : Moment) (w u v : World) (is : IsMoment w m) (its : IsMoment u m) (more : Grows w v) (others : Grows u v) where
  marked : at_mark w.store m.mark ≡ at_mark u.store m.mark
  marked = sym (more.marks m.mark is.mark).same ∙ (others.marks m.mark its.mark).same

  pub one_world : IsRestored w u
  one_world = record {
    types = sym (same_front w.types u.types more.types.0 others.types.0 (sym more.types.1 ∙ others.types.1) (sym is.types ∙ its.types));
    nodes = sym (sym (take_all m.mark.nodes w.store.nodes (omega (arith, is.nodes))) ∙ ap (λ (s : Terms). s.nodes) marked ∙ take_all m.mark.nodes u.store.nodes (omega (arith, its.nodes)));
    cells = sym (sym (take_all m.mark.cells w.store.cells (omega (arith, is.cells))) ∙ ap (λ (s : Terms). s.cells) marked ∙ take_all m.mark.cells u.store.cells (omega (arith, its.cells)));
    bindings = sym (sym (take_all m.mark.bindings w.store.bindings (omega (arith, is.bindings))) ∙ ap (λ (s : Terms). s.bindings) marked ∙ take_all m.mark.bindings u.store.bindings (omega (arith, its.bindings)));
    additions = sym (same_front w.additions u.additions more.additions.0 others.additions.0 (sym more.additions.1 ∙ others.additions.1) (sym is.additions ∙ its.additions));
  }

-- one proof before so many steps
one_proof : (n : ℕ) (p q r : Held) → Beyond p r → Beyond q r → n ≡ length p.journal → n ≡ length q.journal → p ≡ q
one_proof n p q r a b e f = sym a.back ∙ ap (λ k. before_steps (length r.journal - k) r) (sym e ∙ f) ∙ b.back

one_attempt : (n : ℕ) (a b c : Attempt) → IsLater n a c → IsLater n b c → a ≡ b
one_attempt n a b c x y = attempt_is b a (sym x.name ∙ y.name) (sym x.formula ∙ y.formula) (one_proof n a.proof b.proof c.proof x.beyond y.beyond x.counted y.counted)

one_going : (n : ℕ) (a b c : Option Attempt) → WentOn n a c → WentOn n b c → b ≡ a
one_going n None None c x y = refl
one_going n None (Some b) None x y = absurd y
one_going n None (Some b) (Some c) x y = absurd x
one_going n (Some a) None None x y = absurd x
one_going n (Some a) None (Some c) x y = absurd y
one_going n (Some a) (Some b) None x y = absurd x
one_going n (Some a) (Some b) (Some c) x y = ap Some (sym (one_attempt n a b c x y))

one_completion : (n : ℕ) (x : List ℕ) (a b : Attempt) (ps rs qs : List Held) → a.formula ≡ b.formula → IsCompletion n x a ps qs → IsCompletion n x b rs qs → (rs ≡ ps) × (b ≡ a)
one_completion n x a b ps rs qs same c d =
    let ends = same_ends rs ps d.proof c.proof (sym d.pushed ∙ c.pushed) in
    (ends.0, attempt_is a b (d.named ∙ sym c.named) (sym same) (one_proof n b.proof a.proof c.proof (subst (Beyond b.proof) ends.1 d.beyond) c.beyond d.counted c.counted))

one_by : (d : Deed) (n : ℕ) (ps rs qs : List Held) (a b c : Option Attempt) → CameBy d n ps a qs c → CameBy d n rs b qs c → (rs ≡ ps) × (b ≡ a)
one_by Went n ps rs qs a b c x y = (sym y.0 ∙ x.0, one_going n a b c x.1 y.1)
one_by Began n ps rs qs a b c x y = (sym y.0 ∙ x.0, y.1 ∙ sym x.1)
one_by (Completed name F) n ps rs qs a b c x y =
    let one = one_completion n name x.0 y.0 ps rs qs (x.2 ∙ sym y.2) x.3 y.3 in
    (one.0, y.1 ∙ ap Some one.1 ∙ sym x.1)
one_by (GaveUp g) n ps rs qs a b c x y = (sym y.0 ∙ x.0, y.1 ∙ sym x.1)

-- ONE SESSION
pub came_from_one : (d e s : Contents) → CameFrom d s → CameFrom e s → IsSame d e
came_from_one d e s x y =
    let both : y.last ∷ e.past ≡ x.last ∷ d.past = sym y.past ∙ x.past in
    let last : y.last ≡ x.last = cc in
    let rest : e.past ≡ d.past = cc in
    let moment = subst (λ (p : Past). IsMoment e.world p.before.moment) last y.moment in
    let by = subst (λ (p : Past). CameBy p.deed p.before.steps e.proofs e.attempt s.proofs s.attempt) last y.by in
    let one = one_by x.last.deed x.last.before.steps d.proofs e.proofs s.proofs d.attempt e.attempt s.attempt x.by by in
    record {
      world = one_world x.last.before.moment d.world e.world s.world x.moment moment x.grows y.grows;
      proofs = one.0;
      attempt = one.1;
      all_subgoals = sym y.all_subgoals ∙ ap (λ (p : Past). p.before.all_subgoals) last ∙ x.all_subgoals;
      past = rest;
    }
