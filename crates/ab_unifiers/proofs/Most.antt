-- Over a run: what makes the given sides the same is the answer and then another; where the answer is apart, nothing does.
use Rattle.std.proofs.Common.{◌≡◌, ℕ, ◌≤◌, List, [], ◌∷◌, ◌++◌, map, length, Option, Some, None, sym, ◌∙◌, subst, arith}
use Rattle.ab_term.specs.Terms.{Variable, Head}
use Rattle.ab_term.specs.Typing.{Signature}
use Rattle.ab_term.specs.Variables.{Substitution, value_in, composition}
use Rattle.ab_term.specs.Sameness.{same_number}
use Rattle.ab_term.proofs.Only.{image_by_only}
use Rattle.ab_term.proofs.Determined.{NoIndex}
use Rattle.ab_unifiers.specs.Replacements.{Cell, Change}
use Rattle.ab_unifiers.specs.Unification.{Equation, State, Answer, unified, apart, stuck, Result, clash, parts, replaced, rule, Found, found_at, first_found, finished, goes_on, image_of, ending, carried, next_by, Solves, at_end, by_step}
use Rattle.ab_unifiers.specs.Unifiers.{IsTypedEquation, AreTyped, AreKnown}
use Rattle.ab_unifiers.proofs.Steps.{OnResult, OnFound}
use Rattle.ab_unifiers.proofs.Avoiding.{image_avoids}
use Rattle.ab_unifiers.proofs.Pruning.{Safe}
use Rattle.ab_unifiers.proofs.Ruling.{Right}
use Rattle.ab_unifiers.proofs.Flexible.{rule_right}
use Rattle.ab_unifiers.proofs.Sound.{typed_front, IsProblem, step_leads}
use Rattle.ab_unifiers.proofs.Following.{Put, Follows, follows_on, follows_then, KnownValues}
use Rattle.ab_unifiers.proofs.Followed.{known_then}
use Rattle.ab_unifiers.proofs.General.{Scoped, AllScoped, Alike, AllAlike, General, rule_general}

module _ {Hint : Type 0} where
  scoped_both : (others : List (Head ℕ)) (m : ℕ) (es fs : List (Equation Hint)) → AllScoped others m es → AllScoped others m fs → AllScoped others m (es ++ fs)
  scoped_both others m [] fs a b = b
  scoped_both others m (e ∷ es) fs a b = (a.0, scoped_both others m es fs a.1 b)

  alike_both : (f : Put) (es fs : List (Equation Hint)) → AllAlike f es → AllAlike f fs → AllAlike f (es ++ fs)
  alike_both f [] fs a b = b
  alike_both f (e ∷ es) fs a b = (a.0, alike_both f es fs a.1 b)

module _ (sg : Signature) (others : List (Head ℕ)) (none : NoIndex others) {Hint : Type 0} where
  images_scoped : (n m : ℕ) (s : Substitution ℕ Hint) → n ≤ m → Safe sg s → KnownValues m s → (es : List (Equation Hint)) → AllScoped others n es → AllScoped others m (map (image_of s) es)
  images_scoped n m s l safe k [] a = tt
  images_scoped n m s l safe k (e ∷ es) a = (
    record {
      names = a.0.names;
      scope = a.0.scope;
      left = image_by_only (value_in same_number s) safe.nameless a.0.names e.left a.0.left;
      right = image_by_only (value_in same_number s) safe.nameless a.0.names e.right a.0.right;
      left_known = λ y q. image_avoids y (value_in same_number s) (k y q) e.left (a.0.left_known y (omega (arith, l, q)));
      right_known = λ y q. image_avoids y (value_in same_number s) (k y q) e.right (a.0.right_known y (omega (arith, l, q)));
    },
    images_scoped n m s l safe k es a.1,
  )

  images_alike : (n : ℕ) (zs : List (Variable ℕ)) (s : Substitution ℕ Hint) (f : Put) → Safe sg s → (w : Follows sg others n zs s f) → (es : List (Equation Hint)) → AreTyped sg es → AllScoped others n es → AllAlike f es → AllAlike w.next (map (image_of s) es)
  images_alike n zs s f safe w [] d c a = tt
  images_alike n zs s f safe w (e ∷ es) d c a = (
    follows_on sg others safe.typed w d.0.2 c.0.left_known ∙ a.0 ∙ sym (follows_on sg others safe.typed w d.0.3 c.0.right_known),
    images_alike n zs s f safe w es d.1 c.1 a.1,
  )

module _ (sg : Signature) (others : List (Head ℕ)) (none : NoIndex others) {Hint : Type 0} (x : Hint) (cells : List (Cell Hint)) (ys : List (Variable ℕ)) (known : AreKnown cells ys) where
  -- where a rule applies
  record FoundMost (es : List (Equation Hint)) (f : Found Hint) : Type 0 where
    pub at : Equation Hint
    pub right : Right sg cells ys at.left at.right f.result
    pub general : General sg others none x cells ys known at.left at.right f.result
    pub before_typed : AreTyped sg f.before
    pub behind_typed : AreTyped sg f.behind
    pub before_scoped : AllScoped others (length cells) f.before
    pub behind_scoped : AllScoped others (length cells) f.behind
    pub split : (p : Put) → AllAlike p es → AllAlike p f.before × Alike p at.left at.right × AllAlike p f.behind

  found_most : (e : Equation Hint) (es : List (Equation Hint)) (r : Option (Result Hint)) (o : Option (Found Hint)) → IsTypedEquation sg e → AreTyped sg es → Scoped others (length cells) e.left e.right → AllScoped others (length cells) es → OnResult (Right sg cells ys e.left e.right) r → OnResult (General sg others none x cells ys known e.left e.right) r → OnFound x cells ys (FoundMost es) o → OnFound x cells ys (FoundMost (e ∷ es)) (found_at e es r o)
  found_most e es None None d ds s ss a g b = tt
  found_most e es None (Some f) d ds s ss a g b = record { at = b.at; right = b.right; general = b.general; before_typed = (d, b.before_typed); behind_typed = b.behind_typed; before_scoped = (s, b.before_scoped); behind_scoped = b.behind_scoped; split = λ p u. let r = b.split p u.1 in ((u.0, r.0), r.1, r.2) }
  found_most e es (Some r) o d ds s ss a g b = record { at = e; right = a; general = g; before_typed = tt; behind_typed = ds; before_scoped = tt; behind_scoped = ss; split = λ p u. (tt, u.0, u.1) }

  first_most : (es : List (Equation Hint)) → AreTyped sg es → AllScoped others (length cells) es → OnFound x cells ys (FoundMost es) (first_found (rule x cells ys) es)
  first_most [] ds ss = tt
  first_most (e ∷ es) ds ss = found_most e es (rule x cells ys e) (first_found (rule x cells ys) es) ds.0 ds.1 ss.0 ss.1 (rule_right sg x cells ys known e ds.0) (rule_general sg others none x cells ys known e ds.0 ss.0) (first_most es ds.1 ss.1)

module _ (sg : Signature) (others : List (Head ℕ)) (none : NoIndex others) {Hint : Type 0} (x : Hint) (n : ℕ) (q : Put) where
  -- q is what was put in so far, and then what makes the sides that are left the same
  pub record Run (s : State Hint) : Type 0 where
    pub problem : IsProblem sg x s
    pub scoped : AllScoped others (length s.cells) s.equations
    pub follows : Follows sg others n s.flexible s.pairs q
    pub alike : AllAlike follows.next s.equations
    pub values_known : KnownValues (length s.cells) s.pairs
    pub longer : n ≤ length s.cells

  parts_run : (s : State Hint) → (r : Run s) → (f : Found Hint) → (h : FoundMost sg others none x s.cells s.flexible r.problem.known s.equations f) → (es : List (Equation Hint)) → General sg others none x s.cells s.flexible r.problem.known h.at.left h.at.right (parts es) → IsProblem sg x (record { equations = f.before ++ es ++ f.behind; cells = s.cells; flexible = s.flexible; pairs = s.pairs }) → Run (record { equations = f.before ++ es ++ f.behind; cells = s.cells; flexible = s.flexible; pairs = s.pairs })
  parts_run s r f h es g p =
      let g0 = r.follows.next in
      let here = h.split g0 r.alike in
      record {
        problem = p;
        scoped = scoped_both others (length s.cells) (f.before ++ es) f.behind (scoped_both others (length s.cells) f.before es h.before_scoped g.0) h.behind_scoped;
        follows = r.follows;
        alike = alike_both g0 (f.before ++ es) f.behind (alike_both g0 f.before es here.0 (g.1 g0 r.follows.fits here.1)) here.2;
        values_known = r.values_known;
        longer = r.longer;
      }

  replaced_run : (s : State Hint) → (r : Run s) → (f : Found Hint) → (h : FoundMost sg others none x s.cells s.flexible r.problem.known s.equations f) → (c : Change Hint) → Right sg s.cells s.flexible h.at.left h.at.right (replaced c) → General sg others none x s.cells s.flexible r.problem.known h.at.left h.at.right (replaced c) → IsProblem sg x (record { equations = map (image_of c.pairs) (f.before ++ f.behind); cells = c.cells; flexible = c.flexible; pairs = composition same_number s.pairs c.pairs }) → Run (record { equations = map (image_of c.pairs) (f.before ++ f.behind); cells = c.cells; flexible = c.flexible; pairs = composition same_number s.pairs c.pairs })
  replaced_run s r f h c t g p =
      let g0 = r.follows.next in
      let here = h.split g0 r.alike in
      let step = g g0 r.follows.fits here.1 in
      let rest_scoped = scoped_both others (length s.cells) f.before f.behind h.before_scoped h.behind_scoped in
      record {
        problem = p;
        scoped = images_scoped sg others none (length s.cells) (length c.cells) c.pairs step.1 t.0 step.0 (f.before ++ f.behind) rest_scoped;
        follows = follows_then sg others n (length s.cells) s.flexible c.flexible s.pairs c.pairs q r.longer r.problem.safe.typed t.0.typed r.values_known r.follows step.2;
        alike = images_alike sg others none (length s.cells) c.flexible c.pairs g0 t.0 step.2 (f.before ++ f.behind) (typed_front sg f.before f.behind h.before_typed h.behind_typed) rest_scoped (alike_both g0 f.before f.behind here.0 here.2);
        values_known = known_then (length c.cells) s.pairs c.pairs (λ y l. r.values_known y (let long = step.1 in omega (arith, l, long))) step.0;
        longer = (let long = step.1 in omega (arith, r.longer, long));
      }

  carried_run : (s m : State Hint) → (r : Run s) → (f : Found Hint) → (h : FoundMost sg others none x s.cells s.flexible r.problem.known s.equations f) → (g : Result Hint) → Right sg s.cells s.flexible h.at.left h.at.right g → General sg others none x s.cells s.flexible r.problem.known h.at.left h.at.right g → carried s f g ≡ goes_on m → IsProblem sg x m → Run m
  carried_run s m r f h clash t g e p = absurd (let both : finished apart ≡ goes_on m = e in cc)
  carried_run s m r f h (parts es) t g e p =
      let equal : record { equations = f.before ++ es ++ f.behind; cells = s.cells; flexible = s.flexible; pairs = s.pairs } ≡ m = cc in
      subst Run equal (parts_run s r f h es g (subst (IsProblem sg x) (sym equal) p))
  carried_run s m r f h (replaced c) t g e p =
      let equal : record { equations = map (image_of c.pairs) (f.before ++ f.behind); cells = c.cells; flexible = c.flexible; pairs = composition same_number s.pairs c.pairs } ≡ m = cc in
      subst Run equal (replaced_run s r f h c t g (subst (IsProblem sg x) (sym equal) p))

  next_run : (s m : State Hint) → (r : Run s) → (o : Option (Found Hint)) → OnFound x s.cells s.flexible (FoundMost sg others none x s.cells s.flexible r.problem.known s.equations) o → next_by s o ≡ goes_on m → IsProblem sg x m → Run m
  next_run s m r None h e p = absurd (let both : finished (ending s s.equations) ≡ goes_on m = e in cc)
  next_run s m r (Some f) h e p = carried_run s m r f h f.result h.right h.general e p

  -- what an answer says of q
  abbrev pub Most : Answer Hint → Type 0
  Most (unified more p) = (zs : List (Variable ℕ)) × Follows sg others n zs p q
  Most apart = ⊥
  Most (stuck i) = Unit {0}

  ending_most : (s : State Hint) → Run s → (es : List (Equation Hint)) → Most (ending s es)
  ending_most s r [] = (s.flexible, r.follows)
  ending_most s r (e ∷ es) = tt

  end_most : (s : State Hint) → (r : Run s) → (a : Answer Hint) (o : Option (Found Hint)) → OnFound x s.cells s.flexible (FoundMost sg others none x s.cells s.flexible r.problem.known s.equations) o → next_by s o ≡ finished a → Most a
  end_most s r a None h e = let equal : ending s s.equations ≡ a = cc in subst Most equal (ending_most s r s.equations)
  end_most s r a (Some f) h e = go f.result h.general e
    where
      go : (g : Result Hint) → General sg others none x s.cells s.flexible r.problem.known h.at.left h.at.right g → carried s f g ≡ finished a → Most a
      go clash g e = absurd (g r.follows.next r.follows.fits (h.split r.follows.next r.alike).1)
      go (parts es) g e = absurd (cc)
      go (replaced c) g e = absurd (cc)

  -- THE ANSWER IS MOST GENERAL
  pub most : (s : State Hint) (a : Answer Hint) → Run s → Solves x s a → Most a
  most s a r (at_end e) = end_most s r a (first_found (rule x s.cells s.flexible) s.equations) (first_most sg others none x s.cells s.flexible r.problem.known s.equations r.problem.equations r.scoped) e
  most s a r (by_step {r = m} e p) = most m a (next_run s m r (first_found (rule x s.cells s.flexible) s.equations) (first_most sg others none x s.cells s.flexible r.problem.known s.equations r.problem.equations r.scoped) e (step_leads sg x s m r.problem e).problem) p
