-- AN ANSWER LEAVES ALONE what doesn't stand in the equations: it isn't replaced, and comes into nothing that is put in.
use Rattle.std.proofs.Common.{◌≡◌, ℕ, ◌<◌, List, ◌∷◌, ◌++◌, length, false, Option, Some, None, refl, sym, ◌∙◌, ap, subst, arith}
use Rattle.ab_term.specs.Terms.{Variable, Term, Terms, no_terms, term}
use Rattle.ab_term.specs.Variables.{Substitution, variables, variables_of_all, variables_of_head, value_in, image, composition}
use Rattle.ab_term.specs.Sameness.{same_number}
use Rattle.ab_term.proofs.Compositions.{then_by, value_in-composition}
use Rattle.ab_unifiers.specs.Replacements.{Cell, holds}
use Rattle.ab_unifiers.specs.Unification.{Equation, State, Answer, unified, apart, stuck, parts, paired, image_of, Solves, at_end, by_step}
use Rattle.ab_unifiers.specs.Unifiers.{given}
use Rattle.ab_unifiers.proofs.Avoiding.{Avoids, Without, avoids_if, image_avoids}
use Rattle.ab_pattern_matching.specs.Reading.{Every}
use Rattle.ab_pattern_matching.proofs.Lists.{every_weaker, every_map, every_both, every_split}
use Rattle.ab_pattern_matching.proofs.Absent.{no_front, no_behind}
use Rattle.ab_pattern_matching.proofs.Going.{avoids_then}
use Rattle.ab_pattern_matching.proofs.Ruled.{Gives, are_equal, are_bodies, are_heads}
use Rattle.ab_pattern_matching.proofs.Solved.{gives_of, replaces_of}
use Rattle.ab_pattern_matching.proofs.Untouched.{untouched}
use Rattle.ab_pattern_matching.proofs.Turns.{Stepped, parted, changed, step_view, Ended, all_solved, none_applies, are_apart, end_view}

module _ {Hint : Type 0} (y : Variable ℕ) where
  -- it stands on neither side
  abbrev pub Missing : Equation Hint → Type 0
  Missing e = (holds (variables e.left) y ≡ false) × (holds (variables e.right) y ≡ false)

  paired_missing : (p : ℕ) (ts us : Terms ℕ Hint) → holds (variables_of_all ts) y ≡ false → holds (variables_of_all us) y ≡ false → Every Missing (paired p ts us)
  paired_missing p no_terms us a b = tt
  paired_missing p (term t ts) no_terms a b = tt
  paired_missing p (term t ts) (term u us) a b = (
    (no_front (variables t) (variables_of_all ts) y a, no_front (variables u) (variables_of_all us) y b),
    paired_missing p ts us (no_behind (variables t) (variables_of_all ts) y a) (no_behind (variables u) (variables_of_all us) y b),
  )

  parts_missing : (x : Hint) (cells : List (Cell Hint)) (ys : List (Variable ℕ)) {t u : Term ℕ Hint} {es : List (Equation Hint)} → Gives x cells ys t u (parts es) → holds (variables t) y ≡ false → holds (variables u) y ≡ false → Every Missing es
  parts_missing x cells ys (are_equal s) a b = tt
  parts_missing x cells ys (are_bodies p) a b = ((a, b), tt)
  parts_missing x cells ys (are_heads {g = g} {h = h} {ts = ts} {us = us} p r q s) a b = paired_missing p ts us (no_behind (variables_of_head g) (variables_of_all ts) y a) (no_behind (variables_of_head h) (variables_of_all us) y b)

  -- one substitution and then another
  without_both : (s r : Substitution ℕ Hint) → Without y (value_in same_number s) → Without y (value_in same_number r) → Without y (value_in same_number (composition same_number s r))
  without_both s r a b z u e = go (value_in same_number s z) refl (sym (value_in-composition same_number s r z) ∙ e)
    where
      go : (o : Option (Term ℕ Hint)) → value_in same_number s z ≡ o → then_by (value_in same_number r) z o ≡ Some u → Avoids y u
      go None f e = b z u e
      go (Some v) f e = let equal : image same_number r v ≡ u = cc in subst (Avoids y) equal (image_avoids y (value_in same_number r) b v (a z v f))

  module _ (x : Hint) where
    -- a state that leaves it alone
    record IsAlone (s : State Hint) : Type 0 where
      pub low : y.name < length s.cells
      pub missing : Every Missing s.equations
      pub none : value_in same_number s.pairs y ≡ None
      pub absent : Without y (value_in same_number s.pairs)

    stepped : (s m : State Hint) → IsAlone s → Stepped x s m → IsAlone m
    stepped s m a (parted before e es behind q r) =
        let at = every_split Missing before (e ∷ behind) (subst (Every Missing) q a.missing) in
        record {
          low = a.low;
          missing = every_both Missing (before ++ es) behind (every_both Missing before es at.0 (parts_missing x s.cells s.flexible (gives_of x s e (parts es) r) at.1.0.0 at.1.0.1)) at.1.1;
          none = a.none;
          absent = a.absent;
        }
    stepped s m a (changed before e c behind q r) =
        let at = every_split Missing before (e ∷ behind) (subst (Every Missing) q a.missing) in
        let u = untouched x s.cells s.flexible y a.low (replaces_of x s e c r) at.1.0.0 at.1.0.1 in
        let still : (t : Term ℕ Hint) → holds (variables t) y ≡ false → holds (variables (image same_number c.pairs t)) y ≡ false = λ t n. avoids_then y (image same_number c.pairs t) (image_avoids y (value_in same_number c.pairs) u.absent t (avoids_if y t n)) in
        record {
          low = (let longer = u.longer in let low = a.low in omega (arith, longer, low));
          missing = every_map Missing (image_of c.pairs) (before ++ behind) (every_weaker Missing (λ d. Missing (image_of c.pairs d)) (λ d n. (still d.left n.0, still d.right n.1)) (before ++ behind) (every_both Missing before behind at.0 at.1.1));
          none = value_in-composition same_number s.pairs c.pairs y ∙ ap (then_by (value_in same_number c.pairs) y) a.none ∙ u.none;
          absent = without_both s.pairs c.pairs a.absent u.absent;
        }

    abbrev Says : Answer Hint → Type 0
    Says (unified more q) = (value_in same_number q y ≡ None) × Without y (value_in same_number q)
    Says apart = Unit {0}
    Says (stuck i) = Unit {0}

    ended : (s : State Hint) (a : Answer Hint) → IsAlone s → Ended x s a → Says a
    ended s a k (all_solved e) = (k.none, k.absent)
    ended s a k (none_applies e es w n) = tt
    ended s a k are_apart = tt

    along : (s : State Hint) (a : Answer Hint) → IsAlone s → Solves x s a → Says a
    along s a k (at_end e) = ended s a k (end_view x s a e)
    along s a k (by_step {r = r} e p) = along r a (stepped s r k (step_view x s r e)) p

    -- WHAT DOESN'T STAND IN THE EQUATIONS is left alone
    pub left_alone : (es : List (Equation Hint)) (cells more : List (Cell Hint)) (ys : List (Variable ℕ)) (q : Substitution ℕ Hint) → Solves x (given es cells ys) (unified more q) → y.name < length cells → Every Missing es
        → (value_in same_number q y ≡ None) × ((z : Variable ℕ) (u : Term ℕ Hint) → value_in same_number q z ≡ Some u → holds (variables u) y ≡ false)
    left_alone es cells more ys q p low m =
        let r = along (given es cells ys) (unified more q) (record { low = low; missing = m; none = refl; absent = λ z u e. absurd (let none_there : None ≡ Some u = e in cc) }) p in
        (r.0, λ z u e. avoids_then y u (r.1 z u e))
