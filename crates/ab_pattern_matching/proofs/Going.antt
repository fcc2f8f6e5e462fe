-- A problem between two steps, with a guess that makes all sides the same; and the guess that follows it after a step.
use Rattle.std.proofs.Common.{◌≡◌, ℕ, ◌<◌, ◌≤◌, List, [], ◌∷◌, ◌++◌, map, length, Bool, true, false, cond, Option, Some, None, option_map, refl, sym, ◌∙◌, ap, subst, arith}
use Rattle.ab_term.specs.Types.{Ty}
use Rattle.ab_term.specs.Terms.{Variable, Head, Term, lam, spine, Terms, no_terms, term}
use Rattle.ab_term.specs.Typing.{Signature, HasType}
use Rattle.ab_term.specs.Translation.{forget}
use Rattle.ab_term.specs.Variables.{variables_of_head, variables, variables_of_all, Substitution, value_in, image, image_by, IsTyped}
use Rattle.ab_term.specs.Sameness.{same_number}
use Rattle.ab_term.proofs.Images.{IsTypedMap}
use Rattle.ab_term.proofs.Compositions.{then_by, image_composed, image_typed}
use Rattle.ab_term.proofs.Determined.{NoIndex}
use Rattle.ab_term.proofs.Only.{image_by_only}
use Rattle.ab_term.proofs.Translations.{translate_typed}
use Rattle.ab_unifiers.specs.Replacements.{Change, holds}
use Rattle.ab_unifiers.specs.Unification.{Equation, State, Result, parts, replaced, rule, image_of}
use Rattle.ab_unifiers.specs.Unifiers.{IsTypedEquation, AreTyped, AreKnown}
use Rattle.ab_unifiers.proofs.Steps.{OnResult}
use Rattle.ab_unifiers.proofs.Avoiding.{Avoids, AllAvoid, Without, head_avoids, image_avoids}
use Rattle.ab_unifiers.proofs.Pruning.{Safe}
use Rattle.ab_unifiers.proofs.Ruling.{Right}
use Rattle.ab_unifiers.proofs.Flexible.{rule_right}
use Rattle.ab_unifiers.proofs.Following.{Put, Fits, Follows, follows_on, Known, KnownValues, plain, plain_typed, image_plain, agrees_below}
use Rattle.ab_unifiers.proofs.General.{Scoped, AllScoped, Alike, AllAlike, General, rule_general}
use Rattle.ab_pattern_matching.specs.Reading.{Every, but}
use Rattle.ab_pattern_matching.proofs.Lists.{every_weaker, every_map, every_both, every_split}
use Rattle.ab_pattern_matching.proofs.Absent.{no_both, absent_alike}

module _ {Hint : Type 0} (y : Variable ℕ) where
  mutual
    pub avoids_then : (t : Term ℕ Hint) → Avoids y t → holds (variables t) y ≡ false
    avoids_then (lam A x t) a = avoids_then t a
    avoids_then (spine h ts) a = no_both (variables_of_head h) (variables_of_all ts) y (head_avoids y h a.0) (all_avoid_then ts a.1)

    all_avoid_then : (ts : Terms ℕ Hint) → AllAvoid y ts → holds (variables_of_all ts) y ≡ false
    all_avoid_then no_terms a = refl
    all_avoid_then (term t ts) a = no_both (variables t) (variables_of_all ts) y (avoids_then t a.0) (all_avoid_then ts a.1)

module _ {Hint : Type 0} where
  pub every_typed : (sg : Signature) (es : List (Equation Hint)) → AreTyped sg es → Every (IsTypedEquation sg) es
  every_typed sg [] a = tt
  every_typed sg (e ∷ es) a = (a.0, every_typed sg es a.1)

  pub every_scoped : (others : List (Head ℕ)) (m : ℕ) (es : List (Equation Hint)) → AllScoped others m es → Every (λ e. Scoped others m e.left e.right) es
  every_scoped others m [] a = tt
  every_scoped others m (e ∷ es) a = (a.0, every_scoped others m es a.1)

  pub every_alike : (f : Put) (es : List (Equation Hint)) → AllAlike f es → Every (λ e. Alike f e.left e.right) es
  every_alike f [] a = tt
  every_alike f (e ∷ es) a = (a.0, every_alike f es a.1)

-- WHAT IS PUT IN, BUT FOR SOME VARIABLES, which are left alone: it follows as the whole does
module _ (sg : Signature) (us : List (Variable ℕ)) where
  pub but_typed : (f : Put) → IsTypedMap sg f → IsTypedMap sg (but us f)
  but_typed f typed y u e = go (holds us y) e
    where
      go : (b : Bool) → cond b None (f y) ≡ Some u → HasType sg [] u y.type
      go true e = absurd (cc)
      go false e = typed y u e

module _ (sg : Signature) {Hint : Type 0} (us : List (Variable ℕ)) where
  module _ (n : ℕ) (zs : List (Variable ℕ)) (s : Substitution ℕ Hint) (f : Put) (typed : IsTyped sg s) {others : List (Head ℕ)} (w : Follows sg others n zs s f)
      (none : (y : Variable ℕ) → holds us y ≡ true → value_in same_number s y ≡ None) (absent : (y : Variable ℕ) → holds us y ≡ true → Without y (value_in same_number s)) where
    through : (y : Variable ℕ) → y.name < n → then_by (but us w.next) y (plain s y) ≡ but us f y
    through y l = go (holds us y) refl (value_in same_number s y) refl
      where
        go : (b : Bool) → holds us y ≡ b → (o : Option (Term ℕ Hint)) → value_in same_number s y ≡ o → then_by (but us w.next) y (option_map forget o) ≡ cond b None (f y)
        go true h o e = ap (λ p. then_by (but us w.next) y (option_map forget p)) (sym e ∙ none y h) ∙ ap (λ b. cond b None (w.next y)) h
        go false h None e = ap (λ b. cond b None (w.next y)) h ∙ ap (λ p. then_by w.next y (option_map forget p)) (sym e) ∙ w.through y l
        go false h (Some v) e = ap Some (absent_alike us w.next v (λ z i. avoids_then z v (absent z i y v e))) ∙ ap (λ p. then_by w.next y (option_map forget p)) (sym e) ∙ w.through y l

    pub transported : {G : List Ty} {t : Term ℕ Hint} {A : Ty} → HasType sg G t A → Known n t → image_by (but us w.next) (forget (image same_number s t)) ≡ image_by (but us f) (forget t)
    transported {t = t} d k =
        ap (image_by (but us w.next)) (image_plain s t)
        ∙ image_composed sg ℕ (Unit {0}) (plain s) (but us w.next) (plain_typed sg s typed) (but_typed sg us w.next w.fits.typed) (translate_typed sg (λ v. v) (λ x. tt) d)
        ∙ agrees_below (λ y. then_by (but us w.next) y (plain s y)) (but us f) n through t k

module _ (sg : Signature) (others : List (Head ℕ)) (none : NoIndex others) {Hint : Type 0} (x : Hint) where
  -- A STATE WITH A GUESS for what is flexible
  pub record Going (s : State Hint) (f : Put) : Type 0 where
    pub typed : Every (IsTypedEquation sg) s.equations
    pub known : AreKnown s.cells s.flexible
    pub scoped : Every (λ e. Scoped others (length s.cells) e.left e.right) s.equations
    pub fits : Fits sg others s.flexible f
    pub alike : Every (λ e. Alike f e.left e.right) s.equations

  -- the equation at which a rule applies, and those around it
  pub record Around (s : State Hint) (f : Put) (before : List (Equation Hint)) (e : Equation Hint) (behind : List (Equation Hint)) : Type 0 where
    pub typed : IsTypedEquation sg e
    pub scoped : Scoped others (length s.cells) e.left e.right
    pub alike : Alike f e.left e.right
    pub rest_typed : Every (IsTypedEquation sg) (before ++ behind)
    pub rest_scoped : Every (λ d. Scoped others (length s.cells) d.left d.right) (before ++ behind)
    pub rest_alike : Every (λ d. Alike f d.left d.right) (before ++ behind)

  pub taken_out : (P : Equation Hint → Type 0) (es before : List (Equation Hint)) (e : Equation Hint) (behind : List (Equation Hint)) → es ≡ before ++ e ∷ behind → Every P es → P e × Every P (before ++ behind)
  taken_out P es before e behind w a = let r = every_split P before (e ∷ behind) (subst (Every P) w a) in (r.1.0, every_both P before behind r.0 r.1.1)

  pub around : (s : State Hint) (f : Put) → Going s f → (before : List (Equation Hint)) (e : Equation Hint) (behind : List (Equation Hint)) → s.equations ≡ before ++ e ∷ behind → Around s f before e behind
  around s f g before e behind w =
      let t = taken_out (IsTypedEquation sg) s.equations before e behind w g.typed in
      let c = taken_out (λ d. Scoped others (length s.cells) d.left d.right) s.equations before e behind w g.scoped in
      let a = taken_out (λ d. Alike f d.left d.right) s.equations before e behind w g.alike in
      record { typed = t.0; scoped = c.0; alike = a.0; rest_typed = t.1; rest_scoped = c.1; rest_alike = a.1 }

  right_of : (s : State Hint) (known : AreKnown s.cells s.flexible) (e : Equation Hint) → IsTypedEquation sg e → (r : Result Hint) → rule x s.cells s.flexible e ≡ Some r → Right sg s.cells s.flexible e.left e.right r
  right_of s known e d r q = subst (OnResult (Right sg s.cells s.flexible e.left e.right)) q (rule_right sg x s.cells s.flexible known e d)

  general_of : (s : State Hint) (known : AreKnown s.cells s.flexible) (e : Equation Hint) → IsTypedEquation sg e → Scoped others (length s.cells) e.left e.right → (r : Result Hint) → rule x s.cells s.flexible e ≡ Some r → General sg others none x s.cells s.flexible known e.left e.right r
  general_of s known e d c r q = subst (OnResult (General sg others none x s.cells s.flexible known e.left e.right)) q (rule_general sg others none x s.cells s.flexible known e d c)

  pub in_between : (P : Equation Hint → Type 0) (before es behind : List (Equation Hint)) → Every P (before ++ behind) → Every P es → Every P (before ++ es ++ behind)
  in_between P before es behind a b = let r = every_split P before behind a in every_both P (before ++ es) behind (every_both P before es r.0 b) r.1

  -- parts take the place of an equation
  pub parts_going : (s : State Hint) (f : Put) → Going s f → (before : List (Equation Hint)) (e : Equation Hint) (es behind : List (Equation Hint)) → s.equations ≡ before ++ e ∷ behind → rule x s.cells s.flexible e ≡ Some (parts es)
      → Going (record { equations = before ++ es ++ behind; cells = s.cells; flexible = s.flexible; pairs = s.pairs }) f
  parts_going s f g before e es behind w q =
      let a = around s f g before e behind w in
      let right = right_of s g.known e a.typed (parts es) q in
      let general = general_of s g.known e a.typed a.scoped (parts es) q in
      record {
        typed = in_between (IsTypedEquation sg) before es behind a.rest_typed (every_typed sg es right.0);
        known = g.known;
        scoped = in_between (λ d. Scoped others (length s.cells) d.left d.right) before es behind a.rest_scoped (every_scoped others (length s.cells) es general.0);
        fits = g.fits;
        alike = in_between (λ d. Alike f d.left d.right) before es behind a.rest_alike (every_alike f es (general.1 f g.fits a.alike));
      }

  scoped_image : (n m : ℕ) (s : Substitution ℕ Hint) → n ≤ m → Safe sg s → KnownValues m s → (e : Equation Hint) → Scoped others n e.left e.right → Scoped others m (image same_number s e.left) (image same_number s e.right)
  scoped_image n m s l safe k e a = record {
    names = a.names;
    scope = a.scope;
    left = image_by_only (value_in same_number s) safe.nameless a.names e.left a.left;
    right = image_by_only (value_in same_number s) safe.nameless a.names e.right a.right;
    left_known = λ y q. image_avoids y (value_in same_number s) (k y q) e.left (a.left_known y (omega (arith, l, q)));
    right_known = λ y q. image_avoids y (value_in same_number s) (k y q) e.right (a.right_known y (omega (arith, l, q)));
  }

  -- variables are replaced
  pub record After (s : State Hint) (f : Put) (before behind : List (Equation Hint)) (c : Change Hint) : Type 0 where
    pub safe : Safe sg c.pairs
    pub follows : Follows sg others (length s.cells) c.flexible c.pairs f
    pub going : (pairs : Substitution ℕ Hint) → Going (record { equations = map (image_of c.pairs) (before ++ behind); cells = c.cells; flexible = c.flexible; pairs = pairs }) follows.next

  pub change_going : (s : State Hint) (f : Put) → Going s f → (before : List (Equation Hint)) (e : Equation Hint) (c : Change Hint) (behind : List (Equation Hint)) → s.equations ≡ before ++ e ∷ behind → rule x s.cells s.flexible e ≡ Some (replaced c) → After s f before behind c
  change_going s f g before e c behind w q =
      let a = around s f g before e behind w in
      let right = right_of s g.known e a.typed (replaced c) q in
      let step = general_of s g.known e a.typed a.scoped (replaced c) q f g.fits a.alike in
      let P : Equation Hint → Type 0 = λ d. IsTypedEquation sg d × Scoped others (length s.cells) d.left d.right in
      record {
        safe = right.0;
        follows = step.2;
        going = λ pairs. record {
          typed = every_map (IsTypedEquation sg) (image_of c.pairs) (before ++ behind) (every_weaker (IsTypedEquation sg) (λ d. IsTypedEquation sg (image_of c.pairs d)) (λ d t. (t.0, t.1, image_typed sg same_number c.pairs right.0.typed t.2, image_typed sg same_number c.pairs right.0.typed t.3)) (before ++ behind) a.rest_typed);
          known = right.1;
          scoped = every_map (λ d. Scoped others (length c.cells) d.left d.right) (image_of c.pairs) (before ++ behind) (every_weaker (λ d. Scoped others (length s.cells) d.left d.right) (λ d. Scoped others (length c.cells) (image same_number c.pairs d.left) (image same_number c.pairs d.right)) (λ d t. scoped_image (length s.cells) (length c.cells) c.pairs step.1 right.0 step.0 d t) (before ++ behind) a.rest_scoped);
          fits = step.2.fits;
          alike = every_map (λ d. Alike step.2.next d.left d.right) (image_of c.pairs) (before ++ behind) (alike_after step.2 right.0.typed (before ++ behind) a.rest_typed a.rest_scoped a.rest_alike);
        };
      }
    where
      alike_after : (v : Follows sg others (length s.cells) c.flexible c.pairs f) → IsTyped sg c.pairs → (es : List (Equation Hint)) → Every (IsTypedEquation sg) es → Every (λ d. Scoped others (length s.cells) d.left d.right) es → Every (λ d. Alike f d.left d.right) es → Every (λ d. Alike v.next (image same_number c.pairs d.left) (image same_number c.pairs d.right)) es
      alike_after v typed [] t k l = tt
      alike_after v typed (d ∷ es) t k l = (
        follows_on sg others typed v t.0.2 k.0.left_known ∙ l.0 ∙ sym (follows_on sg others typed v t.0.3 k.0.right_known),
        alike_after v typed es t.1 k.1 l.1,
      )
