-- Each step keeps a problem well-typed, and what makes the next problem's sides the same makes this one's.
use Rattle.std.proofs.Common.{◌≡◌, ℕ, List, [], ◌∷◌, ◌++◌, map, Option, Some, None, refl, sym, ◌∙◌, ap, subst}
use Rattle.ab_term.specs.Types.{Ty}
use Rattle.ab_term.specs.Terms.{Variable, Term}
use Rattle.ab_term.specs.Typing.{Signature, HasType}
use Rattle.ab_term.specs.Translation.{forget}
use Rattle.ab_term.specs.Variables.{Substitution, image, composition}
use Rattle.ab_term.specs.Sameness.{same_number}
use Rattle.ab_term.proofs.Compositions.{image_typed, image-composition}
use Rattle.ab_unifiers.specs.Replacements.{Cell, Change}
use Rattle.ab_unifiers.specs.Unification.{Equation, State, Answer, unified, apart, stuck, Result, clash, parts, replaced, rule, Found, found_at, first_found, finished, goes_on, image_of, ending, carried, next_by, next, Solves, at_end, by_step}
use Rattle.ab_unifiers.specs.Unifiers.{IsTypedEquation, AreTyped, AreKnown, Unifies}
use Rattle.ab_unifiers.proofs.Steps.{OnResult, OnFound}
use Rattle.ab_unifiers.proofs.Pruning.{Safe, none_safe, both_safe}
use Rattle.ab_unifiers.proofs.Ruling.{Right, image_none, image_past_hints}
use Rattle.ab_unifiers.proofs.Flexible.{rule_right}

module _ (sg : Signature) {Hint : Type 0} where
  pub typed_front : (es fs : List (Equation Hint)) → AreTyped sg es → AreTyped sg fs → AreTyped sg (es ++ fs)
  typed_front [] fs a b = b
  typed_front (e ∷ es) fs a b = (a.0, typed_front es fs a.1 b)

module _ {Hint : Type 0} (q : Substitution ℕ Hint) where
  unifies_parts : (es fs : List (Equation Hint)) → Unifies q (es ++ fs) → Unifies q es × Unifies q fs
  unifies_parts [] fs u = (tt, u)
  unifies_parts (e ∷ es) fs u = let r = unifies_parts es fs u.1 in ((u.0, r.0), r.1)

module _ (sg : Signature) {Hint : Type 0} where
  images_typed : (s : Substitution ℕ Hint) → Safe sg s → (es : List (Equation Hint)) → AreTyped sg es → AreTyped sg (map (image_of s) es)
  images_typed s safe [] a = tt
  images_typed s safe (e ∷ es) a = ((a.0.0, a.0.1, image_typed sg same_number s safe.typed a.0.2, image_typed sg same_number s safe.typed a.0.3), images_typed s safe es a.1)

  images_unified : (s q : Substitution ℕ Hint) → Safe sg s → Safe sg q → (es : List (Equation Hint)) → AreTyped sg es → Unifies q (map (image_of s) es) → Unifies (composition same_number s q) es
  images_unified s q a b [] t u = tt
  images_unified s q a b (e ∷ es) t u = (
    ap forget (image-composition sg same_number s a.typed q b.typed t.0.2) ∙ u.0 ∙ sym (ap forget (image-composition sg same_number s a.typed q b.typed t.0.3)),
    images_unified s q a b es t.1 u.1,
  )

module _ (sg : Signature) {Hint : Type 0} (x : Hint) (cells : List (Cell Hint)) (ys : List (Variable ℕ)) (known : AreKnown cells ys) where
  -- where a rule applies
  record FoundRight (es : List (Equation Hint)) (f : Found Hint) : Type 0 where
    pub at : Equation Hint
    pub at_typed : IsTypedEquation sg at
    pub right : Right sg cells ys at.left at.right f.result
    pub before_typed : AreTyped sg f.before
    pub behind_typed : AreTyped sg f.behind
    pub whole : (q : Substitution ℕ Hint) → Unifies q f.before → forget (image same_number q at.left) ≡ forget (image same_number q at.right) → Unifies q f.behind → Unifies q es

  found_right : (e : Equation Hint) (es : List (Equation Hint)) (r : Option (Result Hint)) (o : Option (Found Hint)) → IsTypedEquation sg e → AreTyped sg es → OnResult (Right sg cells ys e.left e.right) r → OnFound x cells ys (FoundRight es) o → OnFound x cells ys (FoundRight (e ∷ es)) (found_at e es r o)
  found_right e es None None d ds a b = tt
  found_right e es None (Some f) d ds a b = record { at = b.at; at_typed = b.at_typed; right = b.right; before_typed = (d, b.before_typed); behind_typed = b.behind_typed; whole = λ q u s v. (u.0, b.whole q u.1 s v) }
  found_right e es (Some r) o d ds a b = record { at = e; at_typed = d; right = a; before_typed = tt; behind_typed = ds; whole = λ q u s v. (s, v) }

  first_right : (es : List (Equation Hint)) → AreTyped sg es → OnFound x cells ys (FoundRight es) (first_found (rule x cells ys) es)
  first_right [] ds = tt
  first_right (e ∷ es) ds = found_right e es (rule x cells ys e) (first_found (rule x cells ys) es) ds.0 ds.1 (rule_right sg x cells ys known e ds.0) (first_right es ds.1)

module _ (sg : Signature) {Hint : Type 0} (x : Hint) where
  -- A PROBLEM, as it stands between two steps
  pub record IsProblem (s : State Hint) : Type 0 where
    pub equations : AreTyped sg s.equations
    pub known : AreKnown s.cells s.flexible
    pub safe : Safe sg s.pairs

  -- what unifies the second unifies the first, with what was put in between
  pub record Back (s r : State Hint) (q : Substitution ℕ Hint) : Type 0 where
    pub all : Substitution ℕ Hint
    pub safe : Safe sg all
    pub unifies : Unifies all s.equations
    pub agrees : (G : List Ty) (t : Term ℕ Hint) (A : Ty) → HasType sg G t A → image same_number q (image same_number r.pairs t) ≡ image same_number all (image same_number s.pairs t)

  pub record Leads (s r : State Hint) : Type 0 where
    pub problem : IsProblem r
    pub back : (q : Substitution ℕ Hint) → Safe sg q → Unifies q r.equations → Back s r q

  parts_lead : (s : State Hint) → (p : IsProblem s) → (f : Found Hint) → (h : FoundRight sg x s.cells s.flexible p.known s.equations f) → (es : List (Equation Hint)) → Right sg s.cells s.flexible h.at.left h.at.right (parts es) → Leads s (record { equations = f.before ++ es ++ f.behind; cells = s.cells; flexible = s.flexible; pairs = s.pairs })
  parts_lead s p f h es r = record {
    problem = record { equations = typed_front sg (f.before ++ es) f.behind (typed_front sg f.before es h.before_typed r.0) h.behind_typed; known = p.known; safe = p.safe };
    back = λ q safe u.
        let whole = unifies_parts q (f.before ++ es) f.behind u in
        let front = unifies_parts q f.before es whole.0 in
        record { all = q; safe = safe; unifies = h.whole q front.0 (r.1 q front.1) whole.1; agrees = λ G t A d. refl };
  }

  replaced_lead : (s : State Hint) → (p : IsProblem s) → (f : Found Hint) → (h : FoundRight sg x s.cells s.flexible p.known s.equations f) → (c : Change Hint) → Right sg s.cells s.flexible h.at.left h.at.right (replaced c) → Leads s (record { equations = map (image_of c.pairs) (f.before ++ f.behind); cells = c.cells; flexible = c.flexible; pairs = composition same_number s.pairs c.pairs })
  replaced_lead s p f h c r =
      let rest = typed_front sg f.before f.behind h.before_typed h.behind_typed in
      record {
        problem = record { equations = images_typed sg c.pairs r.0 (f.before ++ f.behind) rest; known = r.1; safe = both_safe sg s.pairs c.pairs p.safe r.0 };
        back = λ q safe u.
            let both = composition same_number c.pairs q in
            let solved = unifies_parts both f.before f.behind (images_unified sg c.pairs q r.0 safe (f.before ++ f.behind) rest u) in
            record {
              all = both;
              safe = both_safe sg c.pairs q r.0 safe;
              unifies = h.whole both solved.0 (ap forget (image-composition sg same_number c.pairs r.0.typed q safe.typed h.at_typed.2) ∙ image_past_hints q (image same_number c.pairs h.at.left) (image same_number c.pairs h.at.right) r.2 ∙ sym (ap forget (image-composition sg same_number c.pairs r.0.typed q safe.typed h.at_typed.3))) solved.1;
              agrees = λ G t A d. ap (image same_number q) (image-composition sg same_number s.pairs p.safe.typed c.pairs r.0.typed d) ∙ sym (image-composition sg same_number c.pairs r.0.typed q safe.typed (image_typed sg same_number s.pairs p.safe.typed d));
            };
      }

  carried_leads : (s q : State Hint) → (p : IsProblem s) → (f : Found Hint) → (h : FoundRight sg x s.cells s.flexible p.known s.equations f) → (g : Result Hint) → Right sg s.cells s.flexible h.at.left h.at.right g → carried s f g ≡ goes_on q → Leads s q
  carried_leads s q p f h clash r e = absurd (let both : finished apart ≡ goes_on q = e in cc)
  carried_leads s q p f h (parts es) r e = moved (record { equations = f.before ++ es ++ f.behind; cells = s.cells; flexible = s.flexible; pairs = s.pairs }) e (parts_lead s p f h es r)
    where
      moved : (n : State Hint) → goes_on n ≡ goes_on q → Leads s n → Leads s q
      moved n e l = let equal : n ≡ q = cc in subst (Leads s) equal l
  carried_leads s q p f h (replaced c) r e = moved (record { equations = map (image_of c.pairs) (f.before ++ f.behind); cells = c.cells; flexible = c.flexible; pairs = composition same_number s.pairs c.pairs }) e (replaced_lead s p f h c r)
    where
      moved : (n : State Hint) → goes_on n ≡ goes_on q → Leads s n → Leads s q
      moved n e l = let equal : n ≡ q = cc in subst (Leads s) equal l

  next_leads : (s q : State Hint) → (p : IsProblem s) → (o : Option (Found Hint)) → OnFound x s.cells s.flexible (FoundRight sg x s.cells s.flexible p.known s.equations) o → next_by s o ≡ goes_on q → Leads s q
  next_leads s q p None h e = absurd (let both : finished (ending s s.equations) ≡ goes_on q = e in cc)
  next_leads s q p (Some f) h e = carried_leads s q p f h f.result h.right e

  -- A STEP KEEPS TYPES
  pub step_leads : (s q : State Hint) → IsProblem s → next x s ≡ goes_on q → Leads s q
  step_leads s q p e = next_leads s q p (first_found (rule x s.cells s.flexible) s.equations) (first_right sg x s.cells s.flexible p.known s.equations p.equations) e

  -- what an answer says of the state
  abbrev pub Sound : State Hint → Answer Hint → Type 0
  Sound s (unified cells r) = Safe sg r × (q : Substitution ℕ Hint) × Safe sg q × Unifies q s.equations × ((G : List Ty) (t : Term ℕ Hint) (A : Ty) → HasType sg G t A → image same_number r t ≡ image same_number q (image same_number s.pairs t))
  Sound s apart = Unit {0}
  Sound s (stuck i) = Unit {0}

  ending_sound : (s : State Hint) → IsProblem s → (es : List (Equation Hint)) → s.equations ≡ es → Sound s (ending s es)
  ending_sound s p [] e = (p.safe, [], none_safe sg, subst (Unifies []) (sym e) tt, λ G t A d. sym (image_none (image same_number s.pairs t)))
  ending_sound s p (e ∷ es) f = tt

  end_sound : (s : State Hint) → IsProblem s → (a : Answer Hint) (o : Option (Found Hint)) → next_by s o ≡ finished a → Sound s a
  end_sound s p a None e = let equal : ending s s.equations ≡ a = cc in subst (Sound s) equal (ending_sound s p s.equations refl)
  end_sound s p a (Some f) e = go f.result e
    where
      go : (r : Result Hint) → carried s f r ≡ finished a → Sound s a
      go clash e = let equal : apart ≡ a = cc in subst (Sound s) equal tt
      go (parts es) e = absurd (cc)
      go (replaced c) e = absurd (cc)

  more_sound : (s r : State Hint) → Leads s r → (a : Answer Hint) → Sound r a → Sound s a
  more_sound s r l (unified cells u) h =
      let b = l.back h.1 h.2 h.3 in
      (h.0, b.all, b.safe, b.unifies, λ G t A d. h.4 G t A d ∙ b.agrees G t A d)
  more_sound s r l apart h = tt
  more_sound s r l (stuck i) h = tt

  -- THE ANSWER IS SOUND
  pub sound : (s : State Hint) (a : Answer Hint) → IsProblem s → Solves x s a → Sound s a
  sound s a p (at_end e) = end_sound s p a (first_found (rule x s.cells s.flexible) s.equations) e
  sound s a p (by_step {r = r} e q) = let l = step_leads s r p e in more_sound s r l a (sound r a l.problem q)
