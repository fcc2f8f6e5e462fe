-- EQUATIONS AFTER TERMS ARE PUT IN for all variables but some: what can be read off them is what could be before.
use Rattle.std.proofs.Common.{◌≡◌, ℕ, List, [], ◌∷◌, map, Bool, true, false, cond, Option, Some, None, refl, sym, ◌∙◌, ap, subst}
use Rattle.std.proofs.lemmas.Bool.{false≢true, false_from_ne_true}
use Rattle.ab_term.specs.Types.{Ty}
use Rattle.ab_term.specs.Terms.{Nominal, Variable, nominal, Term}
use Rattle.ab_term.specs.Typing.{Signature, HasType}
use Rattle.ab_term.specs.Translation.{forget}
use Rattle.ab_term.specs.Variables.{Substitution, variables, image_by}
use Rattle.ab_term.proofs.Compositions.{then_by, image_composed}
use Rattle.ab_term.proofs.Depends.{image_unmoved}
use Rattle.ab_term.proofs.Images.{image_by_typed}
use Rattle.ab_term.proofs.PastHints.{variables-forget}
use Rattle.ab_term.proofs.Translations.{translate_typed, typed_before}
use Rattle.ab_unifiers.specs.Replacements.{Cell, holds}
use Rattle.ab_unifiers.specs.Unification.{Equation, Answer, unified, apart, stuck, Solves}
use Rattle.ab_unifiers.specs.Unifiers.{given, AreTyped, AreKnown, AreOver}
use Rattle.ab_unifiers.specs.Clauses.{Within}
use Rattle.ab_unifiers.proofs.Agreeing.{contains_holds}
use Rattle.ab_unifiers.proofs.Ending.{answered}
use Rattle.ab_unifiers.proofs.Following.{Put, only_on, Fits, only_on_fits}
use Rattle.ab_unifiers.proofs.General.{AllAlike}
use Rattle.ab_unifiers.proofs.Variables.{Has, has_held, held_has, image_by_has}
use Rattle.ab_pattern_matching.specs.Reading.{can_read, HasNoneOf, but, NoneRead, NoneMatters, ReadInTurn, LeftsWithout, HoldNoneOf, ArePutIn}
use Rattle.ab_pattern_matching.proofs.Begun.{no_index_among, begins, not_apart}
use Rattle.ab_pattern_matching.proofs.Going.{but_typed}
use Rattle.ab_pattern_matching.proofs.Matched.{matched}

-- WHAT IS READ OFF IN TURN UNIFIES
module _ (sg : Signature) {Hint : Type 0} (x : Hint) (es : List (Equation Hint)) (cells : List (Cell Hint)) (zs : List (Variable ℕ)) (ns : List Nominal) (f : Put) (typed : AreTyped sg es) (known : AreKnown cells zs) (over : AreOver cells es) (clean : HoldNoneOf ns es)
    (fits : Fits sg (map nominal ns) zs f) (alike : AllAlike f es) where
  pub unifies_in_turn : LeftsWithout zs es → ReadInTurn zs f es → (more : List (Cell Hint)) × (q : Substitution ℕ Hint) × Solves x (given es cells zs) (unified more q)
  unifies_in_turn lefts turn = let r = answered x (given es cells zs) in go r.0 r.1
    where
      go : (a : Answer Hint) → Solves x (given es cells zs) a → (more : List (Cell Hint)) × (q : Substitution ℕ Hint) × Solves x (given es cells zs) (unified more q)
      go (unified more q) p = (more, q, p)
      go apart p = absurd (not_apart sg x es cells zs ns f typed known over clean fits alike apart p)
      go (stuck i) p = absurd (matched sg (map nominal ns) (no_index_among ns) x (given es cells zs) f (begins sg x es cells zs ns f typed known over clean fits alike) lefts turn (stuck i) p)

  -- and no variable is made
  pub unifies_alone : LeftsWithout zs es → ReadInTurn zs f es → (q : Substitution ℕ Hint) × Solves x (given es cells zs) (unified cells q)
  unifies_alone lefts turn =
      let r = unifies_in_turn lefts turn in
      let same : r.0 ≡ cells = matched sg (map nominal ns) (no_index_among ns) x (given es cells zs) f (begins sg x es cells zs ns f typed known over clean fits alike) lefts turn (unified r.0 r.1) r.2 in
      (r.1, subst (λ k. Solves x (given es cells zs) (unified k r.1)) same r.2)

module _ (sg : Signature) (ys zs : List (Variable ℕ)) (f : Put) (fits : Fits sg [] ys f) (within : Within zs ys) (closed : (y : Variable ℕ) (v : Term ℕ (Unit {0})) → holds zs y ≡ false → f y ≡ Some v → HasNoneOf zs v) where
  pub kept_fits : Fits sg [] zs (only_on zs f)
  kept_fits = only_on_fits sg [] zs f fits.typed fits.has (λ y h. fits.some y (within y h))

  outside_none : (us : List (Variable ℕ)) (y : Variable ℕ) → holds zs y ≡ false → but us (only_on zs f) y ≡ None
  outside_none us y h = ap (λ b. cond (holds us y) None (cond b (f y) None)) h ∙ go (holds us y)
    where
      go : (b : Bool) → cond b None (cond false (f y) None) ≡ None
      go true = refl
      go false = refl

  module _ (us : List (Variable ℕ)) (w : Within us zs) where
    at_once : (y : Variable ℕ) → then_by (but us (only_on zs f)) y (but zs f y) ≡ but us f y
    at_once y = go (holds zs y) refl
      where
        not_us : holds zs y ≡ false → holds us y ≡ false
        not_us h = false_from_ne_true (holds us y) (λ u. false≢true (sym h ∙ w y u))

        outside : holds zs y ≡ false → (o : Option (Term ℕ (Unit {0}))) → f y ≡ o → then_by (but us (only_on zs f)) y o ≡ o
        outside h None e = outside_none us y h
        outside h (Some v) e = ap Some (image_unmoved (but us (only_on zs f)) v (λ z m. outside_none us z (false_from_ne_true (holds zs z) (λ k. false≢true (sym (closed y v h e z k) ∙ contains_holds (variables v) z m)))))

        go : (b : Bool) → holds zs y ≡ b → then_by (but us (only_on zs f)) y (cond (holds zs y) None (f y)) ≡ but us f y
        go true h = ap (λ b. then_by (but us (only_on zs f)) y (cond b None (f y))) h ∙ ap (λ b. cond (holds us y) None (cond b (f y) None)) h
        go false h = ap (λ b. then_by (but us (only_on zs f)) y (cond b None (f y))) h ∙ outside h (f y) refl ∙ ap (λ b. cond b None (f y)) (sym (not_us h))

    -- the rest is put in afterwards
    pub in_two_steps : {G : List Ty} {t : Term ℕ (Unit {0})} {A : Ty} → HasType sg G t A → image_by (but us (only_on zs f)) (image_by (but zs f) t) ≡ image_by (but us f) t
    in_two_steps {t = t} d =
        image_composed sg ℕ (Unit {0}) (but zs f) (but us (only_on zs f)) (but_typed sg zs f fits.typed) (but_typed sg us (only_on zs f) kept_fits.typed) d
        ∙ ap (λ h. image_by h t) (λ i y. at_once y i)

  module _ {Hint : Type 0} where
    bare_typed : {G : List Ty} {t : Term ℕ Hint} {A : Ty} → HasType sg G t A → HasType sg G (forget t) A
    bare_typed d = translate_typed sg (λ v. v) (λ x. tt) d

    put_typed : {G : List Ty} (t s : Term ℕ Hint) {A : Ty} → HasType sg G t A → forget s ≡ image_by (but zs f) (forget t) → HasType sg G s A
    put_typed {G = G} t s {A = A} d e = typed_before sg (λ v. v) (λ x. tt) s (subst (λ r. HasType sg G r A) (sym e) (image_by_typed sg ℕ (Unit {0}) (but zs f) (but_typed sg zs f fits.typed) (bare_typed d)))

    pub all_put_typed : (es ds : List (Equation Hint)) → ArePutIn zs f es ds → AreTyped sg es → AreTyped sg ds
    all_put_typed [] [] p t = tt
    all_put_typed [] (d ∷ ds) p t = absurd p
    all_put_typed (e ∷ es) [] p t = absurd p
    all_put_typed (e ∷ es) (d ∷ ds) p t = ((t.0.0, t.0.1, put_typed e.left d.left t.0.2 p.0, put_typed e.right d.right t.0.3 p.1), all_put_typed es ds p.2 t.1)

    put_without : (t s : Term ℕ Hint) → HasNoneOf zs t → forget s ≡ image_by (but zs f) (forget t) → HasNoneOf zs s
    put_without t s n e y h = false_from_ne_true (holds (variables s) y) (λ m. false≢true (sym (has_held (λ z. holds zs z ≡ false) (image_by (but zs f) (forget t)) there y (ap (λ l. holds l y) (ap variables (sym e) ∙ variables-forget s) ∙ m)) ∙ h))
      where
        value : (y : Variable ℕ) (v : Term ℕ (Unit {0})) (b : Bool) → holds zs y ≡ b → cond b None (f y) ≡ Some v → Has (λ z. holds zs z ≡ false) v
        value y v true k q = absurd (cc)
        value y v false k q = held_has (λ z. holds zs z ≡ false) v (λ z m. false_from_ne_true (holds zs z) (λ i. false≢true (sym (closed y v k q z i) ∙ m)))

        there : Has (λ z. holds zs z ≡ false) (image_by (but zs f) (forget t))
        there = image_by_has (λ z. holds zs z ≡ false) (λ z. holds zs z ≡ false) (but zs f) (λ y v q. value y v (holds zs y) refl q) (λ y q k. k) (forget t)
            (held_has (λ z. holds zs z ≡ false) (forget t) (λ z m. false_from_ne_true (holds zs z) (λ i. false≢true (sym (n z i) ∙ ap (λ l. holds l z) (sym (variables-forget t)) ∙ m))))

    pub all_put_without : (es ds : List (Equation Hint)) → ArePutIn zs f es ds → LeftsWithout zs es → LeftsWithout zs ds
    all_put_without [] [] p l = tt
    all_put_without [] (d ∷ ds) p l = absurd p
    all_put_without (e ∷ es) [] p l = absurd p
    all_put_without (e ∷ es) (d ∷ ds) p l = (put_without e.left d.left l.0 p.0, all_put_without es ds p.2 l.1)

    pub all_put_alike : (es ds : List (Equation Hint)) → ArePutIn zs f es ds → AreTyped sg es → AllAlike f es → AllAlike (only_on zs f) ds
    all_put_alike [] [] p t a = tt
    all_put_alike [] (d ∷ ds) p t a = absurd p
    all_put_alike (e ∷ es) [] p t a = absurd p
    all_put_alike (e ∷ es) (d ∷ ds) p t a = (
      ap (image_by (only_on zs f)) p.0 ∙ in_two_steps [] (λ y h. absurd (false≢true h)) (bare_typed t.0.2) ∙ a.0 ∙ sym (ap (image_by (only_on zs f)) p.1 ∙ in_two_steps [] (λ y h. absurd (false≢true h)) (bare_typed t.0.3)),
      all_put_alike es ds p.2 t.1 a.1,
    )

    module _ (us : List (Variable ℕ)) (w : Within us zs) where
      unread_put : (es ds : List (Equation Hint)) → ArePutIn zs f es ds → AreTyped sg es → NoneRead us (only_on zs f) ds → NoneRead us f es
      unread_put [] [] p t r = tt
      unread_put [] (d ∷ ds) p t r = absurd p
      unread_put (e ∷ es) [] p t r = absurd p
      unread_put (e ∷ es) (d ∷ ds) p t r = (sym (ap (λ s. can_read us (image_by (but us (only_on zs f)) s)) p.1 ∙ ap (can_read us) (in_two_steps us w (bare_typed t.0.3))) ∙ r.0, unread_put es ds p.2 t.1 r.1)

      matterless_put : (es ds : List (Equation Hint)) → ArePutIn zs f es ds → AreTyped sg es → NoneMatters us f es → NoneMatters us (only_on zs f) ds
      matterless_put [] [] p t r = tt
      matterless_put [] (d ∷ ds) p t r = absurd p
      matterless_put (e ∷ es) [] p t r = absurd p
      matterless_put (e ∷ es) (d ∷ ds) p t r = (
        ap (image_by (but us (only_on zs f))) p.1 ∙ in_two_steps us w (bare_typed t.0.3) ∙ r.0 ∙ sym (ap (image_by (only_on zs f)) p.1 ∙ in_two_steps [] (λ y h. absurd (false≢true h)) (bare_typed t.0.3)),
        matterless_put es ds p.2 t.1 r.1,
      )

    -- WHAT WAS READ OFF IN TURN still is
    pub turn_put : (es ds : List (Equation Hint)) → ArePutIn zs f es ds → AreTyped sg es → ReadInTurn zs f es → ReadInTurn zs (only_on zs f) ds
    turn_put es ds p t turn us w r = matterless_put us w es ds p t (turn us w (unread_put us w es ds p t r))
