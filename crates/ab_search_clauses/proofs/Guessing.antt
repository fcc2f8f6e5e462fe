-- THE GUESS for a search's equations: what later solving puts in, where the variables that it leaves open get high numbers. What becomes of terms at
-- last is the guess, and then what becomes of those variables.
use Rattle.std.proofs.Common.{◌≡◌, ◌⊎◌, inl, inr, ℕ, suc, ◌+◌, ◌-◌, ◌<◌, ◌≤◌, List, [], Bool, true, false, cond, ◌&&◌, not, nat_lt, codes, Option, Some, None, option_map, refl, sym, ◌∙◌, ap, subst, arith}
use Rattle.std.specs.Prelude.{Contains}
use Rattle.std.proofs.lemmas.Bool.{false≢true, false_from_ne_true, and_parts, and_from, lt-ltb, le-ltb, ltb-true}
use Rattle.ab_term.specs.Types.{Ty}
use Rattle.ab_term.specs.Terms.{Nominal, Variable, variable, Terms, no_terms, term, Read}
use Rattle.ab_term.specs.Typing.{Signature, HasType, TakeType, take_term}
use Rattle.ab_term.specs.Names.{support, rename}
use Rattle.ab_term.specs.Translation.{forget}
use Rattle.ab_term.specs.Variables.{Substitution, variables, variables_of_all, value_in, image, image_by, IsTyped}
use Rattle.ab_term.specs.Sameness.{same_number}
use Rattle.ab_term.proofs.Compositions.{then_by, image_composed, image_typed}
use Rattle.ab_term.proofs.Expansions.{expansion_typed}
use Rattle.ab_term.proofs.Images.{IsTypedMap, image_by_typed}
use Rattle.ab_term.proofs.Lists.{Contains-none, Contains-cases}
use Rattle.ab_term.proofs.Stands.{variables-image, variables-expansion_of}
use Rattle.ab_term.proofs.OwnExpansion.{image_by-own}
use Rattle.ab_term.proofs.PastHints.{variables-forget}
use Rattle.ab_term.proofs.Renamings.{rename-image_by, rename-expansion_of, rename_typed}
use Rattle.ab_term.proofs.Translations.{translate_typed, support-translate}
use Rattle.ab_unifiers.specs.Replacements.{holds}
use Rattle.ab_unifiers.specs.Unifiers.{Unifies, keys}
use Rattle.ab_unifiers.specs.Alternatives.{arguments_equal}
use Rattle.ab_unifiers.proofs.Agreeing.{contains_holds, image_agrees, holds_front, holds_behind}
use Rattle.ab_unifiers.proofs.Constants as constants
use Rattle.ab_unifiers.proofs.Following.{plain, plain_typed, image_plain}
use Rattle.ab_unifiers.proofs.Past.{bare_own, maps_agree}
use Rattle.ab_unifiers.proofs.Variables.{holds_contains}
use Rattle.ab_search_trees.specs.Lifting.{Guess, IsGuessFor, MakesEqual}
use Rattle.ab_search_trees.proofs.Lifts.{own_stays, no_value}
use Rattle.ab_pattern_matching.specs.Raising.{Bare}
use Rattle.ab_pattern_matching.proofs.TwoWays.{variables_same}
use Rattle.ab_search_proofs.proofs.StandIns.{none_left}
use Rattle.ab_search_clauses.proofs.Turned.{then_typed}

-- n variables are old, and there are `most` at the way; these numbers are high
module _ (sg : Signature) (flexible : List (Variable ℕ)) (n most high : ℕ) (some_old : n ≤ most) (higher : n ≤ high)
    (later : Substitution ℕ (List ℕ)) (typed : IsTyped sg later) (nameless : (y : Variable ℕ) (v : Read) → value_in same_number later y ≡ Some v → support v ≡ [])
    (within : (y : Variable ℕ) → holds (keys later) y ≡ true → (holds flexible y ≡ true) ⊎ (most ≤ y.name)) where
  -- old, and not to be replaced
  abbrev pub is_fixed : Variable ℕ → Bool
  is_fixed z = nat_lt z.name n && not (holds flexible z)

  abbrev pub raised_up : Variable ℕ → Variable ℕ
  raised_up z = record { name = high + z.name; type = z.type }

  abbrev pub up : Guess
  up z = cond (is_fixed z) None (Some (bare_own (record { name = high + z.name; type = z.type })))

  abbrev pub guess : Guess
  guess y = cond (holds flexible y) (Some (image_by up (image_by (plain later) (bare_own y)))) None

  own_typed : (y : Variable ℕ) → HasType sg [] (bare_own y) y.type
  own_typed y = expansion_typed sg tt y.type [] (variable y) refl

  up_typed : IsTypedMap sg up
  up_typed z v e = go (is_fixed z) e
    where
      go : (b : Bool) → cond b None (Some (bare_own (record { name = high + z.name; type = z.type }))) ≡ Some v → HasType sg [] v z.type
      go true e = absurd (cc)
      go false e = let same : bare_own (raised_up z) ≡ v = cc in subst (λ t. HasType sg [] t z.type) same (own_typed (raised_up z))

  later_typed : IsTypedMap sg (plain later)
  later_typed = plain_typed sg later typed

  value_typed : (y : Variable ℕ) → HasType sg [] (image_by up (image_by (plain later) (bare_own y))) y.type
  value_typed y = image_by_typed sg ℕ (Unit {0}) up up_typed (image_by_typed sg ℕ (Unit {0}) (plain later) later_typed (own_typed y))

  pub guess_typed : IsTypedMap sg guess
  guess_typed y v e = go (holds flexible y) e
    where
      go : (b : Bool) → cond b (Some (image_by up (image_by (plain later) (bare_own y)))) None ≡ Some v → HasType sg [] v y.type
      go true e = let same : image_by up (image_by (plain later) (bare_own y)) ≡ v = cc in subst (λ t. HasType sg [] t y.type) same (value_typed y)
      go false e = absurd (cc)

  -- no constants
  abbrev Never : Nominal → Type 0
  Never a = ⊥

  own_never : (y : Variable ℕ) → constants.Has Never (bare_own y)
  own_never y = constants.expansion_of_has Never tt y.type (variable y) no_terms tt tt

  value_never : (y : Variable ℕ) → constants.Has Never (image_by up (image_by (plain later) (bare_own y)))
  value_never y = constants.image_by_has Never up (λ z v e. of_up z v (is_fixed z) e) (image_by (plain later) (bare_own y)) (constants.image_by_has Never (plain later) (λ z v e. of_later z v (value_in same_number later z) refl e) (bare_own y) (own_never y))
    where
      of_up : (z : Variable ℕ) (v : Bare) (b : Bool) → cond b None (Some (bare_own (record { name = high + z.name; type = z.type }))) ≡ Some v → constants.Has Never v
      of_up z v true e = absurd (cc)
      of_up z v false e = let same : bare_own (raised_up z) ≡ v = cc in subst (constants.Has Never) same (own_never (raised_up z))

      of_later : (z : Variable ℕ) (v : Bare) (o : Option Read) → value_in same_number later z ≡ o → option_map forget o ≡ Some v → constants.Has Never v
      of_later z v None q e = absurd (cc)
      of_later z v (Some u) q e =
          let same : forget u ≡ v = cc in
          subst (constants.Has Never) same (constants.support_has Never (forget u) (λ a m. Contains-none a (subst (λ l. Contains l a) (support-translate (λ k. k) (λ h. tt) u ∙ nameless z u q) m)))

  pub guess_nameless : (y : Variable ℕ) (v : Bare) → guess y ≡ Some v → support v ≡ []
  guess_nameless y v e = go (holds flexible y) e
    where
      go : (b : Bool) → cond b (Some (image_by up (image_by (plain later) (bare_own y)))) None ≡ Some v → support v ≡ []
      go true e = let same : image_by up (image_by (plain later) (bare_own y)) ≡ v = cc in
          subst (λ t. support t ≡ []) same (none_left (support (image_by up (image_by (plain later) (bare_own y)))) (λ a m. constants.has_support Never (image_by up (image_by (plain later) (bare_own y))) (value_never y) a m))
      go false e = absurd (cc)

  pub is_guess : IsGuessFor sg flexible guess
  is_guess = record {
    typed = guess_typed;
    nameless = guess_nameless;
    some = λ y h. (image_by up (image_by (plain later) (bare_own y)), ap (λ b. cond b (Some (image_by up (image_by (plain later) (bare_own y)))) None) h);
    none = λ y h. ap (λ b. cond b (Some (image_by up (image_by (plain later) (bare_own y)))) None) h;
  }

  -- WHAT STANDS IN ITS TERMS is old or has a high number
  -- a variable of a term, moved up or not
  pub up_from : (T : Bare) (y : Variable ℕ) → holds (variables (image_by up T)) y ≡ true
      → ((holds (variables T) y ≡ true) × (is_fixed y ≡ true)) ⊎ ((z : Variable ℕ) × (holds (variables T) z ≡ true) × (is_fixed z ≡ false) × (record { name = high + z.name; type = z.type } ≡ y))
  up_from T y h = elim (variables-image up T y (holds_contains (variables (image_by up T)) y h)) [
    | inl a ↦ inl (contains_holds (variables T) y a.0, stays y (is_fixed y) refl a.1)
    | inr a ↦ inr (a.0, contains_holds (variables T) a.0 (a.2).0, moves a.0 a.1 (is_fixed a.0) refl (a.2).1, moved a.0 a.1 (is_fixed a.0) (a.2).1 a.3)
  ]
    where
      stays : (z : Variable ℕ) (b : Bool) → is_fixed z ≡ b → cond b None (Some (bare_own (record { name = high + z.name; type = z.type }))) ≡ None → is_fixed z ≡ true
      stays z true q e = q
      stays z false q e = absurd (cc)

      moves : (z : Variable ℕ) (u : Bare) (b : Bool) → is_fixed z ≡ b → cond b None (Some (bare_own (record { name = high + z.name; type = z.type }))) ≡ Some u → is_fixed z ≡ false
      moves z u true q e = absurd (cc)
      moves z u false q e = q

      moved : (z : Variable ℕ) (u : Bare) (b : Bool) → cond b None (Some (bare_own (record { name = high + z.name; type = z.type }))) ≡ Some u → Contains (variables u) y → record { name = high + z.name; type = z.type } ≡ y
      moved z u true e m = absurd (cc)
      moved z u false e m =
          let same : bare_own (raised_up z) ≡ u = cc in
          let there : Contains (variables (bare_own (raised_up z))) y = subst (λ t. Contains (variables t) y) (sym same) m in
          elim (Contains-cases (raised_up z) [] y (subst (λ l. Contains l y) (variables-expansion_of tt z.type (variable (raised_up z)) no_terms) there)) [ inl e ↦ e | inr k ↦ absurd (Contains-none y k) ]

  pub fixed_old : (z : Variable ℕ) → is_fixed z ≡ true → z.name < n
  fixed_old z e = ltb-true z.name n (and_parts (nat_lt z.name n) (not (holds flexible z)) e).0

  pub up_outside : (T : Bare) (y : Variable ℕ) → holds (variables (image_by up T)) y ≡ true → (y.name < n) ⊎ (high ≤ y.name)
  up_outside T y h = elim (up_from T y h) [
    | inl a ↦ inl (fixed_old y a.1)
    | inr a ↦ inr (let same : high + (a.0).name ≡ y.name = ap (λ (z : Variable ℕ). z.name) a.3 in omega (arith, same))
  ]

  pub guess_outside : (y : Variable ℕ) (v : Bare) → guess y ≡ Some v → (z : Variable ℕ) → holds (variables v) z ≡ true → (z.name < n) ⊎ (high ≤ z.name)
  guess_outside y v e = go (holds flexible y) e
    where
      go : (b : Bool) → cond b (Some (image_by up (image_by (plain later) (bare_own y)))) None ≡ Some v → (z : Variable ℕ) → holds (variables v) z ≡ true → (z.name < n) ⊎ (high ≤ z.name)
      go true e z h = let same : image_by up (image_by (plain later) (bare_own y)) ≡ v = cc in up_outside (image_by (plain later) (bare_own y)) z (subst (λ t. holds (variables t) z ≡ true) (sym same) h)
      go false e z h = absurd (cc)

  -- A TERM WHOSE VARIABLES are old or may be replaced: the guess is what later solving puts in, moved up
  then_up_typed : IsTypedMap sg (λ y. then_by up y (plain later y))
  then_up_typed = then_typed sg (plain later) up later_typed up_typed

  not_later : (y : Variable ℕ) → holds flexible y ≡ false → y.name < n → plain later y ≡ None
  not_later y h l = ap (option_map forget) (no_value later y (false_from_ne_true (holds (keys later) y) (λ k. elim (within y k) [ inl a ↦ false≢true (sym h ∙ a) | inr a ↦ absurd (omega (arith, a, l, some_old)) ])))

  at_own : (y : Variable ℕ) → (holds flexible y ≡ true) ⊎ (y.name < n) → image_by guess (bare_own y) ≡ image_by (λ y. then_by up y (plain later y)) (bare_own y)
  at_own y fit = go (holds flexible y) refl
    where
      go : (b : Bool) → holds flexible y ≡ b → image_by guess (bare_own y) ≡ image_by (λ y. then_by up y (plain later y)) (bare_own y)
      go true h =
          image_by-own sg ℕ guess guess_typed y (image_by up (image_by (plain later) (bare_own y))) (ap (λ b. cond b (Some (image_by up (image_by (plain later) (bare_own y)))) None) h)
          ∙ image_composed sg ℕ (Unit {0}) (plain later) up later_typed up_typed (own_typed y)
      go false h = elim fit [
        | inl a ↦ absurd (false≢true (sym h ∙ a))
        | inr l ↦
            let fixed : is_fixed y ≡ true = and_from (nat_lt y.name n) (not (holds flexible y)) (lt-ltb y.name n l) (ap not h) in
            own_stays guess y (ap (λ b. cond b (Some (image_by up (image_by (plain later) (bare_own y)))) None) h)
            ∙ sym (own_stays (λ y. then_by up y (plain later y)) y (ap (then_by up y) (not_later y h l) ∙ ap (λ b. cond b None (Some (bare_own (raised_up y)))) fixed))
      ]

  pub guess_is : {G : List Ty} {t : Read} {A : Ty} → HasType sg G t A → ((y : Variable ℕ) → holds (variables t) y ≡ true → (holds flexible y ≡ true) ⊎ (y.name < n)) → image_by guess (forget t) ≡ image_by up (forget (image same_number later t))
  guess_is {t = t} d fit =
      let bare_d = translate_typed sg (λ k. k) (λ h. tt) d in
      maps_agree sg guess (λ y. then_by up y (plain later y)) guess_typed then_up_typed bare_d (λ y h. at_own y (fit y (ap (λ l. holds l y) (sym (variables-forget t)) ∙ h)))
      ∙ sym (image_composed sg ℕ (Unit {0}) (plain later) up later_typed up_typed bare_d)
      ∙ ap (image_by up) (sym (image_plain later t))

  -- so the sides are equal
  pub makes_equal : {A B : Ty} (p : ℕ) (ts us : Terms ℕ (List ℕ)) → TakeType sg [] ts A B → TakeType sg [] us A B → ((y : Variable ℕ) → holds (variables_of_all ts) y ≡ true → (holds flexible y ≡ true) ⊎ (y.name < n)) → ((y : Variable ℕ) → holds (variables_of_all us) y ≡ true → (holds flexible y ≡ true) ⊎ (y.name < n))
      → Unifies later (arguments_equal (codes "x") p ts us) → MakesEqual guess (arguments_equal (codes "x") p ts us)
  makes_equal p no_terms us d e f g u = tt
  makes_equal p (term t ts) no_terms d e f g u = tt
  makes_equal p (term t ts) (term v us) (take_term d ds) (take_term e es) f g u = (
    guess_is d (λ y h. f y (holds_front (variables t) (variables_of_all ts) y h))
        ∙ ap (image_by up) u.0
        ∙ sym (guess_is e (λ y h. g y (holds_front (variables v) (variables_of_all us) y h))),
    makes_equal (suc p) ts us ds es (λ y h. f y (holds_behind (variables t) (variables_of_all ts) y h)) (λ y h. g y (holds_behind (variables v) (variables_of_all us) y h)) u.1,
  )

  -- AND AT LAST, by what becomes of each variable
  module _ (becomes : Guess) (becomes_typed : IsTypedMap sg becomes) where
    abbrev pub at_end : Guess
    at_end y = cond (nat_lt y.name high) (becomes y) (becomes (record { name = y.name - high; type = y.type }))

    pub at_end_typed : IsTypedMap sg at_end
    at_end_typed y v e = go (nat_lt y.name high) e
      where
        go : (b : Bool) → cond b (becomes y) (becomes (record { name = y.name - high; type = y.type })) ≡ Some v → HasType sg [] v y.type
        go true e = becomes_typed y v e
        go false e = becomes_typed (record { name = y.name - high; type = y.type }) v e

    pub end_old : (z : Variable ℕ) → z.name < n → at_end z ≡ becomes z
    end_old z l = ap (λ b. cond b (becomes z) (becomes (record { name = z.name - high; type = z.type }))) (lt-ltb z.name high (omega (arith, l, higher)))

    pub end_high : (z : Variable ℕ) → at_end (record { name = high + z.name; type = z.type }) ≡ becomes z
    end_high z =
        let back : (high + z.name) - high ≡ z.name = omega arith in
        ap (λ b. cond b (becomes (raised_up z)) (becomes (record { name = (high + z.name) - high; type = z.type }))) (le-ltb (high + z.name) high (omega arith))
        ∙ ap (λ k. becomes (record { name = k; type = z.type })) back

    module _ (m : Nominal → Nominal) (keeps : (a : Nominal) → (m a).type ≡ a.type) where
      up_renamed : (T : Bare) → rename m (image_by up T) ≡ image_by up (rename m T)
      up_renamed T = rename-image_by m up T ∙ ap (λ h. image_by h (rename m T)) (λ i y. at y i)
        where
          at : (y : Variable ℕ) → option_map (rename m) (up y) ≡ up y
          at y = go (is_fixed y)
            where
              go : (b : Bool) → option_map (rename m) (cond b None (Some (bare_own (record { name = high + y.name; type = y.type })))) ≡ cond b None (Some (bare_own (record { name = high + y.name; type = y.type })))
              go true = refl
              go false = ap Some (rename-expansion_of m tt y.type (variable (raised_up y)) no_terms)

      end_up : (Z : Bare) {G : List Ty} {A : Ty} → HasType sg G Z A → ((z : Variable ℕ) → holds (variables Z) z ≡ true → (v : Bare) × (becomes z ≡ Some v)) → image_by at_end (image_by up Z) ≡ image_by becomes Z
      end_up Z d full = image_composed sg ℕ (Unit {0}) up at_end up_typed at_end_typed d ∙ image_agrees (λ z. then_by at_end z (up z)) becomes Z (λ z h. at z (full z h))
        where
          at : (z : Variable ℕ) → (v : Bare) × (becomes z ≡ Some v) → then_by at_end z (up z) ≡ becomes z
          at z v = go (is_fixed z) refl
            where
              go : (b : Bool) → is_fixed z ≡ b → then_by at_end z (cond b None (Some (bare_own (record { name = high + z.name; type = z.type })))) ≡ becomes z
              go true q = end_old z (fixed_old z q)
              go false q = ap Some (image_by-own sg ℕ at_end at_end_typed (raised_up z) v.0 (end_high z ∙ v.1)) ∙ sym v.1

      -- a term at last is the guess, and then what becomes of what it leaves open
      pub ends : {G : List Ty} {t : Read} {A : Ty} → HasType sg G t A → ((y : Variable ℕ) → holds (variables t) y ≡ true → (holds flexible y ≡ true) ⊎ (y.name < n))
          → ((z : Variable ℕ) → holds (variables (image same_number later t)) z ≡ true → (v : Bare) × (becomes z ≡ Some v)) → image_by at_end (rename m (image_by guess (forget t))) ≡ image_by becomes (rename m (forget (image same_number later t)))
      ends {t = t} d fit full =
          let T = image same_number later t in
          ap (λ k. image_by at_end (rename m k)) (guess_is d fit)
          ∙ ap (image_by at_end) (up_renamed (forget T))
          ∙ end_up (rename m (forget T)) (rename_typed sg m keeps (translate_typed sg (λ k. k) (λ h. tt) (image_typed sg same_number later typed d)))
          (λ z h. full z (ap (λ l. holds l z) (sym (variables-forget T)) ∙ ap (λ l. holds l z) (sym (variables_same m (forget T))) ∙ h))
