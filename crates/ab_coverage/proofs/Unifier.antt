-- A problem over a sequent's variables and new ones over some constants: from a substitution of the sequent and terms
-- for the new variables comes a unifier, and what a solver answers is as general.
use Rattle.std.proofs.Common.{◌≡◌, ℕ, suc, List, [], ◌∷◌, ◌++◌, map, length, true, false, Some, option_map, refl, sym, ◌∙◌, ap, arith, length-append}
use Rattle.std.specs.Prelude.{All, Contains}
use Rattle.std.proofs.lemmas.Bool.{false_from_ne_true}
use Rattle.std.proofs.lemmas.List.Elements.{All-weaker}
use Rattle.ab_term.specs.Types.{Ty}
use Rattle.ab_term.specs.Terms.{Nominal, Variable, nominal, variable, Term, no_terms}
use Rattle.ab_term.specs.Typing.{Signature, HasType}
use Rattle.ab_term.specs.Translation.{forget, EqualPastHints}
use Rattle.ab_term.specs.Names.{support}
use Rattle.ab_term.specs.Variables.{Substitution, variables, value_in, image, image_by, IsTyped, IsClean}
use Rattle.ab_term.specs.Sameness.{same_number}
use Rattle.ab_term.specs.Abstraction.{over}
use Rattle.ab_term.proofs.Compositions.{image_typed, image-composition}
use Rattle.ab_term.proofs.Expansions.{expansion_typed}
use Rattle.ab_term.proofs.Lists.{All-from_contains}
use Rattle.ab_term.proofs.Closing.{forget-abstracted}
use Rattle.ab_term.proofs.Raising.{new_over, image-given, forget-given}
use Rattle.ab_term.proofs.Translations.{translate_typed}
use Rattle.ab_unifiers.specs.Replacements.{Cell, holds}
use Rattle.ab_unifiers.specs.Unification.{Equation, Answer, unified, apart, stuck, Solves}
use Rattle.ab_unifiers.specs.Unifiers.{AreDifferent, AreKnown, AreTyped, AreOver, Unifies, IsUnifier, sides, given}
use Rattle.ab_unifiers.proofs.Problems.{answer_typed}
use Rattle.ab_unifiers.proofs.Given.{apart_none, most_general}
use Rattle.ab_unifiers.specs.Clauses.{Each, put_together}
use Rattle.ab_unifiers.specs.Alternatives.{Scope, cells_over, made_over, made_terms}
use Rattle.ab_unifiers.proofs.Past.{own, AgreeOn, bare, bare_typed, forget-image, forget-own, images_agree}
use Rattle.ab_term.proofs.Stands.{either}
use Rattle.ab_unifiers.proofs.Constants.{Has, has_support, support_has, image_by_has, expansion_of_has, has_weaker, ButAll}
use Rattle.ab_unifiers.proofs.Rows.{each_any, each_held, each_weaker, each_append, each_split, held_append, found_each, keys_put_together, together_typed, together_all, numbered_within, numbered_different, append_different}
use Rattle.ab_unifiers.proofs.Lifting.{own_value, lifted, OfCells, lifted_typed}
use Rattle.ab_unifiers.proofs.Core.{made_are_over, over_has}

module _ (sg : Signature) {Hint : Type 0} (x : Hint) where
  -- what is put in for new variables makes of each, given the constants, its term
  module _ (u : Substitution ℕ Hint) (u_typed : IsTyped sg u) (ns : List Nominal) where
    pub made_met : (n : ℕ) (cs : List (Cell Hint)) (us : List (Term ℕ Hint)) → OfCells sg x cs us → Each (λ z v. value_in same_number u z ≡ Some v) (made_over x n ns cs) (lifted sg x ns cs us)
        → Each (λ m w. image_by (bare u) (forget m) ≡ forget w) (made_terms x n ns cs) us
    made_met n [] [] d f = tt
    made_met n [] (w ∷ us) d f = absurd d
    made_met n (c ∷ cs) [] d f = absurd d
    made_met n (c ∷ cs) (w ∷ us) d f = (
      ap (image_by (bare u)) (forget-given x (new_over n ns c.type) ns c.type)
          ∙ image-given sg (bare u) (bare_typed sg u u_typed) n ns c.type (forget w) (translate_typed sg (λ v. v) (λ h. tt) d.0) (ap (option_map forget) f.0 ∙ ap Some (forget-abstracted x (over ns c.type) (map nominal ns) w)),
      made_met (suc n) cs us d.1 f.1,
    )

  pub any_constants : (cs : List (Cell Hint)) (us : List (Term ℕ Hint)) → OfCells sg x cs us → Each (λ k u. Has (λ a. Unit {0}) u) cs us
  any_constants = each_weaker (λ c u. HasType sg [] u c.type) (λ k u. Has (λ a. Unit {0}) u) (λ k u d. support_has (λ a. Unit {0}) u (λ a m. tt))

  module _ (sequent : Scope Hint) (different : AreDifferent sequent.variables) (numbered : AreKnown sequent.cells sequent.variables) (S : List Nominal) (cs : List (Cell Hint)) (us : List (Term ℕ Hint)) (us_for : OfCells sg x cs us)
      (s : Substitution ℕ Hint) (s_typed : IsTyped sg s) (s_holds : (y : Variable ℕ) (t : Term ℕ Hint) → value_in same_number s y ≡ Some t → Has (λ a. ¬ (Contains S a)) t) where
    abbrev pub V : List (Variable ℕ)
    V = sequent.variables

    abbrev pub m : ℕ
    m = length sequent.cells

    abbrev pub zs : List (Variable ℕ)
    zs = made_over x m S cs

    abbrev olds : List (Variable ℕ) → List (Term ℕ Hint)
    olds ys = map (λ y. image same_number s (own x y)) ys

    abbrev news : List (Term ℕ Hint)
    news = lifted sg x S cs us

    abbrev pub unifier : Substitution ℕ Hint
    unifier = put_together (V ++ zs) (olds V ++ news)

    olds_typed : (ys : List (Variable ℕ)) → Each (λ z v. HasType sg [] v z.type) ys (olds ys)
    olds_typed [] = tt
    olds_typed (y ∷ ys) = (image_typed sg same_number s s_typed (expansion_typed sg x y.type [] (variable y) refl), olds_typed ys)

    news_typed : Each (λ z v. HasType sg [] v z.type) zs news
    news_typed = lifted_typed sg x m S cs us us_for

    all_typed : Each (λ z v. HasType sg [] v z.type) (V ++ zs) (olds V ++ news)
    all_typed = each_append (λ z v. HasType sg [] v z.type) V zs (olds V) news (olds_typed V) news_typed

    pub unifier_typed : IsTyped sg unifier
    unifier_typed = together_typed sg (V ++ zs) (olds V ++ news) all_typed

    zs_behind : (y : Variable ℕ) → holds V y ≡ true → holds zs y ≡ false
    zs_behind y h = false_from_ne_true (holds zs y) (λ g. let low = (numbered_within m (cells_over x S cs) y g).0 in let high = numbered y h in omega (arith, low, high))

    found : Each (λ z v. value_in same_number unifier z ≡ Some v) V (olds V) × Each (λ z v. value_in same_number unifier z ≡ Some v) zs news
    found = each_split (λ z v. value_in same_number unifier z ≡ Some v) V zs (olds V) news (each_any (λ z v. HasType sg [] v z.type) V (olds V) (olds_typed V))
        (found_each unifier (V ++ zs) (olds V ++ news) (append_different V zs different (numbered_different m (cells_over x S cs)) zs_behind) (λ y h t e. e)
        (each_any (λ z v. HasType sg [] v z.type) (V ++ zs) (olds V ++ news) all_typed))

    own_met : (ys : List (Variable ℕ)) → Each (λ y t. value_in same_number unifier y ≡ Some t) ys (olds ys) → Each (λ y t. EqualPastHints (image same_number unifier (own x y)) (image same_number s (own x y))) ys (olds ys)
    own_met [] e = tt
    own_met (y ∷ ys) e = (
      forget-image unifier (own x y) ∙ ap (image_by (bare unifier)) (forget-own x y) ∙ own_value sg unifier unifier_typed y (image same_number s (own x y)) e.0,
      own_met ys e.1,
    )

    agrees : AgreeOn x V unifier s
    agrees = each_held (λ y t. EqualPastHints (image same_number unifier (own x y)) (image same_number s (own x y))) (λ y. EqualPastHints (image same_number unifier (own x y)) (image same_number s (own x y))) (λ y t r. r) V (olds V) (own_met V found.0)

    -- on the sequent's terms it is the substitution
    pub on_old : {G : List Ty} {t : Term ℕ Hint} {A : Ty} → HasType sg G t A → ((y : Variable ℕ) → holds (variables t) y ≡ true → holds V y ≡ true) → EqualPastHints (image same_number unifier t) (image same_number s t)
    on_old d v = images_agree sg x unifier s unifier_typed s_typed V agrees d v

    -- of the new variables it makes the terms
    pub on_new : Each (λ m w. image_by (bare unifier) (forget m) ≡ forget w) (made_terms x m S cs) us
    on_new = made_met unifier unifier_typed S m cs us us_for found.1

    abbrev Absent : Nominal → Type 0
    Absent a = ¬ (Contains S a)

    olds_clean : (ys : List (Variable ℕ)) → Each (λ z v. Has Absent v) ys (olds ys)
    olds_clean [] = tt
    olds_clean (y ∷ ys) = (image_by_has Absent (value_in same_number s) s_holds (own x y) (expansion_of_has Absent x y.type (variable y) no_terms tt tt), olds_clean ys)

    values_clean : Each (λ z v. Has Absent v) (V ++ zs) (olds V ++ news)
    values_clean = each_append (λ z v. Has Absent v) V zs (olds V) news (olds_clean V)
        (each_weaker (λ z v. Has (ButAll (λ a. Unit {0}) S) v) (λ z v. Has Absent v) (λ z v h. has_weaker (ButAll (λ a. Unit {0}) S) Absent (λ a q. q.1) v h) zs news
        (over_has sg x (λ a. Unit {0}) S zs cs us (made_are_over sg x m S cs) (any_constants cs us us_for)))

    abbrev pub all_cells : List (Cell Hint)
    all_cells = sequent.cells ++ cells_over x S cs

    pub known : AreKnown all_cells (V ++ zs)
    known y h = either
        (λ o. let low = numbered y o in let long = length-append sequent.cells (cells_over x S cs) in omega (arith, low, long))
        (λ z. let within = (numbered_within m (cells_over x S cs) y z).1 in let long = length-append sequent.cells (cells_over x S cs) in omega (arith, within, long))
        (held_append V zs y h)

    module _ (es : List (Equation Hint)) (es_typed : AreTyped sg es) (es_over : AreOver all_cells es) (es_hold : All (Has (λ a. Contains S a)) (sides es)) (unifies : Unifies unifier es) where
      clean : IsClean unifier (sides es)
      clean = together_all (λ v. All (λ t. All (λ a. ¬ (Contains (support t) a)) (support v)) (sides es)) (V ++ zs) (olds V ++ news)
          (each_weaker (λ z v. Has Absent v) (λ z v. All (λ t. All (λ a. ¬ (Contains (support t) a)) (support v)) (sides es))
          (λ z v h. All-weaker (Has (λ a. Contains S a)) (λ t. All (λ a. ¬ (Contains (support t) a)) (support v)) (λ t k. All-from_contains (λ a. ¬ (Contains (support t) a)) (support v) (λ a i j. has_support Absent v h a i (has_support (λ a. Contains S a) t k a j))) (sides es) es_hold)
          (V ++ zs) (olds V ++ news) values_clean)

      is_unifier : IsUnifier sg (V ++ zs) es unifier
      is_unifier = record {
        within = λ y h. ap (λ l. holds l y) (sym (keys_put_together (V ++ zs) (olds V ++ news) (each_any (λ z v. HasType sg [] v z.type) (V ++ zs) (olds V ++ news) all_typed))) ∙ h;
        typed = unifier_typed;
        clean = clean;
        unifies = unifies;
      }

      -- WHAT AN ANSWER GIVES: it isn't apart; and where it is unified, some substitution after it does what the unifier does
      abbrev pub Gives : Answer Hint → Type 0
      Gives apart = ⊥
      Gives (stuck i) = Unit {0}
      Gives (unified more q) = (r : Substitution ℕ Hint) × IsTyped sg r
          × ((t : Term ℕ Hint) (A : Ty) → HasType sg [] t A → ((y : Variable ℕ) → holds (variables t) y ≡ true → holds (V ++ zs) y ≡ true)
          → EqualPastHints (image same_number r (image same_number q t)) (image same_number unifier t))

      pub gives : (a : Answer Hint) → Solves x (given es all_cells (V ++ zs)) a → Gives a
      gives apart e = apart_none sg x es all_cells (V ++ zs) es_typed known es_over unifier is_unifier e
      gives (stuck i) e = tt
      gives (unified more q) e =
          let served = most_general sg x es all_cells (V ++ zs) es_typed known es_over unifier is_unifier more q e in
          let q_typed : IsTyped sg q = answer_typed sg x es all_cells (V ++ zs) es_typed known more q e in (
            served.0,
            served.1,
            (λ t A d v. ap forget (sym (image-composition sg same_number q q_typed served.0 served.1 d)) ∙ sym (served.2 [] t A d (λ y h. known y (v y h)))),
          )
