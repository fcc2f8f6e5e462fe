-- The rows of induction and coinduction, by the kind of the step.
use Rattle.std.specs.List.{All}
use Rattle.std.specs.Prelude.{drop}
use Rattle.std.proofs.Common.{◌≡◌, ℕ, ◌+◌, ◌<◌, ◌≤◌, List, [], ◌∷◌, map, length, get_or, Some, None, inl, inr, refl, sym, ap, ◌∙◌, subst}
use Rattle.std.proofs.lemmas.List.{drop_more, drop_all, drop-map}
use Rattle.ab_term.specs.Terms.{Read}
use Rattle.ab_formulas.specs.Declarations.{Declarations}
use Rattle.ab_formulas.specs.Marks.{Sign, plain}
use Rattle.ab_formulas.specs.NewNames.{Label, Names, NoName}
use Rattle.ab_formulas.specs.Sequents.{Sequent, assuming, proving}
use Rattle.ab_theory.specs.Conjuncts.{conjuncts, with_parts}
use Rattle.ab_theory.specs.Levels.{next_level}
use Rattle.ab_theory.specs.Row.{Row, labelled_each, Takes, FailsFirst}
use Rattle.ab_theory.specs.Rules.{Making, row}
use Rattle.ab_sequents.specs.Kinds.{level_by, signs_by, marked_by}
use Rattle.ab_sequents.specs.declared.levels.Kind.{Kind}
use Rattle.ab_sequents.specs.declared.levels.Kind.TheVariants.{Induction, Coinduction}
use Rattle.ab_rules.specs.SizeSteps.{Assumes, AssumesNot, same_by, smaller_by, step_by}

-- each hypothesis gets its name, or one doesn't

takes_each : (ls : List Label) (Fs : List Read) (s t : Sequent) (k : Sequent → Row) (qs : List Sequent) → Assumes ls Fs s t → Takes (k t) qs → Takes (labelled_each 3 ls Fs s k) qs
takes_each [] [] s t k qs e takes = subst (λ u. Takes (k u) qs) e takes
takes_each (l ∷ ls) (F ∷ Fs) s t k qs (name, u, is, rest) takes = (name, u, is, takes_each ls Fs (assuming name F u) t k qs rest takes)
takes_each [] (F ∷ Fs) s t k qs none takes = absurd none
takes_each (l ∷ ls) [] s t k qs none takes = absurd none

fails_each : (ls : List Label) (Fs : List Read) (s : Sequent) (k : Sequent → Row) → AssumesNot ls Fs s → FailsFirst (labelled_each 3 ls Fs s k) 3
fails_each [] [] s k none = absurd none
fails_each (l ∷ ls) (F ∷ Fs) s k (inl none) = inl (none, refl)
fails_each (l ∷ ls) (F ∷ Fs) s k (inr (name, u, is, rest)) = inr (name, u, is, fails_each ls Fs (assuming name F u) k rest)
fails_each [] (F ∷ Fs) s k one = inl (λ x. x, refl)
fails_each (l ∷ ls) [] s k one = inl (λ x. x, refl)

module _ (D : Declarations) (new : Making) (ns : List ℕ) (ls : List Label) (s : Sequent) where
  abbrev parts : List Read
  parts = conjuncts s.conclusion

  abbrev level : Kind → ℕ
  level k = next_level (level_by k) s

  abbrev smaller_parts : Kind → List Read
  smaller_parts k = marked_by k ns (smaller_by k (level k)) parts

  abbrev with_sizes : Kind → Sequent → Sequent
  with_sizes k t = proving (with_parts (marked_by k ns (same_by k (level k)) parts) s.conclusion) t

  pub no_shape : (k : Kind) → signs_by k D ns parts ≡ None → FailsFirst (row D new (step_by k ns ls) s) 1
  no_shape Induction e = inl (e, refl)
  no_shape Coinduction e = inl (e, refl)

  module _ (ms : List Sign) where
    pub has_marks : (k : Kind) → signs_by k D ns parts ≡ Some ms → ¬ All (λ m. m ≡ plain) ms → FailsFirst (row D new (step_by k ns ls) s) 2
    has_marks Induction e marked = inr (ms, e, inl (marked, refl))
    has_marks Coinduction e marked = inr (ms, e, inl (marked, refl))

    pub no_names : (k : Kind) → signs_by k D ns parts ≡ Some ms → All (λ m. m ≡ plain) ms → AssumesNot ls (smaller_parts k) s → FailsFirst (row D new (step_by k ns ls) s) 3
    no_names Induction e all none = inr (ms, e, inr (all, fails_each ls (smaller_parts Induction) s _ none))
    no_names Coinduction e all none = inr (ms, e, inr (all, fails_each ls (smaller_parts Coinduction) s _ none))

    pub gets_sizes : (k : Kind) (t : Sequent) → signs_by k D ns parts ≡ Some ms → All (λ m. m ≡ plain) ms → Assumes ls (smaller_parts k) s t → Takes (row D new (step_by k ns ls) s) (with_sizes k t ∷ [])
    gets_sizes Induction t e all named = (ms, e, (all, takes_each ls (smaller_parts Induction) s t _ _ named refl))
    gets_sizes Coinduction t e all named = (ms, e, (all, takes_each ls (smaller_parts Coinduction) s t _ _ named refl))

-- one hypothesis more, and what the labels and the formulas that are left do

pub next_item : {X Y : Type 0} (f : X → Y) (xs : List X) (i : ℕ) (x d : X) → i < length xs → x ≡ get_or xs i d → drop i (map f xs) ≡ f x ∷ drop (i + 1) (map f xs)
next_item f xs i x d l e =
    drop-map f i xs ∙ ap (map f) (drop_more xs i d l) ∙ ap (λ y. f y ∷ map f (drop (i + 1) xs)) (sym e) ∙ ap (λ ys. f x ∷ ys) (sym (drop-map f (i + 1) xs))

pub none_is_left : {X Y : Type 0} (f : X → Y) (xs : List X) (i : ℕ) → length xs ≤ i → drop i (map f xs) ≡ []
none_is_left f xs i l = drop-map f i xs ∙ ap (map f) (drop_all i xs l)

module _ (ls : List Label) (Fs : List Read) (s : Sequent) (l : Label) (more : List Label) (F : Read) (others : List Read) where
  pub too_many : ls ≡ l ∷ more → Fs ≡ [] → AssumesNot ls Fs s
  too_many e f = subst (λ ks. AssumesNot ks Fs s) (sym e) (subst (λ Gs. AssumesNot (l ∷ more) Gs s) (sym f) tt)

  pub too_few : ls ≡ [] → Fs ≡ F ∷ others → AssumesNot ls Fs s
  too_few e f = subst (λ ks. AssumesNot ks Fs s) (sym e) (subst (λ Gs. AssumesNot [] Gs s) (sym f) tt)

  module _ (e : ls ≡ l ∷ more) (f : Fs ≡ F ∷ others) where
    pub nameless : NoName l s → AssumesNot ls Fs s
    nameless none = subst (λ ks. AssumesNot ks Fs s) (sym e) (subst (λ Gs. AssumesNot (l ∷ more) Gs s) (sym f) (inl none))

    module _ (name : List ℕ) (u v : Sequent) (is : Names l s name u) (next : v ≡ assuming name F u) where
      pub assumes_more : (t : Sequent) → Assumes more others v t → Assumes ls Fs s t
      assumes_more t rest =
          subst (λ ks. Assumes ks Fs s t) (sym e) (subst (λ Gs. Assumes (l ∷ more) Gs s t) (sym f) (name, u, is, subst (λ r. Assumes more others r t) next rest))

      pub assumes_not_more : AssumesNot more others v → AssumesNot ls Fs s
      assumes_not_more rest =
          subst (λ ks. AssumesNot ks Fs s) (sym e) (subst (λ Gs. AssumesNot (l ∷ more) Gs s) (sym f) (inr (name, u, is, subst (AssumesNot more others) next rest)))
