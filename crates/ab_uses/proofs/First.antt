-- The first choice that may serve, in a list that stands before and behind others.
use Rattle.std.specs.List.{All}
use Rattle.std.proofs.Common.{◌≡◌, ℕ, List, [], ◌∷◌, ◌++◌, filter, length, Bool, true, false, cond, Result, Ok, Err, IfOk, refl, sym, ◌∙◌, ap, subst, append_assoc}
use Rattle.std.proofs.lemmas.Bool.{false≢true}
use Rattle.std.proofs.lemmas.List.Elements.{All-nil, All-cons, All-append, filter-append}
use Rattle.ab_term.specs.Terms.{Nominal}
use Rattle.ab_norm.specs.ab_types.specs.Entries.{Table}
use Rattle.ab_norm.specs.ab_store.specs.Trees.{Contents}
use Rattle.ab_unifiers.specs.Replacements.{Cell}
use Rattle.ab_unifiers.specs.Choices.{in_order}
use Rattle.ab_formulas.specs.Sequents.{goal_names}
use Rattle.ab_theory.specs.Splits.{NeverArises}
use Rattle.ab_theory.specs.Uses.{use_by}
use Rattle.ab_theory.specs.UseAnswers.{Using, case_by}
use Rattle.ab_uses.specs.ChoiceAnswers.{ComesOut}
use Rattle.ab_uses.specs.ChoiceTrials.{decides, stands_outside, NoneServes, IsFirstOf, FirstComesOut}
use Rattle.ab_uses.specs.declared.outcome.Outcome.{Outcome}
use Rattle.ab_uses.specs.declared.outcome.Outcome.TheVariants.{PassedOver, Apart, Stuck, Open, Used}
use Rattle.ab_consequences.proofs.Outside.{outside_numbered}

module _ (cells : List (Cell (List ℕ))) (u : Using) where
  abbrev Never : List Nominal → Type 0
  Never b = NeverArises (case_by cells u b)

  abbrev serves : List Nominal → Bool
  serves = stands_outside u

  pub none_of_none : NoneServes cells u []
  none_of_none = All-nil Never

  pub none_of_both : (xs ys : List (List Nominal)) → NoneServes cells u xs → NoneServes cells u ys → NoneServes cells u (xs ++ ys)
  none_of_both xs ys h k = subst (All Never) (sym (filter-append serves xs ys)) (All-append Never (filter serves xs) (filter serves ys) h k)

  -- the first of some is the first of all, where none before them can serve
  pub first_of_all : (xs ys zs : List (List Nominal)) (names : List Nominal) → NoneServes cells u xs → IsFirstOf cells u ys names → IsFirstOf cells u (xs ++ (ys ++ zs)) names
  first_of_all xs ys zs names none (before, after, e, never) = (
    filter serves xs ++ before,
    after ++ filter serves zs,
    filter-append serves xs (ys ++ zs)
        ∙ ap (λ l. filter serves xs ++ l) (filter-append serves ys zs ∙ ap (λ l. l ++ filter serves zs) e ∙ append_assoc before (names ∷ after) (filter serves zs))
        ∙ sym (append_assoc (filter serves xs) before (names ∷ (after ++ filter serves zs))),
    All-append Never (filter serves xs) before none never,
  )

  module _ (X : Table) (Y : Contents) where
    pub none_by : (list : List (List Nominal)) (o : Outcome) → decides o ≡ false → FirstComesOut cells u list X Y o → NoneServes cells u list
    none_by list PassedOver e c = c
    none_by list Apart e c = c
    none_by list (Stuck i) e c = absurd (false≢true (sym e))
    none_by list (Open x) e c = absurd (false≢true (sym e))
    none_by list (Used f) e c = absurd (false≢true (sym e))

    -- one that decides for some decides for all
    pub decides_all : (xs ys zs : List (List Nominal)) (o : Outcome) → decides o ≡ true → NoneServes cells u xs → FirstComesOut cells u ys X Y o → FirstComesOut cells u (xs ++ (ys ++ zs)) X Y o
    decides_all xs ys zs PassedOver e none c = absurd (false≢true e)
    decides_all xs ys zs Apart e none c = absurd (false≢true e)
    decides_all xs ys zs (Stuck i) e none c = (c.0, first_of_all xs ys zs c.0 none c.1, c.2)
    decides_all xs ys zs (Open x) e none c = (c.0, first_of_all xs ys zs c.0 none c.1, c.2)
    decides_all xs ys zs (Used f) e none c = (c.0, first_of_all xs ys zs c.0 none c.1, c.2)

    module _ (names : List Nominal) where
      numbered : (use_by u.goal (length cells) u.parts u.formula names).outside ≡ stands_outside u names
      numbered = outside_numbered (in_order (goal_names u.goal)) (length cells) 0 u.parts names u.formula u.formula refl

      alone : (use_by u.goal (length cells) u.parts u.formula names).outside ≡ true → IsFirstOf cells u (names ∷ []) names
      alone e = ([], [], ap (λ b. cond b (names ∷ []) []) (sym numbered ∙ e), All-nil Never)

      -- a single choice
      pub one_tried : (o : Outcome) → ComesOut cells u names X Y o → FirstComesOut cells u (names ∷ []) X Y o
      one_tried PassedOver c = subst (All Never) (sym (ap (λ b. cond b (names ∷ []) []) (sym numbered ∙ c))) (All-nil Never)
      one_tried Apart c = subst (All Never) (sym (ap (λ b. cond b (names ∷ []) []) (sym numbered ∙ c.0))) (All-cons Never names [] c.1 (All-nil Never))
      one_tried (Stuck i) c = (names, alone c.0, c)
      one_tried (Open x) c = (names, alone c.0, c)
      one_tried (Used f) c = (names, alone c.0, c)

-- what holds behind a choice that can't serve holds behind one that doesn't decide
pub where_none_decides : {E P : Type 0} (r : Result Outcome E) → (r ≡ Ok PassedOver → P) → (r ≡ Ok Apart → P) → IfOk r (λ o. decides o ≡ false → P)
where_none_decides (Err e) f g = tt
where_none_decides (Ok PassedOver) f g = λ e. f refl
where_none_decides (Ok Apart) f g = λ e. g refl
where_none_decides (Ok (Stuck i)) f g = λ e. absurd (false≢true (sym e))
where_none_decides (Ok (Open x)) f g = λ e. absurd (false≢true (sym e))
where_none_decides (Ok (Used u)) f g = λ e. absurd (false≢true (sym e))
