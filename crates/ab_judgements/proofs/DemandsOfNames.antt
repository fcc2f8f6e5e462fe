-- WHAT IS DEMANDED OF NAMES, under binders for all of them: the body that is put together with what stands in, and the sides of equations.
use Rattle.std.proofs.Common.{◌≡◌, ℕ, suc, ◌+◌, inl, inr, List, [], ◌∷◌, map, length, filter, Bool, true, false, not, ◌&&◌, Some, codes, refl, sym, ◌∙◌, ap, subst}
use Rattle.std.specs.Prelude.{Contains}
use Rattle.std.specs.List.{list_any}
use Rattle.std.proofs.lemmas.Bool.{false≢true}
use Rattle.ab_term.specs.Types.{o, olist}
use Rattle.ab_term.specs.Terms as tree
use Rattle.ab_term.specs.Terms.{Nominal, Read}
use Rattle.ab_term.specs.Typing.{Signature, HasType}
use Rattle.ab_term.specs.Substitution.{instance_by_all}
use Rattle.ab_term.specs.Variables.{Substitution, variables, value_in, image}
use Rattle.ab_term.specs.Sameness.{same_number}
use Rattle.ab_term.proofs.Compositions.{map_typed}
use Rattle.ab_term.proofs.Lists.{Contains-none, Contains-cases}
use Rattle.ab_term.proofs.Images.{closed_map}
use Rattle.ab_unifiers.specs.Replacements.{Cell, occurs}
use Rattle.ab_unifiers.specs.Unification.{Equation}
use Rattle.ab_unifiers.specs.Clauses.{Each, put_together}
use Rattle.ab_unifiers.specs.Alternatives.{cells_over, made_terms}
use Rattle.ab_unifiers.proofs.Agreeing.{contains_holds}
use Rattle.ab_unifiers.proofs.Rows.{found_has, nothing_found}
use Rattle.ab_unifiers.proofs.Unifier.{append-none}
use Rattle.ab_formulas.specs.Marks.{Sign}
use Rattle.ab_formulas.specs.Sequents.{Variable, in_terms}
use Rattle.ab_theory.specs.Equations.{variables_from}
use Rattle.ab_theory.specs.Splits.{cell_for}
use Rattle.ab_theory.specs.Unfolding.{exists_all}
use Rattle.ab_theory.specs.Opening.{open_goal, conjunction_of}
use Rattle.ab_theory.specs.SpecRules.{Demand, demand_by, stands_in_goals_alone}
use Rattle.ab_judgement_forms.specs.DemandWalks.{chosen, stand_ins, exists_names, body_with}
use Rattle.ab_judgement_forms.proofs.ClosedInTurn.{closed_all, names_above, closed_all_typed}
use Rattle.ab_judgements.proofs.GoalsThrough.{IsLoose, expansion_loose, goal_openable, AllOpenable, body_through}
use Rattle.ab_judgement_forms.proofs.StandIns as stand
use Rattle.ab_judgement_forms.proofs.StandIns.{IsBelow, IsScope, AllScopes, kept_chosen, dropped_chosen, chosen_cells}

-- what is made are variables, given constants
made_loose : (k : ℕ) (S : List Nominal) (ys : List Variable) → Each (λ (y : tree.Variable ℕ) t. IsLoose t) (map in_terms ys) (made_terms (codes "x") k S (map cell_for ys))
made_loose k S [] = tt
made_loose k S (y ∷ ys) = (expansion_loose (codes "x") y.type _ _, made_loose (suc k) S ys)

-- one that is closed doesn't stand in the atom
abbrev pub AreAlone : Read → List Variable → Type 0
AreAlone A ys = (y : Variable) → Contains ys y → ¬ Contains (variables A) (in_terms y)

chosen_true : (p : Variable → Bool) (ys : List Variable) (y : Variable) → Contains (chosen (map p ys) ys) y → p y ≡ true
chosen_true p [] y m = absurd (Contains-none y m)
chosen_true p (z ∷ ys) y m = go (p z) refl m (chosen_true p ys y)
  where
    go : (b : Bool) → p z ≡ b → Contains (chosen (b ∷ map p ys) (z ∷ ys)) y → (Contains (chosen (map p ys) ys) y → p y ≡ true) → p y ≡ true
    go true e k rest = elim (Contains-cases z (chosen (map p ys) ys) y k) [
      | inl f ↦ subst (λ w. p w ≡ true) f e
      | inr c ↦ rest c
    ]
    go false e k rest = rest k

both_false : (a b : Bool) → b ≡ true → (a && not b) ≡ true → ⊥
both_false true true p q = false≢true q
both_false true false p q = false≢true p
both_false false b p q = false≢true q

pub alone_are : (A : Read) (Gs : List Read) (ys : List Variable) → AreAlone A (chosen (map (stands_in_goals_alone A Gs) ys) ys)
alone_are A Gs ys y m c = both_false (list_any (occurs (in_terms y)) Gs) (occurs (in_terms y) A) (contains_holds (variables A) (in_terms y) c) (chosen_true (stands_in_goals_alone A Gs) ys y m)

bits_length : (p : Variable → Bool) (n : ℕ) (cs : List (Cell (List ℕ))) → length (map p (variables_from n cs)) ≡ length cs
bits_length p n [] = refl
bits_length p n (c ∷ cs) = ap suc (bits_length p (n + 1) cs)

module _ (sg : Signature) (n k : ℕ) (S : List Nominal) (m : Sign) (L : Read) (L_typed : HasType sg [] L olist) (L_below : IsBelow n L) (cs : List (Cell (List ℕ))) where
  abbrev Ys : List Variable
  Ys = variables_from n cs

  module _ (bs : List Bool) (count : length bs ≡ length cs) where
    abbrev New : Substitution ℕ (List ℕ)
    New = stand.New sg n k S cs bs count

    abbrev Put : Read → Read
    Put M = instance_by_all M (stand.Us sg n k S cs bs count)

    loose : (y : tree.Variable ℕ) (u : Read) → value_in same_number New y ≡ Some u → IsLoose u
    loose y u e = found_has IsLoose (map in_terms (stand.Own sg n k S cs bs count)) (stand.Made sg n k S cs bs count) [] (made_loose k S (stand.Own sg n k S cs bs count)) (nothing_found IsLoose) y u
        (ap (λ s. value_in same_number s y) (append-none New) ∙ e)

    openable : (Ms : List Read) → AllScopes sg n cs Ms → AllOpenable (stand.Closed sg n k S cs bs count) (map Put Ms)
    openable [] a = tt
    openable (M ∷ Ms) a =
        let Z = stand.Closed sg n k S cs bs count in
        (goal_openable sg (names_above Z) (closed_all Z (Put M)) o (closed_all_typed sg Z (stand.put_typed sg n k S cs bs count M (a.0).0)), openable Ms a.1)

    opened_in : (Ms : List Read) → AllScopes sg n cs Ms → map (λ G. open_goal m (stand.through sg n k S cs bs count L) (stand.through sg n k S cs bs count G)) (map Put Ms)
        ≡ map (λ M. open_goal m L (instance_by_all M (stand_ins bs cs (stand.Made sg n k S cs bs count)))) Ms
    opened_in [] a = refl
    opened_in (M ∷ Ms) a =
        let t = stand.through sg n k S cs bs count in
        ap (λ K. open_goal m K (t (Put M)) ∷ map (λ G. open_goal m (t L) (t G)) (map Put Ms)) (stand.stays sg n k S cs bs count L L_typed L_below)
        ∙ ap (λ G. open_goal m L G ∷ map (λ G. open_goal m (t L) (t G)) (map Put Ms)) (stand.stands_in sg n k S cs bs count M a.0)
        ∙ ap (λ l. open_goal m L (instance_by_all M (stand_ins bs cs (stand.Made sg n k S cs bs count))) ∷ l) (opened_in Ms a.1)

    body_in : (Ms : List Read) → AllScopes sg n cs Ms
        → image same_number New (exists_all (stand.Closed sg n k S cs bs count) (conjunction_of (map (open_goal m L) (map Put Ms)))) ≡ body_with m L bs cs (stand.Made sg n k S cs bs count) Ms
    body_in Ms a =
        let Z = stand.Closed sg n k S cs bs count in
        body_through (value_in same_number New) (closed_map sg ℕ (List ℕ) (value_in same_number New) (map_typed sg same_number New (stand.new_typed sg n k S cs bs count))) loose Z m L (map Put Ms) (openable Ms a)
        ∙ ap (exists_names (map cell_for Z)) (ap conjunction_of (opened_in Ms a))
        ∙ ap (λ l. exists_names l (conjunction_of (map (λ M. open_goal m L (instance_by_all M (stand_ins bs cs (stand.Made sg n k S cs bs count)))) Ms))) (chosen_cells bs n cs)

    made_is : stand.Made sg n k S cs bs count ≡ made_terms (codes "x") k S (chosen (map not bs) cs)
    made_is = ap (made_terms (codes "x") k S) (chosen_cells (map not bs) n cs)

  -- DEMANDED
  module _ (ps : List (Cell (List ℕ))) (A : Read) (Gs : List Read) (e : Substitution ℕ (List ℕ) → List (Equation (List ℕ))) where
    abbrev its : Demand
    its = demand_by k S m L ps Ys A Gs e

    abbrev pub bits : List Bool
    bits = map (stands_in_goals_alone A Gs) Ys

    pub count_is : length bits ≡ length cs
    count_is = bits_length (stands_in_goals_alone A Gs) n cs

    own_is : filter (λ y. not (stands_in_goals_alone A Gs y)) Ys ≡ chosen (map not bits) Ys
    own_is = dropped_chosen (stands_in_goals_alone A Gs) Ys

    closed_is : filter (stands_in_goals_alone A Gs) Ys ≡ chosen bits Ys
    closed_is = kept_chosen (stands_in_goals_alone A Gs) Ys

    abbrev new_of : List Variable → Substitution ℕ (List ℕ)
    new_of own = put_together (map in_terms own) (made_terms (codes "x") k S (map cell_for own))

    pub own_demanded : its.own ≡ cells_over (codes "x") S (chosen (map not bits) cs)
    own_demanded = ap (λ l. cells_over (codes "x") S (map cell_for l)) own_is ∙ ap (cells_over (codes "x") S) (chosen_cells (map not bits) n cs)

    pub body_demanded : (Ms : List Read) → AllScopes sg n cs Ms → Gs ≡ map (λ M. instance_by_all M (stand.Us sg n k S cs bits count_is)) Ms → its.body ≡ body_with m L bits cs (made_terms (codes "x") k S (chosen (map not bits) cs)) Ms
    body_demanded Ms a same =
        ap (λ own. image same_number (new_of own) (exists_all (filter (stands_in_goals_alone A Gs) Ys) (conjunction_of (map (open_goal m L) Gs)))) own_is
        ∙ ap (λ l. image same_number (new_of (chosen (map not bits) Ys)) (exists_all l (conjunction_of (map (open_goal m L) Gs)))) closed_is
        ∙ ap (λ l. image same_number (new_of (chosen (map not bits) Ys)) (exists_all (chosen bits Ys) (conjunction_of (map (open_goal m L) l)))) same
        ∙ body_in bits count_is Ms a
        ∙ ap (λ l. body_with m L bits cs l Ms) (made_is bits count_is)

    -- the atom, where it stands under these binders
    pub atom_demanded : (M : Read) → IsScope sg n cs M → A ≡ instance_by_all M (stand.Us sg n k S cs bits count_is)
        → image same_number (new_of (filter (λ y. not (stands_in_goals_alone A Gs y)) Ys)) A ≡ instance_by_all M (stand_ins bits cs (made_terms (codes "x") k S (chosen (map not bits) cs)))
    atom_demanded M d same =
        ap (λ own. image same_number (new_of own) A) own_is
        ∙ stand.side_in sg n k S cs bits count_is A (subst (λ t. HasType sg [] t o) (sym same) (stand.put_typed sg n k S cs bits count_is M d.0)) (alone_are A Gs Ys)
        ∙ ap (stand.through sg n k S cs bits count_is) same
        ∙ stand.stands_in sg n k S cs bits count_is M d
        ∙ ap (λ l. instance_by_all M (stand_ins bits cs l)) (made_is bits count_is)
