-- WHAT A RULE DEMANDS OF A JUDGEMENT IS WELL MADE: its equations are typed and over the variables that there are then, and what is
-- left is a formula over them, with the constants that there were.
use Rattle.std.proofs.Common.{◌≡◌, ◌⊎◌, inl, inr, ℕ, suc, List, [], ◌∷◌, ◌++◌, map, filter, codes, Bool, true, false, not, ◌&&◌, Some, None, refl, sym, ◌∙◌, ap, subst}
use Rattle.std.specs.Prelude.{All, Contains}
use Rattle.std.specs.List.{list_any}
use Rattle.std.proofs.lemmas.Bool.{false≢true}
use Rattle.ab_term.specs.Types.{Ty, prop, o, olist}
use Rattle.ab_term.specs.Terms as tree
use Rattle.ab_term.specs.Terms.{Nominal, Head, constant, logical, nominal, variable, index, lam, spine, Terms, no_terms, term, terms_of, Read}
use Rattle.ab_term.specs.Typing.{Signature, HasType, typed_lam, typed_spine, take_none, take_term}
use Rattle.ab_term.specs.Variables.{Substitution, variables, value_in, image, IsTyped}
use Rattle.ab_term.specs.Sameness.{same_number}
use Rattle.ab_term.proofs.Lists.{Contains-from_map, Contains-map}
use Rattle.ab_term.proofs.Closing.{close_typed}
use Rattle.ab_term.proofs.Compositions.{image_typed}
use Rattle.ab_term.proofs.Preservation.{here}
use Rattle.ab_unifiers.specs.Replacements.{Cell, holds, occurs}
use Rattle.ab_unifiers.specs.Unification.{Equation}
use Rattle.ab_unifiers.specs.Unifiers.{sides, AreTyped}
use Rattle.ab_unifiers.specs.Clauses.{Each, numbered, put_together}
use Rattle.ab_unifiers.specs.Alternatives.{made_over, made_terms}
use Rattle.ab_unifiers.specs.Member.{HasMember}
use Rattle.ab_unifiers.proofs.Agreeing.{contains_holds}
use Rattle.ab_unifiers.proofs.Choosing.{kept_contains, contains_kept}
use Rattle.ab_unifiers.proofs.Constants as names
use Rattle.ab_unifiers.proofs.Lifting.{made_terms_typed}
use Rattle.ab_unifiers.proofs.Rows.{each_any, found_has, found_none, nothing_found, together_typed}
use Rattle.ab_unifiers.proofs.Unifier.{made_have, made_over_vars, append-none}
use Rattle.ab_unifiers.proofs.Variables as variable_in
use Rattle.ab_formulas.specs.Formulas.{IsFormula}
use Rattle.ab_formulas.specs.Marks.{Sign}
use Rattle.ab_formulas.specs.Sequents.{Variable, in_terms}
use Rattle.ab_theory.specs.Splits.{cell_for}
use Rattle.ab_theory.specs.Unfolding.{exists_all}
use Rattle.ab_theory.specs.Opening.{both, open_goal, conjunction_from, conjunction_of}
use Rattle.ab_theory.specs.SpecRules.{Demand, stands_in_goals_alone, demand_by}
use Rattle.ab_theory.proofs.OpenedGoals.{opened_formula}
use Rattle.ab_theory.proofs.Demands.{by_stands}
use Rattle.ab_theory.proofs.Known.{Known, AllKnown, known_conjunction, known_exist_all, known_image}

-- typed, and known
pub record IsKnown (sg : Signature) (P : tree.Variable ℕ → Type 0) (M : List Nominal) (A : Ty) (t : Read) : Type 0 where
  pub typed : HasType sg [] t A
  pub known : Known P M t

abbrev pub AllGoals : Signature → (tree.Variable ℕ → Type 0) → List Nominal → List Read → Type 0
AllGoals sg P M [] = Unit {0}
AllGoals sg P M (G ∷ Gs) = IsKnown sg P M o G × AllGoals sg P M Gs

pub all_known : (sg : Signature) (P : tree.Variable ℕ → Type 0) (M : List Nominal) (Gs : List Read) → AllGoals sg P M Gs → AllKnown P M Gs
all_known sg P M [] a = tt
all_known sg P M (G ∷ Gs) a = ((a.0).known, all_known sg P M Gs a.1)

-- each variable of the term is such a one
abbrev pub Over : (tree.Variable ℕ → Type 0) → Read → Type 0
Over Q t = (y : tree.Variable ℕ) → Contains (variables t) y → Q y

-- the equations are typed, and the body is a formula, all over such variables
pub record IsWellMade (sg : Signature) (Q : tree.Variable ℕ → Type 0) (M : List Nominal) (d : Demand) : Type 0 where
  pub typed : AreTyped sg d.equations
  pub over : All (Over Q) (sides d.equations)
  pub formula : IsFormula sg d.body
  pub body : Known Q M d.body

both_false : (x y : Bool) → y ≡ true → (x && not y) ≡ true → ⊥
both_false true true p q = false≢true q
both_false true false p q = false≢true p
both_false false y p q = false≢true q

-- keys for terms that were numbered

rekey : (R : Read → Type 0) (ys : List Variable) (n : ℕ) (ts : List Read) → Each (λ (y : tree.Variable ℕ) t. R t) (numbered n (map cell_for ys)) ts → Each (λ (y : tree.Variable ℕ) t. R t) (map in_terms ys) ts
rekey R [] n [] e = tt
rekey R [] n (t ∷ ts) e = absurd e
rekey R (y ∷ ys) n [] e = absurd e
rekey R (y ∷ ys) n (t ∷ ts) e = (e.0, rekey R ys (suc n) ts e.1)

rekey_typed : (sg : Signature) (ys : List Variable) (ts : List Read) → Each (λ (c : Cell (List ℕ)) t. HasType sg [] t c.type) (map cell_for ys) ts → Each (λ (y : tree.Variable ℕ) t. HasType sg [] t y.type) (map in_terms ys) ts
rekey_typed sg [] [] e = tt
rekey_typed sg [] (t ∷ ts) e = absurd e
rekey_typed sg (y ∷ ys) [] e = absurd e
rekey_typed sg (y ∷ ys) (t ∷ ts) e = (e.0, rekey_typed sg ys ts e.1)

pub exist_all_typed : (sg : Signature) (ys : List Variable) (F : Read) → HasType sg [] F prop → HasType sg [] (exists_all ys F) prop
exist_all_typed sg [] F d = d
exist_all_typed sg (y ∷ ys) F d = typed_spine refl (take_term (typed_lam (close_typed sg (variable (in_terms y)) here refl (exist_all_typed sg ys F d))) take_none)

module _ (sg : Signature) (has : HasMember sg) where
  both_typed : (E F : Read) → HasType sg [] E prop → HasType sg [] F prop → HasType sg [] (both E F) prop
  both_typed E F d e = typed_spine refl (take_term d (take_term e take_none))

  conjoined_typed : (P : tree.Variable ℕ → Type 0) (M : List Nominal) (m : Sign) (L F : Read) (Gs : List Read) → HasType sg [] L olist → HasType sg [] F prop → AllGoals sg P M Gs → HasType sg [] (conjunction_from F (map (open_goal m L) Gs)) prop
  conjoined_typed P M m L F [] l d a = d
  conjoined_typed P M m L F (G ∷ Gs) l d a = conjoined_typed P M m L (both F (open_goal m L G)) Gs l (both_typed F (open_goal m L G) d (opened_formula sg has.cons m [] L G l (a.0).typed).typed) a.1

  conjunction_typed : (P : tree.Variable ℕ → Type 0) (M : List Nominal) (m : Sign) (L : Read) (Gs : List Read) → HasType sg [] L olist → AllGoals sg P M Gs → HasType sg [] (conjunction_of (map (open_goal m L) Gs)) prop
  conjunction_typed P M m L [] l a = typed_spine refl take_none
  conjunction_typed P M m L (G ∷ Gs) l a = conjoined_typed P M m L (open_goal m L G) Gs l (opened_formula sg has.cons m [] L G l (a.0).typed).typed a.1

  -- OF NAMES, which are these variables: there were such variables, and there are such then
  module _ (P Q : tree.Variable ℕ → Type 0) (n : ℕ) (ps : List (Cell (List ℕ))) (M S : List Nominal) (within : (a : Nominal) → Contains S a → Contains M a) (ys : List Variable) where
    -- a variable that there was, or one of these
    abbrev pub InScope : tree.Variable ℕ → Type 0
    InScope z = P z ⊎ Contains (map in_terms ys) z

    module _ (m : Sign) (L A : Read) (Gs : List Read) (l : IsKnown sg P M olist L) (a : IsKnown sg InScope M o A) (gs : AllGoals sg InScope M Gs) where
      abbrev Alone : Variable → Bool
      Alone = stands_in_goals_alone A Gs

      abbrev Own : List Variable
      Own = filter (λ y. not (Alone y)) ys

      abbrev Closed : List Variable
      Closed = filter Alone ys

      abbrev Made : List Read
      Made = made_terms (codes "x") n S (map cell_for Own)

      abbrev pub New : Substitution ℕ (List ℕ)
      New = put_together (map in_terms Own) Made

      typed_each : Each (λ (y : tree.Variable ℕ) t. HasType sg [] t y.type) (map in_terms Own) Made
      typed_each = rekey_typed sg Own Made (made_terms_typed sg (codes "x") n S (map cell_for Own))

      pub new_typed : IsTyped sg New
      new_typed = together_typed sg (map in_terms Own) Made typed_each

      any_each : Each (λ (y : tree.Variable ℕ) (t : Read). Unit {0}) (map in_terms Own) Made
      any_each = each_any (λ (y : tree.Variable ℕ) t. HasType sg [] t y.type) (map in_terms Own) Made typed_each

      module _ (old_kept : (z : tree.Variable ℕ) → P z → Q z) (new_kept : (z : tree.Variable ℕ) → holds (made_over (codes "x") n S (map cell_for Own)) z ≡ true → Q z) where
        known_each : (y : tree.Variable ℕ) (u : Read) → value_in same_number New y ≡ Some u → Known Q M u
        known_each y u e =
            let there : value_in same_number (New ++ []) y ≡ Some u = ap (λ s. value_in same_number s y) (append-none New) ∙ e in
            let over : variable_in.Has Q u = found_has (variable_in.Has Q) (map in_terms Own) Made [] (rekey (variable_in.Has Q) Own 0 Made (made_over_vars sg (codes "x") Q 0 n S (map cell_for Own) new_kept)) (nothing_found (variable_in.Has Q)) y u there in
            let named : names.Has (Contains M) u = found_has (names.Has (Contains M)) (map in_terms Own) Made [] (rekey (names.Has (Contains M)) Own 0 Made (made_have sg (codes "x") (Contains M) 0 n S (map cell_for Own) within)) (nothing_found (names.Has (Contains M))) y u there in
            record {
              over = λ z c. variable_in.has_held Q u over z (contains_holds (variables u) z c);
              names = λ n c. names.has_support (Contains M) u named n c;
            }

        -- a variable that there was, or one of those that become new ones
        abbrev Left : tree.Variable ℕ → Type 0
        Left z = P z ⊎ Contains (map in_terms Own) z

        stays : (z : tree.Variable ℕ) → value_in same_number New z ≡ None → Left z → Q z
        stays z e (inl c) = old_kept z c
        stays z e (inr c) =
            let none = found_none (map in_terms Own) Made [] any_each z (ap (λ s. value_in same_number s z) (append-none New) ∙ e) in
            absurd (false≢true (sym none.0 ∙ contains_holds (map in_terms Own) z c))

        pub image_known : (t : Read) → Known Left M t → Known Q M (image same_number New t)
        image_known t k = known_image Left Q M (value_in same_number New) known_each stays t k

        -- each of the names is closed, or becomes a new variable
        apart : (v : Variable) → Contains ys v → (Contains Closed v) ⊎ ((Alone v ≡ false) × Contains Own v)
        apart v c = go (Alone v) refl
          where
            go : (b : Bool) → Alone v ≡ b → (Contains Closed v) ⊎ ((Alone v ≡ false) × Contains Own v)
            go true e = inl (kept_contains Alone ys v c e)
            go false e = inr (e, kept_contains (λ y. not (Alone y)) ys v c (ap not e))

        -- those of the atom become new ones
        pub atom_left : Known Left M A
        atom_left = record {
          over = λ z c. elim (a.known.over z c) [
            | inl k ↦ inl k
            | inr k ↦ inr (of_atom z c (Contains-from_map in_terms ys z k))
          ];
          names = a.known.names;
        }
          where
            not_closed : (v : Variable) → Contains (variables A) (in_terms v) → Alone v ≡ true → ⊥
            not_closed v c e = both_false (list_any (occurs (in_terms v)) Gs) (occurs (in_terms v) A) (contains_holds (variables A) (in_terms v) c) e

            closed_alone : (v : Variable) → Contains Closed v → Alone v ≡ true
            closed_alone v c = (contains_kept Alone ys v c).1

            of_atom : (z : tree.Variable ℕ) → Contains (variables A) z → (v : Variable) × Contains ys v × (in_terms v ≡ z) → Contains (map in_terms Own) z
            of_atom z c w = elim (apart w.0 w.1) [
              | inl k ↦ absurd (not_closed w.0 (subst (Contains (variables A)) (sym w.2) c) (closed_alone w.0 k))
              | inr k ↦ subst (Contains (map in_terms Own)) w.2 (Contains-map in_terms Own w.0 k.1)
            ]

        abbrev Goals : Read
        Goals = conjunction_of (map (open_goal m L) Gs)

        goals_known : Known (λ z. Left z ⊎ Contains (map in_terms Closed) z) M Goals
        goals_known =
            let k = known_conjunction InScope M m L Gs (record { over = λ z c. inl (l.known.over z c); names = l.known.names }) (all_known sg InScope M Gs gs) in
            record {
              over = λ z c. elim (k.over z c) [
                | inl p ↦ inl (inl p)
                | inr p ↦ (let w = Contains-from_map in_terms ys z p in elim (apart w.0 w.1) [
                  | inl q ↦ inr (subst (Contains (map in_terms Closed)) w.2 (Contains-map in_terms Closed w.0 q))
                  | inr q ↦ inl (inr (subst (Contains (map in_terms Own)) w.2 (Contains-map in_terms Own w.0 q.1)))
                ])
              ];
              names = k.names;
            }

        pub well_made : (e : Substitution ℕ (List ℕ) → List (Equation (List ℕ))) → AreTyped sg (e New) → All (Over Q) (sides (e New)) → IsWellMade sg Q M (demand_by n S m L ps ys A Gs e)
        well_made e typed over = record {
          typed = typed;
          over = over;
          formula = record {
            typed = image_typed sg same_number New new_typed (exist_all_typed sg Closed Goals (conjunction_typed InScope M m L Gs l.typed gs));
            stands = by_stands n S m L ps ys A Gs e;
          };
          body = image_known (exists_all Closed Goals) (known_exist_all Left M Closed Goals goals_known);
        }
