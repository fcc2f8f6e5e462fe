-- A judgement, as it is written; and what is known of its parts where it is a formula of a goal.
use Rattle.std.proofs.Common.{◌≡◌, ◌≢◌, ℕ, List, [], ◌∷◌, map, Bool, true, false, ◌||◌, Option, Some, None, refl, sym, ◌∙◌, ap, subst}
use Rattle.std.specs.Prelude.{All, AllPairs, Contains}
use Rattle.std.proofs.lemmas.List.Elements.{All-head, All-tail, All-contains}
use Rattle.ab_term.specs.Types.{prop, arrow}
use Rattle.ab_term.specs.Logical.{judgement, focused_judgement}
use Rattle.ab_term.specs.Terms as tree
use Rattle.ab_term.specs.Terms.{Nominal, constant, logical, nominal, variable, index, lam, spine, Terms, no_terms, term, Read}
use Rattle.ab_term.specs.Typing.{Signature, HasType, typed_spine, take_none, take_term}
use Rattle.ab_term.specs.Names.{support}
use Rattle.ab_term.specs.Variables.{variables}
use Rattle.ab_term.specs.Sameness.{same_numbered}
use Rattle.ab_term.proofs.Lists.{AllPairs-parts}
use Rattle.ab_term.proofs.Same.{same_numbered-Decides}
use Rattle.ab_unifiers.specs.Replacements.{Cell, holds}
use Rattle.ab_unifiers.specs.Unifiers.{AreDifferent, AreKnown}
use Rattle.ab_unifiers.specs.Clauses.{Within}
use Rattle.ab_unifiers.proofs.Agreeing.{contains_holds}
use Rattle.ab_unifiers.proofs.Variables.{holds_contains}
use Rattle.ab_formulas.specs.Forms as forms
use Rattle.ab_formulas.specs.Forms.{Form, form_of}
use Rattle.ab_formulas.specs.Marks.{Sign, plain, star_of, at_of, plus_of, hash_of}
use Rattle.ab_formulas.specs.BodyMarks.{with_mark}
use Rattle.ab_formulas.specs.Declarations.{Declarations, signature_in}
use Rattle.ab_formulas.specs.Sequents.{Variable, Sequent, IsSequent, formula_of, goal_names, in_terms}
use Rattle.ab_theory.specs.Equations.{AreCells}
use Rattle.ab_theory.specs.Judgements.{Judgement, judgement_as, judgement_in, as_judgement}
use Rattle.ab_theory.proofs.Marked.{with_mark_support, with_mark_variables}
use Rattle.ab_theory.proofs.Raised.{known_there}
use Rattle.ab_theory.proofs.Sequents.{goal_of, found_may}
use Rattle.ab_theory.proofs.Sized.{marked_form}
use Rattle.ab_coverage.proofs.IndexedGoals.{judged, focused}

abbrev pub written_by : Option Read → Read → Read → Read
written_by None L G = judged L G
written_by (Some F) L A = focused L F A

-- without its mark
abbrev pub written : Judgement → Read
written j = written_by j.focus j.context j.goal

read_as : (m : Sign) (t : Read) (j : Judgement) → judgement_as m t ≡ Some j → t ≡ written j
read_as m (spine (logical judgement) (term L (term G no_terms))) j e =
    let same : record { sign = m; context = L; focus = None; goal = G } ≡ j = cc in
    subst (λ (k : Judgement). spine (logical judgement) (term L (term G no_terms)) ≡ written k) same refl
read_as m (spine (logical focused_judgement) (term L (term F (term A no_terms)))) j e =
    let same : record { sign = m; context = L; focus = Some F; goal = A } ≡ j = cc in
    subst (λ (k : Judgement). spine (logical focused_judgement) (term L (term F (term A no_terms))) ≡ written k) same refl
read_as m t j e = absurd (let bad : None ≡ Some j = e in cc)

read_in : (f : Form) (F : Read) (j : Judgement) → form_of F ≡ f → judgement_in f F ≡ Some j → (m : Sign) × (F ≡ with_mark m (written j))
read_in (forms.marked m t) F j e h = (m, (marked_form F m t e).0 ∙ ap (with_mark m) (read_as m t j h))
read_in forms.other F j e h = (plain, read_as plain F j h)
read_in forms.truth F j e h = absurd (let bad : None ≡ Some j = h in cc)
read_in forms.falsity F j e h = absurd (let bad : None ≡ Some j = h in cc)
read_in (forms.both A B) F j e h = absurd (let bad : None ≡ Some j = h in cc)
read_in (forms.either A B) F j e h = absurd (let bad : None ≡ Some j = h in cc)
read_in (forms.implies A B) F j e h = absurd (let bad : None ≡ Some j = h in cc)
read_in (forms.equal A t u) F j e h = absurd (let bad : None ≡ Some j = h in cc)
read_in (forms.for_all A t) F j e h = absurd (let bad : None ≡ Some j = h in cc)
read_in (forms.exists A t) F j e h = absurd (let bad : None ≡ Some j = h in cc)
read_in (forms.nabla A t) F j e h = absurd (let bad : None ≡ Some j = h in cc)

pub judgement_read : (F : Read) (j : Judgement) → as_judgement F ≡ Some j → (m : Sign) × (F ≡ with_mark m (written j))
judgement_read F j e = read_in (form_of F) F j refl e

-- the mark taken off

pub unmarked_typed : (sg : Signature) (m : Sign) (t : Read) → HasType sg [] (with_mark m t) prop → HasType sg [] t prop
unmarked_typed sg plain t d = d
unmarked_typed sg (star_of i) t (typed_spine e (take_term {A = A} d take_none)) = let same : Some (arrow A prop) ≡ Some (arrow prop prop) = sym e in let one : A ≡ prop = cc in subst (HasType sg [] t) one d
unmarked_typed sg (at_of i) t (typed_spine e (take_term {A = A} d take_none)) = let same : Some (arrow A prop) ≡ Some (arrow prop prop) = sym e in let one : A ≡ prop = cc in subst (HasType sg [] t) one d
unmarked_typed sg (plus_of i) t (typed_spine e (take_term {A = A} d take_none)) = let same : Some (arrow A prop) ≡ Some (arrow prop prop) = sym e in let one : A ≡ prop = cc in subst (HasType sg [] t) one d
unmarked_typed sg (hash_of i) t (typed_spine e (take_term {A = A} d take_none)) = let same : Some (arrow A prop) ≡ Some (arrow prop prop) = sym e in let one : A ≡ prop = cc in subst (HasType sg [] t) one d

-- of a goal's judgement
pub record IsThere (sg : Signature) (s : Sequent) (t : Read) : Type 0 where
  pub typed : HasType sg [] t prop
  pub over_variables : Within (variables t) (map in_terms s.variables)
  pub constants_held : (a : Nominal) → Contains (support t) a → Contains (goal_names s) a

module _ (D : Declarations) (s : Sequent) (is : IsSequent D s) where
  pub judgement_there : (H : List ℕ) (F : Read) (j : Judgement) → formula_of s H ≡ Some F → as_judgement F ≡ Some j → IsThere (signature_in D) s (written j)
  judgement_there H F j e is_j =
      let may = found_may D (goal_names s) s H F (goal_of D s is) e in
      let read = judgement_read F j is_j in
      let m = read.0 in
      record {
        typed = unmarked_typed (signature_in D) m (written j) (subst (λ t. HasType (signature_in D) [] t prop) read.1 may.formula.typed);
        over_variables = λ y h. contains_holds (map in_terms s.variables) y (All-contains (Contains (map in_terms s.variables)) (variables F) y may.closed
            (subst (λ t. Contains (variables t) y) (sym read.1) (subst (λ l. Contains l y) (sym (with_mark_variables m (written j))) (holds_contains (variables (written j)) y h))));
        constants_held = λ a n. may.names a (subst (λ t. Contains (support t) a) (sym read.1) (subst (λ l. Contains l a) (sym (with_mark_support m (written j))) n));
      }

  -- the goal's variables are different
  none_same : (x : Variable) (ys : List Variable) → All (λ (y : Variable). x.number ≢ y.number) ys → holds (map in_terms ys) (in_terms x) ≡ false
  none_same x [] all = refl
  none_same x (y ∷ ys) all = go (same_numbered (in_terms y) (in_terms x)) refl (none_same x ys (All-tail (λ (z : Variable). x.number ≢ z.number) y ys all))
    where
      go : (b : Bool) → same_numbered (in_terms y) (in_terms x) ≡ b → holds (map in_terms ys) (in_terms x) ≡ false → (b || holds (map in_terms ys) (in_terms x)) ≡ false
      go true e rest = absurd (All-head (λ (z : Variable). x.number ≢ z.number) y ys all (ap (λ (v : tree.Variable ℕ). v.name) (sym ((same_numbered-Decides (in_terms y) (in_terms x)).0 e))))
      go false e rest = rest

  different_in : (xs : List Variable) → AllPairs (λ (x y : Variable). x.number ≢ y.number) xs → AreDifferent (map in_terms xs)
  different_in [] d = tt
  different_in (x ∷ xs) d = let parts = AllPairs-parts (λ (x y : Variable). x.number ≢ y.number) x xs d in (none_same x xs parts.0, different_in xs parts.1)

  pub variables_differ : AreDifferent (map in_terms s.variables)
  variables_differ = different_in s.variables is.numbers_differ

  pub cells_known : (cells : List (Cell (List ℕ))) → AreCells cells s → AreKnown cells (map in_terms s.variables)
  cells_known cells are = known_there cells s.variables are
