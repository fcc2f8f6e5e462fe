-- THE FORMULAS OF A GOAL THAT ARISES hold the names of variables that were made. These names come off: what a substitution makes of a
-- formula under the answer, another makes of the goal's own formula.
use Rattle.std.proofs.Common.{◌≡◌, ℕ, zero, suc, ◌+◌, ◌≤◌, ◌<◌, List, [], ◌∷◌, ◌++◌, map, length, Bool, true, false, cond, ◌||◌, codes, Option, Some, None, option_map, refl, sym, ◌∙◌, ap, subst, arith, length-append, append_assoc}
use Rattle.std.specs.Prelude.{All, Contains, slice_get}
use Rattle.std.proofs.lemmas.Bool.{or_parts, false≢true, false_from_ne_true}
use Rattle.std.proofs.lemmas.List.Elements.{All-nil, All-cons, All-head, All-tail, All-contains, All-append}
use Rattle.ab_term.specs.Types.{Ty}
use Rattle.ab_term.specs.Terms as tree
use Rattle.ab_term.specs.Terms.{variable, no_terms, Read}
use Rattle.ab_term.specs.Typing.{Signature, HasType}
use Rattle.ab_term.specs.Translation.{forget, EqualPastHints}
use Rattle.ab_term.specs.Variables.{Substitution, variables, value_in, image, image_by, IsTyped}
use Rattle.ab_term.specs.Sameness.{same_number, same_numbered}
use Rattle.ab_term.proofs.Compositions.{image_typed}
use Rattle.ab_term.proofs.Depends.{image_agrees, image_unmoved}
use Rattle.ab_term.proofs.Expansions.{expansion_typed}
use Rattle.ab_term.proofs.Lists.{Contains-none, Contains-cases, Contains-from_map}
use Rattle.ab_term.proofs.Same.{same_numbered-Decides}
use Rattle.ab_term.proofs.Stands.{either, variables-expansion_of, variables-image}
use Rattle.ab_unifiers.specs.Replacements.{Cell, holds}
use Rattle.ab_unifiers.specs.Unification.{Equation, unified, Solves}
use Rattle.ab_unifiers.specs.Unifiers.{AreKnown, AreTyped, IsCell, HoldsCells, AllHoldCells, sides}
use Rattle.ab_unifiers.specs.Clauses.{Each, put_together}
use Rattle.ab_unifiers.proofs.Cells.{Grows, answer_cells, cell_kept}
use Rattle.ab_unifiers.proofs.Covered.{found_of_all}
use Rattle.ab_unifiers.proofs.Lifting.{Same, own_value, two_agree}
use Rattle.ab_unifiers.proofs.Past.{bare, bare_own, forget-own, forget-image}
use Rattle.ab_unifiers.proofs.Problems.{answer_typed}
use Rattle.ab_unifiers.proofs.Rows.{together_typed, value_front, value_behind}
use Rattle.ab_unifiers.proofs.Variables.{holds_contains}
use Rattle.ab_formulas.specs.Declarations.{Declarations, signature_in}
use Rattle.ab_formulas.specs.Formulas.{IsFormula}
use Rattle.ab_formulas.specs.Sequents.{Variable, Hypothesis, Sequent, HoldsOnly, formulas, formulas_of, in_terms, over}
use Rattle.ab_theory.specs.Equations.{AreCells, Naming, Named, variables_from, variable_term, renaming, made, under}
use Rattle.ab_theory.specs.Splits.{Case, IsCase, problem_of, variables_of, cell_for, Arises}
use Rattle.ab_coverage.specs.GoalFormulas.{Carries}
use Rattle.ab_theory.proofs.Carried.{cells_in_front}
use Rattle.ab_theory.proofs.Renaming.{behind_cell, renaming_typed, renamed_numbers}

abbrev Cells : Type 0
Cells = List (Cell (List ℕ))

-- variables that have cells
abbrev HasCell : Cells → Variable → Type 0
HasCell cells v = slice_get cells v.number ≡ Some (cell_for v)

from_cells : (front cells : Cells) (n : ℕ) → length front ≡ n → All (HasCell (front ++ cells)) (variables_from n cells)
from_cells front [] n e = All-nil (HasCell (front ++ []))
from_cells front (c ∷ cells) n e =
    let long : length (front ++ c ∷ []) ≡ n + 1 = length-append front (c ∷ []) ∙ ap (λ k. k + 1) e in
    All-cons (HasCell (front ++ c ∷ cells)) (record { number = n; type = c.type; name = c.hint }) (variables_from (n + 1) cells)
    (let found = behind_cell front (c ∷ cells) n (omega (arith, e)) in
    found.2 ∙ ap (slice_get (c ∷ cells)) (let at : found.0 ≡ 0 = omega (arith, found.1, e) in at))
    (subst (λ cs. All (HasCell cs) (variables_from (n + 1) cells)) (append_assoc front (c ∷ []) cells) (from_cells (front ++ c ∷ []) cells (n + 1) long))

cell_of : (cells : Cells) (xs : List Variable) → All (HasCell cells) xs → (z : tree.Variable ℕ) → Contains (map in_terms xs) z → IsCell cells z
cell_of cells xs all z m =
    let found = Contains-from_map in_terms xs z m in
    let is = All-contains (HasCell cells) xs found.0 all found.1 in
    subst (IsCell cells) found.2 (ap (option_map (λ (c : Cell (List ℕ)). c.type)) is)

below_length : (cells : Cells) (k : ℕ) (o : Option (Cell (List ℕ))) → slice_get cells k ≡ o → (A : Ty) → option_map (λ (c : Cell (List ℕ)). c.type) o ≡ Some A → k < length cells
below_length cells k None d A e = absurd (cc)
below_length [] k (Some c) d A e = absurd (cc)
below_length (b ∷ cells) zero (Some c) d A e = omega arith
below_length (b ∷ cells) (suc k) (Some c) d A e = let less = below_length cells k (Some c) d A e in omega (arith, less)

below_cells : (cells : Cells) (z : tree.Variable ℕ) → IsCell cells z → z.name < length cells
below_cells cells z e = below_length cells z.name (slice_get cells z.name) refl z.type e

held_sides : (cells : Cells) (P : tree.Variable ℕ → Type 0) → ((z : tree.Variable ℕ) → P z → IsCell cells z) → (es : List (Equation (List ℕ))) → All (λ t. All P (variables t)) (sides es) → AllHoldCells cells es
held_sides cells P cell [] all = tt
held_sides cells P cell (e ∷ es) all =
    let Over : Read → Type 0 = λ t. All P (variables t) in
    let others = All-tail Over e.left (e.right ∷ sides es) all in
    let held : (t : Read) → Over t → HoldsCells cells t = λ t over z m. cell z (All-contains P (variables t) z over m) in
    (held e.left (All-head Over e.left (e.right ∷ sides es) all), held e.right (All-head Over e.right (sides es) others), held_sides cells P cell es (All-tail Over e.right (sides es) others))

-- a variable's own form holds it alone
own_alone : (z y : tree.Variable ℕ) → Contains (variables (bare_own z)) y → z ≡ y
own_alone z y m = either (λ e. e) (λ k. absurd (Contains-none y k)) (Contains-cases z [] y (subst (λ l. Contains l y) (variables-expansion_of tt z.type (variable z) no_terms) m))

-- What is asked of a case: nothing is said of its hypotheses.
pub record IsProblem (D : Declarations) (c : Case) : Type 0 where
  pub cells : AreCells c.before c.goal
  pub typed : AreTyped (signature_in D) c.equations
  pub over : All (HoldsOnly (variables_of c)) (sides c.equations)
  pub flexible : All (Contains (map in_terms (variables_of c))) c.flexible

pub problem_in : (D : Declarations) (c : Case) → IsCase D c → IsProblem D c
problem_in D c is = record { cells = is.cells; typed = is.typed; over = is.over; flexible = is.flexible }

module _ (D : Declarations) (c : Case) (is : IsProblem D c) (more : Cells) (answer : Substitution ℕ (List ℕ)) (solves : Solves (codes "x") (problem_of c) (unified more answer)) where
  abbrev sg : Signature
  sg = signature_in D

  abbrev all : Cells
  all = c.before ++ c.own

  known_cell : (z : tree.Variable ℕ) → Contains (map in_terms (variables_of c)) z → IsCell all z
  known_cell = cell_of all (variables_of c) (All-append (HasCell all) c.goal.variables (variables_from (length c.before) c.own) (cells_in_front c.before c.own c.goal.variables is.cells) (from_cells c.before c.own (length c.before) refl))

  flexible_cell : (z : tree.Variable ℕ) → holds c.flexible z ≡ true → IsCell all z
  flexible_cell z h = known_cell z (All-contains (Contains (map in_terms (variables_of c))) c.flexible z is.flexible (holds_contains c.flexible z h))

  known : AreKnown all c.flexible
  known z h = below_cells all z (flexible_cell z h)

  pub answer_is_typed : IsTyped sg answer
  answer_is_typed = answer_typed sg (codes "x") c.equations all c.flexible is.typed known more answer solves

  pub grown : Grows all more × All (λ p. IsCell more p.0 × HoldsCells more p.1) answer
  grown = answer_cells (codes "x") c.equations all c.flexible flexible_cell (held_sides all (Contains (map in_terms (variables_of c))) known_cell c.equations is.over) more answer solves

  -- what the answer leaves is numbered within all cells
  low : (F : Read) → HoldsOnly (variables_of c) F → (z : tree.Variable ℕ) → Contains (variables (image same_number answer F)) z → z.name < length more
  low F closed z m = either
      (λ a. below_cells more z (cell_kept all more grown.0 z (known_cell z (All-contains (Contains (map in_terms (variables_of c))) (variables F) z closed a.0))))
      (λ a. below_cells more z ((found_of_all (λ t. HoldsCells more t) answer (values answer grown.1) a.0 a.1 a.2.1) z a.3))
      (variables-image (value_in same_number answer) F z m)
    where
      values : (s : Substitution ℕ (List ℕ)) → All (λ p. IsCell more p.0 × HoldsCells more p.1) s → All (λ p. HoldsCells more p.1) s
      values [] each = All-nil (λ p. HoldsCells more p.1)
      values (p ∷ s) each = All-cons (λ p. HoldsCells more p.1) p s (All-head (λ p. IsCell more p.0 × HoldsCells more p.1) p s each).1 (values s (All-tail (λ p. IsCell more p.0 × HoldsCells more p.1) p s each))

  module _ (IsName : Naming) (ys : List Variable) (named : Named IsName c.goal (length more) (made c.before more answer) ys) (r : Substitution ℕ (List ℕ)) (r_typed : IsTyped sg r) where
    abbrev xs : List Variable
    xs = made c.before more answer

    abbrev ren : Substitution ℕ (List ℕ)
    ren = renaming xs ys

    ren_typed : IsTyped sg ren
    ren_typed = renaming_typed IsName sg c.goal (length more) xs ys named

    -- what r makes of a variable that was made
    abbrev value : Variable → Read
    value v = image same_number r (variable_term v)

    abbrev back : Substitution ℕ (List ℕ)
    back = put_together (map in_terms ys) (map value xs)

    abbrev pub then : Substitution ℕ (List ℕ)
    then = back ++ r

    rows_typed : (s : Sequent) (n : ℕ) (vs ws : List Variable) → Named IsName s n vs ws → Each (λ y t. HasType sg [] t y.type) (map in_terms ws) (map value vs)
    rows_typed s n [] [] d = tt
    rows_typed s n [] (w ∷ ws) d = absurd d
    rows_typed s n (v ∷ vs) [] d = absurd d
    rows_typed s n (v ∷ vs) (w ∷ ws) d =
        (subst (HasType sg [] (value v)) (sym d.1) (image_typed sg same_number r r_typed (expansion_typed sg (codes "x") v.type [] (variable (in_terms v)) refl)), rows_typed (over w s) (n + 1) vs ws d.3)

    pub then_typed : IsTyped sg then
    then_typed = All-append (λ p. HasType sg [] p.1 p.0.type) back r (together_typed sg (map in_terms ys) (map value xs) (rows_typed c.goal (length more) xs ys named)) r_typed

    -- a variable that is renamed, its new one, and what is put in for that
    record Renamed (vs ws : List Variable) (n : ℕ) (z : tree.Variable ℕ) : Type 0 where
      pub old : Variable
      pub new : Variable
      pub same : in_terms old ≡ z
      pub renames : value_in same_number (renaming vs ws) z ≡ Some (variable_term new)
      pub puts : value_in same_number (put_together (map in_terms ws) (map value vs)) (in_terms new) ≡ Some (value old)
      pub high : n ≤ new.number

    same_itself : (y : tree.Variable ℕ) → same_numbered y y ≡ true
    same_itself y = (same_numbered-Decides y y).1 refl

    apart : (w u : Variable) (n : ℕ) → w.number ≡ n → n + 1 ≤ u.number → same_numbered (in_terms w) (in_terms u) ≡ false
    apart w u n e l = false_from_ne_true (same_numbered (in_terms w) (in_terms u)) (λ h.
        let equal : w.number ≡ u.number = ap (λ (v : tree.Variable ℕ). v.name) ((same_numbered-Decides (in_terms w) (in_terms u)).0 h) in omega (arith, equal, e, l))

    is_renamed : (s : Sequent) (n : ℕ) (vs ws : List Variable) → Named IsName s n vs ws → (z : tree.Variable ℕ) → holds (map in_terms vs) z ≡ true → Renamed vs ws n z
    is_renamed s n [] ws d z h = absurd (false≢true h)
    is_renamed s n (v ∷ vs) [] d z h = absurd d
    is_renamed s n (v ∷ vs) (w ∷ ws) d z h = go (same_numbered (in_terms v) z) refl h (is_renamed (over w s) (n + 1) vs ws d.3 z)
      where
        go : (b : Bool) → same_numbered (in_terms v) z ≡ b → (b || holds (map in_terms vs) z) ≡ true → (holds (map in_terms vs) z ≡ true → Renamed vs ws (n + 1) z) → Renamed (v ∷ vs) (w ∷ ws) n z
        go true e h rest = record {
          old = v;
          new = w;
          same = (same_numbered-Decides (in_terms v) z).0 e;
          renames = ap (λ b. cond b (Some (variable_term w)) (value_in same_number (renaming vs ws) z)) e;
          puts = ap (λ b. cond b (Some (value v)) (value_in same_number (put_together (map in_terms ws) (map value vs)) (in_terms w))) (same_itself (in_terms w));
          high = omega (arith, d.0);
        }
        go false e h rest =
            let k = rest h in record {
              old = k.old;
              new = k.new;
              same = k.same;
              renames = ap (λ b. cond b (Some (variable_term w)) (value_in same_number (renaming vs ws) z)) e ∙ k.renames;
              puts = ap (λ b. cond b (Some (value v)) (value_in same_number (put_together (map in_terms ws) (map value vs)) (in_terms k.new))) (apart w k.new n d.0 k.high) ∙ k.puts;
              high = let more_high = k.high in omega (arith, more_high);
            }

    not_renamed : (vs ws : List Variable) (z : tree.Variable ℕ) → holds (map in_terms vs) z ≡ false → value_in same_number (renaming vs ws) z ≡ None
    not_renamed [] ws z h = refl
    not_renamed (v ∷ vs) [] z h = refl
    not_renamed (v ∷ vs) (w ∷ ws) z h =
        let parts = or_parts (same_numbered (in_terms v) z) (holds (map in_terms vs) z) h in
        ap (λ b. cond b (Some (variable_term w)) (value_in same_number (renaming vs ws) z)) parts.0 ∙ not_renamed vs ws z parts.1

    new_are_high : (z : tree.Variable ℕ) → z.name < length more → holds (map in_terms ys) z ≡ false
    new_are_high z l = false_from_ne_true (holds (map in_terms ys) z) (λ h.
        let found = Contains-from_map in_terms ys z (holds_contains (map in_terms ys) z h) in
        let high = All-contains (λ (y : Variable). length more ≤ y.number) ys found.0 (renamed_numbers IsName c.goal (length more) xs ys named).0 found.1 in
        let equal : found.0.number ≡ z.name = ap (λ (v : tree.Variable ℕ). v.name) found.2 in
        omega (arith, l, high, equal))

    agrees : (z : tree.Variable ℕ) → z.name < length more → Same (bare ren) (bare then) (bare r) z
    agrees z l = go (holds (map in_terms xs) z) refl
      where
        go : (b : Bool) → holds (map in_terms xs) z ≡ b → Same (bare ren) (bare then) (bare r) z
        go true h =
            let k = is_renamed c.goal (length more) xs ys named z h in
            ap (image_by (bare then)) (own_value sg ren ren_typed z (variable_term k.new) k.renames ∙ forget-own (codes "x") (in_terms k.new))
            ∙ own_value sg then then_typed (in_terms k.new) (value k.old) (value_front back r (in_terms k.new) (value k.old) k.puts)
            ∙ forget-image r (variable_term k.old)
            ∙ ap (image_by (bare r)) (forget-own (codes "x") (in_terms k.old) ∙ ap bare_own k.same)
        go false h =
            ap (image_by (bare then)) (image_unmoved (bare ren) (bare_own z) (λ y m. subst (λ v. bare ren v ≡ None) (own_alone z y m) (ap (option_map forget) (not_renamed xs ys z h))))
            ∙ image_agrees (bare then) (bare r) (bare_own z) (λ y m. subst (λ v. bare then v ≡ bare r v) (own_alone z y m) (ap (option_map forget) (value_behind (map in_terms ys) (map value xs) r z (new_are_high z l))))

    -- THE NAMES COME OFF
    pub names_off : (F : Read) {A : Ty} → HasType sg [] F A → HoldsOnly (variables_of c) F → EqualPastHints (image same_number then (image same_number ren (image same_number answer F))) (image same_number r (image same_number answer F))
    names_off F d closed = two_agree sg ren then r ren_typed then_typed r_typed (image_typed sg same_number answer answer_is_typed d) (λ z h. agrees z (low F closed z (holds_contains (variables (image same_number answer F)) z h)))

    each_off : (hs : List Hypothesis) → All (IsFormula sg) (formulas hs) → All (HoldsOnly (variables_of c)) (formulas hs)
        → Each (λ (h k : Hypothesis). (h.name ≡ k.name) × EqualPastHints (image same_number then h.formula) (image same_number r (image same_number answer k.formula))) (map (λ (h : Hypothesis). record { name = h.name; formula = image same_number ren (image same_number answer h.formula) }) hs) hs
    each_off [] f o = tt
    each_off (h ∷ hs) f o = (
      (refl, names_off h.formula (All-head (IsFormula sg) h.formula (formulas hs) f).typed (All-head (HoldsOnly (variables_of c)) h.formula (formulas hs) o)),
      each_off hs (All-tail (IsFormula sg) h.formula (formulas hs) f) (All-tail (HoldsOnly (variables_of c)) h.formula (formulas hs) o),
    )

    pub all_off : All (IsFormula sg) (formulas_of c.goal) → All (HoldsOnly (variables_of c)) (formulas_of c.goal) → Carries then r answer c.goal (under c.before more answer ys c.goal)
    all_off formed closed = record {
      hypotheses = each_off c.goal.hypotheses (All-tail (IsFormula sg) c.goal.conclusion (formulas c.goal.hypotheses) formed) (All-tail (HoldsOnly (variables_of c)) c.goal.conclusion (formulas c.goal.hypotheses) closed);
      conclusion = names_off c.goal.conclusion (All-head (IsFormula sg) c.goal.conclusion (formulas c.goal.hypotheses) formed).typed (All-head (HoldsOnly (variables_of c)) c.goal.conclusion (formulas c.goal.hypotheses) closed);
    }

-- of a goal that arises
pub arising_carries : (D : Declarations) (IsName : Naming) (c : Case) → IsCase D c → (after : Cells) (g : Sequent) (a : Arises IsName c after g) → (r : Substitution ℕ (List ℕ)) → IsTyped (signature_in D) r
    → (then : Substitution ℕ (List ℕ)) × IsTyped (signature_in D) then × Carries then r a.answer c.goal g
arising_carries D IsName c is after g a r r_typed = (
  then D c (problem_in D c is) a.more a.answer a.solved IsName a.new a.named r r_typed,
  then_typed D c (problem_in D c is) a.more a.answer a.solved IsName a.new a.named r r_typed,
  subst (Carries (then D c (problem_in D c is) a.more a.answer a.solved IsName a.new a.named r r_typed) r a.answer c.goal) (sym a.goal)
      (all_off D c (problem_in D c is) a.more a.answer a.solved IsName a.new a.named r r_typed is.formulas is.closed),
)
