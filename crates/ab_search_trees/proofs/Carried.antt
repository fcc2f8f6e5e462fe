-- WHAT IS KNOWN OF GOALS stays known under an answer.
use Rattle.std.proofs.Common.{◌≡◌, inl, inr, ℕ, ◌<◌, List, [], ◌∷◌, ◌++◌, map, length, drop, codes, Bool, true, false, not, None, sym, ◌∙◌, subst, arith}
use Rattle.std.specs.Prelude.{Contains}
use Rattle.std.proofs.lemmas.Bool.{false≢true, false_from_ne_true}
use Rattle.ab_term.specs.Terms.{Nominal, Variable, Read}
use Rattle.ab_term.specs.Typing.{Signature}
use Rattle.ab_term.specs.Variables.{Substitution, variables, value_in, image, IsTyped}
use Rattle.ab_term.specs.Sameness.{same_number}
use Rattle.ab_term.proofs.Lists.{Contains-none}
use Rattle.ab_term.proofs.Depends.{image_agrees}
use Rattle.ab_term.proofs.Stands.{support-image}
use Rattle.ab_unifiers.specs.Replacements.{Cell, holds}
use Rattle.ab_unifiers.specs.Unification.{Equation, unified, Solves}
use Rattle.ab_unifiers.specs.Unifiers.{given, AreTyped, AreKnown, IsCell, AllHoldCells, keys}
use Rattle.ab_unifiers.proofs.Ruling.{image_none}
use Rattle.ab_unifiers.proofs.Avoiding.{not_held}
use Rattle.ab_unifiers.proofs.Once.{answer_once}
use Rattle.ab_unifiers.proofs.Problems.{answer_typed, answer_clean}
use Rattle.ab_unifiers.specs.Clauses.{numbered}
use Rattle.ab_unifiers.proofs.Rows.{numbered_within}
use Rattle.ab_formulas.proofs.Images.{image_formula}
use Rattle.ab_search_trees.specs.Goals.{Goal, Now, goal_under}
use Rattle.ab_search_trees.specs.Lifting.{left_of}
use Rattle.ab_search_trees.proofs.Facts.{Facts, IsPart, AllParts, AllTasks}
use Rattle.ab_search_trees.proofs.Lifts.{known_cell, filter_from, no_value, left_cells, image_cells}

-- the variables that may be replaced are cells
abbrev pub AreFlexible : Now → Type 0
AreFlexible now = (y : Variable ℕ) → holds now.flexible y ≡ true → IsCell now.cells y

module _ (sg : Signature) (mid : Now) (flexible : AreFlexible mid) (es : List (Equation (List ℕ))) (typed : AreTyped sg es) (over : AllHoldCells mid.cells es)
    (more : List (Cell (List ℕ))) (q : Substitution ℕ (List ℕ)) (solves : Solves (codes "x") (given es mid.cells mid.flexible) (unified more q)) (answer : Substitution ℕ (List ℕ)) (held : List Nominal) where
  pub known : AreKnown mid.cells mid.flexible
  known y h = known_cell mid.cells y.name y.type (flexible y h)

  abbrev pub left : List (Variable ℕ)
  left = left_of mid.cells mid.flexible more q

  abbrev pub after : Now
  after = record { cells = more; flexible = left; answer = answer; held = held }

  pub after_flexible : AreFlexible after
  after_flexible = left_cells sg (codes "x") es mid.cells mid.flexible typed known flexible over more q solves

  pub q_typed : IsTyped sg q
  q_typed = answer_typed sg (codes "x") es mid.cells mid.flexible typed known more q solves

  -- a variable that was there and may not be replaced isn't
  not_replaced : (y : Variable ℕ) → holds mid.flexible y ≡ false → y.name < length mid.cells → value_in same_number q y ≡ None
  not_replaced y n l = no_value q y (false_from_ne_true (holds (keys q) y) (λ k. elim ((answer_once (codes "x") es mid.cells mid.flexible known more q solves).1 y k) [
    | inl a ↦ false≢true (sym n ∙ a)
    | inr a ↦ (let low = a.0 in absurd (omega (arith, low, l)))
  ]))

  not_left : (y : Variable ℕ) → holds mid.flexible y ≡ false → y.name < length mid.cells → holds left y ≡ false
  not_left y n l = false_from_ne_true (holds left y) (λ h. elim (not_held mid.flexible (numbered (length mid.cells) (drop (length mid.cells) more)) y (filter_from (λ z. not (holds (keys q) z)) (mid.flexible ++ numbered (length mid.cells) (drop (length mid.cells) more)) y h)) [
    | inl a ↦ false≢true (sym n ∙ a)
    | inr a ↦ (let low = (numbered_within (length mid.cells) (drop (length mid.cells) more) y a).0 in absurd (omega (arith, low, l)))
  ])

  facts_under : (branch : List Nominal) (u : Bool) (t : Read) → Facts mid branch u t → Facts after branch u (image same_number q t)
  facts_under branch u t k = record {
    over = image_cells sg (codes "x") es mid.cells mid.flexible typed known flexible over more q solves t k.over;
    constants = λ a m. elim (support-image (value_in same_number q) t a m) [
      | inl b ↦ k.constants a b
      | inr b ↦ absurd (Contains-none a (subst (λ l. Contains l a) (answer_clean sg (codes "x") es mid.cells mid.flexible typed known more q solves b.0 b.1 (b.2).1) b.3))
    ];
    fixed = λ e y m.
        let none : (z : Variable ℕ) → Contains (variables t) z → value_in same_number q z ≡ None = λ z c. not_replaced z (k.fixed e z c) (known_cell mid.cells z.name z.type (k.over z c)) in
        let same : image same_number q t ≡ t = image_agrees (value_in same_number q) (value_in same_number []) t (λ z c. none z c) ∙ image_none t in
        let there = subst (λ v. Contains (variables v) y) same m in
        not_left y (k.fixed e y there) (known_cell mid.cells y.name y.type (k.over y there));
  }

  part_under : (branch : List Nominal) (u : Bool) (F : Read) → IsPart sg mid branch u F → IsPart sg after branch u (image same_number q F)
  part_under branch u F p = record { formula = image_formula sg q q_typed F p.formula; facts = facts_under branch u F p.facts }

  parts_under : (branch : List Nominal) (u : Bool) (Fs : List Read) → AllParts sg mid branch u Fs → AllParts sg after branch u (map (image same_number q) Fs)
  parts_under branch u [] p = tt
  parts_under branch u (F ∷ Fs) p = (part_under branch u F p.0, parts_under branch u Fs p.1)

  pub tasks_under : (gs : List Goal) → AllTasks sg mid gs → AllTasks sg after (map (goal_under q) gs)
  tasks_under [] t = tt
  tasks_under (g ∷ gs) t = (record { conclusion = part_under g.constants g.untouched g.conclusion (t.0).conclusion; hypotheses = parts_under g.constants g.untouched g.hypotheses (t.0).hypotheses }, tasks_under gs t.1)
