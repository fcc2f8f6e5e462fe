-- Goals of a proof are shown one after another, as what they are with names for the numbers of variables.
use Rattle.std.specs.Prelude.{Contains, All, Result, Ok, Err, OnOk}
use Rattle.std.proofs.Common.{◌≡◌, ◌+◌, ◌<◌, ◌≤◌, ℕ, zero, suc, List, [], ◌∷◌, ◌++◌, map, drop, length, Bool, Option, Some, None, slice_get, refl, sym, ap, ◌∙◌, subst, arith, append_assoc, add-one, codes}
use Rattle.std.proofs.lemmas.List.{append-nil}
use Rattle.std.proofs.lemmas.List.Elements.{All-head, All-tail}
use Rattle.ab_term.specs.Variables.{variables}
use Rattle.ab_term.proofs.Lists.{Contains-none, Contains-from_map}
use Rattle.ab_term.specs.Terms.{Read}
use Rattle.ab_print.specs.ShapeText.{bytes}
use Rattle.ab_logic.specs.Worlds.{IsWorld, variable_of, declarations_of}
use Rattle.ab_logic.specs.SequentReadings.{sequent_of}
use Rattle.ab_formulas.specs.Sequents.{Variable, Sequent, IsSequent}
use Rattle.ab_logic.specs.declared.world.World.{World}
use Rattle.ab_logic.specs.declared.sequent.Sequent.{Sequent as Kept}
use Rattle.ab_states.specs.ab_kernel.specs.Layout.{Held, IsProof, goals_of}
use Rattle.ab_states.specs.ab_kernel.proofs.GoalSequents.{goals_are_sequents}
use Rattle.ab_print.specs.GoalText as by_number
use Rattle.ab_print.specs.GoalText.{cell_name}
use Rattle.ab_formulas.specs.NamedGoals.{Goal, named}
use Rattle.ab_print.specs.NamedGoalText.{shown, goal_lines, other_goal}
use Rattle.ab_print.proofs.Naming.{printed_told}
use Rattle.ab_formulas.proofs.GoalsAgreeing.{Calls, translate_agrees}
use Rattle.ab_print.proofs.Shown.{goal_so, other_so}
use Rattle.ab_blocks.specs.Blocks.{closed_formula, others_from, others_if, goals_shown}

-- cells are called by their hints
calls : (w : World) (g : Kept) → Calls (cell_name w.store) (sequent_of w g).variables
calls w g x m =
    let f = Contains-from_map (variable_of w) g.variables x m in
    subst (λ (y : Variable). cell_name w.store y.number ≡ y.name) f.2 refl

all_at : {X : Type 0} (P : X → Type 0) (xs : List X) (i : ℕ) (x : X) → All P xs → slice_get xs i ≡ Some x → P x
all_at P [] i x a e = cc
all_at P (y ∷ ys) zero x a e = let h : y ≡ x = cc in subst P h (All-head P y ys a)
all_at P (y ∷ ys) (suc i) x a e = all_at P ys i x (All-tail P y ys a) e

drop_at : {X Y : Type 0} (f : X → Y) (xs : List X) (i : ℕ) (x : X) → slice_get xs i ≡ Some x → drop i (map f xs) ≡ f x ∷ drop (suc i) (map f xs)
drop_at f [] i x e = cc
drop_at f (y ∷ ys) zero x e = let h : y ≡ x = cc in ap (λ q. f q ∷ map f ys) h
drop_at f (y ∷ ys) (suc i) x e = drop_at f ys i x e

pub drop_all : {X Y : Type 0} (f : X → Y) (xs : List X) (i : ℕ) → length xs ≤ i → drop i (map f xs) ≡ []
drop_all f [] zero l = refl
drop_all f [] (suc i) l = refl
drop_all f (y ∷ ys) zero l = absurd (omega arith)
drop_all f (y ∷ ys) (suc i) l = drop_all f ys i (omega arith)

module _ (w : World) (p : Held) (world : IsWorld w) (proof : IsProof w p) where
  abbrev gs : List Sequent
  gs = goals_of w p

  is_sequent : (i : ℕ) (g : Kept) → slice_get gs i ≡ Some (sequent_of w g) → IsSequent (declarations_of w) (sequent_of w g)
  is_sequent i g at = all_at (IsSequent (declarations_of w)) gs i (sequent_of w g) (goals_are_sequents w p world proof) at

  -- the current goal
  pub first_shown : (g : Kept) → slice_get gs 0 ≡ Some (sequent_of w g) → (all : Bool)
      → goals_shown all (map named gs) ≡ by_number.goal_lines (cell_name w.store) (sequent_of w g) ++ others_if all (drop 1 (map named gs))
  first_shown g at all =
      let s = sequent_of w g in
      let e : map named gs ≡ named s ∷ drop 1 (map named gs) = drop_at named gs 0 s at in
      ap (goals_shown all) e ∙ ap (λ q. q ++ others_if all (drop 1 (map named gs))) (goal_so (cell_name w.store) s (calls w g) (is_sequent 0 g at).closed)

  -- one goal more
  pub other_shown : (i : ℕ) (g : Kept) (a b all : List ℕ) → slice_get gs i ≡ Some (sequent_of w g) → b ≡ a ++ by_number.other_goal (cell_name w.store) (i + 1) (sequent_of w g).conclusion
      → a ++ others_from (i + 1) (drop i (map named gs)) ≡ all → b ++ others_from (i + 1 + 1) (drop (i + 1) (map named gs)) ≡ all
  other_shown i g a b all at e r =
      let s = sequent_of w g in
      let tail = others_from (i + 1 + 1) (drop (i + 1) (map named gs)) in
      let n : other_goal (i + 1) (named s) ≡ by_number.other_goal (cell_name w.store) (i + 1) s.conclusion = other_so (cell_name w.store) s (calls w g) (is_sequent i g at).closed (i + 1) in
      let d : drop i (map named gs) ≡ named s ∷ drop (i + 1) (map named gs) = drop_at named gs i s at ∙ ap (λ k. named s ∷ drop k (map named gs)) (sym (add-one i)) in
      ap (λ q. q ++ tail) (e ∙ ap (λ q. a ++ q) (sym n))
      ∙ (append_assoc a (other_goal (i + 1) (named s)) tail ∙ (ap (λ q. a ++ others_from (i + 1) q) (sym d) ∙ r))

pub none_left : {X Y : Type 0} (f : X → Y) (xs : List X) → slice_get xs 0 ≡ None → map f xs ≡ []
none_left f [] e = refl
none_left f (x ∷ xs) e = cc

pub on_ok : {A E P Q : Type 0} (r : Result A E) → (P → Q) → OnOk r P → OnOk r Q
on_ok (Ok a) f h = f h
on_ok (Err e) f h = tt

-- a formula without variables is printed alike, however variables are called
pub closed_so : (name : ℕ → List ℕ) (F : Read) → variables F ≡ [] → closed_formula F ≡ by_number.shown name F
closed_so name F e =
    ap shown (translate_agrees (λ n. []) name (λ x. x) F (λ y m. absurd (Contains-none y (subst (λ q. Contains q y) e m)))) ∙ ap bytes (printed_told name F)

pub shown_text : (old a b d x f g : List ℕ) → a ≡ old ++ x → b ≡ a ++ codes " : " → d ≡ b ++ g → f ≡ g → d ≡ old ++ (x ++ (codes " : " ++ f))
shown_text old a b d x f g e h k s =
    k ∙ (ap (λ q. q ++ g) (h ∙ ap (λ q. q ++ codes " : ") e)
    ∙ (append_assoc (old ++ x) (codes " : ") g ∙ (append_assoc old x (codes " : " ++ g) ∙ ap (λ q. old ++ (x ++ (codes " : " ++ q))) (sym s))))
