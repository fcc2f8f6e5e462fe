-- What a proof keeps of its debts, and that its derivation owes just what the steps that stand do.
use Rattle.std.specs.Prelude.{Contains, ◌↔◌, slice_get}
use Rattle.std.proofs.Common.{◌≡◌, ◌⊎◌, inl, inr, ℕ, zero, suc, ◌+◌, ◌<◌, ◌≤◌, Some, None, Option, List, [], ◌∷◌, ◌++◌, length, map, reverse, take, get_or, refl, sym, ◌∙◌, ap, subst, arith}
use Rattle.std.proofs.lemmas.List.{map-append, reverse-append, reverse-reverse}
use Rattle.std.proofs.lemmas.List.Elements.{Contains-append_left, Contains-append_right, Contains-append_cases}
use Rattle.std.proofs.lemmas.Option.{slice_get_read, get_or_from_slice_get}
use Rattle.std.proofs.Math.Seq.{take-suc}
use Rattle.ab_formulas.specs.Sequents.{Sequent}
use Rattle.ab_formulas.proofs.KernelSplits.{within}
use Rattle.ab_logic.specs.declared.world.World.{World}
use Rattle.ab_theory.specs.Derivations.{Debt, theorem_taken, goal_admitted, debts_of, debts, gaps, goals_admitted, open_goals}
use Rattle.ab_theory.proofs.Debts.{goals_admitted-append, owes-refined, gaps-refined}
use Rattle.ab_rules.specs.RuleAnswers.{step_of}
use Rattle.ab_kernel.specs.Debts.{debt_of, owed, owed_at}
use Rattle.ab_kernel.specs.declared.debt.Debt.{Debt as Kept}
use Rattle.ab_kernel.specs.declared.debt.Debt.TheVariants.{Theorem, Goal}
use Rattle.ab_kernel.specs.declared.node.ProofNode.{ProofNode}
use Rattle.ab_rules.specs.declared.step.Step.{Step}
use Rattle.ab_rules.specs.declared.step.Step.TheVariants.{TrueRight}
use Rattle.ab_kernel.specs.Nodes.{node_at, no_node, step_held}
use Rattle.ab_kernel.specs.Layout.{StepAt, sequents_before, premises_of, open_before, made_by, owed_by, Stands}
use Rattle.ab_kernel.proofs.Standing.{reads_now, as_many}
use Rattle.ab_kernel.proofs.TakingBack.{length-open_before}

-- goals among kept debts

owed_more : (k : Kept) (ks : List Kept) → owed (k ∷ ks) ≡ owed ks ++ debt_of k ∷ []
owed_more k ks = ap (map debt_of) (reverse-append (k ∷ []) ks) ∙ map-append debt_of (reverse ks) (k ∷ [])

-- as many goals in one order as in the other
pub admitted_turned : (ks : List Kept) → goals_admitted (map debt_of ks) ≡ goals_admitted (owed ks)
admitted_turned [] = refl
admitted_turned (Theorem n ∷ ks) =
    let rest = admitted_turned ks in
    let last = goals_admitted-append (owed ks) (theorem_taken n ∷ []) in
    let whole = ap goals_admitted (owed_more (Theorem n) ks) in
    omega (arith, rest, last, whole)
admitted_turned (Goal ∷ ks) =
    let rest = admitted_turned ks in
    let last = goals_admitted-append (owed ks) (goal_admitted ∷ []) in
    let whole = ap goals_admitted (owed_more Goal ks) in
    omega (arith, rest, last, whole)

-- and the same debts
contained_turned : {X : Type 0} (xs : List X) (x : X) → Contains xs x → Contains (reverse xs) x
contained_turned [] x c = c
contained_turned (y ∷ ys) x c =
    subst (λ zs. Contains zs x) (sym (reverse-append (y ∷ []) ys))
    (elim (Contains-append_cases (y ∷ []) ys x c) [
      | inl a ↦ Contains-append_right (reverse ys) (y ∷ []) x a
      | inr b ↦ Contains-append_left (reverse ys) (y ∷ []) x (contained_turned ys x b)
    ])

map_turned : (ks : List Kept) → owed ks ≡ reverse (map debt_of ks)
map_turned [] = refl
map_turned (k ∷ ks) = owed_more k ks ∙ ap (λ ts. ts ++ debt_of k ∷ []) (map_turned ks) ∙ sym (reverse-append (debt_of k ∷ []) (map debt_of ks))

pub contained_so : (ks : List Kept) (t : Debt) → Contains (map debt_of ks) t ↔ Contains (owed ks) t
contained_so ks t =
    let turned = map_turned ks in (
      (λ c. subst (λ ts. Contains ts t) (sym turned) (contained_turned (map debt_of ks) t c)),
      (λ c. subst (λ ts. Contains ts t) (reverse-reverse (map debt_of ks)) (contained_turned (reverse (map debt_of ks)) t (subst (λ ts. Contains ts t) turned c))),
    )

-- one kept debt more is counted
pub counted_next : (ks : List Kept) (k : Kept) (i n m : ℕ) → i < length ks → k ≡ get_or ks i k → n ≡ goals_admitted (map debt_of (take i ks))
    → m ≡ n + goals_admitted (debt_of k ∷ []) → m ≡ goals_admitted (map debt_of (take (i + 1) ks))
counted_next ks k i n m inside is counted more =
    let longer : suc i ≡ i + 1 = omega arith in
    let next : take (i + 1) ks ≡ take i ks ++ k ∷ [] =
    ap (λ j. take j ks) (sym longer) ∙ take-suc ks i k inside ∙ ap (λ x. take i ks ++ x ∷ []) (sym is) in
    let split = ap (λ xs. goals_admitted (map debt_of xs)) next ∙ ap goals_admitted (map-append debt_of (take i ks) (k ∷ [])) in
    let sum = goals_admitted-append (map debt_of (take i ks)) (debt_of k ∷ []) in
    omega (arith, counted, more, split, sum)

-- the node's step owes what the step that stands there does
held_owes : (w : World) (o : Option Step) (n : ProofNode) → n.step ≡ o → owed_at w n.step ≡ debts_of (step_of w (step_held n))
held_owes w None n is = rw is refl
held_owes w (Some step) n is = rw is refl

pub node_owes : (w : World) (nodes : List ProofNode) (i : ℕ) (n : ProofNode) → i < length nodes → n ≡ get_or nodes i n
    → owed_at w n.step ≡ debts_of (step_of w (step_held (node_at nodes i)))
node_owes w nodes i n inside is =
    let there : slice_get nodes i ≡ Some n = slice_get_read nodes (length nodes) i n refl inside is in
    let same : node_at nodes i ≡ n = get_or_from_slice_get nodes i n no_node there in
    held_owes w n.step n refl ∙ ap (λ (y : ProofNode). debts_of (step_of w (step_held y))) (sym same)

module _ (w : World) where
  -- the step was taken at an open goal
  place_open : (ss : List Sequent) (ns : List ℕ) (r : StepAt) (rs : List StepAt) → Stands w ss ns (r ∷ rs) → r.place < length (open_goals (made_by w (sequents_before r ss) rs).tree)
  place_open ss ns r rs stands =
      let many = as_many (reads_now w (sequents_before r ss) (open_before r ns) rs stands.2) in
      let long = length-open_before w ss ns r rs stands in
      let fits = stands.1.in_open in
      omega (arith, many, long, fits)

  -- THE DERIVATION OWES what the steps that stand do
  pub owes_there : (ss : List Sequent) (ns : List ℕ) (rs : List StepAt) → Stands w ss ns rs → (t : Debt) → Contains (debts (made_by w ss rs).tree) t ↔ Contains (owed_by w rs) t
  owes_there ss ns [] stands t = ((λ c. c), (λ c. c))
  owes_there ss ns (r ∷ rs) stands t =
      let before = made_by w (sequents_before r ss) rs in
      let more = debts_of (step_of w r.step) in
      let at = within (open_goals before.tree) r.place (place_open ss ns r rs stands) in
      let taken = owes-refined r.place (step_of w r.step) at.0 (premises_of r ss) before.tree at.1 t in
      let rest = owes_there (sequents_before r ss) (open_before r ns) rs stands.2 t in (
        (λ c. elim (taken.0 c) [
          | inl b ↦ Contains-append_right more (owed_by w rs) t (rest.0 b)
          | inr a ↦ Contains-append_left more (owed_by w rs) t a
        ]),
        (λ c. elim (Contains-append_cases more (owed_by w rs) t c) [
          | inl a ↦ taken.1 (inr a)
          | inr b ↦ taken.1 (inl (rest.1 b))
        ]),
      )

  -- and admits as many goals
  pub gaps_there : (ss : List Sequent) (ns : List ℕ) (rs : List StepAt) → Stands w ss ns rs → gaps (made_by w ss rs).tree ≡ goals_admitted (owed_by w rs)
  gaps_there ss ns [] stands = refl
  gaps_there ss ns (r ∷ rs) stands =
      let before = made_by w (sequents_before r ss) rs in
      let more = debts_of (step_of w r.step) in
      let at = within (open_goals before.tree) r.place (place_open ss ns r rs stands) in
      let taken = gaps-refined r.place (step_of w r.step) at.0 (premises_of r ss) before.tree at.1 in
      let rest = gaps_there (sequents_before r ss) (open_before r ns) rs stands.2 in
      let sum = goals_admitted-append more (owed_by w rs) in
      omega (arith, taken, rest, sum)
