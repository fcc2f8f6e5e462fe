-- Steps that cut and weaken, and goals without hypotheses of the command's own.
use Rattle.std.specs.Prelude.{All}
use Rattle.std.proofs.Common.{◌≡◌, ℕ, ◌+◌, List, [], ◌∷◌, ◌++◌, map, length, refl, sym, ◌∙◌, ap, subst, append_assoc, append-nil}
use Rattle.std.proofs.lemmas.List.{length-append}
use Rattle.std.proofs.lemmas.List.Elements.{All-head, All-tail}
use Rattle.ab_term.specs.Terms.{Read}
use Rattle.ab_norm.specs.ab_store.specs.declared.node.TermId.{TermId}
use Rattle.ab_logic.specs.WorldGrowth.{Grows}
use Rattle.ab_formulas.specs.NewNames.{given}
use Rattle.ab_formulas.specs.Sequents.{Sequent, IsUsed, proving, assuming, without}
use Rattle.ab_logic.specs.Worlds.{Holds, read, declarations_of}
use Rattle.ab_logic.specs.declared.world.World.{World}
use Rattle.ab_theory.specs.Steps.{cut_formula, weaken}
use Rattle.ab_theory.specs.Rules.{NamedRule}
use Rattle.ab_hypothesis.specs.ab_steps.specs.ab_kernel.specs.Layout.{Held, goals_of}
use Rattle.ab_hypothesis.specs.ab_steps.specs.Progress.{IsAt, TookInto}
use Rattle.ab_hypothesis.proofs.Rows.{no_formula}
use Rattle.ab_hypothesis.proofs.StepsTaken.{without_last}
use Rattle.ab_proofcmd.specs.GoalCounts.{Gives, bared, Bares, AwaitsOne, AwaitsAll, ShowsAll, Turns}
use Rattle.ab_proofcmd.proofs.Places.{gone}

abbrev IsTaken : World → World → Held → List Sequent → List Sequent → (List Sequent → Type 0) → Type 0
IsTaken w v q before behind P = (ps : List Sequent) × P ps × (goals_of v q ≡ (before ++ ps) ++ behind)

pub cut_at : (w v : World) (p q : Held) (place : ℕ) (F : Read) (y : List ℕ) → TookInto w p v q place (cut_formula F (given y)) 2
    → (before behind : List Sequent) (k : Sequent) → IsAt w p place before k behind → IsAt v q place before (proving F k) (assuming y F k ∷ behind) × (¬ IsUsed k y)
cut_at w v p q place F y took before behind k at = go (took before behind k at)
  where
    go : IsTaken w v q before behind (λ ps. NamedRule (declarations_of w) (cut_formula F (given y)) k ps × (length ps ≡ 2))
        → IsAt v q place before (proving F k) (assuming y F k ∷ behind) × (¬ IsUsed k y)
    go (ps, ((cells, are_cells, (fits, (name, t, named, led))), n), goals) =
        let list : ps ≡ proving F k ∷ assuming y F k ∷ [] =
        led ∙ ap (λ x. proving F k ∷ assuming x F t ∷ []) named.1 ∙ ap (λ s. proving F k ∷ assuming y F s ∷ []) named.2 in (
          record {
            goals = goals ∙ ap (λ qs. (before ++ qs) ++ behind) list ∙ append_assoc before (proving F k ∷ assuming y F k ∷ []) behind;
            counted = at.counted;
          },
          named.0,
        )

pub weaken_at : (w v : World) (p q : Held) (place : ℕ) (x : List ℕ) → TookInto w p v q place (weaken x) 1
    → (before behind : List Sequent) (k : Sequent) → IsAt w p place before k behind → IsAt v q place before (without x k) behind
weaken_at w v p q place x took before behind k at = go (took before behind k at)
  where
    go : IsTaken w v q before behind (λ ps. NamedRule (declarations_of w) (weaken x) k ps × (length ps ≡ 1)) → IsAt v q place before (without x k) behind
    go (ps, ((cells, are_cells, (F, has, led)), n), goals) =
        record {
          goals = goals ∙ ap (λ qs. (before ++ qs) ++ behind) led ∙ append_assoc before (without x k ∷ []) behind;
          counted = at.counted;
        }

-- hypotheses go, one after another

pub bares_one : (w v u : World) (p q r : Held) (place : ℕ) (x : List ℕ) (xs : List (List ℕ)) → Bares w p v q place xs → TookInto v q u r place (weaken x) 1 → Bares w p u r place (x ∷ xs)
bares_one w v u p q r place x xs bares took before behind k at =
    weaken_at v u q r place x took before behind (bared xs k) (bares before behind k at)

bared_proving : (xs : List (List ℕ)) (F : Read) (k : Sequent) → bared xs (proving F k) ≡ proving F (bared xs k)
bared_proving [] F k = refl
bared_proving (x ∷ xs) F k = ap (without x) (bared_proving xs F k)

bared_more : (xs : List (List ℕ)) (x : List ℕ) (k : Sequent) → bared (xs ++ x ∷ []) k ≡ bared xs (without x k)
bared_more [] x k = refl
bared_more (y ∷ xs) x k = ap (without y) (bared_more xs x k)

without_own : (k : Sequent) (y : List ℕ) (F : Read) → ¬ IsUsed k y → without y (assuming y F k) ≡ k
without_own k y F new = without_last k y F (no_formula k y new)

-- one formula is awaited
pub awaits_one : (w v u : World) (p q r : Held) (place : ℕ) (F : Read) (y : List ℕ) (xs ys : List (List ℕ)) → TookInto w p v q place (cut_formula F (given y)) 2
    → Bares v q u r place xs → ys ≡ xs ++ y ∷ [] → AwaitsOne w p u r place xs F ys
awaits_one w v u p q r place F y xs ys took bares more before behind k at =
    let c = cut_at w v p q place F y took before behind k at in (
      assuming y F k,
      subst (λ g. IsAt u r place before g (assuming y F k ∷ behind)) (bared_proving xs F k) (bares before (assuming y F k ∷ behind) (proving F k) c.0),
      ap (λ zs. bared zs (assuming y F k)) more ∙ bared_more xs y (assuming y F k) ∙ ap (bared xs) (without_own k y F c.1),
    )

-- the goal behind it
pub next_at : (v : World) (q : Held) (place : ℕ) (before behind : List Sequent) (a t : Sequent) → IsAt v q place before a (t ∷ behind) → IsAt v q (place + 1) (before ++ a ∷ []) t behind
next_at v q place before behind a t at = record {
  goals = at.goals ∙ sym (append_assoc before (a ∷ []) (t ∷ behind));
  counted = length-append before (a ∷ []) ∙ ap (λ n. n + 1) at.counted;
}

-- and all others behind it
pub awaits_none : (w : World) (p : Held) (place : ℕ) (xs : List (List ℕ)) → AwaitsAll w p w p place xs [] place
awaits_none w p place xs before behind k at = (k, subst (λ bs. IsAt w p place bs k behind) (sym (append-nil before)) at)

pub awaits_more : (w v u : World) (p q r : Held) (place next : ℕ) (F : Read) (Fs : List Read) (xs ys : List (List ℕ)) → AwaitsOne w p v q place xs F ys → AwaitsAll v q u r (place + 1) ys Fs next
    → AwaitsAll w p u r place xs (F ∷ Fs) next
awaits_more w v u p q r place next F Fs xs ys one all before behind k at =
    let o = one before behind k at in
    let X = proving F (bared xs k) in
    let a = all (before ++ X ∷ []) behind o.0 (next_at v q place before behind X o.0 o.1) in (
      a.0,
      subst (λ bs. IsAt u r next bs a.0 behind) (append_assoc before (X ∷ []) (map (λ A. proving A (bared xs k)) Fs))
          (subst (λ s. IsAt u r next ((before ++ X ∷ []) ++ map (λ A. proving A s) Fs) a.0 behind) o.2 a.1),
    )

pub shows : (w v u : World) (p q r : Held) (place next : ℕ) (Fs : List Read) → AwaitsAll w p v q place [] Fs next → Gives v q u r next 0 → ShowsAll w p u r place Fs
shows w v u p q r place next Fs all closed before behind s at =
    let a = all before behind s at in
    gone v u q r next closed (before ++ map (λ A. proving A s) Fs) behind a.0 a.1

-- the conclusion is another
pub turned : (w v u : World) (p q r : Held) (place : ℕ) (F : Read) (y : List ℕ) → TookInto w p v q place (cut_formula F (given y)) 2 → Gives v q u r (place + 1) 0 → Turns w p u r place F
turned w v u p q r place F y took closed before behind k at =
    let c = cut_at w v p q place F y took before behind k at in
    record {
      goals =
          gone v u q r (place + 1) closed (before ++ proving F k ∷ []) behind (assuming y F k) (next_at v q place before behind (proving F k) (assuming y F k) c.0)
          ∙ append_assoc before (proving F k ∷ []) behind;
      counted = at.counted;
    }

-- what is there reads as before
pub same_reads : (w v : World) → Grows w v → (ts : List TermId) → All (Holds w) ts → map (read v) ts ≡ map (read w) ts
same_reads w v grows [] all = refl
same_reads w v grows (t ∷ ts) all =
    ap (λ F. F ∷ map (read v) ts) (grows.readings t (All-head (Holds w) t ts all)) ∙ ap (λ Fs. read w t ∷ Fs) (same_reads w v grows ts (All-tail (Holds w) t ts all))
