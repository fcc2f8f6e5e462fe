-- A whole run, one step after another.
use Rattle.std.proofs.Common.{ℕ, ◌+◌, ◌<◌, ◌≤◌, List, [], map, Some, None, codes, refl, arith}
use Rattle.std.specs.Prelude.{All}
use Rattle.ab_term.specs.Variables.{Substitution}
use Rattle.ab_norm.specs.ab_types.specs.Entries.{Table}
use Rattle.ab_norm.specs.ab_store.specs.declared.node.CellId.{CellId}
use Rattle.ab_norm.specs.ab_store.specs.Trees.{Contents}
use Rattle.ab_norm.specs.ab_store.specs.Naming.{IsTypedBy}
use Rattle.ab_patterns.specs.declared.equation.Numbered.{Numbered}
use Rattle.ab_patterns.specs.ab_unifiers.specs.Unification.{Answer, Solves, at_end, by_step}
use Rattle.ab_patterns.specs.ab_unifiers.proofs.Ending.{steps_left}
use Rattle.ab_unify.specs.StoreChanges.{IsFree}
use Rattle.ab_unify.proofs.Put.{starts}
use Rattle.ab_unify.specs.Problem.{cells_read, variables_read}
use Rattle.ab_unify.specs.Outcome.{equation_read}
use Rattle.ab_unify.proofs.RigidSolutions.{known_cells}
use Rattle.ab_unify.specs.declared.verdict.Verdict.{Verdict}
use Rattle.ab_unify.specs.declared.verdict.Verdict.TheVariants.{Unified, Apart, Stuck}
use Rattle.ab_unify.specs.RuleCounts.{Takes}
use Rattle.ab_unify.specs.States.{state_of, Reaches, IsStep, rules_in, Advances, answer_of, Leaves, Runs}
use Rattle.ab_unify.proofs.Keyed.{Keyed, keyed_first, next_keyed, last_keyed}
use Rattle.ab_unify.proofs.Left.{left_cells}
use Rattle.ab_unify.proofs.Measured.{fewer_left}
use Rattle.ab_unify.proofs.Counted.{takes_on, takes_last, takes_no_more}

-- what the state leads to now, it led to from the start; so many steps were counted then, and so many now
pub record IsRun (types : Table) (store : Contents) (begun : List CellId) (es : List Numbered) (more : Table) (now : Contents) (flexible : List CellId) (left : List Numbered) (then_steps now_steps : ℕ) : Type 0 where
  pub pairs : Substitution ℕ (List ℕ)
  pub reached : Reaches types store begun more now flexible pairs
  pub leads : (a : Answer (List ℕ)) → Solves (codes "x") (state_of more now left flexible pairs) a → Solves (codes "x") (state_of types store es begun []) a
  pub keyed : Keyed (cells_read types store) (variables_read types store begun) (state_of more now left flexible pairs)
  pub counts : (n : ℕ) → Takes (codes "x") (state_of types store es begun []) n → (m : ℕ) × Takes (codes "x") (state_of more now left flexible pairs) m × (then_steps + n ≤ m + now_steps)

pub run_begins : (types : Table) (store : Contents) (F : List CellId) (es : List Numbered) (k : ℕ) → IsTypedBy types store → All (IsFree store) F → IsRun types store F es types store F es k k
run_begins types store F es k typed free = record {
  pairs = [];
  reached = starts types store typed F free (variables_read types store F) refl;
  leads = λ a p. p;
  keyed = keyed_first (codes "x") (cells_read types store) (variables_read types store F) (map (equation_read types store) es) (known_cells types store F free);
  counts = λ n t. (n, t, omega arith);
}

module _ (types : Table) (store : Contents) (begun : List CellId) (es : List Numbered) (T : Table) (S : Contents) (F : List CellId) (left : List Numbered) (U : Table) (V : Contents) (H : List CellId) (then_left : List Numbered) where
  pub run_on : (i j k : ℕ) → IsRun types store begun es T S F left i j → Advances T S F left U V H then_left None → j + 1 ≤ k → IsRun types store begun es U V H then_left i k
  run_on i j k run step more =
      let a = step types store begun run.pairs run.reached in
      record {
        pairs = a.0;
        reached = a.1;
        leads = λ b p. run.leads b (by_step a.2 p);
        keyed = next_keyed (codes "x") (cells_read types store) (variables_read types store begun) (state_of T S left F run.pairs) (state_of U V then_left H a.0) run.keyed a.2;
        counts = λ n t.
            let c = run.counts n t in
            let on = takes_on (codes "x") c.0 c.1 a.2 in
            (on.0, on.2, omega (arith, c.2, on.1, more));
      }

  -- each step leaves fewer
  pub step_less : IsTypedBy T S → All (IsFree S) F → Advances T S F left U V H then_left None → steps_left (codes "x") (state_of U V then_left H []) < steps_left (codes "x") (state_of T S left F [])
  step_less typed free step =
      let a = step T S F [] (starts T S typed F free (variables_read T S F) refl) in
      fewer_left (codes "x") [] (state_of T S left F []) (state_of U V then_left H a.0) a.2

  at_verdict : (v : Verdict) (s r : Substitution ℕ (List ℕ)) → IsStep (Some v) (state_of T S left F s) (state_of U V then_left H r) → Solves (codes "x") (state_of T S left F s) (answer_of v (state_of U V [] H r))
  at_verdict Unified s r e = at_end e.0
  at_verdict Apart s r e = at_end e
  at_verdict (Stuck place) s r e = at_end e

  last_counts : (v : Verdict) (s r : Substitution ℕ (List ℕ)) (n : ℕ) → IsStep (Some v) (state_of T S left F s) (state_of U V then_left H r) → Takes (codes "x") (state_of T S left F s) n → n ≤ rules_in (Some v)
  last_counts Unified s r n e t = takes_no_more (codes "x") n _ (λ q. absurd (cc)) t e.0
  last_counts Apart s r n e t = takes_last (codes "x") n _ t e
  last_counts (Stuck place) s r n e t = takes_no_more (codes "x") n _ (λ q. absurd (cc)) t e

  leaves_at : (v : Verdict) (s r : Substitution ℕ (List ℕ)) → Keyed (cells_read types store) (variables_read types store begun) (state_of T S left F s) → Reaches types store begun U V H r
      → IsStep (Some v) (state_of T S left F s) (state_of U V then_left H r) → Leaves store begun U V v r
  leaves_at Unified s r keyed reached e =
      left_cells types U store V begun H r reached then_left
      (last_keyed (codes "x") (cells_read types store) (variables_read types store begun) (state_of T S left F s) (state_of U V then_left H r) keyed e.0 e.1)
  leaves_at Apart s r keyed reached e = tt
  leaves_at (Stuck place) s r keyed reached e = tt

  pub run_ends : (i j : ℕ) (v : Verdict) → IsRun types store begun es T S F left i j → Advances T S F left U V H then_left (Some v) → Runs types store begun es U V H v
  run_ends i j v run step =
      let a = step types store begun run.pairs run.reached in
      record { pairs = a.0; reached = a.1; solves = run.leads (answer_of v (state_of U V [] H a.0)) (at_verdict v run.pairs a.0 a.2); leaves = leaves_at v run.pairs a.0 run.keyed a.1 a.2 }

  pub run_counts : (i j k : ℕ) (v : Verdict) → IsRun types store begun es T S F left i j → Advances T S F left U V H then_left (Some v) → j + rules_in (Some v) ≤ k
      → (n : ℕ) → Takes (codes "x") (state_of types store es begun []) n → i + n ≤ k
  run_counts i j k v run step more n t =
      let a = step types store begun run.pairs run.reached in
      let c = run.counts n t in
      omega (arith, c.2, last_counts v run.pairs a.0 c.0 a.2 c.1, more)
