use Rattle.std.proofs.Common.{◌≡◌, ◌+◌, [], ◌∷◌, ap, ◌∙◌, sym, arith}
use Rattle.ab_theory.specs.Derivations.{goals_admitted}
use Rattle.ab_kernel.specs.Debts.{debt_of}
use Rattle.ab_kernel.specs.declared.debt.Debt.{Debt}
use Rattle.ab_kernel.proofs.Owing.{counted_next}
use Rattle.ab_kernel.proofs.debt.count_gaps.Goals.{in-Goal, in_default}
use Rattle.ab_kernel.proofs.debt.count_gaps.Goals as goal

pub loop-debt-preserved : goal.loop-debt-preserved
loop-debt-preserved c =
    elim c.match-debt.branch [
      | in-Goal w ↦
          let one : goals_admitted (debt_of c.debt-item.result ∷ []) ≡ 1 = ap (λ (k : Debt). goals_admitted (debt_of k ∷ [])) w.in-Goal.is in
          let more : c.match-debt.count ≡ c.loop-debt.count + goals_admitted (debt_of c.debt-item.result ∷ []) = omega (arith, w.count-is, one) in
          record {
            counted = counted_next c.args.debts.now c.debt-item.result c.loop-debt.debt-index c.loop-debt.count c.match-debt.count c.loop-debt-test.true c.debt-item.is c.loop-debt.invariant.counted more;
            within = omega (arith, w.count-is, c.loop-debt.invariant.within);
          }
      | in_default w ↦
          let none : goals_admitted (debt_of c.debt-item.result ∷ []) ≡ 0 = ap (λ (k : Debt). goals_admitted (debt_of k ∷ [])) w.in_default.is in
          let more : c.match-debt.count ≡ c.loop-debt.count + goals_admitted (debt_of c.debt-item.result ∷ []) = omega (arith, w.count-is, none) in
          record {
            counted = counted_next c.args.debts.now c.debt-item.result c.loop-debt.debt-index c.loop-debt.count c.match-debt.count c.loop-debt-test.true c.debt-item.is c.loop-debt.invariant.counted more;
            within = omega (arith, w.count-is, c.loop-debt.invariant.within);
          }
    ]
