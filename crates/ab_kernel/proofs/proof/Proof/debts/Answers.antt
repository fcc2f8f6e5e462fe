use Rattle.std.specs.Prelude.{◌≡◌, Contains, ◌↔◌}
use Rattle.std.proofs.Common.{List, map, sym, subst}
use Rattle.ab_theory.specs.Derivations.{Debt, debts}
use Rattle.ab_kernel.specs.Debts.{debt_of}
use Rattle.ab_kernel.specs.Layout.{Held, history_of}
use Rattle.ab_kernel.proofs.Owing.{contained_so, owes_there}
use Rattle.ab_kernel.proofs.proof.Proof.debts.Goals as goal

pub returns : goal.returns
returns c w t =
    let kept = contained_so c.self.inside.debts.items t in
    let same : c.deref.result.now ≡ c.self.inside.debts.items = c.deref.ensures.value in
    let there = owes_there w _ _ _ (c.self.invariant.stands w) t in
    subst (λ ks. Contains (map debt_of ks) t ↔ Contains (debts (history_of w c.args.self.now).tree) t) (sym same)
    (subst (λ (p : Held). Contains (map debt_of c.self.inside.debts.items) t ↔ Contains (debts (history_of w p).tree) t) c.self.view_is (
      (λ m. there.1 (subst (λ (ts : List Debt). Contains ts t) (c.self.invariant.owed w) (kept.0 m))),
      (λ m. kept.1 (subst (λ (ts : List Debt). Contains ts t) (sym (c.self.invariant.owed w)) (there.0 m))),
    ))
