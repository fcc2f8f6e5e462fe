use Rattle.std.proofs.Common.{◌≡◌, ◌≢◌, ℕ, suc, ◌+◌, take, sym, subst, ◌∙◌, arith}
use Rattle.ab_infer.proofs.Lookups.{LooksUp, looks_hit, looks_missed, looks_none}
use Rattle.ab_infer.proofs.name_meanings.bound_at.Goals.{then-eq, else-eq+in-Some, else-eq+in_default}
use Rattle.ab_infer.proofs.name_meanings.bound_at.Goals as goal

one_more : (n : ℕ) → n + 1 ≡ suc n
one_more n = omega arith

pub loop-one-preserved : goal.loop-one-preserved
loop-one-preserved c =
    let bs = c.args.bound.now in
    let i = c.loop-one.one-index in
    let x = c.args.name.now in
    let b = c.one-item.result in
    let l = c.loop-one-test.true in
    elim c.if-eq.branch [
      | then-eq w ↦ subst (LooksUp (i + 1) (take (i + 1) bs) x) (sym w.found-is) (looks_hit bs i b l c.one-item.is x (i + 1) (one_more i) (c.eq.ensures.decides.0 w.if-eq.true))
      | else-eq+in-Some w ↦
          let d : b.name ≢ x = λ e. let t = c.eq.ensures.decides.1 e in let f = w.if-eq.false in cc in
          subst (LooksUp (i + 1) (take (i + 1) bs) x) (sym w.found-is)
          (looks_missed bs i b l c.one-item.is x (i + 1) (w.in-Some.index + 1) w.in-Some.index w.in-Some.node (one_more i) (one_more w.in-Some.index) d
          (subst (LooksUp i (take i bs) x) w.in-Some.is c.loop-one.invariant))
      | else-eq+in_default w ↦
          let d : b.name ≢ x = λ e. let t = c.eq.ensures.decides.1 e in let f = w.if-eq.false in cc in
          subst (LooksUp (i + 1) (take (i + 1) bs) x) (sym (w.found-is ∙ w.in_default.is))
          (looks_none bs i b l c.one-item.is x (i + 1) (one_more i) d (subst (LooksUp i (take i bs) x) w.in_default.is c.loop-one.invariant))
    ]
