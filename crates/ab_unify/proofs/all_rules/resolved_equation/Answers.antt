use Rattle.ab_norm.proofs.Frame.{adds_on, typed_from}
use Rattle.ab_unify.proofs.Growth.{grows_terms, grown_term}
use Rattle.ab_unify.proofs.all_rules.resolved_equation.Goals as goal

pub returns-in_err-right-clause-adds : goal.returns-in_err-right-clause-adds
returns-in_err-right-clause-adds g c =
    let s0 = c.args.store.now in
    let s1 = c.copy_resolved.new.store in
    let s2 = c.copy_resolved-2.new.store in
    typed_from c.args.types.now s0 s2 (adds_on s0 s1 s2 c.in_ok-left.ensures.adds c.in_err-right.ensures.adds) c.requires.store

pub returns-clause-adds : goal.returns-clause-adds
returns-clause-adds g c =
    let s0 = c.args.store.now in
    let s1 = c.copy_resolved.new.store in
    let s2 = c.copy_resolved-2.new.store in
    typed_from c.args.types.now s0 s2 (adds_on s0 s1 s2 c.in_ok-left.ensures.adds c.in_ok-right.ensures.adds) c.requires.store

pub returns-clause-typed : goal.returns-clause-typed
returns-clause-typed g c =
    let types = c.args.types.now in
    let s0 = c.args.store.now in
    let s1 = c.copy_resolved.new.store in
    let s2 = c.copy_resolved-2.new.store in
    let d = c.requires.equation in
    let first = typed_from types s0 s1 c.in_ok-left.ensures.adds c.requires.store in
    let second = typed_from types s1 s2 c.in_ok-right.ensures.adds first.typed in
    let right = grown_term types types s0 s1 (grows_terms types s0 s1 first) d.0 c.args.equation.right d.1 d.3 in (
      d.0,
      d.1,
      grown_term types types s1 s2 (grows_terms types s1 s2 second) d.0 c.in_ok-left.left d.1 (c.in_ok-left.ensures.term d.0 d.1 d.2),
      c.in_ok-right.ensures.term d.0 d.1 right,
    )
