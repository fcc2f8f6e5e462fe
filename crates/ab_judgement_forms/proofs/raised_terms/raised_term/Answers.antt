use Rattle.std.proofs.Common.{◌≡◌, ℕ, ◌+◌, suc, sym, ap, ◌∙◌, arith}
use Rattle.ab_term.specs.Substitution.{shift}
use Rattle.ab_term.specs.Reach.{raise}
use Rattle.ab_term.proofs.Reaching.{raise-none, raise-more}
use Rattle.ab_norm.specs.ab_store.specs.Trees.{tree_of}
use Rattle.ab_norm.proofs.Frame.{typed_none, typed_on}
use Rattle.ab_judgement_forms.proofs.raised_terms.raised_term.Goals as goal

pub loop-above-init : goal.loop-above-init
loop-above-init c = record {
  held = c.requires.term;
  tree = sym (raise-none (tree_of c.args.types.now c.args.store.now c.args.term) 0);
  adds = typed_none c.args.types.now c.args.store.now c.requires.store;
}

pub returns-in_err-here-clause-adds : goal.returns-in_err-here-clause-adds
returns-in_err-here-clause-adds c = typed_on c.args.types.now c.args.store.now c.loop-above.store c.under_binder.new.store c.loop-above.invariant.adds c.in_err-here.ensures.adds

pub loop-above-preserved : goal.loop-above-preserved
loop-above-preserved c =
    let T = c.args.types.now in
    let S = c.args.store.now in
    let l = c.loop-above in
    let t = tree_of T S c.args.term in
    let more : raise (suc l.above) 0 t ≡ raise (l.above + 1) 0 t = ap (λ (k : ℕ). raise k 0 t) (let e : suc l.above ≡ l.above + 1 = omega arith in e) in
    record {
      held = c.in_ok-here.ensures.held;
      tree = c.in_ok-here.ensures.tree ∙ ap (shift 0) l.invariant.tree ∙ sym (raise-more t l.above 0) ∙ more;
      adds = typed_on T S l.store c.under_binder.new.store l.invariant.adds c.in_ok-here.ensures.adds;
    }
