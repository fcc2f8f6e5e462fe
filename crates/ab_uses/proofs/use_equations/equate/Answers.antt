use Rattle.std.specs.Option.{option_map}
use Rattle.std.proofs.Common.{◌++◌, length, get_or, ◌∙◌, sym, ap, subst, arith}
use Rattle.ab_norm.specs.ab_store.specs.declared.node.TermId.{TermId}
use Rattle.ab_norm.specs.ab_store.specs.Trees.{tree_of}
use Rattle.ab_alternatives.specs.LeftAlternatives.{trees_from}
use Rattle.ab_norm.proofs.Frame.{typed_on}
use Rattle.ab_uses.specs.UseSolutions.{equation_at, IsFormulaTermIfAny}
use Rattle.ab_uses.proofs.Equations.{any_kept, stepped, whole}
use Rattle.ab_uses.proofs.use_equations.equate.Goals as goal

pub add_equation-requires-clause-given : goal.add_equation-requires-clause-given
add_equation-requires-clause-given c =
    any_kept c.args.types.now c.args.store.now c.loop-place.store c.loop-place.invariant.adds c.index.result.now
    (subst (IsFormulaTermIfAny c.args.types.now c.args.store.now) (sym c.index.ensures) (c.requires.hypotheses c.loop-place.place c.index.result.now (omega arith)))

pub returns-in_err-add_equation-clause-adds : goal.returns-in_err-add_equation-clause-adds
returns-in_err-add_equation-clause-adds c = typed_on c.args.types.now c.args.store.now c.loop-place.store c.add_equation.new.store c.loop-place.invariant.adds c.add_equation.ensures.adds

pub loop-place-preserved : goal.loop-place-preserved
loop-place-preserved c =
    let T = c.args.types.now in
    let S = c.args.store.now in
    let V = c.loop-place.store in
    let i = c.loop-place.invariant in
    let As = c.args.antecedents.now in
    let list = c.loop-place.list.items in
    let here : TermId = get_or As c.loop-place.place (record { 0 = 0 }) in
    record {
      adds = typed_on T S V c.add_equation.new.store i.adds c.add_equation.ensures.adds;
      reads = c.in_ok-add_equation.ensures.reads
          ∙ ap (λ o. trees_from T V 0 list ++ equation_at (length list) (option_map (tree_of T V) o) (tree_of T V here)) c.index.ensures
          ∙ stepped T S V i.adds c.args.aim.now.hypotheses.items As c.loop-place.place c.index.result.now (record { 0 = 0 }) list (omega arith) c.requires.many c.requires.hypotheses c.requires.antecedents i.reads;
      typed = c.in_ok-add_equation.ensures.typed;
    }

pub add_equation-requires-2-clause-given : goal.add_equation-requires-2-clause-given
add_equation-requires-2-clause-given c = any_kept c.args.types.now c.args.store.now c.loop-place.store c.loop-place.invariant.adds c.args.aim.now.conclusion c.requires.conclusion

pub returns-in_err-add_equation-2-clause-adds : goal.returns-in_err-add_equation-2-clause-adds
returns-in_err-add_equation-2-clause-adds c = typed_on c.args.types.now c.args.store.now c.loop-place.store c.add_equation-2.new.store c.loop-place.invariant.adds c.add_equation-2.ensures.adds

pub returns-clause-reads : goal.returns-clause-reads
returns-clause-reads c =
    c.in_ok-add_equation-2.ensures.reads
    ∙ whole c.args.types.now c.args.store.now c.loop-place.store c.loop-place.invariant.adds c.args.aim.now c.args.antecedents.now c.args.formula c.loop-place.place c.loop-place.list.items (omega arith) c.requires.conclusion c.requires.formula.0 c.loop-place.invariant.reads

pub returns-clause-adds : goal.returns-clause-adds
returns-clause-adds c = typed_on c.args.types.now c.args.store.now c.loop-place.store c.add_equation-2.new.store c.loop-place.invariant.adds c.add_equation-2.ensures.adds
