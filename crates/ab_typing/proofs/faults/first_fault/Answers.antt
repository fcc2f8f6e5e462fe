use Rattle.std.proofs.Common.{◌≡◌, map, arith, subst, refl}
use Rattle.ab_formulas.specs.Faults.{IsFaultOf}
use Rattle.ab_typing.specs.DefinitionReadings.{name_of, fault_of, block_of}
use Rattle.ab_typing.specs.declared.faults.ClauseFault.{ClauseFault}
use Rattle.ab_typing.proofs.Faulty.{one_fault, one_more, all_right, not_none}
use Rattle.ab_typing.proofs.faults.first_fault.Goals as goal

pub loop-place-init : goal.loop-place-init
loop-place-init c = record {
  cleared = c.new-cleared.ensures (map (name_of c.args.types.now) c.as_slice-predicates.result.now) c.args.types.now c.args.store.now;
  spots = c.new-spots.ensures c.args.store.now;
  right = λ k d l. absurd (omega (arith, l));
}

pub returns-in-Some-clause-none : goal.returns-in-Some-clause-none
returns-in-Some-clause-none c =
    let types = c.args.types.now in
    let store = c.args.store.now in
    not_none types store c.args.block.now c.in-Some.fault (fault_of types c.in-Some.fault)
    (one_fault types store c.args.block.now c.as_slice-predicates.result.now c.as_slice-clauses.result.now c.as_slice-predicates.ensures c.as_slice-clauses.ensures c.loop-place.place c.index-clauses-place.result (omega arith) c.index-clauses-place.is c.loop-place.invariant.right
    (fault_of types c.in-Some.fault) (c.in_ok-fault.ensures.some c.in-Some.fault c.in-Some.is))

pub returns-in-Some-clause-first : goal.returns-in-Some-clause-first
returns-in-Some-clause-first c = λ f e.
    let types = c.args.types.now in
    let store = c.args.store.now in
    let same : c.in-Some.fault ≡ f = cc in
    subst (λ (g : ClauseFault). IsFaultOf (block_of types store c.args.block.now) (fault_of types g)) same
    (one_fault types store c.args.block.now c.as_slice-predicates.result.now c.as_slice-clauses.result.now c.as_slice-predicates.ensures c.as_slice-clauses.ensures c.loop-place.place c.index-clauses-place.result (omega arith) c.index-clauses-place.is c.loop-place.invariant.right
    (fault_of types c.in-Some.fault) (c.in_ok-fault.ensures.some c.in-Some.fault c.in-Some.is))

pub loop-place-preserved : goal.loop-place-preserved
loop-place-preserved c =
    let types = c.args.types.now in
    let store = c.args.store.now in
    record {
      cleared = c.in_ok-fault.ensures.cleared;
      spots = c.in_ok-fault.ensures.spots;
      right = one_more types store c.args.block.now c.as_slice-predicates.result.now c.as_slice-clauses.result.now c.as_slice-predicates.ensures c.as_slice-clauses.ensures c.loop-place.place c.index-clauses-place.result (omega arith) c.index-clauses-place.is c.loop-place.invariant.right
          (c.in_ok-fault.ensures.none c.in_default.is);
    }

pub returns-clause-none : goal.returns-clause-none
returns-clause-none c = (
  λ e. all_right c.args.types.now c.args.store.now c.args.block.now c.as_slice-predicates.result.now c.as_slice-clauses.result.now c.as_slice-predicates.ensures c.as_slice-clauses.ensures c.loop-place.place c.loop-place-test.false c.loop-place.invariant.right,
  λ all. refl,
)
