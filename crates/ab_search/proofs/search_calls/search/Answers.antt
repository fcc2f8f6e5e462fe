use Rattle.std.specs.Prelude.{Option}
use Rattle.std.proofs.Common.{◌≡◌, ℕ, sym, ◌∙◌, subst, arith}
use Rattle.ab_patterns.proofs.Renewed.{on_err_then}
use Rattle.ab_search_paths.specs.ab_walk.specs.Paths.{HoldsPath, WhereFound}
use Rattle.ab_search_paths.specs.ab_walk.specs.Told.{outcome_without}
use Rattle.ab_search_paths.specs.ab_walk.specs.declared.walk.Told.{Told}
use Rattle.ab_search.specs.Searched.{FirstComesTo}
use Rattle.ab_search.proofs.Searching.{first_sequent, misses_none, some_value, told_not, told_found, proof_later, history_later, follows_later, follows_behind, closed_behind}
use Rattle.ab_search.proofs.search_calls.search.Goals as goal

pub search-requires-clause-sequent : goal.search-requires-clause-sequent
search-requires-clause-sequent g c =
    first_sequent c.args.world.now c.args.proof.now c.first_goal-goal.result.now c.first_goal-goal.ensures.reads c.requires.world c.requires.proof c.requires.«open»

pub returns-in_err-place-clause-follows : goal.returns-in_err-place-clause-follows
returns-in_err-place-clause-follows g c =
    follows_later c.args.world.now c.search.new.world c.args.proof.now c.search.ensures.grows c.search.ensures.declared c.requires.proof

pub returns-in_err-place-clause-unchanged : goal.returns-in_err-place-clause-unchanged
returns-in_err-place-clause-unchanged g c =
    on_err_then c.from_residual.result (history_later c.args.world.now c.search.new.world c.args.proof.now c.search.ensures.grows c.search.ensures.declared c.requires.proof)

pub returns-in-Some-clause-follows : goal.returns-in-Some-clause-follows
returns-in-Some-clause-follows g c =
    follows_later c.args.world.now c.search.new.world c.args.proof.now c.search.ensures.grows c.search.ensures.declared c.requires.proof

pub returns-in-Some-clause-not_pattern : goal.returns-in-Some-clause-not_pattern
returns-in-Some-clause-not_pattern g c = λ n e.
    let w = c.args.world.now in
    let p = c.args.proof.now in
    let a = c.in-Not-Some-default in
    let same : c.in-Some.number ≡ n = cc in
    let value = some_value _ c.checked_add.result c.in-Some.number _ c.in-Some.is c.checked_add.ensures in (
      a.place,
      omega (arith, same, value, a.place-is),
      subst (λ (o : Option ℕ). FirstComesTo w p c.args.depth (outcome_without o)) a.field-0-is
          (told_not w p c.first_goal-goal.result.now c.first_goal-goal.ensures.reads c.first_goal-goal.ensures.held c.args.depth c.in_ok-place.field-0 a.field-0 a.field-1 c.in_ok-place.ensures.told a.is),
    )

pub returns-in-Some-clause-unchanged : goal.returns-in-Some-clause-unchanged
returns-in-Some-clause-unchanged g c =
    history_later c.args.world.now c.search.new.world c.args.proof.now c.search.ensures.grows c.search.ensures.declared c.requires.proof

pub returns-in-Not-Some-default-clause-follows : goal.returns-in-Not-Some-default-clause-follows
returns-in-Not-Some-default-clause-follows g c =
    follows_later c.args.world.now c.search.new.world c.args.proof.now c.search.ensures.grows c.search.ensures.declared c.requires.proof

pub returns-in-Not-Some-default-clause-unchanged : goal.returns-in-Not-Some-default-clause-unchanged
returns-in-Not-Some-default-clause-unchanged g c =
    history_later c.args.world.now c.search.new.world c.args.proof.now c.search.ensures.grows c.search.ensures.declared c.requires.proof

pub returns-in-Not-None-default-clause-follows : goal.returns-in-Not-None-default-clause-follows
returns-in-Not-None-default-clause-follows g c =
    follows_later c.args.world.now c.search.new.world c.args.proof.now c.search.ensures.grows c.search.ensures.declared c.requires.proof

pub returns-in-Not-None-default-clause-not_found : goal.returns-in-Not-None-default-clause-not_found
returns-in-Not-None-default-clause-not_found g c = λ e.
    let w = c.args.world.now in
    let p = c.args.proof.now in
    let a = c.in-Not-None-default in
    subst (λ (o : Option ℕ). FirstComesTo w p c.args.depth (outcome_without o)) a.field-0-is
    (told_not w p c.first_goal-goal.result.now c.first_goal-goal.ensures.reads c.first_goal-goal.ensures.held c.args.depth c.in_ok-place.field-0 a.field-0 a.field-1 c.in_ok-place.ensures.told a.is)

pub returns-in-Not-None-default-clause-complete : goal.returns-in-Not-None-default-clause-complete
returns-in-Not-None-default-clause-complete g c = λ e.
    let w = c.args.world.now in
    let p = c.args.proof.now in
    let a = c.in-Not-None-default in
    misses_none w p c.requires.world c.requires.proof c.args.depth
    (subst (λ (o : Option ℕ). FirstComesTo w p c.args.depth (outcome_without o)) a.field-0-is
    (told_not w p c.first_goal-goal.result.now c.first_goal-goal.ensures.reads c.first_goal-goal.ensures.held c.args.depth c.in_ok-place.field-0 a.field-0 a.field-1 c.in_ok-place.ensures.told a.is))

pub returns-in-Not-None-default-clause-unchanged : goal.returns-in-Not-None-default-clause-unchanged
returns-in-Not-None-default-clause-unchanged g c =
    history_later c.args.world.now c.search.new.world c.args.proof.now c.search.ensures.grows c.search.ensures.declared c.requires.proof

pub close-requires-clause-path : goal.close-requires-clause-path
close-requires-clause-path g c =
    let v = c.search.new.world in
    subst (HoldsPath v.types v.store) (sym c.deref.ensures.value)
    (subst (λ (t : Told). WhereFound t (HoldsPath v.types v.store c.search.new.path.items)) c.in-Found.is c.in_ok-place.ensures.path)

pub close-requires-clause-proof : goal.close-requires-clause-proof
close-requires-clause-proof g c =
    proof_later c.args.world.now c.search.new.world c.args.proof.now c.search.ensures.grows c.search.ensures.declared c.requires.proof

pub returns-in_err-close-in-Found-clause-follows : goal.returns-in_err-close-in-Found-clause-follows
returns-in_err-close-in-Found-clause-follows g c =
    follows_behind c.args.world.now c.search.new.world c.args.proof.now c.search.ensures.grows c.search.ensures.declared c.requires.proof
    c.close.new.world c.close.new.proof c.close.ensures.follows

pub returns-in_err-close-in-Found-clause-unchanged : goal.returns-in_err-close-in-Found-clause-unchanged
returns-in_err-close-in-Found-clause-unchanged g c =
    on_err_then c.from_residual-in_err-close-in-Found.result
    (c.in_err-close-in-Found.ensures.unchanged
    ∙ history_later c.args.world.now c.search.new.world c.args.proof.now c.search.ensures.grows c.search.ensures.declared c.requires.proof)

pub returns-clause-follows : goal.returns-clause-follows
returns-clause-follows g c =
    follows_behind c.args.world.now c.search.new.world c.args.proof.now c.search.ensures.grows c.search.ensures.declared c.requires.proof
    c.close.new.world c.close.new.proof c.close.ensures.follows

pub returns-clause-closed : goal.returns-clause-closed
returns-clause-closed g c =
    closed_behind c.args.world.now c.search.new.world c.args.proof.now c.search.ensures.grows c.search.ensures.declared c.requires.proof
    c.close.new.world c.close.new.proof c.args.depth
    (told_found c.args.world.now c.args.proof.now c.first_goal-goal.result.now c.first_goal-goal.ensures.reads c.first_goal-goal.ensures.held c.args.depth _ c.in_ok-place.ensures.told c.in-Found.is)
    c.in_ok-close-in-Found.ensures.gave_way
