use Rattle.std.proofs.Common.{◌≡◌, ℕ, suc, ◌+◌, ◌-◌, length, arith, sym, ◌∙◌, ap}
use Rattle.std.proofs.lemmas.List.{length-map}
use Rattle.ab_norm.specs.ab_types.specs.Ids.{type_of}
use Rattle.ab_norm.specs.Nominals.{nominal_of}
use Rattle.ab_unifiers.specs.Choices.{free_number}
use Rattle.ab_instances.specs.ListReadings.{names_read}
use Rattle.ab_instances.proofs.Listed.{tried_more, tried_last}
use Rattle.ab_instances.proofs.names.new_constant.Goals as goal

pub returns-then-not-is_number_of-clause-constant : goal.returns-then-not-is_number_of-clause-constant
returns-then-not-is_number_of-clause-constant c = λ types.
    let held = c.args.held.now in
    let xs = names_read types held in
    let t = c.loop-tried.tried in
    let left : length held - t ≡ suc (length held - (t + 1)) = omega arith in
    ap (λ (n : ℕ). record { number = n; type = type_of types c.args.ty })
    (sym (ap (λ k. free_number k 1 xs) (length-map held (nominal_of types))
    ∙ c.loop-tried.invariant types
    ∙ ap (λ k. free_number k (t + 1) xs) left
    ∙ tried_last xs (length held - (t + 1)) (t + 1) (sym (c.is_number_of.ensures types) ∙ c.if-not-is_number_of.true)))

pub loop-tried-preserved : goal.loop-tried-preserved
loop-tried-preserved c = λ types.
    let held = c.args.held.now in
    let xs = names_read types held in
    let t = c.loop-tried.tried in
    let left : length held - t ≡ suc (length held - (t + 1)) = omega arith in
    let next : suc (t + 1) ≡ t + 1 + 1 = omega arith in
    c.loop-tried.invariant types
    ∙ ap (λ k. free_number k (t + 1) xs) left
    ∙ tried_more xs (length held - (t + 1)) (t + 1) (sym (c.is_number_of.ensures types) ∙ c.if-not-is_number_of.false)
    ∙ ap (λ n. free_number (length held - (t + 1)) n xs) next
