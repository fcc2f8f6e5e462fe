use Rattle.std.proofs.Common.{◌≡◌, true, false, ◌||◌, is_some, sym, ◌∙◌, ap, subst}
use Rattle.ab_norm.specs.ab_store.specs.Trees.{head_reading}
use Rattle.ab_norm.specs.ab_store.specs.Reading.{binding_of, cell_variable}
use Rattle.ab_patterns.specs.ab_unifiers.specs.Replacements.{holds, is_flexible}
use Rattle.ab_unify.specs.Problem.{variables_read}
use Rattle.ab_unify.specs.Pruning.{HeadIsFree}
use Rattle.ab_unify.proofs.Walked.{cell_was}
use Rattle.ab_unify.proofs.pruning.was_flexible.Goals as goal

pub returns-then-is_flexible : goal.returns-then-is_flexible
returns-then-is_flexible c = λ T S F change types was free.
    let store = c.args.store.now in
    let cells = c.args.flexible.now.items in
    let d = c.in-Cell.cell in
    let is = c.in-Cell.is in
    let now : holds (variables_read types store cells) (cell_variable types store d) ≡ true =
    sym (c.is_flexible.ensures types store) ∙ c.if-is_flexible.true in
    c.if-is_flexible.true
    ∙ sym (ap (λ b. b || is_some (binding_of store d)) now)
    ∙ cell_was T S F change types store cells was d (subst (HeadIsFree S) is free)
    ∙ sym (ap (λ h. is_flexible (variables_read T S F) (head_reading types store h)) is)

pub returns-else-is_flexible : goal.returns-else-is_flexible
returns-else-is_flexible c = λ T S F change types was free.
    let store = c.args.store.now in
    let cells = c.args.flexible.now.items in
    let d = c.in-Cell.cell in
    let is = c.in-Cell.is in
    let now : holds (variables_read types store cells) (cell_variable types store d) ≡ false =
    sym (c.is_flexible.ensures types store) ∙ c.if-is_flexible.false in
    c.is_some.ensures
    ∙ ap (λ o. is_some o) c.binding.ensures.binding
    ∙ sym (ap (λ b. b || is_some (binding_of store d)) now)
    ∙ cell_was T S F change types store cells was d (subst (HeadIsFree S) is free)
    ∙ sym (ap (λ h. is_flexible (variables_read T S F) (head_reading types store h)) is)
