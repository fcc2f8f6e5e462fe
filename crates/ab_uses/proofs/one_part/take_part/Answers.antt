use Rattle.std.proofs.Common.{[], ◌∷◌, length, sym, subst}
use Rattle.ab_norm.specs.ab_types.specs.Entries.{signature}
use Rattle.ab_norm.specs.ab_store.specs.Trees.{tree_of}
use Rattle.ab_unify.proofs.Growth.{grows_terms}
use Rattle.ab_alternatives.specs.ab_instances.specs.ListReadings.{names_read}
use Rattle.ab_theory.specs.Uses.{used}
use Rattle.ab_consequences.specs.UseStages.{stages_of}
use Rattle.ab_uses.specs.UseCells.{HoldsPart, part_read, HasParts, GoesOn, GoesOnBy}
use Rattle.ab_uses.specs.declared.part.Part.TheVariants.{Constant}
use Rattle.ab_uses.proofs.Items.{both}
use Rattle.ab_uses.proofs.Fronts.{given_put, given_is}
use Rattle.ab_uses.proofs.Moved.{given_goes}
use Rattle.ab_uses.proofs.one_part.take_part.Goals as goal

pub open_with-requires-clause-term : goal.open_with-requires-clause-term
open_with-requires-clause-term g c =
    let T = c.args.types.now in
    let S = c.args.store.now in
    let is = given_is (signature T) (subst (λ p. HasParts (signature T) (part_read T S p ∷ []) (tree_of T S c.args.made.now.result)) c.in-Given.is c.requires.front) in
    (is.0, (subst (HoldsPart T S) c.in-Given.is c.requires.part, is.1))

pub open_with-requires-clause-fits : goal.open_with-requires-clause-fits
open_with-requires-clause-fits g c =
    let T = c.args.types.now in
    let S = c.args.store.now in
    given_put (signature T) (subst (λ p. HasParts (signature T) (part_read T S p ∷ []) (tree_of T S c.args.made.now.result)) c.in-Given.is c.requires.front) c.requires.under_way.formula.1

pub returns-in_err-open_with-in-Given-clause-grows : goal.returns-in_err-open_with-in-Given-clause-grows
returns-in_err-open_with-in-Given-clause-grows g c = grows_terms c.args.types.now c.args.store.now c.open_with.new.store c.in_err-open_with-in-Given.ensures.adds

pub returns-in_ok-open_with-in-Given-clause-goes : goal.returns-in_ok-open_with-in-Given-clause-goes
returns-in_ok-open_with-in-Given-clause-goes g c = λ yes.
    let T = c.args.types.now in
    let S = c.args.store.now in
    let X = c.open_with.new.store in
    let m = c.args.made.now in
    let n = c.open_with.new.made in
    let e = c.in_ok-open_with-in-Given.ensures in
    let held = names_read T c.args.held.now in
    let names = names_read T c.args.chosen.now in
    subst (λ p. GoesOn T S m (used held (length S.cells) (part_read T S p ∷ []) names (tree_of T S m.result)) T X n) (sym c.in-Given.is)
    (given_goes T S X e.adds m n c.requires.under_way e.under_way e.cells e.antecedents held names (length S.cells) (tree_of T S c.in-Given.term) (tree_of T S m.result) e.result)

pub returns-in_ok-open_with-in-Given-clause-grows : goal.returns-in_ok-open_with-in-Given-clause-grows
returns-in_ok-open_with-in-Given-clause-grows g c = grows_terms c.args.types.now c.args.store.now c.open_with.new.store c.in_ok-open_with-in-Given.ensures.adds

pub returns-in-len1-up-clause-grows : goal.returns-in-len1-up-clause-grows
returns-in-len1-up-clause-grows g c = grows_terms c.args.types.now c.args.store.now c.put_constant.new.store c.put_constant.ensures.adds

pub returns-in-len1-up-clause-goes : goal.returns-in-len1-up-clause-goes
returns-in-len1-up-clause-goes g c = λ yes.
    let T = c.args.types.now in
    let S = c.args.store.now in
    let X = c.put_constant.new.store in
    let m = c.args.made.now in
    let n = c.put_constant.new.made in
    let held = names_read T c.args.held.now in
    subst (λ p. GoesOn T S m (used held (length S.cells) (part_read T S p ∷ []) (names_read T c.args.chosen.now) (tree_of T S m.result)) T X n) (sym c.in-Constant.is)
    (subst (λ l. GoesOn T S m (used held (length S.cells) (part_read T S (Constant c.in-Constant.field-0) ∷ []) (names_read T l) (tree_of T S m.result)) T X n) (sym (both c.args.chosen.now (record { number = 0; ty = record { 0 = 0 } }) c.in-len1-up.len_at_least))
    (c.put_constant.ensures.goes yes))

pub returns-in_ok-take_antecedent-in-Antecedent-clause-goes : goal.returns-in_ok-take_antecedent-in-Antecedent-clause-goes
returns-in_ok-take_antecedent-in-Antecedent-clause-goes g c = λ yes.
    let T = c.args.types.now in
    let S = c.args.store.now in
    let m = c.args.made.now in
    subst (λ p. GoesOn T S m (used (names_read T c.args.held.now) (length S.cells) (part_read T S p ∷ []) (names_read T c.args.chosen.now) (tree_of T S m.result)) T S c.take_antecedent.new.made) (sym c.in-Antecedent.is)
    c.in_ok-take_antecedent-in-Antecedent.ensures.goes

pub returns-in_ok-open_with-in-Given-clause-stages : goal.returns-in_ok-open_with-in-Given-clause-stages
returns-in_ok-open_with-in-Given-clause-stages g c = λ yes.
    let T = c.args.types.now in
    let S = c.args.store.now in
    subst (λ p. GoesOnBy T S c.args.made.now (stages_of (names_read T c.args.held.now) (length S.cells) (part_read T S p ∷ []) (names_read T c.args.chosen.now)) T c.open_with.new.store c.open_with.new.made) (sym c.in-Given.is) c.in_ok-open_with-in-Given.ensures.stages

pub returns-in-len1-up-clause-stages : goal.returns-in-len1-up-clause-stages
returns-in-len1-up-clause-stages g c = λ yes.
    let T = c.args.types.now in
    let S = c.args.store.now in
    let X = c.put_constant.new.store in
    let n = c.put_constant.new.made in
    let held = names_read T c.args.held.now in
    subst (λ p. GoesOnBy T S c.args.made.now (stages_of held (length S.cells) (part_read T S p ∷ []) (names_read T c.args.chosen.now)) T X n) (sym c.in-Constant.is)
    (subst (λ l. GoesOnBy T S c.args.made.now (stages_of held (length S.cells) (part_read T S (Constant c.in-Constant.field-0) ∷ []) (names_read T l)) T X n) (sym (both c.args.chosen.now (record { number = 0; ty = record { 0 = 0 } }) c.in-len1-up.len_at_least))
    (c.put_constant.ensures.stages yes))

pub returns-in_ok-take_antecedent-in-Antecedent-clause-stages : goal.returns-in_ok-take_antecedent-in-Antecedent-clause-stages
returns-in_ok-take_antecedent-in-Antecedent-clause-stages g c = λ yes.
    let T = c.args.types.now in
    let S = c.args.store.now in
    subst (λ p. GoesOnBy T S c.args.made.now (stages_of (names_read T c.args.held.now) (length S.cells) (part_read T S p ∷ []) (names_read T c.args.chosen.now)) T S c.take_antecedent.new.made) (sym c.in-Antecedent.is)
    c.in_ok-take_antecedent-in-Antecedent.ensures.stages
