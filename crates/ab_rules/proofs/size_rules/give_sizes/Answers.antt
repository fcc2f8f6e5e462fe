use Rattle.std.specs.List.{All}
use Rattle.std.specs.Option.{option_map}
use Rattle.std.proofs.Common.{◌≡◌, List, [], ◌∷◌, map, Some, sym, ap, ◌∙◌, subst, arith}
use Rattle.std.proofs.lemmas.List.Elements.{All-cons, All-nil}
use Rattle.ab_term.specs.Terms.{Read}
use Rattle.ab_norm.specs.ab_store.specs.declared.node.TermId.{TermId}
use Rattle.ab_unify.specs.Problem.{cells_read}
use Rattle.ab_formulas.specs.Sequents.{Sequent, proving}
use Rattle.ab_logic.specs.SequentReadings.{sequent_of, HoldsSequent}
use Rattle.ab_logic.specs.Worlds.{Holds, read, declarations_of}
use Rattle.ab_logic.specs.declared.sequent.Sequent.{Sequent as Kept}
use Rattle.ab_logic.proofs.Growing.{same_sequent, still_held}
use Rattle.ab_theory.specs.Conjuncts.{conjuncts, with_parts}
use Rattle.ab_theory.specs.Row.{Takes}
use Rattle.ab_theory.specs.Rules.{by_hint}
use Rattle.ab_sequents.specs.Kinds.{are_plain, marked_by, signs_by}
use Rattle.ab_sequents.proofs.PartSizes.{some_there, all_plain, some_marked}
use Rattle.ab_rules.specs.RuleAnswers.{label_of, row_at}
use Rattle.ab_rules.specs.SizeSteps.{Assumes, AssumesNot, same_by, smaller_by, step_by}
use Rattle.ab_rules.proofs.SizeRows.{has_marks, no_names, gets_sizes}
use Rattle.ab_rules.proofs.size_rules.give_sizes.Goals as goal

pub returns-then-not-unmarked-clause-answers : goal.returns-then-not-unmarked-clause-answers
returns-then-not-unmarked-clause-answers c =
    let w = c.args.world.now in
    let D = declarations_of w in
    let k = c.args.kind in
    let ns = c.args.places.now in
    let s = sequent_of w c.args.sequent.now in
    let parts : map (read w) c.as_slice.result.now ≡ conjuncts s.conclusion = ap (map (read w)) c.as_slice.ensures.value ∙ c.in_ok-parts.ensures.reads in
    let signs = some_there (signs_by k D ns (conjuncts s.conclusion)) c.in-Some.unmarked
    (sym c.in-Some.is ∙ c.are_unmarked.ensures ∙ ap (λ (Fs : List Read). option_map are_plain (signs_by k D ns Fs)) parts) in
    has_marks D (by_hint D (cells_read w.types w.store)) ns (map label_of c.args.given.now) s signs.0 k signs.1 (some_marked signs.0 (signs.2 ∙ c.if-not-unmarked.true))

pub returns-in_default-2-clause-answers : goal.returns-in_default-2-clause-answers
returns-in_default-2-clause-answers c =
    let w = c.args.world.now in
    let v = c.sizes_of.new.world in
    let D = declarations_of w in
    let k = c.args.kind in
    let ns = c.args.places.now in
    let ls = map label_of c.args.given.now in
    let s = sequent_of w c.args.sequent.now in
    let parts : map (read w) c.as_slice.result.now ≡ conjuncts s.conclusion = ap (map (read w)) c.as_slice.ensures.value ∙ c.in_ok-parts.ensures.reads in
    let signs = some_there (signs_by k D ns (conjuncts s.conclusion)) c.in-Some.unmarked
    (sym c.in-Some.is ∙ c.are_unmarked.ensures ∙ ap (λ (Fs : List Read). option_map are_plain (signs_by k D ns Fs)) parts) in
    let smaller : map (read v) c.as_slice-3.result.now ≡ marked_by k ns (smaller_by k c.in-Some-next_level.level) (conjuncts s.conclusion) =
    ap (map (read v)) c.as_slice-3.ensures.value
    ∙ c.in_ok-sizes.ensures.assumed.1
    ∙ ap (λ (ts : List TermId). marked_by k ns (smaller_by k c.in-Some-next_level.level) (map (read w) ts)) c.as_slice-2.ensures.value
    ∙ ap (marked_by k ns (smaller_by k c.in-Some-next_level.level)) c.in_ok-parts.ensures.reads in
    let here : sequent_of v c.in_ok-copy.field-0 ≡ s = ap (sequent_of v) c.in_ok-copy.ensures ∙ same_sequent w v c.sizes_of.ensures.grows c.args.sequent.now c.requires.held in
    let none : AssumesNot ls (map (read v) c.as_slice-3.result.now) (sequent_of v c.in_ok-copy.field-0) = rw c.in_default-2.is at (c.in_ok-premise.ensures.assumes v) in
    no_names D (by_hint D (cells_read w.types w.store)) ns ls s signs.0 k signs.1 (all_plain signs.0 (signs.2 ∙ c.if-not-unmarked.false))
    (subst (λ i. AssumesNot ls (marked_by k ns (smaller_by k i) (conjuncts s.conclusion)) s) c.in-Some-next_level.ensures
    (subst (AssumesNot ls (marked_by k ns (smaller_by k c.in-Some-next_level.level) (conjuncts s.conclusion))) here
    (subst (λ (Fs : List Read). AssumesNot ls Fs (sequent_of v c.in_ok-copy.field-0)) smaller none)))

pub returns-clause-answers : goal.returns-clause-answers
returns-clause-answers c =
    let w = c.args.world.now in
    let v = c.sizes_of.new.world in
    let D = declarations_of w in
    let k = c.args.kind in
    let ns = c.args.places.now in
    let ls = map label_of c.args.given.now in
    let s = sequent_of w c.args.sequent.now in
    let level = c.in-Some-next_level.level in
    let parts : map (read w) c.as_slice.result.now ≡ conjuncts s.conclusion = ap (map (read w)) c.as_slice.ensures.value ∙ c.in_ok-parts.ensures.reads in
    let signs = some_there (signs_by k D ns (conjuncts s.conclusion)) c.in-Some.unmarked
    (sym c.in-Some.is ∙ c.are_unmarked.ensures ∙ ap (λ (Fs : List Read). option_map are_plain (signs_by k D ns Fs)) parts) in
    let smaller : map (read v) c.as_slice-3.result.now ≡ marked_by k ns (smaller_by k level) (conjuncts s.conclusion) =
    ap (map (read v)) c.as_slice-3.ensures.value
    ∙ c.in_ok-sizes.ensures.assumed.1
    ∙ ap (λ (ts : List TermId). marked_by k ns (smaller_by k level) (map (read w) ts)) c.as_slice-2.ensures.value
    ∙ ap (marked_by k ns (smaller_by k level)) c.in_ok-parts.ensures.reads in
    let same : read v c.in_ok-sizes.sizes.derived ≡ with_parts (marked_by k ns (same_by k level) (conjuncts s.conclusion)) s.conclusion =
    c.in_ok-sizes.ensures.derived.1
    ∙ ap (λ (ts : List TermId). with_parts (marked_by k ns (same_by k level) (map (read w) ts)) s.conclusion) c.as_slice-2.ensures.value
    ∙ ap (λ (Fs : List Read). with_parts (marked_by k ns (same_by k level) Fs) s.conclusion) c.in_ok-parts.ensures.reads in
    let here : sequent_of v c.in_ok-copy.field-0 ≡ s = ap (sequent_of v) c.in_ok-copy.ensures ∙ same_sequent w v c.sizes_of.ensures.grows c.args.sequent.now c.requires.held in
    let premise = c.in-Some-2.premise in
    let named : Assumes ls (map (read v) c.as_slice-3.result.now) (sequent_of v c.in_ok-copy.field-0) (sequent_of v premise) = rw c.in-Some-2.is at (c.in_ok-premise.ensures.assumes v) in
    let assumed = subst (λ i. Assumes ls (marked_by k ns (smaller_by k i) (conjuncts s.conclusion)) s (sequent_of v premise)) c.in-Some-next_level.ensures
    (subst (λ (r : Sequent). Assumes ls (marked_by k ns (smaller_by k level) (conjuncts s.conclusion)) r (sequent_of v premise)) here
    (subst (λ (Fs : List Read). Assumes ls Fs (sequent_of v c.in_ok-copy.field-0) (sequent_of v premise)) smaller named)) in
    let there : HoldsSequent v c.in_ok-copy.field-0 = subst (HoldsSequent v) (sym c.in_ok-copy.ensures) (still_held w v c.sizes_of.ensures.grows c.args.sequent.now c.requires.held) in
    let formulas : All (Holds v) c.as_slice-3.result.now = subst (All (Holds v)) (sym c.as_slice-3.ensures.value) c.in_ok-sizes.ensures.assumed.0 in
    let kept : HoldsSequent v premise = rw c.in-Some-2.is at (c.in_ok-premise.ensures.held v formulas there) in
    let takes = gets_sizes D (by_hint D (cells_read w.types w.store)) ns ls s signs.0 k (sequent_of v premise) signs.1 (all_plain signs.0 (signs.2 ∙ c.if-not-unmarked.false)) assumed in
    let reads =
    c.with_conclusion.ensures.reads v
    ∙ ap (λ (F : Read). proving F (sequent_of v premise)) same
    ∙ ap (λ i. proving (with_parts (marked_by k ns (same_by k i) (conjuncts s.conclusion)) s.conclusion) (sequent_of v premise)) c.in-Some-next_level.ensures in (
      subst (Takes (row_at w (step_by k ns ls) c.args.sequent.now)) (sym (ap (λ (qs : List Kept). map (sequent_of v) qs) c.in_ok-one.ensures ∙ ap (λ (q : Sequent). q ∷ []) reads)) takes,
      subst (λ (qs : List Kept). All (HoldsSequent v) qs) (sym c.in_ok-one.ensures) (All-cons (HoldsSequent v) c.with_conclusion.result [] (c.with_conclusion.ensures.held v kept c.in_ok-sizes.ensures.derived.0) (All-nil (HoldsSequent v))),
    )
