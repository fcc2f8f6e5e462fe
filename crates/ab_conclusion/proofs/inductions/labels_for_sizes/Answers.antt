use Rattle.std.specs.Option.{option_map}
use Rattle.std.proofs.Common.{◌≡◌, ℕ, List, Some, None, length, map, sym, ◌∙◌, ap, subst}
use Rattle.std.proofs.lemmas.List.{length-map}
use Rattle.ab_term.specs.Terms.{Read}
use Rattle.ab_logic.specs.SequentReadings.{sequent_of}
use Rattle.ab_logic.specs.Worlds.{declarations_of, read}
use Rattle.ab_theory.specs.Conjuncts.{conjuncts}
use Rattle.ab_steps.specs.ab_kernel.specs.ab_judgements.specs.ab_alternatives.specs.ab_equations.specs.Labels.{label_of}
use Rattle.ab_steps.specs.ab_kernel.specs.ab_judgements.specs.ab_alternatives.specs.ab_sequents.specs.Kinds.{are_plain, signs_by}
use Rattle.ab_steps.specs.ab_kernel.specs.ab_judgements.specs.ab_alternatives.specs.ab_sequents.proofs.PartSizes.{some_there, all_plain, some_marked}
use Rattle.ab_meaning.specs.Refusals.{clash}
use Rattle.ab_steps.specs.declared.fault.ProofCommandFault.{ProofCommandFault}
use Rattle.ab_steps.specs.declared.fault.ProofCommandFault.TheVariants.{Mark}
use Rattle.ab_conclusion.specs.InductionSizes.{AreNamedBy, GetsNoSizes, word_by}
use Rattle.ab_conclusion.proofs.inductions.labels_for_sizes.Goals as goal

pub returns-then-not-unmarked-clause-refused : goal.returns-then-not-unmarked-clause-refused
returns-then-not-unmarked-clause-refused c fault same =
    let w = c.args.world.now in
    let D = declarations_of w in
    let l = label_of c.args.label.now in
    let s = sequent_of w c.args.goal.now in
    let k = c.args.kind in
    let ns = c.args.places.now in
    let told : Some c.in-Some-are_unmarked.unmarked ≡ option_map are_plain (signs_by k D ns (conjuncts s.conclusion)) =
    sym c.in-Some-are_unmarked.is ∙ c.are_unmarked.ensures
    ∙ ap (λ ts. option_map are_plain (signs_by k D ns (map (read w) ts))) c.as_slice.ensures.value
    ∙ ap (λ (Fs : List Read). option_map are_plain (signs_by k D ns Fs)) c.in_ok-parts.ensures.reads in
    let there = some_there (signs_by k D ns (conjuncts s.conclusion)) c.in-Some-are_unmarked.unmarked told in
    let is : Mark ≡ fault = cc in
    subst (GetsNoSizes D l s k ns) is
    (sym c.in_ok-taken.ensures ∙ ap (option_map clash) c.in_default.is, (there.0, there.1, some_marked there.0 (there.2 ∙ c.if-not-unmarked.true)))

pub returns-clause-named : goal.returns-clause-named
returns-clause-named c =
    let w = c.args.world.now in
    let D = declarations_of w in
    let l = label_of c.args.label.now in
    let s = sequent_of w c.args.goal.now in
    let k = c.args.kind in
    let ns = c.args.places.now in
    let ms = map label_of c.in_ok-hypothesis_labels.field-0.items in
    let told : Some c.in-Some-are_unmarked.unmarked ≡ option_map are_plain (signs_by k D ns (conjuncts s.conclusion)) =
    sym c.in-Some-are_unmarked.is ∙ c.are_unmarked.ensures
    ∙ ap (λ ts. option_map are_plain (signs_by k D ns (map (read w) ts))) c.as_slice.ensures.value
    ∙ ap (λ (Fs : List Read). option_map are_plain (signs_by k D ns Fs)) c.in_ok-parts.ensures.reads in
    let there = some_there (signs_by k D ns (conjuncts s.conclusion)) c.in-Some-are_unmarked.unmarked told in
    let counted : c.len.result ≡ length (conjuncts s.conclusion) =
    c.len.ensures ∙ sym c.as_slice.ensures.len ∙ ap length c.as_slice.ensures.value ∙ sym (length-map c.in_ok-parts.parts.items (read w)) ∙ ap length c.in_ok-parts.ensures.reads in
    record {
      free = sym c.in_ok-taken.ensures ∙ ap (option_map clash) c.in_default.is;
      signs = there.0;
      there = there.1;
      unmarked = all_plain there.0 (there.2 ∙ c.if-not-unmarked.false);
      named = subst (λ (n : ℕ). AreNamedBy (word_by k) l s n ms) counted
          (subst (λ (word : List ℕ). AreNamedBy word l s c.len.result ms) c.word.ensures c.in_ok-hypothesis_labels.ensures);
    }
