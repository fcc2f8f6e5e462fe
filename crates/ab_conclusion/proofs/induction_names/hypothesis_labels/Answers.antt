use Rattle.std.proofs.Common.{◌≡◌, ◌++◌, ◌+◌, ◌-◌, [], ◌∷◌, map, sym, ◌∙◌, ap, subst, append-nil, arith}
use Rattle.std.proofs.lemmas.List.{append_assoc, map-append}
use Rattle.ab_formulas.specs.NewNames.{given}
use Rattle.ab_formulas.specs.Sequents.{Sequent}
use Rattle.ab_logic.specs.SequentReadings.{sequent_of}
use Rattle.ab_logic.specs.Worlds.{read}
use Rattle.ab_steps.specs.ab_kernel.specs.ab_judgements.specs.ab_alternatives.specs.ab_equations.specs.Labels.{label_of}
use Rattle.ab_conclusion.specs.InductionSizes.{AreNamedBy, label_at}
use Rattle.ab_conclusion.proofs.NamingEach.{one_more, none_more}
use Rattle.ab_conclusion.proofs.induction_names.hypothesis_labels.Goals as goal

pub loop-index-preserved : goal.loop-index-preserved
loop-index-preserved c =
    let w = c.args.world.now in
    let l = label_of c.args.label.now in
    let word = c.args.word.now in
    let n = c.args.count in
    let i = c.loop-index.index in
    let name = c.in_ok-name.name in
    let told = map label_of c.loop-index.labels.items in
    let next = c.in_ok-with_those-2.ensures.reads w in
    let pushed : map label_of c.push.new.self.items ≡ told ++ given name ∷ [] =
    ap (map label_of) c.in_ok-push.ensures.items ∙ map-append label_of c.loop-index.labels.items _ ∙ ap (λ x. told ++ given x ∷ []) c.in_ok-copy.ensures in
    record {
      named = λ more rest.
          subst (AreNamedBy word l (sequent_of w c.args.goal.now) n) (sym (ap (λ xs. xs ++ more) pushed ∙ append_assoc told (given name ∷ []) more))
          (c.loop-index.invariant.named (given name ∷ more)
          (one_more word l (sequent_of w c.loop-index.with_those) i n name (read w c.args.goal.now.conclusion) more (omega arith) (sym c.loop-index.invariant.same) c.in_ok-name.ensures
          (subst (λ (t : Sequent). AreNamedBy word (label_at (i + 1) l) t (n - (i + 1)) more) next rest)));
      same = ap (λ (t : Sequent). t.conclusion) next ∙ c.loop-index.invariant.same;
    }

pub returns : goal.returns
returns c =
    let w = c.args.world.now in
    let l = label_of c.args.label.now in
    let told = map label_of c.loop-index.labels.items in
    subst (AreNamedBy c.args.word.now l (sequent_of w c.args.goal.now) c.args.count) (append-nil told)
    (c.loop-index.invariant.named [] (none_more c.args.word.now l (sequent_of w c.loop-index.with_those) c.loop-index.index c.args.count (omega arith)))
