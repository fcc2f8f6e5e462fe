use Rattle.std.specs.Prelude.{All, unwrap_or}
use Rattle.std.proofs.Common.{[], ◌∷◌, map, take, sym, ◌∙◌, ap, subst}
use Rattle.std.proofs.lemmas.List.Elements.{All-cons, All-nil, All-append}
use Rattle.ab_uses.specs.GivenReadings.{given_of}
use Rattle.ab_hypothesis.specs.ab_steps.specs.ab_kernel.specs.ab_rules.specs.RuleAnswers.{replacements, HoldsReplace}
use Rattle.ab_proofcmd.specs.GivenTerms.{HoldsGiven}
use Rattle.ab_proofcmd.specs.ReplacedConstants.{replace_of}
use Rattle.ab_proofcmd.proofs.TermSets.{one_longer}
use Rattle.ab_proofcmd.proofs.ReplacedSets.{one_replaced}
use Rattle.ab_proofcmd.proofs.replaced_constants.replaces_of.Goals as goal

pub loop-term-preserved : goal.loop-term-preserved
loop-term-preserved c =
    let xs = c.args.given.now in
    let k = c.loop-term.term-index in
    let g = c.term-item.result in
    let rs = c.loop-term.replaces.items in
    let n = c.unwrap_or-number.result in (
      λ w.
          ap (replacements w) c.in_ok-push.ensures.items
          ∙ one_replaced w (map (given_of w) (take k xs)) rs g n (c.unwrap_or-number.ensures ∙ ap (λ o. unwrap_or o 0) c.nominal_number.ensures) (c.loop-term.invariant.0 w)
          ∙ ap (map replace_of) (sym (one_longer (given_of w) xs k g c.loop-term-test.true c.term-item.is)),
      λ w held.
          let there : HoldsGiven w g = subst (HoldsGiven w) (sym c.term-item.is) (held k g c.loop-term-test.true) in
          subst (All (HoldsReplace w)) (sym c.in_ok-push.ensures.items)
          (All-append (HoldsReplace w) rs (record { from = record { number = n; ty = g.ty }; to = g.value } ∷ []) (c.loop-term.invariant.1 w held)
          (All-cons (HoldsReplace w) (record { from = record { number = n; ty = g.ty }; to = g.value }) [] (there.1, there.0) (All-nil (HoldsReplace w)))),
    )
