use Rattle.std.proofs.Common.{◌≢◌, length, map, sym, ap, ◌∙◌, rules}
use Rattle.ab_term.specs.Terms.{logical, spine, terms_of}
use Rattle.ab_norm.specs.ab_store.specs.Trees.{logical_of}
use Rattle.ab_logic.specs.Forms.{sign_of}
use Rattle.ab_logic.specs.Worlds.{read}
use Rattle.ab_theory.specs.Judgements.{judgement_as}
use Rattle.ab_judgement_forms.proofs.JudgementForms.{not_two, not_three}
use Rattle.ab_judgement_forms.proofs.judgements.judgement_by.Goals as goal

pub returns-else-args-eq2-clause-reads : goal.returns-else-args-eq2-clause-reads
returns-else-args-eq2-clause-reads c =
    let w = c.args.world.now in
    let m = sign_of c.args.sign in
    let ts = terms_of (map (read w) c.args.args.now) in
    let other : length c.args.args.now ≢ 2 = search rules in
    sym (ap (λ l. judgement_as m (spine (logical (logical_of w.types l)) ts)) c.in-Judge.is ∙ not_two (read w) m c.args.args.now other)

pub returns-else-args-eq3-clause-reads : goal.returns-else-args-eq3-clause-reads
returns-else-args-eq3-clause-reads c =
    let w = c.args.world.now in
    let m = sign_of c.args.sign in
    let ts = terms_of (map (read w) c.args.args.now) in
    let other : length c.args.args.now ≢ 3 = search rules in
    sym (ap (λ l. judgement_as m (spine (logical (logical_of w.types l)) ts)) c.in-Focus.is ∙ not_three (read w) m c.args.args.now other)
