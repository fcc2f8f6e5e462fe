use Rattle.std.specs.Prelude.{slice_get}
use Rattle.std.specs.Option.{option_map}
use Rattle.std.proofs.Common.{List, None, sym, ◌∙◌, ap, subst}
use Rattle.ab_norm.proofs.Frame.{if_ok}
use Rattle.ab_logic.specs.Worlds.{read}
use Rattle.ab_theory.specs.SpecRules.{by_clause, by_part}
use Rattle.ab_judgement_forms.specs.PartReadings.{part_read}
use Rattle.ab_judgements.specs.RuleWalks.{clauses_of, list_slot, slots, rules_in, rule_in, AreParts, IsSource}
use Rattle.ab_judgement_forms.specs.declared.focus_parts.Part.{Part}
use Rattle.ab_judgements.proofs.RuleSlots.{at_part, numbered_rule}
use Rattle.ab_judgements.proofs.rule_places.rule_at.Goals as goal

pub returns-in-Focus-clause-reads : goal.returns-in-Focus-clause-reads
returns-in-Focus-clause-reads c =
    let w = c.args.world.now in
    let r = c.args.ruled.now in
    let ps = c.in-Focus.parts.items in
    if_ok c.part_rule.result
    (λ found f.
    f w
    ∙ ap (λ (l : List Part). option_map (λ p. by_part (part_read w.types w.store p)) (slice_get l c.args.place)) c.deref.ensures.value
    ∙ sym (at_part (part_read w.types w.store) ps c.args.place)
    ∙ ap (λ s. rule_in (slots w r.judgement s) c.args.place) (sym c.in-Focus.is))
    c.part_rule.ensures.reads

pub returns-in-Focus-clause-fits : goal.returns-in-Focus-clause-fits
returns-in-Focus-clause-fits c =
    let w = c.args.world.now in
    let j = c.args.ruled.now.judgement in
    if_ok c.part_rule.result (λ found f. f w j (subst (AreParts w j) (sym c.deref.ensures.value) (subst (IsSource w j) c.in-Focus.is c.requires.source))) c.part_rule.ensures.fits

pub returns-in-Program-clause-numbered : goal.returns-in-Program-clause-numbered
returns-in-Program-clause-numbered c =
    let w = c.args.world.now in
    let j = c.args.ruled.now.judgement in
    if_ok c.program_rule.result
    (λ found f.
    f
    ∙ numbered_rule by_clause (list_slot (read w j.context)) (clauses_of w (read w j.goal)) c.args.place
    ∙ ap (λ s. slice_get (rules_in (slots w j s)) c.args.place) (sym c.in-Program.is))
    c.program_rule.ensures.reads

pub returns-in-Focus-clause-numbered : goal.returns-in-Focus-clause-numbered
returns-in-Focus-clause-numbered c =
    let w = c.args.world.now in
    let r = c.args.ruled.now in
    let ps = c.in-Focus.parts.items in
    let by = λ (p : Part). by_part (part_read w.types w.store p) in
    if_ok c.part_rule.result
    (λ found f.
    f w
    ∙ ap (λ (l : List Part). option_map by (slice_get l c.args.place)) c.deref.ensures.value
    ∙ sym (at_part (part_read w.types w.store) ps c.args.place)
    ∙ numbered_rule by None ps c.args.place
    ∙ ap (λ s. slice_get (rules_in (slots w r.judgement s)) c.args.place) (sym c.in-Focus.is))
    c.part_rule.ensures.reads
