use Rattle.std.proofs.Common.{◌≡◌, [], ◌∷◌, map, refl, sym, ap, ◌∙◌, rules}
use Rattle.ab_cert.specs.Tables.{a_name, a_label, a_flag, a_place, a_term, some_numbers, some_labels, some_replaces}
use Rattle.ab_cert.specs.Plain.{numbers, labels}
use Rattle.ab_cert.specs.Members.{members_of}
use Rattle.ab_cert.specs.Values.{step, label_of}
use Rattle.ab_cert.proofs.NodeTrees.{map_same}
use Rattle.ab_cert.proofs.Fields.{name_field, label_field, flag_field, place_field, term_field, numbers_field, labels_field, replaces_field, one, more, arm, bare_arm, rule_within}
use Rattle.ab_cert.proofs.rules.read_late.Goals as goal

pub returns-in_ok-places-in-20 : goal.returns-in_ok-places-in-20
returns-in_ok-places-in-20 c = λ x rest k q e.
    let r = arm (some_numbers ∷ some_labels ∷ []) (more some_numbers (some_labels ∷ []) numbers_field (one some_labels labels_field)) 20 refl c.args.rule (c.in_ok-places-in-20.places, c.in_ok-places-in-20.labels) _ _ (search rules) c.in_ok-places-in-20.ensures x rest k q e in
    (ap (λ ns. step 20 (numbers ns ∷ labels (map label_of (members_of c.in_ok-places-in-20.labels)) ∷ [])) (sym (map_same (members_of c.in_ok-places-in-20.places))) ∙ r.0, r.1)

pub returns-in_ok-read-in-21 : goal.returns-in_ok-read-in-21
returns-in_ok-read-in-21 c = arm (some_labels ∷ []) (one some_labels labels_field) 21 refl c.args.rule c.in_ok-read-in-21.field-0 _ _ (search rules) c.in_ok-read-in-21.ensures

pub returns-in_ok-term-in-22 : goal.returns-in_ok-term-in-22
returns-in_ok-term-in-22 c = arm (a_term ∷ a_label ∷ []) (more a_term (a_label ∷ []) term_field (one a_label label_field)) 22 refl c.args.rule (c.in_ok-term-in-22.term, c.in_ok-term-in-22.label) _ _ (search rules) c.in_ok-term-in-22.ensures

pub returns-in_ok-name-in-23 : goal.returns-in_ok-name-in-23
returns-in_ok-name-in-23 c = arm (a_name ∷ a_label ∷ []) (more a_name (a_label ∷ []) name_field (one a_label label_field)) 23 refl c.args.rule (c.in_ok-name-in-23.name, c.in_ok-name-in-23.label) _ _ (search rules) c.in_ok-name-in-23.ensures

pub returns-in_ok-read-in-24 : goal.returns-in_ok-read-in-24
returns-in_ok-read-in-24 c = arm (a_name ∷ []) (one a_name name_field) 24 refl c.args.rule c.in_ok-read-in-24.field-0 _ _ (search rules) c.in_ok-read-in-24.ensures

pub returns-in_ok-name-in-25 : goal.returns-in_ok-name-in-25
returns-in_ok-name-in-25 c = arm (a_name ∷ a_name ∷ a_label ∷ []) (more a_name (a_name ∷ a_label ∷ []) name_field (more a_name (a_label ∷ []) name_field (one a_label label_field))) 25 refl c.args.rule (c.in_ok-name-in-25.name, (c.in_ok-name-in-25.other, c.in_ok-name-in-25.label)) _ _ (search rules) c.in_ok-name-in-25.ensures

pub returns-in_ok-name-in-26 : goal.returns-in_ok-name-in-26
returns-in_ok-name-in-26 c = arm (a_name ∷ some_replaces ∷ a_label ∷ []) (more a_name (some_replaces ∷ a_label ∷ []) name_field (more some_replaces (a_label ∷ []) replaces_field (one a_label label_field))) 26 refl c.args.rule (c.in_ok-name-in-26.name, (c.in_ok-name-in-26.replaces, c.in_ok-name-in-26.label)) _ _ (search rules) c.in_ok-name-in-26.ensures

pub returns-in_ok-name-in-27 : goal.returns-in_ok-name-in-27
returns-in_ok-name-in-27 c = arm (a_name ∷ a_term ∷ a_label ∷ []) (more a_name (a_term ∷ a_label ∷ []) name_field (more a_term (a_label ∷ []) term_field (one a_label label_field))) 27 refl c.args.rule (c.in_ok-name-in-27.name, (c.in_ok-name-in-27.term, c.in_ok-name-in-27.label)) _ _ (search rules) c.in_ok-name-in-27.ensures

pub returns-in_default : goal.returns-in_default
returns-in_default c = λ x rest k q e.
    let within = rule_within x k in
    let low = within.0 in
    let high = within.1 in
    let last : c.args.rule ≡ 28 = search rules in
    bare_arm 28 c.args.rule _ refl last x rest k q e
