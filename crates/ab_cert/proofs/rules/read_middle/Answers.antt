use Rattle.std.proofs.Common.{◌≡◌, [], ◌∷◌, map, refl, sym, ap, ◌∙◌, rules}
use Rattle.ab_cert.specs.Tables.{a_name, a_label, a_flag, a_place, a_term, some_numbers, some_labels, some_replaces}
use Rattle.ab_cert.proofs.Fields.{name_field, label_field, flag_field, place_field, term_field, numbers_field, labels_field, replaces_field, one, more, arm, bare_arm, rule_within}
use Rattle.ab_cert.proofs.rules.read_middle.Goals as goal

pub returns-in-10 : goal.returns-in-10
returns-in-10 c = bare_arm 10 c.args.rule _ refl (search rules)

pub returns-in_ok-name-in-11 : goal.returns-in_ok-name-in-11
returns-in_ok-name-in-11 c = arm (a_name ∷ a_term ∷ a_label ∷ []) (more a_name (a_term ∷ a_label ∷ []) name_field (more a_term (a_label ∷ []) term_field (one a_label label_field))) 11 refl c.args.rule (c.in_ok-name-in-11.name, (c.in_ok-name-in-11.term, c.in_ok-name-in-11.label)) _ _ (search rules) c.in_ok-name-in-11.ensures

pub returns-in_ok-read-in-12 : goal.returns-in_ok-read-in-12
returns-in_ok-read-in-12 c = arm (a_term ∷ []) (one a_term term_field) 12 refl c.args.rule c.in_ok-read-in-12.field-0 _ _ (search rules) c.in_ok-read-in-12.ensures

pub returns-in_ok-name-in-13 : goal.returns-in_ok-name-in-13
returns-in_ok-name-in-13 c = arm (a_name ∷ a_label ∷ []) (more a_name (a_label ∷ []) name_field (one a_label label_field)) 13 refl c.args.rule (c.in_ok-name-in-13.name, c.in_ok-name-in-13.label) _ _ (search rules) c.in_ok-name-in-13.ensures

pub returns-in-14 : goal.returns-in-14
returns-in-14 c = bare_arm 14 c.args.rule _ refl (search rules)

pub returns-in_ok-name-in-15 : goal.returns-in_ok-name-in-15
returns-in_ok-name-in-15 c = arm (a_name ∷ a_label ∷ []) (more a_name (a_label ∷ []) name_field (one a_label label_field)) 15 refl c.args.rule (c.in_ok-name-in-15.name, c.in_ok-name-in-15.label) _ _ (search rules) c.in_ok-name-in-15.ensures

pub returns-in-16 : goal.returns-in-16
returns-in-16 c = bare_arm 16 c.args.rule _ refl (search rules)

pub returns-in_ok-read-in-17 : goal.returns-in_ok-read-in-17
returns-in_ok-read-in-17 c = arm (a_name ∷ []) (one a_name name_field) 17 refl c.args.rule c.in_ok-read-in-17.field-0 _ _ (search rules) c.in_ok-read-in-17.ensures

pub returns-in_ok-read-in-18 : goal.returns-in_ok-read-in-18
returns-in_ok-read-in-18 c = arm (a_place ∷ []) (one a_place place_field) 18 refl c.args.rule c.in_ok-read-in-18.field-0 _ _ (search rules) c.in_ok-read-in-18.ensures

pub returns-in_ok-name-in_default : goal.returns-in_ok-name-in_default
returns-in_ok-name-in_default c = λ x rest k q e.
    let within = rule_within x k in
    let low = within.0 in
    let high = within.1 in
    let last : c.args.rule ≡ 19 = search rules in
    arm (a_name ∷ a_label ∷ []) (more a_name (a_label ∷ []) name_field (one a_label label_field)) 19 refl c.args.rule (c.in_ok-name-in_default.name, c.in_ok-name-in_default.label) _ _ last c.in_ok-name-in_default.ensures x rest k q e
