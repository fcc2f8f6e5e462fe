use Rattle.std.proofs.Common.{◌≡◌, [], ◌∷◌, map, refl, sym, ap, ◌∙◌, rules}
use Rattle.ab_cert.specs.Tables.{a_name, a_label, a_flag, a_place, a_term, some_numbers, some_labels, some_replaces}
use Rattle.ab_cert.proofs.Fields.{name_field, label_field, flag_field, place_field, term_field, numbers_field, labels_field, replaces_field, one, more, arm, bare_arm, rule_within}
use Rattle.ab_cert.proofs.rules.read_early.Goals as goal

pub returns-in_ok-read-in-1 : goal.returns-in_ok-read-in-1
returns-in_ok-read-in-1 c = arm (a_name ∷ []) (one a_name name_field) 1 refl c.args.rule c.in_ok-read-in-1.field-0 _ _ (search rules) c.in_ok-read-in-1.ensures

pub returns-in-2 : goal.returns-in-2
returns-in-2 c = bare_arm 2 c.args.rule _ refl (search rules)

pub returns-in_ok-read-in-3 : goal.returns-in_ok-read-in-3
returns-in_ok-read-in-3 c = arm (a_name ∷ []) (one a_name name_field) 3 refl c.args.rule c.in_ok-read-in-3.field-0 _ _ (search rules) c.in_ok-read-in-3.ensures

pub returns-in-4 : goal.returns-in-4
returns-in-4 c = bare_arm 4 c.args.rule _ refl (search rules)

pub returns-in_ok-name-in-5 : goal.returns-in_ok-name-in-5
returns-in_ok-name-in-5 c = arm (a_name ∷ a_label ∷ a_label ∷ []) (more a_name (a_label ∷ a_label ∷ []) name_field (more a_label (a_label ∷ []) label_field (one a_label label_field))) 5 refl c.args.rule (c.in_ok-name-in-5.name, (c.in_ok-name-in-5.first, c.in_ok-name-in-5.second)) _ _ (search rules) c.in_ok-name-in-5.ensures

pub returns-in_ok-read-in-6 : goal.returns-in_ok-read-in-6
returns-in_ok-read-in-6 c = arm (a_flag ∷ []) (one a_flag flag_field) 6 refl c.args.rule c.in_ok-read-in-6.field-0 _ _ (search rules) c.in_ok-read-in-6.ensures

pub returns-in_ok-name-in-7 : goal.returns-in_ok-name-in-7
returns-in_ok-name-in-7 c = arm (a_name ∷ a_label ∷ []) (more a_name (a_label ∷ []) name_field (one a_label label_field)) 7 refl c.args.rule (c.in_ok-name-in-7.name, c.in_ok-name-in-7.label) _ _ (search rules) c.in_ok-name-in-7.ensures

pub returns-in_ok-read-in-8 : goal.returns-in_ok-read-in-8
returns-in_ok-read-in-8 c = arm (a_label ∷ []) (one a_label label_field) 8 refl c.args.rule c.in_ok-read-in-8.field-0 _ _ (search rules) c.in_ok-read-in-8.ensures

pub returns-in_ok-name-in_default : goal.returns-in_ok-name-in_default
returns-in_ok-name-in_default c = λ x rest k q e.
    let within = rule_within x k in
    let low = within.0 in
    let high = within.1 in
    let last : c.args.rule ≡ 9 = search rules in
    arm (a_name ∷ a_label ∷ []) (more a_name (a_label ∷ []) name_field (one a_label label_field)) 9 refl c.args.rule (c.in_ok-name-in_default.name, c.in_ok-name-in_default.label) _ _ last c.in_ok-name-in_default.ensures x rest k q e
