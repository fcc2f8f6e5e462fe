use Rattle.std.proofs.Common.{◌∙◌, sym}
use Rattle.ab_print.proofs.Stems.{stem_of_digit, stem_of_other}
use Rattle.ab_print.proofs.bound_names.+stem.Goals as goal

pub returns-in-len1-up : goal.returns-in-len1-up
returns-in-len1-up t c = c.stem.ensures ∙ stem_of_digit c.args.name.now c.in-len1-up.len_at_least (sym c.is_ascii_digit.ensures.value ∙ c.if-is_ascii_digit.true)

pub returns-in_default-2 : goal.returns-in_default-2
returns-in_default-2 t c = sym (stem_of_other c.args.name.now c.in-len1-up.len_at_least (sym c.is_ascii_digit.ensures.value ∙ c.if-is_ascii_digit.false))
