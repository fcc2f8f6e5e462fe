use Rattle.std.proofs.Common.{subst, sym}
use Rattle.ab_grammar.specs.CommandTable.{IsNominal}
use Rattle.ab_syntax.proofs.Digits.{nominal_is, nominal_form}
use Rattle.ab_syntax.proofs.numbers.nominal.Goals as goal

pub returns-then-not-is_nominal : goal.returns-then-not-is_nominal
returns-then-not-is_nominal c = λ n h. let b = c.is_nominal.ensures.1 (nominal_form c.args.word.now n h) in let f = c.if-not-is_nominal.true in cc

pub returns : goal.returns
returns c = subst (IsNominal c.args.word.now) (sym c.value.ensures.value) (nominal_is c.args.word.now (c.is_nominal.ensures.0 c.if-not-is_nominal.false))
