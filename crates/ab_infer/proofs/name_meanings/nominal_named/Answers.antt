use Rattle.std.proofs.Common.{sym, ◌∙◌}
use Rattle.ab_infer.specs.NameScopes.{nominals_in}
use Rattle.ab_infer.proofs.Lookups.{settled_found, settled_none}
use Rattle.ab_infer.proofs.name_meanings.nominal_named.Goals as goal

pub returns-in-Some-settled_nominal : goal.returns-in-Some-settled_nominal
returns-in-Some-settled_nominal c = λ types store nodes p held.
    settled_found types store nodes c.args.name.now p c.args.place (nominals_in types c.args.nominals.now) c.in-Some.number c.settled_nominal.result c.in-Some-settled_nominal.found
    c.in-Proof.is (sym c.nominal_number.ensures ∙ c.in-Some.is) c.in-Some-settled_nominal.is (c.settled_nominal.ensures types store nodes c.args.name.now p held)

pub returns-in-None-settled_nominal : goal.returns-in-None-settled_nominal
returns-in-None-settled_nominal c = λ types store nodes p held.
    settled_none types store nodes c.args.name.now p c.args.place (nominals_in types c.args.nominals.now) c.in-Some.number c.settled_nominal.result
    c.in-Proof.is (sym c.nominal_number.ensures ∙ c.in-Some.is) c.in-None-settled_nominal.is (c.settled_nominal.ensures types store nodes c.args.name.now p held)
