use Rattle.ab_norm.proofs.Frame.{if_ok}
use Rattle.ab_norm.proofs.Matched.{other_heads, nominal_heads}
use Rattle.ab_norm.proofs.equality_up_to_names.match_heads.Goals as goal

pub returns-in_default : goal.returns-in_default
returns-in_default c = record {
  one = c.requires.one;
  found = λ types store ok ha hb held. other_heads types ok store c.args.a c.args.b c.is_same_head.result c.args.decided.now.items c.in_default.not-Nominal ha hb held c.is_same_head.ensures;
}

pub returns-in-Nominal-b-clause-found : goal.returns-in-Nominal-b-clause-found
returns-in-Nominal-b-clause-found c =
    if_ok c.match_nominals.result (λ answer found types store ok ha hb held.
    nominal_heads types store c.args.a c.args.b c.in-Nominal.number c.in-Nominal-b.other c.in-Nominal.ty c.in-Nominal-b.other_ty answer c.args.decided.now.items c.match_nominals.new.decided.items
    c.in-Nominal.is c.in-Nominal-b.is
    (found types ok (rw c.in-Nominal.is at ha) (rw c.in-Nominal-b.is at hb) held)) c.match_nominals.ensures.found
