use Rattle.std.proofs.Common.{◌≡◌, ◌∙◌, sym, subst}
use Rattle.std.specs.Prelude.{Contains, IfSome}
use Rattle.ab_term.specs.Constants.{names}
use Rattle.ab_norm.specs.ab_types.specs.Entries.{constants}
use Rattle.ab_norm.specs.ab_types.specs.Ids.{HoldsConstant, constant_of}
use Rattle.ab_infer.proofs.Connectives.{is_there, has_constant}
use Rattle.ab_infer.proofs.Judgements.{on_ok, grew_constant}
use Rattle.ab_infer.proofs.judgement_parts.put_constant.Goals as goal

pub unwrap-id-requires : goal.unwrap-id-requires
unwrap-id-requires c =
    is_there c.look.result (λ n. c.look.ensures.absent.0 n (subst (Contains (names (constants c.args.types.now))) (sym c.in_ok-name.ensures) (has_constant c.args.types.now c.requires.table c.args.text.now c.requires.first)))

pub returns : goal.returns
returns c = λ store A typed first.
    let t = c.args.types.now in
    let id = c.unwrap-id.result in
    let held : HoldsConstant t id = subst (λ r. IfSome r (HoldsConstant t)) c.unwrap-id.ensures c.look.ensures.held in
    let name : (constant_of t id).name ≡ c.args.text.now = subst (λ r. IfSome r (λ k. (constant_of t k).name ≡ c.in_ok-name.name)) c.unwrap-id.ensures c.look.ensures.name ∙ c.in_ok-name.ensures in
    on_ok c.put.result
    (grew_constant t c.requires.table store c.args.row.now c.put.new.self c.args.text.now A id c.const_type.result typed first held name c.const_type.ensures.held c.const_type.ensures.signature) c.put.ensures
