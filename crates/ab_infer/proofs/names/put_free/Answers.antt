use Rattle.std.proofs.Common.{refl}
use Rattle.std.specs.Prelude.{Ok}
use Rattle.ab_meaning.specs.ResolvedNames.{free}
use Rattle.ab_infer.proofs.Single.{grew_free}
use Rattle.ab_infer.proofs.names.put_free.Goals as goal

pub returns : goal.returns
returns c = λ types store.
    grew_free types store c.args.row.now _ c.args.name.now c.in_ok-number.number c.args.place (Ok (free c.args.name.now c.args.place)) refl c.in_ok-number.ensures
    c.in_ok-push-2.ensures.items c.in_ok-push.ensures.items refl refl
