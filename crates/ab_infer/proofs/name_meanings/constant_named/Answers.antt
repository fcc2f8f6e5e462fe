use Rattle.std.proofs.Common.{ap, refl}
use Rattle.ab_norm.specs.ab_types.specs.Entries.{constants}
use Rattle.ab_meaning.specs.Scopes as scopes
use Rattle.ab_infer.proofs.Lookups.{no_type}
use Rattle.ab_infer.proofs.name_meanings.constant_named.Goals as goal

pub returns-in-None : goal.returns-in-None
returns-in-None c = λ store nodes p. ap (scopes.constant_at c.args.name.now) (no_type (constants c.args.types.now) c.args.name.now (c.look.ensures.absent.0 (rw c.in-None.is refl)))
