use Rattle.ab_pattern_matching.proofs.Begun.{guess_fits, given_alike}
use Rattle.ab_pattern_matching.proofs.PutIn.{unifies_in_turn}
use Rattle.ab_pattern_matching.proofs.laws.what_is_read_off_unifies.Goals as goal

pub returns : goal.returns
returns g c = λ sg x es cells zs ns f d k o n i m l turn. unifies_in_turn sg x es cells zs ns f d k o n (guess_fits sg zs ns f i) (given_alike f es m) l turn
