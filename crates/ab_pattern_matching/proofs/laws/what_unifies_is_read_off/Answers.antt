use Rattle.std.proofs.Common.{[]}
use Rattle.ab_pattern_matching.proofs.Begun.{guess_over, guess_fits, given_alike, none_held}
use Rattle.ab_pattern_matching.proofs.Solved.{problem_read}
use Rattle.ab_pattern_matching.proofs.laws.what_unifies_is_read_off.Goals as goal

pub returns : goal.returns
returns g c = λ sg x es cells more ys zs q f d k o i m w l p. problem_read sg x es cells ys [] f d k o (none_held es) (guess_fits sg ys [] f (guess_over sg ys f i)) (given_alike f es m) zs w l more q p
