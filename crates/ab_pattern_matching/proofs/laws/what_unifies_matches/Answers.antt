use Rattle.std.proofs.Common.{[]}
use Rattle.ab_unifiers.proofs.Following.{only_on}
use Rattle.ab_pattern_matching.proofs.Begun.{guess_over, guess_fits, given_alike, none_held}
use Rattle.ab_pattern_matching.proofs.Solved.{problem_read}
use Rattle.ab_pattern_matching.proofs.PutIn.{unifies_in_turn, kept_fits, all_put_typed, all_put_without, all_put_alike, turn_put}
use Rattle.ab_pattern_matching.proofs.laws.what_unifies_matches.Goals as goal

pub returns : goal.returns
returns g c = λ sg x es ds cells more others ys zs q f d k o i m w l p closed put k2 o2.
    let fits = guess_fits sg ys [] f (guess_over sg ys f i) in
    let alike = given_alike f es m in
    unifies_in_turn sg x ds others zs [] (only_on zs f) (all_put_typed sg ys zs f fits w closed es ds put d) k2 o2 (none_held ds) (kept_fits sg ys zs f fits w closed)
    (all_put_alike sg ys zs f fits w closed es ds put d alike)
    (all_put_without sg ys zs f fits w closed es ds put l)
    (turn_put sg ys zs f fits w closed es ds put d (problem_read sg x es cells ys [] f d k o (none_held es) fits alike zs w l more q p))
