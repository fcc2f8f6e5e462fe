-- WHAT UNIFIES, MATCHES, over other constants.
use Rattle.std.proofs.Common.{◌≡◌, ℕ, List, [], map, inr}
use Rattle.ab_term.specs.Terms.{Nominal, Variable}
use Rattle.ab_term.specs.Typing.{Signature}
use Rattle.ab_term.specs.Names.{permute}
use Rattle.ab_term.specs.Translation.{forget}
use Rattle.ab_term.specs.Variables.{Substitution, image_by}
use Rattle.ab_unifiers.specs.Replacements.{Cell}
use Rattle.ab_unifiers.specs.Unification.{Equation, unified, Solves}
use Rattle.ab_unifiers.specs.Unifiers.{given, AreTyped, AreKnown, AreOver}
use Rattle.ab_unifiers.specs.Clauses.{Each, Within}
use Rattle.ab_search_trees.specs.Lifting.{Guess, IsGuessFor, MakesEqual}
use Rattle.ab_pattern_matching.specs.Reading.{LeftsWithout, HoldNoneOf}
use Rattle.ab_pattern_matching.specs.Raising.{Bare, Raising, raised, AreRaised, AreRaisings, missing}
use Rattle.ab_pattern_matching.proofs.Begun.{guess_over, guess_fits, given_alike, none_held}
use Rattle.ab_pattern_matching.proofs.Solved.{problem_read}
use Rattle.ab_pattern_matching.proofs.PutIn.{unifies_in_turn}
use Rattle.ab_pattern_matching.proofs.Second.{second_guess, second_is_guess, second_agrees}
use Rattle.ab_pattern_matching.proofs.TwoWays.{turn_second, second_alike_sides}

pub matches_over : {Hint : Type 0} (sg : Signature) (x : Hint) (es ds : List (Equation Hint)) (cells more others : List (Cell Hint)) (ys ws : List (Variable ℕ)) (ts : List Bare) (r s : Raising) (ps : List (Nominal × Nominal)) (q : Substitution ℕ Hint) (f : Guess)
    → AreTyped sg es → AreKnown cells ys → AreOver cells es → IsGuessFor sg ys f → MakesEqual f es → Within (map (raised r) ws) ys → LeftsWithout (map (raised r) ws) es → Solves x (given es cells ys) (unified more q)
    → AreRaised r ws ts es → AreRaised s ws (map (permute ps) ts) ds → AreRaisings sg ws ts r s f ps → Each (λ (e d : Equation Hint). forget d.left ≡ permute ps (image_by f (forget e.left))) es ds
    → AreTyped sg ds → AreKnown others (map (raised s) ws) → AreOver others ds → LeftsWithout (map (raised s) ws) ds → HoldNoneOf (missing r s ps) ds
    → (most : List (Cell Hint)) × (p : Substitution ℕ Hint) × Solves x (given ds others (map (raised s) ws)) (unified most p)
matches_over sg x es ds cells more others ys ws ts r s ps q f d k o i m w l p a b two lefts d2 k2 o2 l2 n =
    let fits = guess_fits sg ys [] f (guess_over sg ys f i) in
    let alike = given_alike f es m in
    let zs = map (raised s) ws in
    let h = second_guess sg r s f ps two.permutation fits.typed i.nameless ws in
    let second = second_is_guess sg r s f ps two.permutation fits.typed i.nameless ws in
    let agree = second_agrees sg r s f ps two.permutation fits.typed i.nameless ws (λ v w j k e. two.numbers v w j k (inr e)) in
    unifies_in_turn sg x ds others zs (missing r s ps) h d2 k2 o2 n (guess_fits sg zs (missing r s ps) h second)
    (second_alike_sides sg ws ts r s f h ps two fits.typed i.nameless agree second.typed second.none ts (λ t m. m) es ds a b lefts l2 alike)
    l2
    (turn_second sg ws ts r s f h ps two fits.typed i.nameless agree second.typed second.none es ds a b (problem_read sg x es cells ys [] f d k o (none_held es) fits alike (map (raised r) ws) w l more q p))
