-- AN ALTERNATIVE IS UNIFIED WHEREVER its atom comes to stand: from a search's equations, with a guess that may leave variables open, to the equations of
-- a choice of constants at another atom, in which those variables have been replaced.
use Rattle.std.proofs.Common.{◌≡◌, ◌≢◌, ◌⊎◌, inr, ℕ, suc, ◌+◌, ◌<◌, ◌≤◌, List, [], ◌++◌, map, length, codes, true, Some}
use Rattle.std.specs.Prelude.{Contains, AllPairs}
use Rattle.ab_term.specs.Types.{Ty, kind, prop}
use Rattle.ab_term.specs.Terms.{Nominal, Variable, Terms, no_terms, term}
use Rattle.ab_term.specs.Typing.{Signature, HasType, TakeType, take_none, take_term}
use Rattle.ab_term.specs.Names.{moved_by, permute, support, IsPermutationTable}
use Rattle.ab_term.specs.Variables.{Substitution, variables, variables_of_all, image_by, image_all}
use Rattle.ab_term.specs.Sameness.{same_number}
use Rattle.ab_term.proofs.Images.{IsTypedMap}
use Rattle.ab_unifiers.specs.Replacements.{Cell, holds}
use Rattle.ab_unifiers.specs.Unification.{unified, Solves}
use Rattle.ab_unifiers.specs.Unifiers.{given, AreTyped, AreKnown, AreOver}
use Rattle.ab_unifiers.specs.Clauses.{Clause, Within, numbered, filled, IsClause}
use Rattle.ab_unifiers.specs.Alternatives.{cells_over, made_over, made_terms, arguments_equal}
use Rattle.ab_unifiers.proofs.Rows.{numbered_within}
use Rattle.ab_unifiers.proofs.Unifier.{arguments_of}
use Rattle.ab_search_trees.specs.Lifting.{Guess, IsGuessFor, MakesEqual}
use Rattle.ab_pattern_matching.specs.Reading.{HoldNoneOf, IsGuessOver}
use Rattle.ab_pattern_matching.specs.Raising.{Bare, raised_term, AreRaised}
use Rattle.ab_pattern_matching.proofs.Again.{Goods, goods, sides_of, sides_all, first_each, lefts_low}
use Rattle.ab_pattern_matching.proofs.OfClauses.{from_to, second_raised, side_typed, side_holds, side_constants}
use Rattle.ab_search_clauses.proofs.Atoms.{not_both}
use Rattle.ab_search_clauses.proofs.Keeping.{Passes}
use Rattle.ab_search_clauses.proofs.Standing.{unified_alone}

-- the clause's variables are those of so many numbers from n on in the search, and from k on where it comes to stand
module _ (sg : Signature) (c : Clause (List ℕ)) (clause : IsClause sg c) (ns : List Nominal) (types : map (λ a. a.type) ns ≡ map (λ (z : Cell (List ℕ)). z.type) c.names) (ps : List (Nominal × Nominal)) (permutation : IsPermutationTable ps) (n k : ℕ) (left right : List Nominal) where
  abbrev x : List ℕ
  x = codes "x"

  -- numbers for a third, between them
  abbrev pub amid : ℕ
  amid = n + length c.variables

  abbrev pub high : ℕ
  high = n + (n + length c.variables) + length c.variables

  abbrev ws : List (Variable ℕ)
  ws = numbered (n + (n + length c.variables)) c.variables

  abbrev put_at : ℕ → Substitution ℕ (List ℕ)
  put_at to = filled x c (made_terms x to right c.variables) (map (moved_by ps) ns)

  abbrev first_put : Substitution ℕ (List ℕ)
  first_put = filled x c (made_terms x n left c.variables) ns

  abbrev pub head : (D : Ty) × (sg c.predicate ≡ Some D) × TakeType sg [] c.arguments D prop
  head = arguments_of sg x clause.head

  all_good : Goods sg x c ns types ps permutation n amid left right c.arguments
  all_good = goods sg x c ns types ps permutation n amid left right c.arguments head.2 clause.head_variables clause.head_without_constants

  abbrev sides : Terms ℕ (List ℕ) → Terms ℕ (List ℕ) → List Bare
  sides = sides_of sg x c ns types ps permutation n amid left right

  -- the sides, raised to whatever numbers
  made_each : {D : Ty} {l l2 l3 : List ℕ} (to p : ℕ) (ts ss us : Terms ℕ (List ℕ)) → TakeType sg [] ts D (kind l) → TakeType sg [] ss D (kind l2) → TakeType sg [] us D (kind l3) → Goods sg x c ns types ps permutation n amid left right us
      → AreRaised (from_to (n + amid) to right) ws (map (permute ps) (sides ts us)) (arguments_equal x p ss (image_all same_number (put_at to) us))
  made_each to p no_terms no_terms no_terms take_none take_none take_none g = tt
  made_each {l = l} to p no_terms no_terms (term u us) d e f g = absurd (not_both sg l d f)
  made_each {l = l} to p no_terms (term s ss) us d e f g = absurd (not_both sg l d e)
  made_each {l2 = l2} to p (term t ts) no_terms us d e f g = absurd (not_both sg l2 e d)
  made_each {l3 = l3} to p (term t ts) (term s ss) no_terms d e f g = absurd (not_both sg l3 f d)
  made_each to p (term t ts) (term s ss) (term u us) (take_term d ds) (take_term e es) (take_term f fs) g =
      (second_raised sg x c n to left right ns types ps permutation (n + amid) u g.0.typed g.0.own g.0.none, made_each to (suc p) ts ss us ds es fs g.1)

  -- the sides are over the fresh variables, and hold constants of the clause's names alone
  sides_right : ((a : Nominal) → Contains ns a → ¬ (Contains right (moved_by ps a))) → (ts us : Terms ℕ (List ℕ)) → Goods sg x c ns types ps permutation n amid left right us → (t : Bare) → Contains (sides ts us) t
      → ((G : List Ty) × (A : Ty) × HasType sg G t A) × ((y : Variable ℕ) → holds (variables t) y ≡ true → holds ws y ≡ true) × ((a : Nominal) → Contains (support t) a → Contains left a ⊎ ¬ (Contains right (moved_by ps a)))
  sides_right apart = sides_all sg x c ns types ps permutation n amid left right
      (λ t. ((G : List Ty) × (A : Ty) × HasType sg G t A) × ((y : Variable ℕ) → holds (variables t) y ≡ true → holds ws y ≡ true) × ((a : Nominal) → Contains (support t) a → Contains left a ⊎ ¬ (Contains right (moved_by ps a))))
      (λ u i. (
        ([], i.type, side_typed sg x c n amid left right ns types ps permutation (n + amid) i.typed),
        (side_holds sg x c n amid left right ns types ps permutation (n + amid) u i.own),
        (λ a m. inr (apart a (side_constants sg x c n amid left right ns types ps permutation (n + amid) u i.none a m))),
      ))

  module _ (f : Guess) (f_typed : IsTypedMap sg f) (outside : (y : Variable ℕ) (v : Bare) → f y ≡ Some v → (z : Variable ℕ) → holds (variables v) z ≡ true → (z.name < n) ⊎ (high ≤ z.name))
      (A : Terms ℕ (List ℕ)) (A_takes : TakeType sg [] A head.0 prop) (low : (y : Variable ℕ) → holds (variables_of_all A) y ≡ true → y.name < n)
      (cells more : List (Cell (List ℕ))) (olds : List (Variable ℕ)) (q : Substitution ℕ (List ℕ))
      (typed : AreTyped sg (arguments_equal x 0 A (image_all same_number first_put c.arguments))) (known : AreKnown cells (olds ++ made_over x n left c.variables)) (over_cells : AreOver cells (arguments_equal x 0 A (image_all same_number first_put c.arguments)))
      (is : IsGuessFor sg (olds ++ made_over x n left c.variables) f) (equal : MakesEqual f (arguments_equal x 0 A (image_all same_number first_put c.arguments)))
      (solves : Solves x (given (arguments_equal x 0 A (image_all same_number first_put c.arguments)) cells (olds ++ made_over x n left c.variables)) (unified more q))
      (different : AllPairs (λ a b. a ≢ b) right) (apart : (a : Nominal) → Contains ns a → ¬ (Contains right (moved_by ps a)))
      (g fill : Guess) (g_typed : IsTypedMap sg g) (fill_typed : IsTypedMap sg fill) (B : Terms ℕ (List ℕ)) (B_takes : TakeType sg [] B head.0 prop) (low_there : (y : Variable ℕ) → holds (variables_of_all B) y ≡ true → y.name < k)
      (there : List (Cell (List ℕ))) (typed_there : AreTyped sg (arguments_equal x 0 B (image_all same_number (put_at k) c.arguments))) (known_there : AreKnown there (made_over x k right c.variables)) (over_there : AreOver there (arguments_equal x 0 B (image_all same_number (put_at k) c.arguments)))
      (agree : (w : Variable ℕ) → holds ws w ≡ true → image_by g (raised_term (from_to (n + amid) k right) w) ≡ image_by fill (permute ps (image_by f (raised_term (from_to (n + amid) n left) w))))
      (values : (w : Variable ℕ) → holds ws w ≡ true → (y : Variable ℕ) → holds (variables (permute ps (image_by f (raised_term (from_to (n + amid) n left) w)))) y ≡ true
      → (v : Bare) × (fill y ≡ Some v) × ((us : List (Variable ℕ)) → Within us (made_over x k right c.variables) → Passes sg us y.type v))
      (clean : List Nominal) (g_over : IsGuessOver sg (made_over x k right c.variables) clean g) (hold_none : HoldNoneOf clean (arguments_equal x 0 B (image_all same_number (put_at k) c.arguments)))
      (equal_there : MakesEqual g (arguments_equal x 0 B (image_all same_number (put_at k) c.arguments))) where
    -- IT IS UNIFIED, and no variable is made
    pub unified_there : (p : Substitution ℕ (List ℕ)) × Solves x (given (arguments_equal x 0 B (image_all same_number (put_at k) c.arguments)) there (made_over x k right c.variables)) (unified there p)
    unified_there =
        let first = made_over x n left c.variables in
        let last = made_over x k right c.variables in
        unified_alone sg c.variables (sides A c.arguments) ps permutation n k left right (sides_right apart A c.arguments all_good) different f f_typed outside
        (arguments_equal x 0 A (image_all same_number first_put c.arguments)) (first_each sg x c ns types ps permutation n amid left right 0 A c.arguments all_good)
        (lefts_low sg x c ns types ps permutation n amid left right first n (λ y i. (numbered_within n (cells_over x left c.variables) y i).0) 0 A (image_all same_number first_put c.arguments) low)
        cells more olds q typed known over_cells is equal solves
        (arguments_equal x 0 A (image_all same_number (put_at amid) c.arguments)) (made_each amid 0 A A c.arguments A_takes A_takes head.2 all_good)
        g fill g_typed fill_typed (arguments_equal x 0 B (image_all same_number (put_at k) c.arguments)) (made_each k 0 A B c.arguments A_takes B_takes head.2 all_good)
        (lefts_low sg x c ns types ps permutation n k left right last k (λ y i. (numbered_within k (cells_over x right c.variables) y i).0) 0 B (image_all same_number (put_at k) c.arguments) low_there)
        there typed_there known_there over_there agree values clean g_over hold_none equal_there
