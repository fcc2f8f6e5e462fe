-- AN ALTERNATIVE ON THE RIGHT, AGAIN: both alternatives' sides are the clause's, raised in two ways.
use Rattle.std.proofs.Common.{◌≡◌, ◌≢◌, ◌⊎◌, inl, inr, ℕ, suc, ◌+◌, ◌<◌, ◌≤◌, List, [], ◌∷◌, ◌++◌, map, length, true, not, Some, None, refl, sym, ◌∙◌, ap, subst, arith}
use Rattle.std.specs.Prelude.{Contains, AllPairs}
use Rattle.std.proofs.lemmas.Bool.{false_from_ne_true}
use Rattle.std.proofs.lemmas.List.Elements.{All-append, Contains-append_left, Contains-append_right}
use Rattle.ab_term.specs.Types.{Ty, prop}
use Rattle.ab_term.specs.Terms.{Nominal, Variable, Term, Terms, no_terms, term}
use Rattle.ab_term.specs.Typing.{Signature, HasType, TakeType, take_term}
use Rattle.ab_term.specs.Names.{moved_by, rename, rename_all, permute, support, support_of_all, IsPermutationTable}
use Rattle.ab_term.specs.Translation.{forget, forget_all}
use Rattle.ab_term.specs.Variables.{Substitution, variables, variables_of_all, value_in, image, image_all, image_by, image_all_by}
use Rattle.ab_term.specs.Sameness.{same_number}
use Rattle.ab_term.proofs.Depends.{nothing, image_all_agrees, image_all_nothing}
use Rattle.ab_term.proofs.Lists.{Contains-none, Contains-cases, Contains-map, Contains-from_map}
use Rattle.ab_term.proofs.Permutations.{swapped, one_to_one}
use Rattle.ab_term.proofs.Stands.{either}
use Rattle.ab_unifiers.specs.Replacements.{Cell, holds}
use Rattle.ab_unifiers.specs.Unification.{Equation, unified, Solves}
use Rattle.ab_unifiers.specs.Unifiers.{given, AreTyped, AreKnown, AreOver}
use Rattle.ab_unifiers.specs.Clauses.{Clause, Each, numbered, clause_variables, clause_names, name_term, filled, put_together, IsClause}
use Rattle.ab_unifiers.specs.Choices.{is_in, in_order, outside}
use Rattle.ab_unifiers.specs.Alternatives.{Scope, on_right, alternative, arguments_equal, cells_over, made_over, made_terms}
use Rattle.ab_unifiers.proofs.Agreeing.{holds_front, holds_behind}
use Rattle.ab_unifiers.proofs.Choosing.{in_or_outside, outside_contains, ordered_contains, ordered_pairs, kept_pairs}
use Rattle.ab_unifiers.proofs.Constants as constants
use Rattle.ab_unifiers.proofs.Covered.{found_of_all, names_typed}
use Rattle.ab_unifiers.proofs.Rows.{together_all, numbered_within}
use Rattle.ab_unifiers.proofs.Unifier.{arguments_of, made_have, names_have}
use Rattle.ab_unifiers.proofs.Variables as stand
use Rattle.ab_search_trees.specs.Lifting.{Guess, IsGuessFor, MakesEqual}
use Rattle.ab_pattern_matching.specs.Reading.{LeftsWithout, HoldNoneOf}
use Rattle.ab_pattern_matching.specs.Raising.{Bare, Raising, raised, raised_term, AreRaised, IsApart, AreRaisings, missing}
use Rattle.ab_pattern_matching.proofs.TwoWays.{only_raised, held_map}
use Rattle.ab_pattern_matching.proofs.OfClauses.{numbered_one, from_to, raised_are_made, types_moved, side, side_typed, side_holds, side_constants, first_raised, second_raised}
use Rattle.ab_pattern_matching.proofs.Over.{matches_over}

nil_parts : {X : Type 0} (xs ys : List X) → xs ++ ys ≡ [] → (xs ≡ []) × (ys ≡ [])
nil_parts [] ys e = (refl, e)
nil_parts (a ∷ xs) ys e = absurd (cc)

module _ (sg : Signature) {Hint : Type 0} (x : Hint) (c : Clause Hint) (ns : List Nominal) (types : map (λ a. a.type) ns ≡ map (λ (z : Cell Hint). z.type) c.names) (ps : List (Nominal × Nominal)) (permutation : IsPermutationTable ps) (n k : ℕ) (left right : List Nominal) where
  -- fresh numbers
  abbrev N : ℕ
  N = n + k

  abbrev ws : List (Variable ℕ)
  ws = numbered (n + k) c.variables

  abbrev first_way : Raising
  first_way = from_to (n + k) n left

  abbrev second_way : Raising
  second_way = from_to (n + k) k right

  abbrev first_put : Substitution ℕ Hint
  first_put = filled x c (made_terms x n left c.variables) ns

  abbrev second_put : Substitution ℕ Hint
  second_put = filled x c (made_terms x k right c.variables) (map (moved_by ps) ns)

  abbrev pub own_side : Term ℕ Hint → Bare
  own_side = side sg x c n k left right ns types ps permutation (n + k)

  -- an argument of the clause's head
  pub record Good (u : Term ℕ Hint) : Type 0 where
    pub type : Ty
    pub typed : HasType sg [] u type
    pub own : (y : Variable ℕ) → holds (variables u) y ≡ true → holds (clause_variables c ++ clause_names c) y ≡ true
    pub none : support u ≡ []

  abbrev pub Goods : Terms ℕ Hint → Type 0
  Goods no_terms = Unit {0}
  Goods (term u us) = Good u × Goods us

  pub goods : {A B : Ty} (us : Terms ℕ Hint) → TakeType sg [] us A B → ((y : Variable ℕ) → holds (variables_of_all us) y ≡ true → holds (clause_variables c ++ clause_names c) y ≡ true) → support_of_all us ≡ [] → Goods us
  goods no_terms d f e = tt
  goods (term u us) (take_term {A = A} d ds) f e =
      let none = nil_parts (support u) (support_of_all us) e in
      (record { type = A; typed = d; own = λ y h. f y (holds_front (variables u) (variables_of_all us) y h); none = none.0 }, goods us ds (λ y h. f y (holds_behind (variables u) (variables_of_all us) y h)) none.1)

  abbrev pub sides_of : Terms ℕ Hint → Terms ℕ Hint → List Bare
  sides_of no_terms us = []
  sides_of (term t ts) no_terms = []
  sides_of (term t ts) (term u us) = own_side u ∷ sides_of ts us

  pub sides_all : (Q : Bare → Type 0) → ((u : Term ℕ Hint) → Good u → Q (own_side u)) → (ts us : Terms ℕ Hint) → Goods us → (t : Bare) → Contains (sides_of ts us) t → Q t
  sides_all Q q no_terms us g t m = absurd (Contains-none t m)
  sides_all Q q (term s ts) no_terms g t m = absurd (Contains-none t m)
  sides_all Q q (term s ts) (term u us) g t m = either (λ e. subst Q e (q u g.0)) (λ i. sides_all Q q ts us g.1 t i) (Contains-cases (own_side u) (sides_of ts us) t m)

  pub first_each : (p : ℕ) (ts us : Terms ℕ Hint) → Goods us → AreRaised first_way ws (sides_of ts us) (arguments_equal x p ts (image_all same_number first_put us))
  first_each p no_terms us g = tt
  first_each p (term t ts) no_terms g = tt
  first_each p (term t ts) (term u us) g = (first_raised sg x c n k left right ns types ps permutation (n + k) u g.0.typed g.0.own, first_each (suc p) ts us g.1)

  -- the second's arguments are the first's, with the guess put in and permuted
  module _ (f : Guess) where
    abbrev Follow : Terms ℕ Hint → Terms ℕ Hint → Type 0
    Follow ts ss = forget_all ss ≡ rename_all (moved_by ps) (image_all_by f (forget_all ts))

    second_each : (p : ℕ) (ts ss us : Terms ℕ Hint) → forget_all ss ≡ rename_all (moved_by ps) (image_all_by f (forget_all ts)) → Goods us → AreRaised second_way ws (map (permute ps) (sides_of ts us)) (arguments_equal x p ss (image_all same_number second_put us))
    second_each p no_terms no_terms us e g = tt
    second_each p no_terms (term s ss) us e g = absurd (cc)
    second_each p (term t ts) no_terms us e g = absurd (cc)
    second_each p (term t ts) (term s ss) no_terms e g = tt
    second_each p (term t ts) (term s ss) (term u us) e g =
        let rest : forget_all ss ≡ rename_all (moved_by ps) (image_all_by f (forget_all ts)) = cc in
        (second_raised sg x c n k left right ns types ps permutation (n + k) u g.0.typed g.0.own g.0.none, second_each (suc p) ts ss us rest g.1)

    lefts_each : (p : ℕ) (ts ss us : Terms ℕ Hint) → forget_all ss ≡ rename_all (moved_by ps) (image_all_by f (forget_all ts))
        → Each (λ (e d : Equation Hint). forget d.left ≡ permute ps (image_by f (forget e.left))) (arguments_equal x p ts (image_all same_number first_put us)) (arguments_equal x p ss (image_all same_number second_put us))
    lefts_each p no_terms no_terms us e = tt
    lefts_each p no_terms (term s ss) us e = absurd (cc)
    lefts_each p (term t ts) no_terms us e = absurd (cc)
    lefts_each p (term t ts) (term s ss) no_terms e = tt
    lefts_each p (term t ts) (term s ss) (term u us) e =
        let one : forget s ≡ rename (moved_by ps) (image_by f (forget t)) = cc in
        let rest : forget_all ss ≡ rename_all (moved_by ps) (image_all_by f (forget_all ts)) = cc in
        (one, lefts_each (suc p) ts ss us rest)

  -- left sides whose variables have lower numbers
  pub lefts_low : (zs : List (Variable ℕ)) (i : ℕ) → ((y : Variable ℕ) → holds zs y ≡ true → i ≤ y.name) → (p : ℕ) (ts us : Terms ℕ Hint) → ((y : Variable ℕ) → holds (variables_of_all ts) y ≡ true → y.name < i) → LeftsWithout zs (arguments_equal x p ts us)
  lefts_low zs i high p no_terms us low = tt
  lefts_low zs i high p (term t ts) no_terms low = tt
  lefts_low zs i high p (term t ts) (term u us) low = (
    λ y h. false_from_ne_true (holds (variables t) y) (λ m. let l = low y (holds_front (variables t) (variables_of_all ts) y m) in let g = high y h in absurd (omega (arith, l, g))),
    lefts_low zs i high (suc p) ts us (λ y h. low y (holds_behind (variables t) (variables_of_all ts) y h)),
  )

  -- the constants of what the second puts in
  abbrev Known : Nominal → Type 0
  Known a = Contains right a ⊎ Contains (map (moved_by ps) ns) a

  second_constants : (u : Term ℕ Hint) → support u ≡ [] → (a : Nominal) → Contains (support (image same_number second_put u)) a → Contains right a ⊎ Contains (map (moved_by ps) ns) a
  second_constants u none = constants.has_support P (image same_number second_put u) (constants.image_by_has P (value_in same_number second_put) values u (constants.support_has P u (λ a m. absurd (Contains-none a (subst (λ l. Contains l a) none m)))))
    where
      P : Nominal → Type 0
      P a = Contains right a ⊎ Contains (map (moved_by ps) ns) a

      values : (y : Variable ℕ) (v : Term ℕ Hint) → value_in same_number (filled x c (made_terms x k right c.variables) (map (moved_by ps) ns)) y ≡ Some v → constants.Has (λ a. Contains right a ⊎ Contains (map (moved_by ps) ns) a) v
      values = found_of_all (constants.Has P) (filled x c (made_terms x k right c.variables) (map (moved_by ps) ns))
          (All-append (λ p. constants.Has P p.1) (put_together (clause_variables c) (made_terms x k right c.variables)) (put_together (clause_names c) (map (name_term x) (map (moved_by ps) ns)))
          (together_all (constants.Has P) (clause_variables c) (made_terms x k right c.variables) (made_have sg x P 0 k right c.variables (λ a m. inl m)))
          (together_all (constants.Has P) (clause_names c) (map (name_term x) (map (moved_by ps) ns)) (names_have sg x P (clause_names c) (map (moved_by ps) ns) (λ a m. inr m) (names_typed sg x (length c.variables) c.names (map (moved_by ps) ns) (types_moved sg x c n k left right ns types ps permutation (n + k))))))

  -- what is missing stands nowhere in the second equations
  none_missing : (ls : List Nominal) → ((a : Nominal) → Contains ls a → (Contains right a ⊎ Contains (map (moved_by ps) ns) a) → ⊥) → (p : ℕ) (ss us : Terms ℕ Hint) → ((a : Nominal) → Contains (support_of_all ss) a → Contains right a ⊎ Contains (map (moved_by ps) ns) a) → Goods us → HoldNoneOf ls (arguments_equal x p ss (image_all same_number second_put us))
  none_missing ls out p no_terms us f g = tt
  none_missing ls out p (term s ss) no_terms f g = tt
  none_missing ls out p (term s ss) (term u us) f g = (
    λ a m. (λ i. out a m (f a (Contains-append_left (support s) (support_of_all ss) a i)), λ i. out a m (second_constants u g.0.none a i)),
    none_missing ls out (suc p) ss us (λ a i. f a (Contains-append_right (support s) (support_of_all ss) a i)) g.1,
  )

  -- the raised variables are the first alternative's
  first_numbers : map (raised (from_to (n + k) n left)) (numbered (n + k) c.variables) ≡ made_over x n left c.variables
  first_numbers = let zero_n : n + k + 0 ≡ n + k = omega arith in let zero_i : n + 0 ≡ n = omega arith in
      ap (λ i. map (raised (from_to (n + k) n left)) (numbered i c.variables)) (sym zero_n) ∙ raised_are_made x (n + k) n left 0 c.variables ∙ ap (λ i. made_over x i left c.variables) zero_i

  -- BOTH RAISE THE SAME SIDES
  module _ (f : Guess) (f_some : (w : Variable ℕ) → holds ws w ≡ true → (v : Bare) × (f (raised first_way w) ≡ Some v)) (low : (y : Variable ℕ) (v : Bare) → f y ≡ Some v → (z : Variable ℕ) → holds (variables v) z ≡ true → (z.name < n) × (z.name < k))
      (different : AllPairs (λ a b. a ≢ b) right) (apart : (a : Nominal) → Contains ns a → ¬ (Contains right (moved_by ps a))) where
    second_numbers : map (raised (from_to (n + k) k right)) (numbered (n + k) c.variables) ≡ made_over x k right c.variables
    second_numbers = let zero_n : n + k + 0 ≡ n + k = omega arith in let zero_i : k + 0 ≡ k = omega arith in
        ap (λ i. map (raised (from_to (n + k) k right)) (numbered i c.variables)) (sym zero_n) ∙ raised_are_made x (n + k) k right 0 c.variables ∙ ap (λ i. made_over x i right c.variables) zero_i

    first_high : (y : Variable ℕ) → holds (map (raised (from_to (n + k) n left)) (numbered (n + k) c.variables)) y ≡ true → n ≤ y.name
    first_high y h = (numbered_within n (cells_over x left c.variables) y (subst (λ l. holds l y ≡ true) first_numbers h)).0

    second_high : (y : Variable ℕ) → holds (map (raised (from_to (n + k) k right)) (numbered (n + k) c.variables)) y ≡ true → k ≤ y.name
    second_high y h = (numbered_within k (cells_over x right c.variables) y (subst (λ l. holds l y ≡ true) second_numbers h)).0

    is_apart : (y : Variable ℕ) → y.name < n → y.name < k → IsApart (numbered (n + k) c.variables) (from_to (n + k) n left) (from_to (n + k) k right) y
    is_apart y l g = record {
      itself = false_from_ne_true (holds (numbered (n + k) c.variables) y) (λ h. let high = (numbered_within (n + k) c.variables y h).0 in absurd (omega (arith, high, l)));
      first = false_from_ne_true (holds (map (raised (from_to (n + k) n left)) (numbered (n + k) c.variables)) y) (λ h. let high = first_high y h in absurd (omega (arith, high, l)));
      second = false_from_ne_true (holds (map (raised (from_to (n + k) k right)) (numbered (n + k) c.variables)) y) (λ h. let high = second_high y h in absurd (omega (arith, high, g)));
    }

    value_low : (w : Variable ℕ) → holds (numbered (n + k) c.variables) w ≡ true → (y : Variable ℕ) → holds (variables (image_by f (raised_term (from_to (n + k) n left) w))) y ≡ true → (y.name < n) × (y.name < k)
    value_low w h = stand.has_held (λ z. (z.name < n) × (z.name < k)) (image_by f (raised_term (from_to (n + k) n left) w))
        (stand.image_by_has (λ z. z ≡ raised (from_to (n + k) n left) w) (λ z. (z.name < n) × (z.name < k)) f
        (λ y u e. stand.held_has (λ z. (z.name < n) × (z.name < k)) u (low y u e))
        (λ y e p. let own = f_some w h in absurd (let both : Some own.0 ≡ None = sym own.1 ∙ ap f (sym p) ∙ e in cc))
        (raised_term (from_to (n + k) n left) w)
        (stand.held_has (λ z. z ≡ raised (from_to (n + k) n left) w) (raised_term (from_to (n + k) n left) w) (only_raised (from_to (n + k) n left) w)))

    one_number : (v w : Variable ℕ) → holds (numbered (n + k) c.variables) v ≡ true → holds (numbered (n + k) c.variables) w ≡ true → ((from_to (n + k) n left).number v.name ≡ (from_to (n + k) n left).number w.name) ⊎ ((from_to (n + k) k right).number v.name ≡ (from_to (n + k) k right).number w.name) → v ≡ w
    one_number v w h i e =
        let a = (numbered_within (n + k) c.variables v h).0 in
        let b = (numbered_within (n + k) c.variables w i).0 in
        numbered_one (n + k) c.variables v w h i (elim e [ inl q ↦ omega (arith, a, b, q) | inr q ↦ omega (arith, a, b, q) ])

    are_raisings : (ts us : Terms ℕ Hint) → Goods us → AreRaisings sg (numbered (n + k) c.variables) (sides_of ts us) (from_to (n + k) n left) (from_to (n + k) k right) f ps
    are_raisings ts us g = record {
      permutation = permutation;
      different = different;
      numbers = one_number;
      typed = sides_all (λ t. (G : List Ty) × (A : Ty) × HasType sg G t A) (λ u i. ([], i.type, side_typed sg x c n k left right ns types ps permutation (n + k) i.typed)) ts us g;
      standing = sides_all (λ t. (y : Variable ℕ) → holds (variables t) y ≡ true → (holds (numbered (n + k) c.variables) y ≡ true) ⊎ (IsApart (numbered (n + k) c.variables) (from_to (n + k) n left) (from_to (n + k) k right) y × (f y ≡ None)))
          (λ u i y h. inl (side_holds sg x c n k left right ns types ps permutation (n + k) u i.own y h)) ts us g;
      values = λ w h y m. let l = value_low w h y m in is_apart y l.0 l.1;
      constants = sides_all (λ t. (a : Nominal) → Contains (support t) a → Contains left a ⊎ ¬ (Contains right (moved_by ps a)))
          (λ u i a m. inr (apart a (side_constants sg x c n k left right ns types ps permutation (n + k) u i.none a m))) ts us g;
    }

    -- the second's equations are unified again
    unified_again : (cells more others : List (Cell Hint)) (ys : List (Variable ℕ)) (q : Substitution ℕ Hint) (A B : Terms ℕ Hint) → Goods c.arguments → forget_all B ≡ rename_all (moved_by ps) (image_all_by f (forget_all A))
        → ((y : Variable ℕ) → holds (variables_of_all A) y ≡ true → y.name < n) → ((y : Variable ℕ) → holds (variables_of_all B) y ≡ true → y.name < k)
        → ((a : Nominal) → Contains (support_of_all B) a → Contains right a ⊎ Contains (map (moved_by ps) ns) a) → ((a : Nominal) → Contains left a → Contains ns a → ⊥)
        → AreTyped sg (arguments_equal x 0 A (image_all same_number first_put c.arguments)) → AreKnown cells (ys ++ made_over x n left c.variables) → AreOver cells (arguments_equal x 0 A (image_all same_number first_put c.arguments))
        → IsGuessFor sg (ys ++ made_over x n left c.variables) f → MakesEqual f (arguments_equal x 0 A (image_all same_number first_put c.arguments)) → Solves x (given (arguments_equal x 0 A (image_all same_number first_put c.arguments)) cells (ys ++ made_over x n left c.variables)) (unified more q)
        → AreTyped sg (arguments_equal x 0 B (image_all same_number second_put c.arguments)) → AreKnown others (made_over x k right c.variables) → AreOver others (arguments_equal x 0 B (image_all same_number second_put c.arguments))
        → (most : List (Cell Hint)) × (p : Substitution ℕ Hint) × Solves x (given (arguments_equal x 0 B (image_all same_number second_put c.arguments)) others (made_over x k right c.variables)) (unified most p)
    unified_again cells more others ys q A B g e low_a low_b stands left_out d ka o i m p d2 k2 o2 =
        let zs = map (raised (from_to (n + k) n left)) (numbered (n + k) c.variables) in
        let us = map (raised (from_to (n + k) k right)) (numbered (n + k) c.variables) in
        let ds = arguments_equal x 0 B (image_all same_number second_put c.arguments) in
        subst (λ l. (most : List (Cell Hint)) × (r : Substitution ℕ Hint) × Solves x (given (arguments_equal x 0 B (image_all same_number second_put c.arguments)) others l) (unified most r)) second_numbers
        (matches_over sg x (arguments_equal x 0 A (image_all same_number first_put c.arguments)) ds cells more others (ys ++ made_over x n left c.variables) (numbered (n + k) c.variables) (sides_of A c.arguments) (from_to (n + k) n left) (from_to (n + k) k right) ps q f
        d ka o i m (λ y h. holds_behind ys (made_over x n left c.variables) y (subst (λ l. holds l y ≡ true) first_numbers h)) (lefts_low zs n first_high 0 A (image_all same_number first_put c.arguments) low_a) p
        (first_each 0 A c.arguments g) (second_each f 0 A B c.arguments e g) (are_raisings A c.arguments g) (lefts_each f 0 A B c.arguments e)
        d2 (subst (AreKnown others) (sym second_numbers) k2) o2 (lefts_low us k second_high 0 B (image_all same_number second_put c.arguments) low_b)
        (none_missing (missing (from_to (n + k) n left) (from_to (n + k) k right) ps) out 0 B c.arguments stands g))
      where
        out : (a : Nominal) → Contains (missing (from_to (n + k) n left) (from_to (n + k) k right) ps) a → (Contains right a ⊎ Contains (map (moved_by ps) ns) a) → ⊥
        out a h (inl j) = (outside_contains (map (moved_by ps) left) right a h).1 j
        out a h (inr j) =
            let first = Contains-from_map (moved_by ps) left a (outside_contains (map (moved_by ps) left) right a h).0 in
            let second = Contains-from_map (moved_by ps) ns a j in
            let one = one_to_one ps permutation in
            let same : second.0 ≡ first.0 = sym (one.back second.0) ∙ ap (moved_by (swapped ps)) (second.2 ∙ sym first.2) ∙ one.back first.0 in
            left_out first.0 first.1 (subst (λ b. Contains ns b) same second.1)

-- OF THE ALTERNATIVES THEMSELVES
pub again : (sg : Signature) {Hint : Type 0} (x : Hint) (c : Clause Hint) (ns : List Nominal) (ps : List (Nominal × Nominal)) (first second : Scope Hint) (args more_args : Terms ℕ Hint) (ys : List (Variable ℕ)) (more : List (Cell Hint)) (q : Substitution ℕ Hint) (f : Guess)
    → IsClause sg c → map (λ a. a.type) ns ≡ map (λ (z : Cell Hint). z.type) c.names → IsPermutationTable ps
    → AreTyped sg (alternative x first args c ns on_right).equations → AreKnown (alternative x first args c ns on_right).cells (ys ++ (alternative x first args c ns on_right).flexible) → AreOver (alternative x first args c ns on_right).cells (alternative x first args c ns on_right).equations
    → IsGuessFor sg (ys ++ (alternative x first args c ns on_right).flexible) f → MakesEqual f (alternative x first args c ns on_right).equations
    → Solves x (given (alternative x first args c ns on_right).equations (alternative x first args c ns on_right).cells (ys ++ (alternative x first args c ns on_right).flexible)) (unified more q)
    → AreKnown first.cells (variables_of_all args) → AreKnown second.cells (variables_of_all more_args)
    → ((y : Variable ℕ) (v : Bare) → f y ≡ Some v → AreKnown first.cells (variables v) × AreKnown second.cells (variables v))
    → forget_all more_args ≡ rename_all (moved_by ps) (image_all_by f (forget_all args))
    → AreTyped sg (alternative x second more_args c (map (moved_by ps) ns) on_right).equations → AreKnown (alternative x second more_args c (map (moved_by ps) ns) on_right).cells (alternative x second more_args c (map (moved_by ps) ns) on_right).flexible
    → AreOver (alternative x second more_args c (map (moved_by ps) ns) on_right).cells (alternative x second more_args c (map (moved_by ps) ns) on_right).equations
    → (most : List (Cell Hint)) × (r : Substitution ℕ Hint) × Solves x (given (alternative x second more_args c (map (moved_by ps) ns) on_right).equations (alternative x second more_args c (map (moved_by ps) ns) on_right).cells (alternative x second more_args c (map (moved_by ps) ns) on_right).flexible) (unified most r)
again sg {Hint = Hint} x c ns ps first second args more_args ys more q f clause types permutation d ka o i m p low_a low_b low e d2 k2 o2 =
    unified_again sg x c ns types ps permutation (length first.cells) (length second.cells) (outside (in_order (support_of_all args)) ns) (outside (in_order (support_of_all more_args)) (map (moved_by ps) ns)) f f_some (λ y v h z j. let l = low y v h in (l.0 z j, l.1 z j)) different apart
    (alternative x first args c ns on_right).cells more (alternative x second more_args c (map (moved_by ps) ns) on_right).cells ys q (image_all same_number [] args) (image_all same_number [] more_args)
    (goods sg x c ns types ps permutation (length first.cells) (length second.cells) (outside (in_order (support_of_all args)) ns) (outside (in_order (support_of_all more_args)) (map (moved_by ps) ns)) c.arguments head.2 clause.head_variables clause.head_without_constants)
    (ap forget_all (unchanged more_args) ∙ e ∙ ap (λ l. rename_all (moved_by ps) (image_all_by f (forget_all l))) (sym (unchanged args)))
    (λ y h. low_a y (subst (λ l. holds (variables_of_all l) y ≡ true) (unchanged args) h))
    (λ y h. low_b y (subst (λ l. holds (variables_of_all l) y ≡ true) (unchanged more_args) h))
    (λ a h. stands a (subst (λ l. Contains (support_of_all l) a) (unchanged more_args) h))
    (λ a h j. (outside_contains (in_order (support_of_all args)) ns a h).1 j)
    d ka o i m p d2 k2 o2
  where
    unchanged : (ts : Terms ℕ Hint) → image_all same_number [] ts ≡ ts
    unchanged ts = image_all_agrees (value_in same_number []) nothing ts (λ y h. refl) ∙ image_all_nothing ts

    head : (D : Ty) × (sg c.predicate ≡ Some D) × TakeType sg [] c.arguments D prop
    head = arguments_of sg x clause.head

    f_some : (w : Variable ℕ) → holds (numbered (length first.cells + length second.cells) c.variables) w ≡ true → (v : Bare) × (f (raised (from_to (length first.cells + length second.cells) (length first.cells) (outside (in_order (support_of_all args)) ns)) w) ≡ Some v)
    f_some w h =
        let n = length first.cells in
        let k = length second.cells in
        let r = from_to (n + k) n (outside (in_order (support_of_all args)) ns) in
        i.some (raised r w) (holds_behind ys (made_over x n (outside (in_order (support_of_all args)) ns) c.variables) (raised r w)
        (subst (λ l. holds l (raised r w) ≡ true) (first_numbers sg x c ns types ps permutation n k (outside (in_order (support_of_all args)) ns) (outside (in_order (support_of_all more_args)) (map (moved_by ps) ns)))
        (held_map (raised r) (numbered (n + k) c.variables) w h)))

    different : AllPairs (λ a b. a ≢ b) (outside (in_order (support_of_all more_args)) (map (moved_by ps) ns))
    different = kept_pairs (λ a. not (is_in (map (moved_by ps) ns) a)) (λ a b. a ≢ b) (in_order (support_of_all more_args)) (ordered_pairs (support_of_all more_args))

    apart : (a : Nominal) → Contains ns a → ¬ (Contains (outside (in_order (support_of_all more_args)) (map (moved_by ps) ns)) (moved_by ps a))
    apart a h j = (outside_contains (in_order (support_of_all more_args)) (map (moved_by ps) ns) (moved_by ps a) j).1 (Contains-map (moved_by ps) ns a h)

    stands : (a : Nominal) → Contains (support_of_all more_args) a → Contains (outside (in_order (support_of_all more_args)) (map (moved_by ps) ns)) a ⊎ Contains (map (moved_by ps) ns) a
    stands a h = elim (in_or_outside (in_order (support_of_all more_args)) (map (moved_by ps) ns) a (ordered_contains (support_of_all more_args) a h)) [ inl j ↦ inr j | inr j ↦ inl j ]
