-- NEW VARIABLES OF A WAY, over constants: what they stand for at last, and that this is what a matching problem makes of the new variables that there are where
-- the conclusion has come to stand.
use Rattle.std.proofs.Common.{◌≡◌, ◌⊎◌, inl, inr, ℕ, suc, ◌+◌, ◌-◌, ◌<◌, ◌≤◌, List, [], ◌∷◌, ◌++◌, map, length, codes, true, false, Option, Some, None, option_map, refl, sym, ◌∙◌, ap, subst, arith}
use Rattle.std.specs.Prelude.{All, Contains}
use Rattle.std.proofs.lemmas.Bool.{false≢true, or_cases, or_left, or_right}
use Rattle.std.proofs.lemmas.List.Elements.{All-contains}
use Rattle.ab_term.specs.Types.{Ty}
use Rattle.ab_term.specs.Terms as tree
use Rattle.ab_term.specs.Terms.{Nominal, nominal, variable, no_terms, Read}
use Rattle.ab_term.specs.Typing.{Signature, HasType}
use Rattle.ab_term.specs.Names.{support, permute, moved_by, IsPermutationTable}
use Rattle.ab_term.specs.Abstraction.{over, given_names}
use Rattle.ab_term.specs.Translation.{forget}
use Rattle.ab_term.specs.Variables.{Substitution, variables, value_in, image, image_by, IsTyped}
use Rattle.ab_term.specs.Sameness.{same_number, same_numbered}
use Rattle.ab_term.proofs.Compositions.{image_typed}
use Rattle.ab_term.proofs.Expansions.{expansion_typed}
use Rattle.ab_term.proofs.Hinted.{given_typed}
use Rattle.ab_term.proofs.Images.{IsTypedMap}
use Rattle.ab_term.proofs.Lists.{Contains-none, Contains-here, Contains-there, Contains-cases, Contains-from_map, All-from_contains}
use Rattle.ab_term.proofs.Depends.{image_agrees}
use Rattle.ab_term.proofs.Permutations.{one_to_one}
use Rattle.ab_term.proofs.Same.{same_numbered-Decides}
use Rattle.ab_term.proofs.Standing.{Has}
use Rattle.ab_term.proofs.OwnExpansion.{image_by-own}
use Rattle.ab_term.proofs.PastHints.{variables-forget, variables_past_hints}
use Rattle.ab_term.proofs.Raising.{new_over, forget-given}
use Rattle.ab_term.proofs.Stands.{has, variables-image, variables-expansion_of, Either}
use Rattle.ab_unifiers.specs.Replacements.{Cell, holds}
use Rattle.ab_unifiers.specs.Unifiers.{keys}
use Rattle.ab_unifiers.specs.Clauses.{Each, Within, numbered, name_term}
use Rattle.ab_unifiers.specs.Alternatives.{made_over, made_terms}
use Rattle.ab_unifiers.proofs.Agreeing.{contains_holds, holds_behind}
use Rattle.ab_unifiers.proofs.Constants.{has_support}
use Rattle.ab_unifiers.proofs.Following.{plain, plain_typed, image_plain}
use Rattle.ab_unifiers.proofs.Lifting.{OfCells, made_terms_typed}
use Rattle.ab_unifiers.proofs.Past.{forget-own}
use Rattle.ab_unifiers.proofs.Ruling.{image_none}
use Rattle.ab_unifiers.proofs.Variables.{holds_contains}
use Rattle.ab_formulas.specs.GoalTerms.{HoldsOnly}
use Rattle.ab_formulas.specs.Sequents.{Sequent, in_terms}
use Rattle.ab_formulas.specs.Sequents as sequents
use Rattle.ab_search_trees.specs.Lifting.{Guess}
use Rattle.ab_search_trees.proofs.Quantifiers.{given_variables}
use Rattle.ab_pattern_matching.specs.Raising.{Bare, raised_term}
use Rattle.ab_pattern_matching.proofs.OfClauses.{from_to}
use Rattle.ab_pattern_matching.proofs.TwoWays.{variables_same}
use Rattle.ab_search_proofs.specs.Likeness.{StandIn, replaced, replacing, AreStandIns}
use Rattle.ab_search_proofs.proofs.StandIns.{given_constants}
use Rattle.ab_search_clauses.specs.Paths.{alone, at_last}
use Rattle.ab_search_clauses.proofs.Guessing as guessing
use Rattle.ab_search_clauses.proofs.Keeping.{Passes}
use Rattle.ab_search_clauses.proofs.Kept.{stays_there}
use Rattle.ab_search_clauses.proofs.Later as later_there

-- what is said of the images is said of the terms
pub each_unmapped : (R : Read → Read → Type 0) (f : Read → Read) (ms ts : List Read) → Each R ms (map f ts) → Each (λ m t. R m (f t)) ms ts
each_unmapped R f [] [] e = tt
each_unmapped R f [] (t ∷ ts) e = absurd e
each_unmapped R f (m ∷ ms) [] e = absurd e
each_unmapped R f (m ∷ ms) (t ∷ ts) e = (e.0, each_unmapped R f ms ts e.1)

pub images_are : (sg : Signature) (u : Substitution ℕ (List ℕ)) → IsTyped sg u → (cs : List (Cell (List ℕ))) (ms : List Read) → OfCells sg (codes "x") cs ms → OfCells sg (codes "x") cs (map (image same_number u) ms)
images_are sg u p [] [] e = tt
images_are sg u p [] (t ∷ ms) e = absurd e
images_are sg u p (c ∷ cs) [] e = absurd e
images_are sg u p (c ∷ cs) (t ∷ ms) e = (image_typed sg same_number u p e.0, images_are sg u p cs ms e.1)

-- a fresh variable is that of one of the clause
numbered_back : (N j : ℕ) (cs : List (Cell (List ℕ))) (w : tree.Variable ℕ) → holds (numbered (N + j) cs) w ≡ true → holds (numbered j cs) (record { name = w.name - N; type = w.type }) ≡ true
numbered_back N j [] w h = absurd (false≢true h)
numbered_back N j (e ∷ cs) w h =
    let u : tree.Variable ℕ = record { name = N + j; type = e.type } in
    let z : tree.Variable ℕ = record { name = j; type = e.type } in
    let y : tree.Variable ℕ = record { name = w.name - N; type = w.type } in
    elim (or_cases (same_numbered u w) (holds (numbered (suc (N + j)) cs) w) h) [
      | inl a ↦ (
          let same : u ≡ w = (same_numbered-Decides u w).0 a in
          let number : (N + j) - N ≡ j = omega arith in
          or_left (same_numbered z y) (holds (numbered (suc j) cs) y) ((same_numbered-Decides z y).1 (sym (ap (λ i. record { name = i; type = e.type }) number) ∙ ap (λ (v : tree.Variable ℕ). record { name = v.name - N; type = v.type }) same)))
      | inr a ↦ or_right (same_numbered z y) (holds (numbered (suc j) cs) y) (let next : suc (N + j) ≡ N + suc j = omega arith in numbered_back N (suc j) cs w (subst (λ i. holds (numbered i cs) w ≡ true) next a))
    ]

-- the terms for a cell, in two rows
each_cell : (V : Read → Read → Type 0) (n k : ℕ) (left right : List Nominal) (j : ℕ) (cs : List (Cell (List ℕ))) → Each V (made_terms (codes "x") (k + j) right cs) (made_terms (codes "x") (n + j) left cs) → (y : tree.Variable ℕ) → holds (numbered j cs) y ≡ true
    → V (given_names (codes "x") (new_over (k + y.name) right y.type) right y.type) (given_names (codes "x") (new_over (n + y.name) left y.type) left y.type)
    × Contains (made_terms (codes "x") (n + j) left cs) (given_names (codes "x") (new_over (n + y.name) left y.type) left y.type)
each_cell V n k left right j [] e y h = absurd (false≢true h)
each_cell V n k left right j (c ∷ cs) e y h =
    let x = codes "x" in
    let z : tree.Variable ℕ = record { name = j; type = c.type } in
    let first : tree.Variable ℕ → Read = λ y. given_names x (new_over (n + y.name) left y.type) left y.type in
    let second : tree.Variable ℕ → Read = λ y. given_names x (new_over (k + y.name) right y.type) right y.type in
    let mine : suc (n + j) ≡ n + suc j = omega arith in
    let yours : suc (k + j) ≡ k + suc j = omega arith in
    elim (or_cases (same_numbered z y) (holds (numbered (suc j) cs) y) h) [
      | inl a ↦ subst (λ (y : tree.Variable ℕ). V (second y) (first y) × Contains (first z ∷ made_terms x (suc (n + j)) left cs) (first y)) ((same_numbered-Decides z y).0 a) (e.0, Contains-here (first z) (made_terms x (suc (n + j)) left cs))
      | inr a ↦ (
          let rest = subst (λ i. Each V (made_terms x i right cs) (made_terms x (n + suc j) left cs)) yours (subst (λ i. Each V (made_terms x (suc (k + j)) right cs) (made_terms x i left cs)) mine e.1) in
          let r = each_cell V n k left right (suc j) cs rest y a in
          (r.0, Contains-there (first z) (made_terms x (suc (n + j)) left cs) (first y) (subst (λ i. Contains (made_terms x i left cs) (first y)) (sym mine) r.1)))
    ]

module _ (sg : Signature) (n : ℕ) (left : List Nominal) (cs : List (Cell (List ℕ))) (olds : List (tree.Variable ℕ)) where
  abbrev x : List ℕ
  x = codes "x"

  abbrev pub news : List (tree.Variable ℕ)
  news = made_over (codes "x") n left cs

  abbrev pub replaceable : List (tree.Variable ℕ)
  replaceable = olds ++ made_over (codes "x") n left cs

  abbrev pub made : List Read
  made = made_terms (codes "x") n left cs

  pub made_are : OfCells sg (codes "x") cs (made_terms (codes "x") n left cs)
  made_are = made_terms_typed sg (codes "x") n left cs

  -- A NEW TERM: one of the new variables, given the constants
  pub record IsMade (u : Read) : Type 0 where
    pub new : tree.Variable ℕ
    pub type : Ty
    pub over_left : new.type ≡ over left type
    pub held : holds (made_over (codes "x") n left cs) new ≡ true
    pub high_enough : n ≤ new.name
    pub as_given : u ≡ given_names (codes "x") new left type

  pub made_is : (u : Read) → Contains made u → IsMade u
  made_is = go n cs (λ y h. h) (omega arith)
    where
      go : (k : ℕ) (ds : List (Cell (List ℕ))) → ((y : tree.Variable ℕ) → holds (made_over (codes "x") k left ds) y ≡ true → holds (made_over (codes "x") n left cs) y ≡ true) → n ≤ k → (u : Read) → Contains (made_terms (codes "x") k left ds) u → IsMade u
      go k [] f l u m = absurd (Contains-none u m)
      go k (e ∷ ds) f l u m =
          let z = new_over k left e.type in
          elim (Contains-cases (given_names x z left e.type) (made_terms x (suc k) left ds) u m) [
            | inl q ↦ record { new = z; type = e.type; over_left = refl; held = f z (or_left (same_numbered z z) (holds (made_over x (suc k) left ds) z) ((same_numbered-Decides z z).1 refl)); high_enough = l; as_given = sym q }
            | inr i ↦ go (suc k) ds (λ y h. f y (or_right (same_numbered z y) (holds (made_over x (suc k) left ds) y) h)) (omega (arith, l)) u i
          ]

  made_variable : (u : Read) (m : IsMade u) (y : tree.Variable ℕ) → Contains (variables u) y → y ≡ m.new
  made_variable u m y i = given_variables x m.new left m.type y (subst (λ k. Contains (variables k) y) m.as_given i)

  pub made_fit : (u : Read) → IsMade u → (y : tree.Variable ℕ) → holds (variables u) y ≡ true → (holds replaceable y ≡ true) ⊎ (y.name < n)
  made_fit u m y h = inl (holds_behind olds news y (subst (λ v. holds news v ≡ true) (sym (made_variable u m y (holds_contains (variables u) y h))) m.held))

  pub made_typed : (u : Read) (m : IsMade u) → HasType sg [] u m.type
  made_typed u m = subst (λ k. HasType sg [] k m.type) (sym m.as_given) (given_typed sg x [] m.new left m.type m.over_left)

  pub made_over_news : All (Has (Either (Contains left) (λ (y : tree.Variable ℕ). holds (made_over (codes "x") n left cs) y ≡ true))) made
  made_over_news = All-from_contains (Has (Either (Contains left) (λ (y : tree.Variable ℕ). holds (made_over (codes "x") n left cs) y ≡ true))) made (λ u i. let m = made_is u i in has (Contains left) (λ y. holds news y ≡ true) u
      (λ a k. has_support (Contains left) (given_names x m.new left m.type) (given_constants m.new left m.type) a (subst (λ v. Contains (support v) a) m.as_given k))
      (λ y k. subst (λ v. holds news v ≡ true) (sym (made_variable u m y k)) m.held))

  module _ (ys : List (tree.Variable ℕ)) (later fill : Substitution ℕ (List ℕ)) (typed : IsTyped sg later) (filled : IsTyped sg fill) (names : List Nominal)
      (constants : (y : tree.Variable ℕ) (v : Read) → value_in same_number fill y ≡ Some v → (a : Nominal) × (¬ (Contains names a)) × (name_term (codes "x") a ≡ v))
      (own : (y : tree.Variable ℕ) → holds (olds ++ made_over (codes "x") n left cs) y ≡ true → n ≤ y.name → HoldsOnly ys (at_last later fill (alone y))) where
    -- what is put in for the new variable stands in what is put in for the term, and the other way round
    in_alone : (u : Read) (m : IsMade u) (y : tree.Variable ℕ) → Contains (variables (image same_number later u)) y → holds (variables (image same_number later (alone m.new))) y ≡ true
    in_alone u m y k = elim (variables-image (value_in same_number later) u y k) [
      | inl a ↦ alone_there y a.0 a.1
      | inr a ↦ value_there a.0 a.1 (a.2).0 (a.2).1 y a.3
    ]
      where
        alone_there : (z : tree.Variable ℕ) → Contains (variables u) z → value_in same_number later z ≡ None → holds (variables (image same_number later (alone m.new))) z ≡ true
        alone_there z i e =
            let same = made_variable u m z i in
            let stays : image same_number later (alone m.new) ≡ alone m.new =
            image_agrees (value_in same_number later) (value_in same_number []) (alone m.new) (λ w j. ap (value_in same_number later) (elim (Contains-cases m.new [] w (subst (λ l. Contains l w) (variables-expansion_of x (m.new).type (variable m.new) no_terms) j)) [ inl q ↦ sym q | inr q ↦ absurd (Contains-none w q) ] ∙ sym same) ∙ e)
            ∙ image_none (alone m.new) in
            ap (λ k. holds (variables k) z) stays ∙ ap (λ l. holds l z) (variables-expansion_of x (m.new).type (variable m.new) no_terms) ∙ contains_holds (m.new ∷ []) z (subst (λ w. Contains (m.new ∷ []) w) (sym same) (Contains-here m.new []))

        value_there : (z : tree.Variable ℕ) (v : Read) → Contains (variables u) z → value_in same_number later z ≡ Some v → (w : tree.Variable ℕ) → Contains (variables v) w → holds (variables (image same_number later (alone m.new))) w ≡ true
        value_there z v i e w j =
            let found : value_in same_number later m.new ≡ Some v = ap (value_in same_number later) (sym (made_variable u m z i)) ∙ e in
            let is_value : forget (image same_number later (alone m.new)) ≡ forget v =
            image_plain later (alone m.new) ∙ ap (image_by (plain later)) (forget-own x m.new) ∙ image_by-own sg ℕ (plain later) (plain_typed sg later typed) m.new (forget v) (ap (option_map forget) found) in
            contains_holds (variables (image same_number later (alone m.new))) w (subst (λ l. Contains l w) (sym (variables_past_hints (image same_number later (alone m.new)) v is_value)) j)

    -- WHAT IS LEFT OPEN is in scope, or it is filled
    pub closed : (u : Read) → IsMade u → (y : tree.Variable ℕ) → Contains (variables (image same_number later u)) y → Contains ys y ⊎ ((v : Read) × (value_in same_number fill y ≡ Some v))
    closed u m y k = go (value_in same_number fill y) refl
      where
        go : (o : Option Read) → value_in same_number fill y ≡ o → Contains ys y ⊎ ((v : Read) × (value_in same_number fill y ≡ Some v))
        go (Some v) e = inr (v, e)
        go None e = inl (All-contains (Contains ys) (variables (at_last later fill (alone m.new))) y (own m.new (holds_behind olds news m.new m.held) m.high_enough)
            (holds_contains (variables (at_last later fill (alone m.new))) y
            (stays_there sg names fill filled constants y e (image_typed sg same_number later typed (expansion_typed sg x (m.new).type [] (variable m.new) refl)) (in_alone u m y k))))

    -- WHAT THE NEW TERMS STAND FOR
    abbrev pub us : List Read
    us = map (at_last later fill) (made_terms (codes "x") n left cs)

    pub us_known : All (HoldsOnly ys) us
    us_known = All-from_contains (HoldsOnly ys) us (λ v i. let from = Contains-from_map (at_last later fill) made v i in subst (HoldsOnly ys) from.2 (one from.0 (made_is from.0 from.1)))
      where
        one : (u : Read) → IsMade u → HoldsOnly ys (at_last later fill u)
        one u m = All-from_contains (Contains ys) (variables (at_last later fill u)) (λ y k. elim (variables-image (value_in same_number fill) (image same_number later u) y k) [
          | inl a ↦ elim (closed u m y a.0) [ inl b ↦ b | inr b ↦ absurd (let bad : None ≡ Some b.0 = sym a.1 ∙ b.1 in cc) ]
          | inr a ↦ (let v = constants a.0 a.1 (a.2).1 in absurd (Contains-none y (subst (λ l. Contains l y) (ap variables (sym v.2) ∙ variables-expansion_of x (v.0).type (nominal v.0) no_terms) a.3)))
        ])

    pub us_are : OfCells sg (codes "x") cs us
    us_are = subst (OfCells sg (codes "x") cs) (mapped_twice made) (images_are sg fill filled cs (map (image same_number later) made) (images_are sg later typed cs made made_are))
      where
        mapped_twice : (ts : List Read) → map (image same_number fill) (map (image same_number later) ts) ≡ map (at_last later fill) ts
        mapped_twice [] = refl
        mapped_twice (t ∷ ts) = ap (λ l. at_last later fill t ∷ l) (mapped_twice ts)

    -- WHERE THE CONCLUSION HAS COME TO STAND, the new terms there become what these stand for
    module _ (most : ℕ) (some_old : n ≤ most) (nameless : (y : tree.Variable ℕ) (v : Read) → value_in same_number later y ≡ Some v → support v ≡ [])
        (within : (y : tree.Variable ℕ) → holds (keys later) y ≡ true → (holds (olds ++ made_over (codes "x") n left cs) y ≡ true) ⊎ (most ≤ y.name))
        (ps : List (Nominal × Nominal)) (permutation : IsPermutationTable ps) (s : Sequent) (vs : List StandIn) (are : AreStandIns s vs) (same_variables : map replaced vs ≡ ys) (k : ℕ) (right : List Nominal)
        (others : (v : sequents.Variable) → Contains s.variables v → holds (made_over (codes "x") k right cs) (in_terms v) ≡ false) (u : Substitution ℕ (List ℕ))
        (values : Each (λ m w. image_by (plain u) (forget m) ≡ forget (permute ps (image same_number (replacing vs) (at_last later fill w)))) (made_terms (codes "x") k right cs) (made_terms (codes "x") n left cs)) where
      abbrev pub high : ℕ
      high = n + (n + length cs) + length cs

      abbrev N : ℕ
      N = n + (n + length cs)

      pub higher : n ≤ high
      higher = omega arith

      abbrev zs : List (tree.Variable ℕ)
      zs = made_over (codes "x") k right cs

      abbrev becomes : Guess
      becomes = later_there.becomes sg ps permutation s vs are names fill filled constants

      becomes_typed : IsTypedMap sg becomes
      becomes_typed = later_there.becomes_typed sg ps permutation s vs are names fill filled constants

      abbrev pub guess : Guess
      guess = guessing.guess sg (olds ++ made_over (codes "x") n left cs) n most (n + (n + length cs) + length cs) some_old higher later typed nameless within

      abbrev pub at_end : Guess
      at_end = guessing.at_end sg (olds ++ made_over (codes "x") n left cs) n most (n + (n + length cs) + length cs) some_old higher later typed nameless within (later_there.becomes sg ps permutation s vs are names fill filled constants) (later_there.becomes_typed sg ps permutation s vs are names fill filled constants)

      -- a new term of the search, and that of this place
      abbrev first_term : tree.Variable ℕ → Read
      first_term y = given_names (codes "x") (new_over (n + y.name) left y.type) left y.type

      abbrev second_term : tree.Variable ℕ → Read
      second_term y = given_names (codes "x") (new_over (k + y.name) right y.type) right y.type

      abbrev here : Read → Read
      here t = permute ps (image same_number (replacing vs) t)

      record Fits (y : tree.Variable ℕ) : Type 0 where
        made_one : IsMade (first_term y)
        value : image_by (plain u) (forget (second_term y)) ≡ forget (here (at_last later fill (first_term y)))

      fits : (y : tree.Variable ℕ) → holds (numbered 0 cs) y ≡ true → Fits y
      fits y h =
          let V : Read → Read → Type 0 = λ m w. image_by (plain u) (forget m) ≡ forget (here (at_last later fill w)) in
          let mine : n ≡ n + 0 = omega arith in
          let yours : k ≡ k + 0 = omega arith in
          let both = subst (λ i. Each V (made_terms x i right cs) (made_terms x (n + 0) left cs)) yours (subst (λ i. Each V (made_terms x k right cs) (made_terms x i left cs)) mine values) in
          let r = each_cell V n k left right 0 cs both y h in
          record { made_one = made_is (first_term y) (subst (λ i. Contains (made_terms x i left cs) (first_term y)) (sym mine) r.1); value = r.0 }

      -- what stands in what is put in for it becomes something
      full : (y : tree.Variable ℕ) → Fits y → (z : tree.Variable ℕ) → holds (variables (image same_number later (first_term y))) z ≡ true → later_there.IsFull sg ps permutation s vs are names fill filled constants zs others z
      full y f z h = elim (closed (first_term y) f.made_one z (holds_contains (variables (image same_number later (first_term y))) z h)) [
        | inl a ↦ later_there.full_known sg ps permutation s vs are names fill filled constants zs others z (subst (λ l. Contains l z) (sym same_variables) a)
        | inr a ↦ later_there.full_filled sg ps permutation s vs are names fill filled constants zs others z a.0 a.1
      ]

      second_is : (w : tree.Variable ℕ) → forget (second_term (record { name = w.name - N; type = w.type })) ≡ raised_term (from_to N k right) w
      second_is w =
          let number : k + (w.name - N) ≡ (w.name - N) + k = omega arith in
          forget-given x (new_over (k + (w.name - N)) right w.type) right w.type ∙ ap (λ i. given_names tt (new_over i right w.type) right w.type) number

      first_is : (w : tree.Variable ℕ) → forget (first_term (record { name = w.name - N; type = w.type })) ≡ raised_term (from_to N n left) w
      first_is w =
          let number : n + (w.name - N) ≡ (w.name - N) + n = omega arith in
          forget-given x (new_over (n + (w.name - N)) left w.type) left w.type ∙ ap (λ i. given_names tt (new_over i left w.type) left w.type) number

      abbrev index : tree.Variable ℕ → tree.Variable ℕ
      index w = record { name = w.name - (n + (n + length cs)); type = w.type }

      fits_at : (w : tree.Variable ℕ) → holds (numbered N cs) w ≡ true → Fits (index w)
      fits_at w h = fits (index w) (let start : N + 0 ≡ N = omega arith in numbered_back N 0 cs w (subst (λ i. holds (numbered i cs) w ≡ true) (sym start) h))

      pub agree : (w : tree.Variable ℕ) → holds (numbered (n + (n + length cs)) cs) w ≡ true → image_by (plain u) (raised_term (from_to (n + (n + length cs)) k right) w) ≡ image_by at_end (permute ps (image_by guess (raised_term (from_to (n + (n + length cs)) n left) w)))
      agree w h =
          let f = fits_at w h in
          let t = first_term (index w) in
          let t_typed = made_typed t f.made_one in
          ap (image_by (plain u)) (sym (second_is w))
          ∙ f.value
          ∙ later_there.here_bare sg ps permutation s vs are names fill filled constants (image_typed sg same_number later typed t_typed)
          ∙ sym (guessing.ends sg replaceable n most high some_old higher later typed nameless within becomes becomes_typed (moved_by ps) keeps t_typed (made_fit t f.made_one) (λ z i. let v = full (index w) f z i in (v.0, v.1)))
          ∙ ap (λ z. image_by at_end (permute ps (image_by guess z))) (first_is w)
        where
          keeps : (a : Nominal) → (moved_by ps a).type ≡ a.type
          keeps = (one_to_one ps permutation).keeps

      pub passing : (w : tree.Variable ℕ) → holds (numbered (n + (n + length cs)) cs) w ≡ true → (y : tree.Variable ℕ) → holds (variables (permute ps (image_by guess (raised_term (from_to (n + (n + length cs)) n left) w)))) y ≡ true
          → (v : Bare) × (at_end y ≡ Some v) × ((us : List (tree.Variable ℕ)) → Within us (made_over (codes "x") k right cs) → Passes sg us y.type v)
      passing w h y i =
          let f = fits_at w h in
          let t = first_term (index w) in
          let t_typed = made_typed t f.made_one in
          let T = image same_number later t in
          let there_y : holds (variables (image_by (guessing.up sg replaceable n most high some_old higher later typed nameless within) (forget T))) y ≡ true =
          ap (λ z. holds (variables z) y) (sym (guessing.guess_is sg replaceable n most high some_old higher later typed nameless within t_typed (made_fit t f.made_one)))
          ∙ ap (λ z. holds (variables (image_by guess z)) y) (first_is w)
          ∙ ap (λ l. holds l y) (sym (variables_same (moved_by ps) (image_by guess (raised_term (from_to N n left) w))))
          ∙ i in
          let in_T : (z : tree.Variable ℕ) → holds (variables (forget T)) z ≡ true → holds (variables T) z ≡ true = λ z j. ap (λ l. holds l z) (sym (variables-forget T)) ∙ j in
          elim (guessing.up_from sg replaceable n most high some_old higher later typed nameless within (forget T) y there_y) [
            | inl a ↦ (
                let v = full (index w) f y (in_T y a.0) in
                let old = guessing.fixed_old sg replaceable n most high some_old higher later typed nameless within y a.1 in
                (v.0, guessing.end_old sg replaceable n most high some_old higher later typed nameless within becomes becomes_typed y old ∙ v.1, v.2))
            | inr a ↦ (
                let z = a.0 in
                let v = full (index w) f z (in_T z a.1) in
                subst (λ (y : tree.Variable ℕ). (v : Bare) × (at_end y ≡ Some v) × ((us : List (tree.Variable ℕ)) → Within us zs → Passes sg us y.type v)) a.3
                (v.0, guessing.end_high sg replaceable n most high some_old higher later typed nameless within becomes becomes_typed z ∙ v.1, v.2))
          ]

      pub at_end_typed : IsTypedMap sg at_end
      at_end_typed = guessing.at_end_typed sg replaceable n most high some_old higher later typed nameless within becomes becomes_typed
