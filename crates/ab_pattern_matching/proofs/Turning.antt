-- THE SIDES MAY CHANGE PLACES: each rule gives the same the other way round, so the answer is the same.
use Rattle.std.proofs.Common.{◌≡◌, ◌⊎◌, inl, inr, ℕ, ◌≤◌, List, [], ◌∷◌, ◌++◌, map, length, Bool, true, false, cond, ◌&&◌, ◌||◌, not, Option, Some, None, option_map, refl, sym, ◌∙◌, ap, subst, arith}
use Rattle.std.proofs.lemmas.Bool.{false≢true}
use Rattle.ab_term.specs.Types.{Ty, kind, arity}
use Rattle.ab_term.specs.Terms.{Variable, Head, constant, logical, nominal, variable, index, Term, lam, spine, Terms, no_terms, term}
use Rattle.ab_term.specs.Typing.{Signature, HasType, TakeType}
use Rattle.ab_term.specs.Variables.{Substitution, composition}
use Rattle.ab_term.specs.Sameness.{same_numbered, same_head, same_number, same_term}
use Rattle.ab_term.specs.Abstraction.{Distinct}
use Rattle.ab_term.proofs.Abstracting.{named_length}
use Rattle.ab_term.proofs.Same.{same_numbered-Decides, same_head-Decides, same_term-Decides}
use Rattle.ab_term.proofs.Translations.{map-append}
use Rattle.ab_unifiers.specs.Patterns.{pattern, kept_type}
use Rattle.ab_unifiers.specs.Replacements.{Cell, without, holds, is_flexible, made, next_variable, narrowed}
use Rattle.ab_unifiers.specs.Unification.{Equation, State, Answer, Result, clash, parts, replaced, or_else, paired, equal_sides, bodies, rigid_heads, is_older, agreeing, unchanged, pattern_of, pattern_and_rigid, same_variable_at, one_variable, two_at, two_variables, either_way, rule, Found, found_at, first_found, Next, finished, goes_on, image_of, ending, carried, next_by, next, Solves, at_end, by_step}
use Rattle.ab_unifiers.specs.Unifiers.{given, IsTypedEquation, AreTyped, AreKnown}
use Rattle.ab_unifiers.proofs.Narrowing.{narrowed_same}
use Rattle.ab_unifiers.proofs.Problems.{problem}
use Rattle.ab_unifiers.proofs.Pruning.{spine_args}
use Rattle.ab_unifiers.proofs.Readings.{pattern_distinct}
use Rattle.ab_unifiers.proofs.Sound.{IsProblem, step_leads}
use Rattle.ab_unifiers.proofs.Steps.{OnResult, on_or_else}
use Rattle.ab_unifiers.proofs.Values.{pattern_named}
use Rattle.ab_unifiers.proofs.Views.{is_pattern}
use Rattle.ab_pattern_matching.specs.Reading.{turned}
use Rattle.ab_pattern_matching.proofs.Ruled.{Found as Replacing, rigid_gives, one_gives, two_gives, found_back}

-- tests that are the same the other way round
same_both_ways : (b d : Bool) → (b ≡ true → d ≡ true) → (d ≡ true → b ≡ true) → b ≡ d
same_both_ways true d f g = sym (f refl)
same_both_ways false true f g = g refl
same_both_ways false false f g = refl

terms_turned : {Hint : Type 0} (t u : Term ℕ Hint) → same_term t u ≡ same_term u t
terms_turned t u = same_both_ways (same_term t u) (same_term u t) (λ e. (same_term-Decides u t).1 (sym ((same_term-Decides t u).0 e))) (λ e. (same_term-Decides t u).1 (sym ((same_term-Decides u t).0 e)))

heads_turned : (g h : Head ℕ) → same_head g h ≡ same_head h g
heads_turned g h = same_both_ways (same_head g h) (same_head h g) (λ e. (same_head-Decides h g).1 (sym ((same_head-Decides g h).0 e))) (λ e. (same_head-Decides g h).1 (sym ((same_head-Decides h g).0 e)))

numbers_turned : (y z : Variable ℕ) → same_numbered y z ≡ same_numbered z y
numbers_turned y z = same_both_ways (same_numbered y z) (same_numbered z y) (λ e. (same_numbered-Decides z y).1 (sym ((same_numbered-Decides y z).0 e))) (λ e. (same_numbered-Decides y z).1 (sym ((same_numbered-Decides z y).0 e)))

agreeing_turned : (gs hs : List (Head ℕ)) → agreeing gs hs ≡ agreeing hs gs
agreeing_turned [] [] = refl
agreeing_turned [] (h ∷ hs) = ap (λ l. false ∷ l) (agreeing_turned [] hs)
agreeing_turned (g ∷ gs) [] = ap (λ l. false ∷ l) (agreeing_turned gs [])
agreeing_turned (g ∷ gs) (h ∷ hs) = ap (λ b. b ∷ agreeing gs hs) (heads_turned g h) ∙ ap (λ l. same_head h g ∷ l) (agreeing_turned gs hs)

older_one_way : (ys : List (Variable ℕ)) (y z : Variable ℕ) → is_older ys y z ≡ true → is_older ys z y ≡ false
older_one_way [] y z e = refl
older_one_way (v ∷ vs) y z e = go (same_numbered v y) (same_numbered v z) e (older_one_way vs y z)
  where
    go : (b d : Bool) → cond b (not d) (cond d false (is_older vs y z)) ≡ true → (is_older vs y z ≡ true → is_older vs z y ≡ false) → cond d (not b) (cond b false (is_older vs z y)) ≡ false
    go true true e rest = refl
    go true false e rest = refl
    go false true e rest = absurd (false≢true e)
    go false false e rest = rest e

module _ {Hint : Type 0} where
  abbrev pub turned_result : Result Hint → Result Hint
  turned_result clash = clash
  turned_result (parts es) = parts (map turned es)
  turned_result (replaced c) = replaced c

  or_else_turned : (a b : Option (Result Hint)) → option_map turned_result (or_else a b) ≡ or_else (option_map turned_result a) (option_map turned_result b)
  or_else_turned None b = refl
  or_else_turned (Some r) b = refl

  both : (a b a2 b2 : Option (Result Hint)) → a ≡ option_map turned_result a2 → b ≡ option_map turned_result b2 → or_else a b ≡ option_map turned_result (or_else a2 b2)
  both a b a2 b2 p q = ap (λ o. or_else o b) p ∙ ap (or_else (option_map turned_result a2)) q ∙ sym (or_else_turned a2 b2)

  paired_turned : (p : ℕ) (ts us : Terms ℕ Hint) → paired p us ts ≡ map turned (paired p ts us)
  paired_turned p no_terms no_terms = refl
  paired_turned p no_terms (term u us) = refl
  paired_turned p (term t ts) no_terms = refl
  paired_turned p (term t ts) (term u us) = ap (λ l. record { place = p; left = u; right = t } ∷ l) (paired_turned p ts us)

  equal_turned : (e : Equation Hint) → equal_sides (turned e) ≡ option_map turned_result (equal_sides e)
  equal_turned e = ap (λ b. cond b (Some (parts [])) None) (terms_turned e.right e.left) ∙ go (same_term e.left e.right)
    where
      go : (b : Bool) → cond b (Some (parts [])) None ≡ option_map turned_result (cond b (Some (parts [])) None)
      go true = refl
      go false = refl

  bodies_turned : (p : ℕ) (t u : Term ℕ Hint) → bodies p u t ≡ option_map turned_result (bodies p t u)
  bodies_turned p (lam A x t) (lam B y u) = refl
  bodies_turned p (lam A x t) (spine h us) = refl
  bodies_turned p (spine g ts) (lam B y u) = refl
  bodies_turned p (spine g ts) (spine h us) = refl

  rigid_turned : (ys : List (Variable ℕ)) (p : ℕ) (t u : Term ℕ Hint) → rigid_heads ys p u t ≡ option_map turned_result (rigid_heads ys p t u)
  rigid_turned ys p (lam A x t) (lam B y u) = refl
  rigid_turned ys p (lam A x t) (spine h us) = refl
  rigid_turned ys p (spine g ts) (lam B y u) = refl
  rigid_turned ys p (spine g ts) (spine h us) = ap (λ b. cond (is_flexible ys h || is_flexible ys g) None (Some (cond b (parts (paired p us ts)) clash))) (heads_turned h g) ∙ go (is_flexible ys g) (is_flexible ys h) (same_head g h)
    where
      go : (a b s : Bool) → cond (b || a) None (Some (cond s (parts (paired p us ts)) clash)) ≡ option_map turned_result (cond (a || b) None (Some (cond s (parts (paired p ts us)) clash)))
      go true true s = refl
      go true false s = refl
      go false true s = refl
      go false false true = ap (λ l. Some (parts l)) (paired_turned p ts us)
      go false false false = refl

-- the rules that replace
module _ {Hint : Type 0} (x : Hint) (cells : List (Cell Hint)) (ys : List (Variable ℕ)) where
  not_parts : (t u : Term ℕ Hint) (o : Option (Result Hint)) → OnResult (Replacing x cells ys t u) o → option_map turned_result o ≡ o
  not_parts t u None q = refl
  not_parts t u (Some clash) q = refl
  not_parts t u (Some (parts es)) q = absurd q
  not_parts t u (Some (replaced c)) q = refl

  swapped : (a b : Option (Result Hint)) → (a ≡ None) ⊎ (b ≡ None) → or_else b a ≡ or_else a b
  swapped None None e = refl
  swapped None (Some r) e = refl
  swapped (Some r) None e = refl
  swapped (Some r) (Some s) (inl e) = absurd (cc)
  swapped (Some r) (Some s) (inr e) = absurd (cc)

  one_rigid : (t u : Term ℕ Hint) → (pattern_and_rigid x cells ys t u ≡ None) ⊎ (pattern_and_rigid x cells ys u t ≡ None)
  one_rigid (lam A z t) u = inl refl
  one_rigid (spine (constant d) ts) u = inl refl
  one_rigid (spine (logical l) ts) u = inl refl
  one_rigid (spine (nominal a) ts) u = inl refl
  one_rigid (spine (index i) ts) u = inl refl
  one_rigid (spine (variable y) ts) (lam A z u) = inl refl
  one_rigid (spine (variable y) ts) (spine (constant d) us) = inr refl
  one_rigid (spine (variable y) ts) (spine (logical l) us) = inr refl
  one_rigid (spine (variable y) ts) (spine (nominal a) us) = inr refl
  one_rigid (spine (variable y) ts) (spine (index i) us) = inr refl
  one_rigid (spine (variable y) ts) (spine (variable z) us) = go (holds ys y) (holds ys z)
    where
      go : (b d : Bool) → (cond (b && not d) (pattern_of x cells ys y (spine (variable z) us) (pattern y.type ts)) None ≡ None) ⊎ (cond (d && not b) (pattern_of x cells ys z (spine (variable y) ts) (pattern z.type us)) None ≡ None)
      go false d = inl refl
      go true true = inl refl
      go true false = inr refl

  one_older : (t u : Term ℕ Hint) → (two_variables x cells ys t u ≡ None) ⊎ (two_variables x cells ys u t ≡ None)
  one_older (lam A z t) u = inl refl
  one_older (spine (constant d) ts) u = inl refl
  one_older (spine (logical l) ts) u = inl refl
  one_older (spine (nominal a) ts) u = inl refl
  one_older (spine (index i) ts) u = inl refl
  one_older (spine (variable y) ts) (lam A z u) = inl refl
  one_older (spine (variable y) ts) (spine (constant d) us) = inl refl
  one_older (spine (variable y) ts) (spine (logical l) us) = inl refl
  one_older (spine (variable y) ts) (spine (nominal a) us) = inl refl
  one_older (spine (variable y) ts) (spine (index i) us) = inl refl
  one_older (spine (variable y) ts) (spine (variable z) us) = go (is_older ys y z) refl
    where
      never : (b : Bool) (o : Option (Result Hint)) → cond (b && false) o None ≡ None
      never true o = refl
      never false o = refl

      go : (b : Bool) → is_older ys y z ≡ b → (two_variables x cells ys (spine (variable y) ts) (spine (variable z) us) ≡ None) ⊎ (two_variables x cells ys (spine (variable z) us) (spine (variable y) ts) ≡ None)
      go true e = inr (ap (λ b. cond (holds ys y && b) (two_at x cells ys z (pattern z.type us) y (pattern y.type ts)) None) (older_one_way ys y z e) ∙ never (holds ys y) (two_at x cells ys z (pattern z.type us) y (pattern y.type ts)))
      go false e = inl (ap (λ b. cond (holds ys z && b) (two_at x cells ys y (pattern y.type ts) z (pattern z.type us)) None) e ∙ never (holds ys z) (two_at x cells ys y (pattern y.type ts) z (pattern z.type us)))

  narrowed_turned : (y : Variable ℕ) (gs hs : List (Head ℕ)) (keep : List Bool) → Distinct gs → Distinct hs → length gs ≡ length hs → length hs ≤ arity y.type → narrowed x y gs keep (unchanged x cells ys) ≡ narrowed x y hs keep (unchanged x cells ys)
  narrowed_turned y gs hs keep d e l a =
      let w = next_variable x cells (kept_type keep y.type) in
      ap (λ (v : Term ℕ Hint). record { cells = cells ++ made x cells y (kept_type keep y.type) ∷ []; flexible = without y ys ++ w ∷ []; pairs = composition same_number [] ((y, v) ∷ []) }) (narrowed_same x y.type gs hs w keep d e l a)

  module _ (sg : Signature) where
    at_one : (G : List Ty) (k : List ℕ) (y : Variable ℕ) (ts us : Terms ℕ Hint) (o q : Option (List (Head ℕ))) → pattern y.type ts ≡ o → pattern y.type us ≡ q → TakeType sg G ts y.type (kind k) → TakeType sg G us y.type (kind k) → same_variable_at x cells ys y q o ≡ same_variable_at x cells ys y o q
    at_one G k y ts us None None e f ds es = refl
    at_one G k y ts us None (Some hs) e f ds es = refl
    at_one G k y ts us (Some gs) None e f ds es = refl
    at_one G k y ts us (Some gs) (Some hs) e f ds es =
        let p = is_pattern y.type ts gs e in
        let r = is_pattern y.type us hs f in
        let first : length gs ≡ arity y.type = named_length k (pattern_named sg p ds) in
        let second : length hs ≡ arity y.type = named_length k (pattern_named sg r es) in
        ap (λ keep. Some (replaced (narrowed x y hs keep (unchanged x cells ys)))) (agreeing_turned hs gs)
        ∙ ap (λ c. Some (replaced c)) (narrowed_turned y hs gs (agreeing gs hs) (pattern_distinct r) (pattern_distinct p) (second ∙ sym first) (omega (arith, first)))

    one_turned : {G : List Ty} {T : Ty} (t u : Term ℕ Hint) → HasType sg G t T → HasType sg G u T → one_variable x cells ys u t ≡ one_variable x cells ys t u
    one_turned (lam A z t) (lam B v u) d e = refl
    one_turned (lam A z t) (spine (constant b) us) d e = refl
    one_turned (lam A z t) (spine (logical b) us) d e = refl
    one_turned (lam A z t) (spine (nominal b) us) d e = refl
    one_turned (lam A z t) (spine (index b) us) d e = refl
    one_turned (lam A z t) (spine (variable b) us) d e = refl
    one_turned (spine (constant a) ts) (lam B v u) d e = refl
    one_turned (spine (logical a) ts) (lam B v u) d e = refl
    one_turned (spine (nominal a) ts) (lam B v u) d e = refl
    one_turned (spine (index a) ts) (lam B v u) d e = refl
    one_turned (spine (variable a) ts) (lam B v u) d e = refl
    one_turned (spine (constant a) ts) (spine (constant b) us) d e = refl
    one_turned (spine (constant a) ts) (spine (logical b) us) d e = refl
    one_turned (spine (constant a) ts) (spine (nominal b) us) d e = refl
    one_turned (spine (constant a) ts) (spine (index b) us) d e = refl
    one_turned (spine (constant a) ts) (spine (variable b) us) d e = refl
    one_turned (spine (logical a) ts) (spine (constant b) us) d e = refl
    one_turned (spine (logical a) ts) (spine (logical b) us) d e = refl
    one_turned (spine (logical a) ts) (spine (nominal b) us) d e = refl
    one_turned (spine (logical a) ts) (spine (index b) us) d e = refl
    one_turned (spine (logical a) ts) (spine (variable b) us) d e = refl
    one_turned (spine (nominal a) ts) (spine (constant b) us) d e = refl
    one_turned (spine (nominal a) ts) (spine (logical b) us) d e = refl
    one_turned (spine (nominal a) ts) (spine (nominal b) us) d e = refl
    one_turned (spine (nominal a) ts) (spine (index b) us) d e = refl
    one_turned (spine (nominal a) ts) (spine (variable b) us) d e = refl
    one_turned (spine (index a) ts) (spine (constant b) us) d e = refl
    one_turned (spine (index a) ts) (spine (logical b) us) d e = refl
    one_turned (spine (index a) ts) (spine (nominal b) us) d e = refl
    one_turned (spine (index a) ts) (spine (index b) us) d e = refl
    one_turned (spine (index a) ts) (spine (variable b) us) d e = refl
    one_turned (spine (variable a) ts) (spine (constant b) us) d e = refl
    one_turned (spine (variable a) ts) (spine (logical b) us) d e = refl
    one_turned (spine (variable a) ts) (spine (nominal b) us) d e = refl
    one_turned (spine (variable a) ts) (spine (index b) us) d e = refl
    one_turned {G = G} {T = T} (spine (variable y) ts) (spine (variable z) us) d e = go (same_numbered y z) refl
      where
        never : (b : Bool) (o : Option (Result Hint)) → cond (b && false) o None ≡ None
        never true o = refl
        never false o = refl

        go : (b : Bool) → same_numbered y z ≡ b → one_variable x cells ys (spine (variable z) us) (spine (variable y) ts) ≡ one_variable x cells ys (spine (variable y) ts) (spine (variable z) us)
        go false s =
            ap (λ b. cond (holds ys z && b) (same_variable_at x cells ys z (pattern z.type us) (pattern y.type ts)) None) (numbers_turned z y ∙ s) ∙ never (holds ys z) (same_variable_at x cells ys z (pattern z.type us) (pattern y.type ts))
            ∙ sym (ap (λ b. cond (holds ys y && b) (same_variable_at x cells ys y (pattern y.type ts) (pattern z.type us)) None) s ∙ never (holds ys y) (same_variable_at x cells ys y (pattern y.type ts) (pattern z.type us)))
        go true s =
            let same : z ≡ y = sym ((same_numbered-Decides y z).0 s) in
            let r = spine_args sg G y ts T d in
            let one : HasType sg G (spine (variable y) us) T = subst (λ v. HasType sg G (spine (variable v) us) T) same e in
            let q = spine_args sg G y us (kind r.0) (subst (λ C. HasType sg G (spine (variable y) us) C) r.1 one) in
            let same_kind : TakeType sg G us y.type (kind r.0) = subst (λ C. TakeType sg G us y.type C) (sym q.1) q.2 in
            subst (λ v. one_variable x cells ys (spine (variable v) us) (spine (variable y) ts) ≡ one_variable x cells ys (spine (variable y) ts) (spine (variable v) us)) (sym same)
            (ap (λ o. cond (holds ys y && same_numbered y y) o None) (at_one G r.0 y ts us (pattern y.type ts) (pattern y.type us) refl refl r.2 same_kind))

    -- THE RULE, the other way round
    rule_turned : (e : Equation Hint) → IsTypedEquation sg e → rule x cells ys (turned e) ≡ option_map turned_result (rule x cells ys e)
    rule_turned e d =
        let P = Replacing x cells ys e.left e.right in
        let equal = equal_sides e in
        let body = bodies e.place e.left e.right in
        let rigid = rigid_heads ys e.place e.left e.right in
        let four = either_way x cells ys (pattern_and_rigid x cells ys) e in
        let five = one_variable x cells ys e.left e.right in
        let six = either_way x cells ys (two_variables x cells ys) e in
        let four_same : option_map turned_result four ≡ four = not_parts e.left e.right four (on_or_else P (pattern_and_rigid x cells ys e.left e.right) (pattern_and_rigid x cells ys e.right e.left) (rigid_gives x cells ys e.left e.right) (found_back x cells ys e.left e.right (pattern_and_rigid x cells ys e.right e.left) (rigid_gives x cells ys e.right e.left))) in
        let five_same : option_map turned_result five ≡ five = not_parts e.left e.right five (one_gives x cells ys e.left e.right) in
        let six_same : option_map turned_result six ≡ six = not_parts e.left e.right six (on_or_else P (two_variables x cells ys e.left e.right) (two_variables x cells ys e.right e.left) (two_gives x cells ys e.left e.right) (found_back x cells ys e.left e.right (two_variables x cells ys e.right e.left) (two_gives x cells ys e.right e.left))) in
        all_same (equal_sides (turned e)) (bodies e.place e.right e.left) (rigid_heads ys e.place e.right e.left) (either_way x cells ys (pattern_and_rigid x cells ys) (turned e)) (one_variable x cells ys e.right e.left) (either_way x cells ys (two_variables x cells ys) (turned e))
        equal body rigid four five six
        (equal_turned e) (bodies_turned e.place e.left e.right) (rigid_turned ys e.place e.left e.right)
        (swapped (pattern_and_rigid x cells ys e.left e.right) (pattern_and_rigid x cells ys e.right e.left) (one_rigid e.left e.right) ∙ sym four_same)
        (one_turned e.left e.right d.2 d.3 ∙ sym five_same)
        (swapped (two_variables x cells ys e.left e.right) (two_variables x cells ys e.right e.left) (one_older e.left e.right) ∙ sym six_same)
      where
        all_same : (a b c4 d4 f g a2 b2 c2 d2 f2 g2 : Option (Result Hint)) → a ≡ option_map turned_result a2 → b ≡ option_map turned_result b2 → c4 ≡ option_map turned_result c2 → d4 ≡ option_map turned_result d2 → f ≡ option_map turned_result f2 → g ≡ option_map turned_result g2
            → or_else a (or_else b (or_else c4 (or_else d4 (or_else f g)))) ≡ option_map turned_result (or_else a2 (or_else b2 (or_else c2 (or_else d2 (or_else f2 g2)))))
        all_same a b c4 d4 f g a2 b2 c2 d2 f2 g2 p q r s t u =
            both a (or_else b (or_else c4 (or_else d4 (or_else f g)))) a2 (or_else b2 (or_else c2 (or_else d2 (or_else f2 g2)))) p
            (both b (or_else c4 (or_else d4 (or_else f g))) b2 (or_else c2 (or_else d2 (or_else f2 g2))) q
            (both c4 (or_else d4 (or_else f g)) c2 (or_else d2 (or_else f2 g2)) r
            (both d4 (or_else f g) d2 (or_else f2 g2) s (both f g f2 g2 t u))))

-- WHAT A STEP LEADS TO, the other way round
module _ {Hint : Type 0} where
  abbrev turned_found : Found Hint → Found Hint
  turned_found f = record { before = map turned f.before; result = turned_result f.result; behind = map turned f.behind }

  abbrev pub turned_state : State Hint → State Hint
  turned_state s = record { equations = map turned s.equations; cells = s.cells; flexible = s.flexible; pairs = s.pairs }

  abbrev turned_next : Next Hint → Next Hint
  turned_next (finished a) = finished a
  turned_next (goes_on s) = goes_on (turned_state s)

  found_turned : (e : Equation Hint) (es : List (Equation Hint)) (r : Option (Result Hint)) (o : Option (Found Hint)) → found_at (turned e) (map turned es) (option_map turned_result r) (option_map turned_found o) ≡ option_map turned_found (found_at e es r o)
  found_turned e es (Some r) o = refl
  found_turned e es None None = refl
  found_turned e es None (Some f) = refl

  images_turned : (s : Substitution ℕ Hint) (es : List (Equation Hint)) → map (image_of s) (map turned es) ≡ map turned (map (image_of s) es)
  images_turned s [] = refl
  images_turned s (e ∷ es) = ap (λ l. image_of s (turned e) ∷ l) (images_turned s es)

  carried_turned : (s : State Hint) (f : Found Hint) (r : Result Hint) → carried (turned_state s) (turned_found f) (turned_result r) ≡ turned_next (carried s f r)
  carried_turned s f clash = refl
  carried_turned s f (parts es) = ap (λ l. goes_on (record { equations = l; cells = s.cells; flexible = s.flexible; pairs = s.pairs }))
      (ap (λ l. l ++ map turned f.behind) (sym (map-append turned f.before es)) ∙ sym (map-append turned (f.before ++ es) f.behind))
  carried_turned s f (replaced c) = ap (λ l. goes_on (record { equations = l; cells = c.cells; flexible = c.flexible; pairs = composition same_number s.pairs c.pairs }))
      (ap (map (image_of c.pairs)) (sym (map-append turned f.before f.behind)) ∙ images_turned c.pairs (f.before ++ f.behind))

  ending_turned : (s : State Hint) (es : List (Equation Hint)) → ending (turned_state s) (map turned es) ≡ ending s es
  ending_turned s [] = refl
  ending_turned s (e ∷ es) = refl

  next_turned_by : (s : State Hint) (o : Option (Found Hint)) → next_by (turned_state s) (option_map turned_found o) ≡ turned_next (next_by s o)
  next_turned_by s None = ap finished (ending_turned s s.equations)
  next_turned_by s (Some f) = carried_turned s f f.result

module _ (sg : Signature) {Hint : Type 0} (x : Hint) where
  first_turned : (cells : List (Cell Hint)) (ys : List (Variable ℕ)) (es : List (Equation Hint)) → AreTyped sg es → first_found (rule x cells ys) (map turned es) ≡ option_map turned_found (first_found (rule x cells ys) es)
  first_turned cells ys [] d = refl
  first_turned cells ys (e ∷ es) d =
      ap (λ r. found_at (turned e) (map turned es) r (first_found (rule x cells ys) (map turned es))) (rule_turned x cells ys sg e d.0)
      ∙ ap (found_at (turned e) (map turned es) (option_map turned_result (rule x cells ys e))) (first_turned cells ys es d.1)
      ∙ found_turned e es (rule x cells ys e) (first_found (rule x cells ys) es)

  next_turned : (s : State Hint) → AreTyped sg s.equations → next x (turned_state s) ≡ turned_next (next x s)
  next_turned s d = ap (next_by (turned_state s)) (first_turned s.cells s.flexible s.equations d) ∙ next_turned_by s (first_found (rule x s.cells s.flexible) s.equations)

  -- THE ANSWER IS THE SAME
  solves_turned : (s : State Hint) (a : Answer Hint) → IsProblem sg x s → Solves x s a → Solves x (turned_state s) a
  solves_turned s a p (at_end e) = at_end (next_turned s p.equations ∙ ap turned_next e)
  solves_turned s a p (by_step {r = r} e q) = by_step (next_turned s p.equations ∙ ap turned_next e) (solves_turned r a (step_leads sg x s r p e).problem q)

pub sides_turned : (sg : Signature) {Hint : Type 0} (x : Hint) (es : List (Equation Hint)) (cells : List (Cell Hint)) (ys : List (Variable ℕ)) (a : Answer Hint) → AreTyped sg es → AreKnown cells ys → Solves x (given es cells ys) a → Solves x (given (map turned es) cells ys) a
sides_turned sg x es cells ys a d k p = solves_turned sg x (given es cells ys) a (problem sg x es cells ys d k) p
