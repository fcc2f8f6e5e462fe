-- What each rule lessens: the number of flexible variables; or, where that doesn't grow, the number of arguments that
-- they take; or, where neither changes, the size of the equations.
use Rattle.std.proofs.Common.{◌≡◌, ◌≢◌, ℕ, suc, ◌+◌, ◌<◌, ◌≤◌, List, [], ◌∷◌, ◌++◌, map, length, Bool, true, false, cond, not, ◌&&◌, ◌||◌, Option, Some, None, refl, sym, ◌∙◌, ap, arith, length-append}
use Rattle.std.specs.List.{list_all}
use Rattle.std.proofs.lemmas.Bool.{false≢true}
use Rattle.ab_term.specs.Types.{Ty, kind, arrow, arity}
use Rattle.ab_term.specs.Terms.{Variable, Head, constant, logical, nominal, variable, index, Term, lam, spine, Terms, no_terms, term}
use Rattle.ab_term.specs.Variables.{image}
use Rattle.ab_term.specs.Sameness.{same_numbered, same_number}
use Rattle.ab_term.specs.Abstraction.{among, under}
use Rattle.ab_term.specs.Sizes.{size}
use Rattle.ab_term.proofs.Same.{same_numbered-Decides}
use Rattle.ab_unifiers.specs.Patterns.{pattern, kept_type}
use Rattle.ab_unifiers.specs.Replacements.{Cell, Change, without, holds, is_flexible, next_variable, narrowed, pruned_names, pruned_here, pruned, pruned_all}
use Rattle.ab_unifiers.specs.Unification.{Equation, is_older, joined_at}
use Rattle.ab_unifiers.proofs.Measures.{arities, total}
use Rattle.ab_unifiers.proofs.Views.{is_pattern, pattern_length}

pub total-append : {Hint : Type 0} (es fs : List (Equation Hint)) → total (es ++ fs) ≡ total es + total fs
total-append [] fs = omega arith
total-append (e ∷ es) fs = omega (arith, total-append es fs)

pub some_size : {Hint : Type 0} (t : Term ℕ Hint) → 0 < size t
some_size (lam A x t) = omega arith
some_size (spine h ts) = omega arith

arities-append : (ys zs : List (Variable ℕ)) → arities (ys ++ zs) ≡ arities ys + arities zs
arities-append [] zs = omega arith
arities-append (y ∷ ys) zs = omega (arith, arities-append ys zs)

-- neither rises
pub record NotMore (old new : List (Variable ℕ)) : Type 0 where
  pub count : length new ≤ length old
  pub arguments : arities new ≤ arities old

-- THE NUMBER OF VARIABLES FALLS, or the number of arguments does and that of variables doesn't rise
pub data Shrinks (old new : List (Variable ℕ)) : Type 0 where
  fewer : length new < length old → Shrinks old new
  narrower : length new ≤ length old → arities new < arities old → Shrinks old new

same_then_not_more : (ys : List (Variable ℕ)) → NotMore ys ys
same_then_not_more ys = record { count = omega arith; arguments = omega arith }

then_not_more : {xs ys zs : List (Variable ℕ)} → NotMore xs ys → NotMore ys zs → NotMore xs zs
then_not_more a b = record { count = omega (arith, a.count, b.count); arguments = omega (arith, a.arguments, b.arguments) }

shrunk_not_more : {xs ys : List (Variable ℕ)} → length ys ≤ length xs → arities ys < arities xs → NotMore xs ys
shrunk_not_more l m = record { count = l; arguments = omega (arith, m) }

without_not_more : (y : Variable ℕ) (ys : List (Variable ℕ)) → NotMore ys (without y ys)
without_not_more y [] = same_then_not_more []
without_not_more y (z ∷ zs) = go (same_numbered z y) (without_not_more y zs)
  where
    go : (b : Bool) → NotMore zs (without y zs) → NotMore (z ∷ zs) (cond (not b) (z ∷ without y zs) (without y zs))
    go true l = record { count = omega (arith, l.count); arguments = omega (arith, l.arguments) }
    go false l = record { count = omega (arith, l.count); arguments = omega (arith, l.arguments) }

-- a variable that is there goes
pub record Loses (y : Variable ℕ) (old new : List (Variable ℕ)) : Type 0 where
  pub count : length new < length old
  pub arguments : arities new + arity y.type ≤ arities old

pub without_loses : (y : Variable ℕ) (ys : List (Variable ℕ)) → holds ys y ≡ true → Loses y ys (without y ys)
without_loses y [] e = absurd (cc)
without_loses y (z ∷ zs) e = go (same_numbered z y) refl (without_loses y zs) e
  where
    go : (b : Bool) → same_numbered z y ≡ b → (holds zs y ≡ true → Loses y zs (without y zs)) → (b || holds zs y) ≡ true → Loses y (z ∷ zs) (cond (not b) (z ∷ without y zs) (without y zs))
    go true s rest f =
        let equal : z ≡ y = (same_numbered-Decides z y).0 s in
        let one : arity z.type ≡ arity y.type = ap (λ v. arity v.type) equal in
        let l = without_not_more y zs in
        record { count = omega (arith, l.count); arguments = omega (arith, l.arguments, one) }
    go false s rest f = let l = rest f in record { count = omega (arith, l.count); arguments = omega (arith, l.arguments) }

-- the others stay
pub holds_without : (y z : Variable ℕ) → y ≢ z → (ys : List (Variable ℕ)) → holds ys z ≡ true → holds (without y ys) z ≡ true
holds_without y z n [] e = absurd (cc)
holds_without y z n (v ∷ vs) e = go (same_numbered v y) refl (same_numbered v z) refl (holds_without y z n vs) e
  where
    go : (b : Bool) → same_numbered v y ≡ b → (c : Bool) → same_numbered v z ≡ c → (holds vs z ≡ true → holds (without y vs) z ≡ true) → (c || holds vs z) ≡ true → holds (cond (not b) (v ∷ without y vs) (without y vs)) z ≡ true
    go true s true t rest f = absurd (n (sym ((same_numbered-Decides v y).0 s) ∙ (same_numbered-Decides v z).0 t))
    go true s false t rest f = rest f
    go false s true t rest f = ap (λ c. c || holds (without y vs) z) t
    go false s false t rest f = ap (λ c. c || holds (without y vs) z) t ∙ rest f

pub older_holds : (ys : List (Variable ℕ)) (y z : Variable ℕ) → is_older ys y z ≡ true → (holds ys y ≡ true) × (y ≢ z)
older_holds [] y z e = absurd (cc)
older_holds (v ∷ vs) y z e = go (same_numbered v y) refl (same_numbered v z) refl (older_holds vs y z) e
  where
    go : (b : Bool) → same_numbered v y ≡ b → (c : Bool) → same_numbered v z ≡ c → (is_older vs y z ≡ true → (holds vs y ≡ true) × (y ≢ z)) → cond b (not c) (cond c false (is_older vs y z)) ≡ true → ((b || holds vs y) ≡ true) × (y ≢ z)
    go true s true t rest f = absurd (cc)
    go true s false t rest f = (refl, λ e. false≢true (sym t ∙ (same_numbered-Decides v z).1 ((same_numbered-Decides v y).0 s ∙ e)))
    go false s true t rest f = absurd (cc)
    go false s false t rest f = rest f

kept_type-most : (keep : List Bool) (A : Ty) → arity (kept_type keep A) ≤ arity A
kept_type-most [] A = omega arith
kept_type-most (b ∷ bs) (kind k) = omega arith
kept_type-most (true ∷ bs) (arrow A B) = omega (arith, kept_type-most bs B)
kept_type-most (false ∷ bs) (arrow A B) = omega (arith, kept_type-most bs B)

-- where a flag isn't set, the type takes fewer arguments
pub kept_type-less : (keep : List Bool) (A : Ty) → length keep ≤ arity A → list_all (λ b. b) keep ≡ false → arity (kept_type keep A) < arity A
kept_type-less [] A l e = absurd (cc)
kept_type-less (b ∷ bs) (kind k) l e = absurd (omega (arith, l))
kept_type-less (true ∷ bs) (arrow A B) l e = omega (arith, kept_type-less bs B (omega (arith, l)) e)
kept_type-less (false ∷ bs) (arrow A B) l e = omega (arith, kept_type-most bs B)

module _ {Hint : Type 0} (x : Hint) where
  pub narrowed_shrinks : (y : Variable ℕ) (names : List (Head ℕ)) (keep : List Bool) (c : Change Hint) → holds c.flexible y ≡ true → arity (kept_type keep y.type) < arity y.type
      → (length (narrowed x y names keep c).flexible ≤ length c.flexible) × (arities (narrowed x y names keep c).flexible < arities c.flexible)
  narrowed_shrinks y names keep c h l =
      let gone = without_loses y c.flexible h in
      let z = next_variable x c.cells (kept_type keep y.type) in
      (omega (arith, gone.count, length-append (without y c.flexible) (z ∷ [])), omega (arith, gone.arguments, l, arities-append (without y c.flexible) (z ∷ [])))

map_flags : {X : Type 0} (f : X → Bool) (xs : List X) → list_all (λ b. b) (map f xs) ≡ list_all f xs
map_flags f [] = refl
map_flags f (y ∷ ys) = ap (λ b. f y && b) (map_flags f ys)

pub map_length : {X Y : Type 0} (f : X → Y) (xs : List X) → length (map f xs) ≡ length xs
map_length f [] = refl
map_length f (y ∷ ys) = ap suc (map_length f ys)

module _ {Hint : Type 0} (x : Hint) where
  names_not_more : (names : List (Head ℕ)) (y : Variable ℕ) (ts : Terms ℕ Hint) (o : Option (List (Head ℕ))) → pattern y.type ts ≡ o → (c : Change Hint) → holds c.flexible y ≡ true → NotMore c.flexible (pruned_names x names y o c).flexible
  names_not_more names y ts None e c h = same_then_not_more c.flexible
  names_not_more names y ts (Some bs) e c h = go (list_all (among names) bs) refl
    where
      go : (b : Bool) → list_all (among names) bs ≡ b → NotMore c.flexible (cond b c (narrowed x y bs (map (among names) bs) c)).flexible
      go true f = same_then_not_more c.flexible
      go false f =
          let long = pattern_length (is_pattern y.type ts bs e) in
          let less = kept_type-less (map (among names) bs) y.type (omega (arith, long, map_length (among names) bs)) (map_flags (among names) bs ∙ f) in
          let s = narrowed_shrinks x y bs (map (among names) bs) c h less in
          shrunk_not_more s.0 s.1

  here_not_more : (names : List (Head ℕ)) (t : Term ℕ Hint) (c : Change Hint) → NotMore c.flexible (pruned_here x names t c).flexible
  here_not_more names (spine (variable y) ts) c = go (holds c.flexible y) refl
    where
      go : (b : Bool) → holds c.flexible y ≡ b → NotMore c.flexible (cond b (pruned_names x names y (pattern y.type ts) c) c).flexible
      go true h = names_not_more names y ts (pattern y.type ts) refl c h
      go false h = same_then_not_more c.flexible
  here_not_more names (spine (constant d) ts) c = same_then_not_more c.flexible
  here_not_more names (spine (logical d) ts) c = same_then_not_more c.flexible
  here_not_more names (spine (nominal d) ts) c = same_then_not_more c.flexible
  here_not_more names (spine (index d) ts) c = same_then_not_more c.flexible
  here_not_more names (lam A y t) c = same_then_not_more c.flexible

  mutual
    pub pruned_not_more : (ys : List (Variable ℕ)) (names : List (Head ℕ)) (t : Term ℕ Hint) (c : Change Hint) → NotMore c.flexible (pruned x ys names t c).flexible
    pruned_not_more ys names (lam A y t) c = pruned_not_more ys (under names) t c
    pruned_not_more ys names (spine h ts) c = go (is_flexible ys h) (pruned_all_not_more ys names ts c)
      where
        go : (b : Bool) → NotMore c.flexible (pruned_all x ys names ts c).flexible → NotMore c.flexible (cond b (pruned_here x names (image same_number c.pairs (spine h ts)) c) (pruned_all x ys names ts c)).flexible
        go true rest = here_not_more names (image same_number c.pairs (spine h ts)) c
        go false rest = rest

    pruned_all_not_more : (ys : List (Variable ℕ)) (names : List (Head ℕ)) (ts : Terms ℕ Hint) (c : Change Hint) → NotMore c.flexible (pruned_all x ys names ts c).flexible
    pruned_all_not_more ys names no_terms c = same_then_not_more c.flexible
    pruned_all_not_more ys names (term t ts) c = then_not_more (pruned_not_more ys names t c) (pruned_all_not_more ys names ts (pruned x ys names t c))

  pub joined_fewer : (cells : List (Cell Hint)) (ys : List (Variable ℕ)) (y : Variable ℕ) (names : List (Head ℕ)) (z : Variable ℕ) (others : List (Head ℕ)) → holds ys y ≡ true → holds ys z ≡ true → y ≢ z → length (joined_at x cells ys y names z others).flexible < length ys
  joined_fewer cells ys y names z others hy hz n =
      let first = without_loses y ys hy in
      let second = without_loses z (without y ys) (holds_without y z n ys hz) in
      let keep = map (among others) names in
      omega (arith, first.count, second.count, length-append (without z (without y ys)) (next_variable x cells (kept_type keep y.type) ∷ []))
