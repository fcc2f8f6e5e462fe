-- Pruning makes a variable for each that loses names, so where none is made nothing has changed; and what a walk that
-- prunes may keep.
use Rattle.std.proofs.Common.{◌≡◌, ◌⊎◌, inl, inr, ℕ, zero, suc, ◌+◌, ◌<◌, List, map, length, Bool, true, false, cond, Option, Some, None, refl, sym, ◌∙◌, ap, subst, codes, arith, length-append}
use Rattle.std.specs.List.{list_all}
use Rattle.std.proofs.lemmas.Bool.{false≢true}
use Rattle.std.proofs.lemmas.List.{length-map}
use Rattle.ab_term.specs.Terms as tree
use Rattle.ab_term.specs.Terms.{Variable, Term, Terms, lam, spine, no_terms, term}
use Rattle.ab_term.specs.Substitution.{shift_head}
use Rattle.ab_term.specs.Variables.{image}
use Rattle.ab_term.specs.Sameness.{same_number}
use Rattle.ab_term.specs.Abstraction.{among, under}
use Rattle.ab_norm.specs.ab_types.specs.Entries.{Table}
use Rattle.ab_norm.specs.ab_store.specs.declared.node.TermId.{TermId}
use Rattle.ab_norm.specs.ab_store.specs.declared.node.CellId.{CellId}
use Rattle.ab_norm.specs.ab_store.specs.Trees.{Contents, tree_of}
use Rattle.ab_norm.specs.ab_store.specs.Reading.{cell_variable}
use Rattle.ab_patterns.specs.declared.visited_nodes.Seen.{Seen}
use Rattle.ab_patterns.specs.ReadingWalks.{has_been, deep}
use Rattle.ab_patterns.specs.ab_unifiers.specs.Patterns.{pattern}
use Rattle.ab_patterns.specs.ab_unifiers.specs.Replacements.{Change, holds, is_flexible, narrowed, pruned_names, pruned_here, pruned, pruned_all}
use Rattle.ab_unify.specs.Problem.{cell_read}
use Rattle.ab_unify.specs.StoreChanges.{Changed}
use Rattle.ab_unify.specs.Pruning.{AllPruned}

-- the second change is the first, or has more cells
abbrev pub NoneOrMore : Change (List ℕ) → Change (List ℕ) → Type 0
NoneOrMore c d = (d ≡ c) ⊎ (length c.cells < length d.cells)

more_on : (c d e : Change (List ℕ)) → NoneOrMore c d → NoneOrMore d e → NoneOrMore c e
more_on c d e (inl p) q = subst (λ m. NoneOrMore m e) p q
more_on c d e (inr l) (inl q) = inr (subst (λ m. length c.cells < length m.cells) (sym q) l)
more_on c d e (inr l) (inr k) = inr (omega (arith, l, k))

either : (b : Bool) (c d e : Change (List ℕ)) → NoneOrMore c d → NoneOrMore c e → NoneOrMore c (cond b d e)
either true c d e f g = f
either false c d e f g = g

module _ (x : List ℕ) where
  names_more : (names : List (tree.Head ℕ)) (y : Variable ℕ) (o : Option (List (tree.Head ℕ))) (c : Change (List ℕ)) → NoneOrMore c (pruned_names x names y o c)
  names_more names y None c = inl refl
  names_more names y (Some bs) c = go (list_all (among names) bs)
    where
      go : (b : Bool) → NoneOrMore c (cond b c (narrowed x y bs (map (among names) bs) c))
      go true = inl refl
      go false = inr (let e : length (narrowed x y bs (map (among names) bs) c).cells ≡ length c.cells + 1 = length-append c.cells _ in omega (arith, e))

  pub here_more : (names : List (tree.Head ℕ)) (t : Term ℕ (List ℕ)) (c : Change (List ℕ)) → NoneOrMore c (pruned_here x names t c)
  here_more names (lam A y t) c = inl refl
  here_more names (spine (tree.constant k) ts) c = inl refl
  here_more names (spine (tree.logical l) ts) c = inl refl
  here_more names (spine (tree.nominal a) ts) c = inl refl
  here_more names (spine (tree.index i) ts) c = inl refl
  here_more names (spine (tree.variable y) ts) c = go (holds c.flexible y)
    where
      go : (b : Bool) → NoneOrMore c (cond b (pruned_names x names y (pattern y.type ts) c) c)
      go true = names_more names y (pattern y.type ts) c
      go false = inl refl

  module _ (ys : List (Variable ℕ)) where
    mutual
      pub pruned_more : (names : List (tree.Head ℕ)) (t : Term ℕ (List ℕ)) (c : Change (List ℕ)) → NoneOrMore c (pruned x ys names t c)
      pruned_more names (lam A y t) c = pruned_more (under names) t c
      pruned_more names (spine h ts) c = either (is_flexible ys h) c (pruned_here x names (image same_number c.pairs (spine h ts)) c) (pruned_all x ys names ts c) (here_more names (image same_number c.pairs (spine h ts)) c) (all_more names ts c)

      all_more : (names : List (tree.Head ℕ)) (ts : Terms ℕ (List ℕ)) (c : Change (List ℕ)) → NoneOrMore c (pruned_all x ys names ts c)
      all_more names no_terms c = inl refl
      all_more names (term t ts) c = more_on c (pruned x ys names t c) (pruned_all x ys names ts (pruned x ys names t c)) (pruned_more names t c) (all_more names ts (pruned x ys names t c))

-- changes that are carried out on stores with the same cells
pub nothing_made : (T : Table) (S : Contents) (F : List CellId) (c d : Change (List ℕ)) (types more : Table) (store now : Contents) (here there : List CellId)
    → Changed T S F c types store here → Changed T S F d more now there → now.cells ≡ store.cells → NoneOrMore c d → d ≡ c
nothing_made T S F c d types more store now here there was is same (inl p) = p
nothing_made T S F c d types more store now here there was is same (inr l) =
    let before : length c.cells ≡ length store.cells = ap length (sym was.cells) ∙ length-map store.cells (cell_read types) in
    let after : length d.cells ≡ length now.cells = ap length (sym is.cells) ∙ length-map now.cells (cell_read more) in
    absurd (omega (arith, l, before, after, ap length same))

-- names under binders
length_deep : (k : ℕ) (hs : List (tree.Head ℕ)) → length (deep k hs) ≡ k + length hs
length_deep zero hs = omega arith
length_deep (suc k) hs = let e : length (map (shift_head zero) (deep k hs)) ≡ k + length hs = length-map (deep k hs) (shift_head zero) ∙ length_deep k hs in omega (arith, e)

pub names_deep : {A : Type 0} (f : A → tree.Head ℕ) (hs : List A) (k : ℕ) (outer : List (tree.Head ℕ)) → map f hs ≡ deep k outer → length hs ≡ k + length outer
names_deep f hs k outer e = sym (length-map hs f) ∙ ap length e ∙ length_deep k outer

module _ (T : Table) (S : Contents) (cells : List CellId) (outer : List (tree.Head ℕ)) where
  pub none_seen : (c : Change (List ℕ)) (seen : Seen) → ((t : TermId) (k : ℕ) → has_been seen t k ≡ false) → AllPruned T S cells outer c seen
  none_seen c seen none t k e = absurd (false≢true (sym (none t (k + length outer)) ∙ e))

  -- a term more, which pruning doesn't change
  pub seen_more : (c d : Change (List ℕ)) (old new : Seen) (t : TermId) (n depth : ℕ) (hs : List (tree.Head ℕ)) → hs ≡ deep depth outer → n ≡ depth + length outer
      → d ≡ pruned (codes "x") (map (cell_variable T S) cells) hs (tree_of T S t) c → d ≡ c → AllPruned T S cells outer d old
      → ((u : TermId) (k : ℕ) → (has_been new u k ≡ has_been old u k) ⊎ ((u ≡ t) × (k ≡ n))) → AllPruned T S cells outer d new
  seen_more c d old new t n depth hs names are made same all kept u k e = go (kept u (k + length outer))
    where
      walk : List (tree.Head ℕ) → TermId → Change (List ℕ) → Change (List ℕ)
      walk gs v b = pruned (codes "x") (map (cell_variable T S) cells) gs (tree_of T S v) b

      go : (has_been new u (k + length outer) ≡ has_been old u (k + length outer)) ⊎ ((u ≡ t) × (k + length outer ≡ n)) → walk (deep k outer) u d ≡ d
      go (inl before) = all u k (sym before ∙ e)
      go (inr h) =
          let at : k ≡ depth = omega (arith, h.1, are) in
          ap (λ j. walk (deep j outer) u d) at ∙ ap (λ v. walk (deep depth outer) v d) h.0 ∙ ap (walk (deep depth outer) t) same ∙ ap (λ gs. walk gs t c) (sym names) ∙ sym made
