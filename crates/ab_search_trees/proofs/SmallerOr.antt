-- Whether what ways leave of a goal is smaller, and a formula each, can be decided.
use Rattle.std.proofs.Common.{◌≡◌, inl, inr, ℕ, zero, suc, ◌<◌, List, [], ◌∷◌, arith}
use Rattle.ab_term.specs.Logical as plain
use Rattle.ab_term.specs.Logical.{Logical}
use Rattle.ab_term.specs.Terms.{Head, constant, logical, nominal, variable, index, lam, spine, Terms, no_terms, term, Read}
use Rattle.ab_formulas.specs.Formulas.{Place, a_formula, a_scope, a_marked, any, places_of, IsRigid, IsAtomic, StandsIn, AllStandIn}
use Rattle.ab_search_trees.specs.Goals.{Goal}
use Rattle.ab_search_trees.specs.Ways.{Way}
use Rattle.ab_search_trees.proofs.Deciding.{Decided, both_or, same_number_or}
use Rattle.ab_search_trees.proofs.Smaller.{Less, in_depth, in_layers, in_weight, IsSmaller, AllSmaller, EachWay}
use Rattle.ab_search_trees.proofs.Weights.{weight}

rigid_or : (h : Head ℕ) → Decided (IsRigid h)
rigid_or (variable x) = inr (λ e. e)
rigid_or (index i) = inr (λ e. e)
rigid_or (constant c) = inl tt
rigid_or (logical l) = inl tt
rigid_or (nominal a) = inl tt

atomic_or : (h : Head ℕ) → Decided (IsAtomic h)
atomic_or (constant c) = inl tt
atomic_or (nominal a) = inl tt
atomic_or (logical plain.judgement) = inl tt
atomic_or (logical plain.focused_judgement) = inl tt
atomic_or (logical _) = inr (λ e. e)
atomic_or (variable x) = inr (λ e. e)
atomic_or (index i) = inr (λ e. e)

mutual
  pub stands_or : (p : Place) (t : Read) → Decided (StandsIn p t)
  stands_or any t = inl tt
  stands_or a_formula (lam A x t) = inr (λ e. e)
  stands_or a_formula (spine h ts) = both_or (rigid_or h) (all_stand_or (places_of h) ts)
  stands_or a_scope (lam A x t) = stands_or a_formula t
  stands_or a_scope (spine h ts) = inr (λ e. e)
  stands_or a_marked (lam A x t) = inr (λ e. e)
  stands_or a_marked (spine h ts) = atomic_or h

  all_stand_or : (p : Place) (ts : Terms ℕ (List ℕ)) → Decided (AllStandIn p ts)
  all_stand_or p no_terms = inl tt
  all_stand_or p (term t ts) = both_or (stands_or p t) (all_stand_or p ts)

less_number_or : (i j : ℕ) → Decided (i < j)
less_number_or i zero = inr (λ l. absurd (omega (arith, l)))
less_number_or zero (suc j) = inl (omega arith)
less_number_or (suc i) (suc j) = elim (less_number_or i j) [ inl l ↦ inl (omega (arith, l)) | inr n ↦ inr (λ l. n (omega (arith, l))) ]

less_or : (g h : Goal) → Decided (Less g h)
less_or g h = by_depth (less_number_or h.depth g.depth) (same_number_or h.depth g.depth) (less_number_or h.layers g.layers) (same_number_or h.layers g.layers) (less_number_or (weight h.conclusion) (weight g.conclusion))
  where
    by_depth : Decided (h.depth < g.depth) → Decided (h.depth ≡ g.depth) → Decided (h.layers < g.layers) → Decided (h.layers ≡ g.layers) → Decided (weight h.conclusion < weight g.conclusion) → Decided (Less g h)
    by_depth (inl l) d e f w = inl (in_depth l)
    by_depth (inr n) (inl d) (inl e) f w = inl (in_layers d e)
    by_depth (inr n) (inl d) (inr m) (inl f) (inl w) = inl (in_weight d f w)
    by_depth (inr n) (inr m) e f w = inr (λ l. neither l)
      where
        neither : Less g h → ⊥
        neither (in_depth l) = n l
        neither (in_layers d l) = m d
        neither (in_weight d f l) = m d
    by_depth (inr n) (inl d) (inr m) (inr k) w = inr (λ l. neither l)
      where
        neither : Less g h → ⊥
        neither (in_depth l) = n l
        neither (in_layers d l) = m l
        neither (in_weight d f l) = k f
    by_depth (inr n) (inl d) (inr m) (inl f) (inr k) = inr (λ l. neither l)
      where
        neither : Less g h → ⊥
        neither (in_depth l) = n l
        neither (in_layers d l) = m l
        neither (in_weight d f l) = k l

smaller_or : (g h : Goal) → Decided (IsSmaller g h)
smaller_or g h = elim (both_or (stands_or a_formula h.conclusion) (less_or g h)) [
  | inl p ↦ inl (record { stands = p.0; less = p.1 })
  | inr n ↦ inr (λ s. n (s.stands, s.less))
]

all_smaller_or : (g : Goal) (hs : List Goal) → Decided (AllSmaller g hs)
all_smaller_or g [] = inl tt
all_smaller_or g (h ∷ hs) = both_or (smaller_or g h) (all_smaller_or g hs)

pub each_way_or : (g : Goal) (ws : List Way) → Decided (EachWay g ws)
each_way_or g [] = inl tt
each_way_or g (w ∷ ws) = both_or (all_smaller_or g w.goals) (each_way_or g ws)
