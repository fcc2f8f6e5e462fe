-- Lists of cells, as variables.
use Rattle.std.proofs.Common.{◌≡◌, ◌⊎◌, inl, inr, ℕ, List, [], ◌∷◌, map, Bool, true, false, cond, not, ◌==◌, refl, sym, ◌∙◌, ap, subst}
use Rattle.std.specs.Prelude.{All, Contains}
use Rattle.std.specs.Cmp.{unsigned_Decides}
use Rattle.std.proofs.lemmas.Bool.{false≢true, false_from_ne_true}
use Rattle.std.proofs.lemmas.List.Elements.{All-nil, All-cons, All-head, All-tail}
use Rattle.ab_term.specs.Terms.{Variable}
use Rattle.ab_term.specs.Sameness.{same_numbered}
use Rattle.ab_term.proofs.Same.{same_numbered-Decides}
use Rattle.ab_term.proofs.Lists.{Contains-none, Contains-here, Contains-there, Contains-cases}
use Rattle.ab_norm.specs.ab_types.specs.Entries.{Table}
use Rattle.ab_norm.specs.ab_store.specs.declared.node.CellId.{CellId}
use Rattle.ab_norm.specs.ab_store.specs.Trees.{Contents}
use Rattle.ab_norm.specs.ab_store.specs.Reading.{cell_variable}
use Rattle.ab_patterns.specs.ab_unifiers.specs.Replacements.{without}
use Rattle.ab_unify.specs.StoreChanges.{others_than}

pub same_cell : (c d : CellId) → c.0 ≡ d.0 → c ≡ d
same_cell c d e = ap (λ (n : ℕ). record { 0 = n }) e

-- a test on numbers is the test on variables
pub one_test : (types : Table) (store : Contents) (d c : CellId) → same_numbered (cell_variable types store d) (cell_variable types store c) ≡ (d.0 == c.0)
one_test types store d c = go (d.0 == c.0) refl
  where
    go : (b : Bool) → (d.0 == c.0) ≡ b → same_numbered (cell_variable types store d) (cell_variable types store c) ≡ b
    go true e = (same_numbered-Decides (cell_variable types store d) (cell_variable types store c)).1 (ap (cell_variable types store) (same_cell d c ((unsigned_Decides d.0 c.0).0 e)))
    go false e = false_from_ne_true (same_numbered (cell_variable types store d) (cell_variable types store c)) (λ f.
        let one : d.0 ≡ c.0 = ap (λ (v : Variable ℕ). v.name) ((same_numbered-Decides (cell_variable types store d) (cell_variable types store c)).0 f) in
        false≢true (sym e ∙ (unsigned_Decides d.0 c.0).1 one))

pub variables_without : (types : Table) (store : Contents) (c : CellId) (ds : List CellId) → map (cell_variable types store) (others_than c ds) ≡ without (cell_variable types store c) (map (cell_variable types store) ds)
variables_without types store c [] = refl
variables_without types store c (d ∷ ds) =
    go (d.0 == c.0) (variables_without types store c ds)
    ∙ ap (λ b. cond (not b) (cell_variable types store d ∷ without (cell_variable types store c) (map (cell_variable types store) ds)) (without (cell_variable types store c) (map (cell_variable types store) ds))) (sym (one_test types store d c))
  where
    go : (b : Bool) → map (cell_variable types store) (others_than c ds) ≡ without (cell_variable types store c) (map (cell_variable types store) ds)
        → map (cell_variable types store) (cond (not b) (d ∷ others_than c ds) (others_than c ds)) ≡ cond (not b) (cell_variable types store d ∷ without (cell_variable types store c) (map (cell_variable types store) ds)) (without (cell_variable types store c) (map (cell_variable types store) ds))
    go true e = e
    go false e = ap (λ l. cell_variable types store d ∷ l) e

pub still_other : (c d : CellId) (ds : List CellId) → (d.0 ≡ c.0 → ⊥) → Contains ds d → Contains (others_than c ds) d
still_other c d [] n m = absurd (Contains-none d m)
still_other c d (e ∷ es) n m = go (e.0 == c.0) refl (Contains-cases e es d m) (still_other c d es n)
  where
    go : (b : Bool) → (e.0 == c.0) ≡ b → (e ≡ d) ⊎ Contains es d → (Contains es d → Contains (others_than c es) d) → Contains (cond (not b) (e ∷ others_than c es) (others_than c es)) d
    go true f (inl s) rest = absurd (n (ap (λ (k : CellId). k.0) (sym s) ∙ (unsigned_Decides e.0 c.0).0 f))
    go true f (inr i) rest = rest i
    go false f (inl s) rest = subst (Contains (e ∷ others_than c es)) s (Contains-here e (others_than c es))
    go false f (inr i) rest = Contains-there e (others_than c es) d (rest i)

pub was_other : (c d : CellId) (ds : List CellId) → Contains (others_than c ds) d → Contains ds d × (d.0 ≡ c.0 → ⊥)
was_other c d [] m = absurd (Contains-none d m)
was_other c d (e ∷ es) m = go (e.0 == c.0) refl m (was_other c d es)
  where
    go : (b : Bool) → (e.0 == c.0) ≡ b → Contains (cond (not b) (e ∷ others_than c es) (others_than c es)) d → (Contains (others_than c es) d → Contains es d × (d.0 ≡ c.0 → ⊥)) → Contains (e ∷ es) d × (d.0 ≡ c.0 → ⊥)
    go true f m rest = let r = rest m in (Contains-there e es d r.0, r.1)
    go false f m rest = elim (Contains-cases e (others_than c es) d m) [
      | inl s ↦ (subst (Contains (e ∷ es)) s (Contains-here e es), λ q. false≢true (sym f ∙ (unsigned_Decides e.0 c.0).1 (ap (λ (k : CellId). k.0) s ∙ q)))
      | inr i ↦ (let r = rest i in (Contains-there e es d r.0, r.1))
    ]

pub all_others : (P : CellId → Type 0) (c : CellId) (ds : List CellId) → All P ds → All P (others_than c ds)
all_others P c [] all = All-nil P
all_others P c (e ∷ es) all = go (e.0 == c.0) (all_others P c es (All-tail P e es all))
  where
    go : (b : Bool) → All P (others_than c es) → All P (cond (not b) (e ∷ others_than c es) (others_than c es))
    go true rest = rest
    go false rest = All-cons P e (others_than c es) (All-head P e es all) rest
