-- A cell is in a list where its variable is among those of the list.
use Rattle.std.proofs.Common.{◌≡◌, ℕ, List, [], ◌∷◌, map, Bool, true, false, ◌==◌, ◌||◌, refl, sym, ◌∙◌, ap}
use Rattle.std.specs.Cmp.{unsigned_Decides}
use Rattle.std.specs.List.{list_any}
use Rattle.std.proofs.lemmas.Bool.{false≢true, false_from_ne_true}
use Rattle.ab_term.specs.Terms.{Variable}
use Rattle.ab_term.specs.Sameness.{same_numbered}
use Rattle.ab_term.proofs.Same.{same_numbered-Decides}
use Rattle.ab_norm.specs.ab_types.specs.Entries.{Table}
use Rattle.ab_norm.specs.ab_store.specs.declared.node.CellId.{CellId}
use Rattle.ab_norm.specs.ab_store.specs.Trees.{Contents}
use Rattle.ab_norm.specs.ab_store.specs.Reading.{cell_variable}
use Rattle.ab_unifiers.specs.Replacements.{holds}
use Rattle.ab_patterns.specs.Flexible.{same_cell}

pub turned : (c q : CellId) → same_cell c q ≡ same_cell q c
turned c q = go (c.0 == q.0) refl
  where
    go : (b : Bool) → (c.0 == q.0) ≡ b → b ≡ same_cell q c
    go true e = sym ((unsigned_Decides q.0 c.0).1 (sym ((unsigned_Decides c.0 q.0).0 e)))
    go false e = sym (false_from_ne_true (same_cell q c) (λ f. false≢true (sym e ∙ (unsigned_Decides c.0 q.0).1 (sym ((unsigned_Decides q.0 c.0).0 f)))))

module _ (types : Table) (store : Contents) where
  pub one_test : (c d : CellId) → (c.0 == d.0) ≡ same_numbered (cell_variable types store d) (cell_variable types store c)
  one_test c d = go (c.0 == d.0) refl
    where
      go : (b : Bool) → (c.0 == d.0) ≡ b → b ≡ same_numbered (cell_variable types store d) (cell_variable types store c)
      go true e = sym ((same_numbered-Decides (cell_variable types store d) (cell_variable types store c)).1 (ap (λ (n : ℕ). cell_variable types store (record { 0 = n })) (sym ((unsigned_Decides c.0 d.0).0 e))))
      go false e = sym (false_from_ne_true (same_numbered (cell_variable types store d) (cell_variable types store c)) (λ f.
          let one : d.0 ≡ c.0 = ap (λ (v : Variable ℕ). v.name) ((same_numbered-Decides (cell_variable types store d) (cell_variable types store c)).0 f) in
          false≢true (sym e ∙ (unsigned_Decides c.0 d.0).1 (sym one))))

  pub listed_holds : (c : CellId) (cells : List CellId) → list_any (same_cell c) cells ≡ holds (map (cell_variable types store) cells) (cell_variable types store c)
  listed_holds c [] = refl
  listed_holds c (d ∷ ds) =
      ap (λ b. b || list_any (same_cell c) ds) (one_test c d)
      ∙ ap (λ b. same_numbered (cell_variable types store d) (cell_variable types store c) || b) (listed_holds c ds)
