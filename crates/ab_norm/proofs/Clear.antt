-- Trees that are made of trees in which no bound cell stands.
use Rattle.std.proofs.Common.{◌≡◌, ◌⊎◌, inl, inr, ℕ, List, [], ◌++◌, map, None, refl, sym, ◌∙◌, ap, subst}
use Rattle.std.specs.Prelude.{Contains}
use Rattle.std.proofs.lemmas.List.Elements.{All-contains}
use Rattle.ab_term.specs.Types.{Ty}
use Rattle.ab_term.specs.Terms as tree
use Rattle.ab_term.specs.Terms.{Variable, Terms, lam, spine, no_terms, term, Read}
use Rattle.ab_term.specs.Names.{rename, rename_all, rename_head}
use Rattle.ab_term.specs.Expansion.{expansion}
use Rattle.ab_term.specs.Variables.{variables, variables_of_head, variables_of_all}
use Rattle.ab_term.proofs.Lists.{Contains-none, Contains-cases, All-from_contains}
use Rattle.ab_term.proofs.Stands.{variables-expansion_of}
use Rattle.ab_store.specs.ab_types.specs.Entries.{Table}
use Rattle.ab_store.specs.declared.node.TermId.{TermId}
use Rattle.ab_store.specs.declared.node.Head.{Head}
use Rattle.ab_store.specs.declared.node.Head.TheVariants.{Const, Logic, Nominal, Cell, Index}
use Rattle.ab_store.specs.Trees.{Contents, head_reading, tree_of}
use Rattle.ab_store.specs.Reading.{bound_in, reading}
use Rattle.ab_store.specs.Bindings.{cells_of, IsUnbound, IsResolved}
use Rattle.ab_store.specs.Growth.{IsExtendedBy}
use Rattle.ab_store.proofs.Cells.{numbers, stands, numbered}
use Rattle.ab_store.proofs.Putting.{resolved_reads}
use Rattle.ab_norm.specs.Heads.{IsFree}

pub resolved_by : (types : Table) (s : Contents) (r : TermId) → ((n : ℕ) → Contains (numbers (tree_of types s r)) n → bound_in s.bindings (record { 0 = n }) ≡ None) → IsResolved s r
resolved_by types s r none = All-from_contains (IsUnbound s) (cells_of s r) (λ c m. none c.0 (numbered types s c r m))

pub unbound_by : (types : Table) (s : Contents) (r : TermId) → IsResolved s r → (n : ℕ) → Contains (numbers (tree_of types s r)) n → bound_in s.bindings (record { 0 = n }) ≡ None
unbound_by types s r clear n m = All-contains (IsUnbound s) (cells_of s r) (record { 0 = n }) clear (stands types s (record { 0 = n }) r m)

-- renaming leaves the variables
head-rename : (f : tree.Nominal → tree.Nominal) (h : tree.Head ℕ) → variables_of_head (rename_head f h) ≡ variables_of_head h
head-rename f (tree.constant c) = refl
head-rename f (tree.logical l) = refl
head-rename f (tree.nominal a) = refl
head-rename f (tree.variable x) = refl
head-rename f (tree.index i) = refl

mutual
  variables-rename : (f : tree.Nominal → tree.Nominal) (t : Read) → variables (rename f t) ≡ variables t
  variables-rename f (lam A x t) = variables-rename f t
  variables-rename f (spine h ts) = ap (λ l. l ++ variables_of_all (rename_all f ts)) (head-rename f h) ∙ ap (λ l. variables_of_head h ++ l) (all-rename f ts)

  all-rename : (f : tree.Nominal → tree.Nominal) (ts : Terms ℕ (List ℕ)) → variables_of_all (rename_all f ts) ≡ variables_of_all ts
  all-rename f no_terms = refl
  all-rename f (term t ts) = ap (λ l. l ++ variables_of_all (rename_all f ts)) (variables-rename f t) ∙ ap (λ l. variables t ++ l) (all-rename f ts)

module _ (types : Table) (s t : Contents) (more : IsExtendedBy s t) where
  pub renamed_reads : (f : tree.Nominal → tree.Nominal) (id r : TermId) → IsResolved s id → tree_of types t r ≡ rename f (tree_of types s id) → reading types t r ≡ rename f (reading types s id)
  renamed_reads f id r plain e =
      let clear : IsResolved t r = resolved_by types t r (λ n m.
      ap (λ bs. bound_in bs (record { 0 = n })) more.bindings
      ∙ unbound_by types s id plain n (subst (λ l. Contains (map (λ (x : Variable ℕ). x.name) l) n) (ap variables e ∙ variables-rename f (tree_of types s id)) m)) in
      resolved_reads types t r clear ∙ e ∙ ap (rename f) (sym (resolved_reads types s id plain))

  free_number : (h : Head) → IsFree s h → (n : ℕ) → Contains (map (λ (x : Variable ℕ). x.name) (variables_of_head (head_reading types s h) ++ [])) n → bound_in s.bindings (record { 0 = n }) ≡ None
  free_number (Const c) free n m = absurd (Contains-none n m)
  free_number (Logic l) free n m = absurd (Contains-none n m)
  free_number (Nominal k a) free n m = absurd (Contains-none n m)
  free_number (Index i) free n m = absurd (Contains-none n m)
  free_number (Cell c) free n m = go (Contains-cases c.0 [] n m)
    where
      go : (c.0 ≡ n) ⊎ Contains [] n → bound_in s.bindings (record { 0 = n }) ≡ None
      go (inl e) = subst (λ k. bound_in s.bindings (record { 0 = k }) ≡ None) e free
      go (inr none) = absurd (Contains-none n none)

  pub expansion_reads : (x : List ℕ) (A : Ty) (h : Head) (r : TermId) → IsFree s h → tree_of types t r ≡ expansion x A (head_reading types s h) → reading types t r ≡ expansion x A (head_reading types s h)
  expansion_reads x A h r free e =
      resolved_reads types t r (resolved_by types t r (λ n m.
      ap (λ bs. bound_in bs (record { 0 = n })) more.bindings
      ∙ free_number h free n (subst (λ l. Contains (map (λ (x : Variable ℕ). x.name) l) n) (ap variables e ∙ variables-expansion_of x A (head_reading types s h) no_terms) m)))
      ∙ e
