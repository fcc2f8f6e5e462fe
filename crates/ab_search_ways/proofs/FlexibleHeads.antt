-- A head is one of some cells just where its variable is one of theirs.
use Rattle.std.proofs.Common.{◌≡◌, ◌⊎◌, inl, inr, ℕ, ◌||◌, List, [], ◌∷◌, Bool, true, false, Contains, refl, sym, ap, ◌∙◌, subst}
use Rattle.std.specs.List.{list_any}
use Rattle.std.proofs.lemmas.Bool.Decides.{Decides-eqb}
use lib.Dec.{eqb}
use Rattle.ab_term.specs.Terms.{Variable}
use Rattle.ab_term.proofs.Lists.{Contains-none, Contains-here, Contains-there, Contains-cases, Contains-map, Contains-from_map}
use Rattle.ab_norm.specs.ab_types.specs.Entries.{Table}
use Rattle.ab_norm.specs.ab_store.specs.declared.node.CellId.{CellId}
use Rattle.ab_norm.specs.ab_store.specs.Trees.{Contents}
use Rattle.ab_norm.specs.ab_store.specs.Reading.{cell_variable}
use Rattle.ab_unifiers.specs.Replacements.{holds}
use Rattle.ab_unifiers.proofs.Agreeing.{contains_holds}
use Rattle.ab_unifiers.proofs.Variables.{holds_contains}
use Rattle.ab_unify.specs.Problem.{variables_read}

any_from_contains : (cs : List CellId) (c : CellId) → Contains cs c → list_any (λ (y : CellId). eqb y.0 c.0) cs ≡ true
any_from_contains [] c m = absurd (Contains-none c m)
any_from_contains (v ∷ vs) c m = go (eqb v.0 c.0) refl (any_from_contains vs c) (Contains-cases v vs c m)
  where
    go : (b : Bool) → eqb v.0 c.0 ≡ b → (Contains vs c → list_any (λ (y : CellId). eqb y.0 c.0) vs ≡ true) → (v ≡ c) ⊎ Contains vs c → (b || list_any (λ (y : CellId). eqb y.0 c.0) vs) ≡ true
    go true e later d = refl
    go false e later (inl p) = absurd (let q : false ≡ true = sym e ∙ (Decides-eqb v.0 c.0).1 (ap (λ (x : CellId). x.0) p) in cc)
    go false e later (inr d) = later d

contains_from_any : (cs : List CellId) (c : CellId) → list_any (λ (y : CellId). eqb y.0 c.0) cs ≡ true → Contains cs c
contains_from_any [] c e = absurd (cc)
contains_from_any (v ∷ vs) c e = go (eqb v.0 c.0) refl (contains_from_any vs c) e
  where
    go : (b : Bool) → eqb v.0 c.0 ≡ b → (list_any (λ (y : CellId). eqb y.0 c.0) vs ≡ true → Contains vs c) → (b || list_any (λ (y : CellId). eqb y.0 c.0) vs) ≡ true → Contains (v ∷ vs) c
    go true p later q = subst (Contains (v ∷ vs)) (ap (λ n. record { 0 = n }) ((Decides-eqb v.0 c.0).0 p)) (Contains-here v vs)
    go false p later q = Contains-there v vs c (later q)

same_truth : (a b : Bool) → (a ≡ true → b ≡ true) → (b ≡ true → a ≡ true) → a ≡ b
same_truth true b there back = sym (there refl)
same_truth false true there back = back refl
same_truth false false there back = refl

pub one_of_cells : (types : Table) (store : Contents) (cs : List CellId) (c : CellId) (r : Bool) → r ≡ list_any (λ (y : CellId). eqb y.0 c.0) cs
    → r ≡ holds (variables_read types store cs) (cell_variable types store c)
one_of_cells types store cs c r e = same_truth r (holds (variables_read types store cs) (cell_variable types store c)) there back
  where
    there : r ≡ true → holds (variables_read types store cs) (cell_variable types store c) ≡ true
    there h = contains_holds (variables_read types store cs) (cell_variable types store c) (Contains-map (cell_variable types store) cs c (contains_from_any cs c (sym e ∙ h)))

    back : holds (variables_read types store cs) (cell_variable types store c) ≡ true → r ≡ true
    back h = go (Contains-from_map (cell_variable types store) cs (cell_variable types store c) (holds_contains (variables_read types store cs) (cell_variable types store c) h))
      where
        go : (a : CellId) × (Contains cs a) × (cell_variable types store a ≡ cell_variable types store c) → r ≡ true
        go (a, m, same) = e ∙ any_from_contains cs c (subst (Contains cs) (ap (λ n. record { 0 = n }) (ap (λ (x : Variable ℕ). x.name) same)) m)
