-- What lists of constants and of terms stand for.
use Rattle.std.specs.Prelude.{ℕ, List, map}
use Rattle.ab_term.specs.Terms as tree
use Rattle.ab_term.specs.Terms.{Terms, terms_of, Read}
use Rattle.ab_norm.specs.ab_types.specs.Entries.{Table}
use Rattle.ab_norm.specs.ab_store.specs.declared.node.TermId.{TermId}
use Rattle.ab_norm.specs.ab_store.specs.Trees.{Contents, tree_of}
use Rattle.ab_norm.specs.declared.nominal.Nominal.{Nominal}
use Rattle.ab_norm.specs.Nominals.{nominal_of}

module _ (types : Table) where
  abbrev pub names_read : List Nominal → List tree.Nominal
  names_read = map (nominal_of types)

  module _ (store : Contents) where
    abbrev pub trees_at : List TermId → List Read
    trees_at = map (tree_of types store)

    -- as what a head is given
    abbrev pub given_at : List TermId → Terms ℕ (List ℕ)
    given_at ts = terms_of (trees_at ts)
