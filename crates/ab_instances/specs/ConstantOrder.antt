-- Constants that are put in order one by one, the last first. Public contracts don't speak of this.
use Rattle.std.specs.Prelude.{◌≡◌, List, [], ◌∷◌, Bool, true, cond, ◌==◌, Contains}
use Rattle.std.specs.HashSet as bag
use Rattle.ab_term.specs.Terms.{Nominal}
use Rattle.ab_term.specs.Names.{support}
use Rattle.ab_norm.specs.ab_types.specs.Entries.{Table}
use Rattle.ab_norm.specs.ab_store.specs.declared.node.TermId.{TermId}
use Rattle.ab_norm.specs.ab_store.specs.Trees.{Contents, tree_of}
use Rattle.ab_unifiers.specs.Choices.{is_in, placed}
use Rattle.ab_instances.specs.declared.constants.Seen.{Seen}

-- one constant more, where it isn't there
abbrev pub noted : Nominal → List Nominal → List Nominal
noted a found = cond (is_in found a) found (placed a found)

abbrev pub all_noted : List Nominal → List Nominal → List Nominal
all_noted [] found = found
all_noted (a ∷ xs) found = noted a (all_noted xs found)

abbrev pub same_term : TermId → TermId → Bool
same_term a b = a.0 == b.0

-- whether the term is kept
abbrev pub has_been : Seen → TermId → Bool
has_been seen t = bag.contains same_term seen.terms t

-- each constant of the terms that are kept is there
abbrev pub AreNoted : Table → Contents → List Nominal → Seen → Type 0
AreNoted types store found seen = (t : TermId) → has_been seen t ≡ true → (a : Nominal) → Contains (support (tree_of types store t)) a → is_in found a ≡ true
