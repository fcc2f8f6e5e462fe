-- What a walk through two terms finds out about the permutations that send the first to the second. The walk keeps
-- the pairs of constants that each such permutation has to send to one another.
use Rattle.std.specs.Prelude.{◌≡◌, ◌≢◌, List, Bool, true, All, AllPairs}
use Rattle.ab_term.specs.Terms as tree
use Rattle.ab_term.specs.Translation.{forget, EqualPastHints}
use Rattle.ab_term.specs.Names.{rename}
use Rattle.ab_store.specs.ab_types.specs.Entries.{Table}
use Rattle.ab_store.specs.ab_types.specs.Sound.{IsTable}
use Rattle.ab_store.specs.declared.node.TermId.{TermId}
use Rattle.ab_store.specs.Trees.{Contents, tree_of}
use Rattle.ab_store.specs.Naming.{IsTypedBy}
use Rattle.ab_norm.specs.declared.memo.Agreed.{Agreed}
use Rattle.ab_norm.specs.WalkMemory.{has_agreed}
use Rattle.ab_norm.specs.declared.nominal.Swap.{Swap}
use Rattle.ab_norm.specs.Nominals.{nominal_of, HoldsPairs}

abbrev pub Renaming : Type 0
Renaming = tree.Nominal → tree.Nominal

-- different constants stay different, and types stay
pub record IsRenaming (f : Renaming) : Type 0 where
  pub injective : (a b : tree.Nominal) → f a ≡ f b → a ≡ b
  pub keeps : (a : tree.Nominal) → (f a).type ≡ a.type

-- each constant on the left is sent to the one on its right
abbrev pub Sends : Table → Renaming → List Swap → Type 0
Sends types f = All (λ p. f (nominal_of types p.from) ≡ nominal_of types p.to)

-- no constant stands twice on one side, and each pair is of one type
pub record IsOneToOne (ps : List Swap) : Type 0 where
  pub from_distinct : AllPairs (λ p q. p.from ≢ q.from) ps
  pub to_distinct : AllPairs (λ p q. p.to ≢ q.to) ps
  pub keeps : All (λ p. p.from.ty ≡ p.to.ty) ps

-- The walk began with some pairs, has more now, and says whether some renaming does what was asked: then any that
-- sends the pairs does it, and each renaming that sends the first pairs and does it sends all.
pub record Found (types : Table) (old new : List Swap) (does : Renaming → Type 0) (answer : Bool) : Type 0 where
  pub held : HoldsPairs types new
  pub before : (f : Renaming) → Sends types f new → Sends types f old
  pub sound : answer ≡ true → (f : Renaming) → Sends types f new → does f
  pub complete : (f : Renaming) → IsRenaming f → Sends types f old → does f → (answer ≡ true) × Sends types f new

-- each pair that is kept reads alike past hints
abbrev pub AllAgree : Contents → Agreed → Type 0
AllAgree store agreed = (types : Table) → IsTable types → IsTypedBy types store → (x y : TermId) → has_agreed agreed x y ≡ true →
    EqualPastHints (tree_of types store x) (tree_of types store y)

-- each pair that is kept is sent by whatever sends the pairs of constants
abbrev pub AllMatch : Table → Contents → List Swap → Agreed → Type 0
AllMatch types store ps agreed = (x y : TermId) → has_agreed agreed x y ≡ true → (f : Renaming) → Sends types f ps →
    forget (rename f (tree_of types store x)) ≡ forget (tree_of types store y)
