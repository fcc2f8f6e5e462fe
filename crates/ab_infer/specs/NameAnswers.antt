-- What the program answers of a name.
use Rattle.std.specs.Prelude.{◌≡◌, ℕ, List, Option, Some, None, option_map}
use Rattle.ab_term.specs.Types.{Ty}
use Rattle.ab_term.specs.Typing.{head_type}
use Rattle.ab_norm.specs.ab_types.specs.Entries.{Table, signature}
use Rattle.ab_norm.specs.ab_types.specs.Ids.{HoldsType, type_of}
use Rattle.ab_norm.specs.ab_types.specs.declared.ids.TypeId.{TypeId}
use Rattle.ab_norm.specs.ab_store.specs.Trees.{Contents, head_reading}
use Rattle.ab_norm.specs.ab_store.specs.Naming.{HoldsHead, HeadIsTyped}
use Rattle.ab_norm.specs.ab_store.specs.declared.node.Head.{Head}
use Rattle.ab_meaning.specs.ResolvedNames.{Name, Resolved, bound, known, free}
use Rattle.ab_meaning.specs.Scopes.{index_of}
use Rattle.ab_inference.specs.Sketches.{variable_at}
use Rattle.ab_infer.specs.declared.name_meanings.Named.{Named}
use Rattle.ab_infer.specs.declared.name_meanings.Named.TheVariants as named

-- the head is there, and of the type
pub record IsHead (types : Table) (store : Contents) (h : Head) (id : TypeId) : Type 0 where
  pub held : HoldsType types id
  pub names : HoldsHead store h
  pub typed : HeadIsTyped types h
  pub has : (G : List Ty) → head_type (signature types) G (head_reading types store h) ≡ Some (type_of types id)

-- What is found is what the name stands for: bound names have these type variables, and the name stands at the place.
abbrev pub Finds : Table → Contents → List ℕ → Name → ℕ → Option Resolved → Option Named → Type 0
Finds types store nodes x p r None = r ≡ None
Finds types store nodes x p r (Some (named.Bound i n)) = (r ≡ Some (bound i)) × (variable_at nodes i ≡ Some n)
Finds types store nodes x p r (Some (named.Known h id)) = (r ≡ Some (known (head_reading types store h) (type_of types id))) × IsHead types store h id
Finds types store nodes x p r (Some named.Free) = r ≡ Some (free x p)

-- the same of a bound name
abbrev pub FindsBound : List Name → List ℕ → Name → Option Named → Type 0
FindsBound names nodes x found = (types : Table) (store : Contents) (p : ℕ) → Finds types store nodes x p (option_map bound (index_of names x)) found
