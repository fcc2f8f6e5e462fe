-- Rows that grow by what a name stands for.
use Rattle.std.proofs.Common.{◌≡◌, ℕ, List, Some, sym, ap, ◌∙◌}
use Rattle.std.specs.Prelude.{Ok}
use Rattle.ab_norm.specs.ab_types.specs.Entries.{Table}
use Rattle.ab_norm.specs.ab_types.specs.declared.ids.TypeId.{TypeId}
use Rattle.ab_norm.specs.ab_types.specs.Ids.{type_of}
use Rattle.ab_norm.specs.ab_store.specs.declared.node.Head.{Head}
use Rattle.ab_norm.specs.ab_store.specs.Trees.{Contents, head_reading}
use Rattle.ab_norm.specs.ab_store.specs.Naming.{IsTypedBy}
use Rattle.ab_meaning.specs.ResolvedNames.{Name, Resolved, bound, known}
use Rattle.ab_meaning.specs.Scopes.{Scope, head_named, or_unknown}
use Rattle.ab_inference.specs.Sketches.{variable_at}
use Rattle.ab_inference.specs.declared.op.Op.TheVariants as op
use Rattle.ab_infer.specs.declared.scope.Bound.{Bound}
use Rattle.ab_infer.specs.NameScopes.{names_in, nodes_in}
use Rattle.ab_infer.specs.NameAnswers.{IsHead}
use Rattle.ab_infer.specs.declared.row.Row.{Row}
use Rattle.ab_infer.specs.Rows.{Grew}
use Rattle.ab_infer.specs.WalkMoves.{Puts}
use Rattle.ab_infer.proofs.Single.{grew_bound, grew_known}

module _ (t : Table) (store : Contents) (old new : Row) (s : Scope) (x : Name) (p : ℕ) (bs : List Bound) (same : bs ≡ old.bound.items) where
  pub name_found : (e : Resolved) → head_named s (names_in bs) x p ≡ Some e → or_unknown x (head_named s (names_in old.bound.items) x p) ≡ Ok e
  name_found e h = ap (or_unknown x) (ap (λ cs. head_named s (names_in cs) x p) (sym same) ∙ h)

  pub grew_bound_name : (i n : ℕ) → head_named s (names_in bs) x p ≡ Some (bound i) → variable_at (nodes_in bs) i ≡ Some n → Puts old new (op.Bound i n) → Grew t store old new (or_unknown x (head_named s (names_in old.bound.items) x p))
  grew_bound_name i n h at puts = grew_bound t store old new i n _ (name_found (bound i) h) (ap (λ cs. variable_at (nodes_in cs) i) (sym same) ∙ at) puts

  pub grew_known_name : (h : Head) (id : TypeId) → IsTypedBy t store → head_named s (names_in bs) x p ≡ Some (known (head_reading t store h) (type_of t id)) → IsHead t store h id → Puts old new (op.Known h id)
      → Grew t store old new (or_unknown x (head_named s (names_in old.bound.items) x p))
  grew_known_name h id typed e is puts =
      grew_known t store old new h id _ typed is.held (record { held = is.names; typed = is.typed; is = is.has }) (name_found (known (head_reading t store h) (type_of t id)) e) puts
