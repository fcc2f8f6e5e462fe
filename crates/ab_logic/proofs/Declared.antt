-- What is declared stays the same, where a table gets types alone and a store terms and cells.
use Rattle.std.specs.Prelude.{Result, Ok, Err, OnOk, OnErr}
use Rattle.std.proofs.Common.{◌≡◌, inl, inr, [], ◌∷◌, ◌++◌, refl, sym, ◌∙◌, ap, append-nil}
use Rattle.ab_term.specs.Types.{Ty}
use Rattle.ab_store.specs.ab_types.specs.Entries.{Table, a_type, FindsOrAdds}
use Rattle.ab_logic.specs.WorldGrowth.{Grows}
use Rattle.ab_logic.specs.Worlds.{IsWorld, declared, declared_from, declarations_of}
use Rattle.ab_logic.specs.declared.world.World.{World}
use Rattle.ab_logic.proofs.Blocks.{declared_more}

module _ (w v : World) (is : IsWorld w) (grows : Grows w v) (additions : v.additions ≡ w.additions) where
  same_with : (more : Table) → v.types ≡ w.types ++ more → declared more ≡ [] → declarations_of v ≡ declarations_of w
  same_with more types none =
      ap (declared_from v 0) additions
      ∙ declared_more w v more types grows.ids grows.readings grows.cell_ids grows.cells 0 w.additions is.order is.additions
      ∙ ap (λ ds. declarations_of w ++ ds) none
      ∙ append-nil (declarations_of w)

  pub declared_same : v.types ≡ w.types → declarations_of v ≡ declarations_of w
  declared_same types = same_with [] (types ∙ sym (append-nil w.types)) refl

  typed : (A : Ty) → FindsOrAdds w.types (a_type A) v.types → declarations_of v ≡ declarations_of w
  typed A (inl found) = declared_same found.1
  typed A (inr added) = same_with (a_type A ∷ []) added.1 refl

  pub declared_typed : {X E : Type 0} (A : Ty) (r : Result X E) → OnOk r (FindsOrAdds w.types (a_type A) v.types) → OnErr r (v.types ≡ w.types) → declarations_of v ≡ declarations_of w
  declared_typed A (Ok x) added same = typed A added
  declared_typed A (Err e) added same = declared_same same

-- one after another
pub declared_on : (u v w : World) → IsWorld u → Grows u v → v.additions ≡ u.additions → v.types ≡ u.types → Grows v w → w.additions ≡ v.additions → w.types ≡ v.types
    → declarations_of w ≡ declarations_of u
declared_on u v w is a additions types b more others = declared_same v w a.world b more others ∙ declared_same u v is a additions types
