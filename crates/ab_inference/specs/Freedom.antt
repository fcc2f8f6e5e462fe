-- What a walk over types keeps of those that it has been through. Only private contracts speak of this.
use Rattle.std.specs.Prelude.{◌≡◌, Bool, true, ◌==◌}
use Rattle.std.specs.HashSet as bag
use Rattle.ab_store.specs.ab_types.specs.Entries.{Table}
use Rattle.ab_store.specs.ab_types.specs.Ids.{type_of}
use Rattle.ab_store.specs.ab_types.specs.declared.ids.TypeId.{TypeId}
use Rattle.ab_meaning.specs.Types.{PropFree}
use Rattle.ab_inference.specs.declared.prop_free.Free.{Free}

abbrev pub same_id : TypeId → TypeId → Bool
same_id a b = a.0 == b.0

-- whether the type is kept
abbrev pub is_kept : Free → TypeId → Bool
is_kept free t = bag.contains same_id free.types t

-- each type that is kept is free of `prop`
abbrev pub AreFree : Table → Free → Type 0
AreFree types free = (t : TypeId) → is_kept free t ≡ true → PropFree (type_of types t)
