-- The types of bound names, as a program keeps them.
use Rattle.std.proofs.Common.{◌≡◌, ◌⊎◌, inl, inr, ℕ, zero, suc, ◌-◌, ◌<◌, ◌≤◌, List, [], ◌∷◌, ◌++◌, length, get_or, Some, None, refl, sym, ap, ◌∙◌, arith, length-append}
use Rattle.std.proofs.lemmas.Bool.{cases_lt}
use Rattle.ab_term.specs.Types.{Ty}
use Rattle.ab_term.specs.Typing.{type_at}
use Rattle.ab_store.specs.ab_types.specs.Entries.{Table}
use Rattle.ab_store.specs.ab_types.specs.Ids.{type_of}
use Rattle.ab_store.specs.ab_types.specs.declared.ids.TypeId.{TypeId}
use Rattle.ab_typing.specs.HeadArguments.{context}

in_front : (G K : List Ty) (i : ℕ) → i < length G → type_at (G ++ K) i ≡ type_at G i
in_front [] K i h = absurd (omega arith)
in_front (B ∷ G) K zero h = refl
in_front (B ∷ G) K (suc i) h = in_front G K i (omega arith)

at_end : (G : List Ty) (A : Ty) (i : ℕ) → i ≡ length G → type_at (G ++ A ∷ []) i ≡ Some A
at_end [] A zero h = refl
at_end [] A (suc i) h = absurd (omega arith)
at_end (B ∷ G) A zero h = absurd (omega arith)
at_end (B ∷ G) A (suc i) h = at_end G A i (omega arith)

past_end : (G : List Ty) (i : ℕ) → length G ≤ i → type_at G i ≡ None
past_end [] i h = refl
past_end (B ∷ G) zero h = absurd (omega arith)
past_end (B ∷ G) (suc i) h = past_end G i (omega arith)

module _ (types : Table) where
  length-context : (names : List TypeId) → length (context types names) ≡ length names
  length-context [] = refl
  length-context (a ∷ names) = length-append (context types names) (type_of types a ∷ []) ∙ omega (arith, length-context names)

  pub name_at : (names : List TypeId) (i : ℕ) (d : TypeId) → i < length names → type_at (context types names) i ≡ Some (type_of types (get_or names (length names - 1 - i) d))
  name_at [] i d h = absurd (omega arith)
  name_at (a ∷ names) i d h = go (name_at names i d) (cases_lt i (length names))
    where
      go : (i < length names → type_at (context types names) i ≡ Some (type_of types (get_or names (length names - 1 - i) d))) → (i < length names) ⊎ (length names ≤ i) → type_at (context types names ++ type_of types a ∷ []) i ≡ Some (type_of types (get_or (a ∷ names) (length (a ∷ names) - 1 - i) d))
      go before (inl l) =
          let place : length (a ∷ names) - 1 - i ≡ suc (length names - 1 - i) = omega arith in
          in_front (context types names) (type_of types a ∷ []) i (omega (arith, length-context names)) ∙ before l ∙ ap (λ j. Some (type_of types (get_or (a ∷ names) j d))) (sym place)
      go before (inr l) =
          let place : length (a ∷ names) - 1 - i ≡ 0 = omega arith in
          at_end (context types names) (type_of types a) i (omega (arith, length-context names)) ∙ ap (λ j. Some (type_of types (get_or (a ∷ names) j d))) (sym place)

  pub no_name_at : (names : List TypeId) (i : ℕ) → length names ≤ i → type_at (context types names) i ≡ None
  no_name_at names i h = past_end (context types names) i (omega (arith, length-context names))

  pub context_push : (names : List TypeId) (a : TypeId) → context types (names ++ a ∷ []) ≡ type_of types a ∷ context types names
  context_push [] a = refl
  context_push (b ∷ names) a = ap (λ G. G ++ type_of types b ∷ []) (context_push names a)
