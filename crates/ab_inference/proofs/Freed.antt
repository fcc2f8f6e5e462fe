-- Types that were found to be free of `prop`, and one more.
use Rattle.std.proofs.Common.{◌≡◌, ◌⊎◌, inl, inr, ℕ, ◌+◌, ◌<◌, ◌≤◌, arith, Bool, true, cond, refl, sym, ap, ◌∙◌, subst}
use Rattle.std.specs.Prelude.{false}
use Rattle.std.proofs.lemmas.Bool.{cases_lt}
use Rattle.std.proofs.lemmas.Bool.Decides.{Decides-eqb}
use Rattle.ab_store.specs.ab_types.specs.Entries.{Table}
use Rattle.ab_store.specs.ab_types.specs.Ids.{type_of}
use Rattle.ab_store.specs.ab_types.specs.declared.ids.TypeId.{TypeId}
use Rattle.ab_meaning.specs.Types.{PropFree}
use Rattle.ab_inference.specs.declared.prop_free.Free.{Free}
use Rattle.ab_inference.specs.Freedom.{same_id, is_kept, AreFree}

pub kept_or_new : (a t : TypeId) (old new : Bool) → new ≡ cond (same_id a t) true old → (new ≡ old) ⊎ (t ≡ a)
kept_or_new a t old new e = go (same_id a t) refl e
  where
    go : (k : Bool) → same_id a t ≡ k → new ≡ cond k true old → (new ≡ old) ⊎ (t ≡ a)
    go true s e = inr (ap (λ (i : ℕ). record { 0 = i }) (sym ((Decides-eqb a.0 t.0).0 s)))
    go false s e = inl e

pub free_more : (types : Table) (old new : Free) (a : TypeId) → AreFree types old → ((t : TypeId) → (is_kept new t ≡ is_kept old t) ⊎ (t ≡ a)) → PropFree (type_of types a) → AreFree types new
free_more types old new a all one is t h = go (one t)
  where
    go : (is_kept new t ≡ is_kept old t) ⊎ (t ≡ a) → PropFree (type_of types t)
    go (inl e) = all t (sym e ∙ h)
    go (inr e) = subst (λ u. PropFree (type_of types u)) (sym e) is

pub one_more : (P : ℕ → Type 0) (n : ℕ) → ((i : ℕ) → i < n → P i) → P n → (i : ℕ) → i < n + 1 → P i
one_more P n before last i l = go (cases_lt i n)
  where
    go : (i < n) ⊎ (n ≤ i) → P i
    go (inl h) = before i h
    go (inr h) = let e : i ≡ n = omega (arith, l, h) in subst P (sym e) last
