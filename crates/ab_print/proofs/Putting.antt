-- What is put into a map of places.
use Rattle.std.proofs.Common.{◌≡◌, ℕ, List, [], Bool, true, false, Option, Some, None, refl, sym, ◌∙◌, ap}
use Rattle.std.specs.Prelude.{bytes_eq, if◌then◌else◌}
use Rattle.std.specs.Cmp.Lexicographic.{bytes_decides, nat_list_eq_equiv}
use Rattle.std.specs.HashMap.{HashMap, UpdatesBy}
use Rattle.std.specs.Map.{lookup, IsKeyTest, AreApart, KeepsOthers}
use Rattle.std.specs.declared.alloc.Global.{Global}
use Rattle.std.specs.declared.vec.Vec.{Vec}
use Rattle.ab_print.specs.Places.{places_in, places_at, IsPut}

abbrev same_bytes : Vec ℕ Global → Vec ℕ Global → Bool
same_bytes a b = bytes_eq a.items b.items

module _ {K : Type 0} (eq : K → K → Bool) (test : K → Bool) where
  other_entries : {X : Type 0} (old new : List (K × X)) → KeepsOthers eq test old new → (other : K → Bool) → IsKeyTest eq other → AreApart test other → lookup other new ≡ lookup other old
  unfolding KeepsOthers
  other_entries old new h = h

apart : (y x k : List ℕ) → bytes_eq x y ≡ false → bytes_eq y k ≡ true → bytes_eq x k ≡ false
apart y x k n e = nat_list_eq_equiv.symm x k ∙ sym (nat_list_eq_equiv.congr y k x e) ∙ nat_list_eq_equiv.symm y x ∙ n

module _ {S : Type 0} (old new : HashMap (Vec ℕ Global) (Vec ℕ Global) S) where
  put_at : (y : List ℕ) (w : Option (Vec ℕ Global)) → UpdatesBy same_bytes (λ k. bytes_eq y k.items) old new w → IsPut y (places_in w) old new
  put_at y w h x = go (bytes_eq x y) refl
    where
      go : (b : Bool) → bytes_eq x y ≡ b → places_at new x ≡ (if b then places_in w else places_at old x)
      go true e = ap (places_at new) ((bytes_decides x y).0 e) ∙ ap places_in h.1
      go false e = ap places_in (other_entries same_bytes (λ k. bytes_eq y k.items) old.entries new.entries h.3 (λ k. bytes_eq x k.items) (λ a b. nat_list_eq_equiv.congr x a.items b.items) (λ k. apart y x k.items e))

  pub put_is : (k v : Vec ℕ Global) (y ps : List ℕ) → UpdatesBy same_bytes (same_bytes k) old new (Some v) → k.items ≡ y → v.items ≡ ps → IsPut y ps old new
  put_is k v y ps h key is x = put_at k.items (Some v) h x ∙ ap (λ (z : List ℕ). if bytes_eq x z then v.items else places_at old x) key ∙ ap (λ (qs : List ℕ). if bytes_eq x y then qs else places_at old x) is

  pub taken_out : (y ps : List ℕ) → UpdatesBy same_bytes (λ k. bytes_eq y k.items) old new None → ps ≡ [] → IsPut y ps old new
  taken_out y ps h none x = put_at y None h x ∙ ap (λ (qs : List ℕ). if bytes_eq x y then qs else places_at old x) (sym none)

-- one put behind another of the same name
pub put_again : {S : Type 0} (old mid new : HashMap (Vec ℕ Global) (Vec ℕ Global) S) (y ps qs : List ℕ) → IsPut y ps old mid → IsPut y qs mid new → IsPut y qs old new
put_again old mid new y ps qs first second x = second x ∙ go (bytes_eq x y) refl
  where
    go : (b : Bool) → bytes_eq x y ≡ b → (if b then qs else places_at mid x) ≡ (if b then qs else places_at old x)
    go true e = refl
    go false e = first x ∙ ap (λ (b : Bool). if b then ps else places_at old x) e
