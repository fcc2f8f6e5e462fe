-- The names of the binders around a term, the innermost last.
use Rattle.std.proofs.Common.{◌≡◌, ℕ, zero, suc, ◌+◌, ◌-◌, ◌≤◌, ◌<◌, List, [], ◌∷◌, ◌++◌, length, get_or, drop, map, ◌||◌, Option, Some, None, refl, sym, ◌∙◌, ap, arith}
use Rattle.std.specs.Prelude.{reverse}
use Rattle.std.specs.List.{filter_map, cons_option}
use Rattle.std.proofs.lemmas.List.{length-map, length-reverse, get_or-reverse, reverse-append, map-append}
use Rattle.std.specs.declared.alloc.Global.{Global}
use Rattle.std.specs.declared.vec.Vec.{Vec}
use Rattle.ab_term.specs.Types.{Ty}
use Rattle.ab_store.specs.ab_types.specs.Entries.{Table}
use Rattle.ab_store.specs.Trees.{Contents}
use Rattle.ab_term.specs.Terms.{Head, index, Term, lam}
use Rattle.ab_print.specs.Shapes.{Shape, abstraction}
use Rattle.ab_print.specs.NameAssignment as plain
use Rattle.ab_print.specs.PrintedNames.{name_of, free_heads, is_in, fresh}
use Rattle.ab_print.specs.declared.drawings.Seen.{Seen}
use Rattle.ab_print.specs.Drawings.{from, all_from}
use Rattle.ab_print.specs.GoalText.{cell_name}
use Rattle.ab_print.specs.BinderNames.{names_in, name_of_some, name_from, is_this}

module _ (name : ℕ → List ℕ) where
  inside : (ns : List (List ℕ)) (i : ℕ) → i < length ns → name_of name ns (index i) ≡ Some (get_or ns i [])
  inside [] i h = absurd (omega arith)
  inside (n ∷ ns) zero h = refl
  inside (n ∷ ns) (suc i) h = inside ns i (omega arith)

  beyond : (ns : List (List ℕ)) (i : ℕ) → length ns ≤ i → name_of name ns (index i) ≡ None
  beyond [] i h = refl
  beyond (n ∷ ns) zero h = absurd (omega arith)
  beyond (n ∷ ns) (suc i) h = beyond ns i (omega arith)

pub map_at : {X Y : Type 0} (f : X → Y) (xs : List X) (k : ℕ) (d : X) (e : Y) → k < length xs → get_or (map f xs) k e ≡ f (get_or xs k d)
map_at f [] k d e h = absurd (omega arith)
map_at f (x ∷ xs) zero d e h = refl
map_at f (x ∷ xs) (suc k) d e h = map_at f xs k d e (omega arith)

pub size : (vs : List (Vec ℕ Global)) → length (names_in vs) ≡ length vs
size vs = length-reverse (map (λ v. v.items) vs) ∙ length-map vs (λ v. v.items)

pub bound_is : (name : ℕ → List ℕ) (vs : List (Vec ℕ Global)) (i : ℕ) (d : Vec ℕ Global) → i < length vs → name_of name (names_in vs) (index i) ≡ Some (get_or vs (length vs - 1 - i) d).items
bound_is name vs i d h =
    let n : length (map (λ v. v.items) vs) ≡ length vs = length-map vs (λ v. v.items) in
    let s : length (names_in vs) ≡ length vs = size vs in
    inside name (names_in vs) i (omega arith)
    ∙ ap Some (get_or-reverse (map (λ v. v.items) vs) i [] (omega arith) ∙ ap (λ (k : ℕ). get_or (map (λ v. v.items) vs) (k - 1 - i) []) n ∙ map_at (λ v. v.items) vs (length vs - 1 - i) d [] (omega arith))

pub none_bound : (name : ℕ → List ℕ) (vs : List (Vec ℕ Global)) (i : ℕ) → length vs ≤ i → name_of name (names_in vs) (index i) ≡ None
none_bound name vs i h = let s : length (names_in vs) ≡ length vs = size vs in beyond name (names_in vs) i (omega arith)

-- one binder more
pub names_more : (vs : List (Vec ℕ Global)) (v : Vec ℕ Global) → names_in (vs ++ v ∷ []) ≡ v.items ∷ names_in vs
names_more vs v = ap reverse (map-append (λ v. v.items) vs (v ∷ [])) ∙ reverse-append (map (λ v. v.items) vs) (v.items ∷ [])

pub by_option : (o : Option (List ℕ)) (ys : List (List ℕ)) (x : List ℕ) → is_in (cons_option o ys) x ≡ (is_this x o || is_in ys x)
by_option None ys x = refl
by_option (Some y) ys x = refl

pub drop_here : {X : Type 0} (xs : List X) (i : ℕ) (d : X) → i < length xs → drop i xs ≡ get_or xs i d ∷ drop (i + 1) xs
drop_here [] i d h = absurd (omega arith)
drop_here (x ∷ xs) zero d h = refl
drop_here (x ∷ xs) (suc i) d h = let more : suc i + 1 ≡ suc (i + 1) = omega arith in drop_here xs i d (omega arith) ∙ ap (λ (k : ℕ). get_or xs i d ∷ drop k (x ∷ xs)) (sym more)

-- what heads that were seen are called, where they stand outside further binders

module _ (types : Table) (store : Contents) where
  one_named : (ns : List (List ℕ)) (o : Option (Head ℕ)) (hs : List (Head ℕ)) → cons_option (name_of_some (cell_name store) ns o) (filter_map (name_of (cell_name store) ns) hs) ≡ filter_map (name_of (cell_name store) ns) (cons_option o hs)
  one_named ns None hs = refl
  one_named ns (Some h) hs = refl

  all_named : (ns : List (List ℕ)) (ss : List Seen) → filter_map (name_from types store ns) ss ≡ plain.names_in (cell_name store) ns (all_from types store (length ns) ss)
  all_named ns [] = refl
  all_named ns (s ∷ ss) =
      ap (λ (w : List (List ℕ)). cons_option (name_from types store ns s) w) (all_named ns ss)
      ∙ one_named ns (from types store (length ns) s) (all_from types store (length ns) ss)

  -- a name that is chosen by its hint and the names of what was seen
  pub chosen_is : (vs : List (Vec ℕ Global)) (A : Ty) (x : List ℕ) (t : Term ℕ (List ℕ)) (ss : List Seen) (chosen : List ℕ) → chosen ≡ fresh (filter_map (name_from types store (names_in vs)) ss) x
      → all_from types store (length vs) ss ≡ free_heads (lam A x t) → chosen ≡ plain.bound_name (cell_name store) (names_in vs) x t
  chosen_is vs A x t ss chosen is same =
      let all : filter_map (name_from types store (names_in vs)) ss ≡ plain.names_in (cell_name store) (names_in vs) (free_heads (lam A x t)) =
      all_named (names_in vs) ss ∙ ap (λ (n : ℕ). plain.names_in (cell_name store) (names_in vs) (all_from types store n ss)) (size vs) ∙ ap (plain.names_in (cell_name store) (names_in vs)) same in
      is ∙ ap (λ (used : List (List ℕ)). fresh used x) all

-- an abstraction, its body named under one binder more
pub lam_named : (name : ℕ → List ℕ) (vs : List (Vec ℕ Global)) (v : Vec ℕ Global) (A : Ty) (x : List ℕ) (t : Term ℕ (List ℕ)) (chosen : List ℕ) (s : Shape)
    → chosen ≡ plain.bound_name name (names_in vs) x t → v.items ≡ chosen → s ≡ plain.named name (names_in (vs ++ v ∷ [])) t → abstraction chosen s ≡ plain.named name (names_in vs) (lam A x t)
lam_named name vs v A x t chosen s is copied body =
    let more : names_in (vs ++ v ∷ []) ≡ plain.bound_name name (names_in vs) x t ∷ names_in vs = names_more vs v ∙ ap (λ (w : List ℕ). w ∷ names_in vs) (copied ∙ is) in
    ap (λ (w : List ℕ). abstraction w s) is
    ∙ ap (λ (w : Shape). abstraction (plain.bound_name name (names_in vs) x t) w) (body ∙ ap (λ (w : List (List ℕ)). plain.named name w t) more)
