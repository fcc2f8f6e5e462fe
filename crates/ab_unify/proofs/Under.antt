-- Names under one more binder.
use Rattle.std.proofs.Common.{◌≡◌, ℕ, zero, suc, ◌+◌, ◌<◌, List, [], ◌∷◌, ◌++◌, map, take, length, get_or, refl, sym, ◌∙◌, ap, subst, arith}
use Rattle.std.proofs.lemmas.List.{map-append}
use Rattle.std.proofs.lemmas.List.Elements.{All-push, All-get_or}
use Rattle.ab_term.specs.Terms as tree
use Rattle.ab_term.specs.Terms.{index}
use Rattle.ab_term.specs.Substitution.{shift_head}
use Rattle.ab_term.specs.Abstraction.{is_name}
use Rattle.ab_norm.specs.ab_types.specs.Entries.{Table}
use Rattle.ab_norm.specs.ab_store.specs.declared.node.Head.{Head}
use Rattle.ab_norm.specs.ab_store.specs.Trees.{Contents, head_reading}
use Rattle.ab_norm.specs.ab_store.specs.Naming.{HeadIsTyped}
use Rattle.ab_unify.specs.StoreChanges.{IsName, AreNames}
use Rattle.ab_unify.proofs.Pruned.{is_name_read, is_name_then}

pub take_next : {X : Type 0} (xs : List X) (i : ℕ) (d : X) → i < length xs → take (suc i) xs ≡ take i xs ++ get_or xs i d ∷ []
take_next [] i d l = absurd (omega (arith, l))
take_next (x ∷ xs) zero d l = refl
take_next (x ∷ xs) (suc i) d l = ap (λ l. x ∷ l) (take_next xs i d (omega (arith, l)))

pub take_one_more : {X : Type 0} (xs : List X) (i : ℕ) (d : X) → i < length xs → take (i + 1) xs ≡ take i xs ++ get_or xs i d ∷ []
take_one_more xs i d l = (let e : i + 1 ≡ suc i = omega arith in ap (λ n. take n xs) e) ∙ take_next xs i d l

pub under_next : (types : Table) (store : Contents) (names inner more : List Head) (name : Head) (i : ℕ) (d : Head) → i < length names
    → map (head_reading types store) inner ≡ index zero ∷ map (shift_head zero) (map (head_reading types store) (take i names))
    → more ≡ inner ++ name ∷ [] → head_reading types store name ≡ shift_head zero (head_reading types store (get_or names i d))
    → map (head_reading types store) more ≡ index zero ∷ map (shift_head zero) (map (head_reading types store) (take (i + 1) names))
under_next types store names inner more name i d low so_far is shifted =
    let read = head_reading types store in
    ap (map read) is
    ∙ map-append read inner (name ∷ [])
    ∙ ap (λ l. l ++ read name ∷ []) so_far
    ∙ ap (λ h. index zero ∷ (map (shift_head zero) (map read (take i names)) ++ h ∷ [])) shifted
    ∙ sym (ap (λ l. index zero ∷ map (shift_head zero) (map read l)) (take_one_more names i d low)
    ∙ ap (λ l. index zero ∷ map (shift_head zero) l) (map-append read (take i names) (get_or names i d ∷ []))
    ∙ ap (λ l. index zero ∷ l) (map-append (shift_head zero) (map read (take i names)) (read (get_or names i d) ∷ [])))

still_name : (g : tree.Head ℕ) → is_name (shift_head zero g) ≡ is_name g
still_name (tree.constant c) = refl
still_name (tree.logical l) = refl
still_name (tree.nominal a) = refl
still_name (tree.variable y) = refl
still_name (tree.index i) = refl

abbrev nothing : Contents
nothing = record { nodes = []; cells = []; bindings = []; room = 0 }

pub under_names : (types : Table) (names inner more : List Head) (name : Head) (i : ℕ) (d : Head) → i < length names → AreNames types names → AreNames types inner
    → more ≡ inner ++ name ∷ [] → (HeadIsTyped types (get_or names i d) → HeadIsTyped types name) → ((store : Contents) → head_reading types store name ≡ shift_head zero (head_reading types store (get_or names i d))) → AreNames types more
under_names types names inner more name i d low all so_far is typed shifted =
    let here = All-get_or (λ h. HeadIsTyped types h × IsName h) names i d low all in
    subst (AreNames types) (sym is) (All-push (λ h. HeadIsTyped types h × IsName h) inner name so_far
    (typed here.0, is_name_then types nothing name (ap is_name (shifted nothing) ∙ still_name (head_reading types nothing (get_or names i d)) ∙ is_name_read types nothing (get_or names i d) here.1)))
