-- The places of clauses of the program, by their heads: one more at the end, and one less.
use Rattle.std.specs.HashMap.{HashMap, get}
use Rattle.std.specs.declared.alloc.Global.{Global}
use Rattle.std.specs.declared.vec.Vec.{Vec}
use Rattle.std.proofs.Common.{◌≡◌, ℕ, suc, ◌+◌, ◌-◌, Bool, true, false, cond, if◌then◌else◌, Option, Some, List, [], ◌∷◌, ◌++◌, length, take, refl, sym, ◌∙◌, ap, arith, length-append, append-nil}
use Rattle.std.proofs.Math.Seq.{take-append_seam}
use Rattle.std.proofs.lemmas.Bool.Decides.{Decides-eqb}
use Rattle.ab_store.specs.ab_types.specs.declared.ids.ConstId.{ConstId}
use Rattle.ab_logic.specs.Additions.{same_constant, head_place, head_places, clause_places, places_noted, noted, without_last}
use Rattle.ab_logic.specs.declared.additions.Added.{Added}
use Rattle.ab_logic.specs.declared.additions.Addition.{Addition}
use Rattle.ab_logic.specs.declared.additions.Addition.TheVariants.{Theorem, Definition, Clause}

in_front : (what : Addition) (p : ConstId) (n : ℕ) (is js : List ℕ) → head_place what p n (is ++ js) ≡ head_place what p n is ++ js
in_front (Theorem e) p n is js = refl
in_front (Definition b) p n is js = refl
in_front (Clause c h) p n is js = go (same_constant h p)
  where
    go : (t : Bool) → (if t then (n ∷ (is ++ js)) else (is ++ js)) ≡ (if t then (n ∷ is) else is) ++ js
    go true = refl
    go false = refl

places_end : (n : ℕ) (xs : List Added) (a : Added) (p : ConstId) → head_places n (xs ++ a ∷ []) p ≡ head_places n xs p ++ head_place a.what p (n + length xs) []
places_end n [] a p = ap (λ k. head_place a.what p k []) (let same : n ≡ n + 0 = omega arith in same)
places_end n (b ∷ xs) a p =
    ap (head_place b.what p n) (places_end (suc n) xs a p ∙ ap (λ k. head_places (suc n) xs p ++ head_place a.what p k []) (let same : suc n + length xs ≡ n + suc (length xs) = omega arith in same))
    ∙ in_front b.what p n (head_places (suc n) xs p) (head_place a.what p (n + suc (length xs)) [])

pub one_more : (xs : List Added) (a : Added) (p : ConstId) → clause_places (xs ++ a ∷ []) p ≡ clause_places xs p ++ head_place a.what p (length xs) []
one_more xs a p = places_end 0 xs a p ∙ ap (λ k. clause_places xs p ++ head_place a.what p k []) (let same : 0 + length xs ≡ length xs = omega arith in same)

last_off : (is : List ℕ) (i : ℕ) → without_last (is ++ i ∷ []) ≡ is
last_off is i =
    let all = length-append is (i ∷ []) in
    ap (λ k. take k (is ++ i ∷ [])) (let less : length (is ++ i ∷ []) - 1 ≡ length is = omega (arith, all) in less) ∙ take-append_seam is (i ∷ [])

-- the last place of one head is gone, and other heads have what they had
pub one_less : (t : Bool) (is old new : List ℕ) (i : ℕ) → old ≡ is ++ (if t then (i ∷ []) else []) → new ≡ (if t then (without_last old) else old) → new ≡ is
one_less true is old new i e less = less ∙ ap without_last e ∙ last_off is i
one_less false is old new i e same = same ∙ e ∙ append-nil is

-- THE PLACES THAT ARE NOTED, once more stand at one head

value_on : (t : Bool) (old new : Option (Vec ℕ Global)) (w : Vec ℕ Global) (is js : List ℕ) → new ≡ cond t (Some w) old → (t ≡ true → places_noted old ≡ is) → w.items ≡ is ++ js
    → places_noted new ≡ places_noted old ++ (if t then js else [])
value_on true old new w is js put had put_on = ap places_noted put ∙ put_on ∙ ap (λ ks. ks ++ js) (sym (had refl))
value_on false old new w is js same had put_on = ap places_noted same ∙ sym (append-nil (places_noted old))

module _ {S : Type 0} (old new : HashMap ConstId (Vec ℕ Global) S) (h : ConstId) (w : Vec ℕ Global) (put : (p : ConstId) → get same_constant new p ≡ cond (same_constant h p) (Some w) (get same_constant old p)) where
  pub noted_on : (o : Option (Vec ℕ Global)) (js : List ℕ) → get same_constant old h ≡ o → w.items ≡ places_noted o ++ js → (p : ConstId) → noted new p ≡ noted old p ++ (if same_constant h p then js else [])
  noted_on o js was is p =
      value_on (same_constant h p) (get same_constant old p) (get same_constant new p) w (places_noted o) js (put p)
      (λ t. ap (λ n. noted old (record { 0 = n })) (sym ((Decides-eqb h.0 p.0).0 t)) ∙ ap places_noted was) is

  pub noted_same : (o : Option (Vec ℕ Global)) → get same_constant old h ≡ o → w.items ≡ places_noted o → (p : ConstId) → noted new p ≡ noted old p
  noted_same o was is p = noted_on o [] was (is ∙ sym (append-nil (places_noted o))) p ∙ ap (λ js. noted old p ++ js) (none (same_constant h p)) ∙ append-nil (noted old p)
    where
      none : (t : Bool) → (if◌then◌else◌ {A = List ℕ} t [] []) ≡ []
      none true = refl
      none false = refl
