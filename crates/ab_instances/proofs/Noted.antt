-- Constants that are put in order one by one.
use Rattle.std.proofs.Common.{◌≡◌, ◌⊎◌, inl, inr, ℕ, zero, suc, ◌+◌, ◌-◌, ◌<◌, ◌≤◌, List, [], ◌∷◌, ◌++◌, map, take, drop, length, get_or, Bool, true, false, cond, nat_lt, refl, sym, ◌∙◌, ap, subst, arith}
use Rattle.std.specs.Prelude.{Contains}
use Rattle.std.specs.List.{insert}
use Rattle.std.proofs.lemmas.Bool.Decides.{Decides-eqb}
use Rattle.std.proofs.lemmas.List.{drop_more}
use Rattle.ab_term.specs.Terms.{Nominal, terms_of}
use Rattle.ab_term.specs.Names.{support, support_of_head, support_of_all}
use Rattle.ab_term.proofs.Lists.{Contains-none, Contains-here, Contains-there, Contains-cases}
use Rattle.ab_norm.specs.ab_types.specs.Entries.{Table}
use Rattle.ab_norm.specs.ab_store.specs.declared.node.TermId.{TermId}
use Rattle.ab_norm.specs.ab_store.specs.declared.node.Head.{Head}
use Rattle.ab_norm.specs.ab_store.specs.declared.node.Node.{Node}
use Rattle.ab_norm.specs.ab_store.specs.declared.node.Node.TheVariants.{Spine}
use Rattle.ab_norm.specs.ab_store.specs.Trees.{Contents, tree_of, head_reading, node_tree}
use Rattle.ab_norm.specs.declared.nominal.Nominal.{Nominal as AName}
use Rattle.ab_norm.specs.Nominals.{nominal_of}
use Rattle.ab_unifiers.specs.Choices.{is_in, placed, in_order}
use Rattle.ab_unifiers.proofs.Choosing.{in_contains, contains_in, ordered_contains, contains_ordered}
use Rattle.ab_instances.specs.declared.constants.Seen.{Seen}
use Rattle.ab_instances.specs.ListReadings.{names_read}
use Rattle.ab_instances.specs.ConstantOrder.{noted, all_noted, same_term, has_been, AreNoted}

bools_same : (p q : Bool) → (p ≡ true → q ≡ true) → (q ≡ true → p ≡ true) → p ≡ q
bools_same true true f g = refl
bools_same false false f g = refl
bools_same true false f g = sym (f refl)
bools_same false true f g = g refl

pub all_noted-append : (xs ys f : List Nominal) → all_noted (xs ++ ys) f ≡ all_noted xs (all_noted ys f)
all_noted-append [] ys f = refl
all_noted-append (a ∷ xs) ys f = ap (noted a) (all_noted-append xs ys f)

-- put in order from nothing
pub noted_order : (xs : List Nominal) → all_noted xs [] ≡ in_order xs
noted_order [] = refl
noted_order (a ∷ xs) =
    ap (noted a) (noted_order xs)
    ∙ ap (λ b. cond b (in_order xs) (placed a (in_order xs)))
    (bools_same (is_in (in_order xs) a) (is_in xs a)
    (λ e. contains_in xs a (contains_ordered xs a (in_contains (in_order xs) a e)))
    (λ e. contains_in (in_order xs) a (ordered_contains xs a (in_contains xs a e))))

placed_here : (a : Nominal) (f : List Nominal) → Contains (placed a f) a
placed_here a [] = Contains-here a []
placed_here a (b ∷ f) = go (nat_lt a.number b.number) (placed_here a f)
  where
    go : (k : Bool) → Contains (placed a f) a → Contains (cond k (a ∷ b ∷ f) (b ∷ placed a f)) a
    go true rest = Contains-here a (b ∷ f)
    go false rest = Contains-there b (placed a f) a rest

placed_there : (a c : Nominal) (f : List Nominal) → Contains f c → Contains (placed a f) c
placed_there a c [] m = absurd (Contains-none c m)
placed_there a c (b ∷ f) m = go (nat_lt a.number b.number) (placed_there a c f) (Contains-cases b f c m)
  where
    go : (k : Bool) → (Contains f c → Contains (placed a f) c) → (b ≡ c) ⊎ Contains f c → Contains (cond k (a ∷ b ∷ f) (b ∷ placed a f)) c
    go true later r = Contains-there a (b ∷ f) c m
    go false later (inl e) = subst (Contains (b ∷ placed a f)) e (Contains-here b (placed a f))
    go false later (inr r) = Contains-there b (placed a f) c (later r)

noted_here : (a : Nominal) (f : List Nominal) → Contains (noted a f) a
noted_here a f = go (is_in f a) refl
  where
    go : (k : Bool) → is_in f a ≡ k → Contains (cond k f (placed a f)) a
    go true e = in_contains f a e
    go false e = placed_here a f

noted_there : (a c : Nominal) (f : List Nominal) → Contains f c → Contains (noted a f) c
noted_there a c f m = go (is_in f a)
  where
    go : (k : Bool) → Contains (cond k f (placed a f)) c
    go true = m
    go false = placed_there a c f m

-- what was there is there
pub still_noted : (xs f : List Nominal) (c : Nominal) → Contains f c → Contains (all_noted xs f) c
still_noted [] f c m = m
still_noted (a ∷ xs) f c m = noted_there a c (all_noted xs f) (still_noted xs f c m)

-- and what was put in
pub now_noted : (xs f : List Nominal) (c : Nominal) → Contains xs c → Contains (all_noted xs f) c
now_noted [] f c m = absurd (Contains-none c m)
now_noted (a ∷ xs) f c m = go (now_noted xs f c) (Contains-cases a xs c m)
  where
    go : (Contains xs c → Contains (all_noted xs f) c) → (a ≡ c) ⊎ Contains xs c → Contains (noted a (all_noted xs f)) c
    go later (inl e) = subst (Contains (noted a (all_noted xs f))) e (noted_here a (all_noted xs f))
    go later (inr r) = noted_there a c (all_noted xs f) (later r)

-- those that are there make no difference
pub noted_known : (xs f : List Nominal) → ((a : Nominal) → Contains xs a → is_in f a ≡ true) → all_noted xs f ≡ f
noted_known [] f all = refl
noted_known (a ∷ xs) f all =
    ap (noted a) (noted_known xs f (λ b m. all b (Contains-there a xs b m)))
    ∙ ap (λ b. cond b f (placed a f)) (all a (Contains-here a xs))

-- the place by number
placed_read : (types : Table) (f : List AName) (p : ℕ) (a d : AName) → p ≤ length f → ((k : ℕ) → k < p → nat_lt a.number (get_or f k d).number ≡ false) → (p < length f → nat_lt a.number (get_or f p d).number ≡ true)
    → names_read types (take p f ++ a ∷ drop p f) ≡ placed (nominal_of types a) (names_read types f)
placed_read types [] zero a d l before after = refl
placed_read types [] (suc p) a d l before after = absurd (omega (arith, l))
placed_read types (b ∷ f) zero a d l before after = ap (λ k. cond k (nominal_of types a ∷ nominal_of types b ∷ names_read types f) (nominal_of types b ∷ placed (nominal_of types a) (names_read types f))) (sym (after (omega arith)))
placed_read types (b ∷ f) (suc p) a d l before after =
    ap (λ r. nominal_of types b ∷ r) (placed_read types f p a d (let k : p ≤ length f = omega (arith, l) in k) (λ k h. before (suc k) (omega (arith, h))) (λ h. after (omega (arith, h))))
    ∙ ap (λ k. cond k (nominal_of types a ∷ nominal_of types b ∷ names_read types f) (nominal_of types b ∷ placed (nominal_of types a) (names_read types f))) (sym (before zero (omega arith)))

pub inserted_read : (types : Table) (f new : List AName) (p : ℕ) (a d : AName) → is_in (names_read types f) (nominal_of types a) ≡ false → p ≤ length f → ((k : ℕ) → k < p → nat_lt a.number (get_or f k d).number ≡ false) → (p < length f → nat_lt a.number (get_or f p d).number ≡ true)
    → new ≡ insert f p a → names_read types new ≡ all_noted (nominal_of types a ∷ []) (names_read types f)
inserted_read types f new p a d out l before after e =
    ap (names_read types) e
    ∙ placed_read types f p a d l before after
    ∙ ap (λ k. cond k (names_read types f) (placed (nominal_of types a) (names_read types f))) (sym out)

-- a head and what it is given, the last first
pub noted_spine : (types : Table) (s : Contents) (t : TermId) (n : Node) (h : Head) (args given : List TermId) (f f1 f2 : List Nominal)
    → tree_of types s t ≡ node_tree types s n → n ≡ Spine h args → given ≡ args
    → f1 ≡ all_noted (support_of_all (terms_of (map (tree_of types s) given))) f → f2 ≡ all_noted (support_of_head (head_reading types s h)) f1 → f2 ≡ all_noted (support (tree_of types s t)) f
noted_spine types s t n h args given f f1 f2 reads is same a b =
    b
    ∙ ap (all_noted (support_of_head (head_reading types s h))) (a ∙ ap (λ l. all_noted (support_of_all (terms_of (map (tree_of types s) l))) f) same)
    ∙ sym (all_noted-append (support_of_head (head_reading types s h)) (support_of_all (terms_of (map (tree_of types s) args))) f)
    ∙ ap (λ r. all_noted (support r) f) (sym (reads ∙ ap (node_tree types s) is))

-- one term more, before those that are done
pub noted_more : (types : Table) (s : Contents) (ids : List TermId) (done : ℕ) (d : TermId) (f f1 f2 : List Nominal) → done < length ids
    → f1 ≡ all_noted (support_of_all (terms_of (map (tree_of types s) (drop (length ids - done) ids)))) f
    → f2 ≡ all_noted (support (tree_of types s (get_or ids (length ids - 1 - done) d))) f1
    → f2 ≡ all_noted (support_of_all (terms_of (map (tree_of types s) (drop (length ids - (done + 1)) ids)))) f
noted_more types s ids done d f f1 f2 l before now =
    let n : ℕ = length ids - 1 - done in
    let within : n < length ids = omega (arith, l) in
    let next : n + 1 ≡ length ids - done = omega (arith, l) in
    let here : n ≡ length ids - (done + 1) = omega (arith, l) in
    now
    ∙ ap (all_noted (support (tree_of types s (get_or ids n d)))) (before ∙ ap (λ k. all_noted (support_of_all (terms_of (map (tree_of types s) (drop k ids)))) f) (sym next))
    ∙ sym (all_noted-append (support (tree_of types s (get_or ids n d))) (support_of_all (terms_of (map (tree_of types s) (drop (n + 1) ids)))) f)
    ∙ ap (λ l. all_noted (support_of_all (terms_of (map (tree_of types s) l))) f) (sym (drop_more ids n d within) ∙ ap (λ k. drop k ids) here)

pub term_kept_or_new : (a t : TermId) (old new : Bool) → new ≡ cond (same_term a t) true old → (new ≡ old) ⊎ (t ≡ a)
term_kept_or_new a t old new e = go (same_term a t) refl e
  where
    go : (k : Bool) → same_term a t ≡ k → new ≡ cond k true old → (new ≡ old) ⊎ (t ≡ a)
    go true s e = inr (ap (λ (i : ℕ). record { 0 = i }) (sym ((Decides-eqb a.0 t.0).0 s)))
    go false s e = inl e

pub are_noted_on : (types : Table) (s : Contents) (xs f g : List Nominal) (seen : Seen) → g ≡ all_noted xs f → AreNoted types s f seen → AreNoted types s g seen
are_noted_on types s xs f g seen e all t h a m = subst (λ l. is_in l a ≡ true) (sym e) (contains_in (all_noted xs f) a (still_noted xs f a (in_contains f a (all t h a m))))

pub are_noted_more : (types : Table) (s : Contents) (f g : List Nominal) (old new : Seen) (id : TermId) → g ≡ all_noted (support (tree_of types s id)) f → AreNoted types s g old
    → ((t : TermId) → (has_been new t ≡ has_been old t) ⊎ (t ≡ id)) → AreNoted types s g new
are_noted_more types s f g old new id e all keeps t h a m = go (keeps t)
  where
    go : (has_been new t ≡ has_been old t) ⊎ (t ≡ id) → is_in g a ≡ true
    go (inl same) = all t (sym same ∙ h) a m
    go (inr one) = subst (λ l. is_in l a ≡ true) (sym e) (contains_in (all_noted (support (tree_of types s id)) f) a (now_noted (support (tree_of types s id)) f a (subst (λ i. Contains (support (tree_of types s i)) a) one m)))
